use Rattle.std.proofs.Common.{◌+◌, drop, get_or, refl, sym, ap, ◌∙◌}
use Rattle.sw_trees.specs.declared.tree.Tree.{Tree}
use Rattle.sw_text.specs.Names.{faults, binders_faults}
use Rattle.sw_text.specs.Resolving.{around, all_faults}
use Rattle.sw_trees.proofs.Answering.{if_ok}
use Rattle.sw_text.proofs.Breaking.{begins_front, begins_back}
use Rattle.sw_text.proofs.Folding.{finds_in, faults_Atom, read_Atom, faults_Equal, read_Equal, faults_Implies, faults_Iff, all_faults_more, all_read_more}
use Rattle.sw_text.proofs.names.Names.+formulas.Goals as goal

pub body-returns-in-Some : goal.body-returns-in-Some
body-returns-in-Some t c =
    let a = around c.args.self.now in
    let scope = c.args.scope.now.items in
    let bind = rw c.in-Some.is at c.in_ok-violation.ensures in
    begins_front _ (binders_faults a scope c.args.binders.now) (faults a c.args.tree.now _) c.in-Some.violation refl bind

pub formula-returns-in-Atom : goal.formula-returns-in-Atom
formula-returns-in-Atom t c =
    let a = around c.args.self.now in
    let scope = c.args.scope.now.items in
    let found = rw c.as_slice.ensures.value at c.atom.ensures in
    rw (c.in-Atom.is, faults_Atom a scope c.in-Atom.term, read_Atom a scope c.in-Atom.term) (if_ok _ _ c.atom.result found (λ r h. finds_in _ _ scope r h))

pub formula-returns-in-Equal : goal.formula-returns-in-Equal
formula-returns-in-Equal t c =
    let a = around c.args.self.now in
    let scope = c.args.scope.now.items in
    let found = rw c.as_slice-in-Equal.ensures.value at c.equal.ensures in
    rw (c.in-Equal.is, faults_Equal a scope c.in-Equal.left c.in-Equal.right, read_Equal a scope c.in-Equal.left c.in-Equal.right) (if_ok _ _ c.equal.result found (λ r h. finds_in _ _ scope r h))

pub formula-returns-in-Broken-4 : goal.formula-returns-in-Broken-4
formula-returns-in-Broken-4 t c =
    let a = around c.args.self.now in
    let scope = c.args.scope.now.items in
    let first = rw (c.in-Broken-4.is, c.get-in-Implies.ensures) at c.in_ok-first-in-Implies.ensures in
    begins_front _ (faults a c.in-Implies.left scope) (faults a c.in-Implies.right scope) c.in-Broken-4.violation
    (ap (λ (x : Tree). faults a x scope) c.in-Implies.is ∙ faults_Implies a scope c.in-Implies.left c.in-Implies.right) first

pub formula-returns-in-Broken-6 : goal.formula-returns-in-Broken-6
formula-returns-in-Broken-6 t c =
    let a = around c.args.self.now in
    let scope = c.args.scope.now.items in
    let first = rw (c.in-Broken-6.is, c.get-in-Iff.ensures) at c.in_ok-first-in-Iff.ensures in
    begins_front _ (faults a c.in-Iff.left scope) (faults a c.in-Iff.right scope) c.in-Broken-6.violation
    (ap (λ (x : Tree). faults a x scope) c.in-Iff.is ∙ faults_Iff a scope c.in-Iff.left c.in-Iff.right) first

pub formula-returns-in-Broken-5 : goal.formula-returns-in-Broken-5
formula-returns-in-Broken-5 t c =
    let a = around c.args.self.now in
    let scope = c.args.scope.now.items in
    let first = rw (c.in-Found-4.is, c.get-in-Implies.ensures) at c.in_ok-first-in-Implies.ensures in
    let second = rw (c.in-Broken-5.is, c.get-in-Implies-2.ensures, first.2) at c.in_ok-second-in-Implies.ensures in
    begins_back _ (faults a c.in-Implies.left scope) (faults a c.in-Implies.right scope) c.in-Broken-5.violation
    (ap (λ (x : Tree). faults a x scope) c.in-Implies.is ∙ faults_Implies a scope c.in-Implies.left c.in-Implies.right) first.0 second

pub formula-returns-in-Broken-7 : goal.formula-returns-in-Broken-7
formula-returns-in-Broken-7 t c =
    let a = around c.args.self.now in
    let scope = c.args.scope.now.items in
    let first = rw (c.in-Found-6.is, c.get-in-Iff.ensures) at c.in_ok-first-in-Iff.ensures in
    let second = rw (c.in-Broken-7.is, c.get-in-Iff-2.ensures, first.2) at c.in_ok-second-in-Iff.ensures in
    begins_back _ (faults a c.in-Iff.left scope) (faults a c.in-Iff.right scope) c.in-Broken-7.violation
    (ap (λ (x : Tree). faults a x scope) c.in-Iff.is ∙ faults_Iff a scope c.in-Iff.left c.in-Iff.right) first.0 second

pub formulas-returns-in-Broken : goal.formulas-returns-in-Broken
formulas-returns-in-Broken t c =
    let a = around c.args.self.now in
    let scope = c.args.scope.now.items in
    let item = get_or c.args.trees.now c.loop-tree.tree-index c.tree-item.result in
    let found = rw (c.in-Broken.is, c.loop-tree.invariant.scope) at c.in_ok-part.ensures in
    begins_front _ (faults a item scope) (all_faults a (drop (c.loop-tree.tree-index + 1) c.args.trees.now) scope) c.in-Broken.violation
    (c.loop-tree.invariant.faults ∙ all_faults_more a scope c.args.trees.now c.loop-tree.tree-index c.tree-item.result c.loop-tree-test.true)
    (found.0, ap (λ (x : Tree). faults a x scope) (sym c.tree-item.is) ∙ found.1)

pub formulas-loop-tree-preserved : goal.formulas-loop-tree-preserved
formulas-loop-tree-preserved t c =
    let a = around c.args.self.now in
    let scope = c.args.scope.now.items in
    let found = rw (c.in-Found.is, c.loop-tree.invariant.scope) at c.in_ok-part.ensures in
    record {
      faults = c.loop-tree.invariant.faults
          ∙ all_faults_more a scope c.args.trees.now c.loop-tree.tree-index c.tree-item.result c.loop-tree-test.true
          ∙ rw (sym c.tree-item.is, found.0) refl;
      read = c.in_ok-push-in-Found.ensures.ok
          ∙ rw (c.loop-tree.invariant.read, found.1) (sym (all_read_more a scope c.args.trees.now c.loop-tree.tree-index c.tree-item.result c.loop-tree-test.true ∙ rw (sym c.tree-item.is) refl));
      scope = found.2;
    }
