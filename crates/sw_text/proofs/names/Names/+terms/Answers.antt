use Rattle.std.proofs.Common.{ℕ, ◌+◌, List, length, map, drop, get_or, refl, sym, ap, ◌∙◌}
use Rattle.std.proofs.lemmas.List.{length-map}
use Rattle.sw_trees.specs.declared.tree.TermTree.{TermTree}
use Rattle.sw_text.specs.declared.names.Violation.{Violation}
use Rattle.sw_text.specs.Names.{head_faults, args_faults, head_sorts, head_of, term_faults, next_wanted}
use Rattle.sw_text.specs.Resolving.{around}
use Rattle.sw_text.proofs.Breaking.{begins_front, args_faults_more, terms_read_more}
use Rattle.sw_text.proofs.names.Names.+terms.Goals as goal

pub applied-returns-in-Broken : goal.applied-returns-in-Broken
applied-returns-in-Broken t c =
    let a = around c.args.self.now in
    let head = rw c.in-Broken.is at c.in_ok-head.ensures in
    let found = map (term_faults a c.args.scope.now) c.args.args.now in
    let front : ℕ → List Violation = λ n. head_faults a c.args.scope.now c.args.word c.args.primed n c.args.wanted in
    begins_front _ (front (length found)) (args_faults found (head_sorts a (head_of a c.args.scope.now c.args.word))) c.in-Broken.violation refl
    (head.0, ap front (length-map c.args.args.now (term_faults a c.args.scope.now)) ∙ head.1)

pub terms-returns-in-Broken : goal.terms-returns-in-Broken
terms-returns-in-Broken t c =
    let a = around c.args.self.now in
    let scope = c.args.scope.now in
    let found = rw (c.in-Broken.is, c.wanted_at.ensures) at c.in_ok-term.ensures in
    let next = next_wanted (drop c.loop-i.i c.args.sorts.now) in
    begins_front _ (term_faults a scope (get_or c.args.trees.now c.loop-i.i c.index-trees-i.result) next)
    (args_faults (map (term_faults a scope) (drop (c.loop-i.i + 1) c.args.trees.now)) (drop (c.loop-i.i + 1) c.args.sorts.now)) c.in-Broken.violation
    (c.loop-i.invariant.faults ∙ args_faults_more a scope c.args.trees.now c.args.sorts.now c.loop-i.i c.index-trees-i.result c.loop-i-test.true)
    (found.0, ap (λ (x : TermTree). term_faults a scope x next) (sym c.index-trees-i.is) ∙ found.1)

pub terms-loop-i-preserved : goal.terms-loop-i-preserved
terms-loop-i-preserved t c =
    let a = around c.args.self.now in
    let found = rw (c.in-Found.is, c.wanted_at.ensures) at c.in_ok-term.ensures in
    record {
      faults = c.loop-i.invariant.faults
          ∙ args_faults_more a c.args.scope.now c.args.trees.now c.args.sorts.now c.loop-i.i c.index-trees-i.result c.loop-i-test.true
          ∙ rw (sym c.index-trees-i.is, found.0) refl;
      read = c.in_ok-push-in-Found.ensures.ok
          ∙ rw (c.loop-i.invariant.read, found.1) (sym (terms_read_more a c.args.scope.now c.args.trees.now c.loop-i.i c.index-trees-i.result c.loop-i-test.true ∙ rw (sym c.index-trees-i.is) refl));
    }
