-- A formula that breaks no rule on names reads only symbols that pass the tests of its place.
use Rattle.std.specs.Prelude.{◌≡◌, ◌==◌, ◌&&◌, ◌||◌, not, ℕ, Bool, true, false, List, [], ◌∷◌, ◌++◌, drop, length, map, Option, Some, None, slice_get}
use Rattle.std.specs.List.{AllByRecursion, list_all, list_any}
use Rattle.std.specs.Cmp.Derive.{both_true}
use Rattle.std.proofs.Common.{rules, refl, sym, subst, ap, ◌∙◌}
use Rattle.std.proofs.lemmas.Bool.{false≢true}
use Rattle.sw_logic.specs.declared.syntax.Symbol.{Symbol}
use Rattle.sw_logic.specs.declared.syntax.Binder as logic
use Rattle.sw_logic.specs.declared.syntax.Term as terms
use Rattle.sw_logic.specs.declared.syntax.Term.{Term}
use Rattle.sw_logic.specs.declared.syntax.Term.TheVariants as logic_term
use Rattle.sw_logic.specs.declared.syntax.Formula as formulas
use Rattle.sw_logic.specs.declared.syntax.Formula.{Formula}
use Rattle.sw_logic.specs.declared.syntax.Formula.TheVariants as formula
use Rattle.sw_logic.specs.Terms.{reads, term_reads}
use Rattle.sw_meaning.specs.WellFormed.{is_immutable, may_not_change, may_be_primed}
use Rattle.sw_trees.specs.declared.words.Word.{Word}
use Rattle.sw_trees.specs.declared.tree.Binder.{Binder}
use Rattle.sw_trees.specs.declared.tree.TermTree as term_trees
use Rattle.sw_trees.specs.declared.tree.TermTree.{TermTree, roll-TermTree}
use Rattle.sw_trees.specs.declared.tree.TermTree.TheOpen.{TermTree-F}
use Rattle.sw_trees.specs.declared.tree.TermTree.TheFolds.{ind-TermTree}
use Rattle.sw_trees.specs.declared.tree.TermTree.TheVariants as term
use Rattle.sw_trees.specs.declared.tree.TermTree.TheVariants.{rolls-Named, rolls-Applied}
use Rattle.sw_trees.specs.declared.tree.Tree as trees
use Rattle.sw_trees.specs.declared.tree.Tree.{Tree, roll-Tree}
use Rattle.sw_trees.specs.declared.tree.Tree.TheOpen.{Tree-F}
use Rattle.sw_trees.specs.declared.tree.Tree.TheFolds.{ind-Tree}
use Rattle.sw_trees.specs.declared.tree.Tree.TheVariants as tree
use Rattle.sw_trees.specs.declared.tree.Tree.TheVariants.{rolls-Constant, rolls-Atom, rolls-Equal, rolls-Not, rolls-All, rolls-Any, rolls-Implies, rolls-Iff, rolls-Quantified}
use Rattle.sw_text.specs.declared.names.Wanted.{Wanted}
use Rattle.sw_text.specs.declared.names.Head.{Head}
use Rattle.sw_text.specs.declared.names.Place.{Place}
use Rattle.sw_text.specs.Names.{Around, Scope, head_of, head_faults, head_sorts, head_tests, next_wanted, symbol_tests, args_faults, term_faults, term_read, term_by, right_wanted, atom_by, atom_read, faults, formula_read, binders_faults, bound, quantified}
use Rattle.sw_text.specs.Resolving.{all_faults, all_read, body_faults, body_read}
use Rattle.sw_text.proofs.Breaking.{term_faults_of, term_read_of}
use Rattle.sw_text.proofs.Folding.{faults_Atom, read_Atom, faults_Equal, read_Equal, faults_Implies, faults_Iff}
use Rattle.sw_text.proofs.SortedTerms.{apart, Passed, passed, IsKnown, known}
use Rattle.sw_lists.proofs.Each.{each-pairs}

module _ (a : Around) (pass : ℕ → Bool → Bool) (passes : (k : ℕ) (s : Symbol) → slice_get a.signature.symbols k ≡ Some s → (primed : Bool) (count : ℕ) (wanted : Wanted) → Passed (symbol_tests a.place k (Some s) primed count wanted) → pass k primed ≡ true) where
  reads_Apply : (k : ℕ) (post : Bool) (ts : List Term) → term_reads pass (logic_term.Apply k post ts) ≡ (pass k post && list_all (λ b. b) (map (term_reads pass) ts))
  reads_Apply k post ts = search (rules, terms.the_lemmas)

  reads_Holds : (k : ℕ) (post : Bool) (ts : List Term) → reads pass (formula.Holds k post ts) ≡ (pass k post && list_all (term_reads pass) ts)
  reads_Holds k post ts = search (rules, formulas.the_lemmas)

  mapped : (ts : List Term) → list_all (λ b. b) (map (term_reads pass) ts) ≡ list_all (term_reads pass) ts
  mapped [] = refl
  mapped (t ∷ ts) = ap (λ b. term_reads pass t && b) (mapped ts)

  module _ (scope : Scope) where
    passes_here : (k : ℕ) (s : Symbol) → slice_get a.signature.symbols k ≡ Some s → (primed : Bool) (count : ℕ) (wanted : Wanted) → Passed (symbol_tests a.place k (slice_get a.signature.symbols k) primed count wanted) → pass k primed ≡ true
    passes_here k s e primed count wanted p = passes k s e primed count wanted (subst (λ (o : Option Symbol). Passed (symbol_tests a.place k o primed count wanted)) e p)

    head_reads : (head : Option Head) → IsKnown a scope head → (primed : Bool) (count : ℕ) (wanted : Wanted) → Passed (head_tests a scope head primed count wanted) → (ts : List Term) → list_all (term_reads pass) ts ≡ true → term_reads pass (term_by head primed ts) ≡ true
    head_reads None i primed count wanted p ts e = absurd (false≢true (sym p.0))
    head_reads (Some (Head.Variable v)) i primed count wanted p ts e = let step : term_reads pass (logic_term.Variable v) ≡ true = search (rules, terms.the_lemmas) in step
    head_reads (Some (Head.Symbol k)) (s, is) primed count wanted p ts e = reads_Apply k primed ts ∙ both_true (passes_here k s is primed count wanted p) (mapped ts ∙ e)

    atom_reads : (head : Option Head) → IsKnown a scope head → (primed : Bool) (count : ℕ) (wanted : Wanted) → Passed (head_tests a scope head primed count wanted) → (ts : List Term) → list_all (term_reads pass) ts ≡ true → reads pass (atom_by head primed ts) ≡ true
    atom_reads None i primed count wanted p ts e = absurd (false≢true (sym p.0))
    atom_reads (Some (Head.Variable v)) i primed count wanted p ts e = let step : reads pass formula.True ≡ true = search (rules, formulas.the_lemmas) in step
    atom_reads (Some (Head.Symbol k)) (s, is) primed count wanted p ts e = reads_Holds k primed ts ∙ both_true (passes_here k s is primed count wanted p) e

    -- a term that breaks no rule where something is wanted
    abbrev ReadsWell : TermTree → Type 0
    ReadsWell t = (wanted : Wanted) → term_faults a scope t wanted ≡ [] → term_reads pass (term_read a scope t) ≡ true

    args_read : (ts : List TermTree) → AllByRecursion ReadsWell ts → (ss : List ℕ) → args_faults (map (term_faults a scope) ts) ss ≡ [] → list_all (term_reads pass) (map (term_read a scope) ts) ≡ true
    args_read [] h ss e = refl
    args_read (t ∷ ts) h ss e =
        let both = apart (term_faults a scope t (next_wanted ss)) (args_faults (map (term_faults a scope) ts) (drop 1 ss)) e in
        both_true (h.0 (next_wanted ss) both.0) (args_read ts h.1 (drop 1 ss) both.1)

    named_faults : (w : Word) (primed : Bool) (wanted : Wanted) → term_faults a scope (term.Named w primed) wanted ≡ head_faults a scope w primed 0 wanted
    named_faults w primed wanted = search (rules, term_trees.the_lemmas)

    named_read : (w : Word) (primed : Bool) → term_read a scope (term.Named w primed) ≡ term_by (head_of a scope w) primed []
    named_read w primed = search (rules, term_trees.the_lemmas)

    named : (w : Word) (primed : Bool) → ReadsWell (term.Named w primed)
    named w primed wanted e = ap (term_reads pass) (named_read w primed) ∙ head_reads (head_of a scope w) (known a scope w) primed 0 wanted (passed w.token.at _ (sym (named_faults w primed wanted) ∙ e)) [] refl

    applied : (w : Word) (primed : Bool) (args : List TermTree) → AllByRecursion ReadsWell args → ReadsWell (term.Applied w primed args)
    applied w primed args h wanted e =
        let count = length (map (term_faults a scope) args) in
        let both = apart (head_faults a scope w primed count wanted) (args_faults (map (term_faults a scope) args) (head_sorts a (head_of a scope w))) (sym (term_faults_of a scope w primed args wanted) ∙ e) in
        ap (term_reads pass) (term_read_of a scope w primed args)
        ∙ head_reads (head_of a scope w) (known a scope w) primed count wanted (passed w.token.at _ both.0) (map (term_read a scope) args) (args_read args h (head_sorts a (head_of a scope w)) both.1)

    layer : (y : TermTree-F ((t : TermTree) × ReadsWell t)) → ReadsWell (roll-TermTree (term_trees.map-TermTree ((t : TermTree) × ReadsWell t) TermTree (λ e. e.0) y))
    layer (TermTree-F.Named w primed) = subst ReadsWell (sym (rolls-Named w primed)) (named w primed)
    layer (TermTree-F.Applied w primed ts) = subst ReadsWell (sym (rolls-Applied w primed (map (λ e. e.0) ts))) (applied w primed (map (λ e. e.0) ts) (each-pairs ReadsWell ts))

    reads_well : (t : TermTree) → ReadsWell t
    reads_well = ind-TermTree ReadsWell (λ x y is. subst (λ z. ReadsWell (roll-TermTree z)) is (layer y))

    all_read_well : (ts : List TermTree) → AllByRecursion ReadsWell ts
    all_read_well [] = tt
    all_read_well (t ∷ ts) = (reads_well t, all_read_well ts)

    abbrev AtomReads : TermTree → Type 0
    AtomReads t = term_faults a scope t Wanted.Atom ≡ [] → reads pass (atom_read a scope t) ≡ true

    named_atom : (w : Word) (primed : Bool) → atom_read a scope (term.Named w primed) ≡ atom_by (head_of a scope w) primed []
    named_atom w primed = search (rules, term_trees.the_lemmas)

    applied_atom : (w : Word) (primed : Bool) (args : List TermTree) → atom_read a scope (term.Applied w primed args) ≡ atom_by (head_of a scope w) primed (map (term_read a scope) args)
    applied_atom w primed args = search (rules, term_trees.the_lemmas)

    atom_layer : (x : TermTree-F TermTree) → AtomReads (roll-TermTree x)
    atom_layer (TermTree-F.Named w primed) =
        subst AtomReads (sym (rolls-Named w primed))
        (λ e. ap (reads pass) (named_atom w primed) ∙ atom_reads (head_of a scope w) (known a scope w) primed 0 Wanted.Atom (passed w.token.at _ (sym (named_faults w primed Wanted.Atom) ∙ e)) [] refl)
    atom_layer (TermTree-F.Applied w primed args) = subst AtomReads (sym (rolls-Applied w primed args)) by
      where
        by : AtomReads (term.Applied w primed args)
        by e =
            let count = length (map (term_faults a scope) args) in
            let both = apart (head_faults a scope w primed count Wanted.Atom) (args_faults (map (term_faults a scope) args) (head_sorts a (head_of a scope w))) (sym (term_faults_of a scope w primed args Wanted.Atom) ∙ e) in
            ap (reads pass) (applied_atom w primed args)
            ∙ atom_reads (head_of a scope w) (known a scope w) primed count Wanted.Atom (passed w.token.at _ both.0) (map (term_read a scope) args) (args_read args (all_read_well args) (head_sorts a (head_of a scope w)) both.1)

    atom_reads_well : (t : TermTree) → AtomReads t
    atom_reads_well = ind-TermTree AtomReads (λ x y is. atom_layer x)

  -- a formula that breaks no rule
  abbrev Reads : Tree → Type 0
  Reads t = (scope : Scope) → faults a t scope ≡ [] → reads pass (formula_read a t scope) ≡ true

  constant : (value : Bool) → Reads (tree.Constant value)
  constant true scope e =
      let read : formula_read a (tree.Constant true) scope ≡ formula.True = search (rules, trees.the_lemmas) in
      let whole : reads pass formula.True ≡ true = search (rules, formulas.the_lemmas) in
      ap (reads pass) read ∙ whole
  constant false scope e =
      let read : formula_read a (tree.Constant false) scope ≡ formula.False = search (rules, trees.the_lemmas) in
      let whole : reads pass formula.False ≡ true = search (rules, formulas.the_lemmas) in
      ap (reads pass) read ∙ whole

  atom : (t : TermTree) → Reads (tree.Atom t)
  atom t scope e = ap (reads pass) (read_Atom a scope t) ∙ atom_reads_well scope t (sym (faults_Atom a scope t) ∙ e)

  equation : (t u : TermTree) → Reads (tree.Equal t u)
  equation t u scope e =
      let both = apart (term_faults a scope t Wanted.Value) (term_faults a scope u (right_wanted a scope t)) (sym (faults_Equal a scope t u) ∙ e) in
      let whole : reads pass (formula.Equal (term_read a scope t) (term_read a scope u)) ≡ (term_reads pass (term_read a scope t) && term_reads pass (term_read a scope u)) = search (rules, formulas.the_lemmas) in
      ap (reads pass) (read_Equal a scope t u) ∙ whole ∙ both_true (reads_well scope t Wanted.Value both.0) (reads_well scope u (right_wanted a scope t) both.1)

  negation : (p : Tree) → Reads p → Reads (tree.Not p)
  negation p h scope e =
      let broken : faults a (tree.Not p) scope ≡ faults a p scope = search (rules, trees.the_lemmas) in
      let read : formula_read a (tree.Not p) scope ≡ formula.Not (formula_read a p scope) = search (rules, trees.the_lemmas) in
      let whole : reads pass (formula.Not (formula_read a p scope)) ≡ reads pass (formula_read a p scope) = search (rules, formulas.the_lemmas) in
      ap (reads pass) read ∙ whole ∙ h scope (sym broken ∙ e)

  each_reads : (ps : List Tree) → AllByRecursion Reads ps → (scope : Scope) → all_faults a ps scope ≡ [] → list_all (λ b. b) (map (reads pass) (all_read a ps scope)) ≡ true
  each_reads [] h scope e = refl
  each_reads (p ∷ ps) h scope e =
      let both = apart (faults a p scope) (all_faults a ps scope) e in
      both_true (h.0 scope both.0) (each_reads ps h.1 scope both.1)

  conjunction : (ps : List Tree) → AllByRecursion Reads ps → Reads (tree.All ps)
  conjunction ps h scope e =
      let broken : faults a (tree.All ps) scope ≡ all_faults a ps scope = search (rules, trees.the_lemmas) in
      let read : formula_read a (tree.All ps) scope ≡ formula.All (all_read a ps scope) = search (rules, trees.the_lemmas) in
      let whole : reads pass (formula.All (all_read a ps scope)) ≡ list_all (λ b. b) (map (reads pass) (all_read a ps scope)) = search (rules, formulas.the_lemmas) in
      ap (reads pass) read ∙ whole ∙ each_reads ps h scope (sym broken ∙ e)

  disjunction : (ps : List Tree) → AllByRecursion Reads ps → Reads (tree.Any ps)
  disjunction ps h scope e =
      let broken : faults a (tree.Any ps) scope ≡ all_faults a ps scope = search (rules, trees.the_lemmas) in
      let read : formula_read a (tree.Any ps) scope ≡ formula.Any (all_read a ps scope) = search (rules, trees.the_lemmas) in
      let whole : reads pass (formula.Any (all_read a ps scope)) ≡ list_all (λ b. b) (map (reads pass) (all_read a ps scope)) = search (rules, formulas.the_lemmas) in
      ap (reads pass) read ∙ whole ∙ each_reads ps h scope (sym broken ∙ e)

  implication : (p q : Tree) → Reads p → Reads q → Reads (tree.Implies p q)
  implication p q h g scope e =
      let both = apart (faults a p scope) (faults a q scope) (sym (faults_Implies a scope p q) ∙ e) in
      let read : formula_read a (tree.Implies p q) scope ≡ formula.Implies (formula_read a p scope) (formula_read a q scope) = search (rules, trees.the_lemmas) in
      let whole : reads pass (formula.Implies (formula_read a p scope) (formula_read a q scope)) ≡ (reads pass (formula_read a p scope) && reads pass (formula_read a q scope)) = search (rules, formulas.the_lemmas) in
      ap (reads pass) read ∙ whole ∙ both_true (h scope both.0) (g scope both.1)

  equivalence : (p q : Tree) → Reads p → Reads q → Reads (tree.Iff p q)
  equivalence p q h g scope e =
      let both = apart (faults a p scope) (faults a q scope) (sym (faults_Iff a scope p q) ∙ e) in
      let read : formula_read a (tree.Iff p q) scope ≡ formula.Iff (formula_read a p scope) (formula_read a q scope) = search (rules, trees.the_lemmas) in
      let whole : reads pass (formula.Iff (formula_read a p scope) (formula_read a q scope)) ≡ (reads pass (formula_read a p scope) && reads pass (formula_read a q scope)) = search (rules, formulas.the_lemmas) in
      ap (reads pass) read ∙ whole ∙ both_true (h scope both.0) (g scope both.1)

  body_reads : (universal : Bool) (vs : List logic.Binder) (f : Formula) → reads pass (quantified universal vs f) ≡ reads pass f
  body_reads true vs f = search (rules, formulas.the_lemmas)
  body_reads false vs f = search (rules, formulas.the_lemmas)

  quantification : (universal : Bool) (bs : List Binder) (p : Tree) → Reads p → Reads (tree.Quantified universal bs p)
  quantification universal bs p h scope e =
      let vs = map (bound a) bs in
      let broken : faults a (tree.Quantified universal bs p) scope ≡ body_faults a bs p scope = search (rules, trees.the_lemmas) in
      let read : formula_read a (tree.Quantified universal bs p) scope ≡ body_read a universal bs p scope = search (rules, trees.the_lemmas) in
      let both = apart (binders_faults a scope bs) (faults a p (scope ++ vs)) (sym broken ∙ e) in
      ap (reads pass) read ∙ body_reads universal vs (formula_read a p (scope ++ vs)) ∙ h (scope ++ vs) both.1

  tree_layer : (y : Tree-F ((t : Tree) × Reads t)) → Reads (roll-Tree (trees.map-Tree ((t : Tree) × Reads t) Tree (λ e. e.0) y))
  tree_layer (Tree-F.Constant value) = subst Reads (sym (rolls-Constant value)) (constant value)
  tree_layer (Tree-F.Atom t) = subst Reads (sym (rolls-Atom t)) (atom t)
  tree_layer (Tree-F.Equal t u) = subst Reads (sym (rolls-Equal t u)) (equation t u)
  tree_layer (Tree-F.Not p) = subst Reads (sym (rolls-Not p.0)) (negation p.0 p.1)
  tree_layer (Tree-F.All ps) = subst Reads (sym (rolls-All (map (λ e. e.0) ps))) (conjunction (map (λ e. e.0) ps) (each-pairs Reads ps))
  tree_layer (Tree-F.Any ps) = subst Reads (sym (rolls-Any (map (λ e. e.0) ps))) (disjunction (map (λ e. e.0) ps) (each-pairs Reads ps))
  tree_layer (Tree-F.Implies p q) = subst Reads (sym (rolls-Implies p.0 q.0)) (implication p.0 q.0 p.1 q.1)
  tree_layer (Tree-F.Iff p q) = subst Reads (sym (rolls-Iff p.0 q.0)) (equivalence p.0 q.0 p.1 q.1)
  tree_layer (Tree-F.Quantified universal bs p) = subst Reads (sym (rolls-Quantified universal bs p.0)) (quantification universal bs p.0 p.1)

  pub reads_only : (t : Tree) → Reads t
  reads_only = ind-Tree Reads (λ x y is. subst (λ z. Reads (roll-Tree z)) is (tree_layer y))

-- an axiom reads only symbols that may not change
pub axiom_reads : (a : Around) → a.place ≡ Place.Axiom → (t : Tree) (scope : Scope) → faults a t scope ≡ [] → reads (λ symbol post. is_immutable a.signature symbol) (formula_read a t scope) ≡ true
axiom_reads a at = reads_only a (λ symbol post. is_immutable a.signature symbol) passes
  where
    by : (b : Bool) → (true && b) ≡ false → not b ≡ true
    by true e = cc
    by false e = refl

    passes : (k : ℕ) (s : Symbol) → slice_get a.signature.symbols k ≡ Some s → (primed : Bool) (count : ℕ) (wanted : Wanted) → Passed (symbol_tests a.place k (Some s) primed count wanted) → is_immutable a.signature k ≡ true
    passes k s e primed count wanted p =
        let q : Passed (symbol_tests Place.Axiom k (Some s) primed count wanted) = subst (λ place. Passed (symbol_tests place k (Some s) primed count wanted)) at p in
        ap may_not_change e ∙ by s.mutable q.0

-- a transition primes only what it modifies
pub step_primes : (a : Around) (ks : List ℕ) → a.place ≡ Place.Step ks → (t : Tree) (scope : Scope) → faults a t scope ≡ [] → reads (may_be_primed ks) (formula_read a t scope) ≡ true
step_primes a ks at = reads_only a (may_be_primed ks) passes
  where
    by : (primed b : Bool) → (primed && not b) ≡ false → (not primed || b) ≡ true
    by true true e = refl
    by true false e = cc
    by false b e = refl

    passes : (k : ℕ) (s : Symbol) → slice_get a.signature.symbols k ≡ Some s → (primed : Bool) (count : ℕ) (wanted : Wanted) → Passed (symbol_tests a.place k (Some s) primed count wanted) → may_be_primed ks k primed ≡ true
    passes k s e primed count wanted p =
        let q : Passed (symbol_tests (Place.Step ks) k (Some s) primed count wanted) = subst (λ place. Passed (symbol_tests place k (Some s) primed count wanted)) at p in
        by primed (list_any (λ j. j == k) ks) q.1.1.0
