-- A formula that breaks no rule on names and sorts is well sorted.
use Rattle.std.specs.Cmp.Derive.{both_true}
use Rattle.std.specs.Prelude.{◌≡◌, ℕ, ◌==◌, ◌&&◌, ◌||◌, nat_lt, Bool, true, false, List, [], ◌∷◌, ◌++◌, length, map, Option, Some, None, ◌<◌}
use Rattle.std.specs.List.{AllByRecursion, list_all}
use Rattle.std.proofs.Common.{rules, arith, refl, sym, subst, ap, ◌∙◌}
use Rattle.std.proofs.lemmas.List.{map-append}
use Rattle.std.proofs.lemmas.Option.{slice_get_within}
use Rattle.sw_logic.specs.declared.syntax.Binder as logic
use Rattle.sw_logic.specs.declared.syntax.Term.{Term}
use Rattle.sw_logic.specs.declared.syntax.Formula as formulas
use Rattle.sw_logic.specs.declared.syntax.Formula.{Formula}
use Rattle.sw_logic.specs.declared.syntax.Formula.TheVariants as formula
use Rattle.sw_logic.specs.Sorted.{well_sorted, sort_of, same_sort, sorts_match, are_sorts, extended}
use Rattle.sw_trees.specs.declared.words.Word.{Word}
use Rattle.sw_trees.specs.declared.tree.TermTree as term_trees
use Rattle.sw_trees.specs.declared.tree.TermTree.{TermTree, roll-TermTree}
use Rattle.sw_trees.specs.declared.tree.TermTree.TheOpen.{TermTree-F}
use Rattle.sw_trees.specs.declared.tree.TermTree.TheFolds.{ind-TermTree}
use Rattle.sw_trees.specs.declared.tree.TermTree.TheVariants as term
use Rattle.sw_trees.specs.declared.tree.TermTree.TheVariants.{rolls-Named, rolls-Applied}
use Rattle.sw_trees.specs.declared.tree.Binder.{Binder}
use Rattle.sw_trees.specs.declared.tree.Tree as trees
use Rattle.sw_trees.specs.declared.tree.Tree.{Tree, roll-Tree}
use Rattle.sw_trees.specs.declared.tree.Tree.TheOpen.{Tree-F}
use Rattle.sw_trees.specs.declared.tree.Tree.TheFolds.{ind-Tree}
use Rattle.sw_trees.specs.declared.tree.Tree.TheVariants as tree
use Rattle.sw_trees.specs.declared.tree.Tree.TheVariants.{rolls-Constant, rolls-Atom, rolls-Equal, rolls-Not, rolls-All, rolls-Any, rolls-Implies, rolls-Iff, rolls-Quantified}
use Rattle.sw_text.specs.declared.names.Rule.{Rule}
use Rattle.sw_text.specs.declared.names.Wanted.{Wanted}
use Rattle.sw_text.specs.Names.{Around, Scope, head_of, head_faults, head_sorts, head_gives, args_faults, term_faults, term_read, term_by, first_word, right_wanted, atom_by, atom_read, reads_post, faults, formula_read, binder_faults, binders_faults, bound, bytes_at, sort_number, number_or_0, is_none, is_declared, is_some_number, variable_number, broken, quantified}
use Rattle.sw_text.specs.Resolving.{equal_faults, all_faults, all_read, body_faults, body_read}
use Rattle.sw_text.specs.Laws.{ReadIsWellSorted}
use Rattle.sw_text.proofs.Breaking.{term_faults_of, term_read_of}
use Rattle.sw_text.proofs.Folding.{faults_Atom, read_Atom, faults_Equal, read_Equal, faults_Implies, faults_Iff}
use Rattle.sw_text.proofs.SortedTerms.{within, apart, passed, IsValueWanted, Meets, number_is_itself, sorts, known, is_value, is_atom_here}

all_of : {X : Type 0} (P : X → Type 0) → ((x : X) → P x) → (xs : List X) → AllByRecursion P xs
all_of P f [] = tt
all_of P f (x ∷ xs) = (f x, all_of P f xs)

pub all_of_pairs : {X : Type 0} (P : X → Type 0) (xs : List ((x : X) × P x)) → AllByRecursion P (map (λ e. e.0) xs)
all_of_pairs P [] = tt
all_of_pairs P (x ∷ xs) = (x.1, all_of_pairs P xs)

module _ (a : Around) (scope : Scope) where
  abbrev sort_here : Term → Option ℕ
  sort_here = sort_of a.signature (reads_post a.place) (sorts a scope)

  -- a term that breaks no rule has a sort, that of its first name, and it may stand where it is wanted
  pub record IsSorted (wanted : Wanted) (t : TermTree) : Type 0 where
    pub sort : ℕ
    pub gives : head_gives a scope (head_of a scope (first_word t)) ≡ Wanted.Sort sort
    pub meets : Meets wanted sort
    pub is : sort_here (term_read a scope t) ≡ Some sort

  abbrev HasSort : TermTree → Type 0
  HasSort t = (wanted : Wanted) → IsValueWanted wanted → term_faults a scope t wanted ≡ [] → IsSorted wanted t

  same : (s sort : ℕ) → sort ≡ s → same_sort (Some s) (Some sort) ≡ true
  same s sort e = ap (λ n. s == n) e ∙ number_is_itself s

  args_match : (ts : List TermTree) → AllByRecursion HasSort ts → (ss : List ℕ) → args_faults (map (term_faults a scope) ts) ss ≡ [] → length ss ≡ length (map (term_faults a scope) ts) → sorts_match ss (map sort_here (map (term_read a scope) ts)) ≡ true
  args_match [] h [] e n = refl
  args_match [] h (s ∷ ss) e n = cc
  args_match (t ∷ ts) h [] e n = cc
  args_match (t ∷ ts) h (s ∷ ss) e n =
      let both = apart (term_faults a scope t (Wanted.Sort s)) (args_faults (map (term_faults a scope) ts) ss) e in
      let here = h.0 (Wanted.Sort s) tt both.0 in
      both_true (ap (same_sort (Some s)) here.is ∙ same s here.sort here.meets) (args_match ts h.1 ss both.1 (omega (arith, n)))

  first_of_named : (w : Word) (primed : Bool) → first_word (term.Named w primed) ≡ w
  first_of_named w primed = search (rules, term_trees.the_lemmas)

  first_of_applied : (w : Word) (primed : Bool) (args : List TermTree) → first_word (term.Applied w primed args) ≡ w
  first_of_applied w primed args = search (rules, term_trees.the_lemmas)

  named_faults : (w : Word) (primed : Bool) (wanted : Wanted) → term_faults a scope (term.Named w primed) wanted ≡ head_faults a scope w primed 0 wanted
  named_faults w primed wanted = search (rules, term_trees.the_lemmas)

  named_read : (w : Word) (primed : Bool) → term_read a scope (term.Named w primed) ≡ term_by (head_of a scope w) primed []
  named_read w primed = search (rules, term_trees.the_lemmas)

  no_sorts : (ss : List ℕ) → length ss ≡ 0 → sorts_match ss [] ≡ true
  no_sorts [] e = refl
  no_sorts (s ∷ ss) e = cc

  named : (w : Word) (primed : Bool) → HasSort (term.Named w primed)
  named w primed wanted v e =
      let value = is_value a scope (head_of a scope w) (known a scope w) primed 0 wanted v (passed w.token.at _ (sym (named_faults w primed wanted) ∙ e)) in
      record {
        sort = value.sort;
        gives = ap (λ x. head_gives a scope (head_of a scope x)) (first_of_named w primed) ∙ value.gives;
        meets = value.meets;
        is = ap sort_here (named_read w primed) ∙ value.is [] (no_sorts (head_sorts a (head_of a scope w)) value.count_is);
      }

  applied : (w : Word) (primed : Bool) (args : List TermTree) → AllByRecursion HasSort args → HasSort (term.Applied w primed args)
  applied w primed args h wanted v e =
      let both = apart (head_faults a scope w primed (length (map (term_faults a scope) args)) wanted) (args_faults (map (term_faults a scope) args) (head_sorts a (head_of a scope w))) (sym (term_faults_of a scope w primed args wanted) ∙ e) in
      let value = is_value a scope (head_of a scope w) (known a scope w) primed (length (map (term_faults a scope) args)) wanted v (passed w.token.at _ both.0) in
      record {
        sort = value.sort;
        gives = ap (λ x. head_gives a scope (head_of a scope x)) (first_of_applied w primed args) ∙ value.gives;
        meets = value.meets;
        is = ap sort_here (term_read_of a scope w primed args) ∙ value.is (map (term_read a scope) args) (args_match args h (head_sorts a (head_of a scope w)) both.1 value.count_is);
      }

  layer : (y : TermTree-F ((t : TermTree) × HasSort t)) → HasSort (roll-TermTree (term_trees.map-TermTree ((t : TermTree) × HasSort t) TermTree (λ e. e.0) y))
  layer (TermTree-F.Named w primed) = subst HasSort (sym (rolls-Named w primed)) (named w primed)
  layer (TermTree-F.Applied w primed ts) = subst HasSort (sym (rolls-Applied w primed (map (λ e. e.0) ts))) (applied w primed (map (λ e. e.0) ts) (all_of_pairs HasSort ts))

  pub has_sort : (t : TermTree) → HasSort t
  has_sort = ind-TermTree HasSort (λ x y is. subst (λ z. HasSort (roll-TermTree z)) is (layer y))

  -- an atom that breaks no rule is well sorted
  abbrev IsWellAtom : TermTree → Type 0
  IsWellAtom t = term_faults a scope t Wanted.Atom ≡ [] → well_sorted a.signature (reads_post a.place) (atom_read a scope t) (sorts a scope) ≡ true

  named_atom : (w : Word) (primed : Bool) → atom_read a scope (term.Named w primed) ≡ atom_by (head_of a scope w) primed []
  named_atom w primed = search (rules, term_trees.the_lemmas)

  applied_atom : (w : Word) (primed : Bool) (args : List TermTree) → atom_read a scope (term.Applied w primed args) ≡ atom_by (head_of a scope w) primed (map (term_read a scope) args)
  applied_atom w primed args = search (rules, term_trees.the_lemmas)

  well_named : (w : Word) (primed : Bool) → IsWellAtom (term.Named w primed)
  well_named w primed e =
      let atom = is_atom_here a scope (head_of a scope w) (known a scope w) primed 0 (passed w.token.at _ (sym (named_faults w primed Wanted.Atom) ∙ e)) in
      ap (λ f. well_sorted a.signature (reads_post a.place) f (sorts a scope)) (named_atom w primed) ∙ atom.is [] (no_sorts (head_sorts a (head_of a scope w)) atom.count_is)

  well_applied : (w : Word) (primed : Bool) (args : List TermTree) → IsWellAtom (term.Applied w primed args)
  well_applied w primed args e =
      let both = apart (head_faults a scope w primed (length (map (term_faults a scope) args)) Wanted.Atom) (args_faults (map (term_faults a scope) args) (head_sorts a (head_of a scope w))) (sym (term_faults_of a scope w primed args Wanted.Atom) ∙ e) in
      let atom = is_atom_here a scope (head_of a scope w) (known a scope w) primed (length (map (term_faults a scope) args)) (passed w.token.at _ both.0) in
      ap (λ f. well_sorted a.signature (reads_post a.place) f (sorts a scope)) (applied_atom w primed args) ∙ atom.is (map (term_read a scope) args) (args_match args (all_of HasSort has_sort args) (head_sorts a (head_of a scope w)) both.1 atom.count_is)

  atom_layer : (x : TermTree-F TermTree) → IsWellAtom (roll-TermTree x)
  atom_layer (TermTree-F.Named w primed) = subst IsWellAtom (sym (rolls-Named w primed)) (well_named w primed)
  atom_layer (TermTree-F.Applied w primed args) = subst IsWellAtom (sym (rolls-Applied w primed args)) (well_applied w primed args)

  pub well_atom : (t : TermTree) → IsWellAtom t
  well_atom = ind-TermTree IsWellAtom (λ x y is. atom_layer x)

  -- so is an equation
  pub well_equation : (t u : TermTree) → equal_faults a scope t u ≡ [] → well_sorted a.signature (reads_post a.place) (formula.Equal (term_read a scope t) (term_read a scope u)) (sorts a scope) ≡ true
  well_equation t u e =
      let both = apart (term_faults a scope t Wanted.Value) (term_faults a scope u (right_wanted a scope t)) e in
      let left = has_sort t Wanted.Value tt both.0 in
      let right = has_sort u (Wanted.Sort left.sort) tt (ap (term_faults a scope u) (sym left.gives) ∙ both.1) in
      let step : well_sorted a.signature (reads_post a.place) (formula.Equal (term_read a scope t) (term_read a scope u)) (sorts a scope) ≡ same_sort (sort_here (term_read a scope t)) (sort_here (term_read a scope u)) = search (rules, formulas.the_lemmas) in
      step ∙ ap (λ o. same_sort o (sort_here (term_read a scope u))) left.is ∙ ap (same_sort (Some left.sort)) right.is ∙ same left.sort right.sort right.meets

module _ (a : Around) where
  abbrev well : Formula → Scope → Bool
  well f scope = well_sorted a.signature (reads_post a.place) f (sorts a scope)

  -- a formula that breaks no rule is well sorted
  abbrev IsWell : Tree → Type 0
  IsWell t = (scope : Scope) → faults a t scope ≡ [] → well (formula_read a t scope) scope ≡ true

  constant : (value : Bool) → IsWell (tree.Constant value)
  constant true scope e =
      let step : formula_read a (tree.Constant true) scope ≡ formula.True = search (rules, trees.the_lemmas) in
      let whole : well formula.True scope ≡ true = search (rules, formulas.the_lemmas) in
      ap (λ f. well f scope) step ∙ whole
  constant false scope e =
      let step : formula_read a (tree.Constant false) scope ≡ formula.False = search (rules, trees.the_lemmas) in
      let whole : well formula.False scope ≡ true = search (rules, formulas.the_lemmas) in
      ap (λ f. well f scope) step ∙ whole

  atom : (t : TermTree) → IsWell (tree.Atom t)
  atom t scope e = ap (λ f. well f scope) (read_Atom a scope t) ∙ well_atom a scope t (sym (faults_Atom a scope t) ∙ e)

  equation : (t u : TermTree) → IsWell (tree.Equal t u)
  equation t u scope e = ap (λ f. well f scope) (read_Equal a scope t u) ∙ well_equation a scope t u (sym (faults_Equal a scope t u) ∙ e)

  negation : (p : Tree) → IsWell p → IsWell (tree.Not p)
  negation p h scope e =
      let broken : faults a (tree.Not p) scope ≡ faults a p scope = search (rules, trees.the_lemmas) in
      let read : formula_read a (tree.Not p) scope ≡ formula.Not (formula_read a p scope) = search (rules, trees.the_lemmas) in
      let whole : well (formula.Not (formula_read a p scope)) scope ≡ well (formula_read a p scope) scope = search (rules, formulas.the_lemmas) in
      ap (λ f. well f scope) read ∙ whole ∙ h scope (sym broken ∙ e)

  each_well : (ps : List Tree) → AllByRecursion IsWell ps → (scope : Scope) → all_faults a ps scope ≡ [] → list_all (λ (p : List ℕ → Bool). p (sorts a scope)) (map (well_sorted a.signature (reads_post a.place)) (all_read a ps scope)) ≡ true
  each_well [] h scope e = refl
  each_well (p ∷ ps) h scope e =
      let both = apart (faults a p scope) (all_faults a ps scope) e in
      both_true (h.0 scope both.0) (each_well ps h.1 scope both.1)

  conjunction : (ps : List Tree) → AllByRecursion IsWell ps → IsWell (tree.All ps)
  conjunction ps h scope e =
      let broken : faults a (tree.All ps) scope ≡ all_faults a ps scope = search (rules, trees.the_lemmas) in
      let read : formula_read a (tree.All ps) scope ≡ formula.All (all_read a ps scope) = search (rules, trees.the_lemmas) in
      let whole : well (formula.All (all_read a ps scope)) scope ≡ list_all (λ (p : List ℕ → Bool). p (sorts a scope)) (map (well_sorted a.signature (reads_post a.place)) (all_read a ps scope)) = search (rules, formulas.the_lemmas) in
      ap (λ f. well f scope) read ∙ whole ∙ each_well ps h scope (sym broken ∙ e)

  disjunction : (ps : List Tree) → AllByRecursion IsWell ps → IsWell (tree.Any ps)
  disjunction ps h scope e =
      let broken : faults a (tree.Any ps) scope ≡ all_faults a ps scope = search (rules, trees.the_lemmas) in
      let read : formula_read a (tree.Any ps) scope ≡ formula.Any (all_read a ps scope) = search (rules, trees.the_lemmas) in
      let whole : well (formula.Any (all_read a ps scope)) scope ≡ list_all (λ (p : List ℕ → Bool). p (sorts a scope)) (map (well_sorted a.signature (reads_post a.place)) (all_read a ps scope)) = search (rules, formulas.the_lemmas) in
      ap (λ f. well f scope) read ∙ whole ∙ each_well ps h scope (sym broken ∙ e)

  implication : (p q : Tree) → IsWell p → IsWell q → IsWell (tree.Implies p q)
  implication p q h g scope e =
      let both = apart (faults a p scope) (faults a q scope) (sym (faults_Implies a scope p q) ∙ e) in
      let read : formula_read a (tree.Implies p q) scope ≡ formula.Implies (formula_read a p scope) (formula_read a q scope) = search (rules, trees.the_lemmas) in
      let whole : well (formula.Implies (formula_read a p scope) (formula_read a q scope)) scope ≡ (well (formula_read a p scope) scope && well (formula_read a q scope) scope) = search (rules, formulas.the_lemmas) in
      ap (λ f. well f scope) read ∙ whole ∙ both_true (h scope both.0) (g scope both.1)

  equivalence : (p q : Tree) → IsWell p → IsWell q → IsWell (tree.Iff p q)
  equivalence p q h g scope e =
      let both = apart (faults a p scope) (faults a q scope) (sym (faults_Iff a scope p q) ∙ e) in
      let read : formula_read a (tree.Iff p q) scope ≡ formula.Iff (formula_read a p scope) (formula_read a q scope) = search (rules, trees.the_lemmas) in
      let whole : well (formula.Iff (formula_read a p scope) (formula_read a q scope)) scope ≡ (well (formula_read a p scope) scope && well (formula_read a q scope) scope) = search (rules, formulas.the_lemmas) in
      ap (λ f. well f scope) read ∙ whole ∙ both_true (h scope both.0) (g scope both.1)

  sort_below : (o : Option ℕ) (n : ℕ) → is_none o ≡ false → ((k : ℕ) → o ≡ Some k → k < n) → nat_lt (number_or_0 o) n ≡ true
  sort_below None n e f = cc
  sort_below (Some k) n e f = below k n (f k refl)
    where
      below : (k n : ℕ) → k < n → nat_lt k n ≡ true
      below k n h = grind (arith, h)

  pub binders_sorted : (bs : List Binder) (scope : Scope) → binders_faults a scope bs ≡ [] → are_sorts a.signature (map (bound a) bs) ≡ true
  binders_sorted [] scope e = refl
  binders_sorted (b ∷ bs) scope e =
      let both = apart (binder_faults a scope b) (binders_faults a (scope ++ bound a b ∷ []) bs) e in
      let name = bytes_at a.text b.name in
      let sort = sort_number a (bytes_at a.text b.sort) in
      let sort_tests : List (Bool × Rule) = (is_none sort, Rule.Unknown) ∷ [] in
      let here = apart (broken b.name.token.at ((is_declared a name || is_some_number (variable_number scope name), Rule.Twice) ∷ [])) (broken b.sort.token.at sort_tests) both.0 in
      let known_sort = passed b.sort.token.at sort_tests here.1 in
      both_true (sort_below sort (length a.signature.sorts) known_sort.0 (λ k is. slice_get_within a.signature.sorts k _ (within _ a.signature.sorts k is).1)) (binders_sorted bs (scope ++ bound a b ∷ []) both.1)

  well_body : (universal : Bool) (vs : List logic.Binder) (f : Formula) (scope : Scope) → well (quantified universal vs f) scope ≡ (are_sorts a.signature vs && well_sorted a.signature (reads_post a.place) f (extended (sorts a scope) vs))
  well_body true vs f scope = search (rules, formulas.the_lemmas)
  well_body false vs f scope = search (rules, formulas.the_lemmas)

  quantification : (universal : Bool) (bs : List Binder) (p : Tree) → IsWell p → IsWell (tree.Quantified universal bs p)
  quantification universal bs p h scope e =
      let vs = map (bound a) bs in
      let broken : faults a (tree.Quantified universal bs p) scope ≡ body_faults a bs p scope = search (rules, trees.the_lemmas) in
      let read : formula_read a (tree.Quantified universal bs p) scope ≡ body_read a universal bs p scope = search (rules, trees.the_lemmas) in
      let both = apart (binders_faults a scope bs) (faults a p (scope ++ vs)) (sym broken ∙ e) in
      let inner : well_sorted a.signature (reads_post a.place) (formula_read a p (scope ++ vs)) (extended (sorts a scope) vs) ≡ true =
      subst (λ ss. well_sorted a.signature (reads_post a.place) (formula_read a p (scope ++ vs)) ss ≡ true) (map-append (λ (b : logic.Binder). b.sort) scope vs) (h (scope ++ vs) both.1) in
      ap (λ f. well f scope) read ∙ well_body universal vs (formula_read a p (scope ++ vs)) scope ∙ both_true (binders_sorted bs scope both.0) inner

  tree_layer : (y : Tree-F ((t : Tree) × IsWell t)) → IsWell (roll-Tree (trees.map-Tree ((t : Tree) × IsWell t) Tree (λ e. e.0) y))
  tree_layer (Tree-F.Constant value) = subst IsWell (sym (rolls-Constant value)) (constant value)
  tree_layer (Tree-F.Atom t) = subst IsWell (sym (rolls-Atom t)) (atom t)
  tree_layer (Tree-F.Equal t u) = subst IsWell (sym (rolls-Equal t u)) (equation t u)
  tree_layer (Tree-F.Not p) = subst IsWell (sym (rolls-Not p.0)) (negation p.0 p.1)
  tree_layer (Tree-F.All ps) = subst IsWell (sym (rolls-All (map (λ e. e.0) ps))) (conjunction (map (λ e. e.0) ps) (all_of_pairs IsWell ps))
  tree_layer (Tree-F.Any ps) = subst IsWell (sym (rolls-Any (map (λ e. e.0) ps))) (disjunction (map (λ e. e.0) ps) (all_of_pairs IsWell ps))
  tree_layer (Tree-F.Implies p q) = subst IsWell (sym (rolls-Implies p.0 q.0)) (implication p.0 q.0 p.1 q.1)
  tree_layer (Tree-F.Iff p q) = subst IsWell (sym (rolls-Iff p.0 q.0)) (equivalence p.0 q.0 p.1 q.1)
  tree_layer (Tree-F.Quantified universal bs p) = subst IsWell (sym (rolls-Quantified universal bs p.0)) (quantification universal bs p.0 p.1)

  is_well : (t : Tree) → IsWell t
  is_well = ind-Tree IsWell (λ x y is. subst (λ z. IsWell (roll-Tree z)) is (tree_layer y))

pub read_is_well_sorted : ReadIsWellSorted
read_is_well_sorted a t scope e = is_well a t scope e
