-- A formula that is read goes past no limit on the variables in scope.
use Rattle.std.specs.Prelude.{◌≡◌, ◌==◌, ℕ, ◌+◌, ◌≤◌, max, Bool, true, false, List, [], ◌∷◌, ◌++◌, length, map, Option, Some, None, Result, Ok, Err, if◌then◌else◌}
use Rattle.std.specs.List.{AllByRecursion}
use Rattle.std.proofs.Common.{rules, arith, refl, sym, subst, ap, ◌∙◌}
use Rattle.std.proofs.lemmas.List.{length-map, length-append}
use Rattle.sw_logic.specs.declared.variables.TheConstants.{VARIABLES}
use Rattle.sw_logic.specs.declared.syntax.Binder as logic
use Rattle.sw_logic.specs.declared.syntax.Term.{Term}
use Rattle.sw_logic.specs.declared.syntax.Formula as formulas
use Rattle.sw_logic.specs.declared.syntax.Formula.{Formula}
use Rattle.sw_logic.specs.declared.syntax.Formula.TheVariants as formula
use Rattle.sw_logic.specs.Truth.{greatest, binds}
use Rattle.sw_trees.specs.declared.words.Word.{Word}
use Rattle.sw_trees.specs.declared.tree.Binder.{Binder}
use Rattle.sw_trees.specs.declared.tree.TermTree as term_trees
use Rattle.sw_trees.specs.declared.tree.TermTree.{TermTree, roll-TermTree}
use Rattle.sw_trees.specs.declared.tree.TermTree.TheOpen.{TermTree-F}
use Rattle.sw_trees.specs.declared.tree.TermTree.TheFolds.{ind-TermTree}
use Rattle.sw_trees.specs.declared.tree.TermTree.TheVariants as term
use Rattle.sw_trees.specs.declared.tree.TermTree.TheVariants.{rolls-Named, rolls-Applied}
use Rattle.sw_trees.specs.declared.tree.Tree as trees
use Rattle.sw_trees.specs.declared.tree.Tree.{Tree, roll-Tree}
use Rattle.sw_trees.specs.declared.tree.Tree.TheOpen.{Tree-F}
use Rattle.sw_trees.specs.declared.tree.Tree.TheFolds.{ind-Tree, fold-Tree}
use Rattle.sw_trees.specs.declared.tree.Tree.TheVariants as tree
use Rattle.sw_trees.specs.declared.tree.Tree.TheVariants.{rolls-Constant, rolls-Atom, rolls-Equal, rolls-Not, rolls-All, rolls-Any, rolls-Implies, rolls-Iff, rolls-Quantified}
use Rattle.sw_text.specs.declared.names.Head.{Head}
use Rattle.sw_trees.specs.Grammar.{Loads, Mark, Context, End, all_of, any_of, IsHead, IsTerm, AreTerms, IsBinder, AreBinders, IsAtom, IsSingle, AreSingles, AreBoths, IsImplied, IsFormula}
use Rattle.sw_trees.specs.Limits.{IsWithin}
use Rattle.sw_text.specs.Names.{Around, Scope, head_of, atom_by, atom_read, formula_read, bound, quantified, term_read, faults}
use Rattle.sw_text.specs.declared.names.Violation.{Violation}
use Rattle.sw_trees.specs.declared.reader.Read.{Read}
use Rattle.sw_text.specs.declared.texts.TextError.{TextError}
use Rattle.sw_trees.specs.Words.{word_of}
use Rattle.sw_trees.specs.Answers.{IsAnswer}
use Rattle.sw_text.specs.Resolving.{all_read, body_read}
use Rattle.sw_text.specs.Texts.{outcome, first_broken, base_in, place_in, HasFormula}
use Rattle.sw_text.specs.Laws.{ReadBindsFew}
use Rattle.sw_text.proofs.Folding.{read_Atom, read_Equal}
use Rattle.sw_text.proofs.WellSorted.{all_of_pairs}

-- how many variables the quantifiers of a tree have in scope at once, at most
abbrev few_step : Tree-F ℕ → ℕ
few_step (Tree-F.Constant b) = 0
few_step (Tree-F.Atom t) = 0
few_step (Tree-F.Equal t u) = 0
few_step (Tree-F.Not n) = n
few_step (Tree-F.All ns) = greatest ns
few_step (Tree-F.Any ns) = greatest ns
few_step (Tree-F.Implies m n) = max m n
few_step (Tree-F.Iff m n) = max m n
few_step (Tree-F.Quantified u bs n) = length bs + n

abbrev pub tree_binds : Tree → ℕ
tree_binds = fold-Tree ℕ few_step

binds_Constant : (b : Bool) → tree_binds (tree.Constant b) ≡ 0
binds_Constant b = search (rules, trees.the_lemmas)

binds_Atom : (t : TermTree) → tree_binds (tree.Atom t) ≡ 0
binds_Atom t = search (rules, trees.the_lemmas)

binds_Equal : (t u : TermTree) → tree_binds (tree.Equal t u) ≡ 0
binds_Equal t u = search (rules, trees.the_lemmas)

binds_Not : (p : Tree) → tree_binds (tree.Not p) ≡ tree_binds p
binds_Not p = search (rules, trees.the_lemmas)

binds_All : (ps : List Tree) → tree_binds (tree.All ps) ≡ greatest (map tree_binds ps)
binds_All ps = search (rules, trees.the_lemmas)

binds_Any : (ps : List Tree) → tree_binds (tree.Any ps) ≡ greatest (map tree_binds ps)
binds_Any ps = search (rules, trees.the_lemmas)

binds_Implies : (p q : Tree) → tree_binds (tree.Implies p q) ≡ max (tree_binds p) (tree_binds q)
binds_Implies p q = search (rules, trees.the_lemmas)

binds_Iff : (p q : Tree) → tree_binds (tree.Iff p q) ≡ max (tree_binds p) (tree_binds q)
binds_Iff p q = search (rules, trees.the_lemmas)

binds_Quantified : (u : Bool) (bs : List Binder) (p : Tree) → tree_binds (tree.Quantified u bs p) ≡ length bs + tree_binds p
binds_Quantified u bs p = search (rules, trees.the_lemmas)

greatest_last : (ns : List ℕ) (n : ℕ) → greatest (ns ++ n ∷ []) ≡ max (greatest ns) n
greatest_last [] n = omega arith
greatest_last (m ∷ ns) n = let h = greatest_last ns n in omega (arith, h)

abbrev most : List Tree → ℕ
most xs = greatest (map tree_binds xs)

most_last : (xs : List Tree) (y : Tree) → most (xs ++ y ∷ []) ≡ max (most xs) (tree_binds y)
most_last [] y = omega arith
most_last (x ∷ xs) y = let h : most (xs ++ y ∷ []) ≡ max (most xs) (tree_binds y) = most_last xs y in omega (arith, h)

binds_all_of : (xs : List Tree) → tree_binds (all_of xs) ≡ most xs
binds_all_of [] = binds_All []
binds_all_of (x ∷ []) = omega arith
binds_all_of (x ∷ y ∷ xs) = binds_All (x ∷ y ∷ xs)

binds_any_of : (xs : List Tree) → tree_binds (any_of xs) ≡ most xs
binds_any_of [] = binds_Any []
binds_any_of (x ∷ []) = omega arith
binds_any_of (x ∷ y ∷ xs) = binds_Any (x ∷ y ∷ xs)

-- none of the marks goes past a limit
abbrev pub Allowed : List Mark → Type 0
Allowed ms = AllByRecursion (λ (m : Mark). IsWithin m.loads) ms

after_head : {ms rest : List Mark} {w : Word} {p : Bool} → IsHead ms w p rest → Allowed ms → Allowed rest
after_head (IsHead.plain n i) h = h.1
after_head (IsHead.primed n p i j) h = h.1.1

mutual
  after_term : {d : ℕ} {ms rest : List Mark} {t : TermTree} → IsTerm d ms t rest → Allowed ms → Allowed rest
  after_term (IsTerm.bare i) h = after_head i h
  after_term (IsTerm.applied l r i lis ts ris) h = (after_terms ts (after_head i h).1).1

  after_terms : {d : ℕ} {ms rest : List Mark} {ts : List TermTree} → AreTerms d ms ts rest → Allowed ms → Allowed rest
  after_terms (AreTerms.one_term t) h = after_term t h
  after_terms (AreTerms.more_terms m ts i t) h = after_term t (after_terms ts h).1

after_atom : {d : ℕ} {ms rest : List Mark} {x : Tree} → IsAtom d ms x rest → Allowed ms → Allowed rest
after_atom (IsAtom.holds t) h = after_term t h
after_atom (IsAtom.compared n m t i u) h = after_term u (after_term t h).1

atom_binds : {d : ℕ} {ms rest : List Mark} {x : Tree} → IsAtom d ms x rest → tree_binds x ≡ 0
atom_binds (IsAtom.holds {t = t} i) = binds_Atom t
atom_binds (IsAtom.compared {t = t} {u = u} true m i s j) = binds_Not (tree.Equal t u) ∙ binds_Equal t u
atom_binds (IsAtom.compared {t = t} {u = u} false m i s j) = binds_Equal t u

-- the marks that follow go past none, and so many variables are in scope at most
abbrev pub Leaves : ℕ → List Mark → Type 0
Leaves count rest = (count ≤ VARIABLES) × Allowed rest

after_binder : {v : ℕ} {ms rest : List Mark} {b : Binder} → IsBinder v ms b rest → Allowed ms → Leaves (v + 1) rest
after_binder (IsBinder.binder n c s i j k) h = (subst (λ (l : Loads). l.variables ≤ VARIABLES) i.loads_are h.0.variables, h.1.1.1)

after_binders : {v : ℕ} {ms rest : List Mark} {bs : List Binder} → AreBinders v ms bs rest → Allowed ms → Leaves (v + length bs) rest
after_binders (AreBinders.one_binder b) h = after_binder b h
after_binders {v = v} (AreBinders.more_binders {bs = bs} {b = b} m bs_are i one) h =
    let front = after_binders bs_are h in
    let last = after_binder one front.1.1 in
    let count : length (bs ++ b ∷ []) ≡ length bs + 1 = length-append bs (b ∷ []) in
    (omega (arith, count, last.0), last.1)

mutual
  after_single : {c : Context} {e : End} {ms rest : List Mark} {x : Tree} → IsSingle c e ms x rest → Allowed ms → c.variables ≤ VARIABLES → Leaves (c.variables + tree_binds x) rest
  after_single (IsSingle.negated {x = x} n i s) h g =
      let part = after_single s h.1 g in
      let same = binds_Not x in
      (omega (arith, same, part.0), part.1)
  after_single (IsSingle.fixed value m i) h g = let none = binds_Constant value in (omega (arith, none, g), h.1)
  after_single (IsSingle.bracketed l r i f j) h g = let part = after_formula f h.1 g in (part.0, part.1.1)
  after_single (IsSingle.atom a) h g = let none = atom_binds a in (omega (arith, none, g), after_atom a h)
  after_single {c = c} (IsSingle.quantified {bs = bs} {x = x} u q m i bs_are j f) h g =
      let bound_here = after_binders bs_are h.1 in
      let part = after_formula f bound_here.1.1 bound_here.0 in
      let same = binds_Quantified u bs x in
      (omega (arith, same, part.0), part.1)

  after_singles : {c : Context} {e : End} {ms rest : List Mark} {xs : List Tree} → AreSingles c e ms xs rest → Allowed ms → c.variables ≤ VARIABLES → Leaves (c.variables + most xs) rest
  after_singles (AreSingles.one_single {x = x} s) h g = let part = after_single s h g in (omega (arith, part.0), part.1)
  after_singles (AreSingles.more_singles {xs = xs} {y = y} m ss i s) h g =
      let front = after_singles ss h g in
      let last = after_single s front.1.1 g in
      let all = most_last xs y in
      (omega (arith, all, front.0, last.0), last.1)

  after_boths : {c : Context} {e : End} {ms rest : List Mark} {xs : List Tree} → AreBoths c e ms xs rest → Allowed ms → c.variables ≤ VARIABLES → Leaves (c.variables + most xs) rest
  after_boths (AreBoths.one_both {xs = xs} ss) h g =
      let part = after_singles ss h g in
      let same = binds_all_of xs in
      (omega (arith, same, part.0), part.1)
  after_boths (AreBoths.more_boths {xs = xs} {ys = ys} m bs i ss) h g =
      let front = after_boths bs h g in
      let last = after_singles ss front.1.1 g in
      let all = most_last xs (all_of ys) in
      let same = binds_all_of ys in
      (omega (arith, all, same, front.0, last.0), last.1)

  after_implied : {c : Context} {e : End} {ms rest : List Mark} {x : Tree} → IsImplied c e ms x rest → Allowed ms → c.variables ≤ VARIABLES → Leaves (c.variables + tree_binds x) rest
  after_implied (IsImplied.last_implied {xs = xs} bs) h g =
      let part = after_boths bs h g in
      let same = binds_any_of xs in
      (omega (arith, same, part.0), part.1)
  after_implied (IsImplied.more_implied {xs = xs} {y = y} m bs i f) h g =
      let front = after_boths bs h g in
      let last = after_implied f front.1.1 g in
      let same = binds_any_of xs in
      let all = binds_Implies (any_of xs) y in
      (omega (arith, all, same, front.0, last.0), last.1)

  pub after_formula : {c : Context} {e : End} {i : Bool} {ms rest : List Mark} {x : Tree} → IsFormula c e i ms x rest → Allowed ms → c.variables ≤ VARIABLES → Leaves (c.variables + tree_binds x) rest
  after_formula (IsFormula.implied f) h g = after_implied f h g
  after_formula (IsFormula.joined {x = x} {y = y} m f t i k) h g =
      let front = after_implied f h g in
      let last = after_implied k front.1.1 g in
      let all = binds_Iff x y in
      (omega (arith, all, front.0, last.0), last.1)

-- a formula that is spelled without going past a limit has few variables in scope
pub spelled_few : {c : Context} {e : End} {i : Bool} {ms rest : List Mark} {x : Tree} → IsFormula c e i ms x rest → Allowed ms → c.variables ≤ VARIABLES → c.variables + tree_binds x ≤ VARIABLES
spelled_few f h g = (after_formula f h g).0

module _ (a : Around) where
  -- the formula that a tree is binds what the tree does
  abbrev BindsSame : Tree → Type 0
  BindsSame t = (scope : Scope) → binds (formula_read a t scope) ≡ tree_binds t

  fixed_same : (value : Bool) → BindsSame (tree.Constant value)
  fixed_same true scope =
      let read : formula_read a (tree.Constant true) scope ≡ formula.True = search (rules, trees.the_lemmas) in
      let none : binds formula.True ≡ 0 = search (rules, formulas.the_lemmas) in
      ap binds read ∙ none ∙ sym (binds_Constant true)
  fixed_same false scope =
      let read : formula_read a (tree.Constant false) scope ≡ formula.False = search (rules, trees.the_lemmas) in
      let none : binds formula.False ≡ 0 = search (rules, formulas.the_lemmas) in
      ap binds read ∙ none ∙ sym (binds_Constant false)

  head_binds : (o : Option Head) (p : Bool) (args : List Term) → binds (atom_by o p args) ≡ 0
  head_binds None p args = search (rules, formulas.the_lemmas)
  head_binds (Some (Head.Variable v)) p args = search (rules, formulas.the_lemmas)
  head_binds (Some (Head.Symbol k)) p args = search (rules, formulas.the_lemmas)

  named_binds : (w : Word) (p : Bool) (scope : Scope) → binds (atom_read a scope (term.Named w p)) ≡ 0
  named_binds w p scope =
      let read : atom_read a scope (term.Named w p) ≡ atom_by (head_of a scope w) p [] = search (rules, term_trees.the_lemmas) in
      ap binds read ∙ head_binds (head_of a scope w) p []

  applied_binds : (w : Word) (p : Bool) (args : List TermTree) (scope : Scope) → binds (atom_read a scope (term.Applied w p args)) ≡ 0
  applied_binds w p args scope =
      let read : atom_read a scope (term.Applied w p args) ≡ atom_by (head_of a scope w) p (map (term_read a scope) args) = search (rules, term_trees.the_lemmas) in
      ap binds read ∙ head_binds (head_of a scope w) p (map (term_read a scope) args)

  atom_layer : (scope : Scope) (x : TermTree-F TermTree) → binds (atom_read a scope (roll-TermTree x)) ≡ 0
  atom_layer scope (TermTree-F.Named w p) = ap (λ t. binds (atom_read a scope t)) (rolls-Named w p) ∙ named_binds w p scope
  atom_layer scope (TermTree-F.Applied w p args) = ap (λ t. binds (atom_read a scope t)) (rolls-Applied w p args) ∙ applied_binds w p args scope

  atom_reads : (scope : Scope) (t : TermTree) → binds (atom_read a scope t) ≡ 0
  atom_reads scope = ind-TermTree (λ t. binds (atom_read a scope t) ≡ 0) (λ x y is. atom_layer scope x)

  atom_same : (t : TermTree) → BindsSame (tree.Atom t)
  atom_same t scope = ap binds (read_Atom a scope t) ∙ atom_reads scope t ∙ sym (binds_Atom t)

  equation_same : (t u : TermTree) → BindsSame (tree.Equal t u)
  equation_same t u scope =
      let none : binds (formula.Equal (term_read a scope t) (term_read a scope u)) ≡ 0 = search (rules, formulas.the_lemmas) in
      ap binds (read_Equal a scope t u) ∙ none ∙ sym (binds_Equal t u)

  negation_same : (p : Tree) → BindsSame p → BindsSame (tree.Not p)
  negation_same p h scope =
      let read : formula_read a (tree.Not p) scope ≡ formula.Not (formula_read a p scope) = search (rules, trees.the_lemmas) in
      let whole : binds (formula.Not (formula_read a p scope)) ≡ binds (formula_read a p scope) = search (rules, formulas.the_lemmas) in
      ap binds read ∙ whole ∙ h scope ∙ sym (binds_Not p)

  each_same : (ps : List Tree) → AllByRecursion BindsSame ps → (scope : Scope) → greatest (map binds (all_read a ps scope)) ≡ most ps
  each_same [] h scope = refl
  each_same (p ∷ ps) h scope = ap (λ n. max n (greatest (map binds (all_read a ps scope)))) (h.0 scope) ∙ ap (max (tree_binds p)) (each_same ps h.1 scope)

  conjunction_same : (ps : List Tree) → AllByRecursion BindsSame ps → BindsSame (tree.All ps)
  conjunction_same ps h scope =
      let read : formula_read a (tree.All ps) scope ≡ formula.All (all_read a ps scope) = search (rules, trees.the_lemmas) in
      let whole : binds (formula.All (all_read a ps scope)) ≡ greatest (map binds (all_read a ps scope)) = search (rules, formulas.the_lemmas) in
      ap binds read ∙ whole ∙ each_same ps h scope ∙ sym (binds_All ps)

  disjunction_same : (ps : List Tree) → AllByRecursion BindsSame ps → BindsSame (tree.Any ps)
  disjunction_same ps h scope =
      let read : formula_read a (tree.Any ps) scope ≡ formula.Any (all_read a ps scope) = search (rules, trees.the_lemmas) in
      let whole : binds (formula.Any (all_read a ps scope)) ≡ greatest (map binds (all_read a ps scope)) = search (rules, formulas.the_lemmas) in
      ap binds read ∙ whole ∙ each_same ps h scope ∙ sym (binds_Any ps)

  implication_same : (p q : Tree) → BindsSame p → BindsSame q → BindsSame (tree.Implies p q)
  implication_same p q h g scope =
      let read : formula_read a (tree.Implies p q) scope ≡ formula.Implies (formula_read a p scope) (formula_read a q scope) = search (rules, trees.the_lemmas) in
      let whole : binds (formula.Implies (formula_read a p scope) (formula_read a q scope)) ≡ max (binds (formula_read a p scope)) (binds (formula_read a q scope)) = search (rules, formulas.the_lemmas) in
      ap binds read ∙ whole ∙ ap (λ n. max n (binds (formula_read a q scope))) (h scope) ∙ ap (max (tree_binds p)) (g scope) ∙ sym (binds_Implies p q)

  equivalence_same : (p q : Tree) → BindsSame p → BindsSame q → BindsSame (tree.Iff p q)
  equivalence_same p q h g scope =
      let read : formula_read a (tree.Iff p q) scope ≡ formula.Iff (formula_read a p scope) (formula_read a q scope) = search (rules, trees.the_lemmas) in
      let whole : binds (formula.Iff (formula_read a p scope) (formula_read a q scope)) ≡ max (binds (formula_read a p scope)) (binds (formula_read a q scope)) = search (rules, formulas.the_lemmas) in
      ap binds read ∙ whole ∙ ap (λ n. max n (binds (formula_read a q scope))) (h scope) ∙ ap (max (tree_binds p)) (g scope) ∙ sym (binds_Iff p q)

  body_binds : (u : Bool) (vs : List logic.Binder) (f : Formula) → binds (quantified u vs f) ≡ length vs + binds f
  body_binds true vs f = search (rules, formulas.the_lemmas)
  body_binds false vs f = search (rules, formulas.the_lemmas)

  quantified_same : (u : Bool) (bs : List Binder) (p : Tree) → BindsSame p → BindsSame (tree.Quantified u bs p)
  quantified_same u bs p h scope =
      let vs = map (bound a) bs in
      let read : formula_read a (tree.Quantified u bs p) scope ≡ body_read a u bs p scope = search (rules, trees.the_lemmas) in
      ap binds read ∙ body_binds u vs (formula_read a p (scope ++ vs))
      ∙ ap (λ n. n + binds (formula_read a p (scope ++ vs))) (length-map bs (bound a))
      ∙ ap (λ n. length bs + n) (h (scope ++ vs))
      ∙ sym (binds_Quantified u bs p)

  tree_layer : (y : Tree-F ((t : Tree) × BindsSame t)) → BindsSame (roll-Tree (trees.map-Tree ((t : Tree) × BindsSame t) Tree (λ e. e.0) y))
  tree_layer (Tree-F.Constant value) = subst BindsSame (sym (rolls-Constant value)) (fixed_same value)
  tree_layer (Tree-F.Atom t) = subst BindsSame (sym (rolls-Atom t)) (atom_same t)
  tree_layer (Tree-F.Equal t u) = subst BindsSame (sym (rolls-Equal t u)) (equation_same t u)
  tree_layer (Tree-F.Not p) = subst BindsSame (sym (rolls-Not p.0)) (negation_same p.0 p.1)
  tree_layer (Tree-F.All ps) = subst BindsSame (sym (rolls-All (map (λ e. e.0) ps))) (conjunction_same (map (λ e. e.0) ps) (all_of_pairs BindsSame ps))
  tree_layer (Tree-F.Any ps) = subst BindsSame (sym (rolls-Any (map (λ e. e.0) ps))) (disjunction_same (map (λ e. e.0) ps) (all_of_pairs BindsSame ps))
  tree_layer (Tree-F.Implies p q) = subst BindsSame (sym (rolls-Implies p.0 q.0)) (implication_same p.0 q.0 p.1 q.1)
  tree_layer (Tree-F.Iff p q) = subst BindsSame (sym (rolls-Iff p.0 q.0)) (equivalence_same p.0 q.0 p.1 q.1)
  tree_layer (Tree-F.Quantified u bs p) = subst BindsSame (sym (rolls-Quantified u bs p.0)) (quantified_same u bs p.0 p.1)

  pub binds_same : (t : Tree) → BindsSame t
  binds_same = ind-Tree BindsSame (λ x y is. subst (λ z. BindsSame (roll-Tree z)) is (tree_layer y))

first_is : (vs : List Violation) (g f : Formula) → ◌≡◌ {A = Result Formula TextError} (Ok f) (first_broken vs g) → f ≡ g
first_is [] g f e = cc
first_is (v ∷ vs) g f e = cc

whole_few : (a : Around) (scope : Scope) (ws : List Word) (found : Read) (f : Formula) → length scope ≤ VARIABLES → IsAnswer (base_in scope) ws found → Ok f ≡ outcome a scope ws found → length scope + binds f ≤ VARIABLES
whole_few a scope ws (Read.Syntax n) f g i e = cc
whole_few a scope ws (Read.TooDeep n) f g i e = cc
whole_few a scope ws (Read.Formula x n) f g i e = whole (n == length ws) e
  where
    whole : (b : Bool) → ◌≡◌ {A = Result Formula TextError} (Ok f) (if b then first_broken (faults a x scope) (formula_read a x scope) else Err (TextError.Syntax (place_in (length a.text) ws n))) → length scope + binds f ≤ VARIABLES
    whole true h =
        let same : binds f ≡ tree_binds x = ap binds (first_is (faults a x scope) (formula_read a x scope) f h) ∙ binds_same a x scope in
        let few : length scope + tree_binds x ≤ VARIABLES = spelled_few i.0.spelled.1.1 i.0.begins.allowed g in
        omega (arith, same, few)
    whole false h = cc

pub read_binds_few : ReadBindsFew
read_binds_few a scope f g (HasFormula.bad at h e) = cc
read_binds_few a scope f g (HasFormula.read tokens found h i e) = whole_few a scope (map (word_of a.text) tokens) found f g i e
