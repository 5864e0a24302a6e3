-- What the test of sorts says, as derivations, and back.
use Rattle.std.specs.Prelude.{◌≡◌, ℕ, Bool, true, false, not, ◌&&◌, ◌||◌, ◌==◌, List, [], ◌∷◌, map, Option, Some, None, slice_get}
use Rattle.std.specs.List.{list_all, AllByRecursion}
use Rattle.std.proofs.Common.{rules, arith, refl, sym, ap, subst, ◌∙◌, inl, inr}
use Rattle.std.proofs.lemmas.Bool.{and_parts, and_from, cases_Bool, cond-true, cond-false, false≢true}
use Rattle.std.proofs.lemmas.Bool.Decides.{nat_tests}
use Rattle.std.proofs.lemmas.Option.{none-some, same_Some}
use Rattle.sw_logic.specs.declared.syntax.Symbol.{Symbol}
use Rattle.sw_logic.specs.declared.syntax.Signature.{Signature}
use Rattle.sw_logic.specs.declared.syntax.Term.{Term, roll-Term, map-Term, the_lemmas}
use Rattle.sw_logic.specs.declared.syntax.Term.TheOpen.{Term-F}
use Rattle.sw_logic.specs.declared.syntax.Term.TheFolds.{ind-Term}
use Rattle.sw_logic.specs.declared.syntax.Term.TheVariants.{Variable, Apply, rolls-Variable, rolls-Apply}
use Rattle.sw_logic.specs.declared.syntax.Formula.{Formula}
use Rattle.sw_logic.specs.declared.syntax.Formula as formulas
use Rattle.sw_logic.specs.declared.syntax.Formula.TheVariants.{Holds, Equal, Not}
use Rattle.sw_logic.specs.Sorted.{gives_value, same_sort, sorts_match, value_sort, is_atom, sort_of, well_sorted}
use Rattle.sw_logic.proofs.Steps as steps
use Rattle.sw_truth.specs.Sorting.{HasSort, HaveSorts, IsAtom, IsMatrix, AreMatrices}
use Rattle.std.proofs.lemmas.Bool.{eqb-true}
use Rattle.sw_lists.proofs.Each.{each-pairs}

pub number_same : (n : ℕ) → (n == n) ≡ true
number_same n = grind arith

-- a symbol that may be read and gives a value
symbol_value : (o : Option Symbol) (primed : Bool) (found : List (Option ℕ)) (sort : ℕ) → value_sort o (false || not primed) found ≡ Some sort
    → (s : Symbol) × (o ≡ Some s) × (primed ≡ false) × (gives_value s.kind ≡ true) × (sorts_match s.args found ≡ true) × (s.gives ≡ sort)
symbol_value None primed found sort e = absurd (none-some sort e)
symbol_value (Some s) true found sort e = absurd (none-some sort e)
symbol_value (Some s) false found sort e =
    elim (cases_Bool (gives_value s.kind && sorts_match s.args found)) [
      | inl t ↦
          let parts = and_parts (gives_value s.kind) (sorts_match s.args found) t in
          (s, refl, refl, parts.0, parts.1, same_Some s.gives sort (sym (cond-true (gives_value s.kind && sorts_match s.args found) (Some s.gives) None t) ∙ e))
      | inr f ↦ absurd (none-some sort (sym (cond-false (gives_value s.kind && sorts_match s.args found) (Some s.gives) None f) ∙ e))
    ]

symbol_atom : (o : Option Symbol) (primed : Bool) (found : List (Option ℕ)) → is_atom o (false || not primed) found ≡ true
    → (s : Symbol) × (o ≡ Some s) × (primed ≡ false) × (gives_value s.kind ≡ false) × (sorts_match s.args found ≡ true)
symbol_atom None primed found e = absurd (false≢true e)
symbol_atom (Some s) true found e = absurd (false≢true e)
symbol_atom (Some s) false found e =
    let parts = and_parts (not (gives_value s.kind)) (sorts_match s.args found) e in
    (s, refl, refl, not_true (gives_value s.kind) parts.0, parts.1)
  where
    not_true : (b : Bool) → not b ≡ true → b ≡ false
    not_true true e = sym e
    not_true false e = refl

module _ (sig : Signature) (sorts : List ℕ) where
  abbrev sort_here : Term → Option ℕ
  sort_here = sort_of sig false sorts

  abbrev IsSorted : Term → Type 0
  IsSorted t = (sort : ℕ) → sort_here t ≡ Some sort → HasSort sig sorts t sort

  variable_sorted : (v : ℕ) → IsSorted (Variable v)
  variable_sorted v sort e =
      let step : sort_here (Variable v) ≡ slice_get sorts v = search (rules, the_lemmas) in
      HasSort.variable v sort (sym step ∙ e)

  same_sorted : (sort : ℕ) (o : Option ℕ) → same_sort (Some sort) o ≡ true → o ≡ Some sort
  same_sorted sort None e = absurd (false≢true e)
  same_sorted sort (Some found) e = ap Some (sym (eqb-true sort found e))

  args_sorted : (ts : List Term) → AllByRecursion IsSorted ts → (ss : List ℕ) → sorts_match ss (map sort_here ts) ≡ true → HaveSorts sig sorts ts ss
  args_sorted [] h [] e = HaveSorts.none
  args_sorted [] h (s ∷ ss) e = absurd (false≢true e)
  args_sorted (t ∷ ts) h [] e = absurd (false≢true e)
  args_sorted (t ∷ ts) h (s ∷ ss) e =
      let parts = and_parts (same_sort (Some s) (sort_here t)) (sorts_match ss (map sort_here ts)) e in
      HaveSorts.more t ts s ss (h.0 s (same_sorted s (sort_here t) parts.0)) (args_sorted ts h.1 ss parts.1)

  apply_sorted : (k : ℕ) (primed : Bool) (args : List Term) → AllByRecursion IsSorted args → IsSorted (Apply k primed args)
  apply_sorted k primed args h sort e =
      let step : sort_here (Apply k primed args) ≡ value_sort (slice_get sig.symbols k) (false || not primed) (map sort_here args) = search (rules, the_lemmas) in
      let s = symbol_value (slice_get sig.symbols k) primed (map sort_here args) sort (sym step ∙ e) in
      let built = HasSort.apply k s.0 args s.1 s.3 (args_sorted args h s.0.args s.4) in
      subst (λ (b : Bool). HasSort sig sorts (Apply k b args) sort) (sym s.2) (subst (HasSort sig sorts (Apply k false args)) s.5 built)

  layer : (y : Term-F ((t : Term) × IsSorted t)) → IsSorted (roll-Term (map-Term ((t : Term) × IsSorted t) Term (λ e. e.0) y))
  layer (Term-F.Variable v) = subst IsSorted (sym (rolls-Variable v)) (variable_sorted v)
  layer (Term-F.Apply k primed ts) = subst IsSorted (sym (rolls-Apply k primed (map (λ e. e.0) ts))) (apply_sorted k primed (map (λ e. e.0) ts) (each-pairs IsSorted ts))

  pub term_sorted : (t : Term) → IsSorted t
  term_sorted = ind-Term IsSorted (λ x y is. subst (λ z. IsSorted (roll-Term z)) is (layer y))

  all_terms_sorted : (ts : List Term) → AllByRecursion IsSorted ts
  all_terms_sorted [] = tt
  all_terms_sorted (t ∷ ts) = (term_sorted t, all_terms_sorted ts)

  pub terms_sorted : (ts : List Term) (ss : List ℕ) → sorts_match ss (map sort_here ts) ≡ true → HaveSorts sig sorts ts ss
  terms_sorted ts ss e = args_sorted ts (all_terms_sorted ts) ss e

  -- an atom that passes the test
  pub holds_sorted : (k : ℕ) (primed : Bool) (args : List Term) → well_sorted sig false (Holds k primed args) sorts ≡ true → (primed ≡ false) × IsAtom sig sorts (Holds k false args)
  holds_sorted k primed args e =
      let step : well_sorted sig false (Holds k primed args) sorts ≡ is_atom (slice_get sig.symbols k) (false || not primed) (map sort_here args) = search (rules, formulas.the_lemmas) in
      let s = symbol_atom (slice_get sig.symbols k) primed (map sort_here args) (sym step ∙ e) in
      (s.2, IsAtom.holds k s.0 args s.1 s.3 (terms_sorted args s.0.args s.4))

  same_both : (o p : Option ℕ) → same_sort o p ≡ true → (sort : ℕ) × (o ≡ Some sort) × (p ≡ Some sort)
  same_both None p e = absurd (false≢true e)
  same_both (Some sort) None e = absurd (false≢true e)
  same_both (Some sort) (Some found) e = (sort, refl, ap Some (sym (eqb-true sort found e)))

  pub equal_sorted : (a b : Term) → well_sorted sig false (Equal a b) sorts ≡ true → IsAtom sig sorts (Equal a b)
  equal_sorted a b e =
      let step : well_sorted sig false (Equal a b) sorts ≡ same_sort (sort_here a) (sort_here b) = search (rules, formulas.the_lemmas) in
      let s = same_both (sort_here a) (sort_here b) (sym step ∙ e) in
      IsAtom.equal a b s.0 (term_sorted a s.0 s.1) (term_sorted b s.0 s.2)

  -- and back
  mutual
    pub sort_is : (t : Term) (sort : ℕ) → HasSort sig sorts t sort → sort_here t ≡ Some sort
    sort_is t sort (HasSort.variable v s e) = let step : sort_here (Variable v) ≡ slice_get sorts v = search (rules, the_lemmas) in step ∙ e
    sort_is t sort (HasSort.apply k s args e g h) =
        let step : sort_here (Apply k false args) ≡ value_sort (slice_get sig.symbols k) true (map sort_here args) = search (rules, the_lemmas) in
        step ∙ (ap (λ (o : Option Symbol). value_sort o true (map sort_here args)) e
        ∙ cond-true (gives_value s.kind && sorts_match s.args (map sort_here args)) (Some s.gives) None (and_from _ _ g (sorts_are args s.args h)))

    pub sorts_are : (ts : List Term) (ss : List ℕ) → HaveSorts sig sorts ts ss → sorts_match ss (map sort_here ts) ≡ true
    sorts_are ts ss HaveSorts.none = refl
    sorts_are ts ss (HaveSorts.more t us sort rest h hs) =
        and_from _ _ (ap (same_sort (Some sort)) (sort_is t sort h) ∙ number_same sort) (sorts_are us rest hs)

  false_not : (b : Bool) → b ≡ false → not b ≡ true
  false_not true e = sym e
  false_not false e = refl

  atom_is : (f : Formula) → IsAtom sig sorts f → well_sorted sig false f sorts ≡ true
  atom_is f (IsAtom.holds k s args e g h) =
      let step : well_sorted sig false (Holds k false args) sorts ≡ is_atom (slice_get sig.symbols k) true (map sort_here args) = search (rules, formulas.the_lemmas) in
      step ∙ (ap (λ (o : Option Symbol). is_atom o true (map sort_here args)) e ∙ and_from _ _ (false_not (gives_value s.kind) g) (sorts_are args s.args h))
  atom_is f (IsAtom.equal a b sort h i) =
      let step : well_sorted sig false (Equal a b) sorts ≡ same_sort (sort_here a) (sort_here b) = search (rules, formulas.the_lemmas) in
      step ∙ (ap (λ o. same_sort o (sort_here b)) (sort_is a sort h) ∙ (ap (same_sort (Some sort)) (sort_is b sort i) ∙ number_same sort))

  mutual
    pub matrix_is : (f : Formula) → IsMatrix sig sorts f → well_sorted sig false f sorts ≡ true
    matrix_is f IsMatrix.truth = search (rules, formulas.the_lemmas)
    matrix_is f IsMatrix.falsity = search (rules, formulas.the_lemmas)
    matrix_is f (IsMatrix.atom g i) = atom_is g i
    matrix_is f (IsMatrix.negated g i) = let step : well_sorted sig false (Not g) sorts ≡ well_sorted sig false g sorts = search (rules, formulas.the_lemmas) in step ∙ atom_is g i
    matrix_is f (IsMatrix.all ps n) = steps.sorted-All sig false ps sorts ∙ matrices_are ps n
    matrix_is f (IsMatrix.any ps n) = steps.sorted-Any sig false ps sorts ∙ matrices_are ps n

    pub matrices_are : (fs : List Formula) → AreMatrices sig sorts fs → list_all (λ p. well_sorted sig false p sorts) fs ≡ true
    matrices_are fs AreMatrices.none = refl
    matrices_are fs (AreMatrices.more p ps n ns) = and_from _ _ (matrix_is p n) (matrices_are ps ns)
