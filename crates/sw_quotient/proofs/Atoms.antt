-- What an assignment says of the atom of a variable.
use Rattle.std.specs.Prelude.{◌≡◌, ℕ, zero, suc, ◌==◌, ◌&&◌, Bool, true, false, List, [], ◌∷◌, Some, slice_get, slice_index_or}
use Rattle.std.proofs.Common.{refl, sym, subst, ap, ◌∙◌, inl, inr}
use Rattle.std.proofs.lemmas.Bool.{and_parts, and_from, eqb-true, eq-eqb, or_cases, or_left, or_right, false≢true, false_from_ne_true}
use Rattle.sw_truth.specs.declared.instances.Atom.{Atom}
use Rattle.sw_truth.specs.declared.instances.Atom.TheVariants.{Holds, Equal, Inner}
use Rattle.sw_quotient.specs.Valuations.{same_terms, same_atom, atom_holds}

-- no ground atom has two variables
abbrev pub AreOnce : List Atom → Type 0
AreOnce atoms = (i j : ℕ) (a : Atom) → (a ≡ Inner → ⊥) → slice_get atoms i ≡ Some a → slice_get atoms j ≡ Some a → i ≡ j

same_terms-refl : (ts : List ℕ) → same_terms ts ts ≡ true
same_terms-refl [] = refl
same_terms-refl (t ∷ ts) = and_from (t == t) (same_terms ts ts) (eq-eqb t t refl) (same_terms-refl ts)

same_terms-is : (ts us : List ℕ) → same_terms ts us ≡ true → ts ≡ us
same_terms-is [] [] e = refl
same_terms-is [] (u ∷ us) e = cc
same_terms-is (t ∷ ts) [] e = cc
same_terms-is (t ∷ ts) (u ∷ us) e =
    let parts = and_parts (t == u) (same_terms ts us) e in
    let first : t ≡ u = eqb-true t u parts.0 in
    let rest : ts ≡ us = same_terms-is ts us parts.1 in
    cc

pub same_atom-refl : (a : Atom) → (a ≡ Inner → ⊥) → same_atom a a ≡ true
same_atom-refl (Holds f ts) ground' = and_from (f == f) (same_terms ts ts) (eq-eqb f f refl) (same_terms-refl ts)
same_atom-refl (Equal s t u) ground' = and_from (s == s) ((t == t) && (u == u)) (eq-eqb s s refl) (and_from (t == t) (u == u) (eq-eqb t t refl) (eq-eqb u u refl))
same_atom-refl Inner ground' = absurd (ground' refl)

pub same_atom-is : (a b : Atom) → same_atom a b ≡ true → a ≡ b
same_atom-is (Holds f ts) (Holds g us) e =
    let parts = and_parts (f == g) (same_terms ts us) e in
    let first : f ≡ g = eqb-true f g parts.0 in
    let rest : ts ≡ us = same_terms-is ts us parts.1 in
    cc
same_atom-is (Holds f ts) (Equal s t u) e = cc
same_atom-is (Holds f ts) Inner e = cc
same_atom-is (Equal s t u) (Holds f ts) e = cc
same_atom-is (Equal s t u) (Equal r v w) e =
    let parts = and_parts (s == r) ((t == v) && (u == w)) e in
    let rest = and_parts (t == v) (u == w) parts.1 in
    let first : s ≡ r = eqb-true s r parts.0 in
    let second : t ≡ v = eqb-true t v rest.0 in
    let third : u ≡ w = eqb-true u w rest.1 in
    cc
same_atom-is (Equal s t u) Inner e = cc
same_atom-is Inner b e = cc

-- a variable of an atom that is true
pub record IsShown (atoms : List Atom) (values : List Bool) (a : Atom) : Type 0 where
  pub variable : ℕ
  pub is : slice_get atoms variable ≡ Some a
  pub value : slice_index_or values variable false ≡ true

later : (b : Atom) (atoms : List Atom) (value : Bool) (values : List Bool) (a : Atom) → IsShown atoms values a → IsShown (b ∷ atoms) (value ∷ values) a
later b atoms value values a s = record { variable = suc s.variable; is = s.is; value = s.value }

pub shown : (atoms : List Atom) (values : List Bool) (a : Atom) → atom_holds atoms values a ≡ true → IsShown atoms values a
shown [] values a e = absurd (false≢true e)
shown (b ∷ atoms) [] a e = absurd (false≢true e)
shown (b ∷ atoms) (value ∷ values) a e =
    elim (or_cases (same_atom b a && value) (atom_holds atoms values a) e) [
      | inl here ↦ let parts = and_parts (same_atom b a) value here in record { variable = 0; is = ap Some (same_atom-is b a parts.0); value = parts.1 }
      | inr rest ↦ later b atoms value values a (shown atoms values a rest)
    ]

pub holds_at : (atoms : List Atom) (values : List Bool) (a : Atom) (v : ℕ) → (a ≡ Inner → ⊥) → slice_get atoms v ≡ Some a → slice_index_or values v false ≡ true → atom_holds atoms values a ≡ true
holds_at [] values a v g e f = cc
holds_at (b ∷ atoms) [] a v g e f = absurd (false≢true f)
holds_at (b ∷ atoms) (value ∷ values) a zero g e f =
    let same : b ≡ a = cc in
    or_left (same_atom b a && value) (atom_holds atoms values a) (and_from (same_atom b a) value (subst (λ x. same_atom x a ≡ true) (sym same) (same_atom-refl a g)) f)
holds_at (b ∷ atoms) (value ∷ values) a (suc v) g e f = or_right (same_atom b a && value) (atom_holds atoms values a) (holds_at atoms values a v g e f)

-- an atom is true exactly where its one variable is
pub atom_is_variable : (atoms : List Atom) (values : List Bool) (a : Atom) (v : ℕ) → AreOnce atoms → (a ≡ Inner → ⊥) → slice_get atoms v ≡ Some a → (b : Bool) → slice_index_or values v false ≡ b → atom_holds atoms values a ≡ b
atom_is_variable atoms values a v once g e true f = holds_at atoms values a v g e f
atom_is_variable atoms values a v once g e false f =
    false_from_ne_true (atom_holds atoms values a)
    (λ h. let s = shown atoms values a h in
    let same : s.variable ≡ v = once s.variable v a g s.is e in
    false≢true (sym f ∙ ap (λ k. slice_index_or values k false) (sym same) ∙ s.value))
