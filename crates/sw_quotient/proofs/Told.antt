-- What a table of true atoms says, one atom after the other.
use Rattle.std.specs.Prelude.{◌≡◌, ℕ, zero, suc, ◌+◌, not, Bool, true, false, ◌&&◌, ◌||◌, ◌==◌, nat_eq, List, [], ◌∷◌, Some, slice_get, unwrap_or}
use Rattle.std.specs.Bool.{MatchBool}
use Rattle.std.specs.List.{list_any}
use Rattle.std.specs.List.Sorted.{IsPermutation}
use Rattle.std.specs.Cmp.Lexicographic.{pointwise}
use Rattle.std.proofs.Common.{arith, refl, sym, ap, ap₂, ◌∙◌, take, inl, inr}
use Rattle.std.proofs.Math.Path.{fun_ext}
use Rattle.std.proofs.lemmas.List.Sorted.{list_any-IsPermutation}
use Rattle.std.proofs.lemmas.Option.{none-some}
use Rattle.std.proofs.lemmas.Bool.{cases_Bool, false≢true, or_right, eqb-true, and_parts}
use Rattle.sw_quotient.specs.declared.reading.Equation.{Equation}
use Rattle.sw_truth.specs.declared.instances.Atom.{Atom}
use Rattle.sw_truth.specs.declared.instances.Atom.TheVariants.{Holds, Equal}
use Rattle.sw_quotient.specs.Valuations.{Valuation, same_terms, same_atom, atom_holds, valuation}

-- two valuations that say the same are one
same_valuation : (v w : Valuation) → ((f : ℕ) (ts : List ℕ) → v.holds f ts ≡ w.holds f ts) → ((sort t u : ℕ) → v.equal sort t u ≡ w.equal sort t u) → v ≡ w
same_valuation v w e f =
    let holds : v.holds ≡ w.holds = fun_ext (λ g. fun_ext (λ ts. e g ts)) in
    let equal : v.equal ≡ w.equal = fun_ext (λ sort. fun_ext (λ t. fun_ext (λ u. f sort t u))) in
    ap₂ (λ (h : ℕ → List ℕ → Bool) (k : ℕ → ℕ → ℕ → Bool). record { holds = h; equal = k }) holds equal

swapped : (p q r : Bool) → (q || (p || r)) ≡ (p || (q || r))
swapped true true r = refl
swapped true false r = refl
swapped false true r = refl
swapped false false r = refl

pub untold : (p r : Bool) → r ≡ ((p && false) || r)
untold true r = refl
untold false r = refl

said_last : (p r : Bool) → ((p && true) || r) ≡ (p || r)
said_last true r = refl
said_last false r = refl

-- one atom more
atom_more : (atoms : List Atom) (values : List Bool) (a : Atom) (i : ℕ) (b : Atom) (x : Bool) → slice_get atoms i ≡ Some b → slice_get values i ≡ Some x
    → atom_holds (take (i + 1) atoms) (take (i + 1) values) a ≡ ((same_atom b a && x) || atom_holds (take i atoms) (take i values) a)
atom_more [] values a i b x e f = absurd (none-some b e)
atom_more (c ∷ atoms) [] a i b x e f = absurd (none-some x f)
atom_more (c ∷ atoms) (y ∷ values) a zero b x e f =
    ap₂ (λ (d : Atom) (z : Bool). (same_atom d a && z) || false) (ap (λ o. unwrap_or o b) e) (ap (λ o. unwrap_or o x) f)
atom_more (c ∷ atoms) (y ∷ values) a (suc i) b x e f =
    let step : suc i + 1 ≡ suc (i + 1) = omega arith in
    rw step (ap (λ r. (same_atom c a && y) || r) (atom_more atoms values a i b x e f)
    ∙ swapped (same_atom b a && x) (same_atom c a && y) (atom_holds (take i atoms) (take i values) a))

pub told_more : (v w : Valuation) (atoms : List Atom) (values : List Bool) (i : ℕ) (b : Atom) (x : Bool) → slice_get atoms i ≡ Some b → slice_get values i ≡ Some x
    → v ≡ valuation (take i atoms) (take i values) → ((f : ℕ) (ts : List ℕ) → w.holds f ts ≡ ((same_atom b (Holds f ts) && x) || v.holds f ts))
    → ((sort t u : ℕ) → w.equal sort t u ≡ ((same_atom b (Equal sort t u) && x) || v.equal sort t u)) → w ≡ valuation (take (i + 1) atoms) (take (i + 1) values)
told_more v w atoms values i b x e f g holds equal =
    same_valuation w (valuation (take (i + 1) atoms) (take (i + 1) values))
    (λ h ts. holds h ts ∙ ap (λ (z : Valuation). (same_atom b (Holds h ts) && x) || z.holds h ts) g ∙ sym (atom_more atoms values (Holds h ts) i b x e f))
    (λ sort t u. equal sort t u ∙ ap (λ (z : Valuation). (same_atom b (Equal sort t u) && x) || z.equal sort t u) g ∙ sym (atom_more atoms values (Equal sort t u) i b x e f))

-- a key that a set has already passes the tests that equal keys pass alike
already : {K : Type 0} (eq test : K → Bool) (b : Bool) (keys : List K) → list_any eq keys ≡ true → ((k : K) → eq k ≡ true → test k ≡ b) → list_any test keys ≡ (b || list_any test keys)
already eq test false keys e same = refl
already {K = K} eq test true keys e same = found keys e
  where
    found : (ks : List K) → list_any eq ks ≡ true → list_any test ks ≡ true
    found [] h = absurd (false≢true h)
    found (k ∷ ks) h =
        elim (cases_Bool (eq k)) [
          | inl passes ↦ rw (same k passes) refl
          | inr fails ↦ or_right (test k) (list_any test ks) (found ks (rw fails at h))
        ]

-- what a test finds after a key is inserted
pub inserted : {K : Type 0} (eq test : K → Bool) (key : K) (old new : List K) (added : Bool) → added ≡ not (list_any eq old) → MatchBool added (IsPermutation (key ∷ old) new) (new ≡ old)
    → ((k : K) → eq k ≡ true → test k ≡ test key) → list_any test new ≡ ((test key && true) || list_any test old)
inserted eq test key old new true e m same = sym (list_any-IsPermutation test (key ∷ old) new m) ∙ sym (said_last (test key) (list_any test old))
inserted eq test key old new false e m same =
    elim (cases_Bool (list_any eq old)) [
      | inl had ↦ ap (list_any test) m ∙ already eq test (test key) old had same ∙ sym (said_last (test key) (list_any test old))
      | inr lacks ↦ absurd (false≢true (e ∙ ap not lacks))
    ]

eq_sym : (a b : ℕ) → (a == b) ≡ (b == a)
eq_sym a b = grind (arith)

-- what the test of two lists says
pub same_pointwise : (xs ys : List ℕ) → pointwise nat_eq xs ys ≡ same_terms ys xs
same_pointwise [] [] = refl
same_pointwise [] (y ∷ ys) = refl
same_pointwise (x ∷ xs) [] = refl
same_pointwise (x ∷ xs) (y ∷ ys) = ap₂ (λ a b. a && b) (eq_sym x y) (same_pointwise xs ys)

-- equal equations say the same
pub same_equation : (e k : Equation) (sort t u : ℕ) → (nat_eq e.sort k.sort && (nat_eq e.t k.t && nat_eq e.u k.u)) ≡ true
    → ((k.sort == sort) && ((k.t == t) && (k.u == u))) ≡ ((e.sort == sort) && ((e.t == t) && (e.u == u)))
same_equation e k sort t u h =
    let first = and_parts (nat_eq e.sort k.sort) (nat_eq e.t k.t && nat_eq e.u k.u) h in
    let rest = and_parts (nat_eq e.t k.t) (nat_eq e.u k.u) first.1 in
    rw (eqb-true e.sort k.sort first.0) (rw (eqb-true e.t k.t rest.0) (rw (eqb-true e.u k.u rest.1) refl))

-- a set asked by a key answers what is told
pub asked_equation : (e : Equation) (keys : List Equation)
    → list_any (λ (k : Equation). nat_eq e.sort k.sort && (nat_eq e.t k.t && nat_eq e.u k.u)) keys ≡ list_any (λ (k : Equation). (k.sort == e.sort) && ((k.t == e.t) && (k.u == e.u))) keys
asked_equation e [] = refl
asked_equation e (k ∷ keys) = ap₂ (λ a b. a || b) (ap₂ (λ a b. a && b) (eq_sym e.sort k.sort) (ap₂ (λ a b. a && b) (eq_sym e.t k.t) (eq_sym e.u k.u))) (asked_equation e keys)

pub asked_key : {K : Type 0} (items : K → List ℕ) (ts : List ℕ) (keys : List K) → list_any (λ k. pointwise nat_eq ts (items k)) keys ≡ list_any (λ k. same_terms (items k) ts) keys
asked_key items ts [] = refl
asked_key items ts (k ∷ keys) = ap₂ (λ a b. a || b) (same_pointwise ts (items k)) (asked_key items ts keys)
