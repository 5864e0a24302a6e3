-- Which literals of named clauses an assignment makes true.
use Rattle.std.specs.Prelude.{◌≡◌, ◌⊎◌, ◌/◌, ℕ, zero, suc, ◌==◌, ◌||◌, not, Bool, true, false, cond, List, [], ◌∷◌, ◌++◌, Some, slice_get, Contains, if◌then◌else◌}
use Rattle.std.specs.List.{list_any, filter, AllByRecursion}
use Rattle.std.proofs.Common.{refl, sym, subst, ap, ◌∙◌, inl, inr}
use Rattle.std.proofs.lemmas.Bool.{and_parts, or_cases, or_left, or_right, false≢true}
use Rattle.std.proofs.lemmas.Option.{none-some, same_Some}
use Rattle.sw_refute.specs.declared.clauses.Lit.{Lit}
use Rattle.sw_refute.specs.declared.clauses.Clause.{Clause}
use Rattle.sw_refute.specs.Satisfaction.{Assignment, variable, is_positive, lit_holds, clause_holds, all_hold}
use Rattle.sw_quotient.proofs.Elements.{among, last, contains_at, where_is}
use Rattle.sw_instances.specs.Named.{Name, Literal, opposite}
use Rattle.sw_instances.specs.Numbered.{Beside, InOrder, IsLiteral, once, IsClause}

-- no name stands twice
abbrev pub AreUnique : List Name → Type 0
AreUnique names = (i j : ℕ) (x : Name) → slice_get names i ≡ Some x → slice_get names j ≡ Some x → i ≡ j

unique_more : (names : List Name) (n : Name) → (Contains names n → ⊥) → AreUnique names → AreUnique (names ++ n ∷ [])
unique_more names n new h i j x e f = elim (where_is names n i x e) [
  | among g ↦ elim (where_is names n j x f) [
    | among k ↦ h i j x g k
    | last k is ↦ absurd (new (contains_at names i n (g ∙ ap Some (sym is))))
  ]
  | last g is ↦ elim (where_is names n j x f) [
    | among k ↦ absurd (new (contains_at names j n (k ∙ ap Some (sym is))))
    | last k also ↦ g ∙ sym k
  ]
]

unique_by : {before xs after : List Name} → InOrder before xs after → AreUnique before → AreUnique after
unique_by InOrder.done h = h
unique_by (InOrder.known k o) h = unique_by o h
unique_by (InOrder.first {before} {after} {rest} {n = m} k o) h = unique_by o (unique_more before m k h)

pub are_unique : {xs names : List Name} → InOrder [] xs names → AreUnique names
are_unique o = unique_by o (λ i j x e f. absurd (none-some x e))

-- what stands beside an element
pub beside_right : {X Y : Type 0} (R : X → Y → Type 0) (xs : List X) (ys : List Y) → Beside R xs ys → (k : ℕ) (y : Y) → slice_get ys k ≡ Some y → (x : X) × (slice_get xs k ≡ Some x) × R x y
beside_right R [] [] h k y e = absurd (none-some y e)
beside_right R [] (z ∷ ys) h k y e = absurd h
beside_right R (x ∷ xs) [] h k y e = absurd h
beside_right R (x ∷ xs) (z ∷ ys) h zero y e = (x, refl, subst (R x) (same_Some z y e) h.0)
beside_right R (x ∷ xs) (z ∷ ys) h (suc k) y e = beside_right R xs ys h.1 k y e

pub beside_left : {X Y : Type 0} (R : X → Y → Type 0) (xs : List X) (ys : List Y) → Beside R xs ys → (k : ℕ) (x : X) → slice_get xs k ≡ Some x → (y : Y) × (slice_get ys k ≡ Some y) × R x y
beside_left R [] [] h k x e = absurd (none-some x e)
beside_left R [] (y ∷ ys) h k x e = absurd h
beside_left R (z ∷ xs) [] h k x e = absurd h
beside_left R (z ∷ xs) (y ∷ ys) h zero x e = (y, refl, subst (λ w. R w y) (same_Some z x e) h.0)
beside_left R (z ∷ xs) (y ∷ ys) h (suc k) x e = beside_left R xs ys h.1 k x e

module _ (names : List Name) (a : Assignment) where
  -- the variable of the literal's name makes it true
  pub record IsSaid (l : Literal) : Type 0 where
    pub variable : ℕ
    pub is : slice_get names variable ≡ Some l.name
    pub value : a variable ≡ l.positive

  abbrev pub SomeSaid : List Literal → Type 0
  SomeSaid [] = ⊥
  SomeSaid (l ∷ ls) = IsSaid l ⊎ SomeSaid ls

  -- each clause has a literal that is true
  abbrev pub AreSaid : List (List Literal) → Type 0
  AreSaid [] = Unit {0}
  AreSaid (c ∷ cs) = SomeSaid c × AreSaid cs

  by_sign : (p q : Bool) → p ≡ q → (x : Bool) → (if p then x else not x) ≡ true → x ≡ q
  by_sign true q s x e = e ∙ s
  by_sign false q s true e = absurd (false≢true e)
  by_sign false q s false e = s

  literal_said : (l : Literal) (m : Lit) → IsLiteral names l m → lit_holds a m ≡ true → IsSaid l
  literal_said l m h e = record { variable = m.0 / 2; is = h.variable; value = by_sign (is_positive m) l.positive h.sign (a (variable m)) e }

  some_said : (ls : List Literal) (ms : List Lit) → Beside (IsLiteral names) ls ms → list_any (lit_holds a) ms ≡ true → SomeSaid ls
  some_said [] [] h e = absurd (false≢true e)
  some_said [] (m ∷ ms) h e = absurd h
  some_said (l ∷ ls) [] h e = absurd h
  some_said (l ∷ ls) (m ∷ ms) h e =
      elim (or_cases (lit_holds a m) (list_any (lit_holds a) ms) e) [ inl t ↦ inl (literal_said l m h.0 t) | inr r ↦ inr (some_said ls ms h.1 r) ]

  any_by : (p : Lit → Bool) (b : Bool) (m : Lit) (xs ms : List Lit) → (list_any p xs ≡ true → list_any p ms ≡ true) → list_any p (cond b (m ∷ xs) xs) ≡ true → list_any p (m ∷ ms) ≡ true
  any_by p true m xs ms f e = elim (or_cases (p m) (list_any p xs) e) [ inl t ↦ or_left (p m) (list_any p ms) t | inr r ↦ or_right (p m) (list_any p ms) (f r) ]
  any_by p false m xs ms f e = or_right (p m) (list_any p ms) (f e)

  any_filtered : (p q : Lit → Bool) (ms : List Lit) → list_any p (filter q ms) ≡ true → list_any p ms ≡ true
  any_filtered p q [] e = e
  any_filtered p q (m ∷ ms) e = any_by p (q m) m (filter q ms) ms (any_filtered p q ms) e

  any_once : (p : Lit → Bool) (ms : List Lit) → list_any p (once ms) ≡ true → list_any p ms ≡ true
  any_once p [] e = e
  any_once p (l ∷ ls) e =
      let others = λ (m : Lit). not (m.0 == l.0) in
      elim (or_cases (p l) (list_any p (filter others (once ls))) e) [
        | inl t ↦ or_left (p l) (list_any p ls) t
        | inr r ↦ or_right (p l) (list_any p ls) (any_once p ls (any_filtered p others (once ls) r))
      ]

  pub clauses_said : (named : List (List Literal)) (cs : List Clause) → Beside (IsClause names) named cs → all_hold a cs ≡ true → AreSaid named
  clauses_said [] [] h e = tt
  clauses_said [] (c ∷ cs) h e = absurd h
  clauses_said (ls ∷ named) [] h e = absurd h
  clauses_said (ls ∷ named) (c ∷ cs) h e =
      let parts = and_parts (clause_holds a c) (all_hold a cs) e in
      let is = h.0 in
      (some_said ls is.numbered is.beside (any_once (lit_holds a) is.numbered (sym (ap (list_any (lit_holds a)) is.once) ∙ parts.0)), clauses_said named cs h.1 parts.1)

  pub said_front : (xs ys : List (List Literal)) → AreSaid (xs ++ ys) → AreSaid xs
  said_front [] ys h = tt
  said_front (x ∷ xs) ys h = (h.0, said_front xs ys h.1)

  pub said_back : (xs ys : List (List Literal)) → AreSaid (xs ++ ys) → AreSaid ys
  said_back [] ys h = h
  said_back (x ∷ xs) ys h = said_back xs ys h.1

  pub only : (l : Literal) → SomeSaid (l ∷ []) → IsSaid l
  only l h = elim h [ inl t ↦ t | inr r ↦ absurd r ]

  module _ (unique : AreUnique names) where
    differs : (b : Bool) → b ≡ not b → ⊥
    differs true e = false≢true (sym e)
    differs false e = false≢true e

    -- a literal and its opposite are not both true
    pub not_both : (l : Literal) → IsSaid l → IsSaid (opposite l) → ⊥
    not_both l x y = let same = unique x.variable y.variable l.name x.is y.is in differs l.positive (sym x.value ∙ ap a same ∙ y.value)

    pub without : (l : Literal) (ls : List Literal) → IsSaid l → SomeSaid (opposite l ∷ ls) → SomeSaid ls
    without l ls x h = elim h [ inl y ↦ absurd (not_both l x y) | inr r ↦ r ]
