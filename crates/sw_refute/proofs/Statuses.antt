-- The status of a clause, one literal after another.
use Rattle.std.specs.Prelude.{◌≡◌, ◌⊎◌, List, [], ◌∷◌, ◌++◌, Some, All, Contains}
use Rattle.std.proofs.Common.{refl, sym, ◌∙◌, subst, inl, inr}
use Rattle.std.proofs.lemmas.List.Elements.{All-contains, All-pop, All-push, All-weaker, All-nil, All-cons, All-head, All-tail, Contains-append_left, Contains-push}
use Rattle.sw_refute.specs.declared.clauses.Lit.{Lit}
use Rattle.sw_refute.specs.declared.trail.Status.{Status}
use Rattle.sw_refute.specs.declared.trail.Status.TheVariants.{Conflicting, Unit as Single, Neither}
use Rattle.sw_refute.specs.Propagation.{IsFalse}
use Rattle.sw_refute.specs.Trail.{Extends}
use Rattle.sw_lists.proofs.Members.{contains_head, contains_tail}

-- what holds of a list that is one element longer holds of the list
front_all : {X : Type 0} (P : X → Type 0) (xs : List X) (x : X) → All P (xs ++ x ∷ []) → All P xs
front_all P xs x a = (All-pop P (xs ++ x ∷ []) xs (Some x) refl a).0

back_all : {X : Type 0} (P : X → Type 0) (xs : List X) (x : X) → All P (xs ++ x ∷ []) → P x
back_all P xs x a = All-contains P (xs ++ x ∷ []) x a (Contains-push xs x)

-- where each literal is false or this one, all are false or this one is among them
false_or_among : (known lits : List Lit) (x : Lit) → All (λ m. (m ≡ x) ⊎ IsFalse known m) lits → All (IsFalse known) lits ⊎ Contains lits x
false_or_among known [] x a = inl (All-nil (IsFalse known))
false_or_among known (l ∷ lits) x a =
    elim (All-head (λ m. (m ≡ x) ⊎ IsFalse known m) l lits a) [
      | inl e ↦ inr (subst (Contains (l ∷ lits)) e (contains_head l lits))
      | inr f ↦ elim (false_or_among known lits x (All-tail (λ m. (m ≡ x) ⊎ IsFalse known m) l lits a)) [
        | inl g ↦ inl (All-cons (IsFalse known) l lits f g)
        | inr c ↦ inr (contains_tail l lits x c)
      ]
    ]

-- nothing more makes a clause that is neither conflicting nor a unit one of these
pub neither_more : (known : List Lit) (x : Lit) → Extends known Neither x Neither
neither_more known x lits h = (
  λ f. h.0 (front_all (IsFalse known) lits x f),
  λ l u.
      let others : All (λ m. (m ≡ l) ⊎ IsFalse known m) lits = front_all (λ m. (m ≡ l) ⊎ IsFalse known m) lits x u.others in
      elim (false_or_among known lits l others) [
        | inl f ↦ h.0 f
        | inr c ↦ h.1 l (record { among = c; unassigned = u.unassigned; others = others })
      ],
)

-- one more literal that is false
pub false_more : (known : List Lit) (s : Status) (x : Lit) → IsFalse known x → Extends known s x s
false_more known Conflicting x f = λ lits h. All-push (IsFalse known) lits x h f
false_more known (Single l) x f = λ lits u. record {
  among = Contains-append_left lits (x ∷ []) l u.among;
  unassigned = u.unassigned;
  others = All-push (λ m. (m ≡ l) ⊎ IsFalse known m) lits x u.others (inr f);
}
false_more known Neither x f = neither_more known x

-- one more literal that is true
pub true_more : (known : List Lit) (s : Status) (x : Lit) → (IsFalse known x → ⊥) → Contains known x → Extends known s x Neither
true_more known s x f t lits h = (
  λ g. f (back_all (IsFalse known) lits x g),
  λ l u.
      elim (back_all (λ m. (m ≡ l) ⊎ IsFalse known m) lits x u.others) [
        | inl e ↦ u.unassigned.0 (subst (Contains known) e t)
        | inr g ↦ f g
      ],
)

pub first_open : (known : List Lit) (x : Lit) → (IsFalse known x → ⊥) → (Contains known x → ⊥) → Extends known Conflicting x (Single x)
first_open known x f t lits h = record {
  among = Contains-push lits x;
  unassigned = (t, f);
  others = All-push (λ m. (m ≡ x) ⊎ IsFalse known m) lits x (All-weaker (IsFalse known) (λ m. (m ≡ x) ⊎ IsFalse known m) (λ m g. inr g) lits h) (inl refl);
}

pub same_more : (known : List Lit) (l x : Lit) → l ≡ x → Extends known (Single l) x (Single l)
same_more known l x e lits u = record {
  among = Contains-append_left lits (x ∷ []) l u.among;
  unassigned = u.unassigned;
  others = All-push (λ m. (m ≡ l) ⊎ IsFalse known m) lits x u.others (inl (sym e));
}

pub other_more : (known : List Lit) (l x : Lit) → (IsFalse known x → ⊥) → (l ≡ x → ⊥) → Extends known (Single l) x Neither
other_more known l x f ne lits u = (
  λ g. f (back_all (IsFalse known) lits x g),
  λ k v.
      elim (back_all (λ m. (m ≡ k) ⊎ IsFalse known m) lits x v.others) [
        | inl e ↦
            elim (All-contains (λ m. (m ≡ k) ⊎ IsFalse known m) (lits ++ x ∷ []) l v.others (Contains-append_left lits (x ∷ []) l u.among)) [
              | inl d ↦ ne (d ∙ sym e)
              | inr g ↦ u.unassigned.1 g
            ]
        | inr g ↦ f g
      ],
)
