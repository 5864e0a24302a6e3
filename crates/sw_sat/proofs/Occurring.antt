-- The lists of occurrences, as clauses are added.
use Rattle.std.specs.Prelude.{◌≡◌, ◌+◌, ◌*◌, ◌<◌, ℕ, List, [], ◌∷◌, ◌++◌, length, map, Contains}
use Rattle.std.proofs.Common.{refl, sym, ap, ◌∙◌, inl, inr, subst, ⊎_elim, arith, get_or, set}
use Rattle.std.proofs.lemmas.Bool.{cases_eq}
use Rattle.std.proofs.lemmas.List.{get_or-map, get_or-set_same, get_or-set_other, length-map, length-set, length_push, map-set}
use Rattle.std.proofs.lemmas.List.Elements.{Contains-append_left, Contains-push, Contains-push_cases}
use Rattle.sw_refute.specs.declared.clauses.Clause.{Clause}
use Rattle.sw_refute.specs.declared.clauses.Lit.{Lit}
use Rattle.sw_sat.specs.Occurring.{IsIndex, HasAdded}
use Rattle.sw_lists.proofs.Places.{get_push_cases}

pub added_none : (lists : List (List ℕ)) (number : ℕ) → HasAdded lists [] number lists
added_none lists number = record {
  size = refl;
  gained = λ l (k, h, e). absurd (omega arith);
  kept = λ at n c. c;
  only = λ at n c. inr c;
}

-- one literal more
pub added_next : (old mid : List (List ℕ)) (lits : List Lit) (l : Lit) (number : ℕ) → HasAdded old lits number mid → l.0 < length old
    → HasAdded old (lits ++ l ∷ []) number (set mid l.0 (get_or mid l.0 [] ++ number ∷ []))
added_next old mid lits l number a h = record {
  size = length-set mid l.0 (get_or mid l.0 [] ++ number ∷ []) ∙ a.size;
  gained = λ m c. ⊎_elim (λ x. keeps m.0 number (a.gained m x)) (λ (i : l ≡ m). subst (λ (x : Lit). Contains (get_or new x.0 []) number) i (subst (λ ns. Contains ns number) (sym here) (Contains-push (get_or mid l.0 []) number)))
      (Contains-push_cases lits l m c);
  kept = λ at n c. keeps at n (a.kept at n c);
  only = λ at n c. ⊎_elim
      (λ (i : at ≡ l.0). ⊎_elim (λ x. a.only at n (subst (λ (k : ℕ). Contains (get_or mid k []) n) (sym i) x)) (λ (x : number ≡ n). inl (sym x))
      (Contains-push_cases (get_or mid l.0 []) number n (subst (λ ns. Contains ns n) here (subst (λ (k : ℕ). Contains (get_or new k []) n) i c))))
      (λ (d : at ≡ l.0 → ⊥). a.only at n (subst (λ ns. Contains ns n) (other at d) c))
      (cases_eq at l.0);
}
  where
    new : List (List ℕ)
    new = set mid l.0 (get_or mid l.0 [] ++ number ∷ [])

    here : get_or new l.0 [] ≡ get_or mid l.0 [] ++ number ∷ []
    here = get_or-set_same mid l.0 (get_or mid l.0 [] ++ number ∷ []) [] (omega (arith, a.size))

    other : (at : ℕ) → (at ≡ l.0 → ⊥) → get_or new at [] ≡ get_or mid at []
    other at d = get_or-set_other mid l.0 at (get_or mid l.0 [] ++ number ∷ []) [] d

    keeps : (at n : ℕ) → Contains (get_or mid at []) n → Contains (get_or new at []) n
    keeps at n c = ⊎_elim
        (λ (i : at ≡ l.0). subst (λ (k : ℕ). Contains (get_or new k []) n) (sym i) (subst (λ ns. Contains ns n) (sym here) (Contains-append_left (get_or mid l.0 []) (number ∷ []) n (subst (λ (k : ℕ). Contains (get_or mid k []) n) i c))))
        (λ (d : at ≡ l.0 → ⊥). subst (λ ns. Contains ns n) (sym (other at d)) c)
        (cases_eq at l.0)

-- the same, where the lists are those of other values
pub added_at : {A : Type 0} (f : A → List ℕ) (old : List (List ℕ)) (mid : List A) (lits : List Lit) (l : Lit) (number : ℕ) (v w : A) → HasAdded old lits number (map f mid) → l.0 < length old
    → v ≡ get_or mid l.0 v → f w ≡ f v ++ number ∷ [] → HasAdded old (lits ++ l ∷ []) number (map f (set mid l.0 w))
added_at f old mid lits l number v w a h at is =
    let n : l.0 < length mid = omega (arith, a.size, length-map mid f) in
    let here : f v ≡ get_or (map f mid) l.0 [] = ap f at ∙ sym (get_or-map f mid l.0 v [] n) in
    subst (λ ls. HasAdded old (lits ++ l ∷ []) number ls) (sym (map-set f mid l.0 w ∙ ap (set (map f mid) l.0) (is ∙ ap (λ ns. ns ++ number ∷ []) here))) (added_next old (map f mid) lits l number a h)

-- one clause more
pub index_push : (variables : ℕ) (clauses : List Clause) (old new : List (List ℕ)) (c : Clause) → IsIndex variables clauses old → HasAdded old c.lits (length clauses) new → IsIndex variables (clauses ++ c ∷ []) new
index_push variables clauses old new c index a = record {
  size = a.size ∙ index.size;
  complete = λ number d l got among. ⊎_elim
      (λ x. a.kept l.0 number (index.complete number d l x among))
      (λ (x : (number ≡ length clauses) × (d ≡ c)). subst (λ (n : ℕ). Contains (get_or new l.0 []) n) (sym x.0) (a.gained l (subst (λ (y : Clause). Contains y.lits l) x.1 among)))
      (get_push_cases clauses c number d got);
  sound = λ at number x.
      let n : length (clauses ++ c ∷ []) ≡ length clauses + 1 = length_push clauses c in
      ⊎_elim (λ (i : number ≡ length clauses). omega arith) (λ y. let h : number < length clauses = index.sound at number y in omega arith) (a.only at number x);
}

-- where no clause stands, all lists are empty
pub index_none : (variables : ℕ) (lists : List (List ℕ)) → length lists ≡ 2 * variables → ((at : ℕ) → get_or lists at [] ≡ []) → IsIndex variables [] lists
index_none variables lists size empty = record {
  size = size;
  complete = λ number c l got among. absurd (cc);
  sound = λ at number x. let y : Contains [] number = subst (λ ns. Contains ns number) (empty at) x in absurd (omega (arith, y.1));
}
