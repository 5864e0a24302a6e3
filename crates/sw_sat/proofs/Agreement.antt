-- The values of literals agree with the trail.
use Rattle.std.specs.Prelude.{◌≡◌, ◌<◌, ◌↔◌, ◌⊎◌, ℕ, Bool, true, false, List, [], ◌∷◌, ◌++◌, length, take, Some, slice_get, Contains}
use Rattle.std.proofs.Common.{refl, sym, ap, ◌∙◌, subst, ⊎_elim, get_or, set}
use Rattle.std.proofs.lemmas.Bool.{cases_eq, false≢true}
use Rattle.std.proofs.lemmas.List.{get_or-set_same, get_or-set_other, map_push, take_at}
use Rattle.std.proofs.lemmas.List.Elements.{Contains-append_left, Contains-push, Contains-push_cases}
use Rattle.sw_refute.specs.declared.clauses.Lit.{Lit}
use Rattle.sw_sat.specs.declared.trail.Entry.{Entry}
use Rattle.sw_sat.specs.Trail.{literals}
use Rattle.sw_refute.proofs.Literals.{same_literal}
use Rattle.sw_lists.proofs.Places.{get_append_at}

pub literals_push : (entries : List Entry) (e : Entry) → literals (entries ++ e ∷ []) ≡ literals entries ++ e.lit ∷ []
literals_push entries e = map_push (λ (x : Entry). x.lit) entries e

pub push_cases : (entries : List Entry) (e : Entry) (l : Lit) → Contains (literals (entries ++ e ∷ [])) l → Contains (literals entries) l ⊎ (e.lit ≡ l)
push_cases entries e l c = Contains-push_cases (literals entries) e.lit l (subst (λ ls. Contains ls l) (literals_push entries e) c)

pub push_left : (entries : List Entry) (e : Entry) (l : Lit) → Contains (literals entries) l → Contains (literals (entries ++ e ∷ [])) l
push_left entries e l c = subst (λ ls. Contains ls l) (sym (literals_push entries e)) (Contains-append_left (literals entries) (e.lit ∷ []) l c)

pub push_right : (entries : List Entry) (e : Entry) → Contains (literals (entries ++ e ∷ [])) e.lit
push_right entries e = subst (λ ls. Contains ls e.lit) (sym (literals_push entries e)) (Contains-push (literals entries) e.lit)

pub assigned_agrees : (values : List Bool) (old new : List Entry) (e : Entry) → ((l : Lit) → (get_or values l.0 false ≡ true) ↔ Contains (literals old) l) → e.lit.0 < length values → new ≡ old ++ e ∷ []
    → (l : Lit) → (get_or (set values e.lit.0 true) l.0 false ≡ true) ↔ Contains (literals new) l
assigned_agrees values old new e agree within is l = subst (λ es. (get_or (set values e.lit.0 true) l.0 false ≡ true) ↔ Contains (literals es) l) (sym is) (⊎_elim same other (cases_eq l.0 e.lit.0))
  where
    same : l.0 ≡ e.lit.0 → (get_or (set values e.lit.0 true) l.0 false ≡ true) ↔ Contains (literals (old ++ e ∷ [])) l
    same h =
        let i : e.lit ≡ l = same_literal e.lit l (sym h) in (
          λ _. subst (Contains (literals (old ++ e ∷ []))) i (push_right old e),
          λ _. subst (λ n. get_or (set values e.lit.0 true) n false ≡ true) (sym h) (get_or-set_same values e.lit.0 true false within),
        )

    other : (l.0 ≡ e.lit.0 → ⊥) → (get_or (set values e.lit.0 true) l.0 false ≡ true) ↔ Contains (literals (old ++ e ∷ [])) l
    other h =
        let k : get_or (set values e.lit.0 true) l.0 false ≡ get_or values l.0 false = get_or-set_other values e.lit.0 l.0 true false h in (
          λ t. push_left old e l ((agree l).0 (sym k ∙ t)),
          λ c. ⊎_elim (λ a. k ∙ (agree l).1 a) (λ (i : e.lit ≡ l). absurd (h (sym (ap (λ (x : Lit). x.0) i)))) (push_cases old e l c),
        )

pub unassigned_agrees : (values : List Bool) (old new : List Entry) (e : Entry) → ((l : Lit) → (get_or values l.0 false ≡ true) ↔ Contains (literals old) l)
    → ((at : ℕ) (x : Entry) → slice_get old at ≡ Some x → Contains (literals (take at old)) x.lit → ⊥) → e.lit.0 < length values → old ≡ new ++ e ∷ []
    → (l : Lit) → (get_or (set values e.lit.0 false) l.0 false ≡ true) ↔ Contains (literals new) l
unassigned_agrees values old new e agree apart within is l = ⊎_elim same other (cases_eq l.0 e.lit.0)
  where
    alone : Contains (literals new) e.lit → ⊥
    alone c = apart (length new) e (subst (λ es. slice_get es (length new) ≡ Some e) (sym is) (get_append_at new e []))
        (subst (λ es. Contains (literals es) e.lit) (sym (ap (take (length new)) is ∙ take_at new (e ∷ []) (length new) refl)) c)

    same : l.0 ≡ e.lit.0 → (get_or (set values e.lit.0 false) l.0 false ≡ true) ↔ Contains (literals new) l
    same h =
        let i : l ≡ e.lit = same_literal l e.lit h in
        let f : get_or (set values e.lit.0 false) l.0 false ≡ false = subst (λ n. get_or (set values e.lit.0 false) n false ≡ false) (sym h) (get_or-set_same values e.lit.0 false false within) in
        (λ t. absurd (false≢true (sym f ∙ t)), λ c. absurd (alone (subst (Contains (literals new)) i c)))

    other : (l.0 ≡ e.lit.0 → ⊥) → (get_or (set values e.lit.0 false) l.0 false ≡ true) ↔ Contains (literals new) l
    other h =
        let k : get_or (set values e.lit.0 false) l.0 false ≡ get_or values l.0 false = get_or-set_other values e.lit.0 l.0 false false h in (
          λ t. ⊎_elim (λ a. a) (λ (i : e.lit ≡ l). absurd (h (sym (ap (λ (x : Lit). x.0) i)))) (push_cases new e l (subst (λ es. Contains (literals es) l) is ((agree l).0 (sym k ∙ t)))),
          λ c. k ∙ (agree l).1 (subst (λ es. Contains (literals es) l) (sym is) (push_left new e l c)),
        )

pub last_within : (values : List Bool) (old new : List Entry) (e : Entry) → ((at : ℕ) (x : Entry) → slice_get old at ≡ Some x → x.lit.0 < length values) → old ≡ new ++ e ∷ [] → e.lit.0 < length values
last_within values old new e within is = within (length new) e (subst (λ es. slice_get es (length new) ≡ Some e) (sym is) (get_append_at new e []))
