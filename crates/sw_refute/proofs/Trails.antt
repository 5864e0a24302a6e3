-- The table of a trail and its list, after an entry is written.
use Rattle.std.specs.Prelude.{◌≡◌, ◌↔◌, ℕ, ◌*◌, ◌/◌, ◌<◌, Bool, true, false, List, [], ◌∷◌, ◌++◌, length, Contains}
use Rattle.std.proofs.Common.{arith, sym, ap, ◌∙◌, subst, inl, inr, get_or, set}
use Rattle.std.proofs.lemmas.Bool.{cases_eq, cases_lt, false≢true}
use Rattle.std.proofs.lemmas.List.{get_or-set_same, get_or-set_other, get_or_past}
use Rattle.std.proofs.lemmas.List.Elements.{Contains-append_left, Contains-push, Contains-push_cases}
use Rattle.sw_refute.specs.declared.clauses.Lit.{Lit}
use Rattle.sw_refute.proofs.Literals.{same_literal}

pub within : (truth : List Bool) (l : Lit) → get_or truth l.0 false ≡ true → l.0 < length truth
within truth l e = elim (cases_lt l.0 (length truth)) [
  | inl h ↦ h
  | inr h ↦ absurd (false≢true (sym (get_or_past truth l.0 false h) ∙ e))
]

pub half_within : (n variables size : ℕ) → size ≡ 2 * variables → n / 2 < variables → n < size
half_within n variables size e h = omega arith

pub set_true : (truth : List Bool) (lits : List Lit) (l : Lit) → l.0 < length truth → ((m : Lit) → (get_or truth m.0 false ≡ true) ↔ Contains lits m) → (m : Lit) → (get_or (set truth l.0 true) m.0 false ≡ true) ↔ Contains (lits ++ l ∷ []) m
set_true truth lits l h tells m = elim (cases_eq m.0 l.0) [
  | inl e ↦
      (λ _. subst (Contains (lits ++ l ∷ [])) (same_literal l m (sym e)) (Contains-push lits l), λ _. ap (λ n. get_or (set truth l.0 true) n false) e ∙ get_or-set_same truth l.0 true false h)
  | inr ne ↦
      let kept : get_or (set truth l.0 true) m.0 false ≡ get_or truth m.0 false = get_or-set_other truth l.0 m.0 true false ne in (
        λ t. Contains-append_left lits (l ∷ []) m ((tells m).0 (sym kept ∙ t)),
        λ c. kept ∙ elim (Contains-push_cases lits l m c) [
          | inl d ↦ (tells m).1 d
          | inr e ↦ absurd (ne (ap (λ (x : Lit). x.0) (sym e)))
        ],
      )
]

pub set_false : (truth : List Bool) (lits rest : List Lit) (l : Lit) → l.0 < length truth → lits ≡ rest ++ l ∷ [] → ((m : Lit) → get_or truth m.0 false ≡ true → Contains lits m) → (m : Lit) → get_or (set truth l.0 false) m.0 false ≡ true → Contains rest m
set_false truth lits rest l h split among m t = elim (cases_eq m.0 l.0) [
  | inl e ↦ absurd (false≢true (sym (ap (λ n. get_or (set truth l.0 false) n false) e ∙ get_or-set_same truth l.0 false false h) ∙ t))
  | inr ne ↦
      let kept : get_or (set truth l.0 false) m.0 false ≡ get_or truth m.0 false = get_or-set_other truth l.0 m.0 false false ne in
      elim (Contains-push_cases rest l m (subst (λ ls. Contains ls m) split (among m (sym kept ∙ t)))) [
        | inl d ↦ d
        | inr e ↦ absurd (ne (ap (λ (x : Lit). x.0) (sym e)))
      ]
]
