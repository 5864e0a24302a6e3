-- One more literal, each kept once.
use Rattle.std.proofs.Common.{◌≡◌, Bool, true, false, cond, List, [], ◌∷◌, ◌++◌, refl, sym, ap, ◌∙◌, subst, inl, inr, append-nil}
use Rattle.std.specs.Prelude.{◌==◌, ◌||◌, not, OnOk, Result, Ok, Err}
use Rattle.std.specs.List.{list_any, filter}
use Rattle.std.proofs.lemmas.Bool.{cases_eq, eq-eqb, ne_eqb, eqb-true, false≢true}
use Rattle.std.proofs.lemmas.Map.Views.{any-filter_same}
use Rattle.sw_refute.specs.declared.clauses.Lit.{Lit}
use Rattle.sw_instances.specs.Numbered.{once}

abbrev is_not : Lit → Lit → Bool
is_not x m = not (m.0 == x.0)

abbrev is_it : Lit → Lit → Bool
is_it l m = m.0 == l.0

filtered_push : (p : Lit → Bool) (xs : List Lit) (l : Lit) (b : Bool) → p l ≡ b → filter p (xs ++ l ∷ []) ≡ filter p xs ++ (cond b (l ∷ []) [])
filtered_push p [] l b e = ap (λ v. cond v (l ∷ []) []) e
filtered_push p (x ∷ xs) l b e =
    let rest = filtered_push p xs l b e in
    elim (p x) as (λ v. cond v (x ∷ filter p (xs ++ l ∷ [])) (filter p (xs ++ l ∷ [])) ≡ cond v (x ∷ filter p xs) (filter p xs) ++ cond b (l ∷ []) [])
    [ true ↦ ap (λ (ys : List Lit). x ∷ ys) rest | false ↦ rest ]

-- what `once` of one more is
abbrev pushed : List Lit → Lit → Bool → List Lit
pushed ls l b = cond b (once ls) (once ls ++ l ∷ [])

same_step : (x l : Lit) (ls : List Lit) → x.0 ≡ l.0 → (b : Bool) → once (ls ++ l ∷ []) ≡ pushed ls l b → filter (is_not x) (once (ls ++ l ∷ [])) ≡ filter (is_not x) (once ls)
same_step x l ls same true e = ap (filter (is_not x)) e
same_step x l ls same false e =
    let out : is_not x l ≡ false = ap not (eq-eqb l.0 x.0 (sym same)) in
    ap (filter (is_not x)) e ∙ filtered_push (is_not x) (once ls) l false out ∙ append-nil (filter (is_not x) (once ls))

other_step : (x l : Lit) (ls : List Lit) → (x.0 ≡ l.0 → ⊥) → (b : Bool) → once (ls ++ l ∷ []) ≡ pushed ls l b
    → x ∷ filter (is_not x) (once (ls ++ l ∷ [])) ≡ cond b (x ∷ filter (is_not x) (once ls)) (x ∷ filter (is_not x) (once ls) ++ l ∷ [])
other_step x l ls apart true e = ap (λ (ys : List Lit). x ∷ filter (is_not x) ys) e
other_step x l ls apart false e =
    let kept : is_not x l ≡ true = ap not (ne_eqb l.0 x.0 (λ s. apart (sym s))) in
    ap (λ (ys : List Lit). x ∷ filter (is_not x) ys) e ∙ ap (λ (ys : List Lit). x ∷ ys) (filtered_push (is_not x) (once ls) l true kept)

stays : (x l : Lit) → (x.0 ≡ l.0 → ⊥) → (k : Lit) → is_it l k ≡ true → is_not x k ≡ true
stays x l apart k e = ap not (ne_eqb k.0 x.0 (λ s. apart (sym s ∙ eqb-true k.0 l.0 e)))

pub once_push : (ls : List Lit) (l : Lit) (b : Bool) → list_any (is_it l) (once ls) ≡ b → once (ls ++ l ∷ []) ≡ pushed ls l b
once_push [] l true e = absurd (false≢true e)
once_push [] l false e = refl
once_push (x ∷ ls) l b e = elim (cases_eq x.0 l.0) [
  | inl same ↦
      let yes : true ≡ b = ap (λ v. v || list_any (is_it l) (filter (is_not x) (once ls))) (sym (eq-eqb x.0 l.0 same)) ∙ e in
      let step = ap (λ (ys : List Lit). x ∷ ys) (same_step x l ls same _ (once_push ls l _ refl)) in
      subst (λ v. once (x ∷ ls ++ l ∷ []) ≡ pushed (x ∷ ls) l v) yes step
  | inr apart ↦
      let no : list_any (is_it l) (once ls) ≡ b =
      sym (any-filter_same (is_it l) (is_not x) true (stays x l apart) (once ls)) ∙ ap (λ v. v || list_any (is_it l) (filter (is_not x) (once ls))) (sym (ne_eqb x.0 l.0 apart)) ∙ e in
      other_step x l ls apart b (once_push ls l b no)
]

pub push_old : (lits : List Lit) (l : Lit) → list_any (is_it l) lits ≡ true → (ls : List Lit) → lits ≡ once ls → lits ≡ once (ls ++ l ∷ [])
push_old lits l e ls is = is ∙ sym (once_push ls l true (ap (list_any (is_it l)) (sym is) ∙ e))

pub push_new : (lits : List Lit) (l : Lit) → list_any (is_it l) lits ≡ false → (ls : List Lit) → lits ≡ once ls → lits ++ l ∷ [] ≡ once (ls ++ l ∷ [])
push_new lits l e ls is = ap (λ (xs : List Lit). xs ++ l ∷ []) is ∙ sym (once_push ls l false (ap (list_any (is_it l)) (sym is) ∙ e))

pub on_ok_push : {X E : Type 0} (r : Result X E) (old new : List Lit) (l : Lit) → list_any (is_it l) old ≡ false → OnOk r (new ≡ old ++ l ∷ [])
    → OnOk r ((ls : List Lit) → old ≡ once ls → new ≡ once (ls ++ l ∷ []))
on_ok_push (Ok x) old new l e h = λ ls is. h ∙ push_new old l e ls is
on_ok_push (Err x) old new l e h = tt
