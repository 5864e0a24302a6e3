-- The places that are marked as used, and the filters there.
use Rattle.std.proofs.Common.{◌≡◌, ◌<◌, ◌+◌, ◌∙◌, sym, subst, ap, refl, arith, inl, inr, ℕ, zero, suc, ◌⊎◌, Bool, true, false, Option, Some, None, List, [], ◌∷◌, ◌++◌, map, length, take, get_or, append-nil, if◌then◌else◌}
use Rattle.std.specs.List.{AllByRecursion, Contains, slice_get, cons_option}
use Rattle.std.specs.Prelude.{slice_set}
use Rattle.std.proofs.lemmas.Bool.{false≢true}
use Rattle.std.proofs.lemmas.List.{map-append, take_more, take_more_set, length-take-le}
use Rattle.std.proofs.lemmas.Option.{none-some, same_Some, slice_get_within}
use Rattle.sw_lists.proofs.Each.{each-contained, each-weaker, of_contained}
use Rattle.sw_lists.proofs.Members.{contains_head, contains_tail, contains_cons, contains_none}
use Rattle.sw_lists.proofs.Places.{get_append_left, get_append_at, get_push_cases}
use Rattle.sw_filter.specs.declared.filter.Filter.{Filter}
use Rattle.sw_core.specs.Machine.{filters_at}
use Rattle.sw_hand.specs.Hands.{used_from}

-- one more mark
pub used_push_false : (k : ℕ) (xs : List Bool) → used_from k (xs ++ false ∷ []) ≡ used_from k xs
used_push_false k [] = refl
used_push_false k (true ∷ xs) = ap (λ r. k ∷ r) (used_push_false (k + 1) xs)
used_push_false k (false ∷ xs) = used_push_false (k + 1) xs

pub used_push_true : (k : ℕ) (xs : List Bool) → used_from k (xs ++ true ∷ []) ≡ used_from k xs ++ (k + length xs) ∷ []
used_push_true k [] = ap (λ n. n ∷ []) (let e : k ≡ k + 0 = omega arith in e)
used_push_true k (true ∷ xs) = ap (λ r. k ∷ r) (used_push_true (k + 1) xs ∙ ap (λ n. used_from (k + 1) xs ++ n ∷ []) (let e : (k + 1) + length xs ≡ k + length (true ∷ xs) = omega arith in e))
used_push_true k (false ∷ xs) = used_push_true (k + 1) xs ∙ ap (λ n. used_from (k + 1) xs ++ n ∷ []) (let e : (k + 1) + length xs ≡ k + length (false ∷ xs) = omega arith in e)

-- the marked places, counted from this number on
abbrev pub places_from : ℕ → List Bool → List ℕ
places_from from used = map (λ k. from + k) (used_from 0 used)

pub places_next : (from n : ℕ) (used : List Bool) (i : ℕ) (b d : Bool) (places later : List ℕ) → i < length used → b ≡ get_or used i d → n ≡ from + i →
    places ≡ places_from from (take i used) → later ≡ places ++ (if b then n ∷ [] else []) → later ≡ places_from from (take (i + 1) used)
places_next from n used i false d places later h e at is more =
    let one : take (i + 1) used ≡ take i used ++ false ∷ [] = take_more used i d h ∙ ap (λ (x : Bool). take i used ++ x ∷ []) (sym e) in
    more ∙ (append-nil places ∙ (is ∙ ap (map (λ k. from + k)) (sym (used_push_false 0 (take i used)) ∙ ap (used_from 0) (sym one))))
places_next from n used i true d places later h e at is more =
    let one : take (i + 1) used ≡ take i used ++ true ∷ [] = take_more used i d h ∙ ap (λ (x : Bool). take i used ++ x ∷ []) (sym e) in
    let place : n ≡ from + (0 + length (take i used)) = (let l : length (take i used) ≡ i = length-take-le i used (omega arith) in omega arith) in
    more ∙ (ap (λ ns. ns ++ n ∷ []) is ∙ (ap (λ m. places_from from (take i used) ++ m ∷ []) place
    ∙ (sym (map-append (λ k. from + k) (used_from 0 (take i used)) ((0 + length (take i used)) ∷ [])) ∙ ap (map (λ k. from + k)) (sym (used_push_true 0 (take i used)) ∙ ap (used_from 0) (sym one)))))

pub unmarked_next : (used : List Bool) (i : ℕ) → i < length used → used_from 0 (take i used) ≡ [] → used_from 0 (take (i + 1) (slice_set used i false)) ≡ []
unmarked_next used i h e = ap (used_from 0) (take_more_set used i false h) ∙ (used_push_false 0 (take i used) ∙ e)

-- a filter whose place is marked
pub record IsUsed (fs : List Filter) (k : ℕ) (used : List Bool) (x : Filter) : Type 0 where
  pub place : ℕ
  pub marked : slice_get used place ≡ Some true
  pub filter : slice_get fs (k + place) ≡ Some x

option_cases : (o : Option Filter) (xs : List Filter) (x : Filter) → Contains (cons_option o xs) x → (o ≡ Some x) ⊎ Contains xs x
option_cases None xs x h = inr h
option_cases (Some y) xs x h = elim (contains_cons y xs x h) [ inl e ↦ inl (ap Some (sym e)) | inr r ↦ inr r ]

option_rest : (o : Option Filter) (xs : List Filter) (x : Filter) → Contains xs x → Contains (cons_option o xs) x
option_rest None xs x h = h
option_rest (Some y) xs x h = contains_tail y xs x h

further : (fs : List Filter) (k : ℕ) (b : Bool) (used : List Bool) (x : Filter) → IsUsed fs (k + 1) used x → IsUsed fs k (b ∷ used) x
further fs k b used x u = record {
  place = suc u.place;
  marked = u.marked;
  filter = (let e : k + suc u.place ≡ (k + 1) + u.place = omega arith in ap (slice_get fs) e) ∙ u.filter;
}

pub used_in : (fs : List Filter) (k : ℕ) (used : List Bool) (x : Filter) → Contains (filters_at fs (used_from k used)) x → IsUsed fs k used x
used_in fs k [] x h = absurd (contains_none x h)
used_in fs k (true ∷ used) x h = elim (option_cases (slice_get fs k) (filters_at fs (used_from (k + 1) used)) x h) [
  | inl here ↦ record { place = 0; marked = refl; filter = (let e : k + 0 ≡ k = omega arith in ap (slice_get fs) e) ∙ here }
  | inr rest ↦ further fs k true used x (used_in fs (k + 1) used x rest)
]
used_in fs k (false ∷ used) x h = further fs k false used x (used_in fs (k + 1) used x h)

used_at : (fs : List Filter) (k : ℕ) (used : List Bool) (x : Filter) (place : ℕ) → slice_get used place ≡ Some true → slice_get fs (k + place) ≡ Some x → Contains (filters_at fs (used_from k used)) x
used_at fs k [] x place m f = absurd (none-some true m)
used_at fs k (true ∷ used) x zero m f =
    let here : slice_get fs k ≡ Some x = (let e : k ≡ k + 0 = omega arith in ap (slice_get fs) e) ∙ f in
    subst (λ o. Contains (cons_option o (filters_at fs (used_from (k + 1) used))) x) (sym here) (contains_head x (filters_at fs (used_from (k + 1) used)))
used_at fs k (false ∷ used) x zero m f = absurd (false≢true (same_Some false true m))
used_at fs k (true ∷ used) x (suc place) m f =
    option_rest (slice_get fs k) (filters_at fs (used_from (k + 1) used)) x (used_at fs (k + 1) used x place m ((let e : (k + 1) + place ≡ k + suc place = omega arith in ap (slice_get fs) e) ∙ f))
used_at fs k (false ∷ used) x (suc place) m f = used_at fs (k + 1) used x place m ((let e : (k + 1) + place ≡ k + suc place = omega arith in ap (slice_get fs) e) ∙ f)

pub used_out : (fs : List Filter) (used : List Bool) (x : Filter) (place : ℕ) → slice_get used place ≡ Some true → slice_get fs place ≡ Some x →
    Contains (filters_at fs (used_from 0 used)) x
used_out fs used x place m f = used_at fs 0 used x place m ((let e : 0 + place ≡ place = omega arith in ap (slice_get fs) e) ∙ f)

-- what holds of each used filter holds of all
pub each_used : (P : Filter → Type 0) (fs : List Filter) (used : List Bool) →
    ((x : Filter) (place : ℕ) → slice_get used place ≡ Some true → slice_get fs place ≡ Some x → P x) → AllByRecursion P (filters_at fs (used_from 0 used))
each_used P fs used each =
    let xs = filters_at fs (used_from 0 used) in
    each-weaker (Contains xs) P (λ x h. (let u = used_in fs 0 used x h in each x u.place u.marked ((let e : u.place ≡ 0 + u.place = omega arith in ap (slice_get fs) e) ∙ u.filter))) xs (each-contained xs)

-- one place is marked
pub marked_at : (used : List Bool) (i : ℕ) → i < length used → slice_get (slice_set used i true) i ≡ Some true
marked_at [] i h = absurd (omega arith)
marked_at (b ∷ used) zero h = refl
marked_at (b ∷ used) (suc i) h = marked_at used i (omega arith)

pub marked_still : (used : List Bool) (i j : ℕ) → slice_get used j ≡ Some true → slice_get (slice_set used i true) j ≡ Some true
marked_still [] i j m = absurd (none-some true m)
marked_still (b ∷ used) zero zero m = refl
marked_still (b ∷ used) zero (suc j) m = m
marked_still (b ∷ used) (suc i) zero m = m
marked_still (b ∷ used) (suc i) (suc j) m = marked_still used i j m

pub marked_cases : (used : List Bool) (i j : ℕ) → slice_get (slice_set used i true) j ≡ Some true → (j ≡ i) ⊎ (slice_get used j ≡ Some true)
marked_cases [] i j m = inr m
marked_cases (b ∷ used) zero zero m = inl refl
marked_cases (b ∷ used) zero (suc j) m = inr m
marked_cases (b ∷ used) (suc i) zero m = inr m
marked_cases (b ∷ used) (suc i) (suc j) m = elim (marked_cases used i j m) [ inl e ↦ inl (ap suc e) | inr r ↦ inr r ]

module _ (fs : List Filter) (used : List Bool) (i : ℕ) (x : Filter) (within : i < length used) (at : slice_get fs i ≡ Some x) where
  pub use_still : (y : Filter) → Contains (filters_at fs (used_from 0 used)) y → Contains (filters_at fs (used_from 0 (slice_set used i true))) y
  use_still y h = let u = used_in fs 0 used y h in used_out fs (slice_set used i true) y u.place (marked_still used i u.place u.marked) ((let e : u.place ≡ 0 + u.place = omega arith in ap (slice_get fs) e) ∙ u.filter)

  pub use_one : Contains (filters_at fs (used_from 0 (slice_set used i true))) x
  use_one = used_out fs (slice_set used i true) x i (marked_at used i within) at

  pub use_each : (P : Filter → Type 0) → AllByRecursion P (filters_at fs (used_from 0 used)) → P x →
      AllByRecursion P (filters_at fs (used_from 0 (slice_set used i true)))
  use_each P old here = each_used P fs (slice_set used i true) (λ y place m f. elim (marked_cases used i place m) [
    | inl same ↦ (let e : y ≡ x = same_Some y x (sym f ∙ (ap (slice_get fs) same ∙ at)) in subst P (sym e) here)
    | inr was ↦ of_contained P (filters_at fs (used_from 0 used)) y old (used_out fs used y place was f)
  ])

module _ (fs : List Filter) (used : List Bool) (x : Filter) (long : length used ≡ length fs) where
  pub push_still : (y : Filter) → Contains (filters_at fs (used_from 0 used)) y → Contains (filters_at (fs ++ x ∷ []) (used_from 0 (used ++ true ∷ []))) y
  push_still y h =
      let u = used_in fs 0 used y h in
      used_out (fs ++ x ∷ []) (used ++ true ∷ []) y u.place (get_append_left used (true ∷ []) u.place true u.marked)
      (get_append_left fs (x ∷ []) u.place y ((let e : u.place ≡ 0 + u.place = omega arith in ap (slice_get fs) e) ∙ u.filter))

  pub push_one : Contains (filters_at (fs ++ x ∷ []) (used_from 0 (used ++ true ∷ []))) x
  push_one = used_out (fs ++ x ∷ []) (used ++ true ∷ []) x (length used) (get_append_at used true []) (ap (slice_get (fs ++ x ∷ [])) long ∙ get_append_at fs x [])

  pub push_each : (P : Filter → Type 0) → AllByRecursion P (filters_at fs (used_from 0 used)) → P x →
      AllByRecursion P (filters_at (fs ++ x ∷ []) (used_from 0 (used ++ true ∷ [])))
  push_each P old here = each_used P (fs ++ x ∷ []) (used ++ true ∷ []) (λ y place m f. elim (get_push_cases fs x place y f) [
    | inr last ↦ subst P (sym last.1) here
    | inl was ↦ elim (get_push_cases used true place true m) [
      | inl marked ↦ of_contained P (filters_at fs (used_from 0 used)) y old (used_out fs used y place marked was)
      | inr past ↦ absurd (let w : place < length fs = slice_get_within fs place y was in omega (arith, past.0))
    ]
  ])
