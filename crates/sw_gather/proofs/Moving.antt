-- Places moved among all filters show the same filters.
use Rattle.std.specs.Prelude.{◌≡◌, ℕ, zero, suc, ◌+◌, ◌-◌, ◌<◌, ◌≤◌, nat_lt, List, [], ◌∷◌, ◌++◌, map, length, take, Option, Some, None, Contains, slice_get, slice_index}
use Rattle.std.specs.List.{AllByRecursion, AllZip, cons_option}
use Rattle.std.specs.List.Sorted.{IsPermutation}
use Rattle.std.proofs.Common.{refl, arith, sym, ap, subst, ◌∙◌, length-append, inl, inr}
use Rattle.std.proofs.lemmas.Bool.{cases_lt, cond-true, cond-false, lt-ltb, le-ltb}
use Rattle.std.proofs.lemmas.List.{length-map, length-take-le}
use Rattle.std.proofs.lemmas.List.Sorted.{Contains-permutation, IsPermutation-sym}
use Rattle.std.proofs.lemmas.Option.{none-some, same_Some, slice_get_within}
use Rattle.sw_lists.proofs.Each.{each-contained, each-weaker, of_contained}
use Rattle.sw_lists.proofs.Members.{contains_cons, contains_head, contains_none, contains_tail}
use Rattle.sw_lists.proofs.Places.{get_append_front, get_front, get_some}
use Rattle.sw_filter.specs.declared.filter.Filter.{Filter}
use Rattle.sw_core.specs.declared.record.Settled.{Settled}
use Rattle.sw_core.specs.Machine.{AreBelow, filters_at}
use Rattle.sw_core.specs.Gathered.{NamesSame}
use Rattle.sw_gather.specs.Gathers.{AreAt, IsMovedBy, moved_by}

got_append_at : {X : Type 0} (xs ys : List X) (n i : ℕ) → i ≡ length xs + n → slice_get (xs ++ ys) i ≡ slice_get ys n
got_append_at [] ys n i e = let k : i ≡ n = omega (arith, e) in ap (slice_get ys) k
got_append_at (x ∷ xs) ys n zero e = absurd (omega (arith, e))
got_append_at (x ∷ xs) ys n (suc i) e = got_append_at xs ys n i (omega (arith, e))

each_permuted : {X : Type 0} (P : X → Type 0) (xs ys : List X) → IsPermutation xs ys → AllByRecursion P xs → AllByRecursion P ys
each_permuted P xs ys p h = each-weaker (Contains ys) P (λ y c. of_contained P xs y h (Contains-permutation ys xs y (IsPermutation-sym xs ys p) c)) ys (each-contained ys)

-- a filter that is named, by a place
abbrev NamedBy : List Filter → List ℕ → Filter → Type 0
NamedBy all ks f = (k : ℕ) × Contains ks k × (slice_get all k ≡ Some f)

named_later : (all : List Filter) (k : ℕ) (ks : List ℕ) (f : Filter) → NamedBy all ks f → NamedBy all (k ∷ ks) f
named_later all k ks f r = (r.0, contains_tail k ks r.0 r.1, r.2)

named_first : (all : List Filter) (k : ℕ) (ks : List ℕ) (f : Filter) (o : Option Filter) → slice_get all k ≡ o → (Contains (filters_at all ks) f → NamedBy all ks f)
    → Contains (cons_option o (filters_at all ks)) f → NamedBy all (k ∷ ks) f
named_first all k ks f None e later c = named_later all k ks f (later c)
named_first all k ks f (Some g) e later c = elim (contains_cons g (filters_at all ks) f c) [
  | inl same ↦ (k, contains_head k ks, e ∙ ap Some (sym same))
  | inr rest ↦ named_later all k ks f (later rest)
]

named_by : (all : List Filter) (ks : List ℕ) (f : Filter) → Contains (filters_at all ks) f → NamedBy all ks f
named_by all [] f c = absurd (contains_none f c)
named_by all (k ∷ ks) f c = named_first all k ks f (slice_get all k) refl (λ d. named_by all ks f d) c

behind : (o : Option Filter) (fs : List Filter) (f : Filter) → Contains fs f → Contains (cons_option o fs) f
behind None fs f d = d
behind (Some g) fs f d = contains_tail g fs f d

names_at : (all : List Filter) (ks : List ℕ) (k : ℕ) (f : Filter) → Contains ks k → slice_get all k ≡ Some f → Contains (filters_at all ks) f
names_at all [] k f c e = absurd (contains_none k c)
names_at all (j ∷ ks) k f c e = elim (contains_cons j ks k c) [
  | inl same ↦
      let here : slice_get all j ≡ Some f = ap (slice_get all) (sym same) ∙ e in
      subst (λ o. Contains (cons_option o (filters_at all ks)) f) (sym here) (contains_head f (filters_at all ks))
  | inr rest ↦ behind (slice_get all j) (filters_at all ks) f (names_at all ks k f rest e)
]

-- the order of places changes nothing in what they name
named_permuted : (all : List Filter) (ks js : List ℕ) (f : Filter) → IsPermutation ks js → Contains (filters_at all ks) f → Contains (filters_at all js) f
named_permuted all ks js f p c = let r = named_by all ks f c in names_at all js r.0 f (Contains-permutation ks js r.0 p r.1) r.2

-- a worker's own filter stands at its place
own_at : (all : List Filter) (places : List ℕ) (own : List Filter) → AreAt all own places → (i : ℕ) → i < length own → slice_get all (slice_index places i) ≡ slice_get own i
own_at all [] [] e i h = absurd (omega (arith, h))
own_at all [] (f ∷ own) e i h = absurd (cc)
own_at all (p ∷ places) [] e i h = absurd (omega (arith, h))
own_at all (p ∷ places) (f ∷ own) e zero h = let k : slice_get all p ≡ Some f = cc in k
own_at all (p ∷ places) (f ∷ own) e (suc i) h = let k : map (slice_get all) places ≡ map Some own = cc in own_at all places own k i (omega (arith, h))

module _ (before : ℕ) (all own : List Filter) (places : List ℕ) (le : before ≤ length all) (at : AreAt all own places) where
  abbrev From : List Filter
  From = take before all ++ own

  sizes : length places ≡ length own
  sizes = sym (length-map places (slice_get all)) ∙ (ap length at ∙ length-map own Some)

  front : length (take before all) ≡ before
  front = length-take-le before all le

  from_size : length From ≡ before + length places
  from_size = omega (arith, length-append (take before all) own, front, sizes)

  moved_got : (k : ℕ) → k < before + length places → slice_get all (moved_by before places k) ≡ slice_get From k
  moved_got k h = elim (cases_lt k before) [
    | inl lt ↦
        ap (slice_get all) (cond-true (nat_lt k before) k (slice_index places (k - before)) (lt-ltb k before lt))
        ∙ (sym (get_front before all k lt) ∙ sym (get_append_front (take before all) own k (omega (arith, lt, front))))
    | inr ge ↦
        ap (slice_get all) (cond-false (nat_lt k before) k (slice_index places (k - before)) (le-ltb k before ge))
        ∙ (own_at all places own at (k - before) (omega (arith, ge, h, sizes)) ∙ sym (got_append_at (take before all) own (k - before) k (omega (arith, ge, front))))
  ]

  filters_moved : (by : List ℕ) → AreBelow (before + length places) by → filters_at all (map (moved_by before places) by) ≡ filters_at From by
  filters_moved [] h = refl
  filters_moved (k ∷ by) h =
      ap (λ o. cons_option o (filters_at all (map (moved_by before places) by))) (moved_got k h.0)
      ∙ ap (cons_option (slice_get From k)) (filters_moved by h.1)

  below_moved : (by : List ℕ) → AreBelow (before + length places) by → AreBelow (length all) (map (moved_by before places) by)
  below_moved [] h = tt
  below_moved (k ∷ by) h = (
    let x = get_some From k (omega (arith, h.0, from_size)) in
        slice_get_within all (moved_by before places k) x.0 (moved_got k h.0 ∙ x.1),
    below_moved by h.1,
  )

  names_same : (x y : Settled) → IsMovedBy before places x y → NamesSame From all x y
  names_same x y m =
      let moved : List ℕ = map (moved_by before places) x.by in
      let same : filters_at all moved ≡ filters_at From x.by = filters_moved x.by m.within in
      record {
        part = m.part;
        worker = m.worker;
        under = m.under;
        places = each_permuted (λ k. k < length all) moved y.by m.by (below_moved x.by m.within);
        all = each-weaker (Contains (filters_at From x.by)) (Contains (filters_at all y.by))
            (λ f c. named_permuted all moved y.by f m.by (subst (λ l. Contains l f) (sym same) c)) (filters_at From x.by) (each-contained (filters_at From x.by));
        only = each-weaker (Contains (filters_at all y.by)) (Contains (filters_at From x.by))
            (λ f c. subst (λ l. Contains l f) same (named_permuted all y.by moved f (IsPermutation-sym moved y.by m.by) c)) (filters_at all y.by) (each-contained (filters_at all y.by));
      }

  pub all_names : (xs ys : List Settled) → AllZip (IsMovedBy before places) xs ys → AllZip (NamesSame From all) xs ys
  all_names [] [] z = tt
  all_names [] (y ∷ ys) z = absurd z
  all_names (x ∷ xs) [] z = absurd z
  all_names (x ∷ xs) (y ∷ ys) z = (names_same x y z.0, all_names xs ys z.1)
