-- Shares that name their filters in another list.
use Rattle.std.specs.Prelude.{◌≡◌, ◌≤◌, ℕ, Bool, true, false, List, [], ◌∷◌, ◌++◌, map, length, take, Contains, slice_get, unwrap_or}
use Rattle.std.specs.List.{AllByRecursion, AllZip}
use Rattle.std.proofs.Common.{refl, sym, ap, subst, ◌∙◌, append_assoc}
use Rattle.std.proofs.lemmas.List.{take_all}
use Rattle.sw_logic.specs.declared.syntax.Formula.{Formula}
use Rattle.sw_lists.proofs.Each.{each-push, each-weaker, of_contained}
use Rattle.sw_lists.proofs.Members.{contains_get, get_contains}
use Rattle.sw_lists.proofs.Places.{get_append_at, get_append_left}
use Rattle.sw_meaning.specs.declared.protocol.Protocol.{Protocol}
use Rattle.sw_filter.specs.declared.filter.Filter.{Filter}
use Rattle.sw_filter.specs.declared.filter.Mode.{Mode}
use Rattle.sw_filter.specs.Filters.{IsLive, Refutes}
use Rattle.sw_filter.specs.Good.{Good, refuted, follows}
use Rattle.sw_core.specs.declared.record.Kept.{Kept}
use Rattle.sw_core.specs.declared.record.Settled.{Settled}
use Rattle.sw_core.specs.Machine.{Search, filters_at, formula_in, parts_in}
use Rattle.sw_core.specs.Founded.{IsSettledWell}
use Rattle.sw_core.specs.Gathered.{Share, chosen, AreFresh, IsFresh, IsKeptBy, IsLiveBy, IsMerged, IsSettledBy, IsShareAmong, IsTimely, NamesSame, MergedLive, MergedStays, TimelyIsLive}

pub timely_is_live : TimelyIsLive
timely_is_live m log filters x h =
    subst (λ l. AllByRecursion (IsLive m.protocol m.mode l) (filters_at filters x.by)) (take_all x.under log h.since) h.live

-- more filters to name leave a formula good
good_among : (p : Protocol) (mode : Mode) (g : List Formula) (f : Formula) (xs ys : List Filter) → AllByRecursion (Contains ys) xs → Good p mode g f xs → Good p mode g f ys
good_among p mode g f xs ys all (Good.refuted x among c) = Good.refuted x (of_contained (Contains ys) xs x all among) c
good_among p mode g f xs ys all (Good.follows e k) = Good.follows e k

-- what holds of all filters of a list holds of those that stand in it
each_among : (P : Filter → Type 0) (xs ys : List Filter) → AllByRecursion (Contains xs) ys → AllByRecursion P xs → AllByRecursion P ys
each_among P xs ys only h = each-weaker (Contains xs) P (λ y c. of_contained P xs y h c) ys only

module _ (m : Search) (from to : List Filter) (log : List Formula) where
  settled_same : (worker : ℕ) (x y : Settled) → NamesSame from to x y → IsSettledBy m worker log from x → IsSettledBy m worker log to y
  settled_same worker x y n h = record {
    by_worker = n.worker ∙ h.by_worker;
    under = subst (λ u. u ≤ length log) (sym n.under) h.under;
    places = n.places;
    good =
        let part : unwrap_or (slice_get (parts_in m) x.part) [] ≡ unwrap_or (slice_get (parts_in m) y.part) [] = ap (λ i. unwrap_or (slice_get (parts_in m) i) []) (sym n.part) in
        let named : (class : List ℕ) → Good m.protocol m.mode (take x.under log) (formula_in m class) (filters_at from x.by) → Good m.protocol m.mode (take y.under log) (formula_in m class) (filters_at to y.by) =
        (λ class g. subst (λ u. Good m.protocol m.mode (take u log) (formula_in m class) (filters_at to y.by)) (sym n.under)
        (good_among m.protocol m.mode (take x.under log) (formula_in m class) (filters_at from x.by) (filters_at to y.by) n.all g)) in
        subst (AllByRecursion (λ class. Good m.protocol m.mode (take y.under log) (formula_in m class) (filters_at to y.by))) part
        (each-weaker (λ class. Good m.protocol m.mode (take x.under log) (formula_in m class) (filters_at from x.by)) (λ class. Good m.protocol m.mode (take y.under log) (formula_in m class) (filters_at to y.by)) named
        (unwrap_or (slice_get (parts_in m) x.part) []) h.good);
  }

  all_same : (worker : ℕ) (xs ys : List Settled) → AllZip (NamesSame from to) xs ys → AllByRecursion (IsSettledBy m worker log from) xs → AllByRecursion (IsSettledBy m worker log to) ys
  all_same worker [] [] z h = tt
  all_same worker [] (y ∷ ys) z h = absurd z
  all_same worker (x ∷ xs) [] z h = absurd z
  all_same worker (x ∷ xs) (y ∷ ys) z h = (settled_same worker x y z.0 h.0, all_same worker xs ys z.1 h.1)

  all_live : (xs ys : List Settled) → AllZip (NamesSame from to) xs ys → AllByRecursion (IsLiveBy m log from) xs → AllByRecursion (IsLiveBy m log to) ys
  all_live [] [] z h = tt
  all_live [] (y ∷ ys) z h = absurd z
  all_live (x ∷ xs) [] z h = absurd z
  all_live (x ∷ xs) (y ∷ ys) z h = (each_among (IsLive m.protocol m.mode log) (filters_at from x.by) (filters_at to y.by) z.0.only h.0, all_live xs ys z.1 h.1)

  same_parts : (xs ys : List Settled) → AllZip (NamesSame from to) xs ys → map (λ (x : Settled). x.part) ys ≡ map (λ (x : Settled). x.part) xs
  same_parts [] [] z = refl
  same_parts [] (y ∷ ys) z = absurd z
  same_parts (x ∷ xs) [] z = absurd z
  same_parts (x ∷ xs) (y ∷ ys) z = ap (λ i. i ∷ map (λ (x : Settled). x.part) ys) z.0.part ∙ ap (λ l. x.part ∷ l) (same_parts xs ys z.1)

each_chosen : {X : Type 0} (P : X → Type 0) (marks : List Bool) (xs : List X) → AllByRecursion P xs → AllByRecursion P (chosen marks xs)
each_chosen P [] xs h = tt
each_chosen P (b ∷ bs) [] h = tt
each_chosen P (true ∷ bs) (x ∷ xs) h = (h.0, each_chosen P bs xs h.1)
each_chosen P (false ∷ bs) (x ∷ xs) h = each_chosen P bs xs h.1

still_among : {X : Type 0} (xs ys : List X) (x : X) → Contains xs x → Contains (xs ++ ys) x
still_among xs ys x c = let at = contains_get xs x c in get_contains (xs ++ ys) at.0 x (get_append_left xs ys at.0 x at.1)

last_among : {X : Type 0} (xs : List X) (x : X) → Contains (xs ++ x ∷ []) x
last_among xs x = get_contains (xs ++ x ∷ []) (length xs) x (get_append_at xs x [])

module _ (m : Search) (log : List Formula) where
  abbrev DoesNot : Kept → Kept → Type 0
  DoesNot k e = e.worker ≡ k.worker → IsLive m.protocol m.mode (take k.under log) e.filter → Refutes m.protocol e.filter (formula_in m k.body.cubes) → ⊥

  more_among : (some all : List Kept) (k : Kept) → AllByRecursion (Contains all) some → AllByRecursion (Contains (all ++ k ∷ [])) some
  more_among some all k w = each-weaker (Contains all) (Contains (all ++ k ∷ [])) (λ e c. still_among all (k ∷ []) e c) some w

  -- filters are fresh after fewer ones too
  fresh_chosen : (marks : List Bool) (some all ks : List Kept) → AllByRecursion (Contains all) some → AreFresh m log all ks → AreFresh m log some (chosen marks ks)
  fresh_chosen [] some all ks w f = tt
  fresh_chosen (b ∷ bs) some all [] w f = tt
  fresh_chosen (true ∷ bs) some all (k ∷ ks) w f = (
    record {
      refutes = f.0.refutes;
      first = each-weaker (Contains all) (DoesNot k) (λ e c. of_contained (DoesNot k) all e f.0.first c) some w;
    },
    fresh_chosen bs (some ++ k ∷ []) (all ++ k ∷ []) ks
        (each-push (Contains (all ++ k ∷ [])) some k (more_among some all k w) (last_among all k)) f.1,
  )
  fresh_chosen (false ∷ bs) some all (k ∷ ks) w f = fresh_chosen bs some (all ++ k ∷ []) ks (more_among some all k w) f.1

pub merged_stays : MergedStays
merged_stays m from to log worker share merged n h = record {
  in_order = same_parts m from to log share.settled merged.settled n.settled ∙ (h.in_order ∙ sym n.drawn);
  settled = all_same m from to log worker share.settled merged.settled n.settled h.settled;
  kept = subst (AllByRecursion (IsKeptBy m worker log)) (sym n.kept) (each_chosen (IsKeptBy m worker log) n.marks share.kept h.kept);
  fresh = subst (AreFresh m log []) (sym n.kept) (fresh_chosen m log n.marks [] [] share.kept tt h.fresh);
}

pub merged_live : MergedLive
merged_live m from to log share merged n h = all_live m from to log share.settled merged.settled n.settled h
