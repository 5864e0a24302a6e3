-- A round whose settlements are live.
use Rattle.std.specs.Prelude.{◌≡◌, ℕ, zero, suc, List, [], ◌∷◌, ◌++◌, map, length, Some, slice_get}
use Rattle.std.specs.List.{AllByRecursion, cons_option}
use Rattle.std.proofs.Common.{sym, ap, subst, ◌∙◌}
use Rattle.std.proofs.lemmas.List.{length-map}
use Rattle.std.proofs.lemmas.Option.{none-some, same_Some}
use Rattle.sw_lists.proofs.Each.{each-weaker}
use Rattle.sw_lists.proofs.Places.{get_append_right}
use Rattle.sw_logic.specs.declared.syntax.Formula.{Formula}
use Rattle.sw_filter.specs.declared.filter.Filter.{Filter}
use Rattle.sw_filter.specs.declared.filter.Mode.TheVariants.{Breadth}
use Rattle.sw_filter.specs.Filters.{IsLive}
use Rattle.sw_log.specs.declared.entry.Entry.{Entry}
use Rattle.sw_pool.specs.declared.pool.Pool.{Pool}
use Rattle.sw_core.specs.declared.record.Kept.{Kept}
use Rattle.sw_core.specs.declared.record.Settled.{Settled}
use Rattle.sw_core.specs.Machine.{Search, filters_at}
use Rattle.sw_core.specs.Gathered.{IsLiveBy, IsTimely, filters_of, formulas_of}
use Rattle.sw_core.proofs.Lists.{each_got}
use Rattle.sw_core.proofs.Merging.{timely_is_live}
use Rattle.sw_hand.specs.declared.hand.Handed.{Handed}
use Rattle.sw_breadth.specs.Joins.{AreShared}
use Rattle.sw_breadth.specs.Records.{AreLiveAt, IsLiveAt, IsLiveRound, IsLiveShare}

map_got : {X Y : Type 0} (f : X → Y) (xs : List X) (i : ℕ) (x : X) → slice_get xs i ≡ Some x → slice_get (map f xs) i ≡ Some (f x)
map_got f [] i x e = absurd (none-some x e)
map_got f (y ∷ xs) zero x e = ap Some (ap f (same_Some y x e))
map_got f (y ∷ xs) (suc i) x e = map_got f xs i x e

module _ (m : Search) (list : List Formula) (fs : List Filter) (breadth : m.mode ≡ Breadth) where
  abbrev Live : List Filter → Type 0
  Live xs = AllByRecursion (IsLive m.protocol m.mode list) xs

  live_at : (kept : List Kept) (places : List ℕ) → AreLiveAt m.protocol list (length fs) kept places → Live (filters_at (fs ++ filters_of kept) places)
  live_at kept [] h = tt
  live_at kept (k ∷ places) h =
      let one = h.0 in
      let got : slice_get (fs ++ filters_of kept) k ≡ Some one.found.filter =
      ap (slice_get (fs ++ filters_of kept)) one.place_is ∙ (get_append_right fs (filters_of kept) one.own ∙ map_got (λ (x : Kept). x.filter) kept one.own one.found one.at) in
      let live : IsLive m.protocol m.mode list one.found.filter = subst (λ mode. IsLive m.protocol mode list one.found.filter) (sym breadth) one.live in
      subst (λ o. Live (cons_option o (filters_at (fs ++ filters_of kept) places))) (sym got) (live, live_at kept places h.1)

  abbrev LiveShare : Handed → Type 0
  LiveShare h = AllByRecursion (IsLiveBy m list (fs ++ filters_of h.kept)) h.settled

  live_share : (h : Handed) → IsLiveShare m.protocol list (length fs) h → LiveShare h
  live_share h l =
      each-weaker (λ (x : Settled). AreLiveAt m.protocol list (length fs) h.kept x.by) (IsLiveBy m list (fs ++ filters_of h.kept)) (λ x a. live_at h.kept x.by a) h.settled l

  pub live_shares : (hs : List Handed) → AllByRecursion (IsLiveShare m.protocol list (length fs)) hs → AllByRecursion LiveShare hs
  live_shares hs l = each-weaker (IsLiveShare m.protocol list (length fs)) LiveShare live_share hs l

-- tested shares make a live round
pub tested_round : (m : Search) (before : ℕ) (log : List Entry) (hs : List Handed) → m.mode ≡ Breadth → AllByRecursion (IsLiveShare m.protocol (formulas_of m log) before) hs → IsLiveRound m before log hs
tested_round m before log hs breadth l fs e =
    live_shares m (formulas_of m log) fs breadth hs (subst (λ n. AllByRecursion (IsLiveShare m.protocol (formulas_of m log) n) hs) (sym e) l)

-- a round that gained nothing is live
pub quiet_round : (m : Search) (pool : Pool) (before since : ℕ) (log : List Entry) (hs : List Handed) → since ≡ length log → AreShared m pool before since (formulas_of m log) hs → IsLiveRound m before log hs
quiet_round m pool before since log hs same s fs e =
    let list = formulas_of m log in
    let size : since ≡ length list = same ∙ sym (length-map log _) in
    each_got (λ (h : Handed). AllByRecursion (IsLiveBy m list (fs ++ filters_of h.kept)) h.settled) hs (λ k h at.
    each-weaker (IsTimely m (length list) list (fs ++ filters_of h.kept)) (IsLiveBy m list (fs ++ filters_of h.kept)) (λ x t. timely_is_live m list (fs ++ filters_of h.kept) x t) h.settled
    (subst (λ n. AllByRecursion (IsTimely m n list (fs ++ filters_of h.kept)) h.settled) size ((s k h at).timely fs e)))
