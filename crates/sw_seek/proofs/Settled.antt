-- What a worker settles and hands back is what a share promises.
use Rattle.std.specs.Prelude.{◌≡◌, ℕ, ◌+◌, ◌≤◌, Bool, true, false, List, [], ◌∷◌, ◌++◌, map, length, take, drop, slice_get}
use Rattle.std.specs.List.{AllByRecursion, AllZip}
use Rattle.std.proofs.Common.{refl, arith, sym, ap, ◌∙◌, subst, length-append}
use Rattle.std.proofs.lemmas.List.{map-append, length-map, take_all}
use Rattle.std.proofs.lemmas.Option.{same_Some}
use Rattle.sw_lists.proofs.Each.{each-map, each-unmap, each-weaker, each-push}
use Rattle.sw_logic.specs.declared.syntax.Formula.{Formula}
use Rattle.sw_filter.specs.declared.filter.Filter.{Filter}
use Rattle.sw_filter.specs.declared.view.Shown.{Shown}
use Rattle.sw_filter.specs.Filters.{IsAdmitted, IsLive}
use Rattle.sw_filter.specs.Good.{Good}
use Rattle.sw_filter.specs.Views.{AreAdmitted}
use Rattle.sw_pool.specs.declared.pool.Pool.{Pool}
use Rattle.sw_pool.specs.declared.pool.Seen.{Seen}
use Rattle.sw_pool.specs.Pools.{IsShown, filter_of}
use Rattle.sw_core.specs.declared.record.Kept.{Kept}
use Rattle.sw_core.specs.declared.record.Settled.{Settled}
use Rattle.sw_core.specs.Machine.{Search, AreBelow, filters_at, formula_in, parts_in}
use Rattle.sw_core.specs.Gathered.{IsSettledBy, IsTimely, IsShare, filters_of}
use Rattle.sw_core.proofs.Lists.{filters_at-append, below-weaker}
use Rattle.sw_walk.specs.Parts.{part_at}
use Rattle.sw_hand.specs.declared.hand.Handed.{Handed}
use Rattle.sw_hand.specs.Hands.{AreTokens, IsGoodBy, IsHand, IsHanded, share_of, used_filters, used_from}
use Rattle.sw_seek.specs.declared.drawing.Progress.{Progress}
use Rattle.sw_seek.specs.Steps.{HasSettled, IsPromised, IsSettledNow, KeepsMore}

-- ---- places of the filters used
used_below : (k n : ℕ) (used : List Bool) → k + length used ≤ n → AreBelow n (used_from k used)
used_below k n [] h = tt
used_below k n (true ∷ used) h = (omega arith, used_below (k + 1) n used (omega arith))
used_below k n (false ∷ used) h = used_below (k + 1) n used (omega arith)

from_none : (ks : List ℕ) → map (λ k. 0 + k) ks ≡ ks
from_none [] = refl
from_none (k ∷ ks) = let z : 0 + k ≡ k = omega arith in ap (λ j. j ∷ map (λ i. 0 + i) ks) z ∙ ap (λ js. k ∷ js) (from_none ks)

module _ (m : Search) (pool : Pool) (worker : ℕ) (g : List Formula) (shown : List Shown) (tokens : List Seen) where
  -- a part whose classes are good by the filters used is settled by them
  pub settled_now : (kept : List Kept) (used : List Bool) (x : Settled) → IsHand m pool worker g shown kept tokens used
      → AllByRecursion (IsGoodBy m g kept used) (part_at (parts_in m) x.part)
      → x.worker ≡ worker → x.under ≡ length g → x.by ≡ map (λ k. 0 + k) (used_from 0 used) → IsPromised m worker g kept x
  settled_now kept used x h good mine under by =
      let whole : take x.under g ≡ g = take_all x.under g (omega (arith, under)) in
      let places : x.by ≡ used_from 0 used = by ∙ from_none (used_from 0 used) in
      let size : length (filters_of kept) ≡ length kept = length-map kept (λ (k : Kept). k.filter) in
      let below : AreBelow (length (filters_of kept)) x.by = subst (AreBelow (length (filters_of kept))) (sym places)
      (used_below 0 (length (filters_of kept)) used (omega (arith, h.marks))) in
      let same : filters_at (filters_of kept) x.by ≡ used_filters kept used = ap (filters_at (filters_of kept)) places in
      record {
        settled = record {
          by_worker = mine;
          under = omega (arith, under);
          places = below;
          good = subst (λ l. AllByRecursion (λ class. Good m.protocol m.mode l (formula_in m class) (filters_at (filters_of kept) x.by))
              (part_at (parts_in m) x.part)) (sym whole)
              (subst (λ fs. AllByRecursion (λ class. Good m.protocol m.mode g (formula_in m class) fs) (part_at (parts_in m) x.part)) (sym same) good);
        };
        timely = record {
          since = omega (arith, under);
          places = below;
          live = subst (λ l. AllByRecursion (IsLive m.protocol m.mode l) (filters_at (filters_of kept) x.by)) (sym whole)
              (subst (AllByRecursion (IsLive m.protocol m.mode g)) (sym same) h.live);
        };
      }

-- ---- more filters
module _ (m : Search) (worker : ℕ) (g : List Formula) where
  settled_more : (fs more : List Filter) (x : Settled) → IsSettledBy m worker g fs x → IsSettledBy m worker g (fs ++ more) x
  settled_more fs more x h = record {
    by_worker = h.by_worker;
    under = h.under;
    places = below-weaker (length fs) (length (fs ++ more)) x.by (omega (arith, length-append fs more)) h.places;
    good = subst (λ l. AllByRecursion (λ class. Good m.protocol m.mode (take x.under g) (formula_in m class) l) (part_at (parts_in m) x.part))
        (sym (filters_at-append fs more x.by h.places)) h.good;
  }

  timely_more : (fs more : List Filter) (x : Settled) → IsTimely m (length g) g fs x → IsTimely m (length g) g (fs ++ more) x
  timely_more fs more x h = record {
    since = h.since;
    places = below-weaker (length fs) (length (fs ++ more)) x.by (omega (arith, length-append fs more)) h.places;
    live = subst (AllByRecursion (IsLive m.protocol m.mode (take x.under g))) (sym (filters_at-append fs more x.by h.places)) h.live;
  }

  promised_more : (kept more : List Kept) (x : Settled) → IsPromised m worker g kept x → IsPromised m worker g (kept ++ more) x
  promised_more kept more x h =
      let both : filters_of (kept ++ more) ≡ filters_of kept ++ filters_of more = map-append (λ (k : Kept). k.filter) kept more in
      record {
        settled = subst (λ fs. IsSettledBy m worker g fs x) (sym both) (settled_more (filters_of kept) (filters_of more) x h.settled);
        timely = subst (λ fs. IsTimely m (length g) g fs x) (sym both) (timely_more (filters_of kept) (filters_of more) x h.timely);
      }

  pub promised_on : (old new : List Kept) (xs : List Settled) → KeepsMore old new → AllByRecursion (IsPromised m worker g old) xs
      → AllByRecursion (IsPromised m worker g new) xs
  promised_on old new xs k h = subst (λ kept. AllByRecursion (IsPromised m worker g kept) xs) (sym k.1)
      (each-weaker (IsPromised m worker g old) (IsPromised m worker g (old ++ k.0)) (promised_more old k.0) xs h)

-- ---- what is handed back
empty_is : {X : Type 0} (xs : List X) → length xs ≡ 0 → [] ≡ xs
empty_is [] e = refl
empty_is (x ∷ xs) e = absurd (omega arith)

abbrev ShowsKept : Pool → Seen → Kept → Type 0
ShowsKept pool token k = IsShown pool token × (filter_of token ≡ k.filter)

tokens_kept : (pool : Pool) (tokens : List Seen) (shown : List Shown) (kept : List Kept) → filters_of kept ≡ map (λ (e : Shown). e.filter.now) shown
    → AreTokens pool tokens shown → AllZip (ShowsKept pool) tokens kept
tokens_kept pool [] [] [] e z = tt
tokens_kept pool [] [] (k ∷ ks) e z = absurd (omega (arith, ap length e))
tokens_kept pool [] (s ∷ ss) ks e z = absurd z
tokens_kept pool (t ∷ ts) [] ks e z = absurd z
tokens_kept pool (t ∷ ts) (s ∷ ss) [] e z = absurd (omega (arith, ap length e))
tokens_kept pool (t ∷ ts) (s ∷ ss) (k ∷ ks) e z =
    let head : s.filter.now ≡ k.filter = sym (same_Some k.filter s.filter.now (ap (λ fs. slice_get fs 0) e)) in
    ((z.0.0, z.0.1 ∙ head), tokens_kept pool ts ss ks (ap (drop 1) e) z.1)

module _ (m : Search) (pool : Pool) (worker : ℕ) (g : List Formula) where
  pub handed : (shown : List Shown) (used : List Bool) (h : Handed) → IsHand m pool worker g shown h.kept h.tokens.items used → AreAdmitted m.protocol shown
      → map (λ (x : Settled). x.part) h.settled ≡ h.drawn → AllByRecursion (IsPromised m worker g h.kept) h.settled → IsHanded m pool worker 0 (length g) g h
  handed shown used h hand admitted in_order promised =
      let settled = each-weaker (IsPromised m worker g h.kept) (IsSettledBy m worker g (filters_of h.kept)) (λ x p. p.settled) h.settled promised in
      let timely = each-weaker (IsPromised m worker g h.kept) (IsTimely m (length g) g (filters_of h.kept)) (λ x p. p.timely) h.settled promised in
      record {
        share = λ filters e. subst (λ fs. IsShare m fs g worker (share_of h)) (empty_is filters e)
            (record { in_order = in_order; settled = settled; kept = hand.each; fresh = hand.fresh });
        timely = λ filters e. subst (λ fs. AllByRecursion (IsTimely m (length g) g (fs ++ filters_of h.kept)) h.settled) (empty_is filters e) timely;
        admitted = each-unmap (IsAdmitted m.protocol) (λ (k : Kept). k.filter) h.kept
            (subst (AllByRecursion (IsAdmitted m.protocol)) (sym hand.same) (each-map (IsAdmitted m.protocol) (λ (e : Shown). e.filter.now) shown admitted));
        tokens = tokens_kept pool h.tokens.items shown h.kept hand.same hand.shows;
      }

-- one part more is settled
pub settled_next : (m : Search) (worker : ℕ) (g : List Formula) (part : ℕ) (kept kept_now : List Kept) (old new : Progress) → HasSettled m worker g kept old
    → IsSettledNow m worker g part kept kept_now old new → HasSettled m worker g kept_now new
settled_next m worker g part kept kept_now old new h x = record {
  in_order = ap (map (λ (y : Settled). y.part)) x.is_settled ∙ (map-append (λ (y : Settled). y.part) old.settled (x.by_this ∷ [])
      ∙ (ap (λ ks. ks ++ x.by_this.part ∷ []) h.in_order ∙ (ap (λ k. old.drawn ++ k ∷ []) x.named ∙ sym x.is_drawn)));
  promised = subst (AllByRecursion (IsPromised m worker g kept_now)) (sym x.is_settled)
      (each-push (IsPromised m worker g kept_now) old.settled x.by_this (promised_on m worker g kept kept_now old.settled x.more h.promised) x.promised);
}
