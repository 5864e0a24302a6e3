-- Settlements as a share promises them: how they come about, and that they stay.
use Rattle.std.specs.Prelude.{◌≡◌, ℕ, suc, ◌+◌, ◌<◌, ◌≤◌, Bool, true, false, List, [], ◌∷◌, ◌++◌, map, length, take, slice_get, unwrap_or}
use Rattle.std.specs.List.{AllByRecursion, cons_option}
use Rattle.std.proofs.Common.{refl, arith, sym, ap, ◌∙◌, subst, append_assoc}
use Rattle.std.proofs.lemmas.List.{length-append, length-map, map-append, take-append-le}
use Rattle.sw_lists.proofs.Each.{each-weaker}
use Rattle.sw_lists.proofs.Places.{get_append_right}
use Rattle.sw_logic.specs.declared.syntax.Formula.{Formula}
use Rattle.sw_filter.specs.declared.filter.Filter.{Filter}
use Rattle.sw_filter.specs.declared.view.Shown.{Shown}
use Rattle.sw_filter.specs.Filters.{IsLive}
use Rattle.sw_filter.specs.Good.{Good}
use Rattle.sw_pool.specs.declared.pool.Pool.{Pool}
use Rattle.sw_pool.specs.declared.pool.Seen.{Seen}
use Rattle.sw_core.specs.declared.record.Kept.{Kept}
use Rattle.sw_core.specs.declared.record.Settled.{Settled}
use Rattle.sw_core.specs.Machine.{Search, AreBelow, filters_at, formula_in, parts_in}
use Rattle.sw_core.specs.Gathered.{IsSettledBy, IsTimely, filters_of}
use Rattle.sw_core.proofs.Lists.{filters_at-append}
use Rattle.sw_walk.specs.Parts.{part_at}
use Rattle.sw_hand.specs.Hands.{IsHand, IsGoodBy, used_from, used_filters}
use Rattle.sw_work.specs.Steps.{IsPromised}
use Rattle.sw_work.proofs.Rows.{take_whole}

-- the places behind other filters
filters_behind : (n : ℕ) (fs own : List Filter) (ks : List ℕ) → length fs ≡ n → filters_at (fs ++ own) (map (λ k. n + k) ks) ≡ filters_at own ks
filters_behind n fs own [] e = refl
filters_behind n fs own (k ∷ ks) e =
    ap (λ o. cons_option o (filters_at (fs ++ own) (map (λ k. n + k) ks))) (ap (λ l. slice_get (fs ++ own) (l + k)) (sym e) ∙ get_append_right fs own k)
    ∙ ap (cons_option (slice_get own k)) (filters_behind n fs own ks e)

below_behind : (n count all : ℕ) (ks : List ℕ) → n + count ≤ all → AreBelow count ks → AreBelow all (map (λ k. n + k) ks)
below_behind n count all [] le h = tt
below_behind n count all (k ∷ ks) le h = (omega (arith, le, h.0), below_behind n count all ks le h.1)

below_used : (k : ℕ) (used : List Bool) → AreBelow (k + length used) (used_from k used)
below_used k [] = tt
below_used k (true ∷ used) =
    let next : (k + 1) + length used ≡ k + suc (length used) = omega arith in
    (omega arith, subst (λ n. AreBelow n (used_from (k + 1) used)) next (below_used (k + 1) used))
below_used k (false ∷ used) =
    let next : (k + 1) + length used ≡ k + suc (length used) = omega arith in
    subst (λ n. AreBelow n (used_from (k + 1) used)) next (below_used (k + 1) used)

module _ (m : Search) (worker before since : ℕ) where
  -- a part each class of which is good is settled by the filters used
  pub promised_of : (pool : Pool) (formulas : List Formula) (shown : List Shown) (kept : List Kept) (tokens : List Seen) (used : List Bool) (x : Settled) → x.worker ≡ worker → x.under ≡ length formulas → since ≤ x.under
      → x.by ≡ map (λ k. before + k) (used_from 0 used) → IsHand m pool worker formulas shown kept tokens used → AllByRecursion (IsGoodBy m formulas kept used) (part_at (parts_in m) x.part) → IsPromised m worker before since formulas kept x
  promised_of pool formulas shown kept tokens used x w u s b h good =
      let whole : take x.under formulas ≡ formulas = take_whole formulas x.under (omega (arith, u)) in
      let size : length (filters_of kept) ≡ length kept = length-map kept (λ (k : Kept). k.filter) in
      let named : (filters : List Filter) → length filters ≡ before → filters_at (filters ++ filters_of kept) x.by ≡ used_filters kept used =
      λ filters e. ap (filters_at (filters ++ filters_of kept)) b ∙ filters_behind before filters (filters_of kept) (used_from 0 used) e in
      let none : 0 + length used ≡ length kept = omega (arith, h.marks) in
      let places : (filters : List Filter) → length filters ≡ before → AreBelow (length (filters ++ filters_of kept)) x.by =
      λ filters e. subst (AreBelow (length (filters ++ filters_of kept))) (sym b)
      (below_behind before (length kept) (length (filters ++ filters_of kept)) (used_from 0 used) (omega (arith, e, size, length-append filters (filters_of kept))) (subst (λ n. AreBelow n (used_from 0 used)) none (below_used 0 used))) in
      record {
        settled = λ filters e. record {
          by_worker = w;
          under = omega (arith, u);
          places = places filters e;
          good = subst (λ g. AllByRecursion (λ class. Good m.protocol m.mode g (formula_in m class) (filters_at (filters ++ filters_of kept) x.by)) (part_at (parts_in m) x.part)) (sym whole)
              (subst (λ l. AllByRecursion (λ class. Good m.protocol m.mode formulas (formula_in m class) l) (part_at (parts_in m) x.part)) (sym (named filters e)) good);
        };
        timely = λ filters e. record {
          since = s;
          places = places filters e;
          live = subst (λ g. AllByRecursion (IsLive m.protocol m.mode g) (filters_at (filters ++ filters_of kept) x.by)) (sym whole)
              (subst (AllByRecursion (IsLive m.protocol m.mode formulas)) (sym (named filters e)) h.live);
        };
      }

  regrouped : (filters : List Filter) (kept more : List Kept) → filters ++ filters_of (kept ++ more) ≡ (filters ++ filters_of kept) ++ filters_of more
  regrouped filters kept more = ap (λ l. filters ++ l) (map-append (λ (k : Kept). k.filter) kept more) ∙ sym (append_assoc filters (filters_of kept) (filters_of more))

  below_more : (xs ys : List Filter) (ks : List ℕ) → AreBelow (length xs) ks → AreBelow (length (xs ++ ys)) ks
  below_more xs ys ks h = let size : length (xs ++ ys) ≡ length xs + length ys = length-append xs ys in each-weaker (λ k. k < length xs) (λ k. k < length (xs ++ ys)) (λ k lt. omega (arith, size, lt)) ks h

  settled_stays : (formulas more : List Formula) (xs ys : List Filter) (x : Settled) → IsSettledBy m worker formulas xs x → IsSettledBy m worker (formulas ++ more) (xs ++ ys) x
  settled_stays formulas more xs ys x h =
      let le : x.under ≤ length formulas = h.under in
      record {
        by_worker = h.by_worker;
        under = omega (arith, le, length-append formulas more);
        places = below_more xs ys x.by h.places;
        good = subst (λ g. AllByRecursion (λ class. Good m.protocol m.mode g (formula_in m class) (filters_at (xs ++ ys) x.by)) (unwrap_or (slice_get (parts_in m) x.part) [])) (sym (take-append-le x.under formulas more le))
            (subst (λ l. AllByRecursion (λ class. Good m.protocol m.mode (take x.under formulas) (formula_in m class) l) (unwrap_or (slice_get (parts_in m) x.part) [])) (sym (filters_at-append xs ys x.by h.places)) h.good);
      }

  timely_stays : (formulas more : List Formula) (xs ys : List Filter) (x : Settled) → x.under ≤ length formulas → IsTimely m since formulas xs x → IsTimely m since (formulas ++ more) (xs ++ ys) x
  timely_stays formulas more xs ys x le h = record {
    since = h.since;
    places = below_more xs ys x.by h.places;
    live = subst (λ g. AllByRecursion (IsLive m.protocol m.mode g) (filters_at (xs ++ ys) x.by)) (sym (take-append-le x.under formulas more le))
        (subst (AllByRecursion (IsLive m.protocol m.mode (take x.under formulas))) (sym (filters_at-append xs ys x.by h.places)) h.live);
  }

  promised_stays : (formulas more : List Formula) (kept further : List Kept) (x : Settled) → IsPromised m worker before since formulas kept x → IsPromised m worker before since (formulas ++ more) (kept ++ further) x
  promised_stays formulas more kept further x h = record {
    settled = λ filters e. subst (λ l. IsSettledBy m worker (formulas ++ more) l x) (sym (regrouped filters kept further)) (settled_stays formulas more (filters ++ filters_of kept) (filters_of further) x (h.settled filters e));
    timely = λ filters e. subst (λ l. IsTimely m since (formulas ++ more) l x) (sym (regrouped filters kept further)) (timely_stays formulas more (filters ++ filters_of kept) (filters_of further) x (h.settled filters e).under (h.timely filters e));
  }

  -- under more formulas and with more filters, all stay
  pub each_promised : (fs gs more : List Formula) (kept kept_now further : List Kept) (xs : List Settled) → gs ≡ fs ++ more → kept_now ≡ kept ++ further → AllByRecursion (IsPromised m worker before since fs kept) xs
      → AllByRecursion (IsPromised m worker before since gs kept_now) xs
  each_promised fs gs more kept kept_now further xs e k h =
      subst (λ g. AllByRecursion (IsPromised m worker before since g kept_now) xs) (sym e) (subst (λ l. AllByRecursion (IsPromised m worker before since (fs ++ more) l) xs) (sym k)
      (each-weaker (IsPromised m worker before since fs kept) (IsPromised m worker before since (fs ++ more) (kept ++ further)) (λ x a. promised_stays fs more kept further x a) xs h))
