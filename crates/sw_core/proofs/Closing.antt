-- What founded steps that end by Close leave.
use Rattle.sw_lists.proofs.Places.{get_some}
use Rattle.std.specs.Prelude.{◌≡◌, ℕ, ◌<◌, List, [], ◌++◌, length, take, drop, Some, slice_get, unwrap_or}
use Rattle.std.specs.List.{AllByRecursion}
use Rattle.std.proofs.Common.{arith, sym, subst, ◌∙◌}
use Rattle.std.proofs.lemmas.List.{take-append-drop}
use Rattle.std.proofs.lemmas.Option.{slice_get_within}
use Rattle.sw_logic.specs.declared.syntax.Formula.{Formula}
use Rattle.sw_logic.specs.declared.structure.Structure.{Structure}
use Rattle.sw_logic.specs.Truth.{truth, world}
use Rattle.sw_meaning.specs.Inductive.{Inductive, Follows}
use Rattle.sw_meaning.specs.Verdict.{Joins}
use Rattle.sw_meaning.specs.Classes.{classes}
use Rattle.sw_lists.proofs.Each.{of_contained, each-weaker}
use Rattle.sw_meaning.proofs.Parts.{classes_of_parts}
use Rattle.sw_filter.specs.declared.filter.Filter.{Filter}
use Rattle.sw_filter.specs.declared.filter.Mode.TheVariants.{Finish}
use Rattle.sw_filter.specs.Filters.{IsLive}
use Rattle.sw_filter.specs.Good.{Good}
use Rattle.sw_filter.proofs.Good.{good_stays, good_is_not_missed, good_does_not_join}
use Rattle.sw_core.specs.Machine.{Search, Board, Part, IsDone, filters_at, formula_in, parts_in, start, run}
use Rattle.sw_core.specs.Laws.{IsWellSettled, CloseMeansClosed, CloseMeansExhausted}
use Rattle.sw_core.proofs.Lists.{each_got, got_each}
use Rattle.sw_core.proofs.Keeps.{Stands, stands, finisher_keeps_log}

-- the class is good under the list by some filters
abbrev IsGood : Search → List Formula → List ℕ → Type 0
IsGood m log class = (filters : List Filter) × Good m.protocol m.mode log (formula_in m class) filters

-- good under the prefix, with live filters, is good under the whole
good_whole : (m : Search) (log : List Formula) (under : ℕ) (filters : List Filter) (class : List ℕ) → AllByRecursion (IsLive m.protocol m.mode log) filters → Good m.protocol m.mode (take under log) (formula_in m class) filters → IsGood m log class
good_whole m log under filters class live good =
    let whole : take under log ++ drop under log ≡ log = take-append-drop under log in
    let live_too : AllByRecursion (IsLive m.protocol m.mode (take under log ++ drop under log)) filters =
    subst (λ g. AllByRecursion (IsLive m.protocol m.mode g) filters) (sym whole) live in
    (filters, subst (λ g. Good m.protocol m.mode g (formula_in m class) filters) whole (good_stays m.protocol m.mode (take under log) (drop under log) (formula_in m class) filters good live_too))

part_good : (m : Search) (s : Board) (k : ℕ) (part : Part) → Stands m s → IsDone m s.log s.filters part → slice_get s.parts k ≡ Some part → AllByRecursion (IsGood m s.log) (unwrap_or (slice_get (parts_in m) k) [])
part_good m s k part h done at =
    let well : IsWellSettled m s.log s.filters k done.settled = h.last k part done.settled at done.last in
    let at_k : AllByRecursion (λ class. Good m.protocol m.mode (take done.settled.under s.log) (formula_in m class) (filters_at s.filters done.settled.by)) (unwrap_or (slice_get (parts_in m) k) []) =
    subst (λ j. AllByRecursion (λ class. Good m.protocol m.mode (take done.settled.under s.log) (formula_in m class) (filters_at s.filters done.settled.by)) (unwrap_or (slice_get (parts_in m) j) [])) well.number well.good in
    each-weaker (λ class. Good m.protocol m.mode (take done.settled.under s.log) (formula_in m class) (filters_at s.filters done.settled.by)) (IsGood m s.log)
    (λ class g. good_whole m s.log done.settled.under (filters_at s.filters done.settled.by) class done.live g) _ at_k

pub all_good : (m : Search) (s : Board) → Stands m s → AllByRecursion (IsDone m s.log s.filters) s.parts → AllByRecursion (IsGood m s.log) (classes m.protocol.signature m.template)
all_good m s h done =
    classes_of_parts m.protocol.signature m.template (IsGood m s.log)
    (each_got (AllByRecursion (IsGood m s.log)) (parts_in m) (λ k part at. of_part k part at))
  where
    of_part : (k : ℕ) (part : List (List ℕ)) → slice_get (parts_in m) k ≡ Some part → AllByRecursion (IsGood m s.log) part
    of_part k part at =
        let within : k < length (parts_in m) = slice_get_within (parts_in m) k part at in
        let found : (p : Part) × (slice_get s.parts k ≡ Some p) = get_some s.parts k (omega (arith, within, h.count)) in
        subst (λ o. AllByRecursion (IsGood m s.log) (unwrap_or o [])) at
        (part_good m s k found.0 h (got_each (IsDone m s.log s.filters) s.parts k found.0 done found.1) found.1)

pub close_means_closed : CloseMeansClosed
close_means_closed m opening xs mode cover founded ended f inside inductive =
    let s : Board = run m (start m opening) xs in
    let h : Stands m s = stands m opening xs founded in
    let found = cover.complete f inside in
    let same : (u : Structure) → truth (world m.protocol.signature u u) f [] ≡ truth (world m.protocol.signature u u) (formula_in m found.0) [] = found.1.1 in
    let good : IsGood m s.log found.0 = of_contained (IsGood m s.log) (classes m.protocol.signature m.template) found.0 (all_good m s h (h.closed ended)) found.1.0 in
    let too : Inductive m.protocol s.log (formula_in m found.0) = record {
      start = λ u x. sym (same u) ∙ inductive.start u x;
      kept = λ u v x a b. sym (same v) ∙ inductive.kept u v x a (same u ∙ b);
    } in
    let follows : Follows m.protocol s.log (formula_in m found.0) =
    good_is_not_missed m.protocol s.log (formula_in m found.0) good.0 (subst (λ mode. Good m.protocol mode s.log (formula_in m found.0) good.0) mode good.1) too in
    λ u fit x a. same u ∙ follows u fit x a

pub close_means_exhausted : CloseMeansExhausted
close_means_exhausted m opening xs mode cover founded ended f inside joins =
    let s : Board = run m (start m opening) xs in
    let h : Stands m s = stands m opening xs founded in
    let kept : s.log ≡ opening = finisher_keeps_log m opening xs mode founded in
    let found = cover.complete f inside in
    let same : (u : Structure) → truth (world m.protocol.signature u u) f [] ≡ truth (world m.protocol.signature u u) (formula_in m found.0) [] = found.1.1 in
    let good : IsGood m s.log found.0 = of_contained (IsGood m s.log) (classes m.protocol.signature m.template) found.0 (all_good m s h (h.closed ended)) found.1.0 in
    let finish : Good m.protocol Finish s.log (formula_in m found.0) good.0 = subst (λ mode. Good m.protocol mode s.log (formula_in m found.0) good.0) mode good.1 in
    let under : Good m.protocol Finish opening (formula_in m found.0) good.0 = subst (λ g. Good m.protocol Finish g (formula_in m found.0) good.0) kept finish in
    let too : Joins m.protocol opening (formula_in m found.0) = record {
      start = λ u x. sym (same u) ∙ joins.start u x;
      safe = λ u v x a b c. joins.safe u v x a b (same u ∙ c);
      kept = λ u v x a b c. sym (same v) ∙ joins.kept u v x a b (same u ∙ c);
    } in
    good_does_not_join m.protocol opening (formula_in m found.0) good.0 under too
