use Rattle.std.proofs.Common.{◌≡◌, ◌∙◌, ◌++◌, ◌∷◌, [], sym, ap, subst, arith, true, false, length, map, ℕ, Bool, List}
use Rattle.std.specs.List.{range_with_len}
use Rattle.std.proofs.lemmas.List.{length-append}
use Rattle.sw_logic.specs.Strata.{AreRanks, FirstOnCycle}
use Rattle.sw_strata.specs.Reaching.{is_found, rank_in, AreReached, AreTables}
use Rattle.sw_strata.proofs.Reached.{on_cycle, more_tables, are_ranks}
use Rattle.sw_strata.proofs.ranks.ranked.Goals as goal

pub returns-then-is_found : goal.returns-then-is_found
returns-then-is_found c =
    let edges = c.args.edges.now in
    let found = c.in_ok-found.found in
    let tables = c.loop-sort.tables in
    let count = c.loop-sort.invariant.0 in
    let here : AreReached c.args.sorts edges (length tables) found = subst (λ s. AreReached c.args.sorts edges s found) (sym count) (c.in_ok-found.ensures {u = tt}) in
    let cycle : is_found found (length tables) ≡ true =
    ap (λ (s : ℕ). is_found found s) count ∙ (sym (ap (λ (xs : List Bool). is_found xs c.loop-sort.sort) c.as_slice.ensures) ∙ (sym c.is_found.ensures ∙ c.if-is_found.true)) in
    subst (FirstOnCycle edges) count (on_cycle c.args.sorts edges tables found c.loop-sort.invariant.1 here cycle)

pub loop-sort-preserved : goal.loop-sort-preserved
loop-sort-preserved c =
    let edges = c.args.edges.now in
    let found = c.in_ok-found.found in
    let tables = c.loop-sort.tables in
    let count = c.loop-sort.invariant.0 in
    let here : AreReached c.args.sorts edges (length tables) found = subst (λ s. AreReached c.args.sorts edges s found) (sym count) (c.in_ok-found.ensures {u = tt}) in
    let no_cycle : is_found found (length tables) ≡ false =
    ap (λ (s : ℕ). is_found found s) count ∙ (sym (ap (λ (xs : List Bool). is_found xs c.loop-sort.sort) c.as_slice.ensures) ∙ (sym c.is_found.ensures ∙ c.if-is_found.false)) in
    let pushed : c.push.new.self ≡ tables ++ found ∷ [] = c.in_ok-push.ensures.ok in
    let more = ap (λ (xs : List (List Bool)). length xs) pushed in
    let one_more = length-append tables (found ∷ []) in
    (omega arith, subst (AreTables c.args.sorts edges) (sym pushed) (more_tables c.args.sorts edges tables found c.loop-sort.invariant.1 here no_cycle))

pub returns : goal.returns
returns c =
    let edges = c.args.edges.now in
    let tables = c.loop-sort.tables in
    let count = c.loop-sort.invariant.0 in
    let full : length tables ≡ c.args.sorts = omega arith in
    let is : c.in_ok-ranks.field-0 ≡ map (rank_in tables) (range_with_len 0 (length tables)) =
    c.in_ok-ranks.ensures {u = tt} ∙ ap (λ (ts : List (List Bool)). map (rank_in ts) (range_with_len 0 (length ts))) c.as_slice-2.ensures in
    subst (AreRanks c.args.sorts edges) (sym is) (are_ranks c.args.sorts edges tables c.loop-sort.invariant.1 full c.requires)
