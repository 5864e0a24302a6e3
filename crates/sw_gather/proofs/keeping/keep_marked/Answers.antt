use Rattle.std.proofs.Common.{◌≡◌, ◌+◌, ◌∷◌, ◌++◌, Bool, [], append_assoc, ap, length, map, rules, subst, sym, take, Some, if◌then◌else◌, ◌∙◌}
use Rattle.std.specs.List.{AllByRecursion, slice_get}
use Rattle.std.proofs.lemmas.List.{map-append}
use Rattle.sw_pool.specs.declared.pool.Seen.{Seen}
use Rattle.sw_pool.specs.Pools.{IsShown, filter_of}
use Rattle.sw_core.specs.declared.record.Kept.{Kept}
use Rattle.sw_core.specs.Gathered.{chosen, filters_of}
use Rattle.sw_gather.specs.Gathers.{shown_by}
use Rattle.sw_gather.proofs.Chosen.{chosen_more, chosen_whole, keep_where_shown, keep_where_shows, tokens_at}
use Rattle.sw_gather.proofs.keeping.keep_marked.Goals as goal

pub loop-place-preserved : goal.loop-place-preserved
loop-place-preserved c =
    let i = c.loop-place.place in
    let marks = c.args.marks.now in
    let kept = c.args.share.now.kept in
    let tokens = c.args.share.now.tokens.items in
    let b : Bool = c.in-Some.mark.now in
    let k : Kept = c.in-Some-Some.one.now in
    let t : Seen = c.in-Some-Some.token.now in
    let mark_at : slice_get marks i ≡ Some b = search rules in
    let kept_at : slice_get kept i ≡ Some k = search rules in
    let token_at : slice_get tokens i ≡ Some t = search rules in
    let more : chosen (take (i + 1) marks) (take (i + 1) kept) ≡ chosen (take i marks) (take i kept) ++ (if b then k ∷ [] else []) = chosen_more i marks kept b k mark_at kept_at in
    let both = tokens_at c.args.pool.now tokens kept i t k c.requires.tokens token_at kept_at in
    let before = c.loop-place.invariant in
    record {
      kept = c.in_ok-keep_where.ensures.kept
          ∙ (ap (λ l. l ++ (if b then k ∷ [] else [])) before.kept
          ∙ (append_assoc c.args.kept.now (chosen (take i marks) (take i kept)) (if b then k ∷ [] else []) ∙ ap (λ l. c.args.kept.now ++ l) (sym more)));
      filters = ap shown_by c.in_ok-keep_where.ensures.tokens
          ∙ (map-append filter_of c.loop-place.tokens.items (if b then t ∷ [] else [])
          ∙ (ap (λ l. l ++ shown_by (if b then t ∷ [] else [])) before.filters
          ∙ (append_assoc (shown_by c.args.tokens.now.items) (filters_of (chosen (take i marks) (take i kept))) (shown_by (if b then t ∷ [] else []))
          ∙ ap (λ l. shown_by c.args.tokens.now.items ++ l)
          (ap (λ l. filters_of (chosen (take i marks) (take i kept)) ++ l) (keep_where_shows b t k both.1)
          ∙ (sym (map-append (λ (x : Kept). x.filter) (chosen (take i marks) (take i kept)) (if b then k ∷ [] else [])) ∙ ap filters_of (sym more))))));
      shown = subst (AllByRecursion (IsShown c.args.pool.now)) (sym c.in_ok-keep_where.ensures.tokens) (keep_where_shown c.args.pool.now c.loop-place.tokens.items b t both.0 before.shown);
    }

pub returns-clause-kept : goal.returns-clause-kept
returns-clause-kept c =
    let whole : c.loop-place.place ≡ length c.args.share.now.kept = search rules in
    c.loop-place.invariant.kept
    ∙ ap (λ l. c.args.kept.now ++ l)
    (ap (λ n. chosen (take n c.args.marks.now) (take n c.args.share.now.kept)) whole ∙ chosen_whole c.args.marks.now c.args.share.now.kept)

pub returns-clause-filters : goal.returns-clause-filters
returns-clause-filters c =
    let whole : c.loop-place.place ≡ length c.args.share.now.kept = search rules in
    c.loop-place.invariant.filters
    ∙ ap (λ l. shown_by c.args.tokens.now.items ++ filters_of l)
    (ap (λ n. chosen (take n c.args.marks.now) (take n c.args.share.now.kept)) whole ∙ chosen_whole c.args.marks.now c.args.share.now.kept)
