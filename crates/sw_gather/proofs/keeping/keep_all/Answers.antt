use Rattle.std.proofs.Common.{◌≡◌, List, ◌+◌, ◌∷◌, ◌++◌, [], append_assoc, ap, rules, subst, sym, take, ◌∙◌}
use Rattle.std.proofs.lemmas.List.{map-append, take_more}
use Rattle.sw_core.specs.declared.record.Kept.{Kept}
use Rattle.sw_core.specs.Gathered.{chosen, filters_of}
use Rattle.sw_hand.specs.declared.hand.Handed.{Handed}
use Rattle.sw_gather.specs.Gathers.{AreKeptOf, shown_by}
use Rattle.sw_gather.proofs.Chosen.{kept_more}
use Rattle.sw_gather.proofs.keeping.keep_all.Goals as goal

pub loop-share-preserved : goal.loop-share-preserved
loop-share-preserved c =
    let i = c.loop-share.share-index in
    let hs = c.args.shares.now in
    let h : Handed = c.share-item.result in
    let kept : List Kept = c.loop-share.kept in
    let marks = c.deref-in-loop-share.result.now in
    let one : take (i + 1) hs ≡ take i hs ++ h ∷ [] = take_more hs i h c.loop-share-test.true ∙ ap (λ (g : Handed). take i hs ++ g ∷ []) (sym c.share-item.is) in
    let done = c.in_ok-keep_marked.ensures in
    let before = c.loop-share.invariant in
    record {
      kept = subst (AreKeptOf (take (i + 1) hs)) (sym done.kept)
          (subst (λ l. AreKeptOf l (kept ++ chosen marks h.kept)) (sym one) (kept_more (take i hs) h kept marks before.kept));
      filters = done.filters
          ∙ (ap (λ l. l ++ filters_of (chosen marks h.kept)) before.filters
          ∙ (append_assoc (shown_by c.args.tokens.now.items) (filters_of kept) (filters_of (chosen marks h.kept))
          ∙ ap (λ l. shown_by c.args.tokens.now.items ++ l) (sym (map-append (λ (x : Kept). x.filter) kept (chosen marks h.kept)) ∙ ap filters_of (sym done.kept))));
      shown = done.shown;
    }
