use Rattle.std.proofs.Common.{◌≡◌, ◌+◌, ◌∷◌, ◌++◌, [], ap, rules, subst, sym, take, ◌∙◌}
use Rattle.std.specs.List.{AllByRecursion, AllZip}
use Rattle.std.proofs.lemmas.List.{take_more}
use Rattle.sw_lists.proofs.Each.{each-at}
use Rattle.sw_pool.specs.Pools.{IsShown}
use Rattle.sw_core.specs.Gathered.{filters_of}
use Rattle.sw_hand.specs.declared.hand.Handed.{Handed}
use Rattle.sw_gather.specs.Gathers.{AreAt, AreSettledOf, HasTokens, IsMovedBy, shown_by}
use Rattle.sw_gather.proofs.Chosen.{each_got, settled_more}
use Rattle.sw_gather.proofs.Merged.{tokens_show, tokens_shown}
use Rattle.sw_gather.proofs.gathering.settle_all.Goals as goal

pub places_of-requires-clause-own : goal.places_of-requires-clause-own
places_of-requires-clause-own c =
    let h : Handed = c.share-item.result in
    let has : HasTokens c.args.pool.now h = each_got (HasTokens c.args.pool.now) c.args.shares.now c.loop-share.share-index h c.loop-share-test.true c.share-item.is c.requires.tokens in
    subst (AllByRecursion (IsShown c.args.pool.now)) (sym c.deref-in-loop-share.ensures.value) (tokens_shown c.args.pool.now h.tokens.items h.kept has)

pub loop-share-preserved : goal.loop-share-preserved
loop-share-preserved c =
    let i = c.loop-share.share-index in
    let hs = c.args.shares.now in
    let h : Handed = c.share-item.result in
    let all = shown_by c.args.tokens.now in
    let has : HasTokens c.args.pool.now h = each_got (HasTokens c.args.pool.now) c.args.shares.now c.loop-share.share-index h c.loop-share-test.true c.share-item.is c.requires.tokens in
    let one : take (i + 1) hs ≡ take i hs ++ h ∷ [] = take_more hs i h c.loop-share-test.true ∙ ap (λ (g : Handed). take i hs ++ g ∷ []) (sym c.share-item.is) in
    let at : AreAt all (filters_of h.kept) c.in_ok-places.places.items =
    subst (λ fs. AreAt all fs c.in_ok-places.places.items) (ap shown_by c.deref-in-loop-share.ensures.value ∙ tokens_show c.args.pool.now h.tokens.items h.kept has) c.in_ok-places.ensures in
    let zip : AllZip (IsMovedBy c.args.before c.in_ok-places.places.items) h.settled c.in_ok-merged_all.field-0 = search rules in
    subst (AreSettledOf c.args.before all (take (i + 1) hs)) (sym c.in_ok-append.ensures)
    (subst (λ l. AreSettledOf c.args.before all l (c.loop-share.all ++ c.in_ok-merged_all.field-0)) (sym one)
    (settled_more c.args.before all (take i hs) h c.loop-share.all c.in_ok-places.places.items c.in_ok-merged_all.field-0 c.loop-share.invariant at zip))
