use Rattle.std.proofs.Common.{◌≡◌, ◌++◌, ap, length, map, arith, rules, subst, sym, ◌∙◌}
use Rattle.std.proofs.lemmas.List.{length-map}
use Rattle.sw_core.specs.Gathered.{filters_of}
use Rattle.sw_core.specs.declared.record.Round.{Round}
use Rattle.sw_pool.specs.Pools.{filter_of}
use Rattle.sw_hand.specs.declared.hand.Handed.{Handed}
use Rattle.sw_gather.specs.Gathers.{AreKeptOf, AreSettledOf, IsRoundOf, shown_by}
use Rattle.sw_gather.proofs.Merged.{round_is}
use Rattle.sw_gather.proofs.gathering.gather.Goals as goal

pub returns-clause-round : goal.returns-clause-round
returns-clause-round c =
    let hs = c.args.shares.now in
    let before = shown_by c.args.tokens.now.items in
    let all = shown_by c.keep_all.new.tokens.items in
    let ks = c.in_ok-kept.kept in
    let xs = c.in_ok-settled.settled in
    let filters : all ≡ before ++ filters_of ks = c.in_ok-kept.ensures.filters in
    let size : length before ≡ length c.args.tokens.now.items = length-map c.args.tokens.now.items filter_of in
    let count : c.in-Ok.before ≡ length before = omega (arith, size, c.in-Ok.ensures, c.len.ensures, c.args.tokens.now.ok.0) in
    let settled : AreSettledOf (length before) all hs xs =
    subst (λ n. AreSettledOf n all hs xs) count (subst (λ l. AreSettledOf c.in-Ok.before (shown_by l) hs xs) c.deref.ensures.value c.in_ok-settled.ensures) in
    let drawn : c.in_ok-drawn.drawn ≡ map (λ (h : Handed). h.drawn) hs = c.in_ok-drawn.ensures in
    subst (λ d. IsRoundOf before c.args.log hs all (let r : Round = record { drawn = d; kept = ks; settled = xs; log = c.args.log } in r)) (sym drawn)
    (round_is before c.args.log hs all ks xs filters c.in_ok-kept.ensures.kept settled)
