use Rattle.std.proofs.Common.{◌≡◌, length, arith, ap, ◌∙◌, sym, subst}
use Rattle.std.specs.List.{AllByRecursion}
use Rattle.sw_claims.specs.ClaimsRule.{opened}
use Rattle.sw_claims.specs.declared.rule.ClaimView.{ClaimView}
use Rattle.sw_filter.specs.declared.filter.Mode.TheVariants.{Breadth}
use Rattle.sw_log.specs.declared.entry.Entry.{Entry}
use Rattle.sw_log.specs.declared.rule.LogView.{LogView}
use Rattle.sw_hand.specs.Hands.{search_of}
use Rattle.sw_walk.specs.Parts.{IsClass}
use Rattle.sw_breadth.specs.declared.sharing.Figures.{Figures}
use Rattle.sw_breadth.specs.Joins.{IsClosable}
use Rattle.sw_breadth.proofs.Ends.{Listed, closed_cause, closed_whole}
use Rattle.sw_breadth.proofs.working.run_alone.Goals as goal

pub alone-requires-clause-alone : goal.alone-requires-clause-alone
alone-requires-clause-alone g c κs within =
    let t = c.args.task.now in
    let m = search_of t.protocol.now (g.B.Walk.template t.space.now) Breadth t.workers in
    let entries = c.args.entries.items in
    let listed = subst (λ ps. AllByRecursion (λ (e : Entry). IsClass ps e.body) entries) c.requires.can.are_parts c.requires.classes in
    let seen : c.in_ok-shared.first.log.view.seen ≡ entries = ap (λ (v : LogView). v.seen) c.in_ok-shared.ensures.log in
    record {
      claims = c.in_ok-shared.ensures.claim ∙ (ap (λ n. opened n 0) (c.parts.ensures ∙ ap (λ ps. length ps) c.requires.can.are_parts));
      log = (ap (λ (v : LogView). v.first) c.in_ok-shared.ensures.log, ap (λ (v : LogView). v.out) c.in_ok-shared.ensures.log);
      classes = subst (λ es. AllByRecursion (Listed m) es) (sym seen) listed;
    }

pub returns-clause-whole : goal.returns-clause-whole
returns-clause-whole g c =
    let t = c.args.task.now in
    let m = search_of t.protocol.now (g.B.Walk.template t.space.now) Breadth t.workers in
    let entries = c.args.entries.items in
    let listed = subst (λ ps. AllByRecursion (λ (e : Entry). IsClass ps e.body) entries) c.requires.can.are_parts c.requires.classes in
    let seen : c.in_ok-shared.first.log.view.seen ≡ entries = ap (λ (v : LogView). v.seen) c.in_ok-shared.ensures.log in
    closed_whole m t.pool.now c.args.budget c.args.before entries c.alone.new.first c.in_ok-joined.joined (omega (arith, c.requires.worker.1)) c.requires.placed listed (subst (λ (f : Figures). IsClosable m t.pool.now f.budget entries f.before c.alone.new.first c.in_ok-joined.joined) c.in_ok-shared.ensures.figures (subst (λ es. IsClosable m t.pool.now c.in_ok-shared.shared.figures.budget es c.in_ok-shared.shared.figures.before c.alone.new.first c.in_ok-joined.joined) seen c.in_ok-joined.ensures.joined)) c.close.result c.close.ensures.whole

pub returns-clause-cause : goal.returns-clause-cause
returns-clause-cause g c =
    let t = c.args.task.now in
    let m = search_of t.protocol.now (g.B.Walk.template t.space.now) Breadth t.workers in
    let entries = c.args.entries.items in
    let listed = subst (λ ps. AllByRecursion (λ (e : Entry). IsClass ps e.body) entries) c.requires.can.are_parts c.requires.classes in
    let seen : c.in_ok-shared.first.log.view.seen ≡ entries = ap (λ (v : LogView). v.seen) c.in_ok-shared.ensures.log in
    closed_cause m t.pool.now c.args.budget c.args.before entries c.alone.new.first c.in_ok-joined.joined c.requires.placed listed (subst (λ (f : Figures). IsClosable m t.pool.now f.budget entries f.before c.alone.new.first c.in_ok-joined.joined) c.in_ok-shared.ensures.figures (subst (λ es. IsClosable m t.pool.now c.in_ok-shared.shared.figures.budget es c.in_ok-shared.shared.figures.before c.alone.new.first c.in_ok-joined.joined) seen c.in_ok-joined.ensures.joined)) c.close.result c.close.ensures.failed
