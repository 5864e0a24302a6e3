use Rattle.std.proofs.Common.{sym, ◌∙◌, subst, take}
use Rattle.std.proofs.lemmas.Bool.{false≢true}
use Rattle.sw_filter.specs.Views.{Tells}
use Rattle.sw_filter.proofs.Longer.{live_split, live_first, live_others}
use Rattle.sw_filter.proofs.view.Shown.mark_under.Goals as goal
use Rattle.sw_filter.proofs.view.Shown.mark_under.Goals.{in-New, in-Live, in-Dead}

pub returns-then-live : goal.returns-then-live
returns-then-live c =
    let p = c.args.protocol.now in
    let g = c.args.list.now in
    let x = c.args.self.now.filter.now in
    elim c.match-self.branch [
      | in-New w ↦ w.is_live-live.ensures.0 (sym w.live-is ∙ c.if-live.true)
      | in-Live w ↦
          let told = subst (Tells p c.args.mode (take c.args.from g) x) w.in-Live.is c.requires.told in
          live_split p c.args.mode g c.args.from x told (w.is_live-live-in-Live.ensures.0 (sym w.live-is ∙ c.if-live.true))
      | in-Dead w ↦ absurd (false≢true (sym w.live-is ∙ c.if-live.true))
    ]

pub returns-else-live : goal.returns-else-live
returns-else-live c live =
    let p = c.args.protocol.now in
    let g = c.args.list.now in
    let x = c.args.self.now.filter.now in
    elim c.match-self.branch [
      | in-New w ↦ false≢true (sym c.if-live.false ∙ (w.live-is ∙ w.is_live-live.ensures.1 live))
      | in-Live w ↦ false≢true (sym c.if-live.false ∙ (w.live-is ∙ w.is_live-live-in-Live.ensures.1 (live_others p c.args.mode g c.args.from x live)))
      | in-Dead w ↦ subst (Tells p c.args.mode (take c.args.from g) x) w.in-Dead.is c.requires.told (live_first p c.args.mode g c.args.from x live)
    ]
