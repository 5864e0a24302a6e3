use Rattle.std.proofs.Common.{ℕ, List, length, ◌<◌, refl, arith, ◌∙◌}
use Rattle.sw_filter.specs.declared.view.Shown.{Shown}
use Rattle.sw_filter.proofs.Marked.{set_known, set_marked, set_told}
use Rattle.sw_filter.proofs.view.View.advance.Goals as goal

pub loop-shown-preserved : goal.loop-shown-preserved
loop-shown-preserved g c =
    let p = c.args.self.now.protocol.now in
    let m = c.args.self.now.mode in
    let xs : List Shown = c.loop-shown.shown-items in
    let i : ℕ = c.loop-shown.shown-index in
    let within : i < length xs = omega (arith, c.loop-shown-test.true, c.loop-shown.auto.shown-items) in
    record {
      known = set_known xs i c.shown-item.result _ within refl refl ∙ c.loop-shown.invariant.known;
      marked = set_marked p m c.args.list.now xs i _ within c.loop-shown.invariant.marked c.mark_under-shown.ensures;
      told = set_told p m _ xs i _ c.loop-shown.invariant.told;
    }
