use Rattle.std.proofs.Common.{◌∙◌}
use Rattle.std.specs.Vec.Iter.{into_iter_items}
use Rattle.sw_core.proofs.Takes.{goes_stop, goes_on}
use Rattle.sw_core.proofs.replaying.take_all.Goals as goal

pub returns-then-not-step : goal.returns-then-not-step
returns-then-not-step c =
    goes_stop c.args.state.now.search c.reserve.new.self.search c.args.state.now.board c.loop-step.state.board c.reserve.new.self.board c.args.steps.items (into_iter_items c.loop-step.step-iterator) (into_iter_items c.next.new.self) c.in-Some.step c.step-in-loop-step.result
    c.loop-step.invariant.goes c.in-Some.ensures.steps.0 (c.in_ok-reserve.ensures.search ∙ c.loop-step.invariant.search_is) c.in_ok-reserve.ensures.board c.step-in-loop-step.ensures.answer c.if-not-step.true

pub loop-step-preserved : goal.loop-step-preserved
loop-step-preserved c = record {
  search_is = c.step-in-loop-step.ensures.search ∙ (c.in_ok-reserve.ensures.search ∙ c.loop-step.invariant.search_is);
  goes =
      goes_on c.args.state.now.search c.reserve.new.self.search c.args.state.now.board c.loop-step.state.board c.reserve.new.self.board c.step-in-loop-step.new.self.board c.args.steps.items (into_iter_items c.loop-step.step-iterator) (into_iter_items c.next.new.self) c.in-Some.step c.step-in-loop-step.result
      c.loop-step.invariant.goes c.in-Some.ensures.steps.0 (c.in_ok-reserve.ensures.search ∙ c.loop-step.invariant.search_is) c.in_ok-reserve.ensures.board c.step-in-loop-step.ensures.answer c.if-not-step.false c.step-in-loop-step.ensures.board;
}
