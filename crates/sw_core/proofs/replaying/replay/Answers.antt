use Rattle.std.proofs.Common.{ap, ◌∙◌}
use Rattle.sw_core.specs.Machine.{start}
use Rattle.sw_core.specs.Records.{steps_of}
use Rattle.sw_core.proofs.Takes.{goes_as}
use Rattle.sw_core.proofs.replaying.replay.Goals as goal

pub returns : goal.returns
returns c =
    goes_as c.take_all.result _ _ _ _ _ _ c.take_all.ensures c.in_ok-state.ensures.search (c.in_ok-state.ensures.board ∙ ap (λ m. start m c.args.opening.items) c.in_ok-state.ensures.search)
    (c.in_ok-steps.ensures ∙ ap (steps_of c.args.kept.now) (c.len-count.ensures ∙ c.args.opening.ok.0))
