use Rattle.std.specs.Prelude.{map, string_bytes}
use Rattle.std.proofs.Common.{refl}
use Rattle.sw_run.specs.Ending.{Allowed}
use Rattle.sw_run.proofs.Rows.{check_allowed, other_is_check, unserved_kind}
use Rattle.sw_run.proofs.Bounds.{synth_within}
use Rattle.sw_run.proofs.answer.answer.Goals as goal

pub synth-requires : goal.synth-requires
synth-requires g c = (
  c.type_bounds.sync-H,
  (c.type_bounds.sync-G, synth_within (map string_bytes c.args.words.now) c.in_ok-command.command c.in-Synth.options c.in_ok-command.ensures.command c.in-Synth.is),
)

pub returns-in-Certify : goal.returns-in-Certify
returns-in-Certify g c =
    Allowed.unserved c.in_ok-command.command c.in_ok-command.ensures.command (unserved_kind c.in_ok-command.command c.in-Certify.is) (record { bytes = refl; faults = refl }) refl

pub returns : goal.returns
returns g c =
    check_allowed _ c.in_ok-command.command _ _ c.in_ok-command.ensures.command
    (other_is_check c.in_ok-command.command c.in_default.not-Synth c.in_default.not-Certify c.in_default.not-Drill) c.check.ensures
