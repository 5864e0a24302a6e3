use Rattle.sw_run.proofs.Rows.{synth_row, not_read, was_read}
use Rattle.sw_run.proofs.answer.synth.Goals as goal

pub returns-in_err-protocol : goal.returns-in_err-protocol
returns-in_err-protocol g c =
    synth_row c.args.options.now _ _ (not_read _ _ c.in_err-protocol.field-0.0 c.from_residual.result c.from_residual.ensures.1 c.in_err-protocol.ensures.misread)

pub returns : goal.returns
returns g c = synth_row c.args.options.now _ _ (was_read _ _ c.in_ok-protocol.protocol c.search_protocol.result c.in_ok-protocol.ensures.spelled c.search_protocol.ensures)
