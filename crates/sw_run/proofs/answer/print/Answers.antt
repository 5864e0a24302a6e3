use Rattle.std.proofs.Common.{inl}
use Rattle.sw_run.specs.Ending.{Reads}
use Rattle.sw_run.proofs.Rows.{print_row, not_read, printed_text}
use Rattle.sw_run.proofs.answer.print.Goals as goal

pub returns-in_err-protocol : goal.returns-in_err-protocol
returns-in_err-protocol g c = print_row _ _ (not_read _ _ c.in_err-protocol.field-0.0 c.from_residual.result c.from_residual.ensures.1 c.in_err-protocol.ensures.misread)

pub returns : goal.returns
returns g c = print_row _ _ (inl (Reads.read c.in_ok-protocol.protocol c.in_ok-protocol.ensures.spelled (printed_text c.in_ok-protocol.protocol _ c.in_ok-text.ensures)))
