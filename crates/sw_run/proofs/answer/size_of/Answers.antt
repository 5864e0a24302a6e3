use Rattle.std.proofs.Common.{inl}
use Rattle.sw_run.proofs.Rows.{sizes_told, fault_told}
use Rattle.sw_run.proofs.answer.size_of.Goals as goal

pub returns-in_err-space : goal.returns-in_err-space
returns-in_err-space c = fault_told c.args.protocol.now c.args.text.now c.in_err-space.field-0.0 c.from_residual.result c.from_residual.ensures.1 (rw c.as_bytes.ensures.value at c.in_err-space.ensures.has)

pub returns : goal.returns
returns c = inl (sizes_told c.args.protocol.now c.args.text.now _ c.in_ok-space.space (rw c.as_bytes.ensures.value at c.in_ok-space.ensures.has) c.in_ok-space.ensures.space c.in_ok-sizes.ensures)
