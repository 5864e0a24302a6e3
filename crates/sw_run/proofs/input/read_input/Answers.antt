use Rattle.std.proofs.Common.{arith}
use Rattle.sw_run.proofs.Rows.{fault_refused, spelled_by, passed_on}
use Rattle.sw_run.proofs.input.read_input.Goals as goal

pub returns-in_err-protocol-clause-misread : goal.returns-in_err-protocol-clause-misread
returns-in_err-protocol-clause-misread g c =
    passed_on _ _ c.from_residual-in_err-protocol.result c.from_residual-in_err-protocol.ensures.1
    (fault_refused _ c.as_slice.result.now c.in_ok-bytes.bytes.items c.in_err-protocol.field-0.0
    (record { all = c.in_ok-bytes.ensures.all; ended = c.in_ok-bytes.ensures.end; within = omega (arith, c.in_ok-bytes.bytes.ok.0, c.in_ok-bytes.ensures.within) })
    c.as_slice.ensures.value c.in_err-protocol.ensures.fault)

pub returns-clause-spelled : goal.returns-clause-spelled
returns-clause-spelled g c =
    spelled_by _ c.as_slice.result.now c.in_ok-bytes.bytes.items c.in_ok-protocol.protocol
    (record { all = c.in_ok-bytes.ensures.all; ended = c.in_ok-bytes.ensures.end; within = omega (arith, c.in_ok-bytes.bytes.ok.0, c.in_ok-bytes.ensures.within) })
    c.as_slice.ensures.value c.in_ok-protocol.ensures.text
