use Rattle.std.proofs.Common.{arith, sym, ◌∙◌, length, ap}
use Rattle.sw_trees.proofs.Reduce.{double_here, double_past, double_nowhere, end_side, end_past, shorter}
use Rattle.sw_trees.proofs.machine.double.Goals as goal

pub returns-in_default : goal.returns-in_default
returns-in_default c =
    let side = rw c.in_default.is at c.in_ok-side.ensures in
    sym c.loop-left.invariant.goes
    ∙ double_here c.loop-left.stack c.reduce.new.stack c.pop_side.new.stack c.in_ok-left.left c.loop-left.left c.in_ok-left.ensures side.0 side.1

pub returns-in_default-2 : goal.returns-in_default-2
returns-in_default-2 c =
    let side = rw c.in-Some.is at c.in_ok-side.ensures in
    let body = rw c.in_default-2.is at c.in_ok-universal.ensures in (
      sym c.loop-left.invariant.goes
          ∙ double_nowhere c.loop-left.stack c.reduce.new.stack c.pop_side.new.stack c.in_ok-left.left c.loop-left.left c.in-Some.side c.in_ok-left.ensures side body.1,
      rw (body.0, c.in_ok-left-2.ensures)
          (end_side c.loop-left.stack c.reduce.new.stack c.pop_side.new.stack c.in_ok-left.left c.loop-left.left c.in-Some.side c.in_ok-left.ensures side)
          ∙ c.loop-left.invariant.ends,
    )

pub loop-left-smaller : goal.loop-left-smaller
loop-left-smaller c =
    let side = rw c.in-Some.is at c.in_ok-side.ensures in
    let body = rw c.in-Some-2.is at c.in_ok-universal.ensures in
    let less = shorter c.loop-left.stack c.reduce.new.stack c.in_ok-left.left c.loop-left.left c.in_ok-left.ensures in
    omega (arith, less, ap length side, ap length body)

pub loop-left-preserved : goal.loop-left-preserved
loop-left-preserved c =
    let side = rw c.in-Some.is at c.in_ok-side.ensures in
    let body = rw c.in-Some-2.is at c.in_ok-universal.ensures in
    record {
      goes = rw (c.in_ok-left-3.ensures, c.in_ok-left-2.ensures)
          (double_past c.loop-left.stack c.reduce.new.stack c.pop_side.new.stack c.pop_body.new.stack c.in_ok-left.left c.loop-left.left c.in-Some.side c.in-Some-2.universal c.in-Some-2.binders c.in_ok-left.ensures side body)
          ∙ c.loop-left.invariant.goes;
      ends = rw (c.in_ok-left-3.ensures, c.in_ok-left-2.ensures)
          (end_past c.loop-left.stack c.reduce.new.stack c.pop_side.new.stack c.pop_body.new.stack c.in_ok-left.left c.loop-left.left c.in-Some.side c.in-Some-2.universal c.in-Some-2.binders c.in_ok-left.ensures side body)
          ∙ c.loop-left.invariant.ends;
    }
