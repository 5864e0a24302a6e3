use Rattle.sw_trees.proofs.Reduce.{close_none, end_again}
use Rattle.sw_trees.proofs.machine.close.Goals as goal

pub returns-else-branch : goal.returns-else-branch
returns-else-branch c =
    let bracket = rw c.if-branch.false at c.in_ok-pop_bracket.ensures in
    rw c.refused.ensures (
      rw c.in_ok-whole.ensures (close_none _ _ bracket.1),
      rw bracket.0 (end_again c.args.stack c.reduce.new.stack c.in_ok-whole.whole c.args.operand c.in_ok-whole.ensures),
    )
