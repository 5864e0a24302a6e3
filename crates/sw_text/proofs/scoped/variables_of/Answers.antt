use Rattle.std.proofs.Common.{sym, ◌∙◌}
use Rattle.sw_text.proofs.Numbered.{numbered_more}
use Rattle.sw_text.proofs.scoped.variables_of.Goals as goal

pub loop-i-preserved : goal.loop-i-preserved
loop-i-preserved c =
    let within = rw c.as_slice-sort-items.ensures at c.loop-i-test.true in
    let pushed = rw (c.in_ok-name_of.ensures, c.as_slice-sort-items.ensures, c.loop-i.invariant) at c.in_ok-push.ensures.items in
    pushed ∙ sym (numbered_more c.args.scope.now.sorts c.loop-i.i _ within)
