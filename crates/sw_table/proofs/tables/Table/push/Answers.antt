use Rattle.std.proofs.Common.{sym, ◌∙◌}
use Rattle.sw_table.proofs.Firsts.{at_error, popped}
use Rattle.sw_table.proofs.tables.Table.push.Goals as goal

pub invariant_of-self-then-is_err : goal.invariant_of-self-then-is_err
invariant_of-self-then-is_err c =
    let names = popped c.self.inside.names c.pop.new.self c.push.new.self c.args.name c.pop.result c.in_ok-push.ensures.ok c.pop.ensures in
    let kept = at_error c.put.result (sym c.is_err.ensures.value ∙ c.if-is_err.true) (c.put.ensures.kept c.self.inside.names c.self.invariant) in
    rw names kept
