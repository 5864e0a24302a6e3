use Rattle.std.proofs.Common.{sym, ◌∙◌}
use Rattle.sw_text.specs.Resolving.{around}
use Rattle.sw_text.proofs.Breaking.{bind_twice, bind_unknown}
use Rattle.sw_text.proofs.names.Names.bind.Goals as goal

pub returns-then-is_twice : goal.returns-then-is_twice
returns-then-is_twice c =
    let twice = rw c.as_slice.ensures.value at c.is_twice.ensures in
    bind_twice (around c.args.self.now) c.args.scope.now.items c.args.binder c.bytes_of-name.result.now c.bytes_of-name.ensures (sym twice ∙ c.if-is_twice.true)

pub returns-in_default : goal.returns-in_default
returns-in_default c =
    let twice = rw c.as_slice.ensures.value at c.is_twice.ensures in
    let none = rw c.in_default.is at c.in_ok-sort.ensures in
    bind_unknown (around c.args.self.now) c.args.scope.now.items c.args.binder c.bytes_of-name.result.now c.bytes_of.result.now c.bytes_of-name.ensures c.bytes_of.ensures (sym twice ∙ c.if-is_twice.false) (sym none)
