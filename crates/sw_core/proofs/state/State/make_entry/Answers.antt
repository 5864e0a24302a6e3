use Rattle.std.proofs.Common.{arith, ap, ◌∙◌, length}
use Rattle.sw_core.proofs.Narrow.{formula_made, entry_narrow}
use Rattle.sw_core.proofs.Puts.{made_entry}
use Rattle.sw_core.proofs.state.State.make_entry.Goals as goal

pub put_made-requires : goal.put_made-requires
put_made-requires c =
    entry_narrow c.self.inside.protocol.now.signature c.self.inside.space.now.template c.args.body.now.cubes c.in_ok-formula.formula
    (c.in_ok-formula.ensures ∙ formula_made c.self.inside.space.now c.self.inside.protocol.now.signature c.self.invariant.3 c.args.body.now.cubes) c.self.invariant.4

pub returns-clause-room : goal.returns-clause-room
returns-clause-room c =
    made_entry _ _ _ _ _ c.in_ok-formula.formula c.args.body.now c.put_made.ensures
    (c.in_ok-formula.ensures ∙ formula_made c.self.inside.space.now c.self.inside.protocol.now.signature c.self.invariant.3 c.args.body.now.cubes)
    (omega (arith, c.in_ok-reserve.ensures.capacity, c.in_ok-reserve.ensures.ok, c.in_ok-reserve.ensures.len))
    (omega (arith, c.if-len-ge-ENTRIES.false, c.len.ensures, c.self.inside.log.ok.0, ap length c.in_ok-reserve.ensures.items))
