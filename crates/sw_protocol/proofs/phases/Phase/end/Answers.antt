use Rattle.std.proofs.Common.{sym, ◌∙◌}
use Rattle.sw_protocol.proofs.Stepping.{formula_deep}
use Rattle.sw_protocol.proofs.phases.Phase.end.Goals as goal

pub returns-then-is_deep : goal.returns-then-is_deep
returns-then-is_deep c = formula_deep c.args.self c.in-Formula.owner c.in-Formula.state c.in-Some.tree c.in-Formula.is (sym c.in_ok-tree-in-Formula.ensures ∙ c.in-Some.is) (c.is_deep.ensures.0 c.if-is_deep.true)
