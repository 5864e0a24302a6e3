use Rattle.std.proofs.Common.{◌≡◌, subst, arith}
use Rattle.sw_sat.specs.Trail.{literals}
use Rattle.sw_sat.specs.Progress.{IsValuation}
use Rattle.sw_sat.proofs.Models.{valuation_more}
use Rattle.sw_sat.proofs.solver.model.Goals as goal

pub loop-variable-preserved : goal.loop-variable-preserved
loop-variable-preserved c = valuation_more c.loop-variable.values.items c.push.new.self.items (literals c.args.trail.now.entries.items) c.loop-variable.variable c.is_true.result
    c.loop-variable.invariant c.is_true.ensures c.in_ok-push.ensures.items

pub returns : goal.returns
returns c =
    let e : c.loop-variable.variable ≡ c.args.variables = omega arith in
    subst (IsValuation c.loop-variable.values.items (literals c.args.trail.now.entries.items)) e c.loop-variable.invariant
