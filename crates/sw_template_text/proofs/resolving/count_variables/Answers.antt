use Rattle.std.proofs.Common.{false, arith}
use Rattle.sw_template_text.proofs.NamedRuns.{counted_on}
use Rattle.sw_template_text.proofs.resolving.count_variables.Goals as goal

pub loop-run-preserved : goal.loop-run-preserved
loop-run-preserved c = (
  counted_on c.args.runs.now c.loop-run.run-index (record { universal = false; count = 0; sort = 0 }) c.loop-run.count c.variables_in-count.result c.loop-run-test.true c.loop-run.invariant.0 c.variables_in-count.ensures.is,
  omega (arith, c.loop-run.invariant.1, c.variables_in-count.ensures.most),
)
