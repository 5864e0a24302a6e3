use Rattle.std.proofs.Common.{length}
use Rattle.sw_template.proofs.formulas.+under_runs.Given as goal

abbrev pub decreases-under_runs : goal.decreases-under_runs
decreases-under_runs l = length l.runs.now
