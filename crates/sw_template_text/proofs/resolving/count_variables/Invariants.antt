use Rattle.std.proofs.Common.{◌≡◌, ◌≤◌, ◌*◌, take}
use Rattle.sw_template.specs.Prefix.{variable_count}
use Rattle.sw_template_text.proofs.resolving.count_variables.Given as goal

abbrev pub invariant-loop-run : goal.invariant-loop-run
invariant-loop-run l = (l.count ≡ variable_count (take l.run-index l.runs)) × (l.count ≤ 4294967296 * l.run-index)
