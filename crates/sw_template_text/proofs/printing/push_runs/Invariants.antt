use Rattle.std.proofs.Common.{◌≡◌, ◌++◌, take}
use Rattle.std.specs.Prelude.{string_bytes}
use Rattle.std.specs.List.{flat_map}
use Rattle.sw_template_text.specs.Canonical.{run_text}
use Rattle.sw_template_text.proofs.printing.push_runs.Given as goal

abbrev pub invariant-loop-run : goal.invariant-loop-run
invariant-loop-run l = string_bytes l.text ≡ string_bytes l.fn.text ++ flat_map (run_text l.sig) (take l.run-index l.runs)
