use Rattle.std.proofs.Common.{◌≡◌, ◌++◌, take}
use Rattle.std.specs.Prelude.{string_bytes}
use Rattle.std.specs.List.{flat_map}
use Rattle.sw_report.specs.Words.{invariant_line}
use Rattle.sw_report.proofs.report.push_invariants.Given as goal

abbrev pub invariant-loop-formula : goal.invariant-loop-formula
invariant-loop-formula l = string_bytes l.text ≡ string_bytes l.fn.text ++ flat_map (invariant_line l.signature) (take l.formula-index l.list)
