-- The class is of the part.
use Rattle.std.specs.Prelude.{Contains, IfSome}
use Rattle.sw_enumerate.specs.Spaces.{part_in}
use Rattle.sw_call_tests.proofs.walks.push_texts.Given as goal

abbrev pub invariant-loop : goal.invariant-loop
invariant-loop l = IfSome l.at (λ b. Contains (part_in l.space l.part) b.cubes)
