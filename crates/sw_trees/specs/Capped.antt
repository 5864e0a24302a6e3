-- Numbers that go no further than the greatest of their type.
use Rattle.std.specs.Prelude.{◌≡◌, ◌-◌, ◌^◌, min}
use Rattle.sw_trees.specs.Measures as measures
use Rattle.sw_trees.specs.declared.measures.Nestings.{Nestings}

-- these are the numbers, each no further than the greatest of 32 bits
pub record IsCapped (n : measures.Nestings) (found : Nestings) : Type 0 where
  pub alone : found.alone ≡ min (2 ^ 32 - 1) n.alone
  pub operand : found.operand ≡ min (2 ^ 32 - 1) n.operand
  pub negated : found.negated ≡ min (2 ^ 32 - 1) n.negated
