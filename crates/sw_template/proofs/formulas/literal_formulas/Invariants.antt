-- The formulas so far.
use Rattle.std.proofs.Common.{◌≡◌, map, take, slice_get, unwrap_or}
use Rattle.sw_logic.specs.declared.syntax.Formula.TheVariants.{False}
use Rattle.sw_meaning.specs.Classes.{signed}
use Rattle.sw_template.proofs.formulas.literal_formulas.Given as goal

abbrev pub invariant-loop-number : goal.invariant-loop-number
invariant-loop-number l = l.formulas ≡ map (λ n. unwrap_or (slice_get (signed l.literals) n) False) (take l.number-index l.numbers)
