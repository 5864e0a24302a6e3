use Rattle.std.proofs.Common.{arith, rules}
use Rattle.std.proofs.lemmas.Bool.Decides.{nat_tests}
use Rattle.sw_models.proofs.Numbers.{match_number, no_empty, no_zero_in_front}
use Rattle.sw_models.proofs.reading.read_number.Goals as goal
use Rattle.sw_models.proofs.reading.read_number.Goals.{then-is_empty-via-then-is_empty, then-is_empty-via-else-is_empty+then-has_zero_in_front}

pub returns-then-is_empty : goal.returns-then-is_empty
returns-then-is_empty c =
    elim c.then-is_empty.branch [
      | then-is_empty-via-then-is_empty w ↦ no_empty c.args.word.now (grind (arith, nat_tests))
      | then-is_empty-via-else-is_empty+then-has_zero_in_front w ↦ let front = w.has_zero_in_front.ensures.0 w.if-has_zero_in_front.true in no_zero_in_front c.args.word.now front.1 front.0
    ]

pub returns : goal.returns
returns c =
    match_number c.args.word.now c.number_of.result (search rules) (search rules) c.number_of.ensures
