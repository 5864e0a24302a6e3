use Rattle.std.proofs.Common.{[]}
use Rattle.sw_models.specs.Reading.{lines_of}
use Rattle.sw_models.proofs.Unique.{one_answer}
use Rattle.sw_models.proofs.laws.one_answer.Goals as goal

pub returns : goal.returns
returns c sig text r s = one_answer r s (lines_of sig) [] [] 0 text
