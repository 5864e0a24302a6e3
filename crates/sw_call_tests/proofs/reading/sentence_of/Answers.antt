use Rattle.sw_call_tests.proofs.Few.{few}
use Rattle.sw_call_tests.proofs.reading.sentence_of.Goals as goal

pub returns-in-Ok : goal.returns-in-Ok
returns-in-Ok c = few _ _ _ c.in-Ok.formula c.new.ensures c.in-Ok.ensures.has
