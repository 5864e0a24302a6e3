use Rattle.sw_skolem.specs.Skolem.{skolem_of}
use Rattle.sw_ground.specs.Verdict.{universe}
use Rattle.sw_ground_laws.proofs.OneVerdict.{one_verdict}
use Rattle.sw_ground_laws.proofs.laws.refutation_has_one_verdict.Goals as goal

pub returns : goal.returns
returns c q r v w a b = one_verdict (skolem_of q) (universe (skolem_of q)) r c.steps_have_one_verdict.ensures v w a b
