use Rattle.sw_skolem.proofs.PlainNormal.{turns_normal}
use Rattle.sw_skolem.proofs.laws.nnf_is_normal.Goals as goal

pub returns : goal.returns
returns c = turns_normal
