use Rattle.std.proofs.Common.{refl}
use Rattle.sw_run.proofs.laws.words_have_statuses.Goals as goal

pub returns : goal.returns
returns c f = refl
