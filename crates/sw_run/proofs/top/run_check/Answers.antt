use Rattle.std.proofs.Common.{refl}
use Rattle.sw_run.specs.Ending.{AllowedCheck}
use Rattle.sw_run.proofs.Ends.{allowed_ends}
use Rattle.sw_run.proofs.top.run_check.Goals as goal

pub returns : goal.returns
returns g c = allowed_ends _ _ _ c.answer_check-told.result c.tell.result (rw c.as_slice.ensures.value at c.answer_check-told.ensures) (AllowedCheck.no_memory refl) c.tell.ensures
