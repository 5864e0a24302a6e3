use Rattle.std.proofs.Common.{refl}
use Rattle.sw_run.specs.Ending.{Allowed}
use Rattle.sw_run.proofs.Ends.{allowed_ends}
use Rattle.sw_run.proofs.top.run.Goals as goal

pub returns : goal.returns
returns g c = allowed_ends _ _ _ c.answer-told.result c.tell.result (rw c.as_slice.ensures.value at c.answer-told.ensures) (Allowed.no_memory refl) c.tell.ensures
