use Rattle.sw_run.proofs.Ends.{report_ends, refusal_ends}
use Rattle.sw_run.proofs.told.tell.Goals as goal

pub returns-in-Ok : goal.returns-in-Ok
returns-in-Ok g c = report_ends _ _ _ _ _ _ _ _ c.in-Ok.report c.in-Ok.is (rw c.as_str.ensures.value at c.write_text.ensures)

pub returns-in-Err : goal.returns-in-Err
returns-in-Err g c = refusal_ends _ _ _ _ _ _ _ _ c.in-Err.refusal c.in-Err.is c.tell_refusal.ensures
