use Rattle.std.proofs.Common.{refl}
use Rattle.sw_run.proofs.Rows.{check_printed, check_sized, check_unserved}
use Rattle.sw_run.proofs.answer.check.Goals as goal

pub returns-in-Print : goal.returns-in-Print
returns-in-Print g c = check_printed _ _ _ c.in-Print.is c.print.ensures

pub returns-in-Space : goal.returns-in-Space
returns-in-Space g c = check_sized _ c.in-Space.text _ _ c.in-Space.is c.space.ensures

pub returns-in-Check : goal.returns-in-Check
returns-in-Check g c = check_unserved _ _ c.in-Check.is (record { bytes = refl; faults = refl })
