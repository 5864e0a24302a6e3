use Rattle.sw_run.proofs.OneReport.{one_report}
use Rattle.sw_run.proofs.laws.one_report.Goals as goal

pub returns : goal.returns
returns c = one_report
