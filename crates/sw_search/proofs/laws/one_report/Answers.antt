use Rattle.sw_search.proofs.OneReport.{one_report}
use Rattle.sw_search.proofs.laws.one_report.Goals as goal

pub returns : goal.returns
returns c = one_report
