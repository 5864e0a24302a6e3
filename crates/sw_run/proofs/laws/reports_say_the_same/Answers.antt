use Rattle.sw_run.proofs.OneReport.{reports_say_the_same}
use Rattle.sw_run.proofs.laws.reports_say_the_same.Goals as goal

pub returns : goal.returns
returns c = reports_say_the_same
