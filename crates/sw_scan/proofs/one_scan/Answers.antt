use Rattle.sw_scan.proofs.Unique.{one_scan}
use Rattle.sw_scan.proofs.one_scan.Goals as goal

pub returns : goal.returns
returns c = one_scan
