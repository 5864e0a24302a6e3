use Rattle.sw_text.proofs.FewVariables.{read_binds_few}
use Rattle.sw_text.proofs.laws.read_binds_few.Goals as goal

pub returns : goal.returns
returns c = read_binds_few
