use Rattle.sw_text.proofs.OneFormula.{one_formula}
use Rattle.sw_text.proofs.laws.one_formula.Goals as goal

pub returns : goal.returns
returns c = one_formula
