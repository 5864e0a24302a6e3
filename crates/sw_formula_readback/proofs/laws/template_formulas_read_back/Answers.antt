use Rattle.sw_formula_readback.proofs.ReadBack.{read_back}
use Rattle.sw_formula_readback.proofs.laws.template_formulas_read_back.Goals as goal

pub returns : goal.returns
returns c = read_back
