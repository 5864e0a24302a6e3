use Rattle.sw_formula_readback.proofs.ReadBack.{texts_tell}
use Rattle.sw_formula_readback.proofs.laws.texts_tell_formulas.Goals as goal

pub returns : goal.returns
returns c = texts_tell
