use Rattle.sw_formula_readback.proofs.Declared.{names_are}
use Rattle.sw_formula_readback.proofs.laws.texts_have_declared_names.Goals as goal

pub returns : goal.returns
returns c = names_are
