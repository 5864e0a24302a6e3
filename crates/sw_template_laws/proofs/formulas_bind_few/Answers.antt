use Rattle.sw_template_laws.proofs.Binding.{formulas_bind_few}
use Rattle.sw_template_laws.proofs.formulas_bind_few.Goals as goal

pub returns : goal.returns
returns c = formulas_bind_few
