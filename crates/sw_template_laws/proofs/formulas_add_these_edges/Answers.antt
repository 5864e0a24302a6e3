use Rattle.sw_template_laws.proofs.Blocks.{formulas_add_these_edges}
use Rattle.sw_template_laws.proofs.formulas_add_these_edges.Goals as goal

pub returns : goal.returns
returns c = formulas_add_these_edges
