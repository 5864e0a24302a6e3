use Rattle.sw_template_text.proofs.OneTemplate.{one_template}
use Rattle.sw_template_text.proofs.laws.one_template.Goals as goal

pub returns : goal.returns
returns c = one_template
