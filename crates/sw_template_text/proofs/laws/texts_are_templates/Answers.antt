use Rattle.sw_template_text.proofs.OneTemplate.{texts_are_templates}
use Rattle.sw_template_text.proofs.laws.texts_are_templates.Goals as goal

pub returns : goal.returns
returns c = texts_are_templates
