use Rattle.sw_template_text.specs.Texts.{answer_of}
use Rattle.sw_template_text.proofs.Settled.{no_other, within}
use Rattle.sw_template_text.proofs.reading.read_template.Goals as goal

pub returns-clause-no_other : goal.returns-clause-no_other
returns-clause-no_other c = no_other c.args.sig.now c.args.text.now c.one_template.ensures (answer_of c.read.result) c.read.ensures

pub returns-clause-template : goal.returns-clause-template
returns-clause-template c = within c.args.sig.now c.args.text.now c.texts_are_templates.ensures c.read.result c.read.ensures
