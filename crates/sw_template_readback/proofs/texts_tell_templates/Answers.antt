use Rattle.sw_template_readback.proofs.Written.{texts_tell}
use Rattle.sw_template_readback.proofs.texts_tell_templates.Goals as goal

pub returns : goal.returns
returns c = texts_tell
