use Rattle.sw_template_readback.proofs.Written.{read_back}
use Rattle.sw_template_readback.proofs.templates_read_back.Goals as goal

pub returns : goal.returns
returns c = read_back
