use Rattle.sw_meaning_examples.proofs.Given.{lists_serve}
use Rattle.sw_meaning_examples.proofs.lists_serve.Goals as goal

pub returns : goal.returns
returns c = lists_serve
