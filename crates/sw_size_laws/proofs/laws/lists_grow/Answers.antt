use Rattle.sw_size_laws.proofs.Asked.{lists_grow}
use Rattle.sw_size_laws.proofs.laws.lists_grow.Goals as goal

pub returns : goal.returns
returns c = lists_grow c.sizes_grow.ensures
