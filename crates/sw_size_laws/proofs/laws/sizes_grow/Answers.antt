use Rattle.sw_size_laws.proofs.Grown.{sizes_grow}
use Rattle.sw_size_laws.proofs.laws.sizes_grow.Goals as goal

pub returns : goal.returns
returns c = sizes_grow (record { well_formed = c.skolem_is_well_formed.ensures; keeps_strata = c.skolem_keeps_strata.ensures; inhabited = c.universe_is_inhabited.ensures })
