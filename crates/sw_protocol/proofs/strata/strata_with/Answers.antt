use Rattle.std.specs.Prelude.{◌++◌, length}
use Rattle.std.proofs.Common.{subst, sym}
use Rattle.sw_lists.proofs.Each.{each-append}
use Rattle.sw_logic.specs.Strata.{AreWithin, edges_of}
use Rattle.sw_meaning.specs.Edges.{polars_of, protocol_edges}
use Rattle.sw_protocol.proofs.Edging.{protocol_within}
use Rattle.sw_protocol.proofs.strata.strata_with.Goals as goal

pub strata-requires : goal.strata-requires
strata-requires c =
    let p = c.args.protocol.now in
    subst (λ ps. AreWithin (length p.signature.sorts) (edges_of p.signature ps ++ c.args.extra.now)) (sym c.in_ok-polars.ensures)
    (each-append _ (protocol_edges p) c.args.extra.now (protocol_within c.edges_are_within.ensures p c.requires.well_formed) c.requires.within)
