use Rattle.std.proofs.Common.{◌∙◌, ap, List}
use Rattle.std.specs.List.{sum_by}
use Rattle.sw_logic.specs.declared.syntax.Symbol.{Symbol}
use Rattle.sw_truth.specs.declared.sets.Piece.{Piece}
use Rattle.sw_universe.specs.Sizes.{capped}
use Rattle.sw_universe.specs.Counting.{count_in, choices_in, congruences_in}
use Rattle.sw_universe.proofs.Sized.{instances_counted}
use Rattle.sw_universe.proofs.sizes.count_instances.Goals as goal

pub returns : goal.returns
returns c =
    let set = c.args.set.now in
    let counts = c.args.counts.now in
    instances_counted set c.args.sorts counts c.of_pieces-pieces.result c.all_equality-equality.result c.all_congruence-congruence.result c.add-axioms.result c.add.result c.requires
    (c.of_pieces-pieces.ensures ∙ ap (λ (ps : List Piece). capped (sum_by (λ (p : Piece). choices_in (count_in counts) p.vars) ps)) c.as_slice.ensures)
    c.all_equality-equality.ensures
    (c.all_congruence-congruence.ensures ∙ ap (λ (ss : List Symbol). capped (sum_by (congruences_in (count_in counts)) ss)) c.as_slice-2.ensures)
    c.add-axioms.ensures c.add.ensures
