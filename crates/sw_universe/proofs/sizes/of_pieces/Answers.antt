use Rattle.std.proofs.Common.{◌∙◌, ap, arith, ℕ, List}
use Rattle.sw_truth.specs.declared.sets.Piece.{Piece}
use Rattle.sw_universe.specs.Sizes.{capped}
use Rattle.sw_universe.specs.Counting.{count_in, choices_in}
use Rattle.sw_universe.proofs.Counted.{sum_more}
use Rattle.sw_universe.proofs.sizes.of_pieces.Goals as goal

pub loop-piece-preserved : goal.loop-piece-preserved
loop-piece-preserved c =
    let f = λ (p : Piece). choices_in (count_in c.args.counts.now) p.vars in
    sum_more f c.args.pieces.now c.loop-piece.piece-index c.piece-item.result c.loop-piece.total c.add-total.result c.choices.result (omega arith)
    c.loop-piece.invariant (c.choices.ensures ∙ (ap (λ (vs : List ℕ). capped (choices_in (count_in c.args.counts.now) vs)) c.as_slice.ensures ∙ ap (λ (p : Piece). capped (f p)) c.piece-item.is)) c.add-total.ensures
