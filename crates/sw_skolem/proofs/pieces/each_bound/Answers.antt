use Rattle.std.proofs.Common.{◌<◌, ◌∙◌, ◌++◌, ◌∷◌, [], sym, ap, arith, length, map, take, List}
use Rattle.std.proofs.lemmas.List.{map_more}
use Rattle.sw_truth.specs.declared.sets.Piece.{Piece}
use Rattle.sw_skolem.specs.Pieces.{bound}
use Rattle.sw_skolem.proofs.pieces.each_bound.Goals as goal

pub loop-piece-preserved : goal.loop-piece-preserved
loop-piece-preserved c =
    let i = c.loop-piece.piece-index in
    let pieces = c.args.pieces.now in
    let x = c.piece-item.result in
    let f = bound c.args.variable c.args.binder.now in
    let within : i < length pieces = omega arith in
    c.in_ok-push.ensures.ok ∙ (ap (λ (ps : List Piece). ps ++ c.in_ok-bound.field-0 ∷ []) c.loop-piece.invariant
    ∙ (ap (λ (p : Piece). map f (take i pieces) ++ p ∷ []) (c.in_ok-bound.ensures {u = tt} ∙ ap f c.piece-item.is) ∙ sym (map_more f pieces i x within)))
