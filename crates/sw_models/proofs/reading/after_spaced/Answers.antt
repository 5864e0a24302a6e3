use Rattle.std.proofs.Common.{[], ◌∷◌, rules}
use Rattle.sw_models.proofs.Pieces.{match_after}
use Rattle.sw_models.proofs.reading.after_spaced.Goals as goal

pub returns : goal.returns
returns c =
    match_after c.args.word.now (32 ∷ []) c.args.bytes.now c.in_ok-after.field-0.now c.after-2.result (search rules) c.after-2.ensures
