use Rattle.sw_models.specs.Text.{spaced}
use Rattle.sw_models.proofs.Pieces.{match_after}
use Rattle.sw_models.proofs.reading.after_start.Goals as goal

pub returns : goal.returns
returns c =
    match_after (spaced c.args.word.now) (spaced c.args.name.now) c.args.bytes.now c.in_ok-after_spaced.field-0.now c.after_spaced-2.result
    c.in_ok-after_spaced.ensures c.after_spaced-2.ensures
