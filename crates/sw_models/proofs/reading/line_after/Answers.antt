use Rattle.sw_models.specs.Text.{line_start}
use Rattle.sw_models.proofs.Pieces.{match_line}
use Rattle.sw_models.proofs.reading.line_after.Goals as goal

pub returns : goal.returns
returns c =
    match_line (line_start c.args.word.now c.args.name.now) c.args.bytes.now c.in_ok-after_start.field-0.now c.first_line.result
    c.in_ok-after_start.ensures c.first_line.ensures
