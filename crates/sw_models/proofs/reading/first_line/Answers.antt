use Rattle.std.proofs.Common.{sym, ◌∙◌, nat_eq, rules, tests}
use Rattle.std.proofs.lemmas.Iterator.{YieldsList-from_slice}
use Rattle.std.proofs.lemmas.Iterator.Search.{position_from_yields_List}
use Rattle.sw_models.proofs.Pieces.{no_line}
use Rattle.sw_models.proofs.reading.first_line.Goals as goal

pub returns-in_default : goal.returns-in_default
returns-in_default c =
    no_line c.args.bytes.now
    (sym (position_from_yields_List (λ b. nat_eq b 10) _ _ c.position.result c.position.ensures.ran (YieldsList-from_slice c.args.bytes.now cc) (λ x b q k. search (rules, tests)))
    ∙ c.in_default.is)
