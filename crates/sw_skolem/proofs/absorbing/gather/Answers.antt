use Rattle.std.proofs.Common.{◌≡◌, ◌∙◌, sym, ap, true, false, not}
use Rattle.std.specs.List.{list_any}
use Rattle.sw_skolem.specs.Normal.{whole, is_constant}
use Rattle.sw_skolem.proofs.Gathering.{gathered_whole, gathered_constant}
use Rattle.sw_skolem.proofs.absorbing.gather.Goals as goal

pub returns-then-has_constant : goal.returns-then-has_constant
returns-then-has_constant c =
    let some : list_any (is_constant (not c.args.all)) c.args.parts ≡ true =
    sym (ap (list_any (is_constant (not c.args.all))) c.as_slice.ensures) ∙ (sym c.has_constant.ensures ∙ c.if-has_constant.true) in
    c.constant.ensures ∙ gathered_constant c.args.all c.args.parts some

pub returns : goal.returns
returns c =
    let none : list_any (is_constant (not c.args.all)) c.args.parts ≡ false =
    sym (ap (list_any (is_constant (not c.args.all))) c.as_slice.ensures) ∙ (sym c.has_constant.ensures ∙ c.if-has_constant.false) in
    c.whole.ensures ∙ (ap (whole c.args.all) c.without.ensures ∙ gathered_whole c.args.all c.args.parts none)
