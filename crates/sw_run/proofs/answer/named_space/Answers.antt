use Rattle.std.specs.Prelude.{Some}
use Rattle.std.specs.Option.{option_copied}
use Rattle.std.proofs.Common.{sym, ap, ◌∙◌}
use Rattle.sw_run.proofs.Rows.{given_space, given_none}
use Rattle.sw_run.proofs.answer.named_space.Goals as goal

pub returns-in_err-space-clause-none : goal.returns-in_err-space-clause-none
returns-in_err-space-clause-none c =
    given_none c.args.given.now c.args.protocol.now (option_copied c.args.beside) c.as_bytes.result.now c.in_err-space.field-0.0 c.from_residual.result
    (c.in-Some.is ∙ ap Some (sym (c.as_bytes.ensures.value ∙ c.as_str.ensures))) c.from_residual.ensures.1 c.in_err-space.ensures.has

pub returns-clause-gives : goal.returns-clause-gives
returns-clause-gives c =
    given_space c.args.given.now c.args.protocol.now (option_copied c.args.beside) c.as_bytes.result.now c.in_ok-space.space
    (c.in-Some.is ∙ ap Some (sym (c.as_bytes.ensures.value ∙ c.as_str.ensures))) c.in_ok-space.ensures.has c.in_ok-space.ensures.space
