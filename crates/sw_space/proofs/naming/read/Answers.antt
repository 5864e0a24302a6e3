use Rattle.std.specs.Prelude.{Some, Ok}
use Rattle.std.specs.Option.{option_copied}
use Rattle.sw_space.proofs.Fitting.{template_passed, was_read, space_passed}
use Rattle.sw_space.proofs.naming.read.Goals as goal

pub returns-in_err-template-clause-has : goal.returns-in_err-template-clause-has
returns-in_err-template-clause-has c = template_passed c.args.protocol.now (option_copied c.args.beside) c.args.text.now c.in_err-template.field-0.0 c.from_residual.result c.from_residual.ensures.1 c.in_err-template.ensures.has

pub returns-in_err-space-clause-has : goal.returns-in_err-space-clause-has
returns-in_err-space-clause-has c =
    space_passed c.args.protocol.now (option_copied c.args.beside) c.args.text.now c.in_ok-template.template c.in_err-space.field-0.0 c.from_residual-in_err-space.result c.from_residual-in_err-space.ensures.1 c.in_ok-template.ensures.has c.in_err-space.ensures.fits

pub returns-clause-has : goal.returns-clause-has
returns-clause-has c = was_read c.args.protocol.now (option_copied c.args.beside) c.args.text.now c.in_ok-template.template (Some (Ok c.in_ok-space.space.template)) c.in_ok-template.ensures.has c.in_ok-space.ensures.fits
