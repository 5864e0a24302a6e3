use Rattle.std.specs.Option.{option_copied}
use Rattle.sw_space.proofs.Fitting.{edges_are_within, stratified, on_cycle, size_passed}
use Rattle.sw_space.proofs.naming.fitted.Goals as goal

pub strata_with-requires-clause-within : goal.strata_with-requires-clause-within
strata_with-requires-clause-within c = edges_are_within c.args.protocol.now (option_copied c.args.beside) c.args.template c.in_ok-edges.edges c.requires.over c.requires.template c.in_ok-edges.ensures

pub returns-in-Err-Cycle-clause-fits : goal.returns-in-Err-Cycle-clause-fits
returns-in-Err-Cycle-clause-fits c =
    on_cycle c.args.protocol.now (option_copied c.args.beside) c.args.template c.in_ok-edges.edges c.in-Err-Cycle.field-0 _ c.in-Err-Cycle.sort c.not_stratified.result c.in_ok-edges.ensures c.in-Err-Cycle.ensures c.in-Err-Cycle.field-0-is c.in-Err-Cycle.sort-is c.not_stratified.ensures

pub returns-in_err-space-clause-fits : goal.returns-in_err-space-clause-fits
returns-in_err-space-clause-fits c =
    size_passed c.args.protocol.now (option_copied c.args.beside) c.args.template c.in_err-space.field-0.0 c.from_residual-in_err-space.result c.from_residual-in_err-space.ensures.1
    (stratified c.args.protocol.now (option_copied c.args.beside) c.args.template c.in_ok-edges.edges c.in-Ok.field-0 c.in_ok-edges.ensures c.in-Ok.ensures) c.in_err-space.ensures.refused
