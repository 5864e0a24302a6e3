use Rattle.sw_numbers.proofs.NumbersOfTerms.{variable_sort}
use Rattle.sw_numbers.proofs.terms.Terms.sort.Goals as goal

pub returns-in-Some : goal.returns-in-Some
returns-in-Some c k e = variable_sort c.args.self.now.signature.now c.args.vars.now c.args.term.now c.in-Variable.v _ k c.in-Variable.is c.in-Some.ensures e
