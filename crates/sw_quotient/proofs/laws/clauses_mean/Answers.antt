use Rattle.sw_quotient.proofs.Instances.{clauses_mean}
use Rattle.sw_quotient.proofs.laws.clauses_mean.Goals as goal

pub returns : goal.returns
returns c = clauses_mean c.numbers_are_terms.ensures
