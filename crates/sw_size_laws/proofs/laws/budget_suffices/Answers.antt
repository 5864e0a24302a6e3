use Rattle.sw_size_laws.proofs.Budget.{budget_suffices}
use Rattle.sw_size_laws.proofs.laws.budget_suffices.Goals as goal

pub returns : goal.returns
returns c = budget_suffices c.ground_is_one.ensures
