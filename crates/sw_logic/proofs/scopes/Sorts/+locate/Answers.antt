use Rattle.sw_logic.specs.InScope.{sorts_in}
use Rattle.sw_logic.proofs.Matching.{slice_get-behind}
use Rattle.sw_logic.proofs.scopes.Sorts.+locate.Goals as goal

pub returns-in-Some-get : goal.returns-in-Some-get
returns-in-Some-get t c =
    let found = c.in-Some-get.ensures.lookup in
    let outer = sorts_in c.in-Bound.outer.now in
    let behind = slice_get-behind (λ b. b.sort) outer c.in-Bound.binders.now c.in-Err.past c.in-Some-get.binder.now found.3.0 found.3.1 in
    rw (c.in-Bound.is, c.in-Err.ensures) behind
