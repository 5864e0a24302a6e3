use Rattle.std.proofs.Common.{◌≤◌, ◌^◌, length, subst}
use Rattle.sw_enumerate.specs.Spaces.{Made, classes_in}
use Rattle.sw_search.proofs.Searchable.{part_few}
use Rattle.sw_search.proofs.classes.ClassesWalk.first_of.Goals as goal

pub returns-clause-few : goal.returns-clause-few
returns-clause-few c = part_few c.args.self.now c.args.part (subst (λ (s : Made). length (classes_in s) ≤ 2 ^ 32) c.self.view_is c.self.invariant)
