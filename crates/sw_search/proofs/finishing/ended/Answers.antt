use Rattle.std.specs.Prelude.{ℕ}
use Rattle.std.specs.Option.{option_copied}
use Rattle.std.proofs.Common.{sym, subst}
use Rattle.sw_filter.specs.declared.filter.Mode.TheVariants.{Finish}
use Rattle.sw_hand.specs.Hands.{search_of}
use Rattle.sw_seek.specs.Seeking.{IsCause}
use Rattle.sw_search.specs.Searches.{InFinish, EndsBy, Ended}
use Rattle.sw_search.specs.Spaces.{template_of}
use Rattle.sw_search.proofs.Finish.{spent_in, large_in}
use Rattle.sw_search.proofs.finishing.ended.Goals as goal

pub stopped-requires-clause-asked : goal.stopped-requires-clause-asked
stopped-requires-clause-asked c =
    let found = c.args.found.now in
    let p = found.protocol.now in
    let s = c.args.space.now in
    let cause = subst (IsCause (search_of p s.template Finish found.workers) found.list.now found.budget) c.in-Spent.is c.requires.cause in
    subst (λ (most : ℕ). InFinish p (template_of (option_copied found.breadth)) found.workers s.template c.in-Spent.query (EndsBy found.budget (Ended.spent most)))
    (sym c.unwrap_or-most.ensures)
    (spent_in p (option_copied found.breadth) (option_copied found.finish) found.workers found.budget found.list.now s
    c.requires.can c.requires.space c.requires.open_ c.in-Spent.query c.in-Spent.steps cause)

pub stopped-requires-in-TooLarge-clause-asked : goal.stopped-requires-in-TooLarge-clause-asked
stopped-requires-in-TooLarge-clause-asked c =
    let found = c.args.found.now in
    let p = found.protocol.now in
    let s = c.args.space.now in
    large_in p (option_copied found.breadth) (option_copied found.finish) found.workers found.budget found.list.now s
    c.requires.can c.requires.space c.requires.open_ c.in-TooLarge.query c.in-TooLarge.size
    (subst (IsCause (search_of p s.template Finish found.workers) found.list.now found.budget) c.in-TooLarge.is c.requires.cause)
