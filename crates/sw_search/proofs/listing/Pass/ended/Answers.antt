use Rattle.std.specs.Prelude.{◌≡◌, ℕ}
use Rattle.std.proofs.Common.{sym, subst}
use Rattle.sw_filter.specs.declared.filter.Mode.TheVariants.{Breadth}
use Rattle.sw_hand.specs.Hands.{search_of}
use Rattle.sw_breadth.specs.Rounds.{IsCause, IsOnTheWay}
use Rattle.sw_search.specs.Searches.{InBreadth, EndsBy, Ended}
use Rattle.sw_search.proofs.Breadth.{spent_in, large_in}
use Rattle.sw_search.proofs.listing.Pass.ended.Goals as goal

pub stopped-requires-clause-asked : goal.stopped-requires-clause-asked
stopped-requires-clause-asked c =
    let pass = c.args.self.now in
    let p = pass.protocol.now in
    let s = pass.space.now in
    let m = search_of p s.template Breadth pass.workers in
    subst (λ (most : ℕ). InBreadth p s.template pass.workers c.in-Spent.query (EndsBy pass.budget (Ended.spent most))) (sym c.unwrap_or-most.ensures)
    (spent_in p s c.requires.well_formed c.requires.can pass.workers pass.budget c.in-Spent.query c.in-Spent.list c.in-Spent.steps
    (subst (IsCause m pass.budget) c.in-Spent.is c.requires.cause)
    (subst (λ e. pass.workers ≡ 1 → IsOnTheWay m e) c.in-Spent.is c.requires.on_the_way))

pub stopped-requires-in-TooLarge-clause-asked : goal.stopped-requires-in-TooLarge-clause-asked
stopped-requires-in-TooLarge-clause-asked c =
    let pass = c.args.self.now in
    let p = pass.protocol.now in
    let s = pass.space.now in
    let m = search_of p s.template Breadth pass.workers in
    large_in p s c.requires.well_formed c.requires.can pass.workers pass.budget c.in-TooLarge.query c.in-TooLarge.list c.in-TooLarge.size
    (subst (IsCause m pass.budget) c.in-TooLarge.is c.requires.cause)
    (subst (λ e. pass.workers ≡ 1 → IsOnTheWay m e) c.in-TooLarge.is c.requires.on_the_way)
