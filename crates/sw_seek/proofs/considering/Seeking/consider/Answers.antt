use Rattle.sw_template.specs.Bodies.{Class}
use Rattle.sw_seek.specs.Steps.{searched}
use Rattle.sw_seek.proofs.Standing.{considered_after}
use Rattle.sw_seek.proofs.considering.Seeking.consider.Goals as goal

pub returns-then-branch-clause-considered : goal.returns-then-branch-clause-considered
returns-then-branch-clause-considered g c = (c.in_ok-sift.ensures.grows, c.in_ok-sift.ensures.good c.if-branch.true)

pub returns-clause-considered : goal.returns-clause-considered
returns-clause-considered g c =
    let s = c.args.self.now in
    let body : Class = c.args.body.now in
    considered_after (searched g.B.Walk.template s) s.entries.now s.budget c.args.hand.now c.sift.new.hand c.examined.new.hand body c.examined.result
    c.in_ok-sift.ensures.grows c.examined.ensures.considered
