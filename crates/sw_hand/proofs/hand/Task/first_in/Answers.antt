use Rattle.std.proofs.Common.{sym, subst, ℕ, List}
use Rattle.sw_logic.specs.declared.syntax.Formula.{Formula}
use Rattle.sw_template.specs.Bodies.{Class}
use Rattle.sw_hand.specs.Hands.{search_of}
use Rattle.sw_hand.proofs.Holding.{has_it}
use Rattle.sw_hand.proofs.hand.Task.first_in.Goals as goal

pub sift-requires-clause-body : goal.sift-requires-clause-body
sift-requires-clause-body g c =
    let m = search_of c.args.self.now.protocol.now (g.B.Walk.template c.args.self.now.space.now) c.args.self.now.mode c.args.self.now.workers in
    let ps : List (List (List ℕ)) = g.B.Walk.part_lists c.args.self.now.space.now in
    let Has : Class → Type 0 = g.B.Candidates.has c.args.self.now.space.now in
    let formula : Class → Formula = g.B.Candidates.formula_of c.args.self.now.space.now in
    subst (λ s. g.B.Candidates.has s c.args.body.now) (sym c.requires.view.space) (has_it m ps Has formula c.requires.serves c.args.body.now c.requires.class)
