use Rattle.std.proofs.Common.{ℕ, List, ◌≡◌}
use Rattle.sw_logic.specs.declared.syntax.Formula.{Formula}
use Rattle.sw_template.specs.Bodies.{Class}
use Rattle.sw_core.specs.Machine.{formula_in}
use Rattle.sw_hand.specs.Hands.{search_of}
use Rattle.sw_hand.proofs.Holding.{formula_is, hand_used, grows_used, good_used}
use Rattle.sw_hand.proofs.hand.Task.use_kept.Goals as goal

pub returns-clause-hand : goal.returns-clause-hand
returns-clause-hand g c =
    let m = search_of c.args.self.now.protocol.now (g.B.Walk.template c.args.self.now.space.now) c.args.self.now.mode c.args.self.now.workers in
    let ps : List (List (List ℕ)) = g.B.Walk.part_lists c.args.self.now.space.now in
    let Has : Class → Type 0 = g.B.Candidates.has c.args.self.now.space.now in
    let formula : Class → Formula = g.B.Candidates.formula_of c.args.self.now.space.now in
    let is : formula c.args.body.now ≡ formula_in m c.args.body.now.cubes = formula_is m ps Has formula c.requires.serves c.args.body.now c.requires.class in
    let h = c.args.hand.now in
    hand_used m c.args.self.now.pool.now c.args.self.now.worker c.args.formulas.now c.args.body.now.cubes (formula c.args.body.now) h.mine.shown.items h.kept h.tokens.items h.used.items
    c.requires.hand is c.requires.mine.admitted c.requires.mine.marked c.args.place c.requires.rejects

pub returns-clause-grows : goal.returns-clause-grows
returns-clause-grows g c =
    let m = search_of c.args.self.now.protocol.now (g.B.Walk.template c.args.self.now.space.now) c.args.self.now.mode c.args.self.now.workers in
    let ps : List (List (List ℕ)) = g.B.Walk.part_lists c.args.self.now.space.now in
    let Has : Class → Type 0 = g.B.Candidates.has c.args.self.now.space.now in
    let formula : Class → Formula = g.B.Candidates.formula_of c.args.self.now.space.now in
    let is : formula c.args.body.now ≡ formula_in m c.args.body.now.cubes = formula_is m ps Has formula c.requires.serves c.args.body.now c.requires.class in
    let h = c.args.hand.now in
    grows_used m c.args.self.now.pool.now c.args.self.now.worker c.args.formulas.now c.args.body.now.cubes (formula c.args.body.now) h.mine.shown.items h.kept h.tokens.items h.used.items
    c.requires.hand is c.requires.mine.admitted c.requires.mine.marked c.args.place c.requires.rejects

pub returns-clause-good : goal.returns-clause-good
returns-clause-good g c =
    let m = search_of c.args.self.now.protocol.now (g.B.Walk.template c.args.self.now.space.now) c.args.self.now.mode c.args.self.now.workers in
    let ps : List (List (List ℕ)) = g.B.Walk.part_lists c.args.self.now.space.now in
    let Has : Class → Type 0 = g.B.Candidates.has c.args.self.now.space.now in
    let formula : Class → Formula = g.B.Candidates.formula_of c.args.self.now.space.now in
    let is : formula c.args.body.now ≡ formula_in m c.args.body.now.cubes = formula_is m ps Has formula c.requires.serves c.args.body.now c.requires.class in
    let h = c.args.hand.now in
    good_used m c.args.self.now.pool.now c.args.self.now.worker c.args.formulas.now c.args.body.now.cubes (formula c.args.body.now) h.mine.shown.items h.kept h.tokens.items h.used.items
    c.requires.hand is c.requires.mine.admitted c.requires.mine.marked c.args.place c.requires.rejects
