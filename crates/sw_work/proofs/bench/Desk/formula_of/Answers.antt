use Rattle.std.proofs.Common.{◌≡◌, sym, ◌∙◌}
use Rattle.std.proofs.lemmas.Bool.{false≢true}
use Rattle.sw_logic.specs.declared.syntax.Formula.{Formula}
use Rattle.sw_template.specs.Bodies.{Class}
use Rattle.sw_core.specs.Machine.{Search}
use Rattle.sw_walk.specs.Parts.{IsClass}
use Rattle.sw_work.specs.Works.{entry_formula}
use Rattle.sw_work.specs.Steps.{searched}
use Rattle.sw_work.proofs.Seen.{formula_of_class, formula_of_none}
use Rattle.sw_work.proofs.Asked.{has_it, formula_is, class_at, class_in, if_ok}
use Rattle.sw_work.proofs.bench.Desk.formula_of.Goals as goal

pub formula-requires : goal.formula-requires
formula-requires g c =
    let can = c.requires.can in
    let s = c.args.self.now.task.now.space.now in
    let body : Class = c.args.entry.now.body in
    let k : IsClass (g.B.Walk.part_lists s) body = c.is_class.ensures.0 c.if-is_class.true in
    has_it g.B.Walk.template g.B.Walk.part_lists g.B.Candidates.has g.B.Candidates.formula_of c.args.self.now.task.now c.args.self.now.budget can body k

pub returns-then-is_class-clause-is : goal.returns-then-is_class-clause-is
returns-then-is_class-clause-is g c =
    let can = c.requires.can in
    let s = c.args.self.now.task.now.space.now in
    let m : Search = searched g.B.Walk.template c.args.self.now.task.now in
    let body : Class = c.args.entry.now.body in
    let k : IsClass (g.B.Walk.part_lists s) body = c.is_class.ensures.0 c.if-is_class.true in
    let is : g.B.Candidates.formula_of s body ≡ entry_formula m c.args.entry.now =
    formula_is g.B.Walk.template g.B.Walk.part_lists g.B.Candidates.has g.B.Candidates.formula_of c.args.self.now.task.now c.args.self.now.budget can body k
    ∙ sym (formula_of_class m c.args.entry.now (class_at g.B.Walk.template g.B.Walk.part_lists g.B.Candidates.has g.B.Candidates.formula_of c.args.self.now.task.now c.args.self.now.budget can body k)) in
    if_ok (λ (f : Formula). f ≡ g.B.Candidates.formula_of s body) (λ (f : Formula). f ≡ entry_formula m c.args.entry.now) (λ f e. e ∙ is) c.formula.result c.formula.ensures.formula

pub returns-else-is_class-clause-is : goal.returns-else-is_class-clause-is
returns-else-is_class-clause-is g c =
    let can = c.requires.can in
    let m : Search = searched g.B.Walk.template c.args.self.now.task.now in
    let body : Class = c.args.entry.now.body in
    sym (formula_of_none m c.args.entry.now
    (λ k. false≢true (sym c.if-is_class.false ∙ c.is_class.ensures.1 (class_in g.B.Walk.template g.B.Walk.part_lists g.B.Candidates.has g.B.Candidates.formula_of c.args.self.now.task.now c.args.self.now.budget can body k))))
