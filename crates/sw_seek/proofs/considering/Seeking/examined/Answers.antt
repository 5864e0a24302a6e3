use Rattle.std.proofs.Common.{subst}
use Rattle.sw_template.specs.Bodies.{Class}
use Rattle.sw_join.specs.Joining.{IsExamined}
use Rattle.sw_seek.proofs.Standing.{has_it, can_ask, rejects, joined_at}
use Rattle.sw_seek.proofs.considering.Seeking.examined.Goals as goal

pub examine_join-requires-clause-body : goal.examine_join-requires-clause-body
examine_join-requires-clause-body g c =
    has_it g.B.Walk.template g.B.Walk.part_lists g.B.Candidates.has g.B.Candidates.formula_of c.args.self.now c.requires.can c.args.body.now c.requires.class

pub examine_join-requires-clause-ask : goal.examine_join-requires-clause-ask
examine_join-requires-clause-ask g c =
    can_ask g.B.Walk.template g.B.Walk.part_lists g.B.Candidates.has g.B.Candidates.formula_of c.args.self.now c.requires.can c.args.body.now c.requires.class

pub reject-requires-clause-rejects : goal.reject-requires-clause-rejects
reject-requires-clause-rejects g c =
    let s = c.args.self.now in
    let body : Class = c.args.body.now in
    let told = subst (IsExamined s.task.now.protocol.now s.entries.now (g.B.Candidates.formula_of s.task.now.space.now body) s.budget body)
    c.in-StartFails.is c.in_ok-found.ensures in
    rejects g.B.Walk.template g.B.Walk.part_lists g.B.Candidates.has g.B.Candidates.formula_of s c.requires.can body c.requires.class c.in-StartFails.filter
    told.0.rejection

pub reject-requires-in-NotKept-clause-rejects : goal.reject-requires-in-NotKept-clause-rejects
reject-requires-in-NotKept-clause-rejects g c =
    let s = c.args.self.now in
    let body : Class = c.args.body.now in
    let told = subst (IsExamined s.task.now.protocol.now s.entries.now (g.B.Candidates.formula_of s.task.now.space.now body) s.budget body) c.in-NotKept.is
    c.in_ok-found.ensures in
    rejects g.B.Walk.template g.B.Walk.part_lists g.B.Candidates.has g.B.Candidates.formula_of s c.requires.can body c.requires.class c.in-NotKept.filter
    told.1.leaves.rejection

pub reject-requires-in-Bad-clause-rejects : goal.reject-requires-in-Bad-clause-rejects
reject-requires-in-Bad-clause-rejects g c =
    let s = c.args.self.now in
    let body : Class = c.args.body.now in
    let told = subst (IsExamined s.task.now.protocol.now s.entries.now (g.B.Candidates.formula_of s.task.now.space.now body) s.budget body) c.in-Bad.is
    c.in_ok-found.ensures in
    rejects g.B.Walk.template g.B.Walk.part_lists g.B.Candidates.has g.B.Candidates.formula_of s c.requires.can body c.requires.class c.in-Bad.filter
    told.1.leaves.rejection

pub returns-in_ok-body-in-Joins-clause-considered : goal.returns-in_ok-body-in-Joins-clause-considered
returns-in_ok-body-in-Joins-clause-considered g c =
    let s = c.args.self.now in
    let body : Class = c.args.body.now in
    let told = subst (IsExamined s.task.now.protocol.now s.entries.now (g.B.Candidates.formula_of s.task.now.space.now body) s.budget body) c.in-Joins.is
    c.in_ok-found.ensures in (
      c.in_ok-body-in-Joins.ensures,
      joined_at g.B.Walk.template g.B.Walk.part_lists g.B.Candidates.has g.B.Candidates.formula_of s c.requires.can body
          c.requires.class s.budget c.in-Joins.start c.in-Joins.steps told,
    )
