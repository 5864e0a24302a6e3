use Rattle.std.proofs.Common.{◌≡◌, ◌<◌, ◌≤◌, ◌∙◌, [], ap, subst, length, get_or, arith}
use Rattle.std.proofs.lemmas.List.Elements.{Contains-get_or}
use Rattle.std.specs.List.{Contains}
use Rattle.sw_refute.specs.Satisfaction.{negation}
use Rattle.sw_sat.specs.Occurring.{lists_of}
use Rattle.sw_sat.specs.Trail.{all_clauses, AreQuiet}
use Rattle.sw_sat.proofs.Founded.{read_at, short}
use Rattle.sw_sat.proofs.Growth.{grows_more}
use Rattle.sw_sat.proofs.Quiet.{quiet_next, quiet_end}
use Rattle.sw_sat.proofs.propagate.propagate.Goals as goal

pub read_each-requires-clause-within : goal.read_each-requires-clause-within
read_each-requires-clause-within c = λ k d h.
    c.requires.index.sound c.negation-now_false.result.0 (get_or c.of.result.now k d) (subst (λ ns. Contains ns (get_or c.of.result.now k d)) c.of.ensures (Contains-get_or c.of.result.now k d h))

pub loop-head-smaller : goal.loop-head-smaller
loop-head-smaller c =
    let entries = c.loop-head.trail.entries.items in
    let h : length entries ≤ c.args.cnf.now.variables = short c.args.cnf.now.variables (all_clauses c.args.cnf.now c.args.steps.now) entries c.loop-head.invariant.state.founded in
    omega (arith, c.len.ensures, c.loop-head-test.true)

pub loop-head-preserved : goal.loop-head-preserved
loop-head-preserved c =
    let v = c.args.cnf.now.variables in
    let clauses = all_clauses c.args.cnf.now c.args.steps.now in
    let lists = lists_of c.args.occurrences.now in
    let old = c.loop-head.trail.entries.items in
    let new = c.read_each.new.trail.entries.items in
    let e = c.index.result.now in
    let i = c.loop-head.invariant in
    let within : c.loop-head.head < length old = omega (arith, c.len.ensures, c.loop-head-test.true) in
    let numbers : c.of.result.now ≡ get_or lists (negation e.lit).0 [] = c.of.ensures ∙ ap (λ l. get_or lists l.0 []) c.negation-now_false.ensures in
    record {
      state = c.read_each.ensures.state;
      grows = grows_more c.begin.new.trail.entries.items old new i.grows c.read_each.ensures.grows;
      quiet = quiet_next v clauses lists old new c.loop-head.head e c.requires.index (read_at old c.loop-head.head e within c.index.ensures) i.quiet c.read_each.ensures.grows
          (subst (λ ns. AreQuiet clauses ns new (length old)) numbers c.in_default.ensures.ends);
    }

pub returns-clause-ends : goal.returns-clause-ends
returns-clause-ends c = λ number d is.
    quiet_end d c.loop-head.trail.entries.items c.loop-head.head (omega (arith, c.len.ensures, c.loop-head-test.false)) (c.loop-head.invariant.quiet number d is)
