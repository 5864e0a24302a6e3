use Rattle.std.proofs.Common.{rules, subst, length, ◌+◌}
use Rattle.sw_ground.specs.declared.check.RefutationVerdict.TheVariants.{Accepted, Refused}
use Rattle.sw_refute.specs.Verdict.{Judges}
use Rattle.sw_instances.specs.Instances.{AreInstances}
use Rattle.sw_ground.specs.Verdict.{JudgesRefutation, IsFirstMissing, instance}
use Rattle.sw_ground.proofs.Judging.{of_query, ready, if_refused, if_refused_at, accepts, ends, refuses}
use Rattle.sw_ground.proofs.check.check_refutation.Goals as goal

pub returns-in-Some-clause-judged : goal.returns-in-Some-clause-judged
returns-in-Some-clause-judged c =
    let q = c.args.query.now in
    let r = c.args.refutation.now in
    if_refused (JudgesRefutation q r) _ c.in-Some.place c.refused.ensures.place
    (of_query q c.in_ok-set.set c.in_ok-universe.universe r (Refused c.in-Some.place) c.in_ok-set.ensures c.in_ok-universe.ensures (instance c.in-Some.place (subst (λ is. IsFirstMissing c.in_ok-set.set c.in_ok-universe.universe is c.in-Some.place) c.as_slice.ensures c.in-Some.ensures)))

pub clauses_of-requires-clause-set : goal.clauses_of-requires-clause-set
clauses_of-requires-clause-set c =
    let r = ready c.skolem_is_well_formed.ensures c.skolem_keeps_strata.ensures c.args.query.now c.requires.query c.requires.strata c.in_ok-set.set c.in_ok-set.ensures in
    record { signature = r.signature; strata = r.strata; pieces = r.pieces; universe = c.in_ok-universe.ensures }

pub returns-in-Accepted-true-clause-judged : goal.returns-in-Accepted-true-clause-judged
returns-in-Accepted-true-clause-judged c =
    of_query c.args.query.now c.in_ok-set.set c.in_ok-universe.universe c.args.refutation.now Accepted c.in_ok-set.ensures c.in_ok-universe.ensures
    (accepts c.in_ok-set.set c.in_ok-universe.universe c.args.refutation.now c.in_ok-ground.ground (subst (AreInstances c.in_ok-set.set c.in_ok-universe.universe) c.as_slice.ensures c.in_default.ensures) c.in_ok-ground.ensures
    c.in_ok-check_steps.field-0 c.in-Accepted-true.empty c.in-Accepted-true.is c.in-Accepted-true.empty-test (subst (λ ss. Judges c.in_ok-ground.ground.cnf ss c.in_ok-check_steps.field-0) c.as_slice-2.ensures c.in_ok-check_steps.ensures.judged))

pub returns-in-Accepted-true-clause-sound : goal.returns-in-Accepted-true-clause-sound
returns-in-Accepted-true-clause-sound c e =
    c.accepted_leaves_no_structure.ensures c.args.query.now c.args.refutation.now c.requires.query (returns-in-Accepted-true-clause-judged c)

pub returns-in-Accepted-false-clause-judged : goal.returns-in-Accepted-false-clause-judged
returns-in-Accepted-false-clause-judged c =
    let q = c.args.query.now in
    let r = c.args.refutation.now in
    let sum = length r.instances + length r.steps in
    if_refused_at (JudgesRefutation q r) _ c.saturating_add-end.result sum c.refused-in-Accepted-false.ensures.place c.refused-in-Accepted-false.ensures.fits (search rules)
    (of_query q c.in_ok-set.set c.in_ok-universe.universe r (Refused sum) c.in_ok-set.ensures c.in_ok-universe.ensures
    (ends c.in_ok-set.set c.in_ok-universe.universe r c.in_ok-ground.ground (subst (AreInstances c.in_ok-set.set c.in_ok-universe.universe) c.as_slice.ensures c.in_default.ensures) c.in_ok-ground.ensures
    c.in_ok-check_steps.field-0 c.in-Accepted-false.empty c.in-Accepted-false.is c.in-Accepted-false.empty-test (subst (λ ss. Judges c.in_ok-ground.ground.cnf ss c.in_ok-check_steps.field-0) c.as_slice-2.ensures c.in_ok-check_steps.ensures.judged)))

pub returns-clause-judged : goal.returns-clause-judged
returns-clause-judged c =
    let q = c.args.query.now in
    let r = c.args.refutation.now in
    let sum = length r.instances + c.in-Refused.step in
    if_refused_at (JudgesRefutation q r) _ c.saturating_add.result sum c.refused-in-Refused.ensures.place c.refused-in-Refused.ensures.fits (search rules)
    (of_query q c.in_ok-set.set c.in_ok-universe.universe r (Refused sum) c.in_ok-set.ensures c.in_ok-universe.ensures
    (refuses c.in_ok-set.set c.in_ok-universe.universe r c.in_ok-ground.ground (subst (AreInstances c.in_ok-set.set c.in_ok-universe.universe) c.as_slice.ensures c.in_default.ensures) c.in_ok-ground.ensures
    c.in_ok-check_steps.field-0 c.in-Refused.step c.in-Refused.is (subst (λ ss. Judges c.in_ok-ground.ground.cnf ss c.in_ok-check_steps.field-0) c.as_slice-2.ensures c.in_ok-check_steps.ensures.judged)))
