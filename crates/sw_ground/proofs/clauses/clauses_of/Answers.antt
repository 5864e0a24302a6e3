use Rattle.std.proofs.Common.{◌≡◌, ◌<◌, ◌≤◌, List, subst, length, get_or, rules}
use Rattle.std.proofs.lemmas.List.{take_all}
use Rattle.sw_truth.specs.declared.instances.Instance.{Instance}
use Rattle.sw_ground.specs.Adding.{IsSoFar}
use Rattle.sw_ground.proofs.Gathering.{around, none_so_far, next_so_far, gathered}
use Rattle.sw_ground.proofs.clauses.clauses_of.Goals as goal

pub loop-instance-init : goal.loop-instance-init
loop-instance-init c =
    let b = c.new-builder.result in
    none_so_far c.args.set.now c.args.universe.now b.numbering.table b.numbering.atoms b.clauses (c.new-builder.ensures.numbering c.args.set.now c.args.universe.now) c.new-builder.ensures.clauses

pub loop-instance-preserved : goal.loop-instance-preserved
loop-instance-preserved c =
    let ts = c.in_ok-terms.terms in
    let set = c.args.set.now in
    let u = c.args.universe.now in
    next_so_far set u ts.signature.now ts.counts ts.firsts c.loop-instance.builder c.add.new.builder c.args.instances.now c.loop-instance.instance-index c.instance-item.result
    c.requires.set (around set u ts.signature.now ts.counts ts.firsts c.requires.set c.in_ok-terms.ensures) c.requires.instances
    (subst (λ (is : List Instance). c.loop-instance.instance-index < length is) c.as_slice-instance-items.ensures c.loop-instance-test.true)
    (subst (λ (is : List Instance). c.instance-item.result ≡ get_or is c.loop-instance.instance-index c.instance-item.result) c.as_slice-instance-items.ensures c.instance-item.is) c.loop-instance.invariant c.in_ok-add.ensures

pub returns : goal.returns
returns c =
    let b = c.loop-instance.builder in
    let set = c.args.set.now in
    let u = c.args.universe.now in
    let count : c.in-Ok.variables ≡ length b.numbering.atoms = search rules in
    gathered set u b.numbering.table c.args.instances.now (record { cnf = record { variables = c.in-Ok.variables; clauses = b.clauses }; atoms = b.numbering.atoms })
    (subst (IsSoFar set u b.numbering.table b.numbering.atoms b.clauses) (take_all c.loop-instance.instance-index c.args.instances.now (subst (λ (is : List Instance). length is ≤ c.loop-instance.instance-index) c.as_slice-instance-items.ensures c.loop-instance-test.false)) c.loop-instance.invariant) count
