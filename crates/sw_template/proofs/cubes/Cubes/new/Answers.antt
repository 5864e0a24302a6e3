use Rattle.std.proofs.Common.{◌≡◌, ◌≤◌, ◌*◌, take, length, sym, subst, arith}
use Rattle.std.specs.List.{AllByRecursion}
use Rattle.sw_cover.proofs.TermCounts.{length_map}
use Rattle.sw_template.specs.Counts.{capped}
use Rattle.sw_template.specs.Lits.{IsPadded}
use Rattle.sw_meaning.specs.Classes.{cubes_of}
use Rattle.sw_template.proofs.Choosing.{counted, listed, within, all_padded}
use Rattle.sw_template.proofs.cubes.Cubes.new.Goals as goal

pub returns-then-n-clause-refused : goal.returns-then-n-clause-refused
returns-then-n-clause-refused c =
    let told : c.count_cubes-n.result ≡ capped (length (cubes_of (2 * length c.args.literals.now) c.args.template.now)) =
    counted c.args.template.now c.count-all.result (length c.args.literals.now) c.most_of-most.result c.count_cubes-n.result c.count-all.ensures.count c.most_of-most.ensures.is c.count_cubes-n.ensures in
    record { over = omega (arith, told, c.if-n.true); is = told }

pub invariant_of-result : goal.invariant_of-result
invariant_of-result c = (
  within c.args.template.now c.count-all.result (length c.args.literals.now) c.most_of-most.result c.count_cubes-n.result c.in-Ok.cubes c.count-all.ensures.count c.most_of-most.ensures.is c.count_cubes-n.ensures c.if-n.false c.in-Ok.ensures,
  subst (AllByRecursion IsPadded) (sym c.in-Ok.ensures) (all_padded (2 * c.count-all.result) c.most_of-most.result c.most_of-most.ensures.most),
)

pub returns-clause-ok : goal.returns-clause-ok
returns-clause-ok c = listed c.args.template.now c.count-all.result (length c.args.literals.now) c.most_of-most.result c.in-Ok.cubes c.count-all.ensures.count c.most_of-most.ensures.is c.in-Ok.ensures

pub returns-clause-within : goal.returns-clause-within
returns-clause-within c =
    let few : length c.in-Ok.cubes ≤ 1048576 =
    within c.args.template.now c.count-all.result (length c.args.literals.now) c.most_of-most.result c.count_cubes-n.result c.in-Ok.cubes c.count-all.ensures.count c.most_of-most.ensures.is c.count_cubes-n.ensures c.if-n.false c.in-Ok.ensures in
    omega (arith, few, length_map (λ l. take l.len l.literals) c.in-Ok.cubes)
