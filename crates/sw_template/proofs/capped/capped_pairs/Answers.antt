use Rattle.std.proofs.Common.{◌≡◌, ◌*◌, ◌-◌, ◌/◌, arith}
use Rattle.sw_cover.specs.Counting.{binomial}
use Rattle.sw_template.proofs.Capping.{pairs_are}
use Rattle.sw_template.proofs.capped.capped_pairs.Goals as goal

pub returns-then-pairs-lt-CAP : goal.returns-then-pairs-lt-CAP
returns-then-pairs-lt-CAP c =
    let are : c.args.n * (c.args.n - 1) / 2 ≡ binomial c.args.n 2 = pairs_are c.args.n (omega arith) in
    omega (arith, are, c.if-pairs-lt-CAP.true)

pub returns-else-pairs-lt-CAP : goal.returns-else-pairs-lt-CAP
returns-else-pairs-lt-CAP c =
    let are : c.args.n * (c.args.n - 1) / 2 ≡ binomial c.args.n 2 = pairs_are c.args.n (omega arith) in
    omega (arith, are, c.if-pairs-lt-CAP.false)
