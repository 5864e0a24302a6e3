use Rattle.std.proofs.Common.{◌++◌, take, arith, rules}
use Rattle.sw_edge.proofs.Parts.{Gains-append, GainsPrefix-done, done-append}
use Rattle.sw_edge.proofs.transfer.write_all.Goals as goal

pub loop-rest-preserved : goal.loop-rest-preserved
loop-rest-preserved g c =
    let kept = c.loop-rest.invariant.gained in
    record {
      gained = (
        kept.0 ++ take c.in-Bytes.n c.loop-rest.rest.now,
        done-append _ _ _ c.in-Bytes.n kept.1,
        Gains-append _ _ _ _ _ kept.2 c.in-Bytes.ensures.bytes.2,
      );
      faults = omega (arith, c.in-Bytes.ensures.cause);
    }

pub returns-in-Failed-clause-prefix : goal.returns-in-Failed-clause-prefix
returns-in-Failed-clause-prefix g c =
    let kept = c.loop-rest.invariant.gained in
    GainsPrefix-done _ _ _ _ _ _ kept.1 (search rules) kept.2 c.in-Failed.ensures.bytes
