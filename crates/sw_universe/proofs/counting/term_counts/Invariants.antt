use Rattle.sw_universe.specs.Counting.{AreCounts}
use Rattle.sw_universe.proofs.counting.term_counts.Given as goal

abbrev pub invariant-loop-depth : goal.invariant-loop-depth
invariant-loop-depth l = AreCounts l.sig l.depth l.counts
