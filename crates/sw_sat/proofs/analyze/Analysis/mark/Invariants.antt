use Rattle.std.proofs.Common.{◌≡◌, length, take}
use Rattle.std.specs.List.{All}
use Rattle.sw_refute.specs.Satisfaction.{negation}
use Rattle.sw_sat.specs.Analysis.{IsSeen, KeepsSeen}
use Rattle.sw_sat.proofs.analyze.Analysis.mark.Given as goal

abbrev pub invariant-loop-lit : goal.invariant-loop-lit
invariant-loop-lit l = record {
  size : length l.self.seen.items ≡ length l.initial.self.seen.items;
  hints : l.self.hints.items ≡ l.initial.self.hints.items;
  keeps : KeepsSeen l.initial.self.seen.items l.self.seen.items;
  marks : All (λ m. IsSeen l.self.seen.items (negation m)) (take l.lit-index l.clause.lits);
}
