use Rattle.std.proofs.Common.{◌≡◌, ◌≤◌, length, take, vec_len, vec_capacity}
use Rattle.sw_sat.specs.Trail.{Agrees, IsPlain}
use Rattle.sw_sat.proofs.trail.Trail.backjump.Given as goal

abbrev pub invariant-loop-self : goal.invariant-loop-self
invariant-loop-self l = record {
  plain : IsPlain l.self;
  agrees : Agrees l.self;
  entries : l.self.entries.items ≡ take (length l.self.entries.items) l.initial.self.entries.items;
  size : length l.self.values.items ≡ length l.initial.self.values.items;
  room : vec_capacity l.self.entries ≡ vec_capacity l.initial.self.entries;
  long : length (take l.keep l.initial.self.entries.items) ≤ length l.self.entries.items;
}

abbrev pub decreases-loop-self : goal.decreases-loop-self
decreases-loop-self l = vec_len l.self.entries
