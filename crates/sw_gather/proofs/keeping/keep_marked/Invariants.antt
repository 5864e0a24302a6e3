use Rattle.std.proofs.Common.{◌≡◌, ◌++◌, take}
use Rattle.std.specs.List.{AllByRecursion}
use Rattle.sw_pool.specs.Pools.{IsShown}
use Rattle.sw_core.specs.Gathered.{chosen, filters_of}
use Rattle.sw_gather.specs.Gathers.{shown_by}
use Rattle.sw_gather.proofs.keeping.keep_marked.Given as goal

abbrev pub invariant-loop-place : goal.invariant-loop-place
invariant-loop-place l = record {
  kept : l.kept ≡ l.initial.kept ++ chosen (take l.place l.marks) (take l.place l.share.kept);
  filters : shown_by l.tokens.items ≡ shown_by l.initial.tokens.items ++ filters_of (chosen (take l.place l.marks) (take l.place l.share.kept));
  shown : AllByRecursion (IsShown l.pool) l.tokens.items;
}
