use Rattle.std.proofs.Common.{◌≡◌, ◌++◌, take}
use Rattle.std.specs.List.{AllByRecursion}
use Rattle.sw_pool.specs.Pools.{IsShown}
use Rattle.sw_core.specs.Gathered.{filters_of}
use Rattle.sw_gather.specs.Gathers.{AreKeptOf, shown_by}
use Rattle.sw_gather.proofs.keeping.keep_all.Given as goal

abbrev pub invariant-loop-share : goal.invariant-loop-share
invariant-loop-share l = record {
  kept : AreKeptOf (take l.share-index l.shares) l.kept;
  filters : shown_by l.tokens.items ≡ shown_by l.initial.tokens.items ++ filters_of l.kept;
  shown : AllByRecursion (IsShown l.pool) l.tokens.items;
}
