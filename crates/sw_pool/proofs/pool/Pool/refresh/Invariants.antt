use Rattle.std.proofs.Common.{◌≡◌, ◌<◌, ◌^◌, length}
use Rattle.sw_pool.proofs.Visiting.{Walks}
use Rattle.sw_pool.proofs.pool.Pool.refresh.Given as goal

abbrev pub invariant-loop-index : goal.invariant-loop-index
invariant-loop-index g l = record {
  same : (l.view.protocol.now ≡ l.initial.view.protocol.now) × (l.view.space.now ≡ l.initial.view.space.now) × (l.view.mode ≡ l.initial.view.mode) × (l.view.advanced ≡ l.initial.view.advanced);
  room : length l.initial.view.shown.items < 2 ^ 32 → length l.view.shown.items < 2 ^ 32;
  walks : Walks l.self l.protocol l.initial.cursor l.cursor l.initial.view.shown.items l.view.shown.items l.tokens.items;
}
