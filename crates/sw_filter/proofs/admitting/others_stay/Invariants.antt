use Rattle.std.proofs.Common.{◌≡◌, ℕ, ◌<◌, slice_get, Contains}
use Rattle.sw_filter.proofs.admitting.others_stay.Given as goal

abbrev pub invariant-loop-symbol : goal.invariant-loop-symbol
invariant-loop-symbol l = (symbol : ℕ) → symbol < l.symbol → (Contains l.modifies symbol → ⊥) → slice_get l.before symbol ≡ slice_get l.after symbol
