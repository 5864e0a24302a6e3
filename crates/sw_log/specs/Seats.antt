-- What clauses see of a seat, and how its fields keep to it.
use Rattle.std.specs.Prelude.{◌≡◌, ℕ}
use Rattle.atomic_table.specs.Seated.{TableId}
use Rattle.sw_log.specs.declared.rule.LogView.{LogView}
use Rattle.sw_log.specs.LogSteps.{Knows, IsIdle}

-- the log that it is a seat of, and what it knows of it
pub record SeatValue : Type 0 where
  pub object : TableId
  pub view : LogView

-- a seat in use between two calls, beside the splits that it has left
pub record Sits (me : Knows) (splits : ℕ) : Type 0 where
  pub idle : IsIdle me
  pub splits_are : splits ≡ me.0.splits
