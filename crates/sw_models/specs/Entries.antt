-- The entries of one table.
use Rattle.std.specs.Prelude.{ℕ, ◌==◌, length, slice_set}
use Rattle.sw_logic.specs.declared.structure.Table.{Table}
use Rattle.sw_logic.specs.declared.structure.Table.TheVariants.{Bits, Value, Values}

-- how many entries it has
abbrev pub entry_count : Table → ℕ
entry_count (Bits bits) = length bits
entry_count (Value value) = 1
entry_count (Values values) = length values

-- the table with another entry at a place
abbrev pub with_entry : Table → ℕ → ℕ → Table
with_entry (Bits bits) at value = Bits (slice_set bits at (value == 1))
with_entry (Value old) at value = Value value
with_entry (Values values) at value = Values (slice_set values at value)
