-- Which indexes a cursor has read.
use Rattle.std.specs.Prelude.{◌≡◌, ◌≢◌, ◌↔◌, ℕ, Bool, true, false, List}
use Rattle.std.specs.List.{slice_index_or}

-- the index is marked as read
abbrev pub IsRead : List Bool → ℕ → Type 0
IsRead cursor i = slice_index_or cursor i false ≡ true

-- no index is read
abbrev pub ReadsNone : List Bool → Type 0
ReadsNone cursor = (i : ℕ) → IsRead cursor i → ⊥

-- what was read stays read
abbrev pub KeepsRead : List Bool → List Bool → Type 0
KeepsRead old new = (i : ℕ) → IsRead old i → IsRead new i

-- the same indexes are read
abbrev pub ReadsSame : List Bool → List Bool → Type 0
ReadsSame old new = (i : ℕ) → IsRead new i ↔ IsRead old i

-- of the indexes other than this one, the same are read
abbrev pub LeavesOthers : ℕ → List Bool → List Bool → Type 0
LeavesOthers index old new = (i : ℕ) → i ≢ index → IsRead new i ↔ IsRead old i
