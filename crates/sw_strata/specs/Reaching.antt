-- Which sorts are found from a sort along edges.
use Rattle.std.specs.Prelude.{◌≡◌, ℕ, ◌<◌, Bool, true, false, not, ◌&&◌, ◌||◌, ◌==◌, List, [], length, slice_index_or}
use Rattle.std.specs.List.{list_any, count_by}
use Rattle.sw_logic.specs.declared.syntax.Edge.{Edge}
use Rattle.sw_logic.specs.Strata.{Leads}

abbrev pub is_found : List Bool → ℕ → Bool
is_found found sort = slice_index_or found sort false

-- an edge from the start, or from a sort that is found, to a sort that is not
abbrev pub is_open : ℕ → List Bool → Edge → Bool
is_open start found e = (e.from == start || is_found found e.from) && not (is_found found e.to)

-- those found are led to, and no edge is open
pub record AreReached (sorts : ℕ) (edges : List Edge) (start : ℕ) (found : List Bool) : Type 0 where
  pub count : length found ≡ sorts
  pub led : (k : ℕ) → is_found found k ≡ true → Leads edges start k
  pub closed : list_any (is_open start found) edges ≡ false

-- in how many tables the sort is found
abbrev pub rank_in : List (List Bool) → ℕ → ℕ
rank_in tables sort = count_by (λ found. is_found found sort) tables

-- a table for each sort, in which it is not itself found
abbrev pub AreTables : ℕ → List Edge → List (List Bool) → Type 0
AreTables sorts edges tables = (t : ℕ) → t < length tables → AreReached sorts edges t (slice_index_or tables t []) × (is_found (slice_index_or tables t []) t ≡ false)
