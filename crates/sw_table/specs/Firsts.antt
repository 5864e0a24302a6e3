-- The first place of each name of a list, as a map has it.
use Rattle.std.specs.Prelude.{◌≡◌, ℕ, List, Option, Vec}
use Rattle.std.specs.List.{position}
use Rattle.std.specs.Str.{bytes_eq}
use Rattle.std.specs.Ordering.{nat_cmp}
use Rattle.std.specs.Cmp.Lexicographic.{slice_cmp}
use Rattle.std.specs.BTreeMap.{BTreeMap, get_by}

-- what the map has at the name
abbrev pub place_in : {A : Type 0} → BTreeMap (Vec ℕ A) ℕ → List ℕ → Option ℕ
place_in m name = get_by (λ k. slice_cmp nat_cmp name k.items) m

-- the map has the first place of each name, and nothing else
abbrev pub HasFirsts : {A : Type 0} → List (List ℕ) → BTreeMap (Vec ℕ A) ℕ → Type 0
HasFirsts names m = (name : List ℕ) → place_in m name ≡ position (bytes_eq name) names
