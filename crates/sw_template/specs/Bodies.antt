-- A body: the number of its template and those of its cubes.
use Rattle.std.specs.Prelude.{ℕ, ◌<◌, List, length}
use Rattle.std.specs.List.{AllByRecursion}

pub record Class : Type 0 where
  pub template : ℕ
  pub cubes : List ℕ

-- each is the number of a cube
abbrev pub AreCubes : List (List ℕ) → List ℕ → Type 0
AreCubes cubes body = AllByRecursion (λ c. c < length cubes) body
