-- One body after the other.
use Rattle.std.specs.Prelude.{if◌then◌else◌, nat_le, ◌&&◌, ◌||◌, ◌≡◌, ℕ, ◌+◌, ◌-◌, ◌++◌, ◌<◌, ◌≤◌, Bool, false, Option, Some, None, List, [], ◌∷◌, length, drop, slice_get, slice_index_or, unwrap_or, take, true}
use Rattle.std.specs.List.{AllByRecursion}
use Rattle.std.specs.Option.{is_some}
use Rattle.sw_meaning.specs.Classes.{bodies_from, parts_of}

-- the part of a number
abbrev pub part_at : ℕ → List (List ℕ) → ℕ → List (List ℕ)
part_at most cubes part = unwrap_or (slice_get (parts_of most cubes) part) []

-- how many literals a cube has
abbrev pub size : List (List ℕ) → ℕ → ℕ
size cubes c = length (unwrap_or (slice_get cubes c) [])

-- the bodies of n literals in all with cubes from a number on
abbrev pub rests : List (List ℕ) → ℕ → ℕ → List (List ℕ)
rests cubes at n = bodies_from at (drop at cubes) n

-- the first of them
abbrev pub first : List (List ℕ) → ℕ → ℕ → Option (List ℕ)
first cubes at n = slice_get (rests cubes at n) 0

abbrev pub after_by : Option (List ℕ) → ℕ → Option (List ℕ) → Option (List ℕ)
after_by (Some rest) c other = Some (c ∷ rest)
after_by None c other = other

-- the body after this one of n literals: it changes as late a cube as it can
abbrev pub after : List (List ℕ) → ℕ → List ℕ → Option (List ℕ)
after cubes n [] = None
after cubes n (c ∷ rest) = after_by (after cubes (n - size cubes c) rest) c (first cubes (c + 1) n)

-- row k says of which numbers of literals there is a body of the last k cubes
abbrev pub RowsAre : List (List ℕ) → List (List Bool) → Type 0
RowsAre cubes rows = (k n : ℕ) → k ≤ length cubes → n < 7 → slice_index_or (slice_index_or rows k []) n false ≡ is_some (first cubes (length cubes - k) n)

-- cubes of one to six literals
abbrev pub AreSmall : List (List ℕ) → Type 0
AreSmall cubes = AllByRecursion (λ cube. (0 < length cube) × (length cube ≤ 6)) cubes

-- how many literals the cubes of a list have together
abbrev pub weight_of : List (List ℕ) → List ℕ → ℕ
weight_of cubes [] = 0
weight_of cubes (c ∷ rest) = size cubes c + weight_of cubes rest

-- what stands after a step: the next body from the place on, or the same list
abbrev pub Advanced : List ℕ → ℕ → Option (List ℕ) → List ℕ → Bool → Type 0
Advanced old place (Some body) new found = (found ≡ true) × (new ≡ take place old ++ body)
Advanced old place None new found = (found ≡ false) × (new ≡ old)

-- numbers of cubes of at most so many literals together
pub record Fits (cubes : List (List ℕ)) (n : ℕ) (body : List ℕ) : Type 0 where
  pub below : AllByRecursion (λ c. c < length cubes) body
  pub weighs : weight_of cubes body ≤ n

-- what one more cube of a size adds to the row of the later cubes
abbrev pub stepped : ℕ → List Bool → ℕ → Bool
stepped size row n = (nat_le size n && slice_index_or row (n - size) false) || slice_index_or row n false

-- what one more cube of a size adds to the counts of bodies of the later cubes
abbrev pub summed : ℕ → List ℕ → ℕ → ℕ
summed size counts n = (if nat_le size n then slice_index_or counts (n - size) 0 else 0) + slice_index_or counts n 0

-- each number of the list is above the one before it, and the first is at least a
abbrev pub IsRising : ℕ → List ℕ → Type 0
IsRising a [] = Unit {0}
IsRising a (c ∷ cs) = (a ≤ c) × IsRising (c + 1) cs

-- a rising list of cubes from a number on, of at most so many literals beside those before
pub record IsRest (cubes : List (List ℕ)) (from before most : ℕ) (rest : List ℕ) : Type 0 where
  pub rising : IsRising from rest
  pub fits : Fits cubes (most - before) rest
  pub room : before ≤ most
