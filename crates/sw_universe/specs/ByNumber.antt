-- The ground terms of a universe by their numbers.
use Rattle.std.specs.Prelude.{◌≡◌, ◌<◌, ℕ, List, [], ◌∷◌, map, length, unwrap_or, slice_get}
use Rattle.sw_logic.specs.declared.syntax.Term.{Term}
use Rattle.sw_logic.specs.declared.syntax.Term.TheVariants.{Variable}
use Rattle.sw_logic.specs.Truth.{size_of}
use Rattle.sw_universe.specs.declared.universe.Universe.{Universe}

-- how many ground terms each sort has
abbrev pub counts : Universe → List ℕ
counts u = map length u.lists

-- the ground term of a sort with this number
abbrev pub term_at : Universe → ℕ → ℕ → Term
term_at u sort n = unwrap_or (slice_get (unwrap_or (slice_get u.lists sort) []) n) (Variable 0)

-- the ground terms with these numbers, each of its sort
abbrev pub terms_at : Universe → List ℕ → List ℕ → List Term
terms_at u [] ns = []
terms_at u (sort ∷ sorts) [] = []
terms_at u (sort ∷ sorts) (n ∷ ns) = term_at u sort n ∷ terms_at u sorts ns

-- the sort has a ground term with this number
abbrev pub IsTerm : Universe → ℕ → ℕ → Type 0
IsTerm u sort n = n < size_of (counts u) sort

-- no ground term stands twice in its list
abbrev pub AreDistinct : Universe → Type 0
AreDistinct u = (sort n m : ℕ) → IsTerm u sort n → IsTerm u sort m → term_at u sort n ≡ term_at u sort m → n ≡ m

-- no ground term stands in the lists of two sorts
abbrev pub AreApart : Universe → Type 0
AreApart u = (sort other n m : ℕ) → IsTerm u sort n → IsTerm u other m → term_at u sort n ≡ term_at u other m → sort ≡ other
