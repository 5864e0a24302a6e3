-- Ranks that rise along edges.
use Rattle.std.specs.Prelude.{ℕ, ◌+◌, ◌<◌, List, [], ◌∷◌, ◌++◌, slice_index}
use Rattle.std.specs.List.{AllByRecursion}
use Rattle.sw_logic.specs.declared.syntax.Edge.{Edge}

-- ranks rise from the arguments of a function to its value
abbrev pub Rises : List ℕ → Edge → Type 0
Rises ranks e = slice_index ranks e.from < slice_index ranks e.to

pub rises_front : (ranks : List ℕ) (xs ys : List Edge) → AllByRecursion (Rises ranks) (xs ++ ys) → AllByRecursion (Rises ranks) xs × AllByRecursion (Rises ranks) ys
rises_front ranks [] ys h = (tt, h)
rises_front ranks (x ∷ xs) ys h = let rest = rises_front ranks xs ys h.1 in ((h.0, rest.0), rest.1)
