-- What each symbol adds to the ground terms of a sort.
use Rattle.std.specs.Prelude.{ℕ, false, ◌&&◌, ◌==◌, List, [], ◌∷◌, ◌++◌, map, slice_index_or, if◌then◌else◌}
use Rattle.sw_logic.specs.declared.syntax.Symbol.{Symbol}
use Rattle.sw_logic.specs.declared.syntax.Signature.{Signature}
use Rattle.sw_logic.specs.declared.syntax.Term.{Term}
use Rattle.sw_logic.specs.declared.syntax.Term.TheVariants.{Apply}
use Rattle.sw_universe.specs.GroundTerms.{tuples, is_constant, is_function, constants, applications}

-- the terms of a sort in a table
abbrev pub listed_in : List (List Term) → ℕ → List Term
listed_in lists sort = slice_index_or lists sort []

abbrev pub constant_of : ℕ → Symbol → ℕ → List Term
constant_of number s sort = if is_constant s.kind && (s.gives == sort) then Apply number false [] ∷ [] else []

abbrev pub applied : (ℕ → List Term) → ℕ → Symbol → ℕ → List Term
applied listed number s sort = if is_function s.kind && (s.gives == sort) then map (Apply number false) (tuples (map listed s.args)) else []

-- the terms of a sort whose arguments are in a table
abbrev pub terms_over : Signature → List (List Term) → ℕ → List Term
terms_over sig lists sort = constants sig sort ++ applications sig (listed_in lists) sort
