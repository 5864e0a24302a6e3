-- Terms and atoms by a table that has the terms of each sort.
use Rattle.std.specs.Prelude.{ℕ, ◌<◌, ◌==◌, false, List, [], ◌++◌, map, length, unwrap_or, slice_get}
use Rattle.std.specs.List.{AllByRecursion, flat_map, filter, range_with_len}
use Rattle.sw_logic.specs.declared.syntax.Signature.{Signature}
use Rattle.sw_logic.specs.declared.syntax.Term.{Term}
use Rattle.sw_logic.specs.declared.syntax.Term.TheVariants.{Apply}
use Rattle.sw_logic.specs.declared.syntax.Formula.{Formula}
use Rattle.sw_logic.specs.declared.syntax.Formula.TheVariants.{Holds, Equal}
use Rattle.sw_logic.specs.Truth.{greatest}
use Rattle.sw_meaning.specs.Space.{depth_of}
use Rattle.sw_meaning.specs.Classes.{tuples, pairs, symbols_of, is_relation, is_function, giving, terms_of}

-- the terms that a table has for a sort
abbrev pub list_at : List (List Term) → ℕ → List Term
list_at lists sort = unwrap_or (slice_get lists sort) []

-- the tuples of arguments of these sorts
abbrev pub tuples_at : List (List Term) → List ℕ → List (List Term)
tuples_at lists sorts = tuples (map (list_at lists) sorts)

-- the applications of a function to arguments of which the deepest has this depth
abbrev pub applied : ℕ → ℕ → List (List Term) → List Term
applied d symbol args = map (Apply symbol false) (filter (λ a. greatest (map depth_of a) == d) args)

-- the terms of a sort up to a depth more
abbrev pub next_terms : Signature → ℕ → List (List Term) → ℕ → List Term
next_terms sig d lists sort = list_at lists sort ++ flat_map (λ s. applied d s.0 (tuples_at lists s.1.args)) (giving sort (symbols_of sig is_function))

-- the terms of each sort up to a depth
abbrev pub table_of : Signature → List ℕ → ℕ → List (List Term)
table_of sig scope d = map (terms_of sig scope d) (range_with_len 0 (length sig.sorts))

-- the equalities of a term with a later one
abbrev pub equalities : List Term → List Formula
equalities terms = map (λ pair. Equal pair.0 pair.1) (pairs terms)

-- the relations at their tuples, then the equalities
abbrev pub relations_at : Signature → List (List Term) → List Formula
relations_at sig lists = flat_map (λ s. map (Holds s.0 false) (tuples_at lists s.1.args)) (symbols_of sig is_relation)

abbrev pub atoms_by : Signature → List (List Term) → List Formula
atoms_by sig lists = relations_at sig lists ++ flat_map equalities lists

-- the arguments of symbols are of sorts that there are
abbrev pub HaveArguments : Signature → Type 0
HaveArguments sig = AllByRecursion (λ s. AllByRecursion (λ sort. sort < length sig.sorts) s.args) sig.symbols
