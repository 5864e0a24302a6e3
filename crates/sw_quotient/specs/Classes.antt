-- Classes of equal terms, numbered by their least terms.
use Rattle.std.specs.Prelude.{ℕ, Bool, not, List, [], ◌∷◌}
use Rattle.std.specs.List.{filter, range_with_len, position_or_len}
use Rattle.sw_logic.specs.Truth.{any_below, size_of}
use Rattle.sw_quotient.specs.Valuations.{Valuation}

-- whether no lesser term equals this one
abbrev pub is_least : Valuation → ℕ → ℕ → Bool
is_least v sort t = not (any_below t (λ u. v.equal sort u t))

-- the terms of a sort that no lesser one equals, in order, where the sort has so many terms
abbrev pub leasts : Valuation → ℕ → ℕ → List ℕ
leasts v sort count = filter (is_least v sort) (range_with_len 0 count)

-- the class of a term: the place of the one of these that equals it
abbrev pub class_of : Valuation → List ℕ → ℕ → ℕ → ℕ
class_of v counts sort t = position_or_len (λ l. v.equal sort l t) (leasts v sort (size_of counts sort))

-- the class of each of these terms
abbrev pub classes : (ℕ → ℕ → ℕ) → List ℕ → List ℕ → List ℕ
classes class [] ts = []
classes class (sort ∷ sorts) [] = []
classes class (sort ∷ sorts) (t ∷ ts) = class sort t ∷ classes class sorts ts
