-- Ground terms and sizes, worked out.
use Rattle.std.specs.Prelude.{◌≡◌, false, [], ◌∷◌}
use Rattle.std.proofs.Common.{refl}
use Rattle.sw_logic.specs.declared.syntax.SymbolKind.TheVariants.{Relation, Constant, Function}
use Rattle.sw_logic.specs.declared.syntax.Symbol.{Symbol}
use Rattle.sw_logic.specs.declared.syntax.Term.TheVariants.{Apply}
use Rattle.sw_logic.specs.declared.syntax.Formula.TheVariants.{False}
use Rattle.sw_universe.specs.GroundTerms.{universe_of}
use Rattle.sw_universe.specs.Sizes.{size_of_set}

-- a function from the first sort to the second, and a constant of the first
abbrev h : Symbol
h = record { name = []; kind = Function; args = 0 ∷ []; gives = 1; mutable = false }

abbrev c : Symbol
c = record { name = []; kind = Constant; args = []; gives = 0; mutable = false }

terms_of_two : universe_of (record { sorts = [] ∷ [] ∷ []; symbols = h ∷ c ∷ [] }) ≡ ((Apply 1 false [] ∷ []) ∷ (Apply 0 false (Apply 1 false [] ∷ []) ∷ []) ∷ [])
terms_of_two = refl

-- a function of two arguments: constants first, then applications by their arguments in order
abbrev k : Symbol
k = record { name = []; kind = Function; args = 0 ∷ 0 ∷ []; gives = 1; mutable = false }

abbrev d : Symbol
d = record { name = []; kind = Constant; args = []; gives = 1; mutable = false }

in_order : universe_of (record { sorts = [] ∷ [] ∷ []; symbols = k ∷ c ∷ d ∷ c ∷ [] })
    ≡ ((Apply 1 false [] ∷ Apply 3 false [] ∷ [])
    ∷ (Apply 2 false [] ∷ Apply 0 false (Apply 1 false [] ∷ Apply 1 false [] ∷ []) ∷ Apply 0 false (Apply 1 false [] ∷ Apply 3 false [] ∷ [])
    ∷ Apply 0 false (Apply 3 false [] ∷ Apply 1 false [] ∷ []) ∷ Apply 0 false (Apply 3 false [] ∷ Apply 3 false [] ∷ []) ∷ [])
    ∷ [])
in_order = refl

-- one sort with two constants, a relation on two, and the piece `false`: 1 + (2 + 4 + 8) + 2 * 4 * 2 instances
abbrev on_two : Symbol
on_two = record { name = []; kind = Relation; args = 0 ∷ 0 ∷ []; gives = 0; mutable = false }

size_of_small : size_of_set (record { signature = record { sorts = [] ∷ []; symbols = c ∷ c ∷ on_two ∷ [] }; added = 0; pieces = record { vars = []; matrix = False } ∷ [] }) ≡ record { terms = 2; instances = 31 }
size_of_small = refl
