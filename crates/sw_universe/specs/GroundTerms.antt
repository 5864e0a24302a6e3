-- The ground terms of a signature.
use Rattle.std.specs.Prelude.{ℕ, zero, suc, ◌+◌, ◌&&◌, ◌==◌, Bool, true, false, List, [], ◌∷◌, ◌++◌, map, length}
use Rattle.std.specs.List.{flat_map, filter, range_with_len, enumerate_from}
use Rattle.sw_logic.specs.declared.syntax.SymbolKind.{SymbolKind}
use Rattle.sw_logic.specs.declared.syntax.SymbolKind.TheVariants.{Relation, Constant, Function}
use Rattle.sw_logic.specs.declared.syntax.Symbol.{Symbol}
use Rattle.sw_logic.specs.declared.syntax.Signature.{Signature}
use Rattle.sw_logic.specs.declared.syntax.Term.{Term}
use Rattle.sw_logic.specs.declared.syntax.Term.TheVariants.{Apply}

-- one of each list, in lexicographic order
abbrev pub tuples : {X : Type 0} → List (List X) → List (List X)
tuples [] = [] ∷ []
tuples (xs ∷ rest) = flat_map (λ x. map (λ tuple. x ∷ tuple) (tuples rest)) xs

abbrev pub is_constant : SymbolKind → Bool
is_constant Relation = false
is_constant Constant = true
is_constant Function = false

abbrev pub is_function : SymbolKind → Bool
is_function Relation = false
is_function Constant = false
is_function Function = true

-- the symbols of a kind that give a sort, each with its number
abbrev pub giving : Signature → (SymbolKind → Bool) → ℕ → List (ℕ × Symbol)
giving sig kind sort = filter (λ s. kind s.1.kind && (s.1.gives == sort)) (enumerate_from 0 sig.symbols)

abbrev pub constants : Signature → ℕ → List Term
constants sig sort = map (λ s. Apply s.0 false []) (giving sig is_constant sort)

-- the applications of functions to listed terms, by function and then by arguments
abbrev pub applications : Signature → (ℕ → List Term) → ℕ → List Term
applications sig listed sort = flat_map (λ s. map (Apply s.0 false) (tuples (map listed s.1.args))) (giving sig is_function sort)

-- the ground terms of a sort in which applications are nested no deeper than this
abbrev pub terms_within : Signature → ℕ → ℕ → List Term
terms_within sig zero sort = constants sig sort
terms_within sig (suc depth) sort = constants sig sort ++ applications sig (terms_within sig depth) sort

-- the ground terms of a sort: where the signature is stratified, none is nested deeper than there are sorts
abbrev pub terms_of : Signature → ℕ → List Term
terms_of sig sort = terms_within sig (length sig.sorts) sort

abbrev pub universe_of : Signature → List (List Term)
universe_of sig = map (terms_of sig) (range_with_len 0 (length sig.sorts))

abbrev pub term_count : Signature → ℕ → ℕ
term_count sig sort = length (terms_of sig sort)
