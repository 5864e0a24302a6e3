-- The classes of a template: its atoms, literals, cubes and bodies, each numbered from 0 in order.
use Rattle.std.specs.Prelude.{ℕ, zero, suc, ◌+◌, ◌-◌, Bool, true, false, ◌==◌, nat_le, List, [], ◌∷◌, ◌++◌, map, length, replicate, if◌then◌else◌, unwrap_or, slice_get}
use Rattle.std.specs.List.{flat_map, filter, range_with_len, enumerate_from}
use Rattle.sw_logic.specs.declared.syntax.SymbolKind.{SymbolKind}
use Rattle.sw_logic.specs.declared.syntax.SymbolKind.TheVariants.{Relation, Constant, Function}
use Rattle.sw_logic.specs.declared.syntax.Symbol.{Symbol}
use Rattle.sw_logic.specs.declared.syntax.Signature.{Signature}
use Rattle.sw_logic.specs.declared.syntax.Term.{Term}
use Rattle.sw_logic.specs.declared.syntax.Term.TheVariants.{Variable, Apply}
use Rattle.sw_logic.specs.declared.syntax.Formula.{Formula}
use Rattle.sw_logic.specs.declared.syntax.Formula.TheVariants.{False, Holds, Equal, Not}
use Rattle.sw_logic.specs.Truth.{greatest}
use Rattle.sw_meaning.specs.declared.template.Template.{Template}
use Rattle.sw_meaning.specs.Space.{depth_of, template_formula}

-- the sorts of the template's variables
abbrev pub scope_of : Template → List ℕ
scope_of t = flat_map (λ run. replicate run.count run.sort) t.prefix

-- one of each list, in lexicographic order
abbrev pub tuples : {X : Type 0} → List (List X) → List (List X)
tuples [] = [] ∷ []
tuples (xs ∷ rest) = flat_map (λ x. map (λ tuple. x ∷ tuple) (tuples rest)) xs

-- each element with each later one, in lexicographic order
abbrev pub pairs : {X : Type 0} → List X → List (X × X)
pairs [] = []
pairs (x ∷ xs) = map (λ y. (x, y)) xs ++ pairs xs

abbrev pub is_relation : SymbolKind → Bool
is_relation Relation = true
is_relation Constant = false
is_relation Function = false

abbrev pub is_constant : SymbolKind → Bool
is_constant Relation = false
is_constant Constant = true
is_constant Function = false

abbrev pub is_function : SymbolKind → Bool
is_function Relation = false
is_function Constant = false
is_function Function = true

-- the symbols of a kind, each with its number
abbrev pub symbols_of : Signature → (SymbolKind → Bool) → List (ℕ × Symbol)
symbols_of sig kind = filter (λ s. kind s.1.kind) (enumerate_from 0 sig.symbols)

abbrev pub giving : ℕ → List (ℕ × Symbol) → List (ℕ × Symbol)
giving sort symbols = filter (λ s. s.1.gives == sort) symbols

-- the terms of a sort up to a depth: variables, constants, then the applications of depth 1, 2 and on
abbrev pub terms_of : Signature → List ℕ → ℕ → ℕ → List Term
terms_of sig scope zero sort =
    map (λ v. Variable v.0) (filter (λ v. v.1 == sort) (enumerate_from 0 scope))
    ++ map (λ s. Apply s.0 false []) (giving sort (symbols_of sig is_constant))
terms_of sig scope (suc depth) sort =
    terms_of sig scope depth sort
    ++ flat_map (λ s. map (Apply s.0 false) (filter (λ args. greatest (map depth_of args) == depth) (tuples (map (terms_of sig scope depth) s.1.args))))
    (giving sort (symbols_of sig is_function))

-- the relations at their tuples of terms, then the equalities of a term with a later one, sort by sort
abbrev pub atoms : Signature → Template → List Formula
atoms sig t =
    flat_map (λ s. map (Holds s.0 false) (tuples (map (terms_of sig (scope_of t) t.terms) s.1.args))) (symbols_of sig is_relation)
    ++ flat_map (λ sort. map (λ pair. Equal pair.0 pair.1) (pairs (terms_of sig (scope_of t) t.terms sort))) (range_with_len 0 (length sig.sorts))

-- an atom and its negation
abbrev pub both_signs : Formula → List Formula
both_signs atom = atom ∷ Not atom ∷ []

-- the literals of atoms: each atom and its negation
abbrev pub signed : List Formula → List Formula
signed atoms = flat_map both_signs atoms

abbrev pub literals : Signature → Template → List Formula
literals sig t = signed (atoms sig t)

-- the lists of n of the elements in their order, in lexicographic order of places
abbrev pub choices : {X : Type 0} → ℕ → List X → List (List X)
choices zero xs = [] ∷ []
choices (suc n) [] = []
choices (suc n) (x ∷ xs) = map (λ chosen. x ∷ chosen) (choices n xs) ++ choices (suc n) xs

-- over so many literals, the lists of literals' numbers that make a cube, by length, then lexicographically
abbrev pub cubes_of : ℕ → Template → List (List ℕ)
cubes_of count t = flat_map (λ n. choices n (range_with_len 0 count)) (range_with_len 1 (if t.depth == 1 then 1 else t.literals))

abbrev pub cubes : Signature → Template → List (List ℕ)
cubes sig t = cubes_of (length (literals sig t)) t

-- the increasing lists of the cubes from a number on that have n literals in all, in lexicographic order
abbrev pub bodies_from : ℕ → List (List ℕ) → ℕ → List (List ℕ)
bodies_from at [] zero = [] ∷ []
bodies_from at [] (suc n) = []
bodies_from at (cube ∷ rest) zero = [] ∷ []
bodies_from at (cube ∷ rest) (suc n) =
    (if nat_le (length cube) (suc n) then map (λ body. at ∷ body) (bodies_from (at + 1) rest (suc n - length cube)) else [])
    ++ bodies_from (at + 1) rest (suc n)

-- the classes over cubes, of at most so many literals, in candidate order
abbrev pub classes_of : ℕ → List (List ℕ) → List (List ℕ)
classes_of most cubes = flat_map (bodies_from 0 cubes) (range_with_len 1 most)

abbrev pub classes : Signature → Template → List (List ℕ)
classes sig t = classes_of t.literals (cubes sig t)

-- the formulas of a cube's literals
abbrev pub cube_formulas : List Formula → List (List ℕ) → ℕ → List Formula
cube_formulas atoms cubes c = map (λ n. unwrap_or (slice_get (signed atoms) n) False) (unwrap_or (slice_get cubes c) [])

-- the formula of a class, by its atoms and cubes
abbrev pub formula_by : Template → List Formula → List (List ℕ) → List ℕ → Formula
formula_by t atoms cubes body = template_formula t (map (cube_formulas atoms cubes) body)

abbrev pub formula_of : Signature → Template → List ℕ → Formula
formula_of sig t body = formula_by t (atoms sig t) (cubes sig t) body

-- the classes of n literals whose least cube is c
abbrev pub part_of : List (List ℕ) → ℕ → ℕ → List (List ℕ)
part_of cubes n c = filter (λ body. unwrap_or (slice_get body 0) 0 == c) (bodies_from 0 cubes n)

abbrev pub part : Signature → Template → ℕ → ℕ → List (List ℕ)
part sig t n c = part_of (cubes sig t) n c

-- part (n - 1) * C + c, of C cubes, has the classes of n literals whose least cube is c
abbrev pub parts_of : ℕ → List (List ℕ) → List (List (List ℕ))
parts_of most cubes = flat_map (λ n. map (part_of cubes n) (range_with_len 0 (length cubes))) (range_with_len 1 most)

abbrev pub parts : Signature → Template → List (List (List ℕ))
parts sig t = parts_of t.literals (cubes sig t)
