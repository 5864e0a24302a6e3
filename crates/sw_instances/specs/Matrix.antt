-- The clauses of a matrix with ground terms in the place of its variables, with a new variable for each
-- inner part that is no literal (after Tseitin, and Plaisted and Greenbaum: from the variable to its part).
use Rattle.std.specs.Prelude.{ℕ, ◌+◌, List, [], ◌∷◌, ◌++◌, map}
use Rattle.std.specs.List.{flat_map}
use Rattle.sw_logic.specs.declared.syntax.Term.{Term}
use Rattle.sw_logic.specs.declared.syntax.Formula.{Formula}
use Rattle.sw_logic.specs.declared.syntax.Formula.TheOpen.{Formula-F}
use Rattle.sw_logic.specs.declared.syntax.Formula.TheFolds.{fold-Formula}
use Rattle.sw_logic.specs.Terms.{put}
use Rattle.sw_instances.specs.Named.{related, equated, inner, Literal, plain, opposite}

-- what a part of a matrix is in clauses: its literal; the clauses that say what its new variables imply;
-- and its clauses where it stands at the top
pub record Encoded : Type 0 where
  pub literal : Literal
  pub inside : List (List Literal)
  pub top : List (List Literal)

-- a literal
abbrev pub literal_part : Literal → Encoded
literal_part l = record { literal = l; inside = []; top = (l ∷ []) ∷ [] }

-- the new variable of the part at a path
abbrev pub new : List ℕ → Literal
new path = plain (inner path)

-- the parts, each at the path of the whole and its number
abbrev pub parts_at : List ℕ → ℕ → List (List ℕ → Encoded) → List Encoded
parts_at path k [] = []
parts_at path k (p ∷ ps) = p (path ++ k ∷ []) ∷ parts_at path (k + 1) ps

abbrev pub negated : Encoded → Encoded
negated p = record { literal = opposite p.literal; inside = p.inside; top = (opposite p.literal ∷ []) ∷ p.inside }

-- a conjunction: its variable implies each part
abbrev pub conjunction : List ℕ → List Encoded → Encoded
conjunction path ps = record {
  literal = new path;
  inside = map (λ p. opposite (new path) ∷ p.literal ∷ []) ps ++ flat_map (λ p. p.inside) ps;
  top = flat_map (λ p. p.top) ps;
}

-- a disjunction: its variable implies some part
abbrev pub disjunction : List ℕ → List Encoded → Encoded
disjunction path ps = record {
  literal = new path;
  inside = (opposite (new path) ∷ map (λ p. p.literal) ps) ∷ flat_map (λ p. p.inside) ps;
  top = map (λ p. p.literal) ps ∷ flat_map (λ p. p.inside) ps;
}

-- what a matrix does not have: a variable of its own, of which nothing is said
abbrev pub opaque : List ℕ → Encoded
opaque path = record { literal = new path; inside = []; top = (new path ∷ []) ∷ [] }

abbrev pub encode_step : List Term → Formula-F (List ℕ → Encoded) → List ℕ → Encoded
encode_step terms Formula-F.True path = record { literal = new path; inside = []; top = [] }
encode_step terms Formula-F.False path = record { literal = new path; inside = (opposite (new path) ∷ []) ∷ []; top = [] ∷ [] }
encode_step terms (Formula-F.Holds symbol post args) path = literal_part (plain (related symbol (map (put terms) args)))
encode_step terms (Formula-F.Equal a b) path = literal_part (plain (equated (put terms a) (put terms b)))
encode_step terms (Formula-F.Not p) path = negated (p (path ++ 0 ∷ []))
encode_step terms (Formula-F.All ps) path = conjunction path (parts_at path 0 ps)
encode_step terms (Formula-F.Any ps) path = disjunction path (parts_at path 0 ps)
encode_step terms (Formula-F.Implies p q) path = opaque path
encode_step terms (Formula-F.Iff p q) path = opaque path
encode_step terms (Formula-F.ForAll binders p) path = opaque path
encode_step terms (Formula-F.Exists binders p) path = opaque path

abbrev pub encoded : List Term → Formula → List ℕ → Encoded
encoded terms = fold-Formula (List ℕ → Encoded) (encode_step terms)

-- the clauses of a matrix whose parts have this path before their own
abbrev pub matrix_clauses : List Term → Formula → List ℕ → List (List Literal)
matrix_clauses terms matrix path = (encoded terms matrix path).top
