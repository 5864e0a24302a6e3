-- Structures of a Skolem form, and how they grow out of structures of the query.
use Rattle.std.specs.Prelude.{Bool, not, ◌&&◌, ◌==◌, ◌≡◌, ℕ, ◌<◌, true, List, [], ◌∷◌, ◌++◌, length, take}
use Rattle.std.specs.List.{list_any, AllByRecursion}
use Rattle.sw_logic.specs.declared.structure.Table.{Table}
use Rattle.sw_logic.specs.declared.structure.Structure.{Structure}
use Rattle.sw_logic.specs.declared.syntax.Signature.{Signature}
use Rattle.sw_logic.specs.Truth.{size_of, truth, world}
use Rattle.sw_logic.specs.Fits.{fits}
use Rattle.sw_truth.specs.declared.sets.Piece.{Piece}
use Rattle.sw_truth.specs.declared.sets.SkolemSet.{SkolemSet}
use Rattle.sw_logic.specs.declared.syntax.Symbol.{Symbol}
use Rattle.sw_logic.specs.Sorted.{gives_value}

-- one value below the size for each sort
abbrev pub AreOfSorts : List ℕ → List ℕ → List ℕ → Type 0
AreOfSorts sizes [] [] = Unit {0}
AreOfSorts sizes [] (v ∷ vs) = ⊥
AreOfSorts sizes (sort ∷ sorts) [] = ⊥
AreOfSorts sizes (sort ∷ sorts) (v ∷ vs) = (v < size_of sizes sort) × AreOfSorts sizes sorts vs

-- the piece is true at every choice of values of its variables
abbrev pub IsTruePiece : Signature → Structure → Piece → Type 0
IsTruePiece sig s piece = (vs : List ℕ) → AreOfSorts s.sizes piece.vars vs → truth (world sig s s) piece.matrix vs ≡ true

-- the structure fits, and every piece is true in it
pub record IsModel (set : SkolemSet) (s : Structure) : Type 0 where
  pub fits : fits set.signature s ≡ true
  pub pieces : AllByRecursion (IsTruePiece set.signature s) set.pieces

-- the second structure is the first with more tables behind its own
pub record Expands (s t : Structure) : Type 0 where
  pub more : List Table
  pub sizes : t.sizes ≡ s.sizes
  pub tables : t.tables ≡ s.tables ++ more

-- the structure with the first tables alone
abbrev pub restricted : Signature → Structure → Structure
restricted sig s = record { sizes = s.sizes; tables = take (length sig.symbols) s.tables }

-- whether no symbol gives a value of the sort, so that it has no ground term
abbrev pub is_bare : List Symbol → ℕ → Bool
is_bare symbols sort = not (list_any (λ s. gives_value s.kind && (s.gives == sort)) symbols)
