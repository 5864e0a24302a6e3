-- What the code that makes pieces computes.
use Rattle.std.specs.Prelude.{◌≡◌, ℕ, ◌+◌, List, ◌++◌, length, map}
use Rattle.sw_logic.specs.declared.syntax.Binder.{Binder}
use Rattle.sw_logic.specs.declared.syntax.Term.{Term}
use Rattle.sw_logic.specs.declared.syntax.Formula.{Formula}
use Rattle.sw_truth.specs.declared.sets.Piece.{Piece}
use Rattle.sw_skolem.specs.Pieces.{Pulled, PulledAll, pulled_all, part_of, whole}

-- a formula with its quantifiers pulled out
abbrev pub pulled_in : Formula → List Term → ℕ → Pulled
pulled_in f = (part_of f).pulled

-- formulas with their quantifiers pulled out, from left to right
abbrev pub pulled_all_in : List Formula → List Term → ℕ → PulledAll
pulled_all_in fs = pulled_all (map part_of fs)

-- a formula `g` is `f` without its quantifiers, behind `vars` pulled out before; `after` are the sorts pulled out by then
pub record IsPulled (f : Formula) (terms : List Term) (first : ℕ) (vars : List ℕ) (g : Formula) (after : List ℕ) : Type 0 where
  pub formula : g ≡ (pulled_in f terms (first + length vars)).formula
  pub sorts : after ≡ vars ++ (pulled_in f terms (first + length vars)).vars

-- the same of lists of formulas
pub record ArePulled (fs : List Formula) (terms : List Term) (first : ℕ) (vars : List ℕ) (gs : List Formula) (after : List ℕ) : Type 0 where
  pub formulas : gs ≡ (pulled_all_in fs terms (first + length vars)).formulas
  pub sorts : after ≡ vars ++ (pulled_all_in fs terms (first + length vars)).vars

abbrev pub sorts_of : List Binder → List ℕ
sorts_of binders = map (λ b. b.sort) binders

-- a formula as one piece
abbrev pub one_piece : ℕ → Formula → List Piece
one_piece n f = whole (pulled_in f) n
