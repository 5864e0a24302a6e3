-- Laws of the Skolem form, each the contract of a function of the crate.
use Rattle.std.specs.Prelude.{◌≡◌, ℕ, ◌<◌, Bool, true, false, not, List, map, length}
use Rattle.std.specs.List.{AllByRecursion}
use Rattle.sw_logic.specs.declared.syntax.Formula.{Formula}
use Rattle.sw_logic.specs.declared.structure.Structure.{Structure}
use Rattle.sw_logic.specs.Truth.{World, truth}
use Rattle.sw_logic.specs.Sorted.{well_sorted}
use Rattle.sw_logic.specs.declared.query.Query.{Query}
use Rattle.sw_truth.specs.declared.sets.Piece.{Piece}
use Rattle.sw_truth.specs.Sorting.{IsMatrix}
use Rattle.sw_logic.specs.declared.query.Polar.{Polar}
use Rattle.sw_skolem.specs.Normal.{IsNormal}
use Rattle.sw_skolem.specs.Absorbing.{plain_nnf_of}
use Rattle.sw_skolem.specs.Skolem.{skolem_of}
use Rattle.sw_truth.specs.Models.{is_bare}
use Rattle.sw_logic.specs.Queries.{Satisfies}
use Rattle.sw_truth.specs.Models.{IsModel, Expands, restricted}
use Rattle.sw_logic.specs.Signatures.{is_signature}
use Rattle.sw_logic.specs.Queries.{IsQuery}
use Rattle.sw_logic.specs.Strata.{AreRanks, edges_of, function_edges}

-- the truth of a formula, or of its negation
abbrev pub signed_truth : Bool → Bool → Bool
signed_truth true b = b
signed_truth false b = not b

-- the negation normal form is true exactly where the formula, or its negation, is
abbrev pub NnfKeepsTruth : Type 0
NnfKeepsTruth = (w : World) (f : Formula) (positive : Bool) (env : List ℕ) → truth w (plain_nnf_of f positive) env ≡ signed_truth positive (truth w f env)

-- in it only atoms are negated, and there are no implications
abbrev pub NnfIsNormal : Type 0
NnfIsNormal = (f : Formula) (positive : Bool) → IsNormal (plain_nnf_of f positive)

-- a structure of the query expands to one of its Skolem form
abbrev pub SkolemExpands : Type 0
SkolemExpands = (q : Query) (s : Structure) → IsQuery q → Satisfies q s → (t : Structure) × Expands s t × IsModel (skolem_of q) t

-- a structure of the Skolem form restricts to one of the query
abbrev pub SkolemRestricts : Type 0
SkolemRestricts = (q : Query) (t : Structure) → IsQuery q → IsModel (skolem_of q) t → Satisfies q (restricted q.signature t)

-- the Skolem form has a signature whose every sort has a ground term, and its pieces are well sorted and without quantifiers
pub record IsWellFormed (q : Query) : Type 0 where
  pub signature : is_signature (skolem_of q).signature ≡ true
  pub sorts : (skolem_of q).signature.sorts ≡ q.signature.sorts
  pub none_bare : (sort : ℕ) → sort < length q.signature.sorts → is_bare (skolem_of q).signature.symbols sort ≡ false
  pub pieces : AllByRecursion (λ (p : Piece). well_sorted (skolem_of q).signature false p.matrix p.vars ≡ true) (skolem_of q).pieces
  pub matrices : AllByRecursion (λ (p : Piece). IsMatrix (skolem_of q).signature p.vars p.matrix) (skolem_of q).pieces

abbrev pub SkolemIsWellFormed : Type 0
SkolemIsWellFormed = (q : Query) → IsQuery q → IsWellFormed q

abbrev pub asserted : List Formula → List Polar
asserted fs = map (λ f. record { formula = f; positive = true }) fs

-- ranks that rise along the edges of a query's signature and sentences rise along the Skolem functions
abbrev pub SkolemKeepsStrata : Type 0
SkolemKeepsStrata = (q : Query) (ranks : List ℕ) → IsQuery q → AreRanks (length q.signature.sorts) (edges_of q.signature (asserted q.sentences)) ranks
    → AreRanks (length q.signature.sorts) (function_edges (skolem_of q).signature.symbols) ranks
