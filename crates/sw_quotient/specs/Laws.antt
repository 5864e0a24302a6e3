-- Laws of quotients, each the contract of a function of the crate.
use Rattle.std.specs.Prelude.{◌≡◌, ℕ, ◌<◌, true, false, List, Bool, length, slice_index_or}
use Rattle.std.specs.List.{AllByRecursion}
use Rattle.sw_logic.specs.declared.syntax.Formula.{Formula}
use Rattle.sw_logic.specs.declared.syntax.Signature.{Signature}
use Rattle.sw_logic.specs.declared.structure.Structure.{Structure}
use Rattle.sw_logic.specs.Signatures.{is_signature}
use Rattle.sw_logic.specs.Truth.{world, truth, size_of}
use Rattle.sw_refute.specs.Satisfaction.{all_hold}
use Rattle.sw_truth.specs.declared.sets.Piece.{Piece}
use Rattle.sw_truth.specs.declared.sets.SkolemSet.{SkolemSet}
use Rattle.sw_truth.specs.declared.instances.Instance.{Instance}
use Rattle.sw_truth.specs.declared.instances.Ground.{Ground}
use Rattle.sw_truth.specs.Models.{AreOfSorts, IsModel}
use Rattle.sw_truth.specs.Sorting.{IsMatrix}
use Rattle.sw_universe.specs.declared.universe.Universe.{Universe}
use Rattle.sw_universe.specs.ByNumber.{counts}
use Rattle.sw_universe.specs.GroundTerms.{universe_of}
use Rattle.sw_numbers.specs.Numbers.{IsIndexed}
use Rattle.sw_instances.specs.Instances.{IsInstance, AreInstances}
use Rattle.sw_instances.specs.Numbered.{IsGround}
use Rattle.sw_quotient.specs.Terms.{Numbering, numbering, IsClosed}
use Rattle.sw_quotient.specs.Valuations.{Valuation, valuation, ground_truth}
use Rattle.sw_quotient.specs.Truths.{IsTrueInstance, AreEqualitiesTrue, ArePiecesTrue}
use Rattle.sw_quotient.specs.Classes.{class_of, classes}
use Rattle.sw_quotient.specs.Quotient.{IsQuotient}
use Rattle.sw_quotient.specs.Tables.{quotient_of}

-- a matrix is true in the quotient of the classes of terms exactly where it is true of the terms
abbrev pub QuotientAgrees : Type 0
QuotientAgrees =
    (sig : Signature) (n : Numbering) (v : Valuation) (class : ℕ → ℕ → ℕ) (s : Structure) → IsQuotient sig n v class s → IsClosed sig n
    → (scope ts : List ℕ) (f : Formula) → AreOfSorts n.counts scope ts → IsMatrix sig scope f → truth (world sig s s) f (classes class scope ts) ≡ ground_truth sig n v scope f ts

-- the pieces of a set are well sorted and without quantifiers
abbrev pub AreMatricesOf : SkolemSet → Type 0
AreMatricesOf set = AllByRecursion (λ (p : Piece). IsMatrix set.signature p.vars p.matrix) set.pieces

-- where every instance of a piece is true, the quotient is a model
abbrev pub QuotientIsModel : Type 0
QuotientIsModel =
    (set : SkolemSet) (u : Universe) (firsts : List ℕ) (v : Valuation) (class : ℕ → ℕ → ℕ) (s : Structure) → IsQuotient set.signature (numbering u firsts) v class s
    → IsIndexed set.signature u firsts → AreMatricesOf set → ArePiecesTrue set u firsts v → IsModel set s

-- where every instance of equality is true, the structure of least terms is the quotient
abbrev pub QuotientExists : Type 0
QuotientExists =
    (set : SkolemSet) (u : Universe) (firsts : List ℕ) (v : Valuation) → AreEqualitiesTrue set u firsts v → is_signature set.signature ≡ true
    → IsIndexed set.signature u firsts → length (counts u) ≡ length set.signature.sorts → ((sort : ℕ) → sort < length set.signature.sorts → 0 < size_of (counts u) sort)
    → IsQuotient set.signature (numbering u firsts) v (class_of v (counts u)) (quotient_of set.signature (numbering u firsts) v)

-- an assignment that makes the clauses of instances true makes the instances true
abbrev pub ClausesMean : Type 0
ClausesMean =
    (set : SkolemSet) (u : Universe) (firsts : List ℕ) (is : List Instance) (g : Ground) (values : List Bool) → u.lists ≡ universe_of set.signature
    → IsIndexed set.signature u firsts → AreMatricesOf set → AreInstances set u is → IsGround set u is g → all_hold (λ v. slice_index_or values v false) g.cnf.clauses ≡ true
    → AllByRecursion (IsTrueInstance set (numbering u firsts) (valuation g.atoms values)) is
