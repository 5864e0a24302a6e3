-- What the decision of a query says.
use Rattle.std.specs.Prelude.{◌≡◌, ◌⊎◌, ◌↔◌, ◌<◌, ◌≤◌, ◌+◌, ℕ, Option, IfSome, length}
use Rattle.sw_logic.specs.declared.structure.Structure.{Structure}
use Rattle.sw_logic.specs.declared.query.Query.{Query}
use Rattle.sw_logic.specs.Queries.{Satisfies}
use Rattle.sw_sat.specs.Answers.{IsSpent}
use Rattle.sw_truth.specs.declared.instances.Ground.{Ground}
use Rattle.sw_truth.specs.declared.instances.Refutation.{Refutation}
use Rattle.sw_truth.specs.declared.limits.TheConstants.{MOST_TERMS, MOST_INSTANCES}
use Rattle.sw_truth.specs.declared.sets.SkolemSet.{SkolemSet}
use Rattle.sw_universe.specs.declared.universe.Universe.{Universe}
use Rattle.sw_universe.specs.declared.sizes.Size.{Size}
use Rattle.sw_universe.specs.Sizes.{size_of_set}
use Rattle.sw_skolem.specs.Skolem.{skolem_of}
use Rattle.sw_instances.specs.AllInstances.{instances_of}
use Rattle.sw_instances.specs.Instances.{AreInstances}
use Rattle.sw_instances.specs.Numbered.{IsGround}
use Rattle.sw_ground.specs.Verdict.{universe, AcceptedRefutation}
use Rattle.sw_decide.specs.declared.decision.Decision.{Decision}
use Rattle.sw_decide.specs.declared.decision.Decision.TheVariants.{Refuted, Found, Spent, TooLarge}

-- the ground terms and instances of the Skolem form of a query
abbrev pub size_of_query : Query → Size
size_of_query q = size_of_set (skolem_of q)

-- more ground terms or more instances than are decided
abbrev pub IsPast : Size → Type 0
IsPast size = (MOST_TERMS < size.terms) ⊎ (MOST_INSTANCES < size.instances)

-- an accepted refutation, with no more steps before its last than the budget allows
pub record IsRefutationOf (q : Query) (budget : Option ℕ) (r : Refutation) : Type 0 where
  pub accepted : AcceptedRefutation q r
  pub within : IfSome budget (λ most. length r.steps ≤ most + 1)

-- all instances, and as many steps after their clauses as the budget allows: accepted and nonempty, and none contains a clause that stood before it
pub record IsSpentOver (set : SkolemSet) (u : Universe) (budget : Option ℕ) (r : Refutation) : Type 0 where
  pub ground : Ground
  pub all : r.instances ≡ instances_of set u
  pub instances : AreInstances set u r.instances
  pub made : IsGround set u r.instances ground
  pub steps : IsSpent ground.cnf budget r.steps

-- those of the query
abbrev pub IsSpentOn : Query → Option ℕ → Refutation → Type 0
IsSpentOn q budget r = IsSpentOver (skolem_of q) (universe (skolem_of q)) budget r

-- what each answer carries
abbrev pub Decides : Query → Option ℕ → Decision → Type 0
Decides q budget (Refuted r) = IsRefutationOf q budget r
Decides q budget (Found s) = Satisfies q s
Decides q budget (Spent r) = IsSpentOn q budget r
Decides q budget (TooLarge size) = size ≡ size_of_query q

abbrev pub IsRefuted : Decision → Type 0
IsRefuted (Refuted r) = Unit {0}
IsRefuted (Found s) = ⊥
IsRefuted (Spent r) = ⊥
IsRefuted (TooLarge size) = ⊥

abbrev pub IsFound : Decision → Type 0
IsFound (Refuted r) = ⊥
IsFound (Found s) = Unit {0}
IsFound (Spent r) = ⊥
IsFound (TooLarge size) = ⊥

abbrev pub IsSpentAnswer : Decision → Type 0
IsSpentAnswer (Refuted r) = ⊥
IsSpentAnswer (Found s) = ⊥
IsSpentAnswer (Spent r) = Unit {0}
IsSpentAnswer (TooLarge size) = ⊥

abbrev pub IsTooLarge : Decision → Type 0
IsTooLarge (Refuted r) = ⊥
IsTooLarge (Found s) = ⊥
IsTooLarge (Spent r) = ⊥
IsTooLarge (TooLarge size) = Unit {0}

-- some finite structure satisfies the query, and none does
abbrev pub HasStructure : Query → Type 0
HasStructure q = (s : Structure) × Satisfies q s

abbrev pub HasNoStructure : Query → Type 0
HasNoStructure q = (s : Structure) → Satisfies q s → ⊥

-- but for a budget that was spent and a query that is too large, the answer is refuted exactly where there is no structure, and found exactly where there is one
abbrev pub IsExact : Query → Decision → Type 0
IsExact q d = IsSpentAnswer d ⊎ (IsTooLarge d ⊎ ((IsRefuted d ↔ HasNoStructure q) × (IsFound d ↔ HasStructure q)))
