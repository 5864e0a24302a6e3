-- Which refutations are accepted, and where one is refused.
use Rattle.std.specs.Prelude.{◌≡◌, ◌<◌, ℕ, ◌+◌, true, false, List, take, length, Some, slice_get}
use Rattle.std.specs.List.{AllByRecursion, range_with_len, sum_by}
use Rattle.sw_logic.specs.Sorted.{well_sorted}
use Rattle.sw_refute.specs.Propagation.{AreAccepted, EndsEmpty}
use Rattle.sw_refute.specs.Verdict.{IsFirstRefused}
use Rattle.sw_logic.specs.declared.query.Query.{Query}
use Rattle.sw_truth.specs.declared.sets.Piece.{Piece}
use Rattle.sw_truth.specs.declared.sets.SkolemSet.{SkolemSet}
use Rattle.sw_universe.specs.declared.universe.Universe.{Universe}
use Rattle.sw_truth.specs.declared.instances.Instance.{Instance}
use Rattle.sw_truth.specs.declared.instances.Refutation.{Refutation}
use Rattle.sw_truth.specs.declared.instances.Ground.{Ground}
use Rattle.sw_skolem.specs.Skolem.{skolem_of}
use Rattle.sw_skolem.specs.Laws.{asserted}
use Rattle.sw_logic.specs.declared.structure.Structure.{Structure}
use Rattle.sw_logic.specs.Strata.{AreRanks, IsStratified, edges_of}
use Rattle.sw_logic.specs.Queries.{IsQuery, Satisfies}
use Rattle.sw_logic.specs.Signatures.{is_signature}
use Rattle.sw_universe.specs.GroundTerms.{universe_of, term_count}
use Rattle.sw_ground.specs.declared.check.RefutationVerdict.{RefutationVerdict}
use Rattle.sw_ground.specs.declared.check.RefutationVerdict.TheVariants.{Accepted, Refused}
use Rattle.sw_instances.specs.Instances.{IsInstance, AreInstances}
use Rattle.sw_instances.specs.Numbered.{IsGround}

-- what a set and its universe owe for their instances to have clauses
pub record IsPrepared (set : SkolemSet) (u : Universe) : Type 0 where
  pub signature : is_signature set.signature ≡ true
  pub strata : IsStratified set.signature
  pub pieces : AllByRecursion (λ (p : Piece). well_sorted set.signature false p.matrix p.vars ≡ true) set.pieces
  pub universe : u.lists ≡ universe_of set.signature

-- the instances before this one are there, and this one is not
pub record IsFirstMissing (set : SkolemSet) (u : Universe) (is : List Instance) (k : ℕ) : Type 0 where
  pub within : k < length is
  pub before : AreInstances set u (take k is)
  pub here : (i : Instance) → slice_get is k ≡ Some i → IsInstance set u i → ⊥

module _ (set : SkolemSet) (u : Universe) (r : Refutation) where
  -- instances that there are, steps that are accepted after their clauses, and an empty clause at the end
  pub record Accepts : Type 0 where
    pub ground : Ground
    pub instances : AreInstances set u r.instances
    pub made : IsGround set u r.instances ground
    pub steps : AreAccepted ground.cnf.variables ground.cnf.clauses r.steps
    pub empty : EndsEmpty r.steps

  -- the first place that fails: an instance that there is not; a step; or, behind the last step, the end
  pub data Refuses : ℕ → Type 0 where
    instance : (k : ℕ) → IsFirstMissing set u r.instances k → Refuses k
    step : (k : ℕ) (g : Ground) → AreInstances set u r.instances → IsGround set u r.instances g → IsFirstRefused g.cnf r.steps k → Refuses (length r.instances + k)
    end : (g : Ground) → AreInstances set u r.instances → IsGround set u r.instances g → AreAccepted g.cnf.variables g.cnf.clauses r.steps → (EndsEmpty r.steps → ⊥)
        → Refuses (length r.instances + length r.steps)

  abbrev pub JudgesOver : RefutationVerdict → Type 0
  JudgesOver Accepted = Accepts
  JudgesOver (Refused place) = Refuses place

-- the universe of a set
abbrev pub universe : SkolemSet → Universe
universe set = record { lists = universe_of set.signature }

-- accepted for a query: over its Skolem form and the ground terms of that
abbrev pub AcceptedRefutation : Query → Refutation → Type 0
AcceptedRefutation q r = Accepts (skolem_of q) (universe (skolem_of q)) r

abbrev pub JudgesRefutation : Query → Refutation → RefutationVerdict → Type 0
JudgesRefutation q r v = JudgesOver (skolem_of q) (universe (skolem_of q)) r v

-- some ranks of the sorts rise along the edges of the query's signature and sentences
pub record IsStratifiedQuery (q : Query) : Type 0 where
  pub ranks : List ℕ
  pub are : AreRanks (length q.signature.sorts) (edges_of q.signature (asserted q.sentences)) ranks

-- how many ground terms the Skolem form of a query has
abbrev pub terms_of_query : Query → ℕ
terms_of_query q = let sig = (skolem_of q).signature in sum_by (term_count sig) (range_with_len 0 (length sig.sorts))

-- an accepted refutation leaves no structure that satisfies the query
abbrev pub AcceptedLeavesNoStructure : Type 0
AcceptedLeavesNoStructure = (q : Query) (r : Refutation) → IsQuery q → AcceptedRefutation q r → (s : Structure) → Satisfies q s → ⊥
