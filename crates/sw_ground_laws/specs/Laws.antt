-- That clauses and verdicts are one.
use Rattle.std.specs.Prelude.{◌≡◌, List}
use Rattle.sw_logic.specs.declared.query.Query.{Query}
use Rattle.sw_truth.specs.declared.sets.SkolemSet.{SkolemSet}
use Rattle.sw_truth.specs.declared.instances.Instance.{Instance}
use Rattle.sw_truth.specs.declared.instances.Refutation.{Refutation}
use Rattle.sw_truth.specs.declared.instances.Ground.{Ground}
use Rattle.sw_universe.specs.declared.universe.Universe.{Universe}
use Rattle.sw_instances.specs.Numbered.{IsGround}
use Rattle.sw_ground.specs.declared.check.RefutationVerdict.{RefutationVerdict}
use Rattle.sw_ground.specs.Verdict.{JudgesRefutation}

-- instances have one list of clauses
abbrev pub GroundIsOne : Type 0
GroundIsOne = (set : SkolemSet) (u : Universe) (is : List Instance) (g h : Ground) → IsGround set u is g → IsGround set u is h → g.cnf ≡ h.cnf

-- a refutation has one verdict for its query
abbrev pub RefutationHasOneVerdict : Type 0
RefutationHasOneVerdict = (q : Query) (r : Refutation) (v w : RefutationVerdict) → JudgesRefutation q r v → JudgesRefutation q r w → v ≡ w
