-- Laws of instances and their clauses, each the contract of a function of the crate.
use Rattle.std.specs.Prelude.{◌≡◌, true, List}
use Rattle.std.specs.List.{list_all}
use Rattle.sw_logic.specs.declared.structure.Structure.{Structure}
use Rattle.sw_logic.specs.Truth.{world}
use Rattle.sw_logic.specs.Signatures.{is_signature}
use Rattle.sw_refute.specs.Satisfaction.{AreUnsatisfiable, IsWellFormed}
use Rattle.sw_truth.specs.declared.sets.SkolemSet.{SkolemSet}
use Rattle.sw_truth.specs.declared.instances.Instance.{Instance}
use Rattle.sw_truth.specs.declared.instances.Ground.{Ground}
use Rattle.sw_truth.specs.Models.{IsModel}
use Rattle.sw_universe.specs.declared.universe.Universe.{Universe}
use Rattle.sw_universe.specs.GroundTerms.{universe_of}
use Rattle.sw_instances.specs.Named.{named_holds}
use Rattle.sw_instances.specs.Instances.{AreInstances, clauses_from}
use Rattle.sw_instances.specs.Numbered.{IsGround}
use Rattle.sw_instances.specs.Values.{name_holds}

-- in a model of the set every clause of every instance is true
abbrev pub InstancesHold : Type 0
InstancesHold =
    (set : SkolemSet) (u : Universe) (is : List Instance) (s : Structure) → is_signature set.signature ≡ true → u.lists ≡ universe_of set.signature
    → AreInstances set u is → IsModel set s → list_all (named_holds (name_holds (world set.signature s s) set u is)) (clauses_from set u 0 is) ≡ true

-- where the clauses of instances cannot all be true, the set has no model
abbrev pub UnsatisfiableLeavesNoModel : Type 0
UnsatisfiableLeavesNoModel =
    (set : SkolemSet) (u : Universe) (is : List Instance) (g : Ground) → is_signature set.signature ≡ true → u.lists ≡ universe_of set.signature
    → AreInstances set u is → IsGround set u is g → AreUnsatisfiable g.cnf.clauses → (s : Structure) → IsModel set s → ⊥

-- the clauses of instances are over their variables
abbrev pub GroundIsWellFormed : Type 0
GroundIsWellFormed = (set : SkolemSet) (u : Universe) (is : List Instance) (g : Ground) → IsGround set u is g → IsWellFormed g.cnf
