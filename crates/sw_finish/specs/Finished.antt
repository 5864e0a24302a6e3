-- What the finisher answers.
use Rattle.std.specs.Prelude.{◌≡◌, ℕ, List, [], ◌∷◌, length, Option}
use Rattle.sw_logic.specs.declared.syntax.Formula.{Formula}
use Rattle.sw_core.specs.declared.record.Record.{Record}
use Rattle.sw_core.specs.Machine.{Search, formula_in, parts_in}
use Rattle.sw_core.specs.Gathered.{Outcome, AreOutcomes, record_of}
use Rattle.sw_join.specs.Joining.{IsJoined}
use Rattle.sw_walk.specs.Parts.{all_classes, IsClass}
use Rattle.sw_seek.specs.Seeking.{IsFirstJoined, NoneJoins}
use Rattle.sw_finish.specs.declared.finishing.Finished.{Finished}
use Rattle.sw_finish.specs.declared.finishing.Finished.TheVariants.{Joined, Exhausted}

-- the record is gathered of one whole round, which covers every part under the entries
pub record IsGathered (m : Search) (g : List Formula) (r : Record) : Type 0 where
  pub outcome : Outcome
  pub is : r ≡ record_of (length g) (outcome ∷ [])
  pub whole : AreOutcomes m g [] (outcome ∷ [])

-- a class that joins with what shows it, with one worker the first in order; or the record of a round that leaves none
abbrev pub IsFinished : Search → List Formula → Option ℕ → Finished → Type 0
IsFinished m g budget (Joined body r rs) =
    IsClass (parts_in m) body × IsJoined m.protocol g (formula_in m body.cubes) budget r rs
    × (m.workers ≡ 1 → IsFirstJoined m.protocol m.template g (all_classes (parts_in m)) body.cubes)
IsFinished m g budget (Exhausted record_) = IsGathered m g record_ × NoneJoins m.protocol m.template g (all_classes (parts_in m))
