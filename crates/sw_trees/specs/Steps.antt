-- What the functions of the machine answer.
use Rattle.std.specs.Prelude.{◌≡◌, Bool, true, false, List, ◌∷◌, Option, Some, None}
use Rattle.sw_trees.specs.declared.tree.Tree.{Tree}
use Rattle.sw_trees.specs.declared.frames.Frame.{Frame}
use Rattle.sw_trees.specs.declared.machine.State.{State}
use Rattle.sw_trees.specs.declared.machine.Step.{Step}
use Rattle.sw_trees.specs.Machine.{double, end, finish}

-- the state that comes next; or there is none, and the state ends in what the one before ended in
abbrev pub Answers : Option State → Option Tree → Step → Type 0
Answers next whole (Step.Taken s) = next ≡ Some s
Answers next whole (Step.Refused s) = (next ≡ None) × (finish s ≡ whole)

-- where a <-> goes, and what stands to its left; or it goes nowhere, and the whole is the same
abbrev pub DoublesBy : Option (List Frame × Tree) → Option Tree → List Frame → Tree → Bool → Type 0
DoublesBy next whole fs y true = next ≡ Some (fs, y)
DoublesBy next whole fs y false = (next ≡ None) × (end fs y ≡ whole)

abbrev pub Doubles : List Frame → Tree → List Frame → Bool × Tree → Type 0
Doubles old y new answer = DoublesBy (double old y) (end old y) new answer.1 answer.0

-- what the innermost frame is
abbrev pub first_is_side : List Frame → Bool
first_is_side (Frame.Side x ∷ fs) = true
first_is_side _ = false

abbrev pub first_is_body : List Frame → Bool
first_is_body (Frame.Body u bs ∷ fs) = true
first_is_body _ = false

abbrev pub first_is_bracket : List Frame → Bool
first_is_bracket (Frame.Bracket ∷ fs) = true
first_is_bracket _ = false

-- a bracket was innermost and is ended, or nothing is changed
abbrev pub EndsBracket : Bool → List Frame → List Frame → Type 0
EndsBracket true old new = old ≡ Frame.Bracket ∷ new
EndsBracket false old new = (new ≡ old) × (first_is_bracket old ≡ false)
