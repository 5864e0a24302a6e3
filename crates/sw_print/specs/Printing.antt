-- The names of the variables in a scope, as one list, and which formulas stand in brackets.
use Rattle.std.specs.Prelude.{Bool, true, false, ℕ, List, ◌++◌}
use Rattle.sw_logic.specs.declared.syntax.Formula.{Formula}
use Rattle.sw_logic.specs.declared.syntax.Formula.TheOpen.{Formula-F}
use Rattle.sw_logic.specs.declared.syntax.Formula.TheFolds.{fold-Formula}
use Rattle.sw_logic.specs.Canonical.{names_of}
use Rattle.sw_print.specs.declared.formulas.Variables.{Variables, Free, Bound'}

-- the names of the variables in scope, outermost first
abbrev pub names_in : Variables → List (List ℕ)
names_in (Free binders) = names_of binders.now
names_in (Bound' p outer binders) = names_in outer ++ names_of binders.now

abbrev pub brackets_step : Formula-F Bool → Bool
brackets_step Formula-F.True = false
brackets_step Formula-F.False = false
brackets_step (Formula-F.Holds symbol post args) = false
brackets_step (Formula-F.Equal a b) = false
brackets_step (Formula-F.Not p) = false
brackets_step (Formula-F.All ps) = true
brackets_step (Formula-F.Any ps) = true
brackets_step (Formula-F.Implies p q) = true
brackets_step (Formula-F.Iff p q) = true
brackets_step (Formula-F.ForAll binders p) = true
brackets_step (Formula-F.Exists binders p) = true

-- whether a formula stands in brackets as an operand
abbrev pub needs_brackets : Formula → Bool
needs_brackets = fold-Formula Bool brackets_step
