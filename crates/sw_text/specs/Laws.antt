-- Laws about what is read.
use Rattle.std.specs.Prelude.{◌≡◌, ◌+◌, ◌≤◌, [], length, map, true, Ok}
use Rattle.sw_logic.specs.declared.syntax.Binder.{Binder}
use Rattle.sw_logic.specs.declared.syntax.Formula.{Formula}
use Rattle.sw_logic.specs.declared.variables.TheConstants.{VARIABLES}
use Rattle.sw_logic.specs.Truth.{binds}
use Rattle.sw_logic.specs.Sorted.{well_sorted}
use Rattle.sw_trees.specs.declared.tree.Tree.{Tree}
use Rattle.sw_text.specs.Texts.{HasFormula}
use Rattle.sw_text.specs.Names.{Around, Scope, reads_post, faults, formula_read}

-- what breaks no rule on names and sorts is well sorted; primes are allowed where the place is a transition's
abbrev pub ReadIsWellSorted : Type 0
ReadIsWellSorted =
    (a : Around) (tree : Tree) (scope : Scope) → faults a tree scope ≡ []
    → well_sorted a.signature (reads_post a.place) (formula_read a tree scope) (map (λ (b : Binder). b.sort) scope) ≡ true

-- what is read has at most as many variables in scope as may be, with those around it
abbrev pub ReadBindsFew : Type 0
ReadBindsFew = (a : Around) (scope : Scope) (f : Formula) → length scope ≤ VARIABLES → HasFormula a scope (Ok f) → length scope + binds f ≤ VARIABLES
