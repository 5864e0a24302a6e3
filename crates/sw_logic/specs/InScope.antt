-- The sorts of the variables in a scope, as one list.
use Rattle.std.specs.Prelude.{ℕ, List}
use Rattle.sw_logic.specs.declared.scopes.Sorts.{Sorts, Free, Bound'}
use Rattle.sw_logic.specs.Sorted.{extended}

-- the sorts of the variables in scope, outermost first
abbrev pub sorts_in : Sorts → List ℕ
sorts_in (Free sorts) = sorts.now
sorts_in (Bound' p outer binders) = extended (sorts_in outer) binders.now
