-- The edges of a formula at each part of it.
use Rattle.std.specs.Prelude.{ℕ, Bool, List, [], ◌∷◌, ◌++◌, map, if◌then◌else◌}
use Rattle.sw_logic.specs.declared.syntax.Binder.{Binder}
use Rattle.sw_logic.specs.declared.syntax.Edge.{Edge}
use Rattle.sw_logic.specs.declared.syntax.Formula.{Formula}
use Rattle.sw_logic.specs.declared.syntax.Formula.TheFolds.{fold-Formula}
use Rattle.sw_logic.specs.Terms.{occurs}
use Rattle.sw_logic.specs.Strata.{Part, part_step, depended, sorts_of, edges_between}

-- the edges of a part, or of its negation, where the variables in scope depend on universal variables of these sorts
abbrev pub edges_in : Formula → Bool → List (List ℕ) → List Edge
edges_in f positive scope = (fold-Formula Part part_step f).edges positive scope

-- the sorts on which a formula depends
abbrev pub sorts_below : List (List ℕ) → Formula → List ℕ
sorts_below scope f = depended (λ x. occurs x f) scope

-- the edges to the variables of a quantifier
abbrev pub edges_to : List (List ℕ) → Bool → List Binder → Formula → List Edge
edges_to scope universal binders f = if universal then [] else edges_between (sorts_below scope f) (sorts_of binders)

-- what the variables in scope and those of a quantifier depend on
abbrev pub scope_below : List (List ℕ) → Bool → List Binder → Formula → List (List ℕ)
scope_below scope universal binders f =
    scope ++ (if universal then map (λ b. b.sort ∷ []) binders else map (λ b. sorts_below scope f) binders)
