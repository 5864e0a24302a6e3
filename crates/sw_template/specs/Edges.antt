-- The edges between sorts that a template's prefix gives.
use Rattle.std.specs.Prelude.{not, List, [], ◌∷◌, ◌++◌, map}
use Rattle.std.specs.List.{filter}
use Rattle.sw_logic.specs.declared.syntax.Edge.{Edge}
use Rattle.sw_logic.specs.Strata.{edge}
use Rattle.sw_meaning.specs.declared.template.Run.{Run}
use Rattle.sw_meaning.specs.declared.template.Template.{Template}
use Rattle.sw_meaning.specs.Space.{same_quantifier}

-- an edge from the run's sort to the sort of each of these of the other quantifier
abbrev pub edges_to : Run → List Run → List Edge
edges_to run later = map (λ other. edge run.sort other.sort) (filter (λ other. not (same_quantifier run.universal other.universal)) later)

-- an edge from each run's sort to the sort of each later run of the other quantifier
abbrev pub edges_along : List Run → List Edge
edges_along [] = []
edges_along (run ∷ later) = edges_to run later ++ edges_along later

abbrev pub template_edges : Template → List Edge
template_edges t = edges_along t.prefix
