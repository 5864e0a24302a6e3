-- The laws of a template's formulas.
use Rattle.std.specs.Prelude.{◌≡◌, Bool, Contains}
use Rattle.std.specs.List.{AllByRecursion}
use Rattle.sw_logic.specs.declared.syntax.Formula.{Formula}
use Rattle.sw_logic.specs.Strata.{formula_edges}
use Rattle.sw_logic.specs.Truth.{binds}
use Rattle.sw_meaning.specs.declared.protocol.Protocol.{Protocol}
use Rattle.sw_meaning.specs.declared.template.Template.{Template}
use Rattle.sw_meaning.specs.Space.{InSpace}
use Rattle.sw_template.specs.Edges.{template_edges}
use Rattle.sw_template.specs.Prefix.{variable_count}

-- what a formula of the template, or its negation, adds is among these
abbrev pub FormulasAddTheseEdges : Type 0
FormulasAddTheseEdges = (p : Protocol) (t : Template) (f : Formula) (positive : Bool) → InSpace p t f → AllByRecursion (Contains (template_edges t)) (formula_edges f positive)

-- as many variables are in scope in it as the prefix has
abbrev pub FormulasBindFew : Type 0
FormulasBindFew = (p : Protocol) (t : Template) (f : Formula) → InSpace p t f → binds f ≡ variable_count t.prefix
