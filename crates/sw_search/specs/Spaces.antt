-- When the formula of a class can be read, and over which spaces there is a search.
use Rattle.std.specs.Prelude.{◌≡◌, ◌≤◌, ◌^◌, length, List, Option, Some, None, IfSome}
use Rattle.std.specs.List.{AllByRecursion}
use Rattle.sw_logic.specs.declared.syntax.Edge.{Edge}
use Rattle.sw_logic.specs.Truth.{binds}
use Rattle.sw_meaning.specs.declared.protocol.Protocol.{Protocol}
use Rattle.sw_meaning.specs.declared.template.Template.{Template}
use Rattle.sw_meaning.specs.Edges.{IsStratifiedWith}
use Rattle.sw_query_laws.specs.Edges.{AreAmong}
use Rattle.sw_cover.specs.Laws.{IsOver}
use Rattle.sw_template.specs.Bodies.{Class, AreCubes}
use Rattle.sw_template.specs.Edges.{template_edges}
use Rattle.sw_template.specs.Prefix.{variable_count}
use Rattle.sw_enumerate.specs.Spaces.{Made, IsSpaceOf, classes_in, parts_in, formula_in}

-- the class is of the space's cubes, whose atoms have no quantifiers, under few variables
pub record IsReadable (s : Made) (c : Class) : Type 0 where
  pub cubes : AreCubes s.cubes c.cubes
  pub flat : AllByRecursion (λ f. binds f ≡ 0) s.atoms
  pub variables : variable_count s.template.prefix ≤ 6
  pub few : binds (formula_in s c.cubes) ≤ 32

-- the space is that of its template in the protocol, over sorts that there are and within the limits, and its edges are among these
pub record IsSearchable (p : Protocol) (extra : List Edge) (s : Made) : Type 0 where
  pub made : IsSpaceOf p.signature s.template s
  pub over : IsOver p.signature s.template
  pub variables : variable_count s.template.prefix ≤ 6
  pub few : length (classes_in s) ≤ 2 ^ 32
  pub parts : length (parts_in s) ≤ 8589934592
  pub edges : AreAmong (template_edges s.template) extra

-- the spaces can be searched, and with the edges of both the protocol's have ranks
pub record CanSearch (p : Protocol) (first last : Option Made) : Type 0 where
  pub extra : List Edge
  pub stratified : IsStratifiedWith p extra
  pub breadth : IfSome first (IsSearchable p extra)
  pub finish : IfSome last (IsSearchable p extra)

-- the template of a space, if there is one
abbrev pub template_of : Option Made → Option Template
template_of None = None
template_of (Some s) = Some s.template
