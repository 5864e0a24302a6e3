-- What a template's text has over a protocol: its template, or the first fault in order.
use Rattle.std.specs.Prelude.{◌≡◌, ℕ, ◌≤◌, ◌^◌, List, ◌++◌, length, Option, Some, None, Result, Ok, Err}
use Rattle.sw_logic.specs.declared.syntax.Edge.{Edge}
use Rattle.sw_logic.specs.declared.syntax.Signature.{Signature}
use Rattle.sw_logic.specs.Strata.{FirstOnCycle}
use Rattle.sw_meaning.specs.declared.protocol.Protocol.{Protocol}
use Rattle.sw_meaning.specs.declared.template.Template.{Template}
use Rattle.sw_meaning.specs.Classes.{atoms, cubes, classes}
use Rattle.sw_meaning.specs.Edges.{protocol_edges, IsStratifiedWith}
use Rattle.sw_meaning.specs.ProtocolText.{sort_text}
use Rattle.sw_template.specs.Edges.{template_edges}
use Rattle.sw_template_text.specs.declared.errors.TemplateError.{TemplateError}
use Rattle.sw_template_text.specs.Texts.{HasTemplate}
use Rattle.sw_enumerate.specs.declared.errors.SpaceError.{SpaceError}
use Rattle.sw_enumerate.specs.Refusals.{RefusesSpace}
use Rattle.sw_enumerate.specs.Spaces.{Made}
use Rattle.sw_space.specs.declared.faults.SpaceFault.{SpaceFault}
use Rattle.sw_space.specs.declared.faults.SpaceFault.TheVariants as fault
use Rattle.sw_space.specs.declared.faults.NoSpace.{NoSpace}
use Rattle.sw_space.specs.declared.faults.NoSpace.TheVariants.{Faulty, Memory}

-- what errors of the parts are told as
abbrev pub read_fault : TemplateError → NoSpace
read_fault (TemplateError.BadByte at) = Faulty (fault.BadByte at)
read_fault (TemplateError.Syntax at) = Faulty (fault.Syntax at)
read_fault (TemplateError.UnknownSort at) = Faulty (fault.UnknownSort at)
read_fault (TemplateError.VariablesOver n) = Faulty (fault.VariablesOver n)
read_fault (TemplateError.LiteralsOver n) = Faulty (fault.LiteralsOver n)
read_fault TemplateError.Memory = Memory

abbrev pub size_fault : SpaceError → NoSpace
size_fault (SpaceError.AtomsOver n) = Faulty (fault.AtomsOver n)
size_fault (SpaceError.CubesOver n) = Faulty (fault.CubesOver n)
size_fault (SpaceError.SpaceTooLarge n) = Faulty (fault.SpaceTooLarge n)
size_fault SpaceError.Memory = Memory

-- the numbers of atoms, cubes and classes are within their limits
pub record IsWithinLimits (sig : Signature) (t : Template) : Type 0 where
  pub atoms : length (atoms sig t) ≤ 512
  pub cubes : length (cubes sig t) ≤ 1048576
  pub classes : length (classes sig t) ≤ 2 ^ 32

-- the edges of a template, after those of the template that stands beside it, if there is one
abbrev pub edges_with : Option Template → Template → List Edge
edges_with None t = template_edges t
edges_with (Some u) t = template_edges u ++ template_edges t

-- beside this template, the edges with the protocol's have a cycle, with this the first declared sort on one; or they have none, and a
-- number is over its limit; or neither is so
pub data Fits (p : Protocol) (o : Option Template) (t : Template) (r : Result Template SpaceFault) : Type 0 where
  cycle : (sort : ℕ) → FirstOnCycle (protocol_edges p ++ edges_with o t) sort → r ≡ Err (fault.NotStratified (sort_text p.signature sort)) → Fits p o t r
  over : (e : SpaceError) (f : SpaceFault) → IsStratifiedWith p (edges_with o t) → RefusesSpace p.signature t e → size_fault e ≡ Faulty f → r ≡ Err f → Fits p o t r
  within : IsStratifiedWith p (edges_with o t) → IsWithinLimits p.signature t → r ≡ Ok t → Fits p o t r

-- the first fault of the text by itself, or what its template has over the protocol, beside this template
pub data HasSpace (p : Protocol) (o : Option Template) (text : List ℕ) (r : Result Template SpaceFault) : Type 0 where
  unread : (e : TemplateError) (f : SpaceFault) → HasTemplate p.signature text (Err e) → read_fault e ≡ Faulty f → r ≡ Err f → HasSpace p o text r
  read : (t : Template) → HasTemplate p.signature text (Ok t) → Fits p o t r → HasSpace p o text r

-- what an answer says of the text; want of memory says nothing
abbrev pub answer_of : Result Made NoSpace → Option (Result Template SpaceFault)
answer_of (Ok s) = Some (Ok s.template)
answer_of (Err (Faulty f)) = Some (Err f)
answer_of (Err Memory) = None

-- a text has one answer over a protocol, beside a template or alone
abbrev pub OneSpace : Type 0
OneSpace = (p : Protocol) (o : Option Template) (text : List ℕ) (r s : Result Template SpaceFault) → HasSpace p o text r → HasSpace p o text s → r ≡ s
