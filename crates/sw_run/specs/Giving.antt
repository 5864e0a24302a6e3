-- The space that an option of a search gives over a protocol, or why it gives none.
use Rattle.std.specs.Prelude.{ℕ, List, Option, IfSome}
use Rattle.sw_meaning.specs.declared.protocol.Protocol.{Protocol}
use Rattle.sw_meaning.specs.declared.template.Template.{Template}
use Rattle.sw_enumerate.specs.Spaces.{Made, IsSpaceOf}
use Rattle.sw_space.specs.declared.faults.NoSpace.{NoSpace}
use Rattle.sw_space.specs.declared.faults.NoSpace.TheVariants.{Faulty, Memory}
use Rattle.sw_search.specs.Spaces.{template_of}
use Rattle.sw_run.specs.Ending.{Names, NamesFault}

-- the space is that of the template that the option's text names; where the option is left out there is none
pub record Gives (given : Option (List ℕ)) (p : Protocol) (beside : Option Template) (space : Option Made) : Type 0 where
  pub named : Names given p beside (template_of space)
  pub made : IfSome space (λ s. IsSpaceOf p.signature s.template s)

-- the text has this fault, or memory ran out
abbrev pub GivesNone : Option (List ℕ) → Protocol → Option Template → NoSpace → Type 0
GivesNone given p beside (Faulty f) = NamesFault given p beside f
GivesNone given p beside Memory = Unit {0}
