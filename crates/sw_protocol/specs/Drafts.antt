-- What the functions that declare answer of a draft.
use Rattle.std.specs.Prelude.{◌≡◌, List, [], ◌∷◌, ℕ, Option, Some, None}
use Rattle.sw_text.specs.declared.names.Place.{Place}
use Rattle.sw_text.specs.declared.names.Violation.{Violation}
use Rattle.sw_text.specs.declared.resolve.Resolved.{Resolved}
use Rattle.sw_text.specs.Names.{Around}
use Rattle.sw_text.specs.Tables.{AreOf}
use Rattle.sw_protocol.specs.declared.draft.Draft.{Draft}
use Rattle.sw_protocol.specs.Declaring.{transition_names}

-- the names of the transitions are kept beside the protocol
abbrev pub Knows : Draft → Type 0
Knows d = d.transitions ≡ transition_names d.protocol.transitions

-- the tables are those of what is declared so far
abbrev pub HasTables : Draft → Type 0
HasTables d = AreOf d.tables d.protocol.signature

-- what names are read by after what is declared so far
abbrev pub reading : List ℕ → Draft → Place → Around
reading text d place = record { text = text; signature = d.protocol.signature; declared_too = d.transitions; place = place }

-- the first rule that is broken, if any is
abbrev pub IsFirst : List Violation → Option Violation → Type 0
IsFirst all None = all ≡ []
IsFirst all (Some v) = (rest : List Violation) × (all ≡ v ∷ rest)

-- the value, and the draft as before, where nothing is broken; or the first rule that is
abbrev pub FindsKept : {X : Type 0} → List Violation → X → Draft → Draft → Resolved X → Type 0
FindsKept all x old new (Resolved.Found y) = (all ≡ []) × (y ≡ x) × (new ≡ old)
FindsKept all x old new (Resolved.Broken v) = (rest : List Violation) × (all ≡ v ∷ rest)
