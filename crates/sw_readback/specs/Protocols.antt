-- What was read of a protocol and is printed reads back equal.
use Rattle.std.specs.Prelude.{ℕ, List}
use Rattle.sw_meaning.specs.declared.protocol.Protocol.{Protocol}
use Rattle.sw_meaning.specs.ProtocolText.{protocol_text}
use Rattle.sw_protocol.specs.Stratified.{IsText}

-- the canonical text of a protocol that a text has is a text of this protocol
abbrev pub ProtocolsReadBack : Type 0
ProtocolsReadBack = (text : List ℕ) (p : Protocol) → IsText text p → IsText (protocol_text p) p
