-- What a text has, where it is to be a protocol whose sorts are stratified.
use Rattle.std.specs.Prelude.{◌≡◌, ℕ, List, length, Result, Ok, Err}
use Rattle.sw_logic.specs.Strata.{AreRanks, FirstOnCycle}
use Rattle.sw_meaning.specs.declared.protocol.Protocol.{Protocol}
use Rattle.sw_meaning.specs.Edges.{protocol_edges}
use Rattle.sw_protocol.specs.declared.texts.ProtocolError.{ProtocolError}
use Rattle.sw_protocol.specs.Texts.{HasDeclared}

-- the protocol, where some ranks rise along its edges; or the first declared sort that lies on a cycle of them
pub data Judges (p : Protocol) (r : Result Protocol ProtocolError) : Type 0 where
  ranked : (ranks : List ℕ) → AreRanks (length p.signature.sorts) (protocol_edges p) ranks → r ≡ Ok p → Judges p r
  cycle : (sort : ℕ) → FirstOnCycle (protocol_edges p) sort → r ≡ Err (ProtocolError.NotStratified sort) → Judges p r

-- what the text has: the first fault of what it declares, or what its edges make of that
pub data HasProtocol (text : List ℕ) (r : Result Protocol ProtocolError) : Type 0 where
  refused : (e : ProtocolError) → HasDeclared text (Err e) → r ≡ Err e → HasProtocol text r
  declared : (p : Protocol) → HasDeclared text (Ok p) → Judges p r → HasProtocol text r

-- the text is one of this protocol
abbrev pub IsText : List ℕ → Protocol → Type 0
IsText text p = HasProtocol text (Ok p)

-- a text has one answer
abbrev pub OneProtocol : Type 0
OneProtocol = (text : List ℕ) (r s : Result Protocol ProtocolError) → HasProtocol text r → HasProtocol text s → r ≡ s
