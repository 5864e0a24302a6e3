-- What a text has, where it is to be a protocol: by its words, its names and its sorts.
use Rattle.std.specs.Prelude.{◌≡◌, ℕ, List, [], ◌∷◌, length, map, Option, Some, None, Result, Ok, Err}
use Rattle.sw_scan.specs.declared.Token.{Token}
use Rattle.sw_scan.specs.Scans.{Scans}
use Rattle.sw_meaning.specs.declared.protocol.Protocol.{Protocol}
use Rattle.sw_meaning.specs.WellFormed.{IsWellFormed}
use Rattle.sw_trees.specs.declared.words.Word.{Word}
use Rattle.sw_text.specs.declared.names.Violation.{Violation}
use Rattle.sw_trees.specs.Words.{word_of}
use Rattle.sw_text.specs.Texts.{place_in}
use Rattle.sw_protocol.specs.declared.parsing.Parsed.{Parsed}
use Rattle.sw_protocol.specs.declared.texts.ProtocolError.{ProtocolError}
use Rattle.sw_protocol.specs.Answers.{IsAnswer}
use Rattle.sw_protocol.specs.Declaring.{empty_protocol, all_faults, all_declared}

-- the protocol, where nothing is broken; or the first rule that is
abbrev pub first_broken : List Violation → Protocol → Result Protocol ProtocolError
first_broken [] p = Ok p
first_broken (v ∷ rest) p = Err (ProtocolError.Broken v)

-- what the text has, where its words are so
abbrev pub outcome : List ℕ → List Word → Parsed → Result Protocol ProtocolError
outcome text ws (Parsed.Whole ds) = first_broken (all_faults text empty_protocol ds) (all_declared text empty_protocol ds)
outcome text ws (Parsed.Syntax n) = Err (ProtocolError.Syntax (place_in (length text) ws n))
outcome text ws (Parsed.TooDeep n) = Err (ProtocolError.TooDeep (place_in (length text) ws n))

-- what the text declares: its first byte that begins no token, or what its words are
pub data HasDeclared (text : List ℕ) (r : Result Protocol ProtocolError) : Type 0 where
  bad : (at : ℕ) → Scans text 0 (Err at) → r ≡ Err (ProtocolError.BadByte at) → HasDeclared text r
  read : (tokens : List Token) (found : Parsed) → Scans text 0 (Ok tokens) → IsAnswer text (map (word_of text) tokens) found
      → r ≡ outcome text (map (word_of text) tokens) found → HasDeclared text r

-- what an answer says of the text; want of memory says nothing
abbrev pub answer_of : Result Protocol ProtocolError → Option (Result Protocol ProtocolError)
answer_of (Ok p) = Some (Ok p)
answer_of (Err (ProtocolError.BadByte at)) = Some (Err (ProtocolError.BadByte at))
answer_of (Err (ProtocolError.Syntax at)) = Some (Err (ProtocolError.Syntax at))
answer_of (Err (ProtocolError.TooDeep at)) = Some (Err (ProtocolError.TooDeep at))
answer_of (Err (ProtocolError.Broken v)) = Some (Err (ProtocolError.Broken v))
answer_of (Err (ProtocolError.NotStratified sort)) = Some (Err (ProtocolError.NotStratified sort))
answer_of (Err ProtocolError.Memory) = None

-- a text declares one thing
abbrev pub OneDeclared : Type 0
OneDeclared = (text : List ℕ) (r s : Result Protocol ProtocolError) → HasDeclared text r → HasDeclared text s → r ≡ s

-- what a text declares is well formed
abbrev pub DeclaredIsWellFormed : Type 0
DeclaredIsWellFormed = (text : List ℕ) (p : Protocol) → HasDeclared text (Ok p) → IsWellFormed p
