-- The names so far are written.
use Rattle.std.proofs.Common.{◌≡◌, ◌++◌, take}
use Rattle.std.specs.Prelude.{string_bytes}
use Rattle.sw_meaning.specs.ProtocolText.{name_text}
use Rattle.sw_protocol.specs.Printing.{others_text}
use Rattle.sw_protocol.proofs.printing.push_other_symbols.Given as goal

abbrev pub invariant-loop-symbol : goal.invariant-loop-symbol
invariant-loop-symbol l = string_bytes l.text ≡ string_bytes l.fn.text ++ others_text (name_text l.signature) (take l.symbol-index l.symbols)
