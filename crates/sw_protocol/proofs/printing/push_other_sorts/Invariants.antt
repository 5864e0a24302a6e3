-- The names so far are written.
use Rattle.std.proofs.Common.{◌≡◌, ◌++◌, take}
use Rattle.std.specs.Prelude.{string_bytes}
use Rattle.sw_meaning.specs.ProtocolText.{sort_text}
use Rattle.sw_protocol.specs.Printing.{others_text}
use Rattle.sw_protocol.proofs.printing.push_other_sorts.Given as goal

abbrev pub invariant-loop-sort : goal.invariant-loop-sort
invariant-loop-sort l = string_bytes l.text ≡ string_bytes l.fn.text ++ others_text (sort_text l.signature) (take l.sort-index l.sorts)
