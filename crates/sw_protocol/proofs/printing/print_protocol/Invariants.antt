-- The declarations so far are written.
use Rattle.std.proofs.Common.{◌≡◌, take}
use Rattle.std.specs.Prelude.{string_bytes}
use Rattle.std.specs.List.{flat_map}
use Rattle.sw_protocol.specs.Printing.{declaration_line}
use Rattle.sw_protocol.proofs.printing.print_protocol.Given as goal

abbrev pub invariant-loop-declaration : goal.invariant-loop-declaration
invariant-loop-declaration l = string_bytes l.text ≡ flat_map (declaration_line l.protocol) (take l.declaration-index l.protocol.order)
