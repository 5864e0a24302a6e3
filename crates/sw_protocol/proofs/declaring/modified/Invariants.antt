-- Nothing is broken by the names so far.
use Rattle.std.proofs.Common.{◌≡◌, [], map, take, drop}
use Rattle.sw_text.specs.Names.{bytes_at}
use Rattle.sw_text.specs.Resolving.{around}
use Rattle.sw_protocol.specs.Declaring.{modified_faults, symbols_of}
use Rattle.sw_protocol.proofs.declaring.modified.Given as goal

abbrev pub invariant-loop-i : goal.invariant-loop-i
invariant-loop-i l = record {
  faults : modified_faults (around l.names) [] l.words ≡ modified_faults (around l.names) (take l.i l.words) (drop l.i l.words);
  table : l.table ≡ map (bytes_at l.names.text.now) (take l.i l.words);
  read : l.symbols ≡ symbols_of (around l.names) (take l.i l.words);
}
