-- Nothing is broken by the names so far.
use Rattle.std.proofs.Common.{◌≡◌, take, drop}
use Rattle.sw_text.specs.Resolving.{around}
use Rattle.sw_protocol.specs.Declaring.{sorts_faults, sorts_of}
use Rattle.sw_protocol.proofs.declaring.sorts_of.Given as goal

abbrev pub invariant-loop-word : goal.invariant-loop-word
invariant-loop-word l = record {
  faults : sorts_faults (around l.names) l.words ≡ sorts_faults (around l.names) (drop l.word-index l.words);
  read : l.sorts ≡ sorts_of (around l.names) (take l.word-index l.words);
}
