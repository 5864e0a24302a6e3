-- The machine has read the words so far.
use Rattle.sw_protocol.proofs.Reading.{at}
use Rattle.sw_protocol.proofs.Answering.{HasRead}
use Rattle.sw_protocol.proofs.parsing.parse.Given as goal

abbrev pub invariant-loop-i : goal.invariant-loop-i
invariant-loop-i l = HasRead l.text l.words l.i (at l.done l.phase)
