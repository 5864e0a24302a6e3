-- What is declared so far breaks nothing, and the rest goes on from there.
use Rattle.std.proofs.Common.{◌≡◌, drop}
use Rattle.sw_protocol.specs.Declaring.{all_faults, all_declared, empty_protocol}
use Rattle.sw_protocol.specs.Drafts.{Knows, HasTables}
use Rattle.sw_protocol.proofs.declaring.declare.Given as goal

abbrev pub invariant-loop-declaration : goal.invariant-loop-declaration
invariant-loop-declaration l = record {
  knows : Knows l.draft;
  tables : HasTables l.draft;
  faults : all_faults l.text empty_protocol l.declarations ≡ all_faults l.text l.draft.protocol (drop l.declaration-index l.declarations);
  read : all_declared l.text empty_protocol l.declarations ≡ all_declared l.text l.draft.protocol (drop l.declaration-index l.declarations);
}
