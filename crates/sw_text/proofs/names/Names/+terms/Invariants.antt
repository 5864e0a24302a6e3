-- Nothing is broken by the arguments so far.
use Rattle.std.proofs.Common.{◌≡◌, map, take, drop}
use Rattle.sw_text.specs.Names.{args_faults, term_faults, term_read}
use Rattle.sw_text.specs.Resolving.{around}
use Rattle.sw_text.proofs.names.Names.+terms.Given as goal

abbrev pub invariant-terms-loop-i : goal.invariant-terms-loop-i
invariant-terms-loop-i l = record {
  faults : args_faults (map (term_faults (around l.self) l.scope) l.trees) l.sorts ≡ args_faults (map (term_faults (around l.self) l.scope) (drop l.i l.trees)) (drop l.i l.sorts);
  read : l.terms ≡ map (term_read (around l.self) l.scope) (take l.i l.trees);
}
