-- Nothing is broken by the formulas so far, and the scope is as before.
use Rattle.std.proofs.Common.{◌≡◌, take, drop}
use Rattle.sw_text.specs.Resolving.{around, all_faults, all_read}
use Rattle.sw_text.proofs.names.Names.+formulas.Given as goal

abbrev pub invariant-formulas-loop-tree : goal.invariant-formulas-loop-tree
invariant-formulas-loop-tree l = record {
  faults : all_faults (around l.self) l.trees l.fn.scope.items ≡ all_faults (around l.self) (drop l.tree-index l.trees) l.fn.scope.items;
  read : l.parts ≡ all_read (around l.self) (take l.tree-index l.trees) l.fn.scope.items;
  scope : l.scope.items ≡ l.fn.scope.items;
}
