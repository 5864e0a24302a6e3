-- What is open inside the frames so far.
use Rattle.std.proofs.Common.{take}
use Rattle.std.specs.Prelude.{reverse}
use Rattle.sw_trees.specs.Grammar.{Context}
use Rattle.sw_trees.specs.Machine.{context}
use Rattle.sw_trees.specs.Limits.{IsCount}
use Rattle.sw_trees.proofs.limits.Open.of_stack.Given as goal

abbrev pub invariant-loop-frame : goal.invariant-loop-frame
invariant-loop-frame l = (c : Context) → IsCount c l.fn.self → IsCount (context c (reverse (take l.frame-index l.frame-items))) l.open
