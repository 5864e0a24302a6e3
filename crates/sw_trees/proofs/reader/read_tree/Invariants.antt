-- The state has read the words so far.
use Rattle.sw_trees.specs.Answers.{base_of}
use Rattle.sw_trees.specs.Limits.{IsCount}
use Rattle.sw_trees.proofs.Answering.{HasRead}
use Rattle.sw_trees.proofs.reader.read_tree.Given as goal

abbrev pub invariant-loop-i : goal.invariant-loop-i
invariant-loop-i l = record {
  count : IsCount (base_of l.around) l.open;
  read : HasRead (base_of l.around) l.words l.i l.state;
}
