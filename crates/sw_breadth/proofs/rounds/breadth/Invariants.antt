use Rattle.sw_filter.specs.declared.filter.Mode.TheVariants.{Breadth}
use Rattle.sw_hand.specs.Hands.{search_of}
use Rattle.sw_breadth.specs.Records.{HaveRun, StaysPlain}
use Rattle.sw_breadth.proofs.rounds.breadth.Given as goal

abbrev pub invariant-loop : goal.invariant-loop
invariant-loop g l = record {
  run : HaveRun (search_of l.fn.protocol (g.B.Walk.template l.fn.space) Breadth l.fn.workers) l.task.pool.now l.made.log.items l.made.rounds l.made.tokens.items;
  plain : StaysPlain (search_of l.fn.protocol (g.B.Walk.template l.fn.space) Breadth l.fn.workers) l.made.log.items;
}
