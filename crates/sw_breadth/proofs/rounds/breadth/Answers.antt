use Rattle.std.proofs.Common.{[], sym, subst}
use Rattle.sw_filter.specs.declared.filter.Mode.TheVariants.{Breadth}
use Rattle.sw_hand.specs.Hands.{search_of}
use Rattle.sw_breadth.specs.Records.{StaysPlain}
use Rattle.sw_breadth.proofs.Closes.{plain_none}
use Rattle.sw_breadth.proofs.Runs.{have_run_none, run_as}
use Rattle.sw_breadth.proofs.rounds.breadth.Goals as goal

pub loop-init : goal.loop-init
loop-init g c =
    let t = g.B.Walk.template c.args.space.now in
    let m = search_of c.args.protocol.now t Breadth c.args.workers in
    record {
      run = run_as m c.in_ok-pool.pool c.new-2.result.items [] c.new-3.result [] c.new-4.result.items [] c.new-2.ensures.items c.new-3.ensures c.new-4.ensures.items (have_run_none m c.in_ok-pool.pool);
      plain = subst (StaysPlain m) (sym c.new-2.ensures.items) (plain_none c.args.protocol.now t c.args.workers);
    }
