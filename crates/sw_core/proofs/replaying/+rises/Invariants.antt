use Rattle.std.proofs.Common.{length}
use Rattle.sw_core.proofs.replaying.+rises.Given as goal

abbrev pub decreases-rises : goal.decreases-rises
decreases-rises l = length l.rounds.now
