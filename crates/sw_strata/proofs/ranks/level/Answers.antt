use Rattle.std.proofs.Common.{sym, subst}
use Rattle.sw_logic.specs.Strata.{AreRanks}
use Rattle.sw_strata.proofs.Level.{are_level}
use Rattle.sw_strata.proofs.ranks.level.Goals as goal

pub returns : goal.returns
returns c = subst (AreRanks c.args.sorts c.args.edges.now) (sym (c.in_ok-ranks.ensures {u = tt})) (are_level c.args.sorts c.args.edges.now c.requires)
