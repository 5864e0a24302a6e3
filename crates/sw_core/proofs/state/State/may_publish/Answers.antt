use Rattle.std.proofs.Common.{sym, subst}
use Rattle.sw_filter.specs.Filters.{AreNarrow}
use Rattle.sw_core.proofs.Places.{narrow_of, narrow_take}
use Rattle.sw_core.proofs.state.State.may_publish.Goals as goal

pub is_live-requires-clause-list : goal.is_live-requires-clause-list
is_live-requires-clause-list c =
    narrow_take c.args.kept.now.under c.as_slice.result.now (subst AreNarrow (sym c.as_slice.ensures.value) (narrow_of c.self.inside.log.items c.self.invariant.1))
