use Rattle.std.proofs.Common.{sym}
use Rattle.std.proofs.lemmas.Bool.{false≢true}
use Rattle.sw_filter.proofs.Frame.{values_count}
use Rattle.sw_filter.proofs.admitting.are_values.Goals as goal

pub returns-then-binders-values : goal.returns-then-binders-values
returns-then-binders-values c = (
  λ h. absurd (false≢true h),
  λ are. absurd (c.if-binders-values.true (sym (values_count c.args.sizes.now c.args.binders.now c.args.values.now are))),
)
