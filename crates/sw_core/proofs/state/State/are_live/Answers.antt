use Rattle.std.proofs.Common.{sym, ap, subst, ◌∙◌, slice_get, slice_index}
use Rattle.std.specs.Option.{option_copied}
use Rattle.sw_filter.specs.Filters.{AreNarrow}
use Rattle.sw_core.proofs.Places.{narrow_of}
use Rattle.sw_core.proofs.Seen.{not_live_at, live_more, live_one, live_none}
use Rattle.sw_core.proofs.state.State.are_live.Goals as goal
use Rattle.sw_core.proofs.state.State.are_live.Goals.{in-Some+else-not-is_live, in-None}

pub is_live-requires-clause-list : goal.is_live-requires-clause-list
is_live-requires-clause-list c = subst AreNarrow (sym c.as_slice-in-Some.ensures.value) (narrow_of c.self.inside.log.items c.self.invariant.1)

pub returns-then-not-is_live : goal.returns-then-not-is_live
returns-then-not-is_live c =
    not_live_at _ _ c.self.view_is c.args.settled.now.by c.as_slice-place-items.result.now c.loop-place.place-index c.in-Some.filter.now c.as_slice-in-Some.result.now c.is_live.result
    c.as_slice-place-items.ensures c.loop-place-test.true
    (ap (λ l. slice_get l (slice_index c.as_slice-place-items.result.now c.loop-place.place-index)) (sym c.as_slice.ensures.value) ∙ (sym c.at.ensures ∙ ap option_copied c.in-Some.is))
    c.as_slice-in-Some.ensures.value c.is_live.ensures c.if-not-is_live.true

pub loop-place-preserved : goal.loop-place-preserved
loop-place-preserved c =
    live_more _ _ c.self.view_is c.args.settled.now.by c.as_slice-place-items.result.now c.loop-place.place-index c.as_slice-place-items.ensures c.loop-place-test.true
    (λ f e. elim c.match-at.branch [
      | in-Some+else-not-is_live w ↦
          live_one _ _ c.self.view_is w.in-Some.filter.now (slice_get c.self.inside.filters.items (slice_index c.as_slice-place-items.result.now c.loop-place.place-index)) w.as_slice-in-Some.result.now w.is_live.result
          (ap (λ l. slice_get l (slice_index c.as_slice-place-items.result.now c.loop-place.place-index)) (sym c.as_slice.ensures.value) ∙ (sym c.at.ensures ∙ ap option_copied w.in-Some.is))
          w.as_slice-in-Some.ensures.value w.is_live.ensures w.if-not-is_live.false f e
      | in-None w ↦
          live_none _ _ c.self.view_is (slice_get c.self.inside.filters.items (slice_index c.as_slice-place-items.result.now c.loop-place.place-index))
          (ap (λ l. slice_get l (slice_index c.as_slice-place-items.result.now c.loop-place.place-index)) (sym c.as_slice.ensures.value) ∙ (sym c.at.ensures ∙ ap option_copied w.in-None.is)) f e
    ])
    c.loop-place.invariant
