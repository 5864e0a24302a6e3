use Rattle.std.proofs.Common.{◌≡◌, List, length, Some, slice_get, refl, sym, subst, ◌∙◌}
use Rattle.std.proofs.lemmas.Option.{same_Some, slice_get_read}
use Rattle.sw_logic.specs.Truth.{AreTrueIn}
use Rattle.sw_meaning.specs.Runs.{Fires}
use Rattle.sw_meaning.specs.declared.protocol.Transition.{Transition}
use Rattle.sw_filter.proofs.Frame.{same_count}
use Rattle.sw_filter.proofs.admitting.is_step.Goals as goal

pub fires-requires-clause-tables : goal.fires-requires-clause-tables
fires-requires-clause-tables c = same_count c.args.protocol.now.signature c.args.pair.now (c.fits_pair.ensures.0 c.if-not-fits_pair.false)

pub returns-then-are_true : goal.returns-then-are_true
returns-then-are_true c =
    let sig = c.args.protocol.now.signature in
    let h = c.in-Some.ensures.lookup in
    let ts : List Transition = c.as_slice.result.now in
    let found : slice_get c.args.protocol.now.transitions c.args.number ≡ Some c.in-Some.transition.now =
    subst (λ (us : List Transition). slice_get us c.args.number ≡ Some c.in-Some.transition.now) c.as_slice.ensures (slice_get_read ts (length ts) c.args.number c.in-Some.transition.now refl h.3.0 h.1) in (
      λ f. record {
        fits = c.fits_pair.ensures.0 c.if-not-fits_pair.false;
        axioms = subst (AreTrueIn sig c.args.pair.now.before) c.as_slice-2.ensures (c.are_true.ensures.0 c.if-are_true.true);
        transition = c.in-Some.transition.now;
        numbered = found;
        fires = c.fires.ensures.0 f;
      },
      λ s. c.fires.ensures.1 (subst (λ (t : Transition). Fires c.args.protocol.now t c.args.args.now c.args.pair.now) (same_Some s.transition c.in-Some.transition.now (sym s.numbered ∙ found)) s.fires),
    )
