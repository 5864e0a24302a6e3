use Rattle.std.proofs.Common.{◌≡◌, ◌<◌, ◌∙◌, Some, ⊎_elim, inl, inr, sym, subst, slice_get}
use Rattle.std.proofs.lemmas.Option.{same_Some, slice_get_within}
use Rattle.sw_refute.specs.Satisfaction.{variable}
use Rattle.sw_sat.specs.declared.trail.Entry.{Entry}
use Rattle.sw_sat.specs.Trail.{positive, negative}
use Rattle.sw_sat.proofs.Founded.{read_at}
use Rattle.sw_sat.proofs.Positions.{front_among}
use Rattle.sw_sat.proofs.solver.decided.Goals as goal

pub returns-in-Some : goal.returns-in-Some
returns-in-Some c = λ v h.
    let entries = c.args.trail.now.entries.items in
    let at = c.in-Some.at in
    let here = c.in-Some.ensures.here in
    let e = c.index.result.now in
    let got : slice_get entries at ≡ Some e = read_at entries at e (slice_get_within entries at here.entry here.is) c.index.ensures in
    let same : e ≡ here.entry = same_Some e here.entry (sym got ∙ here.is) in
    ⊎_elim (λ x. inl (front_among entries at (positive v) x)) (λ x. inr (front_among entries at (negative v) x))
    ((c.requires.each at here.entry here.is).lowest here.decided v (subst (λ (x : Entry). v < variable x.lit) same h))
