use Rattle.std.proofs.Common.{◌≡◌, List, map, length, ap, subst, ◌∙◌}
use Rattle.std.specs.List.{range_with_len}
use Rattle.sw_truth.specs.declared.instances.Atom.{Atom}
use Rattle.sw_quotient.specs.Terms.{held}
use Rattle.sw_quotient.specs.Valuations.{valuation}
use Rattle.sw_quotient.specs.Told.{told}
use Rattle.sw_quotient.specs.Tables.{AreLeasts, row, tables_from}
use Rattle.sw_quotient.proofs.Gathered.{made_structure}
use Rattle.sw_quotient.proofs.building.structure_of.Goals as goal

pub returns : goal.returns
returns c =
    let set = c.args.set.now in
    let terms = c.in_ok-terms.terms in
    let w = told c.in_ok-truths.truths in
    let v = valuation c.args.ground.now.atoms c.args.assignment.now in
    let same : w ≡ v = c.in_ok-truths.ensures ∙ ap (λ (atoms : List Atom). valuation atoms c.args.assignment.now) c.as_slice.ensures in
    let leasts = subst (λ (counts : List _). AreLeasts w counts c.in_ok-leasts.leasts) c.as_slice-2.ensures c.in_ok-leasts.ensures in
    let tables : c.in_ok-tables.tables ≡ tables_from terms.signature.now (held terms) w 0 set.signature.symbols =
    c.in_ok-tables.ensures ∙ ap (tables_from terms.signature.now (held terms) w 0) c.as_slice-3.ensures in
    made_structure set c.args.universe.now v w terms.signature.now terms.counts terms.firsts c.in_ok-leasts.leasts c.in_ok-sizes.sizes c.in_ok-tables.tables
    c.in_ok-terms.ensures same leasts (c.in_ok-sizes.ensures ∙ ap (λ n. map (λ sort. length (row c.in_ok-leasts.leasts sort)) (range_with_len 0 n)) c.len.ensures) tables
