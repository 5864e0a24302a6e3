use Rattle.std.proofs.Common.{◌≡◌, ◌<◌, ◌+◌, ◌∙◌, sym, ap, subst, take, length, refl}
use Rattle.std.specs.List.{All}
use Rattle.std.proofs.lemmas.List.Elements.{All-take}
use Rattle.std.proofs.lemmas.Option.{same_Some}
use Rattle.sw_refute.specs.Satisfaction.{negation}
use Rattle.sw_sat.specs.declared.trail.Entry.{Entry}
use Rattle.sw_sat.specs.Analysis.{NegatesSeen}
use Rattle.sw_sat.specs.Trail.{all_clauses, literals}
use Rattle.sw_sat.proofs.Founded.{numbers_below, read_at}
use Rattle.sw_sat.proofs.Learns.{some_of_level, learns}
use Rattle.sw_sat.proofs.analyze.analyze.Goals as goal

pub first_unique_point-requires-clause-some : goal.first_unique_point-requires-clause-some
first_unique_point-requires-clause-some c = some_of_level c.args.cnf.now.variables (all_clauses c.args.cnf.now c.args.steps.now) c.args.trail.now.entries.items c.requires.trail
    c.args.start c.args.conflict c.begin.new.self.seen.items c.requires.last.here c.requires.conflict c.in_ok-begin.ensures.marks

pub cut_at-keep-requires-clause-size : goal.cut_at-keep-requires-clause-size
cut_at-keep-requires-clause-size c = numbers_below c.args.cnf.now.variables (all_clauses c.args.cnf.now c.args.steps.now) c.args.trail.now.entries.items c.requires.trail _
    (c.in_ok-unique.ensures.size ∙ c.in_ok-begin.ensures.size ∙ c.in_ok-analysis.ensures.size)

pub clause-requires : goal.clause-requires
clause-requires c =
    let below = numbers_below c.args.cnf.now.variables (all_clauses c.args.cnf.now c.args.steps.now) c.args.trail.now.entries.items c.requires.trail (length c.first_unique_point.new.self.seen.items)
    (c.in_ok-unique.ensures.size ∙ c.in_ok-begin.ensures.size ∙ c.in_ok-analysis.ensures.size) in
    All-take (λ (e : Entry). e.lit.0 < length c.first_unique_point.new.self.seen.items) (c.in_ok-unique.unique + 1) c.deref.result.now
    (subst (All (λ (e : Entry). e.lit.0 < length c.first_unique_point.new.self.seen.items)) (sym c.deref.ensures.value) below)

pub returns : goal.returns
returns c =
    let entries = c.args.trail.now.entries.items in
    let seen = c.first_unique_point.new.self.seen.items in
    let n = c.in_ok-unique.unique in
    let one = c.in_ok-unique.ensures.unique in
    let is = read_at entries n c.index.result.now c.in_ok-unique.ensures.below c.index.ensures in
    let same : c.index.result.now ≡ one.here.entry = same_Some c.index.result.now one.here.entry (sym is ∙ one.here.is) in
    learns c.args.cnf.now.variables (all_clauses c.args.cnf.now c.args.steps.now) entries c.requires.trail seen c.first_unique_point.new.self.hints.items c.args.start n c.cut_at-keep.result c.in_ok-clause.clause
    c.requires.last one c.in_ok-unique.ensures.above c.in_ok-unique.ensures.leads c.cut_at-keep.ensures
    (subst (λ es. NegatesSeen seen (literals (take (n + 1) es)) c.in_ok-clause.clause) c.deref.ensures.value c.in_ok-clause.ensures)
    (record { step = c.into_step.result; asserting = c.negation-asserting.result; keep = c.cut_at-keep.result })
    c.into_step.ensures.clause c.into_step.ensures.hints (c.negation-asserting.ensures ∙ ap (λ (e : Entry). negation e.lit) same) refl
