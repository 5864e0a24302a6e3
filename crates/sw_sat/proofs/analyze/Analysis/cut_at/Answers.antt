use Rattle.std.proofs.Common.{◌<◌, ◌-◌, length, ◌∙◌, sym, arith}
use Rattle.std.proofs.lemmas.Option.{slice_get_within}
use Rattle.sw_sat.proofs.Founded.{read_at}
use Rattle.sw_sat.proofs.SeenLiterals.{cut_at_seen, none_down, not_met_at, not_decision, levels_down}
use Rattle.sw_sat.proofs.analyze.Analysis.cut_at.Goals as goal

pub returns-then-has_seen : goal.returns-then-has_seen
returns-then-has_seen c =
    let seen = c.args.self.now.seen.items in
    let entries = c.args.trail.now.entries.items in
    let h : c.args.start < length entries = slice_get_within entries c.args.start c.requires.decision.entry c.requires.decision.is in
    let k : c.loop-at.at - 1 < length entries = omega arith in
    cut_at_seen seen entries c.loop-at.at c.loop-at.keep c.args.start c.loop-at.invariant.decision c.loop-at.invariant.low c.loop-at.invariant.high c.loop-at.invariant.none c.loop-at.invariant.levels (omega arith)
    (record { entry = c.index.result.now; is = read_at entries (c.loop-at.at - 1) c.index.result.now k c.index.ensures; is_seen = sym c.has_seen.ensures ∙ c.if-has_seen.true })

pub loop-at-preserved-then-is_none : goal.loop-at-preserved-then-is_none
loop-at-preserved-then-is_none c =
    let seen = c.args.self.now.seen.items in
    let entries = c.args.trail.now.entries.items in
    let h : c.args.start < length entries = slice_get_within entries c.args.start c.requires.decision.entry c.requires.decision.is in
    let k : c.loop-at.at - 1 < length entries = omega arith in
    let is = read_at entries (c.loop-at.at - 1) c.index.result.now k c.index.ensures in
    record {
      decision = record { entry = c.index.result.now; is = is; decided = grind arith };
      low = omega arith;
      high = omega arith;
      none = none_down seen entries c.loop-at.at c.args.start (omega arith) c.loop-at.invariant.none (not_met_at seen entries (c.loop-at.at - 1) c.index.result.now is (sym c.has_seen.ensures ∙ c.if-has_seen.false));
      levels = λ at low high _. omega arith;
    }

pub loop-at-preserved : goal.loop-at-preserved
loop-at-preserved c =
    let seen = c.args.self.now.seen.items in
    let entries = c.args.trail.now.entries.items in
    let h : c.args.start < length entries = slice_get_within entries c.args.start c.requires.decision.entry c.requires.decision.is in
    let k : c.loop-at.at - 1 < length entries = omega arith in
    let is = read_at entries (c.loop-at.at - 1) c.index.result.now k c.index.ensures in
    record {
      decision = c.loop-at.invariant.decision;
      low = omega arith;
      high = c.loop-at.invariant.high;
      none = none_down seen entries c.loop-at.at c.args.start (omega arith) c.loop-at.invariant.none (not_met_at seen entries (c.loop-at.at - 1) c.index.result.now is (sym c.has_seen.ensures ∙ c.if-has_seen.false));
      levels = levels_down seen entries c.loop-at.at c.loop-at.keep (omega arith) c.loop-at.invariant.levels (not_decision seen entries (c.loop-at.at - 1) c.index.result.now is (λ e. grind arith));
    }
