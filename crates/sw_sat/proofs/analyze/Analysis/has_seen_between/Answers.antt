use Rattle.std.proofs.Common.{◌∙◌, sym, arith}
use Rattle.sw_sat.proofs.Founded.{read_at}
use Rattle.sw_sat.proofs.SeenLiterals.{none_down, not_met_at}
use Rattle.sw_sat.proofs.analyze.Analysis.has_seen_between.Goals as goal

pub loop-at-preserved : goal.loop-at-preserved
loop-at-preserved c =
    let seen = c.args.self.now.seen.items in
    let entries = c.args.trail.now.entries.items in
    record {
      within = omega arith;
      none = none_down seen entries c.loop-at.at c.args.to (omega arith) c.loop-at.invariant.none
          (not_met_at seen entries _ c.index.result.now (read_at entries _ c.index.result.now (omega arith) c.index.ensures) (sym c.has_seen.ensures ∙ c.if-has_seen.false));
    }
