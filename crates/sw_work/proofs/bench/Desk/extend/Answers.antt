use Rattle.std.proofs.Common.{◌≡◌, ◌++◌, List, take, drop, sym, ap, ◌∙◌, subst}
use Rattle.std.proofs.lemmas.List.{take-append-drop}
use Rattle.sw_logic.specs.declared.syntax.Formula.{Formula}
use Rattle.sw_log.specs.declared.entry.Entry.{Entry}
use Rattle.sw_core.specs.Machine.{Search}
use Rattle.sw_hand.specs.Hands.{IsHand}
use Rattle.sw_work.specs.Works.{seen_formulas}
use Rattle.sw_work.specs.Steps.{searched}
use Rattle.sw_work.proofs.Seen.{rest_whole, seen_append}
use Rattle.sw_work.proofs.Asked.{take_front, holds_at}
use Rattle.sw_work.proofs.bench.Desk.extend.Goals as goal

pub advance-requires-clause-hand : goal.advance-requires-clause-hand
advance-requires-clause-hand g c =
    let task = c.args.self.now.task.now in
    let h = c.args.hand.now in
    let front : take c.len-from.result c.as_slice.result.now ≡ c.args.formulas.now = take_front _ c.len-from.result c.args.formulas.now c.as_slice.result.now (c.as_slice.ensures ∙ c.in_ok-add_formulas.ensures.are) c.len-from.ensures in
    subst (λ fs. IsHand (searched g.B.Walk.template task) task.pool.now task.worker fs h.mine.shown.items h.kept h.tokens.items h.used.items) (sym front) c.requires.fits.holds.held

pub returns-clause-fits : goal.returns-clause-fits
returns-clause-fits g c =
    let task = c.args.self.now.task.now in
    let m : Search = searched g.B.Walk.template task in
    let n = c.len-from.result in
    let es : List Entry = c.args.entries.now in
    let old : c.args.formulas.now ≡ seen_formulas m (take n es) = c.requires.fits.are ∙ ap (λ k. seen_formulas m (take k es)) (sym c.len-from.ensures) in
    let then = c.in_ok-advance.ensures in
    record {
      are = c.in_ok-add_formulas.ensures.are ∙ (ap (λ (x : List Entry). c.args.formulas.now ++ seen_formulas m x) (rest_whole n es) ∙ ap (λ (x : List Formula). x ++ seen_formulas m (drop n es)) old ∙ (sym (seen_append m (take n es) (drop n es)) ∙ ap (seen_formulas m) (take-append-drop n es)));
      narrow = c.in_ok-add_formulas.ensures.narrow;
      holds = holds_at g.B.Walk.template task c.add_formulas.new.formulas c.as_slice.result.now c.advance.new.hand c.as_slice.ensures then.mine then.others then.hand then.found;
    }
