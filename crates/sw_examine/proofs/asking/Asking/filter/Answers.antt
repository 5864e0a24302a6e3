use Rattle.std.proofs.Common.{ℕ, List, length, sym, subst}
use Rattle.sw_lists.proofs.Places.{get_some}
use Rattle.sw_logic.specs.declared.structure.Pair.{Pair}
use Rattle.sw_queries.specs.Counterexamples.{pair_in}
use Rattle.sw_filter.specs.declared.filter.Filter.TheVariants as filter
use Rattle.sw_examine.specs.Examinations.{LeavesBy}
use Rattle.sw_examine.proofs.Kept.{leaves_by}
use Rattle.sw_examine.proofs.asking.Asking.filter.Goals as goal

pub returns : goal.returns
returns c =
    let p = c.args.self.now.protocol.now in
    let g = c.args.self.now.list.now in
    let f = c.args.self.now.formula.now in
    let n = c.args.transition in
    let t = get_some p.transitions n c.requires.number in
    let s = c.args.structure.now in
    let whole = leaves_by p c.requires.well_formed g f n t.0 s t.1 (c.requires.satisfies t.0 t.1) in
    subst (λ (u : ℕ). LeavesBy p g f n (filter.Move c.in_ok-pair.pair n c.in_ok-pair.args u)) (sym c.in_ok-under.ensures)
    (subst (λ (x : Pair). LeavesBy p g f n (filter.Move x n c.in_ok-pair.args (length g))) (sym (c.in_ok-pair.ensures.pair t.0 t.1))
    (subst (λ (a : List ℕ). LeavesBy p g f n (filter.Move (pair_in p t.0 s) n a (length g))) (sym (c.in_ok-pair.ensures.arguments t.0 t.1)) whole))
