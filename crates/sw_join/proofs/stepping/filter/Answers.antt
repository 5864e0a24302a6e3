use Rattle.std.proofs.Common.{ℕ, List, length, sym, subst, ◌∙◌}
use Rattle.std.proofs.lemmas.Bool.{false≢true}
use Rattle.sw_lists.proofs.Places.{get_some}
use Rattle.sw_logic.specs.declared.structure.Pair.{Pair}
use Rattle.sw_logic.specs.Truth.{AreTrueIn}
use Rattle.sw_queries.specs.Counterexamples.{pair_in}
use Rattle.sw_filter.specs.declared.filter.Filter.TheVariants as filter
use Rattle.sw_filter.specs.Filters.{AreNarrow}
use Rattle.sw_filter.proofs.Narrow.{narrow_safeties}
use Rattle.sw_join.specs.Joining.{LeavesFormula, LeavesSafety}
use Rattle.sw_join.proofs.Joined.{leaves_formula, leaves_safety}
use Rattle.sw_join.proofs.stepping.filter.Goals as goal

pub are_true-safe-requires : goal.are_true-safe-requires
are_true-safe-requires c = subst AreNarrow (sym c.as_slice.ensures) (narrow_safeties c.args.asking.now.protocol.now c.requires.well_formed)

pub returns-then-safe : goal.returns-then-safe
returns-then-safe c =
    let p = c.args.asking.now.protocol.now in
    let g = c.args.asking.now.list.now in
    let f = c.args.asking.now.formula.now in
    let n = c.args.transition in
    let t = get_some p.transitions n c.requires.number in
    let s = c.args.structure.now in
    let met = c.requires.met t.0 t.1 in
    let is_pair = c.in_ok-pair.ensures.pair t.0 t.1 in
    let told = c.are_true-safe.ensures.0 c.if-safe.true in
    let safe = subst (λ (x : Pair). AreTrueIn p.signature x.after p.safeties) is_pair (subst (AreTrueIn p.signature c.in_ok-pair.pair.after) c.as_slice.ensures told) in
    let whole = leaves_formula p c.requires.well_formed g f n t.0 s t.1 met.satisfies safe in (
      subst (λ (u : ℕ). LeavesFormula p g f n (filter.Move c.in_ok-pair.pair n c.in_ok-pair.args u)) (sym c.in_ok-under.ensures)
          (subst (λ (x : Pair). LeavesFormula p g f n (filter.Move x n c.in_ok-pair.args (length g))) (sym is_pair)
          (subst (λ (a : List ℕ). LeavesFormula p g f n (filter.Move (pair_in p t.0 s) n a (length g))) (sym (c.in_ok-pair.ensures.arguments t.0 t.1)) whole)),
      λ u e. (c.requires.met u e).within,
    )

pub returns-else-safe : goal.returns-else-safe
returns-else-safe c =
    let p = c.args.asking.now.protocol.now in
    let g = c.args.asking.now.list.now in
    let f = c.args.asking.now.formula.now in
    let n = c.args.transition in
    let t = get_some p.transitions n c.requires.number in
    let s = c.args.structure.now in
    let met = c.requires.met t.0 t.1 in
    let is_pair = c.in_ok-pair.ensures.pair t.0 t.1 in
    let unsafe : AreTrueIn p.signature (pair_in p t.0 s).after p.safeties → ⊥ = λ safe.
    false≢true (sym c.if-safe.false ∙ c.are_true-safe.ensures.1 (subst (AreTrueIn p.signature c.in_ok-pair.pair.after) (sym c.as_slice.ensures)
    (subst (λ (x : Pair). AreTrueIn p.signature x.after p.safeties) (sym is_pair) safe))) in
    let whole = leaves_safety p c.requires.well_formed g f n t.0 s t.1 met.satisfies unsafe in (
      subst (λ (u : ℕ). LeavesSafety p g f n (filter.Bad c.in_ok-pair.pair n c.in_ok-pair.args u)) (sym c.in_ok-under.ensures)
          (subst (λ (x : Pair). LeavesSafety p g f n (filter.Bad x n c.in_ok-pair.args (length g))) (sym is_pair)
          (subst (λ (a : List ℕ). LeavesSafety p g f n (filter.Bad (pair_in p t.0 s) n a (length g))) (sym (c.in_ok-pair.ensures.arguments t.0 t.1)) whole)),
      λ u e. (c.requires.met u e).within,
    )
