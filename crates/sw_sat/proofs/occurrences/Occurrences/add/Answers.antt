use Rattle.std.proofs.Common.{◌≡◌, ◌<◌, ◌+◌, ◌∷◌, ◌++◌, [], length, map, set, sym, subst, get_or, take}
use Rattle.std.proofs.lemmas.List.{take_more}
use Rattle.std.specs.List.{All}
use Rattle.sw_refute.specs.declared.clauses.Lit.{Lit}
use Rattle.sw_sat.specs.Occurring.{lists_of, HasAdded}
use Rattle.sw_sat.proofs.Occurring.{added_at}
use Rattle.sw_sat.proofs.occurrences.Occurrences.add.Goals as goal

pub loop-lit-preserved : goal.loop-lit-preserved
loop-lit-preserved c =
    let z : Lit = record { 0 = 0 } in
    let items = c.as_slice-lit-items.result.now in
    let k = c.loop-lit.lit-index in
    let old = lists_of c.args.self.now in
    let same : items ≡ c.args.clause.now.lits = c.as_slice-lit-items.ensures in
    let next : take (k + 1) c.args.clause.now.lits ≡ take k c.args.clause.now.lits ++ get_or items k z ∷ [] =
    subst (λ ls. take (k + 1) ls ≡ take k ls ++ get_or items k z ∷ []) same (take_more items k z c.loop-lit-test.true) in
    let new = map (λ v. v.items) (set c.loop-lit.self.lists.items (get_or items k z).0 c.push.new.self) in
    subst (λ ls. HasAdded old ls c.args.number new) (sym next)
    (added_at (λ v. v.items) old c.loop-lit.self.lists.items (take k c.args.clause.now.lits) (get_or items k z) c.args.number c.index_mut.result.now c.push.new.self
    c.loop-lit.invariant (subst (All (λ l. l.0 < length old)) (sym same) c.requires.within k z c.loop-lit-test.true) c.index_mut.ensures.value c.in_ok-push.ensures.items)
