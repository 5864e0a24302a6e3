use Rattle.std.proofs.Common.{◌≡◌, ◌+◌, ◌∷◌, ◌++◌, [], ap, ◌∙◌, sym, subst, length, take, rules}
use Rattle.std.proofs.lemmas.List.{length-take-le, take_more}
use Rattle.sw_sat.specs.Occurring.{lists_of, HasAdded, IsIndex}
use Rattle.sw_sat.proofs.Occurring.{index_push}
use Rattle.sw_sat.proofs.occurrences.Occurrences.of_set.Goals as goal

pub loop-number-preserved : goal.loop-number-preserved
loop-number-preserved c =
    let n = c.loop-number.number in
    let clauses = c.args.cnf.now.clauses in
    let items = c.as_slice-clauses.result.now in
    let clause = c.index-clauses-number.result in
    let old = lists_of c.loop-number.occurrences in
    let new = lists_of c.add.new.self in
    let size : length (take n clauses) ≡ n = length-take-le n clauses (search rules) in
    let next : take (n + 1) clauses ≡ take n clauses ++ clause ∷ [] = subst (λ cs. take (n + 1) cs ≡ take n cs ++ clause ∷ []) c.as_slice-clauses.ensures
    (take_more items n clause (search rules) ∙ ap (λ x. take n items ++ x ∷ []) (sym c.index-clauses-number.is)) in
    subst (λ cs. IsIndex c.args.cnf.now.variables cs new) (sym next)
    (index_push c.args.cnf.now.variables (take n clauses) old new clause c.loop-number.invariant (subst (λ k. HasAdded old clause.lits k new) (sym size) c.in_ok-add.ensures))
