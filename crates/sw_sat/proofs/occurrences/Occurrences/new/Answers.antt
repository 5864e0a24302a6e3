use Rattle.std.proofs.Common.{◌≡◌, ◌*◌, ◌∙◌, length, arith}
use Rattle.std.proofs.lemmas.List.{length-map}
use Rattle.sw_sat.proofs.Occurring.{index_none}
use Rattle.sw_sat.proofs.occurrences.Occurrences.new.Goals as goal

pub returns : goal.returns
returns c =
    let lists = c.loop-alloc.lists.items in
    let size : length lists ≡ 2 * c.args.variables = omega (arith, c.loop-alloc.invariant.size, c.len.ensures, c.loop-alloc-test.false) in
    index_none c.args.variables _ (length-map lists (λ v. v.items) ∙ size) c.loop-alloc.invariant.empty
