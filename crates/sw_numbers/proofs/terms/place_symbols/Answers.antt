use Rattle.std.proofs.Common.{◌∙◌, subst, sym, take, ◌+◌}
use Rattle.sw_numbers.specs.Firsts.{ArePlaced}
use Rattle.sw_numbers.proofs.Placed.{none_placed, next_passed, next_placed}
use Rattle.sw_numbers.proofs.terms.place_symbols.Goals as goal
use Rattle.sw_numbers.proofs.terms.place_symbols.Goals.{then-is_of+in_ok-place_symbol, else-is_of}

pub loop-i-init : goal.loop-i-init
loop-i-init c = none_placed c.args.counts.now c.args.kind c.args.next.now c.args.firsts.now

pub loop-i-preserved : goal.loop-i-preserved
loop-i-preserved c =
    let symbols = c.args.symbols.now in
    let k = c.loop-i.i in
    let s = c.index-symbols-i.result in
    elim c.if-is_of.branch [
      | then-is_of+in_ok-place_symbol w ↦
          subst (λ xs. ArePlaced c.args.counts.now c.args.kind (take (k + 1) symbols) c.args.next.now c.args.firsts.now xs c.if-is_of.firsts) (sym w.next-is)
          (subst (λ xs. ArePlaced c.args.counts.now c.args.kind (take (k + 1) symbols) c.args.next.now c.args.firsts.now w.place_symbol.new.next xs) (sym w.firsts-is)
          (next_placed c.args.counts.now c.args.kind c.args.next.now c.args.firsts.now c.loop-i.next c.loop-i.firsts w.place_symbol.new.next w.place_symbol.new.firsts symbols k s
          c.loop-i-test.true c.index-symbols-i.is (sym c.is_of.ensures ∙ w.if-is_of.true) w.in_ok-place_symbol.ensures c.loop-i.invariant))
      | else-is_of w ↦
          subst (λ xs. ArePlaced c.args.counts.now c.args.kind (take (k + 1) symbols) c.args.next.now c.args.firsts.now xs c.if-is_of.firsts) (sym w.next-is)
          (subst (λ xs. ArePlaced c.args.counts.now c.args.kind (take (k + 1) symbols) c.args.next.now c.args.firsts.now c.loop-i.next xs) (sym w.firsts-is)
          (next_passed c.args.counts.now c.args.kind c.args.next.now c.args.firsts.now c.loop-i.next c.loop-i.firsts symbols k s
          c.loop-i-test.true c.index-symbols-i.is (sym c.is_of.ensures ∙ w.if-is_of.false) c.loop-i.invariant))
    ]
