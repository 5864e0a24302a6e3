use Rattle.std.proofs.Common.{◌≡◌, ◌+◌, ◌∙◌, sym, ap, subst, IfOk, length, List, ℕ}
use Rattle.std.specs.List.{flat_map}
use Rattle.sw_logic.specs.declared.syntax.Binder.{Binder}
use Rattle.sw_logic.specs.declared.syntax.Formula.{Formula}
use Rattle.sw_truth.specs.declared.sets.Piece.{Piece}
use Rattle.sw_skolem.specs.Pieces.{bound_all, pieces_of}
use Rattle.sw_skolem.proofs.PieceSteps.{true_pieces, all_pieces, for_all_pieces}
use Rattle.sw_skolem.proofs.pieces.+pieces.Goals as goal

pub pieces-returns-in-True : goal.pieces-returns-in-True
pieces-returns-in-True t c = c.new.ensures ∙ sym (true_pieces c.args.count c.args.formula.now c.in-True.is)

pub pieces-returns-in-All : goal.pieces-returns-in-All
pieces-returns-in-All t c =
    let n = c.args.count in
    let whole : flat_map (pieces_of n) c.as_slice.result.now ≡ pieces_of n c.args.formula.now =
    ap (λ (fs : List Formula). flat_map (pieces_of n) fs) c.as_slice.ensures ∙ sym (all_pieces n c.args.formula.now c.in-All.parts c.in-All.is) in
    subst (λ (g : List Piece). IfOk c.all_pieces.result (λ (ps : List Piece). ps ≡ g)) whole c.all_pieces.ensures

pub pieces-returns-in_ok-pieces-in-ForAll : goal.pieces-returns-in_ok-pieces-in-ForAll
pieces-returns-in_ok-pieces-in-ForAll t c =
    let n = c.args.count in
    let bs = c.in-ForAll.binders in
    let inside : c.in_ok-inner-in-ForAll.inner ≡ n + length bs = c.in_ok-inner-in-ForAll.ensures {u = tt} ∙ ap (λ (k : ℕ). n + k) c.len.ensures in
    let pieces : c.in_ok-pieces-in-ForAll.pieces ≡ pieces_of (n + length bs) c.in-ForAll.part =
    c.in_ok-pieces-in-ForAll.ensures {u = tt} ∙ (ap (λ (k : ℕ). pieces_of k c.get.result.now) inside ∙ ap (λ (f : Formula). pieces_of (n + length bs) f) c.get.ensures) in
    let whole : bound_all n c.as_slice-in-ForAll.result.now c.in_ok-pieces-in-ForAll.pieces ≡ pieces_of n c.args.formula.now =
    ap (λ (l : List Binder). bound_all n l c.in_ok-pieces-in-ForAll.pieces) c.as_slice-in-ForAll.ensures
    ∙ (ap (bound_all n bs) pieces ∙ sym (for_all_pieces n c.args.formula.now bs c.in-ForAll.part c.in-ForAll.is)) in
    subst (λ (g : List Piece). IfOk c.bound_all.result (λ (ps : List Piece). ps ≡ g)) whole c.bound_all.ensures
