-- Where every instance of a piece is true, the quotient is a model.
use Rattle.std.specs.Prelude.{◌≡◌, ℕ, zero, suc, ◌+◌, true, List, [], ◌∷◌, Option, Some, slice_get}
use Rattle.std.specs.List.{AllByRecursion}
use Rattle.std.proofs.Common.{arith, refl, sym, subst, ap, ◌∙◌}
use Rattle.sw_logic.specs.declared.syntax.Signature.{Signature}
use Rattle.sw_logic.specs.declared.structure.Structure.{Structure}
use Rattle.sw_logic.specs.Truth.{world, truth}
use Rattle.sw_truth.specs.declared.sets.Piece.{Piece}
use Rattle.sw_truth.specs.declared.sets.SkolemSet.{SkolemSet}
use Rattle.sw_truth.specs.Models.{AreOfSorts, IsTruePiece}
use Rattle.sw_truth.specs.Sorting.{IsMatrix}
use Rattle.sw_universe.specs.declared.universe.Universe.{Universe}
use Rattle.sw_universe.specs.ByNumber.{counts}
use Rattle.sw_instances.specs.Instances.{AreTermsOf}
use Rattle.sw_quotient.specs.Terms.{Numbering, IsClosed, numbering}
use Rattle.sw_quotient.specs.Valuations.{Valuation}
use Rattle.sw_quotient.specs.Truths.{ArePiecesTrue}
use Rattle.sw_quotient.specs.Classes.{classes}
use Rattle.sw_quotient.specs.Quotient.{IsQuotient}
use Rattle.sw_quotient.specs.Laws.{QuotientIsModel}
use Rattle.sw_quotient.proofs.Matrices.{quotient_agrees}
use Rattle.sw_quotient.proofs.Exists.{closed_by}

-- terms whose classes these are
record AreNamed (n : Numbering) (class : ℕ → ℕ → ℕ) (sorts vs : List ℕ) : Type 0 where
  terms : List ℕ
  below : AreOfSorts n.counts sorts terms
  are : classes class sorts terms ≡ vs

named : (sig : Signature) (n : Numbering) (v : Valuation) (class : ℕ → ℕ → ℕ) (s : Structure) → IsQuotient sig n v class s → (sorts vs : List ℕ) → AreOfSorts s.sizes sorts vs → AreNamed n class sorts vs
named sig n v class s q [] [] h = record { terms = []; below = tt; are = refl }
named sig n v class s q [] (c ∷ vs) h = absurd h
named sig n v class s q (sort ∷ sorts) [] h = absurd h
named sig n v class s q (sort ∷ sorts) (c ∷ vs) h =
    let first = q.onto sort c h.0 in
    let rest = named sig n v class s q sorts vs h.1 in
    record { terms = first.0 ∷ rest.terms; below = (first.1, rest.below); are = rw (first.2, rest.are) refl }

module _ (set : SkolemSet) (u : Universe) (firsts : List ℕ) (v : Valuation) (class : ℕ → ℕ → ℕ) (s : Structure) (q : IsQuotient set.signature (numbering u firsts) v class s)
    (closed : IsClosed set.signature (numbering u firsts)) (true_of : ArePiecesTrue set u firsts v) where
  piece_true : (k : ℕ) (p : Piece) → slice_get set.pieces k ≡ Some p → IsMatrix set.signature p.vars p.matrix → IsTruePiece set.signature s p
  piece_true k p is h vs g =
      let by = named set.signature (numbering u firsts) v class s q p.vars vs g in
      let terms : AreTermsOf u (slice_get set.pieces k) by.terms = subst (λ (o : Option Piece). AreTermsOf u o by.terms) (sym is) by.below in
      let here = true_of k by.terms terms p is in
      let same = quotient_agrees set.signature (numbering u firsts) v class s q closed p.vars by.terms p.matrix by.below h in
      subst (λ us. truth (world set.signature s s) p.matrix us ≡ true) by.are (same ∙ here)

  pieces_true : (k : ℕ) (ps : List Piece) → ((j : ℕ) (p : Piece) → slice_get ps j ≡ Some p → slice_get set.pieces (k + j) ≡ Some p) → AllByRecursion (λ (p : Piece). IsMatrix set.signature p.vars p.matrix) ps
      → AllByRecursion (IsTruePiece set.signature s) ps
  pieces_true k [] at h = tt
  pieces_true k (p ∷ ps) at h =
      let zeroth : k + 0 ≡ k = omega arith in (
        piece_true k p (subst (λ (i : ℕ). slice_get set.pieces i ≡ Some p) zeroth (at 0 p refl)) h.0,
        pieces_true (k + 1) ps (λ j r e. let next : k + suc j ≡ k + 1 + j = omega arith in subst (λ (i : ℕ). slice_get set.pieces i ≡ Some r) next (at (suc j) r e)) h.1,
      )

pub quotient_is_model : QuotientIsModel
quotient_is_model set u firsts v class s q indexed matrices true_of = record {
  fits = q.fits;
  pieces =
      pieces_true set u firsts v class s q (closed_by set.signature u firsts indexed) true_of 0 set.pieces
      (λ j p e. let on : j ≡ 0 + j = omega arith in subst (λ (i : ℕ). slice_get set.pieces i ≡ Some p) on e) matrices;
}
