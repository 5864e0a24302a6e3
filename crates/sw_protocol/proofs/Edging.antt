-- The edges of a well-formed protocol are between its sorts.
use Rattle.std.specs.Prelude.{◌≡◌, ◌&&◌, ◌++◌, ◌∷◌, [], true, false, Bool, List, map, length}
use Rattle.std.specs.List.{AllByRecursion, flat_map}
use Rattle.std.specs.Cmp.Derive.{both_true}
use Rattle.std.proofs.Common.{rules, arith, refl, ◌∙◌}
use Rattle.sw_lists.proofs.Each.{each-append, each-map, each-weaker, each-flat_map}
use Rattle.sw_logic.specs.declared.syntax.Binder.{Binder}
use Rattle.sw_logic.specs.declared.syntax.Formula as formulas
use Rattle.sw_logic.specs.declared.syntax.Formula.{Formula}
use Rattle.sw_logic.specs.declared.query.Polar.{Polar}
use Rattle.sw_logic.specs.Sorted.{well_sorted, are_sorts}
use Rattle.sw_logic.specs.Strata.{AreWithin}
use Rattle.sw_strata.specs.Laws.{EdgesAreWithin}
use Rattle.sw_meaning.specs.declared.protocol.Protocol.{Protocol}
use Rattle.sw_meaning.specs.declared.protocol.Transition.{Transition}
use Rattle.sw_meaning.specs.WellFormed.{IsClosed, IsAxiom, IsTransition, IsWellFormed}
use Rattle.sw_meaning.specs.Edges.{asserted, denied, chosen, polars_of, protocol_edges}
use Rattle.sw_protocol.proofs.Extending.{IsFront, sorted_still}

module _ (p : Protocol) (h : IsWellFormed p) where
  abbrev IsSorted : Polar → Type 0
  IsSorted q = well_sorted p.signature true q.formula [] ≡ true

  itself : IsFront p.signature p.signature
  itself = record { sorts = omega arith; symbols = λ k s e. e }

  closed_sorted : (f : Formula) → IsClosed p.signature f → well_sorted p.signature true f [] ≡ true
  closed_sorted f c = sorted_still p.signature p.signature itself false true (λ e. refl) f [] c.sorted

  chosen_sorted : (t : Transition) → IsTransition p.signature t → well_sorted p.signature true (chosen t) [] ≡ true
  chosen_sorted t c =
      let step : well_sorted p.signature true (chosen t) [] ≡ (are_sorts p.signature t.params && well_sorted p.signature true t.formula (map (λ (b : Binder). b.sort) t.params)) = search (rules, formulas.the_lemmas) in
      step ∙ both_true c.params c.sorted

  polars_sorted : AllByRecursion IsSorted (polars_of p)
  polars_sorted =
      let axioms = each-map IsSorted asserted p.axioms (each-weaker (IsAxiom p.signature) (λ f. IsSorted (asserted f)) (λ f c. closed_sorted f c.closed) p.axioms h.axioms) in
      let inits = each-map IsSorted asserted p.inits (each-weaker (IsClosed p.signature) (λ f. IsSorted (asserted f)) closed_sorted p.inits h.inits) in
      let transitions = each-map IsSorted (λ (t : Transition). asserted (chosen t)) p.transitions (each-weaker (IsTransition p.signature) (λ t. IsSorted (asserted (chosen t))) chosen_sorted p.transitions h.transitions) in
      let safeties = each-flat_map IsSorted (λ f. asserted f ∷ denied f ∷ []) p.safeties (each-weaker (IsClosed p.signature) (λ f. AllByRecursion IsSorted (asserted f ∷ denied f ∷ [])) (λ f c. (closed_sorted f c, (closed_sorted f c, tt))) p.safeties h.safeties) in
      each-append IsSorted _ _ (each-append IsSorted _ _ (each-append IsSorted _ _ axioms inits) transitions) safeties

pub protocol_within : EdgesAreWithin → (p : Protocol) → IsWellFormed p → AreWithin (length p.signature.sorts) (protocol_edges p)
protocol_within law p h = law p.signature true (polars_of p) h.signature (polars_sorted p h)
