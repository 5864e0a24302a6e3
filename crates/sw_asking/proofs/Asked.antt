-- The queries of a stratified protocol are stratified.
use Rattle.std.specs.Prelude.{◌≡◌, ◌<◌, ℕ, List, [], ◌++◌, length, None, Some, slice_get, Contains}
use Rattle.std.proofs.Common.{arith, refl, sym, subst, inl, inr}
use Rattle.std.proofs.lemmas.List.Elements.{Contains-get_or}
use Rattle.std.proofs.lemmas.Option.{slice_get_cases}
use Rattle.sw_logic.specs.declared.syntax.Edge.{Edge}
use Rattle.sw_logic.specs.declared.query.Query.{Query}
use Rattle.sw_logic.specs.Strata.{AreRanks}
use Rattle.sw_logic.specs.Queries.{IsQuery}
use Rattle.sw_ground.specs.Verdict.{IsStratifiedQuery}
use Rattle.sw_meaning.specs.declared.protocol.Protocol.{Protocol}
use Rattle.sw_meaning.specs.declared.protocol.Transition.{Transition}
use Rattle.sw_meaning.specs.Edges.{protocol_edges, IsStratifiedWith}
use Rattle.sw_meaning.specs.WellFormed.{IsWellFormed}
use Rattle.sw_queries.specs.Queries.{join_query_of}
use Rattle.sw_query_laws.specs.Edges.{query_edges, AreAmong}
use Rattle.sw_query_laws.specs.Laws.{QueriesAreSorted, QueriesAddNoEdges, RanksRiseAmong}

module _ (p : Protocol) where
  abbrev all : List Edge
  all = protocol_edges p ++ []

  module _ (rise : RanksRiseAmong) (s : IsStratifiedWith p []) where
    pub stratified : (q : Query) → length q.signature.sorts ≡ length p.signature.sorts → AreAmong (query_edges q) all → IsStratifiedQuery q
    stratified q e among =
        record { ranks = s.ranks; are = rise (length q.signature.sorts) (query_edges q) all s.ranks among (subst (λ n. AreRanks n all s.ranks) (sym e) s.are) }

    module _ (i : ℕ) (within : i < length p.transitions) (q : Query) (is : (t : Transition) → slice_get p.transitions i ≡ Some t → q ≡ join_query_of p t [] None) where
      -- the transition of the number, and that it is one of the protocol's
      there : (t : Transition) × (Contains p.transitions t) × (q ≡ join_query_of p t [] None)
      there =
          elim ((slice_get_cases p.transitions i).1) [
            | inl h ↦ (h.0, subst (Contains p.transitions) h.3 (Contains-get_or p.transitions i h.0 within), is h.0 h.2)
            | inr h ↦ absurd (omega (arith, h.0, within))
          ]

      pub step_is_query : QueriesAreSorted → IsWellFormed p → IsQuery q
      step_is_query sorted formed = subst IsQuery (sym there.2) (sorted.join p there.0 [] None formed there.1 tt tt)

      pub step_is_stratified : QueriesAddNoEdges → IsStratifiedQuery q
      step_is_stratified none = subst IsStratifiedQuery (sym there.2) (stratified (join_query_of p there.0 [] None) refl (none.join p there.0 [] None [] there.1 tt tt tt))
