-- What a decision says of a query of safety, and that these queries can be decided.
use Rattle.std.specs.Prelude.{◌≡◌, ◌↔◌, ◌<◌, ◌≤◌, ◌+◌, ℕ, List, [], ◌++◌, None, Some, Option, length, slice_get}
use Rattle.std.specs.List.{AllByRecursion}
use Rattle.std.proofs.Common.{arith, refl, sym, subst, inl, inr}
use Rattle.std.proofs.lemmas.Bool.{cases_lt}
use Rattle.sw_lists.proofs.Members.{get_contains}
use Rattle.sw_logic.specs.declared.syntax.Edge.{Edge}
use Rattle.sw_logic.specs.declared.syntax.Formula.{Formula}
use Rattle.sw_logic.specs.declared.query.Query.{Query}
use Rattle.sw_logic.specs.Queries.{IsQuery}
use Rattle.sw_logic.specs.Strata.{AreRanks}
use Rattle.sw_meaning.specs.declared.protocol.Protocol.{Protocol}
use Rattle.sw_meaning.specs.declared.protocol.Transition.{Transition}
use Rattle.sw_meaning.specs.Edges.{protocol_edges, IsStratifiedWith}
use Rattle.sw_queries.specs.Queries.{safety_start_query_of}
use Rattle.sw_query_laws.specs.Edges.{query_edges, AreAmong}
use Rattle.sw_query_laws.proofs.AreQueries.{queries_are_sorted}
use Rattle.sw_query_laws.proofs.Edging.{queries_add_no_edges, ranks_rise_among}
use Rattle.sw_ground.specs.Verdict.{IsStratifiedQuery}
use Rattle.sw_decide.specs.declared.decision.Decision.{Decision}
use Rattle.sw_decide.specs.declared.decision.Decision.TheVariants.{Refuted, Found, Spent, TooLarge}
use Rattle.sw_decide.specs.Decision.{size_of_query, IsPast, Decides, IsTooLarge, IsExact}
use Rattle.sw_verdict.specs.declared.judging.SafetyQuery.TheVariants.{Start, Step}
use Rattle.sw_verdict.specs.Judgement.{CanAsk, IsCleared, IsMet, IsSpentBy, IsTooLargeBy, IsClearedAt, AreCleared, IsAsked, Ends, step_of}

-- what is known of a query by its answer
abbrev pub IsKnown : Query → Option ℕ → Decision → Type 0
IsKnown q budget (Refuted r) = IsCleared q
IsKnown q budget (Found s) = IsMet q
IsKnown q budget (Spent r) = IsSpentBy q budget r
IsKnown q budget (TooLarge size) = IsTooLargeBy q size

-- the clauses of a decision
pub record IsDecided (q : Query) (budget : Option ℕ) (d : Decision) : Type 0 where
  pub carried : Decides q budget d
  pub exact : IsExact q d
  pub large : IsTooLarge d ↔ IsPast (size_of_query q)

pub known : (q : Query) (budget : Option ℕ) (d : Decision) → IsDecided q budget d → IsKnown q budget d
known q budget (Refuted r) h = record {
  none = elim h.exact [
    | inl spent ↦ absurd spent
    | inr rest ↦ elim rest [
      | inl large ↦ absurd large
      | inr both ↦ both.0.0 tt
    ]
  ];
  within = λ past. h.large.1 past;
}
known q budget (Found s) h = record { some = (s, h.carried); within = λ past. h.large.1 past }
known q budget (Spent r) h = record { spent = h.carried; within = λ past. h.large.1 past }
known q budget (TooLarge size) h = record { is = h.carried; past = h.large.0 tt }

-- ranks along the protocol's edges and others are ranks along those of a query among them
stratified : (p : Protocol) (edges : List Edge) → IsStratifiedWith p edges → (q : Query) → length q.signature.sorts ≡ length p.signature.sorts
    → AreAmong (query_edges q) (protocol_edges p ++ edges) → IsStratifiedQuery q
stratified p edges h q e among = record {
  ranks = h.ranks;
  are = ranks_rise_among (length q.signature.sorts) (query_edges q) (protocol_edges p ++ edges) h.ranks among (subst (λ (n : ℕ). AreRanks n (protocol_edges p ++ edges) h.ranks) (sym e) h.are);
}

module _ (p : Protocol) (g : List Formula) (ask : CanAsk p g) where
  pub start_is_query : IsQuery (safety_start_query_of p)
  start_is_query = queries_are_sorted.safety_start p ask.well_formed

  pub start_is_stratified : IsStratifiedQuery (safety_start_query_of p)
  start_is_stratified = stratified p ask.edges ask.stratified (safety_start_query_of p) refl (queries_add_no_edges.safety_start p ask.edges)

  pub step_is_query : (n : ℕ) (t : Transition) → slice_get p.transitions n ≡ Some t → IsQuery (step_of p g t)
  step_is_query n t e = queries_are_sorted.join p t g None ask.well_formed (get_contains p.transitions n t e) ask.sentences tt

  pub step_is_stratified : (n : ℕ) (t : Transition) → slice_get p.transitions n ≡ Some t → IsStratifiedQuery (step_of p g t)
  step_is_stratified n t e =
      stratified p ask.edges ask.stratified (step_of p g t) refl (queries_add_no_edges.join p t g None ask.edges (get_contains p.transitions n t e) ask.adds tt tt)

  -- the start query has an end of which this is known
  pub start_ends : (Known : Query → Type 0) → Known (safety_start_query_of p) → Ends p g Start Known
  start_ends Known h = record { query = safety_start_query_of p; asked = IsAsked.start refl; known = h }

  -- so has the first step query that is not cleared
  pub step_ends : (Known : Query → Type 0) (n : ℕ) (t : Transition) → slice_get p.transitions n ≡ Some t → IsCleared (safety_start_query_of p) → AreCleared p g n → Known (step_of p g t) → Ends p g (Step n) Known
  step_ends Known n t e start before h = record { query = step_of p g t; asked = IsAsked.step n t e refl start before; known = h }

module _ (p : Protocol) (g : List Formula) where
  -- one transition more
  pub cleared_push : (n : ℕ) → AreCleared p g n → IsClearedAt p g n → AreCleared p g (n + 1)
  cleared_push n before here i below = elim (cases_lt i n) [
    | inl less ↦ before i less
    | inr past ↦ let same : n ≡ i = omega arith in subst (IsClearedAt p g) same here
  ]

  -- as many as there are are all of them
  pub all_through : (n : ℕ) → length p.transitions ≤ n → AreCleared p g n → AreCleared p g (length p.transitions)
  all_through n enough all i below = all i (omega arith)
