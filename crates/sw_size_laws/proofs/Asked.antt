-- What is asked under a part of a list is no larger than what is asked under the list.
use Rattle.std.specs.Prelude.{◌≡◌, true, false, List, [], ◌∷◌, ◌++◌, length, map, Option, Some, None, IfSome}
use Rattle.std.proofs.Common.{refl, sym, subst}
use Rattle.sw_logic.specs.declared.syntax.Edge.{Edge}
use Rattle.sw_logic.specs.declared.syntax.Formula.{Formula}
use Rattle.sw_logic.specs.declared.syntax.Formula.TheVariants.{Not}
use Rattle.sw_logic.specs.declared.query.Query.{Query}
use Rattle.sw_logic.specs.Queries.{IsSentence}
use Rattle.sw_logic.specs.Strata.{AreRanks}
use Rattle.sw_ground.specs.Verdict.{IsStratifiedQuery}
use Rattle.sw_meaning.specs.declared.protocol.Protocol.{Protocol}
use Rattle.sw_meaning.specs.declared.protocol.Transition.{Transition}
use Rattle.sw_meaning.specs.Edges.{IsStratifiedWith, protocol_edges}
use Rattle.sw_renaming.specs.declared.renaming.Moment.TheVariants.{Before, Across, After}
use Rattle.sw_renaming.specs.Renamed.{renamed}
use Rattle.sw_queries.specs.Queries.{follow_query_of, step_query_of, join_query_of, across_query, with_joined, safe_after}
use Rattle.sw_query_laws.specs.Edges.{query_edges, AreAmong, AddsAmong}
use Rattle.sw_query_laws.proofs.AreQueries.{queries_are_sorted}
use Rattle.sw_query_laws.proofs.Edging.{queries_add_no_edges, ranks_rise_among}
use Rattle.sw_size_laws.specs.Asked.{CanAskAbout}
use Rattle.sw_size_laws.specs.Part.{IsPartOf}
use Rattle.sw_size_laws.specs.Laws.{SizesGrow, ListsGrow}
use Rattle.sw_size_laws.proofs.Part.{part_map, part_behind, part_before}

ranked : (p : Protocol) (extra : List Edge) → IsStratifiedWith p extra → (q : Query) → q.signature.sorts ≡ p.signature.sorts
    → AreAmong (query_edges q) (protocol_edges p ++ extra) → IsStratifiedQuery q
ranked p extra strata q same among = record {
  ranks = strata.ranks;
  are = subst (λ sorts. AreRanks (length sorts) (query_edges q) strata.ranks) (sym same)
      (ranks_rise_among (length p.signature.sorts) (query_edges q) (protocol_edges p ++ extra) strata.ranks among strata.are);
}

-- the sentences of a step's query
across_part : (p : Protocol) (t : Transition) (before more : List Formula) (after : Formula) → IsPartOf before more
    → IsPartOf (across_query p t before after).sentences (across_query p t more after).sentences
across_part p t before more after part =
    let first : List Formula → List Formula = λ fs. map (renamed p t Before) (p.axioms ++ fs) in
    let own = renamed p t Across t.formula ∷ [] in
    part_before (Not (renamed p t After after) ∷ []) (first before ++ own) (first more ++ own)
    (part_before own (first before) (first more) (part_map (renamed p t Before) (p.axioms ++ before) (p.axioms ++ more) (part_behind p.axioms before more part)))

joined_part : (fs gs : List Formula) (f : Option Formula) → IsPartOf fs gs → IsPartOf (with_joined fs f) (with_joined gs f)
joined_part fs gs None part = part
joined_part fs gs (Some f) part = part_before (f ∷ []) fs gs part

sorted_of : (p : Protocol) (extra : List Edge) (f : Option Formula) → IfSome f (CanAskAbout p extra) → IfSome f (IsSentence p.signature)
sorted_of p extra None c = tt
sorted_of p extra (Some f) c = c.sorted

edges_of : (p : Protocol) (extra : List Edge) (f : Option Formula) → IfSome f (CanAskAbout p extra) → IfSome f (AddsAmong extra true)
edges_of p extra None c = tt
edges_of p extra (Some f) c = c.edges

denied_of : (p : Protocol) (extra : List Edge) (f : Option Formula) → IfSome f (CanAskAbout p extra) → IfSome f (AddsAmong extra false)
denied_of p extra None c = tt
denied_of p extra (Some f) c = c.denied_edges

pub lists_grow : SizesGrow → ListsGrow
lists_grow grow = record {
  follow = λ p extra g h f part list c.
      grow (follow_query_of p g f) (follow_query_of p h f) (queries_are_sorted.follow p h f list.well_formed list.sorted c.sorted)
      (ranked p extra list.stratified (follow_query_of p h f) refl (queries_add_no_edges.follow p h f extra list.edges c.denied_edges)) refl
      (part_before (Not f ∷ []) (p.axioms ++ g) (p.axioms ++ h) (part_behind p.axioms g h part));
  step = λ p extra g h f t part list c listed.
      grow (step_query_of p t g f) (step_query_of p t h f) (queries_are_sorted.step p t h f list.well_formed listed list.sorted c.sorted)
      (ranked p extra list.stratified (step_query_of p t h f) refl (queries_add_no_edges.step p t h f extra listed list.edges c.edges c.denied_edges)) refl
      (across_part p t (g ++ f ∷ []) (h ++ f ∷ []) f (part_before (f ∷ []) g h part));
  join = λ p extra g h f t part list c listed.
      grow (join_query_of p t g f) (join_query_of p t h f) (queries_are_sorted.join p t h f list.well_formed listed list.sorted (sorted_of p extra f c))
      (ranked p extra list.stratified (join_query_of p t h f) refl (queries_add_no_edges.join p t h f extra listed list.edges (edges_of p extra f c) (denied_of p extra f c))) refl
      (across_part p t (with_joined (g ++ p.safeties) f) (with_joined (h ++ p.safeties) f) (safe_after p f)
      (joined_part (g ++ p.safeties) (h ++ p.safeties) f (part_before p.safeties g h part)));
}
