-- What the search for a class that joins shows, and of the query that ended it.
use Rattle.std.specs.Prelude.{◌≡◌, ℕ, List, [], Option, Some, None, Contains, IfSome, unwrap_or}
use Rattle.std.proofs.Common.{refl, sym, ap, subst, ◌∙◌}
use Rattle.sw_logic.specs.declared.query.Query.{Query}
use Rattle.sw_logic.specs.declared.structure.Structure.{Structure}
use Rattle.sw_logic.specs.declared.syntax.Formula.{Formula}
use Rattle.sw_logic.specs.Truth.{IsTrueIn, truth, world}
use Rattle.sw_meaning.specs.declared.protocol.Protocol.{Protocol}
use Rattle.sw_meaning.specs.declared.template.Template.{Template}
use Rattle.sw_meaning.specs.Classes.{formula_of}
use Rattle.sw_meaning.specs.Verdict.{Word, Verdict, NotSafeBy, Joins, Exhausted as NoneInSpace}
use Rattle.sw_filter.specs.declared.filter.Mode.TheVariants.{Finish}
use Rattle.sw_template.specs.Bodies.{Class}
use Rattle.sw_truth.specs.declared.instances.Refutation.{Refutation}
use Rattle.sw_universe.specs.declared.sizes.Size.{Size}
use Rattle.sw_enumerate.specs.Spaces.{Made, formula_in}
use Rattle.sw_examine.specs.declared.examining.QueryName.{QueryName}
use Rattle.sw_core.specs.Machine.{Search, parts_in}
use Rattle.sw_walk.specs.Parts.{all_classes}
use Rattle.sw_hand.specs.Hands.{search_of}
use Rattle.sw_join.specs.Joining.{IsAsked}
use Rattle.sw_seek.specs.Seeking.{IsFirstJoined, NoneJoins, IsCause}
use Rattle.sw_seek.specs.declared.errors.FinishError.TheVariants.{Spent, TooLarge}
use Rattle.sw_finish.specs.declared.finishing.Finished.TheVariants as finishing
use Rattle.sw_finish.specs.Finished.{IsFinished}
use Rattle.sw_core.specs.declared.record.Record.{Record}
use Rattle.sw_search.specs.Searches.{HasVerdict, InFinish, EndsBy, Ended, Stops, IsStopped, ended_line, told_query, named_class}
use Rattle.sw_search.specs.Spaces.{IsSearchable, template_of}
use Rattle.sw_search.specs.Phases.{IsFound}
use Rattle.sw_search.proofs.Breadth.{given_is}
use Rattle.sw_search.proofs.Searchable.{cover, formula_is, in_space, flat, of_class}

-- ---- words
pub not_safe : (p : Protocol) (g : List Formula) (w : Word) → w ≡ Word.unsettled → Verdict p None g w → NotSafeBy p g
not_safe p g w is (Verdict.violated e x) = absurd (cc)
not_safe p g w is (Verdict.safe e x) = absurd (cc)
not_safe p g w is (Verdict.safe_with f e x i j) = absurd i
not_safe p g w is (Verdict.exhausted e x i j) = x
not_safe p g w is (Verdict.unsettled e x i) = x

-- what is true in the same structures joins as well
joins_too : (p : Protocol) (g : List Formula) (f h : Formula) → ((s : Structure) → truth (world p.signature s s) f [] ≡ truth (world p.signature s s) h []) → Joins p g f → Joins p g h
joins_too p g f h same j =
    let to : (s : Structure) → IsTrueIn p.signature s f → IsTrueIn p.signature s h = λ s k. sym (same s) ∙ k in
    let from : (s : Structure) → IsTrueIn p.signature s h → IsTrueIn p.signature s f = λ s k. same s ∙ k in
    record { start = λ s x. to s (j.start s x); safe = λ s t x a b c. j.safe s t x a b (from s c); kept = λ s t x a b c. to t (j.kept s t x a b (from s c)) }

asked_class : (p : Protocol) (g : List Formula) (f : Formula) (class : Class) (q : Query) (name : QueryName) → IsAsked p g f class q name → named_class name ≡ Some class
asked_class p g f class q name (IsAsked.start e) = refl
asked_class p g f class q name (IsAsked.join n t i e h k) = refl

module _ (p : Protocol) (first last : Option Made) (workers : ℕ) (budget : Option ℕ) (g : List Formula) (s : Made) (x : IsFound p first last workers budget g)
    (is : last ≡ Some s) (unsettled : Verdict p None g Word.unsettled) where
  abbrev u : Template
  u = s.template

  pub can : IsSearchable p x.can.extra s
  can = subst (λ (o : Option Made). IfSome o (IsSearchable p x.can.extra)) is x.can.finish

  abbrev m : Search
  m = search_of p u Finish workers

  -- ---- the word
  pub joined : (b : Class) (r : Refutation) (rs : List Refutation) → IsFinished m g budget (finishing.Joined b r rs)
      → HasVerdict p (Some u) workers g (Word.safe_with (formula_in s b.cubes))
  joined b r rs f =
      let same : formula_of p.signature u b.cubes ≡ formula_in s b.cubes = sym (formula_is p x.can.extra s x.well_formed can b.cubes) in
      subst (λ (f : Formula). HasVerdict p (Some u) workers g (Word.safe_with f)) same (record {
        verdict = Verdict.safe_with (formula_of p.signature u b.cubes) refl (not_safe p g Word.unsettled refl unsettled)
            (in_space p x.can.extra s x.well_formed can b.cubes (of_class p u b f.0)) f.1.joins;
        first = λ one. (b.cubes, subst (λ (cs : List (List ℕ)). IsFirstJoined p u g cs b.cubes) (flat p.signature u) (f.2 one), refl);
      })

  none_in_space : NoneJoins p u g (all_classes (parts_in m)) → NoneInSpace p (Some u) g
  none_in_space none f i j =
      let found = (cover p x.can.extra s x.well_formed can).complete f i in
      none found.0 (subst (λ (cs : List (List ℕ)). Contains cs found.0) (sym (flat p.signature u)) found.1.0) (joins_too p g f (formula_of p.signature u found.0) found.1.1 j)

  pub exhausted : (r : Record) → IsFinished m g budget (finishing.Exhausted r) → HasVerdict p (Some u) workers g Word.exhausted
  exhausted r f = record { verdict = Verdict.exhausted refl (not_safe p g Word.unsettled refl unsettled) refl (none_in_space f.1); first = λ one. tt }

  -- ---- the query that ended it
  module _ (name : QueryName) where
    pub spent_in : (r : Refutation) → IsCause m g budget (Spent name r) → InFinish p (template_of first) workers u name (EndsBy budget (Ended.spent (unwrap_or budget 0)))
    spent_in r c = record {
      list = g;
      found = x.found;
      open_ = unsettled;
      class = c.body;
      among = of_class p u c.body c.class;
      query = c.query;
      is_asked = c.asked;
      known = (given_is budget c.met.spent.steps.most c.met.spent.steps.given, (r, c.met));
    }

    pub large_in : (size : Size) → IsCause m g budget (TooLarge name size) → InFinish p (template_of first) workers u name (EndsBy budget (Ended.too_large size))
    large_in size c = record {
      list = g;
      found = x.found;
      open_ = unsettled;
      class = c.body;
      among = of_class p u c.body c.class;
      query = c.query;
      is_asked = c.asked;
      known = c.met;
    }

-- its line
pub stops : (p : Protocol) (first last : Option Made) (workers : ℕ) (budget : Option ℕ) (g : List Formula) (s : Made) (x : IsFound p first last workers budget g)
    → last ≡ Some s → (name : QueryName) (ended : Ended) (b : InFinish p (template_of first) workers s.template name (EndsBy budget ended)) (line : List ℕ)
    → ((c : Class) → named_class name ≡ Some c → line ≡ ended_line p.signature (told_query p name (formula_in s c.cubes)) ended)
    → IsStopped p (template_of first) (Some s.template) workers budget line
stops p first last workers budget g s x is name ended b line says =
    let can : IsSearchable p x.can.extra s = subst (λ (o : Option Made). IfSome o (IsSearchable p x.can.extra)) is x.can.finish in
    let class : named_class name ≡ Some b.class = asked_class p b.list (formula_of p.signature s.template b.class.cubes) b.class b.query name b.is_asked in
    let same = ap (λ f. ended_line p.signature (told_query p name f) ended) (formula_is p x.can.extra s x.well_formed can b.class.cubes) in
    IsStopped.asked (told_query p name (formula_of p.signature s.template b.class.cubes)) ended (Stops.in_finish s.template name refl b refl) (says b.class class ∙ same)
