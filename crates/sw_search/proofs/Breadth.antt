-- What breadth says of its list, and of the query that ended it.
use Rattle.std.specs.Prelude.{◌≡◌, ℕ, List, [], ◌∷◌, map, Option, Some, None, unwrap_or, Contains}
use Rattle.std.specs.List.{AllByRecursion}
use Rattle.std.proofs.Common.{refl, sym, ap, subst, ◌∙◌}
use Rattle.sw_lists.proofs.Each.{each-weaker, each-map}
use Rattle.sw_logic.specs.declared.query.Query.{Query}
use Rattle.sw_logic.specs.declared.syntax.Formula.{Formula}
use Rattle.sw_meaning.specs.declared.protocol.Protocol.{Protocol}
use Rattle.sw_meaning.specs.declared.template.Template.{Template}
use Rattle.sw_meaning.specs.Classes.{classes, formula_of}
use Rattle.sw_meaning.specs.Inductive.{Earned, Closed}
use Rattle.sw_meaning.specs.Plain.{PlainList, formulas_of}
use Rattle.sw_meaning.specs.WellFormed.{IsWellFormed}
use Rattle.sw_template.specs.Bodies.{Class}
use Rattle.sw_filter.specs.declared.filter.Mode.TheVariants.{Breadth}
use Rattle.sw_truth.specs.declared.instances.Refutation.{Refutation}
use Rattle.sw_universe.specs.declared.sizes.Size.{Size}
use Rattle.sw_enumerate.specs.Spaces.{Made, formula_in}
use Rattle.sw_examine.specs.declared.examining.QueryName.{QueryName}
use Rattle.sw_examine.specs.Examinations.{IsAsked}
use Rattle.sw_log.specs.declared.entry.Entry.{Entry}
use Rattle.sw_core.specs.declared.record.Record.{Record}
use Rattle.sw_core.specs.declared.steps.Step.{Step}
use Rattle.sw_core.specs.Founded.{AreFounded}
use Rattle.sw_core.specs.Gathered as gathered
use Rattle.sw_core.specs.Machine.{Search, parts_in, start}
use Rattle.sw_core.specs.Records.{steps_of}
use Rattle.sw_core.proofs.Closing.{close_means_closed}
use Rattle.sw_core.proofs.Keeps.{log_stays_earned}
use Rattle.sw_core.proofs.Rounds.{gathered_is_founded}
use Rattle.sw_walk.specs.Parts.{classes_of, IsClass}
use Rattle.sw_hand.specs.Hands.{search_of}
use Rattle.sw_work.specs.Works.{bodies_of}
use Rattle.sw_work.specs.declared.errors.BreadthError.TheVariants.{Spent, TooLarge}
use Rattle.sw_breadth.specs.Rounds.{IsGathered, IsCause, IsOnTheWay, listed}
use Rattle.sw_search.specs.Searches.{IsList, InBreadth, EndsBy, Ended, Stops, IsStopped, ended_line, told_query, named_class}
use Rattle.sw_search.specs.Spaces.{CanSearch}
use Rattle.sw_search.proofs.Log.{entries_of, record_log, record_ends}
use Rattle.sw_search.proofs.Searchable.{cover, formula_is, of_class}

-- the budget that was given is the one that is told
pub given_is : (budget : Option ℕ) (most : ℕ) → budget ≡ Some most → budget ≡ Some (unwrap_or budget 0)
given_is budget most e = subst (λ (o : Option ℕ). o ≡ Some (unwrap_or o 0)) (sym e) refl

asked_class : (p : Protocol) (g : List Formula) (f : Formula) (class : Class) (q : Query) (name : QueryName) → IsAsked p g f class q name → named_class name ≡ Some class
asked_class p g f class q name (IsAsked.start e) = refl
asked_class p g f class q name (IsAsked.follow e h) = refl
asked_class p g f class q name (IsAsked.step n t s i e h k) = refl

module _ (p : Protocol) (s : Made) (ok : IsWellFormed p) (can : CanSearch p (Some s) None) (workers : ℕ) where
  abbrev t : Template
  t = s.template

  abbrev m : Search
  m = search_of p t Breadth workers

  -- ---- the list
  same_formulas : (es : List Entry) → map (λ (e : Entry). formula_in s e.body.cubes) es ≡ formulas_of p t (classes_of (bodies_of es))
  same_formulas [] = refl
  same_formulas (e ∷ es) = ap (λ f. f ∷ map (λ (e : Entry). formula_in s e.body.cubes) es) (formula_is p can.extra s ok can.breadth e.body.cubes)
      ∙ ap (λ fs. formula_of p.signature t e.body.cubes ∷ fs) (same_formulas es)

  entries_are : (es : List Entry) → gathered.formulas_of m es ≡ formulas_of p t (classes_of (bodies_of es))
  entries_are [] = refl
  entries_are (e ∷ es) = ap (λ fs. formula_of p.signature t e.body.cubes ∷ fs) (entries_are es)

  -- the classes of a list of bodies are those of the template
  among_all : (bodies : List Class) → AllByRecursion (IsClass (parts_in m)) bodies → AllByRecursion (Contains (classes p.signature t)) (classes_of bodies)
  among_all bodies each =
      each-map (Contains (classes p.signature t)) (λ (b : Class). b.cubes) bodies
      (each-weaker (IsClass (parts_in m)) (λ (b : Class). Contains (classes p.signature t) b.cubes) (λ b c. of_class p t b c) bodies each)

  module _ (r : Record) (whole : IsGathered m r) where
    abbrev steps : List Step
    steps = steps_of (gathered.record_of 0 whole.outcomes) 0

    founded : AreFounded m (start m []) steps
    founded = gathered_is_founded m [] whole.outcomes whole.whole

    listed_is : gathered.formulas_of m (entries_of whole.outcomes) ≡ formulas_of p t (listed r)
    listed_is = entries_are (entries_of whole.outcomes) ∙ ap (λ (x : Record). formulas_of p t (listed x)) (sym whole.is)

    earned : Earned p (Some t) (formulas_of p t (listed r))
    earned = subst (Earned p (Some t)) (record_log m whole.outcomes ∙ listed_is) (log_stays_earned m [] steps founded tt)

    closed : Closed p (Some t) (formulas_of p t (listed r))
    closed = subst (Closed p (Some t)) (record_log m whole.outcomes ∙ listed_is)
        (close_means_closed m [] steps refl (cover p can.extra s ok can.breadth) founded (record_ends m whole.outcomes))

    bodies : AllByRecursion (IsClass (parts_in m)) (bodies_of r.entries)
    bodies = each-map (IsClass (parts_in m)) (λ (e : Entry). e.body) r.entries whole.classes

    pub is_list : (workers ≡ 1 → PlainList p t (listed r)) → IsList p (Some t) workers (map (λ (e : Entry). formula_in s e.body.cubes) r.entries)
    is_list plain =
        let there : IsList p (Some t) workers (formulas_of p t (listed r)) = record {
          earned = earned;
          closed = closed;
          of_classes = (listed r, among_all (bodies_of r.entries) bodies, refl);
          plain = λ one. (listed r, plain one, refl);
        } in
        subst (IsList p (Some t) workers) (sym (same_formulas r.entries)) there

  -- ---- the query that ended it
  module _ (budget : Option ℕ) (name : QueryName) (list : List Class) where
    pub spent_in : (r : Refutation) → IsCause m budget (Spent name list r) → (workers ≡ 1 → IsOnTheWay m (Spent name list r))
        → InBreadth p t workers name (EndsBy budget (Ended.spent (unwrap_or budget 0)))
    spent_in r c way = record {
      list = classes_of list;
      on_the_way = way;
      listed = among_all list c.classes;
      earned = c.earned;
      class = c.body;
      among = of_class p t c.body c.class;
      query = c.query;
      is_asked = c.asked;
      known = (given_is budget c.met.spent.steps.most c.met.spent.steps.given, (r, c.met));
    }

    pub large_in : (size : Size) → IsCause m budget (TooLarge name list size) → (workers ≡ 1 → IsOnTheWay m (TooLarge name list size))
        → InBreadth p t workers name (EndsBy budget (Ended.too_large size))
    large_in size c way = record {
      list = classes_of list;
      on_the_way = way;
      listed = among_all list c.classes;
      earned = c.earned;
      class = c.body;
      among = of_class p t c.body c.class;
      query = c.query;
      is_asked = c.asked;
      known = c.met;
    }

  -- its line
  module _ (budget : Option ℕ) (name : QueryName) (ended : Ended) (b : InBreadth p t workers name (EndsBy budget ended)) where
    pub stops : (line : List ℕ) → ((c : Class) → named_class name ≡ Some c → line ≡ ended_line p.signature (told_query p name (formula_in s c.cubes)) ended) → (u : Option Template)
        → IsStopped p (Some t) u workers budget line
    stops line is u =
        let class : named_class name ≡ Some b.class = asked_class p (formulas_of p t b.list) (formula_of p.signature t b.class.cubes) b.class b.query name b.is_asked in
        let told = told_query p name (formula_of p.signature t b.class.cubes) in
        let same = ap (λ f. ended_line p.signature (told_query p name f) ended) (formula_is p can.extra s ok can.breadth b.class.cubes) in
        IsStopped.asked told ended (Stops.in_breadth t name refl b refl) (is b.class class ∙ same)
