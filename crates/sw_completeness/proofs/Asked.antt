-- The query that ended a search is one that may be asked.
use Rattle.std.specs.Prelude.{ℕ, List, Option, Some, Contains}
use Rattle.std.proofs.Common.{sym, subst}
use Rattle.sw_lists.proofs.Members.{contains_map, get_contains}
use Rattle.sw_logic.specs.declared.syntax.Formula.{Formula}
use Rattle.sw_logic.specs.declared.query.Query.{Query}
use Rattle.sw_meaning.specs.declared.protocol.Protocol.{Protocol}
use Rattle.sw_meaning.specs.declared.template.Template.{Template}
use Rattle.sw_meaning.specs.Classes.{classes, formula_of}
use Rattle.sw_meaning.specs.Plain.{formulas_of}
use Rattle.sw_report.specs.Words.{Query as Told}
use Rattle.sw_template.specs.Bodies.{Class}
use Rattle.sw_examine.specs.declared.examining.QueryName.{QueryName}
use Rattle.sw_examine.specs.Examinations as examine
use Rattle.sw_join.specs.Joining as join
use Rattle.sw_verdict.specs.declared.judging.SafetyQuery.{SafetyQuery}
use Rattle.sw_verdict.specs.Judgement as safety
use Rattle.sw_search.specs.Searches.{Ended, EndsBy, InBreadth, InFinish, IsList, Stops}
use Rattle.sw_size_laws.specs.Laws.{ListedOnce}
use Rattle.sw_completeness.specs.Worst.{all_formulas, IsAskedUnder, MayAsk}
use Rattle.sw_completeness.proofs.Found.{earned_part, list_part}

-- a query that may be asked ended the search
pub record EndsAt (p : Protocol) (t u : Option Template) (budget : Option ℕ) (ended : Ended) : Type 0 where
  pub query : Query
  pub may : MayAsk p t u query
  pub by : EndsBy budget ended query

-- the formula of a class is one of those of all classes
among_all : (p : Protocol) (t : Template) (c : List ℕ) → Contains (classes p.signature t) c → Contains (all_formulas p (Some t)) (formula_of p.signature t c)
among_all p t c among = contains_map (formula_of p.signature t) (classes p.signature t) c among

module _ (p : Protocol) (t u : Option Template) (g : List Formula) where
  asked_in_breadth : (f : Formula) (class : Class) (q : Query) (name : QueryName) → Contains (all_formulas p t) f → examine.IsAsked p g f class q name
      → IsAskedUnder p t u g q
  asked_in_breadth f class q name among (examine.IsAsked.start is) = IsAskedUnder.start f among is
  asked_in_breadth f class q name among (examine.IsAsked.follow is h) = IsAskedUnder.follow f among is
  asked_in_breadth f class q name among (examine.IsAsked.step n m s at is h k) = IsAskedUnder.step f m among (get_contains p.transitions n m at) is

  asked_in_safety : (q : Query) (name : SafetyQuery) → safety.IsAsked p g q name → IsAskedUnder p t u g q
  asked_in_safety q name (safety.IsAsked.start is) = IsAskedUnder.safety_start is
  asked_in_safety q name (safety.IsAsked.step n m at is h k) = IsAskedUnder.safety_step m (get_contains p.transitions n m at) is

  asked_in_finish : (f : Formula) (class : Class) (q : Query) (name : QueryName) → Contains (all_formulas p u) f → join.IsAsked p g f class q name
      → IsAskedUnder p t u g q
  asked_in_finish f class q name among (join.IsAsked.start is) = IsAskedUnder.finish_start f among is
  asked_in_finish f class q name among (join.IsAsked.join n m at is h k) = IsAskedUnder.join f m among (get_contains p.transitions n m at) is

module _ (once : ListedOnce) (p : Protocol) (workers : ℕ) (budget : Option ℕ) (ended : Ended) where
  in_breadth : (t : Template) (u : Option Template) (name : QueryName) → InBreadth p t workers name (EndsBy budget ended) → EndsAt p (Some t) u budget ended
  in_breadth t u name b =
      let f = formula_of p.signature t b.class.cubes in
      record {
        query = b.query;
        may = record {
          list = formulas_of p t b.list;
          part = earned_part once p t b.list b.listed b.earned;
          asked = asked_in_breadth p (Some t) u (formulas_of p t b.list) f b.class b.query name (among_all p t b.class.cubes b.among) b.is_asked;
        };
        by = b.known;
      }

  in_safety : (t u : Option Template) (list : List Formula) (name : SafetyQuery) → IsList p t workers list → safety.Ends p list name (EndsBy budget ended)
      → EndsAt p t u budget ended
  in_safety t u list name found e = record {
    query = e.query;
    may = record { list = list; part = list_part once p t workers list found; asked = asked_in_safety p t u list e.query name e.asked };
    by = e.known;
  }

  in_finish : (t : Option Template) (u : Template) (name : QueryName) → InFinish p t workers u name (EndsBy budget ended) → EndsAt p t (Some u) budget ended
  in_finish t u name b =
      let f = formula_of p.signature u b.class.cubes in
      record {
        query = b.query;
        may = record {
          list = b.list;
          part = list_part once p t workers b.list b.found;
          asked = asked_in_finish p t (Some u) b.list f b.class b.query name (among_all p u b.class.cubes b.among) b.is_asked;
        };
        by = b.known;
      }

  pub ends_at : (t u : Option Template) (told : Told) → Stops p t u workers budget told ended → EndsAt p t u budget ended
  ends_at t u told (Stops.in_breadth template name is b e) = subst (λ o. EndsAt p o u budget ended) (sym is) (in_breadth template u name b)
  ends_at t u told (Stops.in_safety list name found e ends) = in_safety t u list name found ends
  ends_at t u told (Stops.in_finish template name is b e) = subst (λ o. EndsAt p t o budget ended) (sym is) (in_finish t template name b)
