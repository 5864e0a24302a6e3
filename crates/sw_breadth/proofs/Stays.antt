-- What is known under the entries that a seat has seen stays as it sees more.
use Rattle.std.specs.Prelude.{◌≡◌, ℕ, ◌<◌, ◌++◌, List, length, take, Option, Some, slice_get}
use Rattle.std.specs.List.{AllByRecursion}
use Rattle.std.proofs.Common.{arith, sym, ap, ◌∙◌, subst}
use Rattle.std.proofs.lemmas.List.{map-append, take-append-le}
use Rattle.std.proofs.lemmas.Option.{slice_get_within}
use mathlib.Core.List.{IsPrefix}
use Rattle.sw_lists.proofs.Each.{each-weaker, each-both}
use Rattle.sw_logic.specs.declared.syntax.Formula.{Formula}
use Rattle.sw_logic.specs.declared.query.Query.{Query}
use Rattle.sw_template.specs.Bodies.{Class}
use Rattle.sw_filter.specs.declared.filter.Filter.{Filter}
use Rattle.sw_filter.specs.Filters.{IsLive}
use Rattle.sw_examine.specs.Examinations.{IsAsked}
use Rattle.sw_examine.specs.declared.examining.QueryName.{QueryName}
use Rattle.sw_log.specs.declared.entry.Entry.{Entry}
use Rattle.sw_core.specs.declared.record.Settled.{Settled}
use Rattle.sw_core.specs.Machine.{Search, formula_in, filters_at}
use Rattle.sw_core.specs.Founded.{Gains}
use Rattle.sw_core.specs.Gathered.{IsShare, IsSettledBy, IsTimely, filters_of}
use Rattle.sw_core.proofs.Shares.{share_stays}
use Rattle.sw_pool.specs.declared.pool.Pool.{Pool}
use Rattle.sw_hand.specs.declared.hand.Handed.{Handed}
use Rattle.sw_hand.specs.Hands.{share_of}
use Rattle.sw_work.specs.declared.errors.BreadthError.{BreadthError}
use Rattle.sw_work.specs.declared.errors.BreadthError.TheVariants.{Memory, Spent, TooLarge}
use Rattle.sw_work.specs.Works.{AskedUnder, IsCause, IsOwnEntry, bodies_of, entry_formula, seen_formulas}
use Rattle.sw_examine.specs.Answers.{IsSpentBy, IsTooLargeBy}
use Rattle.sw_breadth.specs.Joins.{IsOwned, IsShared}
use Rattle.sw_breadth.proofs.Begins.{at_begin, take_begin, front_begin}

module _ (m : Search) where
  pub owned_stays : (seen more : List Entry) (e : Entry) → IsPrefix seen more → IsOwned m seen e → IsOwned m more e
  owned_stays seen more e p h =
      let within = slice_get_within seen e.under e h.at in
      record {
        by_worker = h.by_worker;
        class = h.class;
        at = at_begin seen more e.under e p h.at;
        gains = subst (λ l. Gains m (seen_formulas m l) (formula_in m e.body.cubes)) (sym (take_begin e.under seen more p (omega arith))) h.gains;
      }

  pub own_entry : (worker : ℕ) (seen : List Entry) (e : Entry) → worker < m.workers → IsOwnEntry m worker seen e → IsOwned m seen e
  own_entry worker seen e lt h = record { by_worker = omega (arith, h.by_worker); class = h.class; at = h.at; gains = h.gains }

  -- the formulas of what is seen later
  seen_more : (seen more : List Entry) (p : IsPrefix seen more) → seen_formulas m more ≡ seen_formulas m seen ++ seen_formulas m p.0
  seen_more seen more p = ap (seen_formulas m) (sym p.1) ∙ map-append (entry_formula m) seen p.0

  timely_on : (since : ℕ) (formulas more : List Formula) (worker : ℕ) (all : List Filter) (x : Settled) → IsSettledBy m worker formulas all x → IsTimely m since formulas all x → IsTimely m since (formulas ++ more) all x
  timely_on since formulas more worker all x s t = record {
    since = t.since;
    places = t.places;
    live = subst (λ l. AllByRecursion (IsLive m.protocol m.mode l) (filters_at all x.by)) (sym (take-append-le x.under formulas more s.under)) t.live;
  }

  pub shared_stays : (pool : Pool) (before since : ℕ) (seen more : List Entry) (worker : ℕ) (h : Handed) → IsPrefix seen more → IsShared m pool before since (seen_formulas m seen) worker h → IsShared m pool before since (seen_formulas m more) worker h
  shared_stays pool before since seen more worker h p s =
      let formulas = seen_formulas m seen in
      let rest = seen_formulas m p.0 in
      record {
        share = λ fs e. subst (λ l. IsShare m fs l worker (share_of h)) (sym (seen_more seen more p)) (share_stays m fs formulas rest worker (share_of h) (s.share fs e));
        timely = λ fs e.
            let all = fs ++ filters_of h.kept in
            let sh : IsShare m fs formulas worker (share_of h) = s.share fs e in
            subst (λ l. AllByRecursion (IsTimely m since l all) h.settled) (sym (seen_more seen more p))
            (each-weaker (λ x. IsSettledBy m worker formulas all x × IsTimely m since formulas all x) (IsTimely m since (formulas ++ rest) all) (λ x a. timely_on since formulas rest worker all x a.0 a.1) h.settled
            (each-both (IsSettledBy m worker formulas all) (IsTimely m since formulas all) h.settled sh.settled (s.timely fs e)));
        tokens = s.tokens;
      }

  asked_stays : (seen more : List Entry) (list : List Class) (name : QueryName) (Met : Query → Type 0) → IsPrefix seen more → AskedUnder m seen list name Met → AskedUnder m more list name Met
  asked_stays seen more list name Met p a =
      let same = front_begin a.n seen more p in
      record {
        n = length (take a.n seen);
        is = a.is ∙ ap bodies_of (sym same);
        body = a.body;
        class = a.class;
        query = a.query;
        asked = subst (λ l. IsAsked m.protocol (seen_formulas m l) (formula_in m a.body.cubes) a.body a.query name) (sym same) a.asked;
        met = a.met;
      }

  pub cause_stays : (budget : Option ℕ) (seen more : List Entry) (e : BreadthError) → IsPrefix seen more → IsCause m budget seen e → IsCause m budget more e
  cause_stays budget seen more Memory p a = a
  cause_stays budget seen more (Spent name list steps) p a = asked_stays seen more list name (λ q. IsSpentBy q budget steps) p a
  cause_stays budget seen more (TooLarge name list size) p a = asked_stays seen more list name (λ q. IsTooLargeBy q size) p a
