-- The turns of the search.
use Rattle.std.specs.Prelude.{◌≡◌, ◌+◌, ◌*◌, ◌^◌, ◌<◌, ◌≤◌, ℕ, suc, true, false, List, [], ◌∷◌, ◌++◌, length, take, Option, None, Some, IfSome, slice_get}
use Rattle.std.specs.List.{AllByRecursion}
use Rattle.std.proofs.Common.{refl, sym, ap, ◌∙◌, subst, ⊎_elim, arith, length-append, eqb}
use Rattle.std.proofs.Math.Nat.{pow-succ'}
use Rattle.std.specs.Option.{option_eq}
use Rattle.std.proofs.lemmas.Bool.{cases_eq, eqb-true, eqb-false, false≢true}
use Rattle.std.proofs.lemmas.List.{length_push}
use Rattle.std.proofs.lemmas.List.Elements.{All-contains}
use Rattle.std.proofs.lemmas.Option.{same_Some}
use Rattle.sw_refute.specs.declared.clauses.Clause.{Clause}
use Rattle.sw_refute.specs.declared.clauses.Cnf.{Cnf}
use Rattle.sw_refute.specs.declared.clauses.Derived.{Derived}
use Rattle.sw_refute.specs.declared.clauses.Lit.{Lit}
use Rattle.sw_refute.specs.Satisfaction.{variable}
use Rattle.sw_refute.specs.Propagation.{IsAccepted, AreAccepted}
use Rattle.sw_sat.specs.declared.analyze.Learnt.{Learnt}
use Rattle.sw_sat.specs.declared.solver.Turn.{Turn}
use Rattle.sw_sat.specs.declared.solver.Turn.TheVariants as turn
use Rattle.sw_sat.specs.declared.trail.Entry.{Entry}
use Rattle.sw_sat.specs.declared.trail.Trail.{Trail}
use Rattle.sw_sat.specs.Analysis.{IsLearnt}
use Rattle.sw_sat.specs.Answers.{IsNonempty, AreNew, IsRefutation, IsSpent}
use Rattle.sw_sat.specs.Progress.{weight, left, IsSearch, Turns, Decides, GoesBack, IsFirstFree}
use Rattle.sw_sat.specs.Trail.{literals, negative, all_clauses, AreAssigned, IsFixpoint, MayFollow, IsTrail, IsPlain, IsState, Grows}
use Rattle.sw_sat.proofs.Founded.{short, front_trail}
use Rattle.sw_sat.proofs.Negation.{number_below}
use Rattle.sw_lists.proofs.Places.{get_append_at}
use Rattle.sw_sat.proofs.StepLists.{new_push, only_last_push}
use Rattle.sw_lists.proofs.Each.{each-push}
use Rattle.sw_refute.proofs.Accepting.{accepted_push}
use Rattle.sw_sat.proofs.Weights.{weight_below, weight_append, weight_raised, left_raised, left_longer, left_grows}

pub plain_state : (variables : ℕ) (clauses : List Clause) (trail : Trail) → IsState variables clauses trail → IsPlain trail
plain_state variables clauses trail s = record {
  apart = λ at e is. (s.founded.each at e is).unassigned.0;
  within = λ at e is.
      let h : e.lit.0 < 2 * variables = number_below variables e.lit (s.founded.each at e is).over in
      omega (arith, s.size);
}

module _ (variables : ℕ) (clauses : List Clause) (entries : List Entry) (learnt : Learnt) (trail : IsTrail variables clauses entries) (good : IsLearnt variables clauses entries learnt) where
  pub kept_trail : IsTrail variables (clauses ++ learnt.step.clause ∷ []) (take learnt.keep entries)
  kept_trail = front_trail variables clauses entries trail learnt.step.clause learnt.keep good.settled

  pub asserting_over : variable learnt.asserting < variables
  asserting_over = All-contains (λ (m : Lit). variable m < variables) learnt.step.clause.lits learnt.asserting good.accepted.over good.unit.among

  pub asserting_follows : (number : ℕ) → number ≡ length clauses → MayFollow variables (clauses ++ learnt.step.clause ∷ []) (take learnt.keep entries) (record { lit = learnt.asserting; reason = Some number })
  asserting_follows number last = record {
    over = asserting_over;
    unassigned = good.unit.unassigned;
    forced = λ n h. record {
      clause = learnt.step.clause;
      is = subst (λ (m : ℕ). slice_get (clauses ++ learnt.step.clause ∷ []) m ≡ Some learnt.step.clause) (sym last ∙ same_Some number n h) (get_append_at clauses learnt.step.clause []);
      unit = good.unit;
    };
    decided = λ h. absurd (cc);
    lowest = λ h. absurd (cc);
  }

-- a decision on an unassigned variable
pub decision_follows : (variables : ℕ) (clauses : List Clause) (entries : List Entry) (v : ℕ) → IsFirstFree variables entries v → IsFixpoint clauses (literals entries)
    → MayFollow variables clauses entries (record { lit = negative v; reason = None })
decision_follows variables clauses entries v free fixpoint = record {
  over = let h : v < variables = free.within in omega arith;
  unassigned = free.unassigned;
  forced = λ n h. absurd (cc);
  decided = λ _. fixpoint;
  lowest = λ _. let i : variable (negative v) ≡ v = omega arith in subst (λ (n : ℕ). AreAssigned n entries) (sym i) free.before;
}

pub budget_more : (budget : Option ℕ) (n : ℕ) → IfSome budget (λ most. n ≤ most) → (budget ≡ Some n → ⊥) → IfSome budget (λ most. n + 1 ≤ most)
budget_more None n a d = tt
budget_more (Some most) n a d = ⊎_elim (λ (e : most ≡ n). absurd (d (ap (λ m. Some m) e))) (λ (e : most ≡ n → ⊥). omega arith) (cases_eq most n)

pub budget_last : (budget : Option ℕ) (n m : ℕ) → IfSome budget (λ most. n ≤ most) → m ≡ n + 1 → IfSome budget (λ most. m ≤ most + 1)
budget_last None n m a e = tt
budget_last (Some most) n m a e = omega arith

module _ (cnf : Cnf) (budget : Option ℕ) (steps : List Derived) where
  on_trail : (old new : Trail) → IsSearch cnf budget steps old → IsState cnf.variables (all_clauses cnf steps) new → length steps ≤ weight cnf.variables new.entries.items → IsSearch cnf budget steps new
  on_trail old new s state few = record {
    small = s.small;
    numbered = s.numbered;
    state = state;
    accepted = s.accepted;
    nonempty = s.nonempty;
    new = s.new;
    few = few;
    within = s.within;
  }

  pub unchanged_search : (old new : Trail) → IsSearch cnf budget steps old → IsState cnf.variables (all_clauses cnf steps) new → new.entries.items ≡ old.entries.items → IsSearch cnf budget steps new
  unchanged_search old new s state e = on_trail old new s state (subst (λ es. length steps ≤ weight cnf.variables es) (sym e) s.few)

  pub grown_search : (old new : Trail) → IsSearch cnf budget steps old → IsState cnf.variables (all_clauses cnf steps) new → Grows old.entries.items new.entries.items → IsSearch cnf budget steps new
  grown_search old new s state g =
      let w : weight cnf.variables old.entries.items ≤ weight cnf.variables new.entries.items = subst (λ es. weight cnf.variables old.entries.items ≤ weight cnf.variables es) (sym g.is) (weight_append cnf.variables old.entries.items g.more) in
      on_trail old new s state (omega (arith, s.few))

  pub grown_left : (old new : Trail) → Grows old.entries.items new.entries.items → left cnf.variables new.entries.items ≤ left cnf.variables old.entries.items
  grown_left old new g = left_grows cnf.variables old.entries.items new.entries.items
      (subst (λ es. weight cnf.variables old.entries.items ≤ weight cnf.variables es) (sym g.is) (weight_append cnf.variables old.entries.items g.more))
      (let n : length new.entries.items ≡ length old.entries.items + length g.more = ap length g.is ∙ length-append old.entries.items g.more in omega arith)

  pub turns_from : (old mid new : Trail) (t : Turn) → left cnf.variables mid.entries.items ≤ left cnf.variables old.entries.items → Turns cnf budget mid new steps t → Turns cnf budget old new steps t
  turns_from old mid new turn.On h a = (a.0, let k : left cnf.variables new.entries.items < left cnf.variables mid.entries.items = a.1 in omega arith)
  turns_from old mid new turn.Satisfied h a = a
  turns_from old mid new turn.Refuted h a = a
  turns_from old mid new turn.Spent h a = a

  pub decided_turn : (old new : Trail) → IsSearch cnf budget steps old → IsState cnf.variables (all_clauses cnf steps) new → Decides old.entries.items new.entries.items → Turns cnf budget old new steps turn.On
  decided_turn old new s state d =
      let w : weight cnf.variables old.entries.items ≤ weight cnf.variables new.entries.items = subst (λ es. weight cnf.variables old.entries.items ≤ weight cnf.variables es) (sym d.is) (weight_append cnf.variables old.entries.items (d.entry ∷ [])) in
      let n : length new.entries.items ≡ length old.entries.items + 1 = ap length d.is ∙ length_push old.entries.items d.entry in
      let l : length new.entries.items ≤ cnf.variables = short cnf.variables (all_clauses cnf steps) new.entries.items state.founded in
      (on_trail old new s state (omega (arith, s.few)), left_longer cnf.variables old.entries.items new.entries.items w (omega arith) l)

  pub refuted : (trail : Trail) (s : Derived) (longer : List Derived) → IsSearch cnf budget steps trail → IsAccepted cnf.variables (all_clauses cnf steps) s → s.clause.lits ≡ [] → longer ≡ steps ++ s ∷ [] → IsRefutation cnf budget longer
  refuted trail s longer f a empty is = subst (IsRefutation cnf budget) (sym is) (record {
    accepted = accepted_push cnf.variables cnf.clauses steps s f.accepted a;
    empty = only_last_push steps s f.nonempty empty;
    within = budget_last budget (length steps) (length (steps ++ s ∷ [])) f.within (length_push steps s);
  })

  pub spent : (trail : Trail) → IsSearch cnf budget steps trail → budget ≡ Some (length steps) → IsSpent cnf budget steps
  spent trail f given =
      let b : weight cnf.variables trail.entries.items < 2 ^ cnf.variables = weight_below cnf.variables trail.entries.items in
      let e : 2 ^ (cnf.variables + 1) ≡ 2 * 2 ^ cnf.variables = ap (λ n. 2 ^ n) (sum_one cnf.variables) ∙ pow-succ' 2 cnf.variables in
      record {
        most = length steps;
        given = given;
        count = refl;
        accepted = f.accepted;
        nonempty = f.nonempty;
        new = f.new;
        few = omega (arith, f.few);
      }
    where
      sum_one : (n : ℕ) → n + 1 ≡ suc n
      sum_one n = omega arith

  pub learnt_turn : (old new : Trail) (learnt : Learnt) (longer : List Derived) → IsSearch cnf budget steps old → IsLearnt cnf.variables (all_clauses cnf steps) old.entries.items learnt → (budget ≡ Some (length steps) → ⊥)
      → longer ≡ steps ++ learnt.step ∷ [] → length (all_clauses cnf longer) ≤ 2 ^ 32 → IsState cnf.variables (all_clauses cnf longer) new → GoesBack learnt old.entries.items new.entries.items
      → Turns cnf budget old new longer turn.On
  learnt_turn old new learnt longer f good unspent is numbered state back =
      let l : length old.entries.items ≤ cnf.variables = short cnf.variables (all_clauses cnf steps) old.entries.items f.state.founded in
      let m : length new.entries.items ≤ cnf.variables = short cnf.variables (all_clauses cnf longer) new.entries.items state.founded in
      let w : weight cnf.variables old.entries.items < weight cnf.variables new.entries.items = subst (λ es. weight cnf.variables old.entries.items < weight cnf.variables es) (sym back.is)
      (weight_raised cnf.variables old.entries.items learnt.keep good.cut.entry back.entry l good.cut.is good.cut.decided back.forced) in
      let n : length longer ≡ length steps + 1 = ap length is ∙ length_push steps learnt.step in (
        record {
          small = f.small;
          numbered = numbered;
          state = state;
          accepted = subst (AreAccepted cnf.variables cnf.clauses) (sym is) (accepted_push cnf.variables cnf.clauses steps learnt.step f.accepted good.accepted);
          nonempty = subst (AllByRecursion IsNonempty) (sym is) (each-push IsNonempty steps learnt.step f.nonempty good.nonempty);
          new = subst (AreNew cnf.clauses) (sym is) (new_push cnf.clauses steps learnt.step f.new good.new);
          few = omega (arith, f.few);
          within = subst (λ (k : ℕ). IfSome budget (λ most. k ≤ most)) (sym n) (budget_more budget (length steps) f.within unspent);
        },
        left_raised cnf.variables old.entries.items new.entries.items w m,
      )

pub option_is : (o : Option ℕ) (n : ℕ) → option_eq eqb o (Some n) ≡ true → o ≡ Some n
option_is None n e = absurd (false≢true e)
option_is (Some m) n e = ap (λ k. Some k) (eqb-true m n e)

pub option_is_not : (o : Option ℕ) (n : ℕ) → option_eq eqb o (Some n) ≡ false → o ≡ Some n → ⊥
option_is_not None n e h = cc
option_is_not (Some m) n e h = eqb-false m n e (same_Some m n h)
