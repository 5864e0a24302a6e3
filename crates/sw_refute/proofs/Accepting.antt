-- Lists of accepted steps, one step longer or cut short.
use Rattle.std.specs.Prelude.{◌≡◌, ◌↔◌, ℕ, zero, suc, ◌+◌, ◌<◌, List, [], ◌∷◌, ◌++◌, map, All, Some, length, slice_get, take, Bool, true, false, IsTrue}
use Rattle.std.proofs.Common.{sym, ap, ◌∙◌, subst, append_assoc, append-nil, get_or}
use Rattle.std.proofs.lemmas.List.Elements.{All-push}
use Rattle.std.proofs.lemmas.Bool.{false≢true}
use Rattle.std.proofs.lemmas.List.{take_more}
use Rattle.std.proofs.lemmas.Option.{none-some, same_Some, get_or_from_slice_get}
use Rattle.sw_refute.specs.declared.clauses.Lit.{Lit}
use Rattle.sw_refute.specs.declared.clauses.Clause.{Clause}
use Rattle.sw_refute.specs.declared.clauses.Cnf.{Cnf}
use Rattle.sw_refute.specs.declared.clauses.Derived.{Derived}
use Rattle.sw_refute.specs.Satisfaction.{negation, IsOver}
use Rattle.sw_refute.specs.Propagation.{IsConsistent, Propagates, IsAccepted, AreAccepted, clauses_of}
use Rattle.sw_refute.specs.Verdict.{IsFirstRefused}

-- the clauses, then the first step's, then the others'
regroup : (clauses : List Clause) (s : Derived) (steps : List Derived) → (clauses ++ s.clause ∷ []) ++ clauses_of steps ≡ clauses ++ clauses_of (s ∷ steps)
regroup clauses s steps = append_assoc clauses (s.clause ∷ []) (clauses_of steps)

pub accepted_push : (variables : ℕ) (clauses : List Clause) (steps : List Derived) (s : Derived) → AreAccepted variables clauses steps → IsAccepted variables (clauses ++ clauses_of steps) s → AreAccepted variables clauses (steps ++ s ∷ [])
accepted_push variables clauses [] s a h = (subst (λ cs. IsAccepted variables cs s) (append-nil clauses) h, tt)
accepted_push variables clauses (t ∷ steps) s a h =
    (a.0, accepted_push variables (clauses ++ t.clause ∷ []) steps s a.1 (subst (λ cs. IsAccepted variables cs s) (sym (regroup clauses t steps)) h))

pub accepted_at : (variables : ℕ) (clauses : List Clause) (steps : List Derived) (k : ℕ) (s : Derived) → AreAccepted variables clauses steps → slice_get steps k ≡ Some s → IsAccepted variables (clauses ++ clauses_of (take k steps)) s
accepted_at variables clauses [] k s a e = absurd (none-some s e)
accepted_at variables clauses (t ∷ steps) zero s a e =
    subst (λ cs. IsAccepted variables cs s) (sym (append-nil clauses)) (subst (IsAccepted variables clauses) (same_Some t s e) a.0)
accepted_at variables clauses (t ∷ steps) (suc k) s a e =
    subst (λ cs. IsAccepted variables cs s) (regroup clauses t (take k steps)) (accepted_at variables (clauses ++ t.clause ∷ []) steps k s a.1 e)

pub all_over : (variables : ℕ) (clauses : List Clause) (steps : List Derived) → All (IsOver variables) clauses → AreAccepted variables clauses steps → All (IsOver variables) (clauses ++ clauses_of steps)
all_over variables clauses [] o a = subst (All (IsOver variables)) (sym (append-nil clauses)) o
all_over variables clauses (t ∷ steps) o a =
    subst (All (IsOver variables)) (regroup clauses t steps)
    (all_over variables (clauses ++ t.clause ∷ []) steps (All-push (IsOver variables) clauses t.clause o a.0.over) a.1)

-- once the clause is seen to be over the variables and consistent, propagation decides
pub accepted_by : (variables : ℕ) (clauses : List Clause) (s : Derived) (known : List Lit) (hints : List ℕ) → IsOver variables s.clause → IsConsistent s.clause → known ≡ map negation s.clause.lits → hints ≡ s.hints → (b : Bool) → IsTrue b ↔ Propagates clauses known hints → IsTrue b ↔ IsAccepted variables clauses s
accepted_by variables clauses s known hints o consistent e f b leads = (
  λ t. record { over = o; consistent = consistent; propagates = subst (λ hs. Propagates clauses (map negation s.clause.lits) hs) f (subst (λ ls. Propagates clauses ls hints) e (leads.0 t)) },
  λ a. leads.1 (subst (λ ls. Propagates clauses ls hints) (sym e) (subst (λ hs. Propagates clauses (map negation s.clause.lits) hs) (sym f) a.propagates)),
)

-- what the check of one step says of the list
module _ (cnf : Cnf) (steps : List Derived) (k : ℕ) (item : Derived) (within : k < length steps) (at : item ≡ get_or steps k item) (before : AreAccepted cnf.variables cnf.clauses (take k steps)) (b : Bool) (here : IsTrue b ↔ IsAccepted cnf.variables (cnf.clauses ++ clauses_of (take k steps)) item) where
  pub step_refused : b ≡ false → IsFirstRefused cnf steps k
  step_refused f = record {
    within = within;
    before = before;
    here = λ s e a.
        let same : item ≡ s = at ∙ get_or_from_slice_get steps k s item e in
        false≢true (sym f ∙ here.1 (subst (IsAccepted cnf.variables (cnf.clauses ++ clauses_of (take k steps))) (sym same) a));
  }

  pub step_accepted : b ≡ true → AreAccepted cnf.variables cnf.clauses (take (k + 1) steps)
  step_accepted t =
      let front : take (k + 1) steps ≡ take k steps ++ item ∷ [] = take_more steps k item within ∙ ap (λ s. take k steps ++ s ∷ []) (sym at) in
      subst (AreAccepted cnf.variables cnf.clauses) (sym front) (accepted_push cnf.variables cnf.clauses (take k steps) item before (here.0 t))
