-- Lists of steps with one more at the end.
use Rattle.std.specs.Prelude.{◌≡◌, ◌+◌, List, [], ◌∷◌, ◌++◌, length}
use Rattle.std.specs.List.{AllByRecursion}
use Rattle.std.proofs.Common.{sym, ap, ◌∙◌, subst, append_assoc, length-append}
use Rattle.std.proofs.lemmas.List.{append-nil, map_push, length-map}
use Rattle.sw_refute.specs.declared.clauses.Clause.{Clause}
use Rattle.sw_refute.specs.declared.clauses.Cnf.{Cnf}
use Rattle.sw_refute.specs.declared.clauses.Derived.{Derived}
use Rattle.sw_refute.specs.Propagation.{clauses_of}
use Rattle.sw_sat.specs.Answers.{IsNonempty, OnlyLastIsEmpty, ContainsNone, AreNew}
use Rattle.sw_sat.specs.Trail.{all_clauses}

pub all_clauses_push : (cnf : Cnf) (steps : List Derived) (s : Derived) → all_clauses cnf (steps ++ s ∷ []) ≡ all_clauses cnf steps ++ s.clause ∷ []
all_clauses_push cnf steps s = ap (λ cs. cnf.clauses ++ cs) (map_push (λ (x : Derived). x.clause) steps s) ∙ sym (append_assoc cnf.clauses (clauses_of steps) (s.clause ∷ []))

pub length-all_clauses : (cnf : Cnf) (steps : List Derived) → length (all_clauses cnf steps) ≡ length cnf.clauses + length steps
length-all_clauses cnf steps = length-append cnf.clauses (clauses_of steps) ∙ ap (λ k. length cnf.clauses + k) (length-map steps (λ (s : Derived). s.clause))

pub new_push : (clauses : List Clause) (steps : List Derived) (s : Derived) → AreNew clauses steps → ContainsNone (clauses ++ clauses_of steps) s.clause → AreNew clauses (steps ++ s ∷ [])
new_push clauses [] s a b = (subst (λ cs. ContainsNone cs s.clause) (append-nil clauses) b, tt)
new_push clauses (x ∷ steps) s a b =
    (a.0, new_push (clauses ++ x.clause ∷ []) steps s a.1 (subst (λ cs. ContainsNone cs s.clause) (sym (append_assoc clauses (x.clause ∷ []) (clauses_of steps))) b))

pub only_last_push : (steps : List Derived) (s : Derived) → AllByRecursion IsNonempty steps → s.clause.lits ≡ [] → OnlyLastIsEmpty (steps ++ s ∷ [])
only_last_push [] s a e = e
only_last_push (x ∷ []) s a e = (a.0, e)
only_last_push (x ∷ y ∷ steps) s a e = (a.0, only_last_push (y ∷ steps) s a.1 e)
