-- A list of steps has one verdict.
use Rattle.std.specs.Prelude.{◌≡◌, ◌↔◌, ℕ, ◌<◌, Bool, true, false, List, ◌++◌, IsTrue, take}
use Rattle.std.proofs.Common.{arith, refl, ap, ◌∙◌, subst, inl, inr}
use Rattle.std.proofs.lemmas.Bool.{cases_order, false≢true}
use Rattle.std.proofs.lemmas.List.{take-take}
use Rattle.sw_refute.specs.declared.check.StepsVerdict.{StepsVerdict}
use Rattle.sw_refute.specs.declared.check.StepsVerdict.TheVariants.{Accepted, Refused}
use Rattle.sw_refute.specs.declared.clauses.Cnf.{Cnf}
use Rattle.sw_refute.specs.declared.clauses.Derived.{Derived}
use Rattle.sw_refute.specs.Propagation.{IsAccepted, AreAccepted, EndsEmpty, clauses_of}
use Rattle.sw_refute.specs.Verdict.{Judges, IsFirstRefused, Implies}
use Rattle.sw_lists.proofs.Places.{get_some, get_front}
use Rattle.sw_refute.proofs.Accepting.{accepted_at}
use Rattle.sw_refute.proofs.Following.{steps_follow, empty_refutes}

same_bools : (P : Type 0) (b c : Bool) → IsTrue b ↔ P → IsTrue c ↔ P → b ≡ c
same_bools P true true f g = refl
same_bools P false false f g = refl
same_bools P true false f g = absurd (false≢true (g.1 (f.0 refl)))
same_bools P false true f g = absurd (false≢true (f.1 (g.0 refl)))

not_refused : (cnf : Cnf) (steps : List Derived) (k : ℕ) → AreAccepted cnf.variables cnf.clauses steps → IsFirstRefused cnf steps k → ⊥
not_refused cnf steps k a r =
    let s = get_some steps k r.within in
    r.here s.0 s.1 (accepted_at cnf.variables cnf.clauses steps k s.0 a s.1)

not_before : (cnf : Cnf) (steps : List Derived) (j k : ℕ) → IsFirstRefused cnf steps j → IsFirstRefused cnf steps k → j < k → ⊥
not_before cnf steps j k r q h =
    let s = get_some steps j r.within in
    r.here s.0 s.1
    (subst (λ ts. IsAccepted cnf.variables (cnf.clauses ++ clauses_of ts) s.0) (take-take j k steps (omega arith))
    (accepted_at cnf.variables cnf.clauses (take k steps) j s.0 q.before (get_front k steps j h ∙ s.1)))

pub one_verdict : (cnf : Cnf) (steps : List Derived) (v w : StepsVerdict) → Judges cnf steps v → Judges cnf steps w → v ≡ w
one_verdict cnf steps (Accepted b) (Accepted c) f g = ap Accepted (same_bools (EndsEmpty steps) b c f.1 g.1)
one_verdict cnf steps (Accepted b) (Refused k) f g = absurd (not_refused cnf steps k f.0 g)
one_verdict cnf steps (Refused j) (Accepted c) f g = absurd (not_refused cnf steps j g.0 f)
one_verdict cnf steps (Refused j) (Refused k) f g = elim (cases_order j k) [
  | inl e ↦ ap Refused e
  | inr other ↦ elim other [
    | inl h ↦ absurd (not_before cnf steps j k f g h)
    | inr h ↦ absurd (not_before cnf steps k j g f h)
  ]
]

pub implied : (cnf : Cnf) (steps : List Derived) (v : StepsVerdict) → Judges cnf steps v → Implies cnf steps v
implied cnf steps (Accepted b) f =
    (steps_follow cnf.variables cnf.clauses steps f.0, λ t. empty_refutes cnf.variables cnf.clauses steps f.0 (f.1.0 t))
implied cnf steps (Refused k) f = tt
