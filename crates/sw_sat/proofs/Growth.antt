-- How a trail grows.
use Rattle.std.specs.Prelude.{◌≡◌, ◌+◌, ◌<◌, ◌≤◌, ℕ, List, [], ◌∷◌, ◌++◌, length, None, Some, slice_get, vec_capacity}
use Rattle.std.specs.List.{AllByRecursion}
use Rattle.std.proofs.Common.{refl, sym, ap, ◌∙◌, inl, inr, subst, arith, append_assoc, length-append}
use Rattle.std.proofs.lemmas.List.{length_push}
use Rattle.std.proofs.lemmas.List.Elements.{All-contains}
use Rattle.std.proofs.lemmas.Option.{same_Some}
use Rattle.sw_refute.specs.declared.clauses.Clause.{Clause}
use Rattle.sw_refute.specs.declared.clauses.Lit.{Lit}
use Rattle.sw_refute.specs.Satisfaction.{variable, IsOver}
use Rattle.sw_refute.specs.Propagation.{IsUnit}
use Rattle.sw_sat.specs.declared.propagate.Standing.{Standing}
use Rattle.sw_sat.specs.declared.propagate.Standing.TheVariants as standing
use Rattle.sw_sat.specs.declared.trail.Entry.{Entry}
use Rattle.sw_sat.specs.declared.trail.Trail.{Trail}
use Rattle.sw_sat.specs.Standing.{StandsAs}
use Rattle.sw_sat.specs.Trail.{literals, IsSettled, MayFollow, IsTrail, Agrees, IsState, Grows}
use Rattle.sw_sat.proofs.Founded.{push_trail, short}

pub settled_of : (known : List Lit) (c : Clause) (s : Standing) → StandsAs known c s → ((l : Lit) → s ≡ standing.Unit l → ⊥) → (s ≡ standing.Falsified → ⊥) → IsSettled known c
settled_of known c standing.Satisfied a unit false = inl a
settled_of known c standing.Open a unit false = inr a
settled_of known c (standing.Unit l) a unit false = absurd (unit l refl)
settled_of known c standing.Falsified a unit false = absurd (false refl)

pub grows_more : (old mid new : List Entry) → Grows old mid → Grows mid new → Grows old new
grows_more old mid new g h = record {
  more = g.more ++ h.more;
  is = h.is ∙ ap (λ es. es ++ h.more) g.is ∙ append_assoc old g.more h.more;
  forced = all_forced g.more g.forced;
}
  where
    all_forced : (more : List Entry) → AllByRecursion (λ (x : Entry). x.reason ≡ None → ⊥) more → AllByRecursion (λ (x : Entry). x.reason ≡ None → ⊥) (more ++ h.more)
    all_forced [] a = h.forced
    all_forced (x ∷ more) a = (a.0, all_forced more a.1)

pub grows_length : (old new : List Entry) → Grows old new → length old ≤ length new
grows_length old new g = let n : length new ≡ length old + length g.more = ap length g.is ∙ length-append old g.more in omega arith

module _ (variables : ℕ) (clauses : List Clause) where
  pub unit_follows : (entries : List Entry) (number : ℕ) (c : Clause) (l : Lit) → slice_get clauses number ≡ Some c → IsUnit (literals entries) c l → IsOver variables c
      → MayFollow variables clauses entries (record { lit = l; reason = Some number })
  unit_follows entries number c l is unit over = record {
    over = All-contains (λ (m : Lit). variable m < variables) c.lits l over unit.among;
    unassigned = unit.unassigned;
    forced = λ n h. record { clause = c; is = subst (λ (m : ℕ). slice_get clauses m ≡ Some c) (same_Some number n h) is; unit = unit };
    decided = λ h. absurd (cc);
    lowest = λ h. absurd (cc);
  }

  pub room_left : (entries : List Entry) (e : Entry) → IsTrail variables clauses entries → MayFollow variables clauses entries e → length entries < variables
  room_left entries e t m =
      let s : length (entries ++ e ∷ []) ≤ variables = short variables clauses (entries ++ e ∷ []) (push_trail variables clauses entries t e m) in
      omega (arith, length_push entries e)

  pub state_push : (old new : Trail) (e : Entry) → IsState variables clauses old → MayFollow variables clauses old.entries.items e → new.entries.items ≡ old.entries.items ++ e ∷ []
      → Agrees new → length new.values.items ≡ length old.values.items → vec_capacity new.entries ≡ vec_capacity old.entries → IsState variables clauses new
  state_push old new e s m is agrees size room = record {
    founded = subst (IsTrail variables clauses) (sym is) (push_trail variables clauses old.entries.items s.founded e m);
    agrees = agrees;
    size = size ∙ s.size;
    room = subst (λ n. variables ≤ n) (sym room) s.room;
  }
