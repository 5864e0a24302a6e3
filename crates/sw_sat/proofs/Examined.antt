-- What a front of a clause is under a trail.
use Rattle.std.specs.Prelude.{◌≡◌, ◌+◌, ◌<◌, ◌⊎◌, ℕ, true, false, List, [], ◌∷◌, ◌++◌, length, take, All, Contains}
use Rattle.std.proofs.Common.{refl, sym, ap, ◌∙◌, inl, inr, subst, get_or, eqb, drop}
use Rattle.std.proofs.lemmas.List.{take_more, take-append-drop}
use Rattle.std.proofs.lemmas.List.Elements.{All-push, All-weaker, Contains-append_left, Contains-push, Contains-get_or}
use Rattle.std.proofs.lemmas.Bool.{eqb-true, eqb-false}
use Rattle.sw_refute.specs.declared.clauses.Lit.{Lit}
use Rattle.sw_refute.specs.declared.clauses.Clause.{Clause}
use Rattle.sw_refute.specs.Propagation.{IsFalse, IsUnit}
use Rattle.sw_sat.specs.declared.propagate.Standing.{Standing}
use Rattle.sw_sat.specs.declared.propagate.Standing.TheVariants as standing
use Rattle.sw_sat.specs.Standing.{StandsAs}
use Rattle.sw_sat.specs.Trail.{IsUnassigned, IsOpenClause}
use Rattle.sw_refute.proofs.Literals.{same_literal}

-- no literal of the front is true, and no two are unassigned
abbrev pub StandsSoFar : List Lit → List Lit → Standing → Type 0
StandsSoFar known front standing.Satisfied = ⊥
StandsSoFar known front standing.Open = ⊥
StandsSoFar known front (standing.Unit l) = IsUnit known (record { lits = front }) l
StandsSoFar known front standing.Falsified = All (IsFalse known) front

module _ (known : List Lit) where
  false_more : (front : List Lit) (l : Lit) (s : Standing) → StandsSoFar known front s → IsFalse known l → StandsSoFar known (front ++ l ∷ []) s
  false_more front l standing.Satisfied a f = a
  false_more front l standing.Open a f = a
  false_more front l (standing.Unit m) a f = record {
    among = Contains-append_left front (l ∷ []) m a.among;
    unassigned = a.unassigned;
    others = All-push (λ n. (n ≡ m) ⊎ IsFalse known n) front l a.others (inr f);
  }
  false_more front l standing.Falsified a f = All-push (IsFalse known) front l a f

  same_more : (front : List Lit) (l : Lit) → StandsSoFar known front (standing.Unit l) → StandsSoFar known (front ++ l ∷ []) (standing.Unit l)
  same_more front l a = record {
    among = Contains-append_left front (l ∷ []) l a.among;
    unassigned = a.unassigned;
    others = All-push (λ n. (n ≡ l) ⊎ IsFalse known n) front l a.others (inl refl);
  }

  unit_more : (front : List Lit) (l : Lit) → StandsSoFar known front standing.Falsified → IsUnassigned known l → StandsSoFar known (front ++ l ∷ []) (standing.Unit l)
  unit_more front l a u = record {
    among = Contains-push front l;
    unassigned = u;
    others = All-push (λ n. (n ≡ l) ⊎ IsFalse known n) front l (All-weaker (IsFalse known) (λ n. (n ≡ l) ⊎ IsFalse known n) (λ n f. inr f) front a) (inl refl);
  }

  pub stands_at_end : (c : Clause) (s : Standing) → StandsSoFar known c.lits s → StandsAs known c s
  stands_at_end c standing.Satisfied a = absurd a
  stands_at_end c standing.Open a = absurd a
  stands_at_end c (standing.Unit l) a = a
  stands_at_end c standing.Falsified a = a

  module _ (items : List Lit) (c : Clause) (same : items ≡ c.lits) (k : ℕ) (d : Lit) (h : k < length items) where
    next : take (k + 1) c.lits ≡ take k c.lits ++ get_or items k d ∷ []
    next = subst (λ ls. take (k + 1) ls ≡ take k ls ++ get_or items k d ∷ []) same (take_more items k d h)

    among_next : Contains c.lits (get_or items k d)
    among_next = subst (λ ls. Contains ls (get_or items k d)) same (Contains-get_or items k d h)

    pub goes_false : (s t : Standing) → StandsSoFar known (take k c.lits) s → IsFalse known (get_or items k d) → t ≡ s → StandsSoFar known (take (k + 1) c.lits) t
    goes_false s t a f e = subst (λ ls. StandsSoFar known ls t) (sym next) (subst (StandsSoFar known (take k c.lits ++ get_or items k d ∷ [])) (sym e) (false_more (take k c.lits) (get_or items k d) s a f))

    pub goes_same : (s t : Standing) (l : Lit) → StandsSoFar known (take k c.lits) s → s ≡ standing.Unit l → eqb l.0 (get_or items k d).0 ≡ true → t ≡ standing.Unit l → StandsSoFar known (take (k + 1) c.lits) t
    goes_same s t l a u q e =
        let i : l ≡ get_or items k d = same_literal l (get_or items k d) (eqb-true l.0 (get_or items k d).0 q) in
        let v : s ≡ standing.Unit (get_or items k d) = u ∙ ap (λ m. standing.Unit m) i in
        subst (λ ls. StandsSoFar known ls t) (sym next) (subst (StandsSoFar known (take k c.lits ++ get_or items k d ∷ [])) (sym (e ∙ ap (λ m. standing.Unit m) i))
        (same_more (take k c.lits) (get_or items k d) (subst (StandsSoFar known (take k c.lits)) v a)))

    pub goes_unit : (s t : Standing) → StandsSoFar known (take k c.lits) s → ((l : Lit) → s ≡ standing.Unit l → ⊥) → IsUnassigned known (get_or items k d) → t ≡ standing.Unit (get_or items k d)
        → StandsSoFar known (take (k + 1) c.lits) t
    goes_unit s t a none u e = subst (λ ls. StandsSoFar known ls t) (sym next) (subst (StandsSoFar known (take k c.lits ++ get_or items k d ∷ [])) (sym e)
        (unit_more (take k c.lits) (get_or items k d) (falsified s a none) u))
      where
        falsified : (s : Standing) → StandsSoFar known (take k c.lits) s → ((l : Lit) → s ≡ standing.Unit l → ⊥) → StandsSoFar known (take k c.lits) standing.Falsified
        falsified standing.Satisfied a none = absurd a
        falsified standing.Open a none = absurd a
        falsified (standing.Unit l) a none = absurd (none l refl)
        falsified standing.Falsified a none = a

    pub is_open : (s : Standing) (l : Lit) → StandsSoFar known (take k c.lits) s → s ≡ standing.Unit l → eqb l.0 (get_or items k d).0 ≡ false → IsUnassigned known (get_or items k d) → IsOpenClause known c
    is_open s l a u q free =
        let b : IsUnit known (record { lits = take k c.lits }) l = subst (StandsSoFar known (take k c.lits)) u a in
        record {
          first = l;
          second = get_or items k d;
          differ = λ e. eqb-false l.0 (get_or items k d).0 q (ap (λ (x : Lit). x.0) e);
          among = (among_front_of b.among, among_next);
          unassigned = (b.unassigned, free);
        }
      where
        among_front_of : Contains (take k c.lits) l → Contains c.lits l
        among_front_of x = subst (λ ls. Contains ls l) (take-append-drop k c.lits) (Contains-append_left (take k c.lits) (drop k c.lits) l x)
