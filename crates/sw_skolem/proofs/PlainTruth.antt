-- The negation normal form is true exactly where the formula, or its negation, is.
use Rattle.std.specs.Prelude.{◌≡◌, ℕ, Bool, true, false, not, cond, ◌&&◌, ◌||◌, List, [], ◌∷◌, ◌++◌, map}
use Rattle.std.specs.List.{list_all, list_any, AllByRecursion}
use Rattle.std.proofs.Common.{rules, arith, refl, sym, ap, subst, ◌∙◌, inl, inr}
use Rattle.std.proofs.lemmas.Bool.{cases_Bool, both_ways, false_from_ne_true, true_from_ne_false}
use Rattle.sw_logic.specs.declared.syntax.Binder.{Binder}
use Rattle.sw_logic.specs.declared.syntax.Formula.{Formula, roll-Formula, map-Formula, the_lemmas}
use Rattle.sw_logic.specs.declared.syntax.Formula.TheOpen.{Formula-F}
use Rattle.sw_logic.specs.declared.syntax.Formula.TheFolds.{ind-Formula}
use Rattle.sw_logic.specs.declared.syntax.Formula.TheVariants.{True, False, Holds, Equal, Not, All, Any, Implies, Iff, ForAll, Exists}
use Rattle.sw_logic.specs.declared.syntax.Formula.TheVariants.{rolls-True, rolls-False, rolls-Holds, rolls-Equal, rolls-Not, rolls-All, rolls-Any, rolls-Implies, rolls-Iff, rolls-ForAll, rolls-Exists}
use Rattle.sw_logic.specs.Truth.{World, truth, for_all, exists}
use Rattle.sw_logic.proofs.Ranges.{for_all-at, for_all-from, exists-some, exists-at}
use Rattle.sw_logic.proofs.Steps as steps
use Rattle.sw_skolem.specs.Normal.{signed}
use Rattle.sw_skolem.specs.Absorbing.{plain_nnf_of}
use Rattle.sw_skolem.specs.Laws.{signed_truth}
use Rattle.sw_lists.proofs.Each.{each-pairs}
use Rattle.sw_truth.proofs.Truths.{truth-True, truth-False, truth-Not, for_all-same, exists-same}
use Rattle.sw_skolem.proofs.PlainSteps.{plain-True, plain-False, plain-Holds, plain-Equal, plain-Not, plain-All, plain-Any, plain-Implies, plain-Iff, plain-not_Iff, plain-ForAll, plain-Exists}

not_twice : (b : Bool) → b ≡ not (not b)
not_twice true = refl
not_twice false = refl

module _ (w : World) where
  -- the truth of a formula, or of its negation
  abbrev said : Bool → List ℕ → Formula → Bool
  said c env f = signed_truth c (truth w f env)

  abbrev Keeps : Formula → Type 0
  Keeps f = (c : Bool) (env : List ℕ) → truth w (plain_nnf_of f c) env ≡ said c env f

  -- it is this formula
  by : (f : Formula) (c : Bool) (env : List ℕ) (g : Formula) → plain_nnf_of f c ≡ g → truth w g env ≡ said c env f → truth w (plain_nnf_of f c) env ≡ said c env f
  by f c env g e same = ap (λ (h : Formula). truth w h env) e ∙ same

  true_keeps : Keeps True
  true_keeps true env = by True true env True (plain-True true) refl
  true_keeps false env = by True false env False (plain-True false) (truth-False w env ∙ ap not (sym (truth-True w env)))

  false_keeps : Keeps False
  false_keeps true env = by False true env False (plain-False true) refl
  false_keeps false env = by False false env True (plain-False false) (truth-True w env ∙ ap not (sym (truth-False w env)))

  signed_keeps : (f : Formula) → ((c : Bool) → plain_nnf_of f c ≡ signed c f) → Keeps f
  signed_keeps f e true env = by f true env f (e true) refl
  signed_keeps f e false env = by f false env (Not f) (e false) (truth-Not w f env)

  not_keeps : (p : Formula) → Keeps p → Keeps (Not p)
  not_keeps p h true env = by (Not p) true env (plain_nnf_of p false) (plain-Not p true) (h false env ∙ sym (truth-Not w p env))
  not_keeps p h false env = by (Not p) false env (plain_nnf_of p true) (plain-Not p false) (h true env ∙ (not_twice (truth w p env) ∙ ap not (sym (truth-Not w p env))))

  -- the parts of a conjunction or a disjunction
  abbrev parts_of : Bool → List Formula → List Formula
  parts_of c ps = map (λ (p : Formula). plain_nnf_of p c) ps

  all_same : (env : List ℕ) (ps : List Formula) → AllByRecursion Keeps ps → list_all (λ p. truth w p env) (parts_of true ps) ≡ list_all (λ p. truth w p env) ps
  all_same env [] h = refl
  all_same env (p ∷ ps) h = cc (h.0 true env, all_same env ps h.1)

  any_same : (env : List ℕ) (ps : List Formula) → AllByRecursion Keeps ps → list_any (λ p. truth w p env) (parts_of true ps) ≡ list_any (λ p. truth w p env) ps
  any_same env [] h = refl
  any_same env (p ∷ ps) h = cc (h.0 true env, any_same env ps h.1)

  or_not : (b c : Bool) → (not b || not c) ≡ not (b && c)
  or_not true c = refl
  or_not false c = refl

  and_not : (b c : Bool) → (not b && not c) ≡ not (b || c)
  and_not true c = refl
  and_not false c = refl

  any_not : (env : List ℕ) (ps : List Formula) → AllByRecursion Keeps ps → list_any (λ p. truth w p env) (parts_of false ps) ≡ not (list_all (λ p. truth w p env) ps)
  any_not env [] h = refl
  any_not env (p ∷ ps) h =
      let here = h.0 false env in
      let rest = any_not env ps h.1 in
      ap (λ (b : Bool). b || list_any (λ q. truth w q env) (parts_of false ps)) here
      ∙ (ap (λ (b : Bool). not (truth w p env) || b) rest ∙ or_not (truth w p env) (list_all (λ q. truth w q env) ps))

  all_not : (env : List ℕ) (ps : List Formula) → AllByRecursion Keeps ps → list_all (λ p. truth w p env) (parts_of false ps) ≡ not (list_any (λ p. truth w p env) ps)
  all_not env [] h = refl
  all_not env (p ∷ ps) h =
      let here = h.0 false env in
      let rest = all_not env ps h.1 in
      ap (λ (b : Bool). b && list_all (λ q. truth w q env) (parts_of false ps)) here
      ∙ (ap (λ (b : Bool). not (truth w p env) && b) rest ∙ and_not (truth w p env) (list_any (λ q. truth w q env) ps))

  all_keeps : (ps : List Formula) → AllByRecursion Keeps ps → Keeps (All ps)
  all_keeps ps h true env = by (All ps) true env (All (parts_of true ps)) (plain-All ps true) (steps.truth-All w (parts_of true ps) env ∙ (all_same env ps h ∙ sym (steps.truth-All w ps env)))
  all_keeps ps h false env = by (All ps) false env (Any (parts_of false ps)) (plain-All ps false) (steps.truth-Any w (parts_of false ps) env ∙ (any_not env ps h ∙ ap not (sym (steps.truth-All w ps env))))

  any_keeps : (ps : List Formula) → AllByRecursion Keeps ps → Keeps (Any ps)
  any_keeps ps h true env = by (Any ps) true env (Any (parts_of true ps)) (plain-Any ps true) (steps.truth-Any w (parts_of true ps) env ∙ (any_same env ps h ∙ sym (steps.truth-Any w ps env)))
  any_keeps ps h false env = by (Any ps) false env (All (parts_of false ps)) (plain-Any ps false) (steps.truth-All w (parts_of false ps) env ∙ (all_not env ps h ∙ ap not (sym (steps.truth-Any w ps env))))

  -- two parts
  and_true : (b c : Bool) → (b && (c && true)) ≡ (b && c)
  and_true b c = grind arith

  or_false : (b c : Bool) → (b || (c || false)) ≡ (b || c)
  or_false b c = grind arith

  both_truth : (p q : Formula) (b c : Bool) (env : List ℕ) → truth w p env ≡ b → truth w q env ≡ c → truth w (All (p ∷ q ∷ [])) env ≡ (b && c)
  both_truth p q b c env e h = steps.truth-All w (p ∷ q ∷ []) env ∙ (and_true (truth w p env) (truth w q env) ∙ (ap (λ (x : Bool). x && truth w q env) e ∙ ap (λ (x : Bool). b && x) h))

  either_truth : (p q : Formula) (b c : Bool) (env : List ℕ) → truth w p env ≡ b → truth w q env ≡ c → truth w (Any (p ∷ q ∷ [])) env ≡ (b || c)
  either_truth p q b c env e h = steps.truth-Any w (p ∷ q ∷ []) env ∙ (or_false (truth w p env) (truth w q env) ∙ (ap (λ (x : Bool). x || truth w q env) e ∙ ap (λ (x : Bool). b || x) h))

  implied_truth : (p q : Formula) (env : List ℕ) → truth w (Implies p q) env ≡ (not (truth w p env) || truth w q env)
  implied_truth p q env = search (rules, the_lemmas)

  iff_truth : (p q : Formula) (env : List ℕ) → truth w (Iff p q) env ≡ cond (truth w p env) (truth w q env) (not (truth w q env))
  iff_truth p q env = search (rules, the_lemmas)

  not_implied : (b c : Bool) → (b && not c) ≡ not (not b || c)
  not_implied true c = refl
  not_implied false c = refl

  agrees : (b c : Bool) → ((not b || c) && (not c || b)) ≡ cond b c (not c)
  agrees true true = refl
  agrees true false = refl
  agrees false true = refl
  agrees false false = refl

  differs : (b c : Bool) → ((b && not c) || (c && not b)) ≡ not (cond b c (not c))
  differs true true = refl
  differs true false = refl
  differs false true = refl
  differs false false = refl

  implies_keeps : (p q : Formula) → Keeps p → Keeps q → Keeps (Implies p q)
  implies_keeps p q h k true env =
      by (Implies p q) true env (Any (plain_nnf_of p false ∷ plain_nnf_of q true ∷ [])) (plain-Implies p q true)
      (either_truth (plain_nnf_of p false) (plain_nnf_of q true) (not (truth w p env)) (truth w q env) env (h false env) (k true env) ∙ sym (implied_truth p q env))
  implies_keeps p q h k false env =
      by (Implies p q) false env (All (plain_nnf_of p true ∷ plain_nnf_of q false ∷ [])) (plain-Implies p q false)
      (both_truth (plain_nnf_of p true) (plain_nnf_of q false) (truth w p env) (not (truth w q env)) env (h true env) (k false env)
      ∙ (not_implied (truth w p env) (truth w q env) ∙ ap not (sym (implied_truth p q env))))

  iff_keeps : (p q : Formula) → Keeps p → Keeps q → Keeps (Iff p q)
  iff_keeps p q h k true env =
      let b = truth w p env in
      let c = truth w q env in
      let left = either_truth (plain_nnf_of p false) (plain_nnf_of q true) (not b) c env (h false env) (k true env) in
      let right = either_truth (plain_nnf_of q false) (plain_nnf_of p true) (not c) b env (k false env) (h true env) in
      by (Iff p q) true env (All (Any (plain_nnf_of p false ∷ plain_nnf_of q true ∷ []) ∷ Any (plain_nnf_of q false ∷ plain_nnf_of p true ∷ []) ∷ [])) (plain-Iff p q)
      (both_truth (Any (plain_nnf_of p false ∷ plain_nnf_of q true ∷ [])) (Any (plain_nnf_of q false ∷ plain_nnf_of p true ∷ [])) (not b || c) (not c || b) env left right
      ∙ (agrees b c ∙ sym (iff_truth p q env)))
  iff_keeps p q h k false env =
      let b = truth w p env in
      let c = truth w q env in
      let left = both_truth (plain_nnf_of p true) (plain_nnf_of q false) b (not c) env (h true env) (k false env) in
      let right = both_truth (plain_nnf_of q true) (plain_nnf_of p false) c (not b) env (k true env) (h false env) in
      by (Iff p q) false env (Any (All (plain_nnf_of p true ∷ plain_nnf_of q false ∷ []) ∷ All (plain_nnf_of q true ∷ plain_nnf_of p false ∷ []) ∷ [])) (plain-not_Iff p q)
      (either_truth (All (plain_nnf_of p true ∷ plain_nnf_of q false ∷ [])) (All (plain_nnf_of q true ∷ plain_nnf_of p false ∷ [])) (b && not c) (c && not b) env left right
      ∙ (differs b c ∙ ap not (sym (iff_truth p q env))))

  -- quantifiers
  not_some : (sizes : List ℕ) (bs : List Binder) (p q : List ℕ → Bool) (env : List ℕ) → ((vs : List ℕ) → q vs ≡ not (p vs)) → exists sizes bs q env ≡ not (for_all sizes bs p env)
  not_some sizes bs p q env h =
      elim (cases_Bool (for_all sizes bs p env)) [
        | inl t ↦
            let none : exists sizes bs q env ≡ false = false_from_ne_true (exists sizes bs q env) (λ e.
            let s = exists-some sizes bs q env e in
            both_ways (q (env ++ s.0)) (h (env ++ s.0) ∙ ap not (for_all-at sizes bs p env s.0 t s.1)) s.2) in
            none ∙ ap not (sym t)
        | inr f ↦
            let some : exists sizes bs q env ≡ true = true_from_ne_false (exists sizes bs q env) (λ e.
            both_ways (for_all sizes bs p env) f (for_all-from sizes bs p env (λ vs v.
            true_from_ne_false (p (env ++ vs)) (λ g. both_ways (exists sizes bs q env) e (exists-at sizes bs q env vs v (h (env ++ vs) ∙ ap not g)))))) in
            some ∙ ap not (sym f)
      ]

  not_all : (sizes : List ℕ) (bs : List Binder) (p q : List ℕ → Bool) (env : List ℕ) → ((vs : List ℕ) → q vs ≡ not (p vs)) → for_all sizes bs q env ≡ not (exists sizes bs p env)
  not_all sizes bs p q env h =
      let back = not_some sizes bs q p env (λ vs. not_twice (p vs) ∙ ap not (sym (h vs))) in
      not_twice (for_all sizes bs q env) ∙ ap not (sym back)

  for_all_keeps : (bs : List Binder) (p : Formula) → Keeps p → Keeps (ForAll bs p)
  for_all_keeps bs p h true env =
      by (ForAll bs p) true env (ForAll bs (plain_nnf_of p true)) (plain-ForAll bs p true)
      (steps.truth-ForAll w bs (plain_nnf_of p true) env
      ∙ (for_all-same w.before.sizes bs (truth w (plain_nnf_of p true)) (truth w p) env env (λ vs. h true (env ++ vs)) ∙ sym (steps.truth-ForAll w bs p env)))
  for_all_keeps bs p h false env =
      by (ForAll bs p) false env (Exists bs (plain_nnf_of p false)) (plain-ForAll bs p false)
      (steps.truth-Exists w bs (plain_nnf_of p false) env
      ∙ (not_some w.before.sizes bs (truth w p) (truth w (plain_nnf_of p false)) env (h false) ∙ ap not (sym (steps.truth-ForAll w bs p env))))

  exists_keeps : (bs : List Binder) (p : Formula) → Keeps p → Keeps (Exists bs p)
  exists_keeps bs p h true env =
      by (Exists bs p) true env (Exists bs (plain_nnf_of p true)) (plain-Exists bs p true)
      (steps.truth-Exists w bs (plain_nnf_of p true) env
      ∙ (exists-same w.before.sizes bs (truth w (plain_nnf_of p true)) (truth w p) env env (λ vs. h true (env ++ vs)) ∙ sym (steps.truth-Exists w bs p env)))
  exists_keeps bs p h false env =
      by (Exists bs p) false env (ForAll bs (plain_nnf_of p false)) (plain-Exists bs p false)
      (steps.truth-ForAll w bs (plain_nnf_of p false) env
      ∙ (not_all w.before.sizes bs (truth w p) (truth w (plain_nnf_of p false)) env (h false) ∙ ap not (sym (steps.truth-Exists w bs p env))))

  layer : (y : Formula-F ((f : Formula) × Keeps f)) → Keeps (roll-Formula (map-Formula ((f : Formula) × Keeps f) Formula (λ e. e.0) y))
  layer Formula-F.True = subst Keeps (sym rolls-True) true_keeps
  layer Formula-F.False = subst Keeps (sym rolls-False) false_keeps
  layer (Formula-F.Holds k post args) = subst Keeps (sym (rolls-Holds k post args)) (signed_keeps (Holds k post args) (plain-Holds k post args))
  layer (Formula-F.Equal t u) = subst Keeps (sym (rolls-Equal t u)) (signed_keeps (Equal t u) (plain-Equal t u))
  layer (Formula-F.Not p) = subst Keeps (sym (rolls-Not p.0)) (not_keeps p.0 p.1)
  layer (Formula-F.All ps) = subst Keeps (sym (rolls-All (map (λ e. e.0) ps))) (all_keeps (map (λ e. e.0) ps) (each-pairs Keeps ps))
  layer (Formula-F.Any ps) = subst Keeps (sym (rolls-Any (map (λ e. e.0) ps))) (any_keeps (map (λ e. e.0) ps) (each-pairs Keeps ps))
  layer (Formula-F.Implies p q) = subst Keeps (sym (rolls-Implies p.0 q.0)) (implies_keeps p.0 q.0 p.1 q.1)
  layer (Formula-F.Iff p q) = subst Keeps (sym (rolls-Iff p.0 q.0)) (iff_keeps p.0 q.0 p.1 q.1)
  layer (Formula-F.ForAll bs p) = subst Keeps (sym (rolls-ForAll bs p.0)) (for_all_keeps bs p.0 p.1)
  layer (Formula-F.Exists bs p) = subst Keeps (sym (rolls-Exists bs p.0)) (exists_keeps bs p.0 p.1)

  pub keeps_truth : (f : Formula) → Keeps f
  keeps_truth = ind-Formula Keeps (λ x y is. subst (λ z. Keeps (roll-Formula z)) is (layer y))
