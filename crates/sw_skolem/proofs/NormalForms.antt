-- The negation normal form is normal, and true exactly where the formula, or its negation, is.
use Rattle.std.specs.Prelude.{◌≡◌, ℕ, Bool, true, false, not, cond, ◌&&◌, ◌||◌, List, [], ◌∷◌, ◌++◌, map}
use Rattle.std.specs.List.{list_all, list_any, filter, AllByRecursion}
use Rattle.std.proofs.Common.{rules, arith, refl, sym, ap, subst, ◌∙◌, inl, inr}
use Rattle.std.proofs.lemmas.Bool.{and_parts, or_cases, or_left, or_right, cases_Bool, cond_both, false≢true, both_ways, false_from_ne_true, true_from_ne_false}
use Rattle.sw_logic.specs.declared.syntax.Signature.{Signature}
use Rattle.sw_logic.specs.declared.syntax.Binder.{Binder}
use Rattle.sw_logic.specs.declared.syntax.Term.{Term}
use Rattle.sw_logic.specs.declared.syntax.Formula.{Formula, roll-Formula, map-Formula, the_lemmas}
use Rattle.sw_logic.specs.declared.syntax.Formula.TheOpen.{Formula-F}
use Rattle.sw_logic.specs.declared.syntax.Formula.TheFolds.{ind-Formula}
use Rattle.sw_logic.specs.declared.syntax.Formula.TheVariants.{True, False, Holds, Equal, Not, All, Any, Implies, Iff, ForAll, Exists}
use Rattle.sw_logic.specs.declared.syntax.Formula.TheVariants.{rolls-True, rolls-False, rolls-Holds, rolls-Equal, rolls-Not, rolls-All, rolls-Any, rolls-Implies, rolls-Iff, rolls-ForAll, rolls-Exists}
use Rattle.sw_logic.specs.Truth.{World, truth, for_all, exists}
use Rattle.sw_logic.specs.Sorted.{well_sorted, are_sorts, extended}
use Rattle.sw_logic.proofs.Ranges.{for_all-at, for_all-from, exists-some, exists-at}
use Rattle.sw_logic.proofs.Steps as steps
use Rattle.sw_skolem.specs.Normal.{is_true, is_false, all_of, any_of, conjunction, disjunction, universal, existential, nnf_of}
use Rattle.sw_skolem.specs.Laws.{signed_truth}
use Rattle.sw_truth.specs.Sorting.{IsAtom, IsNormal, AreNormal}
use Rattle.sw_truth.proofs.Growing.{Stage, at}
use Rattle.sw_truth.proofs.Truths.{truth-True, truth-False, truth-Not, for_all-same, exists-same}
use Rattle.sw_truth.proofs.Inhabited.{AreSized, sized}
use Rattle.sw_truth.proofs.Critical.{critical_values}
use Rattle.sw_truth.proofs.Deriving.{holds_sorted, equal_sorted}
use Rattle.sw_lists.proofs.Each.{each-pairs}

-- which formulas are `true` and `false`
true-True : is_true True ≡ true
true-True = search (rules, the_lemmas)

false-False : is_false False ≡ true
false-False = search (rules, the_lemmas)

not_true-False : is_true False ≡ false
not_true-False = search (rules, the_lemmas)

not_false-True : is_false True ≡ false
not_false-True = search (rules, the_lemmas)

-- neither
pub record IsNeither (f : Formula) : Type 0 where
  pub not_true : is_true f ≡ false
  pub not_false : is_false f ≡ false

pub neither-Holds : (k : ℕ) (post : Bool) (args : List Term) → IsNeither (Holds k post args)
neither-Holds k post args = record { not_true = search (rules, the_lemmas); not_false = search (rules, the_lemmas) }

pub neither-Equal : (a b : Term) → IsNeither (Equal a b)
neither-Equal a b = record { not_true = search (rules, the_lemmas); not_false = search (rules, the_lemmas) }

pub neither-Not : (p : Formula) → IsNeither (Not p)
neither-Not p = record { not_true = search (rules, the_lemmas); not_false = search (rules, the_lemmas) }

pub neither-All : (ps : List Formula) → IsNeither (All ps)
neither-All ps = record { not_true = search (rules, the_lemmas); not_false = search (rules, the_lemmas) }

pub neither-Any : (ps : List Formula) → IsNeither (Any ps)
neither-Any ps = record { not_true = search (rules, the_lemmas); not_false = search (rules, the_lemmas) }

pub neither-ForAll : (bs : List Binder) (p : Formula) → IsNeither (ForAll bs p)
neither-ForAll bs p = record { not_true = search (rules, the_lemmas); not_false = search (rules, the_lemmas) }

pub neither-Exists : (bs : List Binder) (p : Formula) → IsNeither (Exists bs p)
neither-Exists bs p = record { not_true = search (rules, the_lemmas); not_false = search (rules, the_lemmas) }

pub not_constant : (f : Formula) → IsNeither f → (is_true f || is_false f) ≡ true → ⊥
not_constant f n e =
    elim (or_cases (is_true f) (is_false f) e) [ inl t ↦ both_ways (is_true f) n.not_true t | inr t ↦ both_ways (is_false f) n.not_false t ]

-- what the tests say of truth
record Tests (w : World) (f : Formula) : Type 0 where
  pub when_true : is_true f ≡ true → (env : List ℕ) → truth w f env ≡ true
  pub when_false : is_false f ≡ true → (env : List ℕ) → truth w f env ≡ false

neither_tests : (w : World) (f : Formula) → IsNeither f → Tests w f
neither_tests w f n = record { when_true = λ e. absurd (both_ways (is_true f) n.not_true e); when_false = λ e. absurd (both_ways (is_false f) n.not_false e) }

tests : (w : World) (sig : Signature) (sorts : List ℕ) (f : Formula) → IsNormal sig sorts f → Tests w f
tests w sig sorts f (IsNormal.truth s) = record { when_true = λ e env. truth-True w env; when_false = λ e. absurd (both_ways (is_false True) not_false-True e) }
tests w sig sorts f (IsNormal.falsity s) = record { when_true = λ e. absurd (both_ways (is_true False) not_true-False e); when_false = λ e env. truth-False w env }
tests w sig sorts f (IsNormal.atom s g (IsAtom.holds k t args e r h)) = neither_tests w (Holds k false args) (neither-Holds k false args)
tests w sig sorts f (IsNormal.atom s g (IsAtom.equal a b t h i)) = neither_tests w (Equal a b) (neither-Equal a b)
tests w sig sorts f (IsNormal.negated s g i) = neither_tests w (Not g) (neither-Not g)
tests w sig sorts f (IsNormal.all s ps n) = neither_tests w (All ps) (neither-All ps)
tests w sig sorts f (IsNormal.any s ps n) = neither_tests w (Any ps) (neither-Any ps)
tests w sig sorts f (IsNormal.for_all s bs p k n) = neither_tests w (ForAll bs p) (neither-ForAll bs p)
tests w sig sorts f (IsNormal.exists s bs p k n) = neither_tests w (Exists bs p) (neither-Exists bs p)

-- a formula in a list of parts
all_of_truth : (w : World) (ps : List Formula) (env : List ℕ) → truth w (all_of ps) env ≡ list_all (λ p. truth w p env) ps
all_of_truth w [] env = truth-True w env
all_of_truth w (p ∷ []) env = grind arith
all_of_truth w (p ∷ q ∷ ps) env = steps.truth-All w (p ∷ q ∷ ps) env

any_of_truth : (w : World) (ps : List Formula) (env : List ℕ) → truth w (any_of ps) env ≡ list_any (λ p. truth w p env) ps
any_of_truth w [] env = truth-False w env
any_of_truth w (p ∷ []) env = grind arith
any_of_truth w (p ∷ q ∷ ps) env = steps.truth-Any w (p ∷ q ∷ ps) env

module _ (sig : Signature) (sorts : List ℕ) where
  all_of_normal : (ps : List Formula) → AreNormal sig sorts ps → IsNormal sig sorts (all_of ps)
  all_of_normal [] n = IsNormal.truth sorts
  all_of_normal (p ∷ []) (AreNormal.more s q qs n ns) = n
  all_of_normal (p ∷ q ∷ ps) n = IsNormal.all sorts (p ∷ q ∷ ps) n

  any_of_normal : (ps : List Formula) → AreNormal sig sorts ps → IsNormal sig sorts (any_of ps)
  any_of_normal [] n = IsNormal.falsity sorts
  any_of_normal (p ∷ []) (AreNormal.more s q qs n ns) = n
  any_of_normal (p ∷ q ∷ ps) n = IsNormal.any sorts (p ∷ q ∷ ps) n

  filter_normal : (test : Formula → Bool) (ps : List Formula) → AreNormal sig sorts ps → AreNormal sig sorts (filter test ps)
  filter_normal test ps (AreNormal.none s) = AreNormal.none s
  filter_normal test ps (AreNormal.more s q qs n ns) =
      cond_both (test q) (q ∷ filter test qs) (filter test qs) (AreNormal sig sorts) (λ e. AreNormal.more sorts q (filter test qs) n (filter_normal test qs ns)) (λ e. filter_normal test qs ns)

  conjunction_normal : (ps : List Formula) → AreNormal sig sorts ps → IsNormal sig sorts (conjunction ps)
  conjunction_normal ps n =
      cond_both (list_any is_false ps) False (all_of (filter (λ p. not (is_true p)) ps)) (IsNormal sig sorts) (λ e. IsNormal.falsity sorts)
      (λ e. all_of_normal (filter (λ p. not (is_true p)) ps) (filter_normal (λ p. not (is_true p)) ps n))

  disjunction_normal : (ps : List Formula) → AreNormal sig sorts ps → IsNormal sig sorts (disjunction ps)
  disjunction_normal ps n =
      cond_both (list_any is_true ps) True (any_of (filter (λ p. not (is_false p)) ps)) (IsNormal sig sorts) (λ e. IsNormal.truth sorts)
      (λ e. any_of_normal (filter (λ p. not (is_false p)) ps) (filter_normal (λ p. not (is_false p)) ps n))

  module _ (w : World) (env : List ℕ) where
    some_false : (ps : List Formula) → AreNormal sig sorts ps → list_any is_false ps ≡ true → list_all (λ p. truth w p env) ps ≡ false
    some_false ps (AreNormal.none s) e = absurd (false≢true e)
    some_false ps (AreNormal.more s q qs n ns) e =
        elim (or_cases (is_false q) (list_any is_false qs) e) [
          | inl f ↦ let here = (tests w sig sorts q n).when_false f env in grind (arith, here)
          | inr f ↦ let there = some_false qs ns f in grind (arith, there)
        ]

    some_true : (ps : List Formula) → AreNormal sig sorts ps → list_any is_true ps ≡ true → list_any (λ p. truth w p env) ps ≡ true
    some_true ps (AreNormal.none s) e = absurd (false≢true e)
    some_true ps (AreNormal.more s q qs n ns) e =
        elim (or_cases (is_true q) (list_any is_true qs) e) [
          | inl f ↦ or_left (truth w q env) _ ((tests w sig sorts q n).when_true f env)
          | inr f ↦ or_right (truth w q env) _ (some_true qs ns f)
        ]

    without_true : (ps : List Formula) → AreNormal sig sorts ps → list_all (λ p. truth w p env) (filter (λ p. not (is_true p)) ps) ≡ list_all (λ p. truth w p env) ps
    without_true ps (AreNormal.none s) = refl
    without_true ps (AreNormal.more s q qs n ns) =
        let rest = without_true qs ns in
        elim (cases_Bool (is_true q)) [
          | inl t ↦ let here = (tests w sig sorts q n).when_true t env in grind (arith, here, rest, t)
          | inr f ↦ grind (arith, rest, f)
        ]

    without_false : (ps : List Formula) → AreNormal sig sorts ps → list_any (λ p. truth w p env) (filter (λ p. not (is_false p)) ps) ≡ list_any (λ p. truth w p env) ps
    without_false ps (AreNormal.none s) = refl
    without_false ps (AreNormal.more s q qs n ns) =
        let rest = without_false qs ns in
        elim (cases_Bool (is_false q)) [
          | inl t ↦ let here = (tests w sig sorts q n).when_false t env in grind (arith, here, rest, t)
          | inr f ↦ grind (arith, rest, f)
        ]

    conjunction_truth : (ps : List Formula) → AreNormal sig sorts ps → truth w (conjunction ps) env ≡ list_all (λ p. truth w p env) ps
    conjunction_truth ps n =
        cond_both (list_any is_false ps) False (all_of (filter (λ p. not (is_true p)) ps)) (λ f. truth w f env ≡ list_all (λ p. truth w p env) ps)
        (λ e. truth-False w env ∙ sym (some_false ps n e))
        (λ e. all_of_truth w (filter (λ p. not (is_true p)) ps) env ∙ without_true ps n)

    disjunction_truth : (ps : List Formula) → AreNormal sig sorts ps → truth w (disjunction ps) env ≡ list_any (λ p. truth w p env) ps
    disjunction_truth ps n =
        cond_both (list_any is_true ps) True (any_of (filter (λ p. not (is_false p)) ps)) (λ f. truth w f env ≡ list_any (λ p. truth w p env) ps)
        (λ e. truth-True w env ∙ sym (some_true ps n e))
        (λ e. any_of_truth w (filter (λ p. not (is_false p)) ps) env ∙ without_false ps n)

-- a quantifier over a part that is always true or always false
for_all_constant : (sizes : List ℕ) (bs : List Binder) (p : List ℕ → Bool) (env : List ℕ) (c : Bool) → AreSized sizes bs → ((vs : List ℕ) → p vs ≡ c) → c ≡ for_all sizes bs p env
for_all_constant sizes bs p env true h e = sym (for_all-from sizes bs p env (λ vs k. e (env ++ vs)))
for_all_constant sizes bs p env false h e =
    let c = critical_values sizes bs p env h in
    sym (false_from_ne_true (for_all sizes bs p env) (λ t. both_ways (p (env ++ c.0)) (e (env ++ c.0)) (for_all-at sizes bs p env c.0 t c.1)))

exists_constant : (sizes : List ℕ) (bs : List Binder) (p : List ℕ → Bool) (env : List ℕ) (c : Bool) → AreSized sizes bs → ((vs : List ℕ) → p vs ≡ c) → c ≡ exists sizes bs p env
exists_constant sizes bs p env true h e =
    let c = critical_values sizes bs p env h in
    sym (exists-at sizes bs p env c.0 c.1 (e (env ++ c.0)))
exists_constant sizes bs p env false h e =
    sym (false_from_ne_true (exists sizes bs p env) (λ t. let s = exists-some sizes bs p env t in both_ways (p (env ++ s.0)) (e (env ++ s.0)) s.2))

module _ (w : World) (sig : Signature) (sorts : List ℕ) (bs : List Binder) (p : Formula) (some : AreSized w.before.sizes bs) (n : IsNormal sig (extended sorts bs) p) where
  constant_truth : (is_true p || is_false p) ≡ true → (c : Bool) × ((env : List ℕ) → truth w p env ≡ c)
  constant_truth e =
      elim (or_cases (is_true p) (is_false p) e) [
        | inl t ↦ (true, (tests w sig (extended sorts bs) p n).when_true t)
        | inr f ↦ (false, (tests w sig (extended sorts bs) p n).when_false f)
      ]

  universal_truth : (env : List ℕ) → truth w (universal bs p) env ≡ for_all w.before.sizes bs (truth w p) env
  universal_truth env =
      cond_both (is_true p || is_false p) p (ForAll bs p) (λ f. truth w f env ≡ for_all w.before.sizes bs (truth w p) env)
      (λ e. let c = constant_truth e in c.1 env ∙ for_all_constant w.before.sizes bs (truth w p) env c.0 some c.1)
      (λ e. steps.truth-ForAll w bs p env)

  existential_truth : (env : List ℕ) → truth w (existential bs p) env ≡ exists w.before.sizes bs (truth w p) env
  existential_truth env =
      cond_both (is_true p || is_false p) p (Exists bs p) (λ f. truth w f env ≡ exists w.before.sizes bs (truth w p) env)
      (λ e. let c = constant_truth e in c.1 env ∙ exists_constant w.before.sizes bs (truth w p) env c.0 some c.1)
      (λ e. steps.truth-Exists w bs p env)

constant_normal : (sig : Signature) (other sorts : List ℕ) (p : Formula) → IsNormal sig other p → (is_true p || is_false p) ≡ true → IsNormal sig sorts p
constant_normal sig other sorts p (IsNormal.truth s) e = IsNormal.truth sorts
constant_normal sig other sorts p (IsNormal.falsity s) e = IsNormal.falsity sorts
constant_normal sig other sorts p (IsNormal.atom s g (IsAtom.holds k t args i r h)) e = absurd (not_constant (Holds k false args) (neither-Holds k false args) e)
constant_normal sig other sorts p (IsNormal.atom s g (IsAtom.equal a b t h i)) e = absurd (not_constant (Equal a b) (neither-Equal a b) e)
constant_normal sig other sorts p (IsNormal.negated s g i) e = absurd (not_constant (Not g) (neither-Not g) e)
constant_normal sig other sorts p (IsNormal.all s ps n) e = absurd (not_constant (All ps) (neither-All ps) e)
constant_normal sig other sorts p (IsNormal.any s ps n) e = absurd (not_constant (Any ps) (neither-Any ps) e)
constant_normal sig other sorts p (IsNormal.for_all s bs q k n) e = absurd (not_constant (ForAll bs q) (neither-ForAll bs q) e)
constant_normal sig other sorts p (IsNormal.exists s bs q k n) e = absurd (not_constant (Exists bs q) (neither-Exists bs q) e)

universal_normal : (sig : Signature) (sorts : List ℕ) (bs : List Binder) (p : Formula) → are_sorts sig bs ≡ true → IsNormal sig (extended sorts bs) p → IsNormal sig sorts (universal bs p)
universal_normal sig sorts bs p k n =
    cond_both (is_true p || is_false p) p (ForAll bs p) (IsNormal sig sorts) (λ e. constant_normal sig (extended sorts bs) sorts p n e) (λ e. IsNormal.for_all sorts bs p k n)

existential_normal : (sig : Signature) (sorts : List ℕ) (bs : List Binder) (p : Formula) → are_sorts sig bs ≡ true → IsNormal sig (extended sorts bs) p → IsNormal sig sorts (existential bs p)
existential_normal sig sorts bs p k n =
    cond_both (is_true p || is_false p) p (Exists bs p) (IsNormal sig sorts) (λ e. constant_normal sig (extended sorts bs) sorts p n e) (λ e. IsNormal.exists sorts bs p k n)

module _ (a : Stage) where
  -- the normal form of a formula, or of its negation, is normal and has its truth
  pub record Nnf (f : Formula) (sorts : List ℕ) (positive : Bool) : Type 0 where
    pub normal : IsNormal a.signature sorts (nnf_of f positive)
    pub same : (env : List ℕ) → truth (at a) (nnf_of f positive) env ≡ signed_truth positive (truth (at a) f env)

  abbrev pub HasNnf : Formula → Type 0
  HasNnf f = (sorts : List ℕ) → well_sorted a.signature false f sorts ≡ true → (positive : Bool) → Nnf f sorts positive

  -- it is this formula
  by : (f : Formula) (sorts : List ℕ) (positive : Bool) (g : Formula) → nnf_of f positive ≡ g → IsNormal a.signature sorts g
      → ((env : List ℕ) → truth (at a) g env ≡ signed_truth positive (truth (at a) f env)) → Nnf f sorts positive
  by f sorts positive g e n same = record {
    normal = subst (IsNormal a.signature sorts) (sym e) n;
    same = λ env. ap (λ h. truth (at a) h env) e ∙ same env;
  }

  true_nnf : HasNnf True
  true_nnf sorts e true = by True sorts true True (search (rules, the_lemmas)) (IsNormal.truth sorts) (λ env. refl)
  true_nnf sorts e false = by True sorts false False (search (rules, the_lemmas)) (IsNormal.falsity sorts) (λ env. truth-False (at a) env ∙ ap not (sym (truth-True (at a) env)))

  false_nnf : HasNnf False
  false_nnf sorts e true = by False sorts true False (search (rules, the_lemmas)) (IsNormal.falsity sorts) (λ env. refl)
  false_nnf sorts e false = by False sorts false True (search (rules, the_lemmas)) (IsNormal.truth sorts) (λ env. truth-True (at a) env ∙ ap not (sym (truth-False (at a) env)))

  holds_nnf : (k : ℕ) (post : Bool) (args : List Term) → HasNnf (Holds k post args)
  holds_nnf k post args sorts e true =
      let i = holds_sorted a.signature sorts k post args e in
      by (Holds k post args) sorts true (Holds k post args) (search (rules, the_lemmas))
      (subst (λ (b : Bool). IsNormal a.signature sorts (Holds k b args)) (sym i.0) (IsNormal.atom sorts (Holds k false args) i.1)) (λ env. refl)
  holds_nnf k post args sorts e false =
      let i = holds_sorted a.signature sorts k post args e in
      by (Holds k post args) sorts false (Not (Holds k post args)) (search (rules, the_lemmas))
      (subst (λ (b : Bool). IsNormal a.signature sorts (Not (Holds k b args))) (sym i.0) (IsNormal.negated sorts (Holds k false args) i.1)) (λ env. truth-Not (at a) (Holds k post args) env)

  equal_nnf : (t u : Term) → HasNnf (Equal t u)
  equal_nnf t u sorts e true =
      by (Equal t u) sorts true (Equal t u) (search (rules, the_lemmas)) (IsNormal.atom sorts (Equal t u) (equal_sorted a.signature sorts t u e)) (λ env. refl)
  equal_nnf t u sorts e false =
      by (Equal t u) sorts false (Not (Equal t u)) (search (rules, the_lemmas)) (IsNormal.negated sorts (Equal t u) (equal_sorted a.signature sorts t u e)) (λ env. truth-Not (at a) (Equal t u) env)

  not_twice : (b : Bool) → b ≡ not (not b)
  not_twice true = refl
  not_twice false = refl

  not_nnf : (p : Formula) → HasNnf p → HasNnf (Not p)
  not_nnf p h sorts e true =
      let sorted : well_sorted a.signature false (Not p) sorts ≡ well_sorted a.signature false p sorts = search (rules, the_lemmas) in
      let x = h sorts (sym sorted ∙ e) false in
      by (Not p) sorts true (nnf_of p false) (search (rules, the_lemmas)) x.normal (λ env. x.same env ∙ sym (truth-Not (at a) p env))
  not_nnf p h sorts e false =
      let sorted : well_sorted a.signature false (Not p) sorts ≡ well_sorted a.signature false p sorts = search (rules, the_lemmas) in
      let x = h sorts (sym sorted ∙ e) true in
      by (Not p) sorts false (nnf_of p true) (search (rules, the_lemmas)) x.normal (λ env. x.same env ∙ (not_twice (truth (at a) p env) ∙ ap not (sym (truth-Not (at a) p env))))

  -- the parts of a conjunction or a disjunction
  abbrev parts_of : Bool → List Formula → List Formula
  parts_of positive ps = map (λ (p : Bool → Formula). p positive) (map nnf_of ps)

  parts_normal : (ps : List Formula) → AllByRecursion HasNnf ps → (sorts : List ℕ) → list_all (λ p. well_sorted a.signature false p sorts) ps ≡ true → (positive : Bool)
      → AreNormal a.signature sorts (parts_of positive ps)
  parts_normal [] h sorts e positive = AreNormal.none sorts
  parts_normal (p ∷ ps) h sorts e positive =
      let sorted = and_parts (well_sorted a.signature false p sorts) (list_all (λ p. well_sorted a.signature false p sorts) ps) e in
      AreNormal.more sorts (nnf_of p positive) (parts_of positive ps) (h.0 sorts sorted.0 positive).normal (parts_normal ps h.1 sorts sorted.1 positive)

  all_same : (ps : List Formula) → AllByRecursion HasNnf ps → (sorts : List ℕ) → list_all (λ p. well_sorted a.signature false p sorts) ps ≡ true → (env : List ℕ)
      → list_all (λ p. truth (at a) p env) (parts_of true ps) ≡ list_all (λ p. truth (at a) p env) ps
  all_same [] h sorts e env = refl
  all_same (p ∷ ps) h sorts e env =
      let sorted = and_parts (well_sorted a.signature false p sorts) (list_all (λ p. well_sorted a.signature false p sorts) ps) e in
      cc ((h.0 sorts sorted.0 true).same env, all_same ps h.1 sorts sorted.1 env)

  any_same : (ps : List Formula) → AllByRecursion HasNnf ps → (sorts : List ℕ) → list_all (λ p. well_sorted a.signature false p sorts) ps ≡ true → (env : List ℕ)
      → list_any (λ p. truth (at a) p env) (parts_of true ps) ≡ list_any (λ p. truth (at a) p env) ps
  any_same [] h sorts e env = refl
  any_same (p ∷ ps) h sorts e env =
      let sorted = and_parts (well_sorted a.signature false p sorts) (list_all (λ p. well_sorted a.signature false p sorts) ps) e in
      cc ((h.0 sorts sorted.0 true).same env, any_same ps h.1 sorts sorted.1 env)

  not_both : (b c : Bool) → (not b || not c) ≡ not (b && c)
  not_both true c = refl
  not_both false c = refl

  not_either : (b c : Bool) → (not b && not c) ≡ not (b || c)
  not_either true c = refl
  not_either false c = refl

  any_not : (ps : List Formula) → AllByRecursion HasNnf ps → (sorts : List ℕ) → list_all (λ p. well_sorted a.signature false p sorts) ps ≡ true → (env : List ℕ)
      → list_any (λ p. truth (at a) p env) (parts_of false ps) ≡ not (list_all (λ p. truth (at a) p env) ps)
  any_not [] h sorts e env = refl
  any_not (p ∷ ps) h sorts e env =
      let sorted = and_parts (well_sorted a.signature false p sorts) (list_all (λ p. well_sorted a.signature false p sorts) ps) e in
      cc ((h.0 sorts sorted.0 false).same env, any_not ps h.1 sorts sorted.1 env) ∙ not_both (truth (at a) p env) (list_all (λ p. truth (at a) p env) ps)

  all_not : (ps : List Formula) → AllByRecursion HasNnf ps → (sorts : List ℕ) → list_all (λ p. well_sorted a.signature false p sorts) ps ≡ true → (env : List ℕ)
      → list_all (λ p. truth (at a) p env) (parts_of false ps) ≡ not (list_any (λ p. truth (at a) p env) ps)
  all_not [] h sorts e env = refl
  all_not (p ∷ ps) h sorts e env =
      let sorted = and_parts (well_sorted a.signature false p sorts) (list_all (λ p. well_sorted a.signature false p sorts) ps) e in
      cc ((h.0 sorts sorted.0 false).same env, all_not ps h.1 sorts sorted.1 env) ∙ not_either (truth (at a) p env) (list_any (λ p. truth (at a) p env) ps)

  all_nnf : (ps : List Formula) → AllByRecursion HasNnf ps → HasNnf (All ps)
  all_nnf ps h sorts e true =
      let sorted = sym (steps.sorted-All a.signature false ps sorts) ∙ e in
      let n = parts_normal ps h sorts sorted true in
      by (All ps) sorts true (conjunction (parts_of true ps)) (search (rules, the_lemmas)) (conjunction_normal a.signature sorts (parts_of true ps) n)
      (λ env. conjunction_truth a.signature sorts (at a) env (parts_of true ps) n ∙ (all_same ps h sorts sorted env ∙ sym (steps.truth-All (at a) ps env)))
  all_nnf ps h sorts e false =
      let sorted = sym (steps.sorted-All a.signature false ps sorts) ∙ e in
      let n = parts_normal ps h sorts sorted false in
      by (All ps) sorts false (disjunction (parts_of false ps)) (search (rules, the_lemmas)) (disjunction_normal a.signature sorts (parts_of false ps) n)
      (λ env. disjunction_truth a.signature sorts (at a) env (parts_of false ps) n ∙ (any_not ps h sorts sorted env ∙ ap not (sym (steps.truth-All (at a) ps env))))

  any_nnf : (ps : List Formula) → AllByRecursion HasNnf ps → HasNnf (Any ps)
  any_nnf ps h sorts e true =
      let sorted = sym (steps.sorted-Any a.signature false ps sorts) ∙ e in
      let n = parts_normal ps h sorts sorted true in
      by (Any ps) sorts true (disjunction (parts_of true ps)) (search (rules, the_lemmas)) (disjunction_normal a.signature sorts (parts_of true ps) n)
      (λ env. disjunction_truth a.signature sorts (at a) env (parts_of true ps) n ∙ (any_same ps h sorts sorted env ∙ sym (steps.truth-Any (at a) ps env)))
  any_nnf ps h sorts e false =
      let sorted = sym (steps.sorted-Any a.signature false ps sorts) ∙ e in
      let n = parts_normal ps h sorts sorted false in
      by (Any ps) sorts false (conjunction (parts_of false ps)) (search (rules, the_lemmas)) (conjunction_normal a.signature sorts (parts_of false ps) n)
      (λ env. conjunction_truth a.signature sorts (at a) env (parts_of false ps) n ∙ (all_not ps h sorts sorted env ∙ ap not (sym (steps.truth-Any (at a) ps env))))

  -- two parts
  pair_normal : (sorts : List ℕ) (p q : Formula) → IsNormal a.signature sorts p → IsNormal a.signature sorts q → AreNormal a.signature sorts (p ∷ q ∷ [])
  pair_normal sorts p q n m = AreNormal.more sorts p (q ∷ []) n (AreNormal.more sorts q [] m (AreNormal.none sorts))

  both_normal : (sorts : List ℕ) (p q : Formula) → IsNormal a.signature sorts p → IsNormal a.signature sorts q → IsNormal a.signature sorts (conjunction (p ∷ q ∷ []))
  both_normal sorts p q n m = conjunction_normal a.signature sorts (p ∷ q ∷ []) (pair_normal sorts p q n m)

  either_normal : (sorts : List ℕ) (p q : Formula) → IsNormal a.signature sorts p → IsNormal a.signature sorts q → IsNormal a.signature sorts (disjunction (p ∷ q ∷ []))
  either_normal sorts p q n m = disjunction_normal a.signature sorts (p ∷ q ∷ []) (pair_normal sorts p q n m)

  and_true : (b c : Bool) → (b && (c && true)) ≡ (b && c)
  and_true b c = grind arith

  or_false : (b c : Bool) → (b || (c || false)) ≡ (b || c)
  or_false b c = grind arith

  both_truth : (sorts : List ℕ) (p q : Formula) → IsNormal a.signature sorts p → IsNormal a.signature sorts q → (env : List ℕ)
      → truth (at a) (conjunction (p ∷ q ∷ [])) env ≡ (truth (at a) p env && truth (at a) q env)
  both_truth sorts p q n m env = conjunction_truth a.signature sorts (at a) env (p ∷ q ∷ []) (pair_normal sorts p q n m) ∙ and_true (truth (at a) p env) (truth (at a) q env)

  either_truth : (sorts : List ℕ) (p q : Formula) → IsNormal a.signature sorts p → IsNormal a.signature sorts q → (env : List ℕ)
      → truth (at a) (disjunction (p ∷ q ∷ [])) env ≡ (truth (at a) p env || truth (at a) q env)
  either_truth sorts p q n m env = disjunction_truth a.signature sorts (at a) env (p ∷ q ∷ []) (pair_normal sorts p q n m) ∙ or_false (truth (at a) p env) (truth (at a) q env)

  implied_truth : (p q : Formula) (env : List ℕ) → truth (at a) (Implies p q) env ≡ (not (truth (at a) p env) || truth (at a) q env)
  implied_truth p q env = search (rules, the_lemmas)

  iff_truth : (p q : Formula) (env : List ℕ) → truth (at a) (Iff p q) env ≡ cond (truth (at a) p env) (truth (at a) q env) (not (truth (at a) q env))
  iff_truth p q env = search (rules, the_lemmas)

  not_implied : (b c : Bool) → (b && not c) ≡ not (not b || c)
  not_implied true c = refl
  not_implied false c = refl

  both_ways_true : (b c : Bool) → ((not b || c) && (not c || b)) ≡ cond b c (not c)
  both_ways_true true true = refl
  both_ways_true true false = refl
  both_ways_true false true = refl
  both_ways_true false false = refl

  both_ways_false : (b c : Bool) → ((b && not c) || (c && not b)) ≡ not (cond b c (not c))
  both_ways_false true true = refl
  both_ways_false true false = refl
  both_ways_false false true = refl
  both_ways_false false false = refl

  implies_nnf : (p q : Formula) → HasNnf p → HasNnf q → HasNnf (Implies p q)
  implies_nnf p q h k sorts e true =
      let sorted : well_sorted a.signature false (Implies p q) sorts ≡ (well_sorted a.signature false p sorts && well_sorted a.signature false q sorts) = search (rules, the_lemmas) in
      let parts = and_parts _ _ (sym sorted ∙ e) in
      let x = h sorts parts.0 false in
      let y = k sorts parts.1 true in
      by (Implies p q) sorts true (disjunction (nnf_of p false ∷ nnf_of q true ∷ [])) (search (rules, the_lemmas)) (either_normal sorts (nnf_of p false) (nnf_of q true) x.normal y.normal)
      (λ env. either_truth sorts (nnf_of p false) (nnf_of q true) x.normal y.normal env ∙ (cc (x.same env, y.same env) ∙ sym (implied_truth p q env)))
  implies_nnf p q h k sorts e false =
      let sorted : well_sorted a.signature false (Implies p q) sorts ≡ (well_sorted a.signature false p sorts && well_sorted a.signature false q sorts) = search (rules, the_lemmas) in
      let parts = and_parts _ _ (sym sorted ∙ e) in
      let x = h sorts parts.0 true in
      let y = k sorts parts.1 false in
      by (Implies p q) sorts false (conjunction (nnf_of p true ∷ nnf_of q false ∷ [])) (search (rules, the_lemmas)) (both_normal sorts (nnf_of p true) (nnf_of q false) x.normal y.normal)
      (λ env. both_truth sorts (nnf_of p true) (nnf_of q false) x.normal y.normal env
      ∙ (cc (x.same env, y.same env) ∙ (not_implied (truth (at a) p env) (truth (at a) q env) ∙ ap not (sym (implied_truth p q env)))))

  iff_nnf : (p q : Formula) → HasNnf p → HasNnf q → HasNnf (Iff p q)
  iff_nnf p q h k sorts e true =
      let sorted : well_sorted a.signature false (Iff p q) sorts ≡ (well_sorted a.signature false p sorts && well_sorted a.signature false q sorts) = search (rules, the_lemmas) in
      let parts = and_parts _ _ (sym sorted ∙ e) in
      let px = h sorts parts.0 false in
      let py = h sorts parts.0 true in
      let qx = k sorts parts.1 false in
      let qy = k sorts parts.1 true in
      let left = either_normal sorts (nnf_of p false) (nnf_of q true) px.normal qy.normal in
      let right = either_normal sorts (nnf_of q false) (nnf_of p true) qx.normal py.normal in
      by (Iff p q) sorts true (conjunction (disjunction (nnf_of p false ∷ nnf_of q true ∷ []) ∷ disjunction (nnf_of q false ∷ nnf_of p true ∷ []) ∷ [])) (search (rules, the_lemmas))
      (both_normal sorts (disjunction (nnf_of p false ∷ nnf_of q true ∷ [])) (disjunction (nnf_of q false ∷ nnf_of p true ∷ [])) left right)
      (λ env.
      let one = either_truth sorts (nnf_of p false) (nnf_of q true) px.normal qy.normal env in
      let two = either_truth sorts (nnf_of q false) (nnf_of p true) qx.normal py.normal env in
      both_truth sorts (disjunction (nnf_of p false ∷ nnf_of q true ∷ [])) (disjunction (nnf_of q false ∷ nnf_of p true ∷ [])) left right env
      ∙ (cc (one, two, px.same env, py.same env, qx.same env, qy.same env) ∙ (both_ways_true (truth (at a) p env) (truth (at a) q env) ∙ sym (iff_truth p q env))))
  iff_nnf p q h k sorts e false =
      let sorted : well_sorted a.signature false (Iff p q) sorts ≡ (well_sorted a.signature false p sorts && well_sorted a.signature false q sorts) = search (rules, the_lemmas) in
      let parts = and_parts _ _ (sym sorted ∙ e) in
      let px = h sorts parts.0 false in
      let py = h sorts parts.0 true in
      let qx = k sorts parts.1 false in
      let qy = k sorts parts.1 true in
      let left = both_normal sorts (nnf_of p true) (nnf_of q false) py.normal qx.normal in
      let right = both_normal sorts (nnf_of q true) (nnf_of p false) qy.normal px.normal in
      by (Iff p q) sorts false (disjunction (conjunction (nnf_of p true ∷ nnf_of q false ∷ []) ∷ conjunction (nnf_of q true ∷ nnf_of p false ∷ []) ∷ [])) (search (rules, the_lemmas))
      (either_normal sorts (conjunction (nnf_of p true ∷ nnf_of q false ∷ [])) (conjunction (nnf_of q true ∷ nnf_of p false ∷ [])) left right)
      (λ env.
      let one = both_truth sorts (nnf_of p true) (nnf_of q false) py.normal qx.normal env in
      let two = both_truth sorts (nnf_of q true) (nnf_of p false) qy.normal px.normal env in
      either_truth sorts (conjunction (nnf_of p true ∷ nnf_of q false ∷ [])) (conjunction (nnf_of q true ∷ nnf_of p false ∷ [])) left right env
      ∙ (cc (one, two, px.same env, py.same env, qx.same env, qy.same env) ∙ (both_ways_false (truth (at a) p env) (truth (at a) q env) ∙ ap not (sym (iff_truth p q env)))))

  -- quantifiers and negation
  not_some : (sizes : List ℕ) (bs : List Binder) (p q : List ℕ → Bool) (env : List ℕ) → ((vs : List ℕ) → q vs ≡ not (p vs)) → exists sizes bs q env ≡ not (for_all sizes bs p env)
  not_some sizes bs p q env h =
      elim (cases_Bool (for_all sizes bs p env)) [
        | inl t ↦
            let none : exists sizes bs q env ≡ false = false_from_ne_true (exists sizes bs q env) (λ e.
            let s = exists-some sizes bs q env e in
            both_ways (q (env ++ s.0)) (h (env ++ s.0) ∙ ap not (for_all-at sizes bs p env s.0 t s.1)) s.2) in
            none ∙ ap not (sym t)
        | inr f ↦
            let some : exists sizes bs q env ≡ true = true_from_ne_false (exists sizes bs q env) (λ e.
            both_ways (for_all sizes bs p env) f (for_all-from sizes bs p env (λ vs v.
            true_from_ne_false (p (env ++ vs)) (λ g. both_ways (exists sizes bs q env) e (exists-at sizes bs q env vs v (h (env ++ vs) ∙ ap not g)))))) in
            some ∙ ap not (sym f)
      ]

  not_all : (sizes : List ℕ) (bs : List Binder) (p q : List ℕ → Bool) (env : List ℕ) → ((vs : List ℕ) → q vs ≡ not (p vs)) → for_all sizes bs q env ≡ not (exists sizes bs p env)
  not_all sizes bs p q env h =
      let back = not_some sizes bs q p env (λ vs. not_twice (p vs) ∙ ap not (sym (h vs))) in
      not_twice (for_all sizes bs q env) ∙ ap not (sym back)

  for_all_nnf : (bs : List Binder) (p : Formula) → HasNnf p → HasNnf (ForAll bs p)
  for_all_nnf bs p h sorts e true =
      let sorted : well_sorted a.signature false (ForAll bs p) sorts ≡ (are_sorts a.signature bs && well_sorted a.signature false p (extended sorts bs)) = search (rules, the_lemmas) in
      let parts = and_parts _ _ (sym sorted ∙ e) in
      let x = h (extended sorts bs) parts.1 true in
      by (ForAll bs p) sorts true (universal bs (nnf_of p true)) (search (rules, the_lemmas)) (universal_normal a.signature sorts bs (nnf_of p true) parts.0 x.normal)
      (λ env. universal_truth (at a) a.signature sorts bs (nnf_of p true) (sized a bs parts.0) x.normal env
      ∙ (for_all-same a.structure.sizes bs (truth (at a) (nnf_of p true)) (truth (at a) p) env env (λ vs. x.same (env ++ vs)) ∙ sym (steps.truth-ForAll (at a) bs p env)))
  for_all_nnf bs p h sorts e false =
      let sorted : well_sorted a.signature false (ForAll bs p) sorts ≡ (are_sorts a.signature bs && well_sorted a.signature false p (extended sorts bs)) = search (rules, the_lemmas) in
      let parts = and_parts _ _ (sym sorted ∙ e) in
      let x = h (extended sorts bs) parts.1 false in
      by (ForAll bs p) sorts false (existential bs (nnf_of p false)) (search (rules, the_lemmas)) (existential_normal a.signature sorts bs (nnf_of p false) parts.0 x.normal)
      (λ env. existential_truth (at a) a.signature sorts bs (nnf_of p false) (sized a bs parts.0) x.normal env
      ∙ (not_some a.structure.sizes bs (truth (at a) p) (truth (at a) (nnf_of p false)) env x.same ∙ ap not (sym (steps.truth-ForAll (at a) bs p env))))

  exists_nnf : (bs : List Binder) (p : Formula) → HasNnf p → HasNnf (Exists bs p)
  exists_nnf bs p h sorts e true =
      let sorted : well_sorted a.signature false (Exists bs p) sorts ≡ (are_sorts a.signature bs && well_sorted a.signature false p (extended sorts bs)) = search (rules, the_lemmas) in
      let parts = and_parts _ _ (sym sorted ∙ e) in
      let x = h (extended sorts bs) parts.1 true in
      by (Exists bs p) sorts true (existential bs (nnf_of p true)) (search (rules, the_lemmas)) (existential_normal a.signature sorts bs (nnf_of p true) parts.0 x.normal)
      (λ env. existential_truth (at a) a.signature sorts bs (nnf_of p true) (sized a bs parts.0) x.normal env
      ∙ (exists-same a.structure.sizes bs (truth (at a) (nnf_of p true)) (truth (at a) p) env env (λ vs. x.same (env ++ vs)) ∙ sym (steps.truth-Exists (at a) bs p env)))
  exists_nnf bs p h sorts e false =
      let sorted : well_sorted a.signature false (Exists bs p) sorts ≡ (are_sorts a.signature bs && well_sorted a.signature false p (extended sorts bs)) = search (rules, the_lemmas) in
      let parts = and_parts _ _ (sym sorted ∙ e) in
      let x = h (extended sorts bs) parts.1 false in
      by (Exists bs p) sorts false (universal bs (nnf_of p false)) (search (rules, the_lemmas)) (universal_normal a.signature sorts bs (nnf_of p false) parts.0 x.normal)
      (λ env. universal_truth (at a) a.signature sorts bs (nnf_of p false) (sized a bs parts.0) x.normal env
      ∙ (not_all a.structure.sizes bs (truth (at a) p) (truth (at a) (nnf_of p false)) env x.same ∙ ap not (sym (steps.truth-Exists (at a) bs p env))))

  layer : (y : Formula-F ((f : Formula) × HasNnf f)) → HasNnf (roll-Formula (map-Formula ((f : Formula) × HasNnf f) Formula (λ e. e.0) y))
  layer Formula-F.True = subst HasNnf (sym rolls-True) true_nnf
  layer Formula-F.False = subst HasNnf (sym rolls-False) false_nnf
  layer (Formula-F.Holds k post args) = subst HasNnf (sym (rolls-Holds k post args)) (holds_nnf k post args)
  layer (Formula-F.Equal t u) = subst HasNnf (sym (rolls-Equal t u)) (equal_nnf t u)
  layer (Formula-F.Not p) = subst HasNnf (sym (rolls-Not p.0)) (not_nnf p.0 p.1)
  layer (Formula-F.All ps) = subst HasNnf (sym (rolls-All (map (λ e. e.0) ps))) (all_nnf (map (λ e. e.0) ps) (each-pairs HasNnf ps))
  layer (Formula-F.Any ps) = subst HasNnf (sym (rolls-Any (map (λ e. e.0) ps))) (any_nnf (map (λ e. e.0) ps) (each-pairs HasNnf ps))
  layer (Formula-F.Implies p q) = subst HasNnf (sym (rolls-Implies p.0 q.0)) (implies_nnf p.0 q.0 p.1 q.1)
  layer (Formula-F.Iff p q) = subst HasNnf (sym (rolls-Iff p.0 q.0)) (iff_nnf p.0 q.0 p.1 q.1)
  layer (Formula-F.ForAll bs p) = subst HasNnf (sym (rolls-ForAll bs p.0)) (for_all_nnf bs p.0 p.1)
  layer (Formula-F.Exists bs p) = subst HasNnf (sym (rolls-Exists bs p.0)) (exists_nnf bs p.0 p.1)

  pub has_nnf : (f : Formula) → HasNnf f
  has_nnf = ind-Formula HasNnf (λ x y is. subst (λ z. HasNnf (roll-Formula z)) is (layer y))
