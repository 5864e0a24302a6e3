-- Formulas without quantifiers, with terms in the place of variables.
use Rattle.std.specs.Prelude.{◌≡◌, ℕ, Bool, false, not, ◌||◌, List, [], ◌∷◌, ◌++◌, map, slice_get}
use Rattle.std.specs.List.{list_all, list_any}
use Rattle.std.proofs.Common.{rules, refl, sym, ap, subst, ◌∙◌}
use Rattle.std.proofs.lemmas.Bool.{or_left, or_right}
use Rattle.sw_logic.specs.declared.syntax.Signature.{Signature}
use Rattle.sw_logic.specs.declared.syntax.Term.{Term}
use Rattle.sw_logic.specs.declared.syntax.Formula.{Formula, the_lemmas}
use Rattle.sw_logic.specs.declared.syntax.Formula.TheVariants.{True, False, Holds, Equal, Not, All, Any}
use Rattle.sw_logic.specs.Truth.{World, truth, bit_in, place}
use Rattle.sw_logic.proofs.Steps as steps
use Rattle.sw_logic.specs.Terms.{has, occurs, put, with_terms}
use Rattle.sw_truth.specs.Sorting.{IsAtom, IsMatrix, AreMatrices}
use Rattle.sw_truth.proofs.Growing.{Stage, Grows}
use Rattle.sw_truth.proofs.Scoping.{sort_wider, sorts_wider}
use Rattle.sw_truth.proofs.Putting.{HasTerms, HasValues, put_sort, put_sorts, put_value, put_values}
use Rattle.sw_truth.proofs.Truths.{truth-True, truth-False, truth-Holds, truth-Equal, truth-Not}
use Rattle.sw_truth.proofs.Occurring.{occurs-Holds, occurs-Equal, occurs-Not, occurs-All, occurs-Any}

with-True : (ts : List Term) → with_terms ts True ≡ True
with-True ts = search (rules, the_lemmas)

with-False : (ts : List Term) → with_terms ts False ≡ False
with-False ts = search (rules, the_lemmas)

with-Holds : (ts : List Term) (k : ℕ) (post : Bool) (args : List Term) → with_terms ts (Holds k post args) ≡ Holds k post (map (put ts) args)
with-Holds ts k post args = search (rules, the_lemmas)

with-Equal : (ts : List Term) (a b : Term) → with_terms ts (Equal a b) ≡ Equal (put ts a) (put ts b)
with-Equal ts a b = search (rules, the_lemmas)

with-Not : (ts : List Term) (p : Formula) → with_terms ts (Not p) ≡ Not (with_terms ts p)
with-Not ts p = search (rules, the_lemmas)

with-All : (ts : List Term) (ps : List Formula) → with_terms ts (All ps) ≡ All (map (with_terms ts) ps)
with-All ts ps = search (rules, the_lemmas)

with-Any : (ts : List Term) (ps : List Formula) → with_terms ts (Any ps) ≡ Any (map (with_terms ts) ps)
with-Any ts ps = search (rules, the_lemmas)

module _ (w : World) (sig : Signature) (ts : List Term) (scope env other : List ℕ) where
  abbrev Gives : (ℕ → Bool) → Type 0
  Gives = HasValues w sig ts scope env other

  atom_put : (m : Formula) → IsAtom sig scope m → Gives (λ x. occurs x m) → truth w (with_terms ts m) env ≡ truth w m other
  atom_put m (IsAtom.holds k s args e r h) ok =
      ap (λ f. truth w f env) (with-Holds ts k false args)
      ∙ (truth-Holds w k (map (put ts) args) env
      ∙ (ap (λ vs. bit_in (slice_get w.before.tables k) (place w k vs)) (put_values w sig ts scope env other args s.args h (λ x o. ok x (occurs-Holds x k false args ∙ o)))
      ∙ sym (truth-Holds w k args other)))
  atom_put m (IsAtom.equal a b sort h i) ok =
      let left = put_value w sig ts scope env other a sort h (λ x o. ok x (occurs-Equal x a b ∙ or_left (has x a) (has x b) o)) in
      let right = put_value w sig ts scope env other b sort i (λ x o. ok x (occurs-Equal x a b ∙ or_right (has x a) (has x b) o)) in
      ap (λ f. truth w f env) (with-Equal ts a b) ∙ (truth-Equal w (put ts a) (put ts b) env ∙ (cc (left, right) ∙ sym (truth-Equal w a b other)))

  mutual
    pub matrix_put : (m : Formula) → IsMatrix sig scope m → Gives (λ x. occurs x m) → truth w (with_terms ts m) env ≡ truth w m other
    matrix_put m IsMatrix.truth ok = ap (λ f. truth w f env) (with-True ts) ∙ (truth-True w env ∙ sym (truth-True w other))
    matrix_put m IsMatrix.falsity ok = ap (λ f. truth w f env) (with-False ts) ∙ (truth-False w env ∙ sym (truth-False w other))
    matrix_put m (IsMatrix.atom f i) ok = atom_put f i ok
    matrix_put m (IsMatrix.negated f i) ok =
        ap (λ f. truth w f env) (with-Not ts f)
        ∙ (truth-Not w (with_terms ts f) env ∙ (ap not (atom_put f i (λ x o. ok x (occurs-Not x f ∙ o))) ∙ sym (truth-Not w f other)))
    matrix_put m (IsMatrix.all ps n) ok =
        ap (λ f. truth w f env) (with-All ts ps)
        ∙ (steps.truth-All w (map (with_terms ts) ps) env ∙ (all_put ps n (λ x o. ok x (occurs-All x ps ∙ o)) ∙ sym (steps.truth-All w ps other)))
    matrix_put m (IsMatrix.any ps n) ok =
        ap (λ f. truth w f env) (with-Any ts ps)
        ∙ (steps.truth-Any w (map (with_terms ts) ps) env ∙ (any_put ps n (λ x o. ok x (occurs-Any x ps ∙ o)) ∙ sym (steps.truth-Any w ps other)))

    all_put : (ms : List Formula) → AreMatrices sig scope ms → Gives (λ x. list_any (occurs x) ms) → list_all (λ f. truth w f env) (map (with_terms ts) ms) ≡ list_all (λ f. truth w f other) ms
    all_put ms AreMatrices.none ok = refl
    all_put ms (AreMatrices.more p ps n ns) ok =
        cc (matrix_put p n (λ x o. ok x (or_left (occurs x p) (list_any (occurs x) ps) o)), all_put ps ns (λ x o. ok x (or_right (occurs x p) (list_any (occurs x) ps) o)))

    any_put : (ms : List Formula) → AreMatrices sig scope ms → Gives (λ x. list_any (occurs x) ms) → list_any (λ f. truth w f env) (map (with_terms ts) ms) ≡ list_any (λ f. truth w f other) ms
    any_put ms AreMatrices.none ok = refl
    any_put ms (AreMatrices.more p ps n ns) ok =
        cc (matrix_put p n (λ x o. ok x (or_left (occurs x p) (list_any (occurs x) ps) o)), any_put ps ns (λ x o. ok x (or_right (occurs x p) (list_any (occurs x) ps) o)))

module _ (d : Stage) (g : Grows d d) (ts : List Term) (sorts scope : List ℕ) where
  abbrev Sorted : (ℕ → Bool) → Type 0
  Sorted = HasTerms d d g ts sorts scope

  atom_sorts : (m : Formula) → IsAtom d.signature scope m → Sorted (λ x. occurs x m) → IsAtom d.signature sorts (with_terms ts m)
  atom_sorts m (IsAtom.holds k s args e r h) ok =
      subst (IsAtom d.signature sorts) (sym (with-Holds ts k false args))
      (IsAtom.holds k s (map (put ts) args) e r (put_sorts d d g ts sorts scope args s.args h (λ v t o. ok v t (occurs-Holds v k false args ∙ o))))
  atom_sorts m (IsAtom.equal a b sort h i) ok =
      subst (IsAtom d.signature sorts) (sym (with-Equal ts a b))
      (IsAtom.equal (put ts a) (put ts b) sort (put_sort d d g ts sorts scope a sort h (λ v t o. ok v t (occurs-Equal v a b ∙ or_left (has v a) (has v b) o)))
      (put_sort d d g ts sorts scope b sort i (λ v t o. ok v t (occurs-Equal v a b ∙ or_right (has v a) (has v b) o))))

  mutual
    pub matrix_sorts : (m : Formula) → IsMatrix d.signature scope m → Sorted (λ x. occurs x m) → IsMatrix d.signature sorts (with_terms ts m)
    matrix_sorts m IsMatrix.truth ok = subst (IsMatrix d.signature sorts) (sym (with-True ts)) IsMatrix.truth
    matrix_sorts m IsMatrix.falsity ok = subst (IsMatrix d.signature sorts) (sym (with-False ts)) IsMatrix.falsity
    matrix_sorts m (IsMatrix.atom f i) ok = IsMatrix.atom (with_terms ts f) (atom_sorts f i ok)
    matrix_sorts m (IsMatrix.negated f i) ok =
        subst (IsMatrix d.signature sorts) (sym (with-Not ts f)) (IsMatrix.negated (with_terms ts f) (atom_sorts f i (λ v t o. ok v t (occurs-Not v f ∙ o))))
    matrix_sorts m (IsMatrix.all ps n) ok =
        subst (IsMatrix d.signature sorts) (sym (with-All ts ps)) (IsMatrix.all (map (with_terms ts) ps) (matrices_sorts ps n (λ v t o. ok v t (occurs-All v ps ∙ o))))
    matrix_sorts m (IsMatrix.any ps n) ok =
        subst (IsMatrix d.signature sorts) (sym (with-Any ts ps)) (IsMatrix.any (map (with_terms ts) ps) (matrices_sorts ps n (λ v t o. ok v t (occurs-Any v ps ∙ o))))

    matrices_sorts : (ms : List Formula) → AreMatrices d.signature scope ms → Sorted (λ x. list_any (occurs x) ms) → AreMatrices d.signature sorts (map (with_terms ts) ms)
    matrices_sorts ms AreMatrices.none ok = AreMatrices.none
    matrices_sorts ms (AreMatrices.more p ps n ns) ok =
        AreMatrices.more (with_terms ts p) (map (with_terms ts) ps) (matrix_sorts p n (λ v t o. ok v t (or_left (occurs v p) (list_any (occurs v) ps) o)))
        (matrices_sorts ps ns (λ v t o. ok v t (or_right (occurs v p) (list_any (occurs v) ps) o)))

-- more variables at the end of the scope
module _ (sig : Signature) (sorts more : List ℕ) where
  atom_wider : (m : Formula) → IsAtom sig sorts m → IsAtom sig (sorts ++ more) m
  atom_wider m (IsAtom.holds k s args e r h) = IsAtom.holds k s args e r (sorts_wider sig sorts more args s.args h)
  atom_wider m (IsAtom.equal a b sort h i) = IsAtom.equal a b sort (sort_wider sig sorts more a sort h) (sort_wider sig sorts more b sort i)

  mutual
    pub matrix_wider : (m : Formula) → IsMatrix sig sorts m → IsMatrix sig (sorts ++ more) m
    matrix_wider m IsMatrix.truth = IsMatrix.truth
    matrix_wider m IsMatrix.falsity = IsMatrix.falsity
    matrix_wider m (IsMatrix.atom f i) = IsMatrix.atom f (atom_wider f i)
    matrix_wider m (IsMatrix.negated f i) = IsMatrix.negated f (atom_wider f i)
    matrix_wider m (IsMatrix.all ps n) = IsMatrix.all ps (matrices_wider ps n)
    matrix_wider m (IsMatrix.any ps n) = IsMatrix.any ps (matrices_wider ps n)

    matrices_wider : (ms : List Formula) → AreMatrices sig sorts ms → AreMatrices sig (sorts ++ more) ms
    matrices_wider ms AreMatrices.none = AreMatrices.none
    matrices_wider ms (AreMatrices.more p ps n ns) = AreMatrices.more p ps (matrix_wider p n) (matrices_wider ps ns)
