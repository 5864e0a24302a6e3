-- Matrices are true in the quotient where they are true of the terms.
use Rattle.std.specs.Prelude.{◌≡◌, ℕ, ◌==◌, ◌&&◌, ◌||◌, not, Bool, true, false, List, [], ◌∷◌, map, unwrap_or, slice_get}
use Rattle.std.specs.List.{list_all, list_any}
use Rattle.std.proofs.Common.{rules, refl, sym, subst, ap, ap₂, ◌∙◌}
use Rattle.std.proofs.lemmas.Bool.{eq-eqb, eqb-true}
use Rattle.std.proofs.lemmas.List.Folds.{list_all-map}
use Rattle.sw_lists.proofs.Tests.{list_any-map}
use Rattle.sw_logic.specs.declared.syntax.Signature.{Signature}
use Rattle.sw_logic.specs.declared.syntax.Term.{Term}
use Rattle.sw_logic.specs.declared.syntax.Formula.{Formula, the_lemmas}
use Rattle.sw_logic.specs.declared.syntax.Formula.TheVariants.{True, False, Holds, Equal, Not, All, Any}
use Rattle.sw_logic.specs.declared.structure.Structure.{Structure}
use Rattle.sw_logic.specs.Truth.{World, world, truth, place, place_from, bit_in, value_of, values_of, args_or_none}
use Rattle.sw_logic.proofs.Steps as steps
use Rattle.sw_truth.specs.Models.{AreOfSorts}
use Rattle.sw_truth.specs.Sorting.{HasSort, IsAtom, IsMatrix, AreMatrices}
use Rattle.sw_truth.proofs.Truths.{truth-True, truth-False, truth-Holds, truth-Equal, truth-Not}
use Rattle.sw_truth.proofs.Deriving.{sort_is}
use Rattle.sw_quotient.specs.Terms.{Numbering, IsClosed, number_of}
use Rattle.sw_quotient.specs.Valuations.{Valuation, ground_truth, sort_here}
use Rattle.sw_quotient.specs.Classes.{classes}
use Rattle.sw_quotient.specs.Quotient.{IsQuotient}
use Rattle.sw_quotient.specs.Laws.{QuotientAgrees}
use Rattle.sw_quotient.proofs.Terms.{tuple_of, has_class}

same_truth : (a b : Bool) → (a ≡ true → b ≡ true) → (b ≡ true → a ≡ true) → a ≡ b
same_truth true b f g = sym (f refl)
same_truth false true f g = g refl
same_truth false false f g = refl

-- the truth of ground formulas, one step down
module _ (sig : Signature) (n : Numbering) (v : Valuation) (scope ts : List ℕ) where
  abbrev pub said : Formula → Bool
  said f = ground_truth sig n v scope f ts

  pub said-True : said True ≡ true
  said-True = search (rules, the_lemmas)

  pub said-False : said False ≡ false
  said-False = search (rules, the_lemmas)

  pub said-Holds : (f : ℕ) (post : Bool) (args : List Term) → said (Holds f post args) ≡ v.holds f (map (number_of sig n ts) args)
  said-Holds f post args = search (rules, the_lemmas)

  pub said-Equal : (a b : Term) → said (Equal a b) ≡ v.equal (sort_here sig scope a) (number_of sig n ts a) (number_of sig n ts b)
  said-Equal a b = search (rules, the_lemmas)

  pub said-Not : (p : Formula) → said (Not p) ≡ not (said p)
  said-Not p = search (rules, the_lemmas)

  pub said-All : (ps : List Formula) → said (All ps) ≡ list_all said ps
  said-All ps =
      let step : said (All ps) ≡ list_all (λ (p : List ℕ → Bool). p ts) (map (ground_truth sig n v scope) ps) = search (rules, the_lemmas) in
      step ∙ list_all-map (λ (p : List ℕ → Bool). p ts) (ground_truth sig n v scope) ps

  pub said-Any : (ps : List Formula) → said (Any ps) ≡ list_any said ps
  said-Any ps =
      let step : said (Any ps) ≡ list_any (λ (p : List ℕ → Bool). p ts) (map (ground_truth sig n v scope) ps) = search (rules, the_lemmas) in
      step ∙ list_any-map (λ (p : List ℕ → Bool). p ts) (ground_truth sig n v scope) ps

  -- the sort that a derivation gives
  pub sort_found : (t : Term) (sort : ℕ) → HasSort sig scope t sort → sort_here sig scope t ≡ sort
  sort_found t sort h = ap (λ o. unwrap_or o 0) (sort_is sig scope t sort h)

module _ (sig : Signature) (n : Numbering) (v : Valuation) (class : ℕ → ℕ → ℕ) (s : Structure) (q : IsQuotient sig n v class s) (closed : IsClosed sig n) (scope ts : List ℕ) (within : AreOfSorts n.counts scope ts) where
  abbrev here : World
  here = world sig s s

  abbrev elements : List ℕ
  elements = classes class scope ts

  abbrev says : Formula → Bool
  says = said sig n v scope ts

  atom_agrees : (f : Formula) → IsAtom sig scope f → truth here f elements ≡ says f
  atom_agrees f (IsAtom.holds k x args is kind h) =
      let all = tuple_of sig n v class s q closed scope ts within args x.args h in
      let numbers = map (number_of sig n ts) args in
      let placed : place here k (values_of here elements args) ≡ place_from s.sizes 0 x.args (classes class x.args numbers) =
      ap (λ o. place_from s.sizes 0 (args_or_none o) (values_of here elements args)) is ∙ ap (place_from s.sizes 0 x.args) all.values in
      truth-Holds here k args elements ∙ ap (bit_in (slice_get s.tables k)) placed ∙ q.holds k x numbers is kind all.below ∙ sym (said-Holds sig n v scope ts k false args)
  atom_agrees f (IsAtom.equal a b sort h k) =
      let left = has_class sig n v class s q closed scope ts within a sort h in
      let right = has_class sig n v class s q closed scope ts within b sort k in
      let i = number_of sig n ts a in
      let j = number_of sig n ts b in
      let both = q.equal sort i j left.below right.below in
      let values : (value_of here elements a == value_of here elements b) ≡ (class sort i == class sort j) = rw (left.value, right.value) refl in
      let same : (class sort i == class sort j) ≡ v.equal sort i j =
      same_truth (class sort i == class sort j) (v.equal sort i j) (λ e. both.1 (eqb-true (class sort i) (class sort j) e)) (λ e. eq-eqb (class sort i) (class sort j) (both.0 e)) in
      truth-Equal here a b elements ∙ values ∙ same ∙ ap (λ k. v.equal k i j) (sym (sort_found sig n v scope ts a sort h)) ∙ sym (said-Equal sig n v scope ts a b)

  mutual
    matrix_agrees : (f : Formula) → IsMatrix sig scope f → truth here f elements ≡ says f
    matrix_agrees f IsMatrix.truth = truth-True here elements ∙ sym (said-True sig n v scope ts)
    matrix_agrees f IsMatrix.falsity = truth-False here elements ∙ sym (said-False sig n v scope ts)
    matrix_agrees f (IsMatrix.atom g i) = atom_agrees g i
    matrix_agrees f (IsMatrix.negated g i) = truth-Not here g elements ∙ ap not (atom_agrees g i) ∙ sym (said-Not sig n v scope ts g)
    matrix_agrees f (IsMatrix.all ps h) = steps.truth-All here ps elements ∙ all_agree ps h ∙ sym (said-All sig n v scope ts ps)
    matrix_agrees f (IsMatrix.any ps h) = steps.truth-Any here ps elements ∙ any_agree ps h ∙ sym (said-Any sig n v scope ts ps)

    all_agree : (ps : List Formula) → AreMatrices sig scope ps → list_all (λ (p : Formula). truth here p elements) ps ≡ list_all says ps
    all_agree ps AreMatrices.none = refl
    all_agree ps (AreMatrices.more p rest h hs) = ap₂ (λ a b. a && b) (matrix_agrees p h) (all_agree rest hs)

    any_agree : (ps : List Formula) → AreMatrices sig scope ps → list_any (λ (p : Formula). truth here p elements) ps ≡ list_any says ps
    any_agree ps AreMatrices.none = refl
    any_agree ps (AreMatrices.more p rest h hs) = ap₂ (λ a b. a || b) (matrix_agrees p h) (any_agree rest hs)

  pub agrees : (f : Formula) → IsMatrix sig scope f → truth here f elements ≡ says f
  agrees f h = matrix_agrees f h

pub quotient_agrees : QuotientAgrees
quotient_agrees sig n v class s q closed scope ts f within h = agrees sig n v class s q closed scope ts within f h
