-- The truth of a formula depends on the variables that occur.
use Rattle.std.specs.Prelude.{◌≡◌, ℕ, zero, suc, ◌+◌, Bool, true, false, not, ◌||◌, List, [], ◌∷◌, ◌++◌, length, map, slice_get, slice_index}
use Rattle.std.specs.List.{list_all, list_any}
use Rattle.std.proofs.Common.{rules, arith, refl, sym, ap, ◌∙◌}
use Rattle.std.proofs.lemmas.Bool.{or_left, or_right}
use Rattle.std.proofs.lemmas.List.{length-append}
use Rattle.sw_logic.specs.declared.syntax.Signature.{Signature}
use Rattle.sw_logic.specs.declared.syntax.Formula.{Formula, the_lemmas}
use Rattle.sw_logic.specs.declared.syntax.Formula.TheVariants.{True, False, Holds, Equal, Not, All, Any, ForAll, Exists}
use Rattle.sw_logic.specs.declared.syntax.Term.{Term}
use Rattle.sw_logic.specs.declared.syntax.Binder.{Binder}
use Rattle.sw_logic.specs.Truth.{World, truth, bit_in, place}
use Rattle.sw_logic.specs.Sorted.{extended}
use Rattle.sw_logic.proofs.Steps as steps
use Rattle.sw_logic.specs.Terms.{has, occurs}
use Rattle.sw_truth.specs.Sorting.{IsAtom, IsNormal, AreNormal}
use Rattle.sw_truth.proofs.Ranging.{value_agrees, values_agree}
use Rattle.sw_truth.proofs.Truths.{truth-True, truth-False, truth-Holds, truth-Equal, truth-Not, for_all-same, exists-same}
use Rattle.sw_lists.proofs.Tests.{list_any-map}

pub occurs-True : (x : ℕ) → occurs x True ≡ false
occurs-True x = search (rules, the_lemmas)

pub occurs-False : (x : ℕ) → occurs x False ≡ false
occurs-False x = search (rules, the_lemmas)

pub occurs-Holds : (x k : ℕ) (post : Bool) (args : List Term) → occurs x (Holds k post args) ≡ list_any (has x) args
occurs-Holds x k post args = search (rules, the_lemmas)

pub occurs-Equal : (x : ℕ) (a b : Term) → occurs x (Equal a b) ≡ (has x a || has x b)
occurs-Equal x a b = search (rules, the_lemmas)

pub occurs-Not : (x : ℕ) (p : Formula) → occurs x (Not p) ≡ occurs x p
occurs-Not x p = search (rules, the_lemmas)

pub occurs-All : (x : ℕ) (ps : List Formula) → occurs x (All ps) ≡ list_any (occurs x) ps
occurs-All x ps =
    let step : occurs x (All ps) ≡ list_any (λ (b : Bool). b) (map (occurs x) ps) = search (rules, the_lemmas) in
    step ∙ list_any-map (λ (b : Bool). b) (occurs x) ps

pub occurs-Any : (x : ℕ) (ps : List Formula) → occurs x (Any ps) ≡ list_any (occurs x) ps
occurs-Any x ps =
    let step : occurs x (Any ps) ≡ list_any (λ (b : Bool). b) (map (occurs x) ps) = search (rules, the_lemmas) in
    step ∙ list_any-map (λ (b : Bool). b) (occurs x) ps

pub occurs-ForAll : (x : ℕ) (bs : List Binder) (p : Formula) → occurs x (ForAll bs p) ≡ occurs x p
occurs-ForAll x bs p = search (rules, the_lemmas)

pub occurs-Exists : (x : ℕ) (bs : List Binder) (p : Formula) → occurs x (Exists bs p) ≡ occurs x p
occurs-Exists x bs p = search (rules, the_lemmas)

-- the variables that occur have the same values
abbrev pub Agrees : (ℕ → Bool) → List ℕ → List ℕ → Type 0
Agrees occurs env other = (x : ℕ) → occurs x ≡ true → slice_index env x ≡ slice_index other x

pub agree_behind : (occurs : ℕ → Bool) (env other vs : List ℕ) → length env ≡ length other → Agrees occurs env other → Agrees occurs (env ++ vs) (other ++ vs)
agree_behind occurs [] [] vs e h x o = refl
agree_behind occurs [] (y ∷ other) vs e h x o = absurd (omega arith)
agree_behind occurs (y ∷ env) [] vs e h x o = absurd (omega arith)
agree_behind occurs (y ∷ env) (z ∷ other) vs e h zero o = h zero o
agree_behind occurs (y ∷ env) (z ∷ other) vs e h (suc x) o = agree_behind (λ n. occurs (suc n)) env other vs (omega arith) (λ n p. h (suc n) p) x o

longer : (env other vs : List ℕ) → length env ≡ length other → length (env ++ vs) ≡ length (other ++ vs)
longer env other vs e = simp length-append (ap (λ n. n + length vs) e)

module _ (w : World) (sig : Signature) where
  abbrev occurs_in : Formula → ℕ → Bool
  occurs_in p x = occurs x p

  abbrev among : List Formula → ℕ → Bool
  among ps x = list_any (occurs x) ps

  pub atom_agrees : (sorts env other : List ℕ) (p : Formula) → IsAtom sig sorts p → Agrees (occurs_in p) env other → truth w p env ≡ truth w p other
  atom_agrees sorts env other p (IsAtom.holds k s args e r h) same =
      let o = λ (x : ℕ) (q : list_any (has x) args ≡ true). same x (occurs-Holds x k false args ∙ q) in
      truth-Holds w k args env ∙ (ap (λ vs. bit_in (slice_get w.before.tables k) (place w k vs)) (values_agree w sig sorts env other args s.args h o) ∙ sym (truth-Holds w k args other))
  atom_agrees sorts env other p (IsAtom.equal a b sort h g) same =
      let o = λ (x : ℕ) (q : (has x a || has x b) ≡ true). same x (occurs-Equal x a b ∙ q) in
      let left = value_agrees w sig sorts env other a sort h (λ x q. o x (or_left (has x a) (has x b) q)) in
      let right = value_agrees w sig sorts env other b sort g (λ x q. o x (or_right (has x a) (has x b) q)) in
      truth-Equal w a b env ∙ (cc (left, right) ∙ sym (truth-Equal w a b other))

  mutual
    pub truth_agrees : (env other sorts : List ℕ) (p : Formula) → IsNormal sig sorts p → length env ≡ length other → Agrees (occurs_in p) env other → truth w p env ≡ truth w p other
    truth_agrees env other sorts p (IsNormal.truth s) e same = truth-True w env ∙ sym (truth-True w other)
    truth_agrees env other sorts p (IsNormal.falsity s) e same = truth-False w env ∙ sym (truth-False w other)
    truth_agrees env other sorts p (IsNormal.atom s f a) e same = atom_agrees sorts env other f a same
    truth_agrees env other sorts p (IsNormal.negated s f a) e same =
        truth-Not w f env
        ∙ (ap not (atom_agrees sorts env other f a (λ x o. same x (occurs-Not x f ∙ o)))
        ∙ sym (truth-Not w f other))
    truth_agrees env other sorts p (IsNormal.all s ps n) e same =
        steps.truth-All w ps env
        ∙ (all_agrees env other sorts ps n e (λ x o. same x (occurs-All x ps ∙ o))
        ∙ sym (steps.truth-All w ps other))
    truth_agrees env other sorts p (IsNormal.any s ps n) e same =
        steps.truth-Any w ps env
        ∙ (any_agrees env other sorts ps n e (λ x o. same x (occurs-Any x ps ∙ o))
        ∙ sym (steps.truth-Any w ps other))
    truth_agrees env other sorts p (IsNormal.for_all s bs f k n) e same =
        let inner = λ (x : ℕ) (o : occurs_in f x ≡ true). same x (occurs-ForAll x bs f ∙ o) in
        steps.truth-ForAll w bs f env
        ∙ (for_all-same w.before.sizes bs (truth w f) (truth w f) env other
        (λ vs. truth_agrees (env ++ vs) (other ++ vs) (extended sorts bs) f n (longer env other vs e) (agree_behind (occurs_in f) env other vs e inner))
        ∙ sym (steps.truth-ForAll w bs f other))
    truth_agrees env other sorts p (IsNormal.exists s bs f k n) e same =
        let inner = λ (x : ℕ) (o : occurs_in f x ≡ true). same x (occurs-Exists x bs f ∙ o) in
        steps.truth-Exists w bs f env
        ∙ (exists-same w.before.sizes bs (truth w f) (truth w f) env other
        (λ vs. truth_agrees (env ++ vs) (other ++ vs) (extended sorts bs) f n (longer env other vs e) (agree_behind (occurs_in f) env other vs e inner))
        ∙ sym (steps.truth-Exists w bs f other))

    pub all_agrees : (env other sorts : List ℕ) (ps : List Formula) → AreNormal sig sorts ps → length env ≡ length other → Agrees (among ps) env other
        → list_all (λ p. truth w p env) ps ≡ list_all (λ p. truth w p other) ps
    all_agrees env other sorts ps (AreNormal.none s) e same = refl
    all_agrees env other sorts ps (AreNormal.more s q qs n ns) e same =
        cc (truth_agrees env other sorts q n e (λ x o. same x (or_left (occurs_in q x) (among qs x) o)), all_agrees env other sorts qs ns e (λ x o. same x (or_right (occurs_in q x) (among qs x) o)))

    pub any_agrees : (env other sorts : List ℕ) (ps : List Formula) → AreNormal sig sorts ps → length env ≡ length other → Agrees (among ps) env other
        → list_any (λ p. truth w p env) ps ≡ list_any (λ p. truth w p other) ps
    any_agrees env other sorts ps (AreNormal.none s) e same = refl
    any_agrees env other sorts ps (AreNormal.more s q qs n ns) e same =
        cc (truth_agrees env other sorts q n e (λ x o. same x (or_left (occurs_in q x) (among qs x) o)), any_agrees env other sorts qs ns e (λ x o. same x (or_right (occurs_in q x) (among qs x) o)))
