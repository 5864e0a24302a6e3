-- Lists of sentences, and the negation of a sentence.
use Rattle.std.specs.Prelude.{◌≡◌, ℕ, Bool, true, false, not, List, [], IsTrue}
use Rattle.std.proofs.Common.{rules, refl, sym, subst}
use Rattle.std.proofs.lemmas.Bool.{false≢true}
use Rattle.sw_logic.specs.declared.syntax.Signature.{Signature}
use Rattle.sw_logic.specs.declared.syntax.Formula.{Formula, the_lemmas as formula_lemmas}
use Rattle.sw_logic.specs.declared.syntax.Formula.TheVariants.{Not, All}
use Rattle.sw_logic.specs.declared.structure.Structure.{Structure}
use Rattle.sw_logic.specs.Truth.{World, truth, world, IsTrueIn, AreTrueIn}
use Rattle.sw_logic.proofs.Steps.{truth-All}
use Rattle.sw_lists.proofs.Tests.{each_true, all_true}

pub truth-Not : (w : World) (f : Formula) (env : List ℕ) → truth w (Not f) env ≡ not (truth w f env)
truth-Not w f env = search (rules, formula_lemmas)

not_true : (b : Bool) → IsTrue (not b) → IsTrue b → ⊥
not_true true h i = false≢true h
not_true false h i = false≢true i

is_not : (b : Bool) → (IsTrue b → ⊥) → IsTrue (not b)
is_not true h = absurd (h refl)
is_not false h = refl

module _ (sig : Signature) (s : Structure) where
  -- a sentence is false where its negation is true, and the other way round
  pub negation_false : (f : Formula) → IsTrueIn sig s (Not f) → IsTrueIn sig s f → ⊥
  negation_false f h = not_true (truth (world sig s s) f []) (subst IsTrue (truth-Not (world sig s s) f []) h)

  pub negation_true : (f : Formula) → (IsTrueIn sig s f → ⊥) → IsTrueIn sig s (Not f)
  negation_true f h = subst IsTrue (sym (truth-Not (world sig s s) f [])) (is_not (truth (world sig s s) f []) h)

  pub conjunction_true : (fs : List Formula) → AreTrueIn sig s fs → IsTrueIn sig s (All fs)
  conjunction_true fs h = subst IsTrue (sym (truth-All (world sig s s) fs [])) (all_true (λ f. truth (world sig s s) f []) fs h)

  pub conjunction_parts : (fs : List Formula) → IsTrueIn sig s (All fs) → AreTrueIn sig s fs
  conjunction_parts fs h = each_true (λ f. truth (world sig s s) f []) fs (subst IsTrue (truth-All (world sig s s) fs []) h)
