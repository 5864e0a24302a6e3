-- What the queries of steps mean.
use Rattle.std.specs.Prelude.{◌≡◌, ℕ, List, [], ◌∷◌, ◌++◌, map, Option, None, Some, IsTrue}
use Rattle.std.proofs.Common.{refl, sym, subst, ap, ◌∙◌}
use Rattle.sw_logic.specs.declared.syntax.Signature.{Signature}
use Rattle.sw_logic.specs.declared.syntax.Formula.{Formula}
use Rattle.sw_logic.specs.declared.syntax.Formula.TheVariants.{Not, All}
use Rattle.sw_logic.specs.declared.structure.Structure.{Structure}
use Rattle.sw_logic.specs.declared.structure.Pair.{Pair}
use Rattle.sw_logic.specs.Truth.{world, truth, IsTrueIn, AreTrueIn}
use Rattle.sw_meaning.specs.declared.protocol.Protocol.{Protocol}
use Rattle.sw_meaning.specs.declared.protocol.Transition.{Transition}
use Rattle.sw_meaning.proofs.Lists.{AreTrueIn-append, AreTrueIn-push}
use Rattle.sw_lists.proofs.Each.{each-front, each-back}
use Rattle.sw_renaming.specs.declared.renaming.Moment.TheVariants.{Before, Across, After}
use Rattle.sw_meaning.specs.WellFormed.{IsTransition}
use Rattle.sw_renaming.specs.Renamed.{renamed}
use Rattle.sw_logic.specs.Queries.{Satisfies}
use Rattle.sw_queries.specs.Queries.{step_signature, across_query, with_joined, safe_after}
use Rattle.sw_queries.specs.Counterexamples.{StepBy, pair_in, arguments_in, joined}
use Rattle.sw_query_laws.specs.Laws.{StepQueryMeans, JoinQueryMeans}
use Rattle.sw_query_laws.proofs.Sentences.{negation_false, negation_true, conjunction_true, conjunction_parts}
use Rattle.sw_query_laws.proofs.KeepsTruth.{renamed_truth}
use Rattle.sw_query_laws.proofs.Parts.{IsIn, reads_before, reads_after, reads_across}
use Rattle.sw_query_laws.proofs.Out as out
use Rattle.sw_query_laws.proofs.Together as together

-- a step from these formulas, after which that one is false
record Crosses (p : Protocol) (t : Transition) (before : List Formula) (after : Formula) (pair : Pair) (arguments : List ℕ) : Type 0 where
  step : StepBy p t pair arguments
  list : AreTrueIn p.signature pair.before before
  false_after : IsTrueIn p.signature pair.after after → ⊥

module _ (p : Protocol) (t : Transition) (ok : IsTransition p.signature t) (s : Structure) (pair : Pair) (arguments : List ℕ) (holds : IsIn p t ok s pair arguments) where
  abbrev sig : Signature
  sig = step_signature p t

  before_same : (f : Formula) → truth (world sig s s) (renamed p t Before f) [] ≡ truth (world p.signature pair.before pair.before) f []
  before_same f = renamed_truth p t Before (world p.signature pair.before pair.before) (world sig s s) [] (reads_before p t ok s pair arguments holds) f []

  after_same : (f : Formula) → truth (world sig s s) (renamed p t After f) [] ≡ truth (world p.signature pair.after pair.after) f []
  after_same f = renamed_truth p t After (world p.signature pair.after pair.after) (world sig s s) [] (reads_after p t ok s pair arguments holds) f []

  no_more : (xs : List ℕ) → xs ++ [] ≡ xs
  no_more [] = refl
  no_more (x ∷ xs) = ap (λ ys. x ∷ ys) (no_more xs)

  across_same : (f : Formula) → truth (world sig s s) (renamed p t Across f) [] ≡ truth (world p.signature pair.before pair.after) f arguments
  across_same f =
      renamed_truth p t Across (world p.signature pair.before pair.after) (world sig s s) arguments (reads_across p t ok s pair arguments holds) f []
      ∙ ap (truth (world p.signature pair.before pair.after) f) (no_more arguments)

  lists_out : (fs : List Formula) → AreTrueIn sig s (map (renamed p t Before) fs) → AreTrueIn p.signature pair.before fs
  lists_out [] h = tt
  lists_out (f ∷ fs) h = (subst IsTrue (before_same f) h.0, lists_out fs h.1)

  lists_in : (fs : List Formula) → AreTrueIn p.signature pair.before fs → AreTrueIn sig s (map (renamed p t Before) fs)
  lists_in [] h = tt
  lists_in (f ∷ fs) h = (subst IsTrue (sym (before_same f)) h.0, lists_in fs h.1)

module _ (p : Protocol) (t : Transition) (ok : IsTransition p.signature t) (before : List Formula) (after : Formula) where
  abbrev q : List Formula
  q = map (renamed p t Before) (p.axioms ++ before)

  crosses_out : (s : Structure) → Satisfies (across_query p t before after) s → Crosses p t before after (pair_in p t s) (arguments_in p t s)
  crosses_out s h =
      let sig = step_signature p t in
      let pair = pair_in p t s in
      let arguments = arguments_in p t s in
      let holds = out.is_in p t ok s h.fits in
      let front = each-front (IsTrueIn sig s) (q ++ renamed p t Across t.formula ∷ []) (Not (renamed p t After after) ∷ []) h.sentences in
      let last = each-back (IsTrueIn sig s) (q ++ renamed p t Across t.formula ∷ []) (Not (renamed p t After after) ∷ []) h.sentences in
      let lists = lists_out p t ok s pair arguments holds (p.axioms ++ before) (each-front (IsTrueIn sig s) q (renamed p t Across t.formula ∷ []) front) in
      let across = each-back (IsTrueIn sig s) q (renamed p t Across t.formula ∷ []) front in
      record {
        step = record {
          fits = out.pair_fits p t ok s h.fits;
          axioms = each-front (IsTrueIn p.signature pair.before) p.axioms before lists;
          fires = record {
            in_range = out.in_range p t ok s h.fits;
            formula = subst IsTrue (across_same p t ok s pair arguments holds t.formula) across.0;
            others = out.others p t ok s h.fits;
          };
        };
        list = each-back (IsTrueIn p.signature pair.before) p.axioms before lists;
        false_after = λ true_after. negation_false sig s (renamed p t After after) last.0 (subst IsTrue (sym (after_same p t ok s pair arguments holds after)) true_after);
      }

  crosses_in : (pair : Pair) (arguments : List ℕ) → Crosses p t before after pair arguments → Satisfies (across_query p t before after) (joined p t pair arguments)
  crosses_in pair arguments h =
      let sig = step_signature p t in
      let s = joined p t pair arguments in
      let holds = together.is_in p t ok pair arguments h.step.fits h.step.fires in
      let lists = lists_in p t ok s pair arguments holds (p.axioms ++ before) (AreTrueIn-append p.signature pair.before p.axioms before h.step.axioms h.list) in
      let across = subst IsTrue (sym (across_same p t ok s pair arguments holds t.formula)) h.step.fires.formula in
      let last = negation_true sig s (renamed p t After after) (λ x. h.false_after (subst IsTrue (after_same p t ok s pair arguments holds after) x)) in
      record {
        fits = together.whole_fits p t ok pair arguments h.step.fits h.step.fires;
        sentences = AreTrueIn-push sig s (q ++ renamed p t Across t.formula ∷ []) (Not (renamed p t After after)) (AreTrueIn-push sig s q (renamed p t Across t.formula) lists across) last;
      }

pub step_query_means : StepQueryMeans
step_query_means p t g f ok = record {
  to = λ s h.
      let c = crosses_out p t ok (g ++ f ∷ []) f s h in
      record { step = c.step; holds_before = c.list; false_after = λ x. c.false_after x.0 };
  from = λ pair arguments h.
      crosses_in p t ok (g ++ f ∷ []) f pair arguments (record { step = h.step; list = h.holds_before; false_after = λ x. h.false_after (x, tt) });
}

-- what is to be true after a join, as one formula and as a list
after_parts : (p : Protocol) (s : Structure) (f : Option Formula) → IsTrueIn p.signature s (safe_after p f) → AreTrueIn p.signature s (with_joined p.safeties f)
after_parts p s None h = conjunction_parts p.signature s p.safeties h
after_parts p s (Some f) h =
    let both = conjunction_parts p.signature s (All p.safeties ∷ f ∷ []) h in
    AreTrueIn-push p.signature s p.safeties f (conjunction_parts p.signature s p.safeties both.0) both.1.0

after_whole : (p : Protocol) (s : Structure) (f : Option Formula) → AreTrueIn p.signature s (with_joined p.safeties f) → IsTrueIn p.signature s (safe_after p f)
after_whole p s None h = conjunction_true p.signature s p.safeties h
after_whole p s (Some f) h =
    conjunction_true p.signature s (All p.safeties ∷ f ∷ [])
    (conjunction_true p.signature s p.safeties (each-front (IsTrueIn p.signature s) p.safeties (f ∷ []) h), each-back (IsTrueIn p.signature s) p.safeties (f ∷ []) h)

pub join_query_means : JoinQueryMeans
join_query_means p t g f ok = record {
  to = λ s h.
      let c = crosses_out p t ok (with_joined (g ++ p.safeties) f) (safe_after p f) s h in
      record { step = c.step; holds_before = c.list; false_after = λ x. c.false_after (after_whole p (pair_in p t s).after f x) };
  from = λ pair arguments h.
      crosses_in p t ok (with_joined (g ++ p.safeties) f) (safe_after p f) pair arguments
      (record { step = h.step; list = h.holds_before; false_after = λ x. h.false_after (after_parts p pair.after f x) });
}
