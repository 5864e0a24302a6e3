-- What refuted queries, and structures of queries, say of a formula.
use Rattle.std.specs.Prelude.{◌≡◌, ℕ, ◌+◌, Bool, true, false, List, [], ◌∷◌, ◌++◌, length, Option, Some, slice_get, IsTrue}
use Rattle.std.proofs.Common.{refl, arith, sym, ap, ◌∙◌, subst, inl, inr}
use Rattle.std.proofs.lemmas.Bool.{false≢true, cases_lt}
use Rattle.std.proofs.lemmas.List.{length-append}
use Rattle.std.proofs.lemmas.Option.{slice_get-get_or}
use Rattle.sw_lists.proofs.Each.{each-at, each-front, each-back}
use Rattle.sw_lists.proofs.Members.{get_contains}
use Rattle.sw_lists.proofs.Places.{get_append_left, get_append_at}
use Rattle.sw_logic.specs.declared.syntax.Formula.{Formula}
use Rattle.sw_logic.specs.declared.structure.Structure.{Structure}
use Rattle.sw_logic.specs.Truth.{truth, world, IsTrueIn}
use Rattle.sw_logic.specs.Queries.{Satisfies}
use Rattle.sw_meaning.specs.declared.protocol.Protocol.{Protocol}
use Rattle.sw_meaning.specs.declared.protocol.Transition.{Transition}
use Rattle.sw_meaning.specs.WellFormed.{IsWellFormed, IsTransition}
use Rattle.sw_meaning.specs.Inductive.{AtStart, Kept, Follows}
use Rattle.sw_meaning.proofs.Lists.{AreTrueIn-push}
use Rattle.sw_queries.specs.Queries.{start_query_of, follow_query_of, step_query_of}
use Rattle.sw_queries.specs.Counterexamples.{DoesNotFollow, pair_in, arguments_in, joined}
use Rattle.sw_query_laws.proofs.Simple.{start_query_means, follow_query_means}
use Rattle.sw_query_laws.proofs.Means.{step_query_means}
use Rattle.sw_filter.specs.declared.filter.Filter.{Filter}
use Rattle.sw_filter.specs.declared.filter.Filter.TheVariants as filter
use Rattle.sw_truth.specs.declared.instances.Refutation.{Refutation}
use Rattle.sw_examine.specs.Answers.{IsRefutedBy}
use Rattle.sw_examine.specs.Examinations.{KeptBelow, AreRefuted, OfStep, Rejection, LeavesBy}

not_both : (b : Bool) → ((IsTrue b → ⊥) → ⊥) → IsTrue b
not_both true h = refl
not_both false h = absurd (h (λ e. false≢true e))

module _ (p : Protocol) (ok : IsWellFormed p) (g : List Formula) (f : Formula) where
  is_transition : (i : ℕ) (t : Transition) → slice_get p.transitions i ≡ Some t → IsTransition p.signature t
  is_transition i t e = each-at (IsTransition p.signature) p.transitions i t e ok.transitions

  module _ (budget : Option ℕ) where
    pub refuted_below : (n : ℕ) (rs : List Refutation) → AreRefuted p g f budget n rs → KeptBelow p g f n
    refuted_below n rs a i t h e =
        let x = a.1 i t h e in
        (λ pair arguments leaves. x.2.none (joined p t pair arguments) ((step_query_means p t g f (is_transition i t e)).from pair arguments leaves), x.2.within)

    -- one more refutation
    pub refuted_push : (n : ℕ) (rs : List Refutation) (r : Refutation) → AreRefuted p g f budget n rs → OfStep p g f n (λ q. IsRefutedBy q budget r) → AreRefuted p g f budget (n + 1) (rs ++ r ∷ [])
    refuted_push n rs r a b = (
      length-append rs (r ∷ []) ∙ ap (λ k. k + 1) a.0,
      λ i t h e. elim (cases_lt i n) [
        | inl below ↦ let x = a.1 i t below e in (x.0, get_append_left rs (r ∷ []) i x.0 x.1, x.2)
        | inr past ↦
            let same : i ≡ n = omega arith in
            let at : i ≡ length rs = let c = a.0 in omega arith in
            (r, ap (slice_get (rs ++ r ∷ [])) at ∙ get_append_at rs r [], b t (ap (slice_get p.transitions) (sym same) ∙ e))
      ],
    )

    pub refuted_none : AreRefuted p g f budget 0 []
    refuted_none = (refl, λ i t h e. absurd (omega arith))

  -- each transition keeps it, so each step does
  pub kept_by_all : KeptBelow p g f (length p.transitions) → Kept p g f
  kept_by_all all s t step list before =
      not_both (truth (world p.signature t t) f []) (λ not_after.
      let i = step.among.0 in
      let found : slice_get p.transitions i ≡ Some step.transition = slice_get-get_or p.transitions i step.transition step.among.1 ∙ ap Some step.among.2 in
      (all i step.transition step.among.1 found).0 (record { before = s; after = t }) step.arguments (record {
        step = record { fits = step.fits; axioms = step.axioms; fires = step.fires };
        holds_before = AreTrueIn-push p.signature s g f list before;
        false_after = λ x. not_after x.0;
      }))

  -- a structure of a step query as a filter
  pub leaves_by : (number : ℕ) (t : Transition) (s : Structure) → slice_get p.transitions number ≡ Some t → Satisfies (step_query_of p t g f) s
      → LeavesBy p g f number (filter.Move (pair_in p t s) number (arguments_in p t s) (length g))
  leaves_by number t s e q =
      let l = (step_query_means p t g f (is_transition number t e)).to s q in
      let pair = pair_in p t s in
      record {
        pair = pair;
        arguments = arguments_in p t s;
        is = refl;
        rejection = record {
          admitted = record { fits = l.step.fits; axioms = l.step.axioms; transition = t; numbered = e; fires = l.step.fires };
          refutes = ((each-back (IsTrueIn p.signature pair.before) g (f ∷ []) l.holds_before).0, λ x. l.false_after (x, tt));
          live = each-front (IsTrueIn p.signature pair.before) g (f ∷ []) l.holds_before;
        };
      }

  -- a live filter that refutes the formula shows that it is not kept
  pub not_kept : (number : ℕ) (x : Filter) → LeavesBy p g f number x → Kept p g f → ⊥
  not_kept number x l kept =
      let r : Rejection p g f (filter.Move l.pair number l.arguments (length g)) = subst (Rejection p g f) l.is l.rejection in
      r.refutes.1 (kept l.pair.before l.pair.after (record {
        fits = r.admitted.fits;
        axioms = r.admitted.axioms;
        transition = r.admitted.transition;
        among = get_contains p.transitions number r.admitted.transition r.admitted.numbered;
        arguments = l.arguments;
        fires = r.admitted.fires;
      }) r.live r.refutes.0)

  module _ (budget : Option ℕ) where
    -- a refuted start query: true in every start
    pub at_start : (r : Refutation) → IsRefutedBy (start_query_of p f) budget r → AtStart p f
    at_start r refuted s start =
        not_both (truth (world p.signature s s) f []) (λ no. refuted.none s ((start_query_means p f s).1 (record { start = start; false_in = no })))

    pub follows : (r : Refutation) → IsRefutedBy (follow_query_of p g f) budget r → Follows p g f
    follows r refuted s fit axioms list =
        not_both (truth (world p.signature s s) f []) (λ no. refuted.none s ((follow_query_means p g f s).1 (record { fits = fit; axioms = axioms; list = list; false_in = no })))

  pub start_rejects : (s : Structure) → Satisfies (start_query_of p f) s → Rejection p g f (filter.Start s)
  start_rejects s q = let x = (start_query_means p f s).0 q in record { admitted = x.start; refutes = x.false_in; live = tt }

  pub does_not_follow : (s : Structure) → Satisfies (follow_query_of p g f) s → DoesNotFollow p g f s
  does_not_follow s q = (follow_query_means p g f s).0 q
