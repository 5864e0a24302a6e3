-- What refuted join queries, and steps that leave safety or the formula, say of joining.
use Rattle.std.specs.Prelude.{◌≡◌, ℕ, ◌+◌, Bool, true, false, List, [], ◌∷◌, ◌++◌, length, Option, Some, slice_get, IsTrue}
use Rattle.std.proofs.Common.{refl, arith, sym, ap, ◌∙◌, subst, inl, inr}
use Rattle.std.proofs.lemmas.Bool.{false≢true, cases_lt}
use Rattle.std.proofs.lemmas.List.{length-append}
use Rattle.std.proofs.lemmas.Option.{slice_get-get_or}
use Rattle.sw_lists.proofs.Each.{each-at, each-front, each-back}
use Rattle.sw_lists.proofs.Members.{get_contains}
use Rattle.sw_lists.proofs.Places.{get_append_left, get_append_at}
use Rattle.sw_logic.specs.declared.syntax.Formula.{Formula}
use Rattle.sw_logic.specs.declared.structure.Structure.{Structure}
use Rattle.sw_logic.specs.declared.structure.Pair.{Pair}
use Rattle.sw_logic.specs.Truth.{truth, world, IsTrueIn, AreTrueIn}
use Rattle.sw_logic.specs.Queries.{Satisfies}
use Rattle.sw_meaning.specs.declared.protocol.Protocol.{Protocol}
use Rattle.sw_meaning.specs.declared.protocol.Transition.{Transition}
use Rattle.sw_meaning.specs.WellFormed.{IsWellFormed, IsTransition}
use Rattle.sw_meaning.specs.Runs.{Step}
use Rattle.sw_meaning.specs.Inductive.{AtStart}
use Rattle.sw_meaning.specs.Verdict.{Joins}
use Rattle.sw_meaning.proofs.Lists.{AreTrueIn-append, AreTrueIn-push}
use Rattle.sw_queries.specs.Queries.{start_query_of, with_joined}
use Rattle.sw_queries.specs.Counterexamples.{Leaves, pair_in, arguments_in, joined}
use Rattle.sw_query_laws.proofs.Simple.{start_query_means}
use Rattle.sw_query_laws.proofs.Means.{join_query_means}
use Rattle.sw_filter.specs.declared.filter.Filter.{Filter}
use Rattle.sw_filter.specs.declared.filter.Filter.TheVariants as filter
use Rattle.sw_filter.specs.declared.filter.Mode.TheVariants.{Finish}
use Rattle.sw_filter.specs.Filters.{IsStepBy, Obeys}
use Rattle.sw_truth.specs.declared.instances.Refutation.{Refutation}
use Rattle.sw_examine.specs.Answers.{IsRefutedBy}
use Rattle.sw_join.specs.Joining.{join_of, JoinedBelow, AreRefuted, OfJoin, Rejection, LeavesFormula, LeavesSafety, FailsAtStart}

not_both : (b : Bool) → ((IsTrue b → ⊥) → ⊥) → IsTrue b
not_both true h = refl
not_both false h = absurd (h (λ e. false≢true e))

module _ (p : Protocol) (s : Structure) where
  all_true : (fs : List Formula) → ((AreTrueIn p.signature s fs → ⊥) → ⊥) → AreTrueIn p.signature s fs
  all_true [] h = tt
  all_true (f ∷ fs) h = (not_both (truth (world p.signature s s) f []) (λ no. h (λ a. no a.0)), all_true fs (λ no. h (λ a. no a.1)))

module _ (p : Protocol) (ok : IsWellFormed p) (g : List Formula) (f : Formula) where
  is_transition : (i : ℕ) (t : Transition) → slice_get p.transitions i ≡ Some t → IsTransition p.signature t
  is_transition i t e = each-at (IsTransition p.signature) p.transitions i t e ok.transitions

  module _ (budget : Option ℕ) where
    pub refuted_below : (n : ℕ) (rs : List Refutation) → AreRefuted p g f budget n rs → JoinedBelow p g f n
    refuted_below n rs a i t h e =
        let x = a.1 i t h e in
        (λ pair arguments leaves. x.2.none (joined p t pair arguments) ((join_query_means p t g (Some f) (is_transition i t e)).from pair arguments leaves), x.2.within)

    -- one more refutation
    pub refuted_push : (n : ℕ) (rs : List Refutation) (r : Refutation)
        → AreRefuted p g f budget n rs → OfJoin p g f n (λ q. IsRefutedBy q budget r) → AreRefuted p g f budget (n + 1) (rs ++ r ∷ [])
    refuted_push n rs r a b = (
      length-append rs (r ∷ []) ∙ ap (λ k. k + 1) a.0,
      λ i t h e. elim (cases_lt i n) [
        | inl below ↦ let x = a.1 i t below e in (x.0, get_append_left rs (r ∷ []) i x.0 x.1, x.2)
        | inr past ↦
            let same : i ≡ n = omega arith in
            let at : i ≡ length rs = let c = a.0 in omega arith in
            (r, ap (slice_get (rs ++ r ∷ [])) at ∙ get_append_at rs r [], b t (ap (slice_get p.transitions) (sym same) ∙ e))
      ],
    )

  -- a step from the list, safety and the formula, where each transition joins
  ends_in_both : JoinedBelow p g f (length p.transitions) → (s t : Structure) → Step p s t
      → AreTrueIn p.signature s g → AreTrueIn p.signature s p.safeties → IsTrueIn p.signature s f → AreTrueIn p.signature t (with_joined p.safeties (Some f))
  ends_in_both all s t step list safe holds =
      all_true p t (with_joined p.safeties (Some f)) (λ not_after.
      let i = step.among.0 in
      let found : slice_get p.transitions i ≡ Some step.transition = slice_get-get_or p.transitions i step.transition step.among.1 ∙ ap Some step.among.2 in
      (all i step.transition step.among.1 found).0 (record { before = s; after = t }) step.arguments (record {
        step = record { fits = step.fits; axioms = step.axioms; fires = step.fires };
        holds_before = AreTrueIn-push p.signature s (g ++ p.safeties) f (AreTrueIn-append p.signature s g p.safeties list safe) holds;
        false_after = not_after;
      }))

  -- each transition joins, so the formula does
  pub joins_by_all : AtStart p f → JoinedBelow p g f (length p.transitions) → Joins p g f
  joins_by_all start all = record {
    start = start;
    safe = λ s t step list safe holds. each-front (IsTrueIn p.signature t) p.safeties (f ∷ []) (ends_in_both all s t step list safe holds);
    kept = λ s t step list safe holds. (each-back (IsTrueIn p.signature t) p.safeties (f ∷ []) (ends_in_both all s t step list safe holds)).0;
  }

  module _ (number : ℕ) (t : Transition) (s : Structure) (e : slice_get p.transitions number ≡ Some t) (q : Satisfies (join_of p g f t) s) where
    leaves : Leaves p t (with_joined (g ++ p.safeties) (Some f)) (with_joined p.safeties (Some f)) (pair_in p t s) (arguments_in p t s)
    leaves = (join_query_means p t g (Some f) (is_transition number t e)).to s q

    is_step : IsStepBy p number (arguments_in p t s) (pair_in p t s)
    is_step = record { fits = leaves.step.fits; axioms = leaves.step.axioms; transition = t; numbered = e; fires = leaves.step.fires }

    before : IsTrueIn p.signature (pair_in p t s).before f
    before = (each-back (IsTrueIn p.signature (pair_in p t s).before) (g ++ p.safeties) (f ∷ []) leaves.holds_before).0

    obeys : Obeys p Finish g (pair_in p t s).before
    obeys =
        let holds = IsTrueIn p.signature (pair_in p t s).before in
        let front = each-front holds (g ++ p.safeties) (f ∷ []) leaves.holds_before in
        (each-front holds g p.safeties front, each-back holds g p.safeties front)

    -- a structure of a join query as a filter: a step that keeps safety leaves the formula
    pub leaves_formula : AreTrueIn p.signature (pair_in p t s).after p.safeties
        → LeavesFormula p g f number (filter.Move (pair_in p t s) number (arguments_in p t s) (length g))
    leaves_formula safe = record {
      pair = pair_in p t s;
      arguments = arguments_in p t s;
      is = refl;
      safe = safe;
      rejection = record {
        admitted = is_step;
        refutes = (before, λ x. leaves.false_after (AreTrueIn-push p.signature (pair_in p t s).after p.safeties f safe x));
        live = obeys;
      };
    }

    pub leaves_safety : (AreTrueIn p.signature (pair_in p t s).after p.safeties → ⊥)
        → LeavesSafety p g f number (filter.Bad (pair_in p t s) number (arguments_in p t s) (length g))
    leaves_safety unsafe = record {
      pair = pair_in p t s;
      arguments = arguments_in p t s;
      is = refl;
      rejection = record { admitted = (is_step, unsafe); refutes = before; live = obeys };
    }

  pub start_rejects : (s : Structure) → Satisfies (start_query_of p f) s → Rejection p g f (filter.Start s)
  start_rejects s q = let x = (start_query_means p f s).0 q in record { admitted = x.start; refutes = x.false_in; live = tt }

module _ (p : Protocol) (g : List Formula) (f : Formula) where
  step_of : (number : ℕ) (arguments : List ℕ) (pair : Pair) → IsStepBy p number arguments pair → Step p pair.before pair.after
  step_of number arguments pair step = record {
    fits = step.fits;
    axioms = step.axioms;
    transition = step.transition;
    among = get_contains p.transitions number step.transition step.numbered;
    arguments = arguments;
    fires = step.fires;
  }

  -- a live filter that refutes the formula shows that it does not join
  pub start_does_not_join : (x : Filter) → FailsAtStart p g f x → Joins p g f → ⊥
  start_does_not_join x fails joins =
      let r : Rejection p g f (filter.Start fails.structure) = subst (Rejection p g f) fails.is fails.rejection in
      r.refutes (joins.start fails.structure r.admitted)

  pub move_does_not_join : (number : ℕ) (x : Filter) → LeavesFormula p g f number x → Joins p g f → ⊥
  move_does_not_join number x l joins =
      let r : Rejection p g f (filter.Move l.pair number l.arguments (length g)) = subst (Rejection p g f) l.is l.rejection in
      r.refutes.1 (joins.kept l.pair.before l.pair.after (step_of number l.arguments l.pair r.admitted) r.live.0 r.live.1 r.refutes.0)

  pub bad_does_not_join : (number : ℕ) (x : Filter) → LeavesSafety p g f number x → Joins p g f → ⊥
  bad_does_not_join number x l joins =
      let r : Rejection p g f (filter.Bad l.pair number l.arguments (length g)) = subst (Rejection p g f) l.is l.rejection in
      r.admitted.1 (joins.safe l.pair.before l.pair.after (step_of number l.arguments l.pair r.admitted.0) r.live.0 r.live.1 r.refutes)
