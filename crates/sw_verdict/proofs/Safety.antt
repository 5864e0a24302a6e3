-- What queries of safety that are cleared or met say of starts and steps.
use Rattle.std.specs.Prelude.{◌≡◌, ◌<◌, ℕ, Bool, true, false, List, [], ◌++◌, None, Some, length, slice_get, IsTrue}
use Rattle.std.proofs.Common.{refl}
use Rattle.std.proofs.lemmas.Bool.{false≢true}
use Rattle.std.proofs.lemmas.Option.{slice_get_within}
use Rattle.sw_lists.proofs.Each.{each-at, each-front, each-back}
use Rattle.sw_lists.proofs.Members.{contains_get, get_contains}
use Rattle.sw_logic.specs.declared.syntax.Formula.{Formula}
use Rattle.sw_logic.specs.declared.syntax.Formula.TheVariants.{All}
use Rattle.sw_logic.specs.declared.structure.Structure.{Structure}
use Rattle.sw_logic.specs.declared.structure.Pair.{Pair}
use Rattle.sw_logic.specs.Truth.{truth, world, AreTrueIn, IsTrueIn}
use Rattle.sw_meaning.specs.declared.protocol.Protocol.{Protocol}
use Rattle.sw_meaning.specs.declared.protocol.Transition.{Transition}
use Rattle.sw_meaning.specs.Runs.{Start}
use Rattle.sw_meaning.specs.WellFormed.{IsTransition, IsWellFormed}
use Rattle.sw_meaning.specs.Verdict.{Violated, SafeBy, NotSafeBy}
use Rattle.sw_meaning.proofs.Lists.{AreTrueIn-append}
use Rattle.sw_queries.specs.Queries.{safety_start_query_of}
use Rattle.sw_queries.specs.Counterexamples.{joined, pair_in, arguments_in}
use Rattle.sw_query_laws.proofs.Sentences.{conjunction_true, conjunction_parts}
use Rattle.sw_query_laws.proofs.Simple.{safety_start_query_means}
use Rattle.sw_query_laws.proofs.Means.{join_query_means}
use Rattle.sw_decide.specs.Decision.{HasStructure, HasNoStructure}
use Rattle.sw_verdict.specs.Judgement.{step_of, AreCleared}

holds_or : (b : Bool) → ((IsTrue b → ⊥) → ⊥) → IsTrue b
holds_or true h = refl
holds_or false h = absurd (h (λ e. false≢true e))

module _ (p : Protocol) where
  -- safety is true where it is not false
  safe_if : (s : Structure) → ((AreTrueIn p.signature s p.safeties → ⊥) → ⊥) → AreTrueIn p.signature s p.safeties
  safe_if s h =
      let sig = p.signature in
      conjunction_parts sig s p.safeties (holds_or (truth (world sig s s) (All p.safeties) []) (λ no. h (λ safe. no (conjunction_true sig s p.safeties safe))))

  pub safe_at_start : HasNoStructure (safety_start_query_of p) → (s : Structure) → Start p s → AreTrueIn p.signature s p.safeties
  safe_at_start none s start = safe_if s (λ unsafe. none s ((safety_start_query_means p s).1 (start, unsafe)))

  pub violated : HasStructure (safety_start_query_of p) → Violated p
  violated h = let x = (safety_start_query_means p h.0).0 h.1 in record { state = h.0; start = x.0; unsafe = x.1 }

  module _ (g : List Formula) (ok : IsWellFormed p) where
    transition_at : (n : ℕ) (t : Transition) → slice_get p.transitions n ≡ Some t → IsTransition p.signature t
    transition_at n t e = each-at (IsTransition p.signature) p.transitions n t e ok.transitions

    pub safe_by : HasNoStructure (safety_start_query_of p) → AreCleared p g (length p.transitions) → SafeBy p g
    safe_by start steps = record {
      start = safe_at_start start;
      step = λ s t step list safe. safe_if t (λ unsafe.
          let at = contains_get p.transitions step.transition step.among in
          let pair : Pair = record { before = s; after = t } in
          let means = join_query_means p step.transition g None (transition_at at.0 step.transition at.1) in
          (steps at.0 (slice_get_within p.transitions at.0 step.transition at.1) step.transition at.1).none (joined p step.transition pair step.arguments)
          (means.from pair step.arguments (record {
            step = record { fits = step.fits; axioms = step.axioms; fires = step.fires };
            holds_before = AreTrueIn-append p.signature s g p.safeties list safe;
            false_after = unsafe;
          })));
    }

    pub not_safe_by : (n : ℕ) (t : Transition) → slice_get p.transitions n ≡ Some t → HasNoStructure (safety_start_query_of p) → HasStructure (step_of p g t) → NotSafeBy p g
    not_safe_by n t e start h =
        let left = (join_query_means p t g None (transition_at n t e)).to h.0 h.1 in
        let pair = pair_in p t h.0 in
        record {
          start = safe_at_start start;
          before = pair.before;
          after = pair.after;
          step = record {
            fits = left.step.fits;
            axioms = left.step.axioms;
            transition = t;
            among = get_contains p.transitions n t e;
            arguments = arguments_in p t h.0;
            fires = left.step.fires;
          };
          list = each-front (IsTrueIn p.signature pair.before) g p.safeties left.holds_before;
          safe = each-back (IsTrueIn p.signature pair.before) g p.safeties left.holds_before;
          unsafe = left.false_after;
        }
