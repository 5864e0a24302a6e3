-- Within the limits no query ends a search.
use Rattle.std.specs.Prelude.{◌≡◌, ◌⊎◌, ℕ, List, Option, Some, None}
use Rattle.std.proofs.Common.{subst, ap, ◌∙◌, inl, inr}
use Rattle.sw_logic.specs.declared.query.Query.{Query}
use Rattle.sw_truth.specs.declared.instances.Instance.{Instance}
use Rattle.sw_truth.specs.declared.instances.Refutation.{Refutation}
use Rattle.sw_skolem.specs.Skolem.{skolem_of}
use Rattle.sw_instances.specs.Numbered.{IsGround}
use Rattle.sw_ground.specs.Verdict.{universe}
use Rattle.sw_decide.specs.Decision.{IsSpentOn}
use Rattle.sw_decide.specs.Known.{IsWithin}
use Rattle.sw_meaning.specs.declared.protocol.Protocol.{Protocol}
use Rattle.sw_meaning.specs.declared.template.Template.{Template}
use Rattle.sw_meaning.specs.WellFormed.{IsWellFormed}
use Rattle.sw_search.specs.Searches.{Ended, EndsBy, IsStopped}
use Rattle.sw_size_laws.specs.Laws.{BudgetSuffices, ListedOnce, ListsGrow}
use Rattle.sw_words.specs.declared.commands.Options.{Options}
use Rattle.sw_run.specs.Ending.{Answer, NamesBy, Reports, Stops, stop}
use Rattle.sw_run.proofs.Causes.{rows_exclude}
use Rattle.sw_run.proofs.Naming.{one_naming}
use Rattle.sw_completeness.specs.Worst.{IsEnough, MayAsk}
use Rattle.sw_completeness.specs.Laws.{KeepsLimits, TellsOver, IsReported, SearchIsComplete}
use Rattle.sw_completeness.proofs.Asked.{ends_at}
use Rattle.sw_completeness.proofs.Sides.{can_ask_all}
use Rattle.sw_completeness.proofs.Within.{may_within, may_within_none}

module _ (once : ListedOnce) (grow : ListsGrow) (suffices : BudgetSuffices) where
  not_spent : (q : Query) (budget : Option ℕ) (most : ℕ) (r : Refutation) → IsEnough budget q → budget ≡ Some most → IsSpentOn q budget r → ⊥
  not_spent q budget most r enough is spent =
      let s = subst (λ b. IsSpentOn q b r) is spent in
      let e = subst (λ b. IsEnough b q) is enough in
      let ground = subst (λ (xs : List Instance). IsGround (skolem_of q) (universe (skolem_of q)) xs s.ground) s.all s.made in
      suffices.enough q most r s.ground ground (e s.ground ground) s

  not_ended : (q : Query) (budget : Option ℕ) (ended : Ended) → IsWithin q → IsEnough budget q → EndsBy budget ended q → ⊥
  not_ended q budget (Ended.spent most) within enough (is, by) = not_spent q budget most by.0 enough is by.1.spent
  not_ended q budget (Ended.too_large size) within enough by = within by.past

  module _ (options : Options) (p : Protocol) (a : Answer) (ok : IsWellFormed p) where
    may_within_limits : (t u : Option Template) → KeepsLimits options p t u → (q : Query) → MayAsk p t u q → IsWithin q
    may_within_limits None u limits q may = may_within_none p u limits.sizes q may
    may_within_limits (Some t) u limits q may = may_within grow p (Some t) u (can_ask_all options p t u ok limits.named) limits.sizes q may

    -- what is told of a search that was ended is the line of a report that is too long
    stopped : (t u : Option Template) (line : List ℕ) → KeepsLimits options p t u → IsStopped p t u options.workers options.conflicts line → a ≡ stop line
        → TellsOver options p a
    stopped t u line limits (IsStopped.asked told ended stops e) is =
        let at = ends_at once p options.workers options.conflicts ended t u told stops in
        absurd (not_ended at.query options.conflicts ended (may_within_limits t u limits at.query at.may) (limits.budget at.query at.may) at.by)
    stopped t u line limits (IsStopped.over n over e) is =
        record { breadth = t; finish = u; named = limits.named; count = n; over = over; is = is ∙ ap stop e }

    -- the templates of the answer are those that are within the limits
    named_again : (t u v w : Option Template) → KeepsLimits options p t u → NamesBy options p v w → KeepsLimits options p v w
    named_again t u v w limits by =
        let same = one_naming options p t u v w limits.named by in
        subst (λ x. KeepsLimits options p v x) same.1 (subst (λ x. KeepsLimits options p x u) same.0 limits)

    reported : (t u : Option Template) → KeepsLimits options p t u → Reports options p a ⊎ Stops options p a → IsReported options p a
    reported t u limits (inl r) = inl r
    reported t u limits (inr s) = inr (stopped s.breadth s.finish a.line (named_again t u s.breadth s.finish limits s.named) s.ended s.is)

  pub search_is_complete : SearchIsComplete
  search_is_complete options p t u a ok limits searches =
      reported options p a ok t u limits ((rows_exclude.4 options p a).told t u limits.named searches)
