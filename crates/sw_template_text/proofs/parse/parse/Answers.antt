use Rattle.std.proofs.Common.{◌≡◌, ◌+◌, ◌<◌, ◌++◌, ◌∷◌, [], ℕ, length, get_or, sym, ◌∙◌, subst, arith, List}
use Rattle.std.proofs.lemmas.List.{get_or_default}
use Rattle.sw_template_text.specs.declared.words.Word.{Word}
use Rattle.sw_template_text.specs.declared.words.Word.TheVariants.{ForAll}
use Rattle.sw_template_text.specs.declared.parse.State.{State}
use Rattle.sw_template_text.specs.Grammar.{IsFault}
use Rattle.sw_template_text.proofs.Grammatical.{At, at_start, at_state, at_run, at_stop, at_end, at_template}
use Rattle.sw_template_text.proofs.parse.parse.Goals as goal
use Rattle.sw_template_text.proofs.parse.parse.Goals.{in-State, in-Run+in_ok-push-in-Run}

abbrev here : List Word → ℕ → Word
here words n = get_or words n ForAll

same : (words : List Word) (n : ℕ) → n < length words → get_or words n (here words n) ≡ here words n
same words n h = get_or_default words n (here words n) ForAll h

pub loop-n-init : goal.loop-n-init
loop-n-init c = subst (λ runs. At c.args.words.now 0 runs State.Run) (sym c.new-runs.ensures) (at_start c.args.words.now)

pub returns-in-Stop : goal.returns-in-Stop
returns-in-Stop c =
    let words = c.args.words.now in
    at_stop words c.loop-n.n c.loop-n.runs c.loop-n.state (here words c.loop-n.n) c.loop-n-test.true (same words c.loop-n.n c.loop-n-test.true) c.loop-n.invariant (sym c.step.ensures ∙ c.in-Stop.is)

pub loop-n-preserved : goal.loop-n-preserved
loop-n-preserved c =
    let words = c.args.words.now in
    elim c.match-step.branch [
      | in-State w ↦
          subst (λ runs. At words (c.loop-n.n + 1) runs c.match-step.state) (sym w.runs-is)
          (subst (At words (c.loop-n.n + 1) c.loop-n.runs) (sym w.state-is)
          (at_state words c.loop-n.n c.loop-n.runs c.loop-n.state w.in-State.next (here words c.loop-n.n) c.loop-n-test.true (same words c.loop-n.n c.loop-n-test.true) c.loop-n.invariant (sym c.step.ensures ∙ w.in-State.is)))
      | in-Run+in_ok-push-in-Run w ↦
          subst (λ runs. At words (c.loop-n.n + 1) runs c.match-step.state) (sym (w.runs-is ∙ w.in_ok-push-in-Run.ensures.ok))
          (subst (At words (c.loop-n.n + 1) (c.loop-n.runs ++ w.in-Run.run' ∷ [])) (sym w.state-is)
          (at_run words c.loop-n.n c.loop-n.runs c.loop-n.state w.in-Run.run' (here words c.loop-n.n) c.loop-n-test.true (same words c.loop-n.n c.loop-n-test.true) c.loop-n.invariant (sym c.step.ensures ∙ w.in-Run.is)))
    ]

pub returns-in-Some : goal.returns-in-Some
returns-in-Some c = at_template c.args.words.now c.loop-n.n c.loop-n.runs c.loop-n.state c.in-Some.numbers (omega (arith, c.loop-n-test.false, c.loop-n.auto.n-end)) c.loop-n.invariant (sym c.in-Some.ensures)

pub returns-in-None : goal.returns-in-None
returns-in-None c =
    let words = c.args.words.now in
    let e : c.loop-n.n ≡ length words = omega (arith, c.loop-n-test.false, c.loop-n.auto.n-end) in
    subst (IsFault words) e (at_end words c.loop-n.n c.loop-n.runs c.loop-n.state e c.loop-n.invariant (sym c.ended.ensures ∙ c.in-None.is))
