-- What is answered of a text of a protocol, where the source has no fault.
use Rattle.std.specs.Prelude.{◌≡◌, ◌⊎◌, ℕ, true, List, Option, Some, Ok, None}
use Rattle.std.proofs.Common.{arith, refl, subst, inl, inr}
use Rattle.sw_meaning.specs.declared.protocol.Protocol.{Protocol}
use Rattle.sw_meaning.specs.declared.template.Template.{Template}
use Rattle.sw_meaning.specs.WellFormed.{IsWellFormed}
use Rattle.sw_protocol.specs.Stratified.{Judges, HasProtocol, IsText}
use Rattle.sw_protocol.proofs.Declared.{declared_is_well_formed}
use Rattle.sw_space.specs.Named.{HasSpace}
use Rattle.sw_words.specs.declared.commands.Command.{Command}
use Rattle.sw_words.specs.declared.commands.Command.TheVariants.{Synth, Space, Print}
use Rattle.sw_words.specs.declared.commands.Options.{Options}
use Rattle.sw_run.specs.Words.{asks_check}
use Rattle.sw_run.specs.Ending.{Change, Answer, Faults, Misreads, Reads, Searches, Prints, Sizes, Allowed, IsOrLacksMemory, printed, sized}
use Rattle.sw_run.proofs.Causes.{input_told, over_limit, words_choose, size_chooses}
use Rattle.sw_run.proofs.Inputs.{not_both, one_text}
use Rattle.sw_completeness.specs.Laws.{KeepsLimits, IsReported, IsReportedOrLacks, IsRead, IsAnswered, CheckIsComplete, SearchIsComplete}

-- ---- the protocol of a text

judged_well_formed : (p q : Protocol) → IsWellFormed p → Judges p (Ok q) → IsWellFormed q
judged_well_formed p q ok (Judges.ranked ranks are is) = let same : p ≡ q = cc in subst IsWellFormed same ok
judged_well_formed p q ok (Judges.cycle sort first is) = absurd cc

text_is_well_formed : (text : List ℕ) (p : Protocol) → IsText text p → IsWellFormed p
text_is_well_formed text p (HasProtocol.refused e has is) = absurd cc
text_is_well_formed text p (HasProtocol.declared q has judges) = judged_well_formed q p (declared_is_well_formed text q has) judges

-- ---- what is answered

or_other : {A B C : Type 0} → (A → B) → A ⊎ C → B ⊎ C
or_other f (inl a) = inl (f a)
or_other f (inr c) = inr c

module _ (input : Change) (p : Protocol) (read : IsRead input p) where
  misreads : (a : Answer) → Misreads input a → ⊥
  misreads a (Misreads.read_fault rose within is) = read.sound rose
  misreads a (Misreads.too_long long is) = let over = over_limit input read.bytes read.told long in let few = read.few in absurd (omega (arith, over, few))
  misreads a (Misreads.faulty whole r all faults is) =
      not_both read.bytes r p (subst (λ text. Faults text r) (input_told input read.bytes read.told whole all) faults) read.text

  pub answered : (Answers : Protocol → Answer → Type 0) (a : Answer) → Reads input Answers a → Answers p a
  answered Answers a (Reads.misread m) = absurd (misreads a m)
  answered Answers a (Reads.read q s is) =
      let here = subst (λ text. IsText text q) (input_told input read.bytes read.told s.bytes s.read) s.text in
      subst (λ x. Answers x a) (one_text read.bytes q p here read.text) is

  -- a search
  pub synth_answered : SearchIsComplete → (options : Options) (t u : Option Template) (a : Answer) → KeepsLimits options p t u
      → Allowed (Some (Synth options)) input a → IsReportedOrLacks options p a
  synth_answered complete options t u a limits allowed = or_other told ((words_choose (Some (Synth options)) input a).synth options refl allowed)
    where
      told : Reads input (Searches options) a → IsReported options p a
      told reads =
          complete options p t u a (text_is_well_formed read.bytes p read.text) limits (answered (Searches options) a reads)

  -- `print` and `space`
  print_answered : (a : Answer) → Allowed (Some Print) input a → IsOrLacksMemory (printed p) a
  print_answered a allowed = or_other (answered Prints a) ((words_choose (Some Print) input a).print refl allowed)

  space_answered : (text : List ℕ) (t : Template) (a : Answer) → HasSpace p None text (Ok t) → Allowed (Some (Space text)) input a → IsOrLacksMemory (sized p t) a
  space_answered text t a has allowed = or_other told ((words_choose (Some (Space text)) input a).space text refl allowed)
    where
      told : Reads input (Sizes text) a → a ≡ sized p t
      told reads = (size_chooses text p a).sizes t has (answered (Sizes text) a reads)

-- `run_check` answers these commands as `run` does
both_calls : (command : Command) (input : Change) (is : Answer) → asks_check (Some command) ≡ true
    → ((a : Answer) → Allowed (Some command) input a → IsOrLacksMemory is a) → IsAnswered command input is
both_calls command input is asks run = (run, λ a check. run a ((words_choose (Some command) input a).check asks check))

pub check_is_complete : CheckIsComplete
check_is_complete = record {
  print = λ input p read. both_calls Print input (printed p) refl (print_answered input p read);
  space = λ text input p t read has. both_calls (Space text) input (sized p t) refl (λ a allowed. space_answered input p read text t a has allowed);
}
