-- The words and the bytes of the input fix the answer, or what it says, but for want of memory, failed reads and queries that end a search.
use Rattle.std.specs.Prelude.{◌≡◌, ◌⊎◌, ℕ, true, List, Option, Some, None}
use Rattle.std.proofs.Common.{refl, sym, ◌∙◌, subst, inl, inr}
use Rattle.std.proofs.lemmas.Bool.{false≢true}
use Rattle.sw_meaning.specs.declared.protocol.Protocol.{Protocol}
use Rattle.sw_protocol.specs.Stratified.{IsText}
use Rattle.sw_words.specs.declared.commands.Command.{Command}
use Rattle.sw_words.specs.declared.commands.Command.TheVariants.{Synth, Certify, Space, Print, Check, Drill}
use Rattle.sw_words.specs.declared.commands.Options.{Options}
use Rattle.sw_run.specs.Words.{asks_check}
use Rattle.sw_run.specs.Ending.{Change, Answer, Faults, Misreads, Reads, Searches, Prints, Sizes, Allowed, AllowedCheck, refused}
use Rattle.sw_run.specs.Laws.{IsLost, IsEnded, LacksMemory, IsRefusedUnread, HasOneWorker, HaveSameTemplates, FindTheSame, OneAnswer, AnswersSayTheSame}
use Rattle.sw_run.specs.declared.told.Refusal.{Refusal}
use Rattle.sw_run.specs.declared.told.Refusal.TheVariants.{Usage, TooLong, Unbuilt, ReadFault}
use Rattle.sw_run.proofs.Causes.{input_told, fits, over_limit, too_long_alone, faulty_alone, spelled_alone, words_choose, size_chooses}
use Rattle.sw_run.proofs.OneSearch.{common_searches, one_search}

-- this stands of two answers, or one of them is lost
abbrev Agree : Answer → Answer → Type 0 → Type 0
Agree a b R = (IsLost a ⊎ IsLost b) ⊎ R

-- where a query did not end the search
ended_or : (a b : Answer) (R : Type 0) → (IsEnded a ⊎ IsEnded b) ⊎ R → Agree a b R
ended_or a b R (inl (inl ended)) = inl (inl (inr (inr ended)))
ended_or a b R (inl (inr ended)) = inl (inr (inr (inr ended)))
ended_or a b R (inr h) = inr h

one_print : (p : Protocol) (a b : Answer) → Prints p a → Prints p b → a ≡ b
one_print p a b x y = x ∙ sym y

one_size : (text : List ℕ) (p : Protocol) (a b : Answer) → Sizes text p a → Sizes text p b → a ≡ b
one_size text p a b (Sizes.sizes t has is) other = is ∙ sym ((size_chooses text p b).sizes t has other)
one_size text p a b (Sizes.faulty f has is) other = is ∙ sym ((size_chooses text p b).faulty f has other)

-- a command that needs no workers has no more than one
check_has_one : (command : Option Command) → asks_check command ≡ true → HasOneWorker command
check_has_one None on = tt
check_has_one (Some (Synth o)) on = absurd (false≢true on)
check_has_one (Some (Certify o)) on = tt
check_has_one (Some (Space text)) on = tt
check_has_one (Some Print) on = tt
check_has_one (Some Check) on = tt
check_has_one (Some (Drill n w)) on = tt

module _ (i j : Change) (bytes : List ℕ) (a b : Answer) (here : i.before ≡ Some bytes) (there : j.before ≡ Some bytes) where
  -- what is answered of one protocol, where what stands of one answer stands
  module _ (R : Type 0) (one : a ≡ b → R) where
    same_or_failed : (x : Answer) → a ≡ x → (b ≡ x) ⊎ (b ≡ refused ReadFault) → Agree a b R
    same_or_failed x is (inl same) = inr (one (is ∙ sym same))
    same_or_failed x is (inr failed) = inl (inr (inr (inl failed)))

    module _ (Answers Others : Protocol → Answer → Type 0) (agree : (p : Protocol) → Answers p a → Others p b → Agree a b R) where
      both_answer : (p : Protocol) → Answers p a → Others p b ⊎ (b ≡ refused ReadFault) → Agree a b R
      both_answer p is (inl other) = agree p is other
      both_answer p is (inr failed) = inl (inr (inr (inl failed)))

      one_reading : Reads i Answers a → Reads j Others b → Agree a b R
      one_reading (Reads.misread (Misreads.read_fault rose within is)) other = inl (inl (inr (inl is)))
      one_reading (Reads.misread (Misreads.too_long long is)) other = same_or_failed (refused TooLong) is (too_long_alone j bytes there Others b (over_limit i bytes here long) other)
      one_reading (Reads.misread (Misreads.faulty whole r read has is)) other =
          let known : Faults bytes r = subst (λ text. Faults text r) (input_told i bytes here whole read) has in
          same_or_failed (refused r) is (faulty_alone j bytes there Others b r (fits i bytes here whole read) known other)
      one_reading (Reads.read p s is) other =
          let known : IsText bytes p = subst (λ text. IsText text p) (input_told i bytes here s.bytes s.read) s.text in
          both_answer p is (spelled_alone j bytes there Others b p (fits i bytes here s.bytes s.read) known other)

      pub read_both : Reads i Answers a ⊎ LacksMemory a → Reads j Others b ⊎ LacksMemory b → Agree a b R
      read_both (inl reads) (inl other) = one_reading reads other
      read_both (inr lacks) other = inl (inl (inl lacks))
      read_both (inl reads) (inr lacks) = inl (inr (inl lacks))

  same_or_lacks : (r : Refusal) → a ≡ refused r → IsRefusedUnread r j b ⊎ LacksMemory b → Agree a b (a ≡ b)
  same_or_lacks r is (inl other) = inr (is ∙ sym other.0)
  same_or_lacks r is (inr lacks) = inl (inr (inl lacks))

  -- the answers to one command
  alike : (Answers : Protocol → Answer → Type 0) → ((p : Protocol) → Answers p a → Answers p b → Agree a b (a ≡ b)) → Reads i Answers a → Reads j Answers b ⊎ LacksMemory b → Agree a b (a ≡ b)
  alike Answers agree reads other = read_both (a ≡ b) (λ same. same) Answers Answers agree (inl reads) other

  module _ (command : Option Command) where
    one_run : HasOneWorker command → Allowed command i a → Allowed command j b → Agree a b (a ≡ b)
    one_run one (Allowed.usage none u is) other = same_or_lacks Usage is ((words_choose command j b).usage none other)
    one_run one (Allowed.unserved c some off u is) other = same_or_lacks Unbuilt is ((words_choose command j b).unserved c some off other)
    one_run one (Allowed.synth o some reads) other =
        let workers : o.workers ≡ 1 = subst HasOneWorker some one in
        alike (Searches o) (λ p x y. ended_or a b (a ≡ b) (one_search o p a b workers x y)) reads ((words_choose command j b).synth o some other)
    one_run one (Allowed.space text some reads) other = alike (Sizes text) (λ p x y. inr (one_size text p a b x y)) reads ((words_choose command j b).space text some other)
    one_run one (Allowed.print some reads) other = alike Prints (λ p x y. inr (one_print p a b x y)) reads ((words_choose command j b).print some other)
    one_run one (Allowed.no_memory is) other = inl (inl (inl is))

    one_check : AllowedCheck command i a → AllowedCheck command j b → Agree a b (a ≡ b)
    one_check (AllowedCheck.usage off u is) other = same_or_lacks Usage is ((words_choose command j b).check_usage off other)
    one_check (AllowedCheck.check on allowed) other = one_run (check_has_one command on) allowed ((words_choose command j b).check on other)
    one_check (AllowedCheck.no_memory is) other = inl (inl (inl is))

  pub answers_agree : (o v : Options) → HaveSameTemplates o v → Allowed (Some (Synth o)) i a → Allowed (Some (Synth v)) j b → Agree a b ((a ≡ b) ⊎ FindTheSame o v a b)
  answers_agree o v same x y =
      read_both ((a ≡ b) ⊎ FindTheSame o v a b) (λ one. inl one) (Searches o) (Searches v) (λ p x y. ended_or a b ((a ≡ b) ⊎ FindTheSame o v a b) (common_searches o v p a b same x y))
      ((words_choose (Some (Synth o)) i a).synth o refl x) ((words_choose (Some (Synth v)) j b).synth v refl y)

pub one_answer : OneAnswer
one_answer command i j bytes a b here there = (one_run i j bytes a b here there command, one_check i j bytes a b here there command)

pub answers_say_the_same : AnswersSayTheSame
answers_say_the_same o v i j bytes a b same here there = answers_agree i j bytes a b here there o v same
