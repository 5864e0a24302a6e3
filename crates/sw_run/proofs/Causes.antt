-- The causes of different answers exclude each other.
use Rattle.std.specs.Prelude.{◌≡◌, ◌⊎◌, ℕ, ◌+◌, ◌<◌, ◌≤◌, true, false, List, ◌++◌, length, Option, Some, None, IfSome, Ok, Err, option_map}
use Rattle.std.proofs.Common.{refl, arith, sym, ap, ◌∙◌, subst, inl, inr, length-append}
use Rattle.std.proofs.lemmas.Bool.{false≢true}
use Rattle.std.proofs.lemmas.Option.{same_Some}
use Rattle.sw_edge.specs.Edge.{Took}
use Rattle.sw_meaning.specs.declared.protocol.Protocol.{Protocol}
use Rattle.sw_protocol.specs.Stratified.{IsText}
use Rattle.sw_words.specs.declared.commands.Command.{Command}
use Rattle.sw_words.specs.declared.commands.Command.TheVariants.{Synth, Space, Print}
use Rattle.sw_words.specs.declared.commands.Options.{Options}
use Rattle.sw_meaning.specs.declared.template.Template.{Template}
use Rattle.sw_run.specs.Words.{is_served, asks_check}
use Rattle.sw_run.specs.Ending.{Change, Answer, Faults, Misreads, Reads, Searches, Reports, Stops, Names, NamesFault, NamesBy, Prints, Sizes, IsInput, IsTooLong, Allowed, AllowedCheck, refused, sized}
use Rattle.sw_run.specs.Laws.{Tells, LacksMemory, IsRefusedUnread, WordsChoose, InputChooses, SearchChooses, SizeChooses, RowsExcludeEachOther}
use Rattle.sw_run.specs.declared.input.TheConstants.{INPUT_LIMIT}
use Rattle.sw_run.specs.declared.told.Refusal.{Refusal}
use Rattle.sw_run.specs.declared.told.Refusal.TheVariants.{Usage, TooLong, SpaceFaulty, BreadthFaulty, FinishFaulty, Unbuilt, ReadFault}
use Rattle.sw_space.specs.declared.faults.SpaceFault.{SpaceFault}
use Rattle.sw_space.specs.Named.{HasSpace}
use Rattle.sw_space.proofs.OneSpace.{one_space}
use Rattle.sw_run.proofs.Naming.{same_named, same_fault, unfaulty, named_not_faulty, one_named_fault, named_not_unfinished, one_finish_fault}
use Rattle.sw_run.proofs.Inputs.{one_fault, not_both, one_text}

-- ---- words

same_command : (command : Option Command) (c d : Command) → command ≡ Some c → command ≡ Some d → c ≡ d
same_command command c d e f = same_Some c d (sym e ∙ f)

pub same_options : (o p : Options) → Synth o ≡ Synth p → o ≡ p
same_options o p is = cc

pub same_text : (t u : List ℕ) → Space t ≡ Space u → t ≡ u
same_text t u is = cc

no_command : (command : Option Command) (c : Command) → command ≡ None → command ≡ Some c → ⊥
no_command command c none some = let bad : None ≡ Some c = sym none ∙ some in absurd cc

other_served : (command : Option Command) (c d : Command) → command ≡ Some c → command ≡ Some d → is_served c ≡ false → is_served d ≡ true → ⊥
other_served command c d e f off on = false≢true (sym off ∙ (ap is_served (same_command command c d e f) ∙ on))

module _ (command : Option Command) (input : Change) (a : Answer) where
  usage_alone : command ≡ None → Allowed command input a → IsRefusedUnread Usage input a ⊎ LacksMemory a
  usage_alone none (Allowed.usage n u is) = inl (is, u)
  usage_alone none (Allowed.unserved c some off u is) = absurd (no_command command c none some)
  usage_alone none (Allowed.synth o some reads) = absurd (no_command command (Synth o) none some)
  usage_alone none (Allowed.space text some reads) = absurd (no_command command (Space text) none some)
  usage_alone none (Allowed.print some reads) = absurd (no_command command Print none some)
  usage_alone none (Allowed.no_memory is) = inr is

  unserved_alone : (c : Command) → command ≡ Some c → is_served c ≡ false → Allowed command input a → IsRefusedUnread Unbuilt input a ⊎ LacksMemory a
  unserved_alone c some off (Allowed.usage none u is) = absurd (no_command command c none some)
  unserved_alone c some off (Allowed.unserved d e f u is) = inl (is, u)
  unserved_alone c some off (Allowed.synth o e reads) = absurd (other_served command c (Synth o) some e off refl)
  unserved_alone c some off (Allowed.space text e reads) = absurd (other_served command c (Space text) some e off refl)
  unserved_alone c some off (Allowed.print e reads) = absurd (other_served command c Print some e off refl)
  unserved_alone c some off (Allowed.no_memory is) = inr is

  synth_alone : (o : Options) → command ≡ Some (Synth o) → Allowed command input a → Reads input (Searches o) a ⊎ LacksMemory a
  synth_alone o some (Allowed.usage none u is) = absurd (no_command command (Synth o) none some)
  synth_alone o some (Allowed.unserved c e off u is) = absurd (other_served command c (Synth o) e some off refl)
  synth_alone o some (Allowed.synth p e reads) =
      let same : p ≡ o = same_options p o (same_command command (Synth p) (Synth o) e some) in inl (subst (λ q. Reads input (Searches q) a) same reads)
  synth_alone o some (Allowed.space text e reads) = let bad : Space text ≡ Synth o = same_command command (Space text) (Synth o) e some in absurd cc
  synth_alone o some (Allowed.print e reads) = let bad : Print ≡ Synth o = same_command command Print (Synth o) e some in absurd cc
  synth_alone o some (Allowed.no_memory is) = inr is

  space_alone : (text : List ℕ) → command ≡ Some (Space text) → Allowed command input a → Reads input (Sizes text) a ⊎ LacksMemory a
  space_alone text some (Allowed.usage none u is) = absurd (no_command command (Space text) none some)
  space_alone text some (Allowed.unserved c e off u is) = absurd (other_served command c (Space text) e some off refl)
  space_alone text some (Allowed.synth o e reads) = let bad : Space text ≡ Synth o = same_command command (Space text) (Synth o) some e in absurd cc
  space_alone text some (Allowed.space other e reads) =
      let same : other ≡ text = same_text other text (same_command command (Space other) (Space text) e some) in inl (subst (λ t. Reads input (Sizes t) a) same reads)
  space_alone text some (Allowed.print e reads) = let bad : Space text ≡ Print = same_command command (Space text) Print some e in absurd cc
  space_alone text some (Allowed.no_memory is) = inr is

  print_alone : command ≡ Some Print → Allowed command input a → Reads input Prints a ⊎ LacksMemory a
  print_alone some (Allowed.usage none u is) = absurd (no_command command Print none some)
  print_alone some (Allowed.unserved c e off u is) = absurd (other_served command c Print e some off refl)
  print_alone some (Allowed.synth o e reads) = let bad : Print ≡ Synth o = same_command command Print (Synth o) some e in absurd cc
  print_alone some (Allowed.space text e reads) = let bad : Print ≡ Space text = same_command command Print (Space text) some e in absurd cc
  print_alone some (Allowed.print e reads) = inl reads
  print_alone some (Allowed.no_memory is) = inr is

  check_usage_alone : asks_check command ≡ false → AllowedCheck command input a → IsRefusedUnread Usage input a ⊎ LacksMemory a
  check_usage_alone off (AllowedCheck.usage n u is) = inl (is, u)
  check_usage_alone off (AllowedCheck.check on allowed) = absurd (false≢true (sym off ∙ on))
  check_usage_alone off (AllowedCheck.no_memory is) = inr is

  check_alone : asks_check command ≡ true → AllowedCheck command input a → Allowed command input a
  check_alone on (AllowedCheck.usage off u is) = absurd (false≢true (sym off ∙ on))
  check_alone on (AllowedCheck.check some allowed) = allowed
  check_alone on (AllowedCheck.no_memory is) = Allowed.no_memory is

  pub words_choose : WordsChoose command input a
  words_choose = record {
    usage = usage_alone;
    unserved = unserved_alone;
    synth = synth_alone;
    space = space_alone;
    print = print_alone;
    check_usage = check_usage_alone;
    check = check_alone;
  }

-- ---- input

-- so many bytes were taken, and no other number
one_count : (input : Change) (m n : ℕ) → Tells input → Took input.before input.now m → Took input.before input.now n → m ≡ n
one_count input m n tells a b =
    let first : length tells.first ≡ m + length tells.last = counted m a in
    let second : length tells.first ≡ n + length tells.last = counted n b in
    omega arith
  where
    counted : (k : ℕ) → Took input.before input.now k → length tells.first ≡ k + length tells.last
    counted k took =
        let is : tells.first ≡ took.0 ++ tells.last =
        same_Some tells.first (took.0 ++ tells.last) (sym tells.before ∙ (took.2 ∙ ap (option_map (λ left. took.0 ++ left)) tells.now)) in
        omega (arith, ap length is, length-append took.0 tells.last, took.1)

module _ (input : Change) (bytes : List ℕ) (told : input.before ≡ Some bytes) where
  -- a whole input is what the source told
  pub input_told : (whole : List ℕ) → IsInput input whole → whole ≡ bytes
  input_told whole read = subst (λ o. IfSome o (λ left. whole ≡ left)) told read.all

  -- bytes taken are among those told
  taken_from : (now : Option (List ℕ)) (n : ℕ) (taken : List ℕ) → length taken ≡ n → Some bytes ≡ option_map (λ left. taken ++ left) now → n ≤ length bytes
  taken_from None n taken count e = absurd cc
  taken_from (Some last) n taken count e =
      let is : bytes ≡ taken ++ last = same_Some bytes (taken ++ last) e in omega (arith, ap length is, length-append taken last, count)

  -- more bytes were told than may be
  pub over_limit : IsTooLong input → INPUT_LIMIT < length bytes
  over_limit long =
      let taken : long.count ≤ length bytes = taken_from input.now long.count long.took.0 long.took.1 (sym told ∙ long.took.2) in omega (arith, taken, long.over)

  not_within : IsTooLong input → length bytes ≤ INPUT_LIMIT → ⊥
  not_within long few = omega (arith, over_limit long, few)

  -- a whole input is not too long
  pub fits : (whole : List ℕ) → IsInput input whole → length bytes ≤ INPUT_LIMIT
  fits whole read = omega (arith, ap length (input_told whole read), read.within)

  not_over : (whole : List ℕ) → IsInput input whole → INPUT_LIMIT < length bytes → ⊥
  not_over whole read over = omega (arith, fits whole read, over)

  module _ (Answers : Protocol → Answer → Type 0) (a : Answer) where
    pub too_long_alone : INPUT_LIMIT < length bytes → Reads input Answers a → (a ≡ refused TooLong) ⊎ (a ≡ refused ReadFault)
    too_long_alone over (Reads.misread (Misreads.read_fault rose within is)) = inr is
    too_long_alone over (Reads.misread (Misreads.too_long long is)) = inl is
    too_long_alone over (Reads.misread (Misreads.faulty whole r read has is)) = absurd (not_over whole read over)
    too_long_alone over (Reads.read p s is) = absurd (not_over s.bytes s.read over)

    pub faulty_alone : (r : Refusal) → length bytes ≤ INPUT_LIMIT → Faults bytes r → Reads input Answers a → (a ≡ refused r) ⊎ (a ≡ refused ReadFault)
    faulty_alone r few has (Reads.misread (Misreads.read_fault rose within is)) = inr is
    faulty_alone r few has (Reads.misread (Misreads.too_long long is)) = absurd (not_within long few)
    faulty_alone r few has (Reads.misread (Misreads.faulty whole q read other is)) =
        let here : Faults bytes q = subst (λ text. Faults text q) (input_told whole read) other in
        inl (is ∙ ap refused (one_fault bytes q r here has))
    faulty_alone r few has (Reads.read p s is) =
        let here : IsText bytes p = subst (λ text. IsText text p) (input_told s.bytes s.read) s.text in
        absurd (not_both bytes r p has here)

    pub spelled_alone : (p : Protocol) → length bytes ≤ INPUT_LIMIT → IsText bytes p → Reads input Answers a → Answers p a ⊎ (a ≡ refused ReadFault)
    spelled_alone p few has (Reads.misread (Misreads.read_fault rose within is)) = inr is
    spelled_alone p few has (Reads.misread (Misreads.too_long long is)) = absurd (not_within long few)
    spelled_alone p few has (Reads.misread (Misreads.faulty whole r read other is)) =
        let here : Faults bytes r = subst (λ text. Faults text r) (input_told whole read) other in
        absurd (not_both bytes r p here has)
    spelled_alone p few has (Reads.read q s is) =
        let here : IsText bytes q = subst (λ text. IsText text q) (input_told s.bytes s.read) s.text in
        inl (subst (λ x. Answers x a) (one_text bytes q p here has) is)

    taken_alone : Tells input → IsTooLong input → Reads input Answers a → a ≡ refused TooLong
    taken_alone tells long (Reads.misread (Misreads.read_fault rose w is)) =
        let same : w.count ≡ long.count = one_count input w.count long.count tells w.took long.took in absurd (omega (arith, w.within, long.over))
    taken_alone tells long (Reads.misread (Misreads.too_long l is)) = is
    taken_alone tells long (Reads.misread (Misreads.faulty whole r read has is)) = absurd (not_within long (fits whole read))
    taken_alone tells long (Reads.read p s is) = absurd (not_within long (fits s.bytes s.read))

    pub input_chooses : InputChooses input bytes Answers a
    input_chooses = record { too_long = too_long_alone; faulty = faulty_alone; spelled = spelled_alone; taken = taken_alone }

-- ---- protocols

search_chooses : (options : Options) (p : Protocol) (a : Answer) → SearchChooses options p a
search_chooses options p a = record { told = told; breadth_faulty = breadth_faulty; finish_faulty = finish_faulty }
  where
    told : (t u : Option Template) → NamesBy options p t u → Searches options p a → Reports options p a ⊎ Stops options p a
    told t u by (Searches.report r) = inl r
    told t u by (Searches.stopped s) = inr s
    told t u by (Searches.breadth_faulty f has is) = absurd (named_not_faulty options.breadth p None t f by.breadth has)
    told t u both (Searches.finish_faulty v f by has is) = absurd (named_not_unfinished options p t u v f both by has)

    breadth_faulty : (f : SpaceFault) → NamesFault options.breadth p None f → Searches options p a → a ≡ refused (BreadthFaulty f)
    breadth_faulty f has (Searches.report r) = absurd (named_not_faulty options.breadth p None r.breadth f r.named.breadth has)
    breadth_faulty f has (Searches.stopped s) = absurd (named_not_faulty options.breadth p None s.breadth f s.named.breadth has)
    breadth_faulty f has (Searches.breadth_faulty g has' is) = is ∙ ap (λ x. refused (BreadthFaulty x)) (one_named_fault options.breadth p None g f has' has)
    breadth_faulty f has (Searches.finish_faulty t g by has' is) = absurd (named_not_faulty options.breadth p None t f by has)

    finish_faulty : (t : Option Template) (f : SpaceFault) → Names options.breadth p None t → NamesFault options.finish p t f → Searches options p a → a ≡ refused (FinishFaulty f)
    finish_faulty t f by has (Searches.report r) = absurd (named_not_unfinished options p r.breadth r.finish t f r.named by has)
    finish_faulty t f by has (Searches.stopped s) = absurd (named_not_unfinished options p s.breadth s.finish t f s.named by has)
    finish_faulty t f by has (Searches.breadth_faulty g has' is) = absurd (named_not_faulty options.breadth p None t g by has')
    finish_faulty t f by has (Searches.finish_faulty v g by' has' is) = is ∙ ap (λ x. refused (FinishFaulty x)) (one_finish_fault options p v t g f by' by has' has)

pub size_chooses : (text : List ℕ) (p : Protocol) (a : Answer) → SizeChooses text p a
size_chooses text p a = record { sizes = sizes; faulty = faulty }
  where
    sizes : (t : Template) → HasSpace p None text (Ok t) → Sizes text p a → a ≡ sized p t
    sizes t has (Sizes.sizes u other is) = is ∙ ap (sized p) (same_named u t (one_space p None text (Ok u) (Ok t) other has))
    sizes t has (Sizes.faulty f other is) = absurd (unfaulty t f (one_space p None text (Ok t) (Err f) has other))

    faulty : (f : SpaceFault) → HasSpace p None text (Err f) → Sizes text p a → a ≡ refused (SpaceFaulty f)
    faulty f has (Sizes.sizes t other is) = absurd (unfaulty t f (one_space p None text (Ok t) (Err f) other has))
    faulty f has (Sizes.faulty g other is) = is ∙ ap (λ x. refused (SpaceFaulty x)) (same_fault g f (one_space p None text (Err g) (Err f) other has))

pub rows_exclude : RowsExcludeEachOther
rows_exclude = (
  words_choose,
  λ options input bytes a told. input_chooses input bytes told (Searches options) a,
  λ input bytes a told. input_chooses input bytes told Prints a,
  λ text input bytes a told. input_chooses input bytes told (Sizes text) a,
  search_chooses,
  size_chooses,
)
