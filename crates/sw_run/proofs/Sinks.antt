-- What an answer leaves in sinks that tell their bytes, and that only a failed sink has the status 6.
use Rattle.std.specs.Prelude.{◌≡◌, ℕ, List, [], ◌++◌, Option, Some, option_map}
use Rattle.std.proofs.Common.{sym, ap, ◌∙◌, append-nil, inl, inr}
use Rattle.sw_meaning.specs.declared.protocol.Protocol.{Protocol}
use Rattle.sw_meaning.specs.Verdict.{Word}
use Rattle.sw_words.specs.declared.commands.Command.{Command}
use Rattle.sw_words.specs.declared.commands.Options.{Options}
use Rattle.sw_run.specs.Refusals.{refusal_status}
use Rattle.sw_run.specs.Ending.{Change, Answer, Misreads, Reads, Searches, Prints, Sizes, Allowed, AllowedCheck, Ends, Gained, refused}
use Rattle.sw_report.specs.Words.{word_status}
use Rattle.sw_run.specs.Laws.{IsTold, AnswerIsTold}
use Rattle.sw_run.specs.declared.told.Refusal.{Refusal}
use Rattle.sw_run.specs.declared.told.Refusal.TheVariants.{Usage, TooLong, Faulty, NotStratified, SpaceFaulty, BreadthFaulty, FinishFaulty, Stopped, Unbuilt, ReadFault, NoMemory}

-- ---- no answer has the status of a failed write

word_is_not_6 : (w : Word) → word_status w ≡ 6 → ⊥
word_is_not_6 Word.violated e = cc
word_is_not_6 Word.safe e = cc
word_is_not_6 (Word.safe_with f) e = cc
word_is_not_6 Word.exhausted e = cc
word_is_not_6 Word.unsettled e = cc

refusal_is_not_6 : (r : Refusal) → refusal_status r ≡ 6 → ⊥
refusal_is_not_6 Usage e = cc
refusal_is_not_6 TooLong e = cc
refusal_is_not_6 (Faulty f at) e = cc
refusal_is_not_6 (NotStratified name) e = cc
refusal_is_not_6 (SpaceFaulty f) e = cc
refusal_is_not_6 (BreadthFaulty f) e = cc
refusal_is_not_6 (FinishFaulty f) e = cc
refusal_is_not_6 (Stopped text) e = cc
refusal_is_not_6 Unbuilt e = cc
refusal_is_not_6 ReadFault e = cc
refusal_is_not_6 NoMemory e = cc

abbrev IsNot6 : Answer → Type 0
IsNot6 a = a.status ≡ 6 → ⊥

refused_is_not_6 : (a : Answer) (r : Refusal) → a ≡ refused r → IsNot6 a
refused_is_not_6 a r is e = refusal_is_not_6 r (sym (ap (λ b. b.status) is) ∙ e)

misread_is_not_6 : (input : Change) (a : Answer) → Misreads input a → IsNot6 a
misread_is_not_6 input a (Misreads.read_fault rose within is) = refused_is_not_6 a ReadFault is
misread_is_not_6 input a (Misreads.too_long long is) = refused_is_not_6 a TooLong is
misread_is_not_6 input a (Misreads.faulty bytes r read has is) = refused_is_not_6 a r is

read_is_not_6 : (input : Change) (Answers : Protocol → Answer → Type 0) (a : Answer) → ((p : Protocol) → Answers p a → IsNot6 a) → Reads input Answers a → IsNot6 a
read_is_not_6 input Answers a each (Reads.misread why) = misread_is_not_6 input a why
read_is_not_6 input Answers a each (Reads.read p spelled answers) = each p answers

search_is_not_6 : (options : Options) (a : Answer) (p : Protocol) → Searches options p a → IsNot6 a
search_is_not_6 options a p (Searches.report r) e = word_is_not_6 r.report.word (sym r.report.ends ∙ e)
search_is_not_6 options a p (Searches.stopped s) e = let four : ◌≡◌ {A = ℕ} 4 6 = sym (ap (λ b. b.status) s.is) ∙ e in cc
search_is_not_6 options a p (Searches.breadth_faulty f has is) e = refused_is_not_6 a (BreadthFaulty f) is e
search_is_not_6 options a p (Searches.finish_faulty t f by has is) e = refused_is_not_6 a (FinishFaulty f) is e

print_is_not_6 : (a : Answer) (p : Protocol) → Prints p a → IsNot6 a
print_is_not_6 a p is e = let zero : ◌≡◌ {A = ℕ} 0 6 = sym (ap (λ b. b.status) is) ∙ e in cc

size_is_not_6 : (text : List ℕ) (a : Answer) (p : Protocol) → Sizes text p a → IsNot6 a
size_is_not_6 text a p (Sizes.sizes t has is) e = let zero : ◌≡◌ {A = ℕ} 0 6 = sym (ap (λ b. b.status) is) ∙ e in cc
size_is_not_6 text a p (Sizes.faulty f has is) e = refused_is_not_6 a (SpaceFaulty f) is e

run_is_not_6 : (command : Option Command) (input : Change) (a : Answer) → Allowed command input a → IsNot6 a
run_is_not_6 command input a (Allowed.usage none u is) = refused_is_not_6 a Usage is
run_is_not_6 command input a (Allowed.unserved c some off u is) = refused_is_not_6 a Unbuilt is
run_is_not_6 command input a (Allowed.synth o some reads) = read_is_not_6 input (Searches o) a (search_is_not_6 o a) reads
run_is_not_6 command input a (Allowed.space text some reads) = read_is_not_6 input (Sizes text) a (size_is_not_6 text a) reads
run_is_not_6 command input a (Allowed.print some reads) = read_is_not_6 input Prints a (print_is_not_6 a) reads
run_is_not_6 command input a (Allowed.no_memory is) = refused_is_not_6 a NoMemory is

check_is_not_6 : (command : Option Command) (input : Change) (a : Answer) → AllowedCheck command input a → IsNot6 a
check_is_not_6 command input a (AllowedCheck.usage off u is) = refused_is_not_6 a Usage is
check_is_not_6 command input a (AllowedCheck.check on allowed) = run_is_not_6 command input a allowed
check_is_not_6 command input a (AllowedCheck.no_memory is) = refused_is_not_6 a NoMemory is

-- ---- what the sinks gain

holds_after : (o : Change) (held bytes : List ℕ) → o.before ≡ Some held → Gained o bytes → o.now ≡ Some (held ++ bytes)
holds_after o held bytes before gained = gained ∙ ap (option_map (λ h. h ++ bytes)) before

holds_still : (o : Change) (held : List ℕ) → o.before ≡ Some held → Gained o [] → o.now ≡ Some held
holds_still o held before gained = holds_after o held [] before gained ∙ ap Some (append-nil held)

is_told : (allowed : Answer → Type 0) → ((a : Answer) → allowed a → IsNot6 a)
    → (out err : Change) (status : ℕ) (text line : List ℕ) → out.before ≡ Some text → err.before ≡ Some line
    → Ends allowed out err status → IsTold allowed out err status text line
is_told allowed none out err status text line b c (Ends.told a p is gained told) = record {
  whole = λ x y. (a, p, is, holds_after out text a.text b gained, holds_after err line a.line c told);
  failed = λ e. absurd (none a p (sym is ∙ e));
}
is_told allowed none out err status text line b c (Ends.out_failed a p is part nothing) = record {
  whole = λ x y. absurd (x part.1);
  failed = λ e. inl (part.1, holds_still err line c nothing);
}
is_told allowed none out err status text line b c (Ends.err_failed a p is empty nothing part) = record {
  whole = λ x y. absurd (y part.1);
  failed = λ e. inr (part.1, holds_still out text b nothing);
}

pub answer_is_told : AnswerIsTold
answer_is_told command input out err status text line b c = (
  is_told (Allowed command input) (run_is_not_6 command input) out err status text line b c,
  is_told (AllowedCheck command input) (check_is_not_6 command input) out err status text line b c,
)
