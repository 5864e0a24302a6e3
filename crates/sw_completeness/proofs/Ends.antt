-- How a run within the limits ends.
use Rattle.std.specs.Prelude.{◌≡◌, ℕ, List, [], ◌∷◌, Some, Contains, slice_get}
use Rattle.std.proofs.Common.{refl, sym, ap, subst, inl, inr}
use Rattle.sw_lists.proofs.Members.{get_contains}
use Rattle.sw_meaning.specs.declared.protocol.Protocol.{Protocol}
use Rattle.sw_meaning.specs.Verdict.{Word}
use Rattle.sw_report.specs.Words.{word_status}
use Rattle.sw_words.specs.declared.commands.Command.TheVariants.{Synth}
use Rattle.sw_words.specs.declared.commands.Options.{Options}
use Rattle.sw_run.specs.Ending.{Change, Answer, Allowed, Ends}
use Rattle.sw_run.specs.Laws.{IsTold}
use Rattle.sw_run.proofs.Sinks.{answer_is_told}
use Rattle.sw_completeness.specs.Laws.{EndsReported, IsReportedOrLacks, RunIsComplete, SearchIsComplete}
use Rattle.sw_completeness.proofs.Reading.{synth_answered}

-- the statuses of a report, of one that is too long, and of want of memory
abbrev statuses : List ℕ
statuses = 0 ∷ 10 ∷ 11 ∷ 4 ∷ 7 ∷ []

abbrev IsStatus : ℕ → Type 0
IsStatus = Contains statuses

at_place : (n k : ℕ) → slice_get statuses k ≡ Some n → IsStatus n
at_place n k at = get_contains statuses k n at

word_has_status : (w : Word) → IsStatus (word_status w)
word_has_status Word.violated = at_place 11 2 refl
word_has_status Word.safe = at_place 0 0 refl
word_has_status (Word.safe_with f) = at_place 0 0 refl
word_has_status Word.exhausted = at_place 10 1 refl
word_has_status Word.unsettled = at_place 10 1 refl

has_status : (options : Options) (p : Protocol) (a : Answer) → IsReportedOrLacks options p a → IsStatus a.status
has_status options p a (inl (inl r)) = subst IsStatus (sym r.report.ends) (word_has_status r.report.word)
has_status options p a (inl (inr o)) = subst IsStatus (sym (ap (λ b. b.status) o.is)) (at_place 4 3 refl)
has_status options p a (inr lacks) = subst IsStatus (sym (ap (λ b. b.status) lacks)) (at_place 7 4 refl)

-- what is told of some answers is told of more
told_more : (P Q : Answer → Type 0) (out err : Change) (status : ℕ) (text line : List ℕ) → ((a : Answer) → P a → Q a)
    → IsTold P out err status text line → IsTold Q out err status text line
told_more P Q out err status text line more told = record {
  whole = λ x y. let w = told.whole x y in (w.0, more w.0 w.1, w.2, w.3, w.4);
  failed = told.failed;
}

ends : (options : Options) (p : Protocol) (out err : Change) (status : ℕ) (text line : List ℕ) → IsTold (IsReportedOrLacks options p) out err status text line
    → EndsReported options p out err status text line
ends options p out err status text line told = record {
  told = told;
  status_is = λ x y. let w = told.whole x y in subst IsStatus (sym w.2) (has_status options p w.0 w.1);
}

pub run_is_complete : SearchIsComplete → RunIsComplete
run_is_complete complete options input p t u read limits =
    record { answers = answers; ends = told }
  where
    answers : (a : Answer) → Allowed (Some (Synth options)) input a → IsReportedOrLacks options p a
    answers a allowed = synth_answered input p read complete options t u a limits allowed

    told : (out err : Change) (status : ℕ) (text line : List ℕ) → out.before ≡ Some text → err.before ≡ Some line
        → Ends (Allowed (Some (Synth options)) input) out err status → EndsReported options p out err status text line
    told out err status text line before held e =
        ends options p out err status text line
        (told_more (Allowed (Some (Synth options)) input) (IsReportedOrLacks options p) out err status text line answers
        ((answer_is_told (Some (Synth options)) input out err status text line before held).0 e))
