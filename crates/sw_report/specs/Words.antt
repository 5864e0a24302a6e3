-- The words of a report and the lines of what ended a search.
use Rattle.std.specs.Prelude.{◌≡◌, ◌<◌, ℕ, List, [], ◌++◌, length, codes}
use Rattle.std.specs.Fmt.{decimal}
use Rattle.sw_logic.specs.declared.syntax.Signature.{Signature}
use Rattle.sw_logic.specs.declared.syntax.Formula.{Formula}
use Rattle.sw_logic.specs.Canonical.{text_of}
use Rattle.sw_meaning.specs.declared.protocol.Transition.{Transition}
use Rattle.sw_meaning.specs.Verdict.{Word}
use Rattle.sw_meaning.specs.Report.{line}
use Rattle.sw_report.specs.declared.report.TheConstants.{OUTPUT_LIMIT}
use Rattle.sw_report.specs.declared.report.Word.{Word as Told}
use Rattle.sw_report.specs.declared.report.Word.TheVariants as told
use Rattle.sw_report.specs.declared.report.ReportError.{ReportError}
use Rattle.sw_report.specs.declared.report.ReportError.TheVariants.{TextOver, Memory}
use Rattle.sw_report.specs.declared.asked.Asked.{Asked as AskedOf}
use Rattle.sw_report.specs.declared.asked.Asked.TheVariants as asked

-- the word of the definitions
abbrev pub word_of : Told → Word
word_of told.Violated = Word.violated
word_of told.Safe = Word.safe
word_of (told.SafeWith f) = Word.safe_with f.now
word_of told.Exhausted = Word.exhausted
word_of told.Open = Word.unsettled

-- the status of a run that ends with a word
abbrev pub word_status : Word → ℕ
word_status Word.violated = 11
word_status Word.safe = 0
word_status (Word.safe_with f) = 0
word_status Word.exhausted = 10
word_status Word.unsettled = 10

abbrev pub invariant_line : Signature → Formula → List ℕ
invariant_line sig f = line (codes "invariant " ++ text_of sig [] f)

-- the text has more bytes than are written, and so many; want of memory says nothing
abbrev pub IsOver : List ℕ → ReportError → Type 0
IsOver text (TextOver n) = (n ≡ length text) × (OUTPUT_LIMIT < length text)
IsOver text Memory = Unit {0}

-- a query by what it asks: of which formula, by which transition
pub data Query : Type 0 where
  start : Formula → Query
  follow : Formula → Query
  step : Transition → Formula → Query
  join : Transition → Formula → Query
  safety_start : Query
  safety_step : Transition → Query

abbrev pub asked_of : AskedOf → Query
asked_of (asked.Start f) = Query.start f.now
asked_of (asked.Follow f) = Query.follow f.now
asked_of (asked.Step t f) = Query.step t.now f.now
asked_of (asked.Join t f) = Query.join t.now f.now
asked_of asked.SafetyStart = Query.safety_start
asked_of (asked.SafetyStep t) = Query.safety_step t.now

abbrev pub query_text : Signature → Query → List ℕ
query_text sig (Query.start f) = codes "start of " ++ text_of sig [] f
query_text sig (Query.follow f) = codes "follow of " ++ text_of sig [] f
query_text sig (Query.step t f) = codes "step " ++ t.name ++ codes " of " ++ text_of sig [] f
query_text sig (Query.join t f) = codes "join " ++ t.name ++ codes " of " ++ text_of sig [] f
query_text sig Query.safety_start = codes "safety at start"
query_text sig (Query.safety_step t) = codes "safety step " ++ t.name

abbrev pub spent_line : Signature → Query → ℕ → List ℕ
spent_line sig query budget = line (codes "swiss: Spent on " ++ query_text sig query ++ codes ": " ++ decimal budget)

abbrev pub too_large_line : Signature → Query → ℕ → ℕ → List ℕ
too_large_line sig query terms instances = line (codes "swiss: TooLarge on " ++ query_text sig query ++ codes ": terms " ++ decimal terms ++ codes ", instances " ++ decimal instances)

abbrev pub text_over_line : ℕ → List ℕ
text_over_line n = line (codes "swiss: TextOver " ++ decimal n)
