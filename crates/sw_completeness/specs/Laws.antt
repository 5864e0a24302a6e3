-- The laws of completeness: a protocol within the limits has its report.
use Rattle.std.specs.Prelude.{◌≡◌, ◌⊎◌, ◌≤◌, ℕ, List, [], ◌∷◌, length, Option, Some, None, Ok, Contains}
use Rattle.sw_edge.specs.Edge.{Rose}
use Rattle.sw_words.specs.declared.commands.Command.{Command}
use Rattle.sw_words.specs.declared.commands.Command.TheVariants.{Synth, Space, Print}
use Rattle.sw_words.specs.declared.commands.Options.{Options}
use Rattle.sw_meaning.specs.declared.protocol.Protocol.{Protocol}
use Rattle.sw_meaning.specs.declared.template.Template.{Template}
use Rattle.sw_meaning.specs.WellFormed.{IsWellFormed}
use Rattle.sw_protocol.specs.Stratified.{IsText}
use Rattle.sw_space.specs.Named.{HasSpace}
use Rattle.sw_report.specs.Words.{text_over_line}
use Rattle.sw_search.specs.Searches.{IsTextOver}
use Rattle.sw_run.specs.declared.input.TheConstants.{INPUT_LIMIT}
use Rattle.sw_run.specs.Ending.{Change, Answer, NamesBy, Reports, Searches, Allowed, AllowedCheck, Ends, IsOrLacksMemory, stop, printed, sized}
use Rattle.sw_run.specs.Laws.{LacksMemory, Failed, IsTold}
use Rattle.sw_completeness.specs.Worst.{WorstIsWithin, BudgetIsEnough}

-- the options name these templates, over which no query of a search is too large, and none spends the budget
pub record KeepsLimits (options : Options) (p : Protocol) (t u : Option Template) : Type 0 where
  pub named : NamesBy options p t u
  pub sizes : WorstIsWithin p t u
  pub budget : BudgetIsEnough options.conflicts p t u

-- the line of a report that is too long
pub record TellsOver (options : Options) (p : Protocol) (a : Answer) : Type 0 where
  pub breadth : Option Template
  pub finish : Option Template
  pub named : NamesBy options p breadth finish
  pub count : ℕ
  pub over : IsTextOver p breadth finish options.workers count
  pub is : a ≡ stop (text_over_line count)

-- a report, or the line of one that is too long
abbrev pub IsReported : Options → Protocol → Answer → Type 0
IsReported options p a = Reports options p a ⊎ TellsOver options p a

-- within the limits no query ends a search, by however many workers
abbrev pub SearchIsComplete : Type 0
SearchIsComplete =
    (options : Options) (p : Protocol) (t u : Option Template) (a : Answer) → IsWellFormed p → KeepsLimits options p t u
    → Searches options p a → IsReported options p a

-- the source told bytes that are not too many and are a text of the protocol, and no fault of it rose
pub record IsRead (input : Change) (p : Protocol) : Type 0 where
  pub bytes : List ℕ
  pub told : input.before ≡ Some bytes
  pub few : length bytes ≤ INPUT_LIMIT
  pub text : IsText bytes p
  pub sound : Rose input.faults_before input.faults_now → ⊥

-- the same, or want of memory
abbrev pub IsReportedOrLacks : Options → Protocol → Answer → Type 0
IsReportedOrLacks options p a = IsReported options p a ⊎ LacksMemory a

-- what a run within the limits leaves in two sinks that told that they held these bytes: a report, the
-- line of one that is too long or that of want of memory; where neither sink failed, the status is one of theirs
pub record EndsReported (options : Options) (p : Protocol) (out err : Change) (status : ℕ) (text line : List ℕ) : Type 0 where
  pub told : IsTold (IsReportedOrLacks options p) out err status text line
  pub status_is : (Failed out → ⊥) → (Failed err → ⊥) → Contains (0 ∷ 10 ∷ 11 ∷ 4 ∷ 7 ∷ []) status

-- within the limits a run answers a report, but for one that is too long and want of memory
pub record RunsComplete (options : Options) (input : Change) (p : Protocol) : Type 0 where
  pub answers : (a : Answer) → Allowed (Some (Synth options)) input a → IsReportedOrLacks options p a
  pub ends : (out err : Change) (status : ℕ) (text line : List ℕ) → out.before ≡ Some text → err.before ≡ Some line
      → Ends (Allowed (Some (Synth options)) input) out err status → EndsReported options p out err status text line

abbrev pub RunIsComplete : Type 0
RunIsComplete =
    (options : Options) (input : Change) (p : Protocol) (t u : Option Template) → IsRead input p → KeepsLimits options p t u
    → RunsComplete options input p

-- a call of `run` and one of `run_check` answer this, or want of memory
abbrev pub IsAnswered : Command → Change → Answer → Type 0
IsAnswered command input is =
    ((a : Answer) → Allowed (Some command) input a → IsOrLacksMemory is a) × ((a : Answer) → AllowedCheck (Some command) input a → IsOrLacksMemory is a)

-- a text of a protocol is printed, and the space of a template's text over it has its sizes told
pub record CheckIsComplete : Type 0 where
  pub print : (input : Change) (p : Protocol) → IsRead input p → IsAnswered Print input (printed p)
  pub space : (text : List ℕ) (input : Change) (p : Protocol) (t : Template) → IsRead input p → HasSpace p None text (Ok t)
      → IsAnswered (Space text) input (sized p t)
