-- The laws of the endings: the causes of different answers never stand together, and the words and the bytes of the input fix the answer, or what it says.
use Rattle.std.specs.Prelude.{◌≡◌, ◌⊎◌, ◌<◌, ◌≤◌, ℕ, true, false, List, [], ◌∷◌, ◌++◌, map, length, Option, Some, None, Ok, Err}
use Rattle.sw_logic.specs.declared.syntax.Formula.{Formula}
use Rattle.sw_logic.specs.declared.structure.Structure.{Structure}
use Rattle.sw_logic.specs.Truth.{AreTrueIn, IsTrueIn}
use Rattle.sw_meaning.specs.declared.protocol.Protocol.{Protocol}
use Rattle.sw_meaning.specs.Runs.{Reached}
use Rattle.sw_meaning.specs.Verdict.{Word}
use Rattle.sw_meaning.specs.Laws.{SameWord, OneMeaning}
use Rattle.sw_protocol.specs.Stratified.{IsText}
use Rattle.sw_words.specs.declared.commands.Command.{Command}
use Rattle.sw_words.specs.declared.commands.Command.TheVariants.{Synth, Space, Print}
use Rattle.sw_words.specs.declared.commands.Options.{Options}
use Rattle.sw_meaning.specs.declared.template.Template.{Template}
use Rattle.sw_run.specs.Words.{is_served, asks_check}
use Rattle.sw_edge.specs.Edge.{Rose}
use Rattle.sw_run.specs.Ending.{Change, Answer, Faults, Reads, Searches, Reports, Stops, Names, NamesFault, NamesBy, Prints, Sizes, IsTooLong, IsUntouched, Allowed, AllowedCheck, Ends, refused, stop, sized}
use Rattle.sw_run.specs.declared.input.TheConstants.{INPUT_LIMIT}
use Rattle.sw_run.specs.declared.told.Refusal.{Refusal}
use Rattle.sw_run.specs.declared.told.Refusal.TheVariants.{Usage, TooLong, SpaceFaulty, BreadthFaulty, FinishFaulty, Unbuilt, ReadFault, NoMemory}
use Rattle.sw_space.specs.declared.faults.SpaceFault.{SpaceFault}
use Rattle.sw_space.specs.Named.{HasSpace}
use Rattle.sw_logic.specs.declared.syntax.Signature.{Signature}
use Rattle.sw_report.specs.declared.report.TheConstants.{OUTPUT_LIMIT}
use Rattle.sw_report.specs.Words.{Query, word_status, text_over_line}
use Rattle.sw_search.specs.Searches.{Ended, ended_line, IsReport}

-- want of memory
abbrev pub LacksMemory : Answer → Type 0
LacksMemory a = a ≡ refused NoMemory

-- a query that was spent, or that is too large, ended a search
pub record IsEnded (a : Answer) : Type 0 where
  pub sig : Signature
  pub query : Query
  pub ended : Ended
  pub is : a ≡ stop (ended_line sig query ended)

-- want of memory, a failed read, or a query that ended a search
abbrev pub IsLost : Answer → Type 0
IsLost a = LacksMemory a ⊎ ((a ≡ refused ReadFault) ⊎ IsEnded a)

-- this refusal, and nothing was taken from the source
abbrev pub IsRefusedUnread : Refusal → Change → Answer → Type 0
IsRefusedUnread refusal input a = (a ≡ refused refusal) × IsUntouched input

-- the source tells its bytes
pub record Tells (input : Change) : Type 0 where
  pub first : List ℕ
  pub last : List ℕ
  pub before : input.before ≡ Some first
  pub now : input.now ≡ Some last

-- the words choose the row, but for want of memory: where they are no command, usage is the one
-- answer; where they are one that is not served, that is; `synth`, `space` and `print` are answered as what they read says; and `run_check` gives `space`, `print` and `check` the answers of `run`
pub record WordsChoose (command : Option Command) (input : Change) (a : Answer) : Type 0 where
  pub usage : command ≡ None → Allowed command input a → IsRefusedUnread Usage input a ⊎ LacksMemory a
  pub unserved : (c : Command) → command ≡ Some c → is_served c ≡ false → Allowed command input a → IsRefusedUnread Unbuilt input a ⊎ LacksMemory a
  pub synth : (options : Options) → command ≡ Some (Synth options) → Allowed command input a → Reads input (Searches options) a ⊎ LacksMemory a
  pub space : (text : List ℕ) → command ≡ Some (Space text) → Allowed command input a → Reads input (Sizes text) a ⊎ LacksMemory a
  pub print : command ≡ Some Print → Allowed command input a → Reads input Prints a ⊎ LacksMemory a
  pub check_usage : asks_check command ≡ false → AllowedCheck command input a → IsRefusedUnread Usage input a ⊎ LacksMemory a
  pub check : asks_check command ≡ true → AllowedCheck command input a → Allowed command input a

-- the bytes of the input choose the row, but for a failed read, which too many bytes that were taken
-- leave out
pub record InputChooses (input : Change) (bytes : List ℕ) (Answers : Protocol → Answer → Type 0) (a : Answer) : Type 0 where
  pub too_long : INPUT_LIMIT < length bytes → Reads input Answers a → (a ≡ refused TooLong) ⊎ (a ≡ refused ReadFault)
  pub faulty : (refusal : Refusal) → length bytes ≤ INPUT_LIMIT → Faults bytes refusal → Reads input Answers a → (a ≡ refused refusal) ⊎ (a ≡ refused ReadFault)
  pub spelled : (p : Protocol) → length bytes ≤ INPUT_LIMIT → IsText bytes p → Reads input Answers a → Answers p a ⊎ (a ≡ refused ReadFault)
  pub taken : Tells input → IsTooLong input → Reads input Answers a → a ≡ refused TooLong

-- the options and the protocol choose the row of a search
pub record SearchChooses (options : Options) (p : Protocol) (a : Answer) : Type 0 where
  pub told : (t u : Option Template) → NamesBy options p t u → Searches options p a → Reports options p a ⊎ Stops options p a
  pub breadth_faulty : (f : SpaceFault) → NamesFault options.breadth p None f → Searches options p a → a ≡ refused (BreadthFaulty f)
  pub finish_faulty : (t : Option Template) (f : SpaceFault) → Names options.breadth p None t → NamesFault options.finish p t f → Searches options p a → a ≡ refused (FinishFaulty f)

-- the template's text and the protocol choose the row of `space`
pub record SizeChooses (text : List ℕ) (p : Protocol) (a : Answer) : Type 0 where
  pub sizes : (t : Template) → HasSpace p None text (Ok t) → Sizes text p a → a ≡ sized p t
  pub faulty : (f : SpaceFault) → HasSpace p None text (Err f) → Sizes text p a → a ≡ refused (SpaceFaulty f)

abbrev pub RowsExcludeEachOther : Type 0
RowsExcludeEachOther =
    ((command : Option Command) (input : Change) (a : Answer) → WordsChoose command input a)
    × ((options : Options) (input : Change) (bytes : List ℕ) (a : Answer) → input.before ≡ Some bytes → InputChooses input bytes (Searches options) a)
    × ((input : Change) (bytes : List ℕ) (a : Answer) → input.before ≡ Some bytes → InputChooses input bytes Prints a)
    × ((text : List ℕ) (input : Change) (bytes : List ℕ) (a : Answer) → input.before ≡ Some bytes → InputChooses input bytes (Sizes text) a)
    × ((options : Options) (p : Protocol) (a : Answer) → SearchChooses options p a)
    × ((text : List ℕ) (p : Protocol) (a : Answer) → SizeChooses text p a)

-- with one worker the options and the protocol fix a report, each byte of it
abbrev pub OneReport : Type 0
OneReport = (options : Options) (p : Protocol) (a b : Answer) → options.workers ≡ 1 → Reports options p a → Reports options p b → a ≡ b

-- the same texts of templates, whatever the numbers of workers and the budgets
pub record HaveSameTemplates (o v : Options) : Type 0 where
  pub breadth : o.breadth ≡ v.breadth
  pub finish : o.finish ≡ v.finish

-- two reports say the same: they tell of the classes of one template, their status and their word are one, whichever formula joins, and
-- each formula of the one list follows from the other list
pub record SayTheSame (p : Protocol) (t u : Option Template) (m n : ℕ) (w v : Word) (g h : List Formula) : Type 0 where
  pub template : t ≡ u
  pub status : m ≡ n
  pub word : SameWord w v
  pub lists : OneMeaning p g h

-- with any numbers of workers, and whatever the schedules, two reports on a protocol say the same
abbrev pub ReportsSayTheSame : Type 0
ReportsSayTheSame =
    (o v : Options) (p : Protocol) (a b : Answer) → HaveSameTemplates o v → (r : Reports o p a) (s : Reports v p b)
    → SayTheSame p r.breadth s.breadth a.status b.status r.report.word s.report.word r.report.list s.report.list

-- what a report with this list, this word and this status promises of a reached structure: every formula of the list is true in it; where
-- the status is 0, safety is; and where the word has a formula, that is true in it too
pub record Promises (p : Protocol) (found : List Formula) (word : Word) (status : ℕ) (s : Structure) : Type 0 where
  pub list : AreTrueIn p.signature s found
  pub safe : status ≡ 0 → AreTrueIn p.signature s p.safeties
  pub joined : (f : Formula) → word ≡ Word.safe_with f → IsTrueIn p.signature s f

-- a report keeps its promise in every reached structure
abbrev pub SafeMeansSafe : Type 0
SafeMeansSafe =
    (options : Options) (p : Protocol) (a : Answer) (r : Reports options p a) (s : Structure) → Reached p s → Promises p r.report.list r.report.word a.status s

-- the words are no search by more than one worker
abbrev pub HasOneWorker : Option Command → Type 0
HasOneWorker (Some (Synth options)) = options.workers ≡ 1
HasOneWorker command = Unit {0}

-- the words and the bytes that the source told fix the answer, but for want of memory, failed reads
-- and queries that end a search: of `run`, where they are no search by more than one worker, and of `run_check`
abbrev pub OneAnswer : Type 0
OneAnswer =
    (command : Option Command) (i j : Change) (bytes : List ℕ) (a b : Answer) → i.before ≡ Some bytes → j.before ≡ Some bytes
    → (HasOneWorker command → Allowed command i a → Allowed command j b → (IsLost a ⊎ IsLost b) ⊎ (a ≡ b))
    × (AllowedCheck command i a → AllowedCheck command j b → (IsLost a ⊎ IsLost b) ⊎ (a ≡ b))

-- a report is told, or that its text is too long
pub data TellsReport (status : ℕ) (text : List ℕ) (a : Answer) : Type 0 where
  told : length text ≤ OUTPUT_LIMIT → a ≡ record { status = status; text = text; line = [] } → TellsReport status text a
  over : OUTPUT_LIMIT < length text → a ≡ stop (text_over_line (length text)) → TellsReport status text a

-- a search found a list and its word, and tells the report of them where it is not too long
pub record Finds (options : Options) (p : Protocol) (a : Answer) : Type 0 where
  pub breadth : Option Template
  pub finish : Option Template
  pub named : NamesBy options p breadth finish
  pub status : ℕ
  pub text : List ℕ
  pub report : IsReport p breadth finish options.workers status text
  pub tells : TellsReport status text a

-- two searches of one protocol found what says the same
pub record FindTheSame (o v : Options) (a b : Answer) : Type 0 where
  pub protocol : Protocol
  pub one : Finds o protocol a
  pub other : Finds v protocol b
  pub same : SayTheSame protocol one.breadth other.breadth one.status other.status one.report.word other.report.word one.report.list other.report.list

-- two answers to searches with the same templates, by any numbers of workers, of the bytes that the source told: but for want of memory,
-- failed reads and queries that end a search, they are one, or both searches found what says the same
abbrev pub AnswersSayTheSame : Type 0
AnswersSayTheSame =
    (o v : Options) (i j : Change) (bytes : List ℕ) (a b : Answer) → HaveSameTemplates o v → i.before ≡ Some bytes → j.before ≡ Some bytes
    → Allowed (Some (Synth o)) i a → Allowed (Some (Synth v)) j b → (IsLost a ⊎ IsLost b) ⊎ ((a ≡ b) ⊎ FindTheSame o v a b)

-- the sink failed
abbrev pub Failed : Change → Type 0
Failed o = Rose o.faults_before o.faults_now

-- what a run leaves in two sinks that told that they held these bytes: where neither failed, the
-- status is an answer's, and they gained its text and its line; and the status 6 says that one of
-- them failed, and that the other one is as it was
pub record IsTold (allowed : Answer → Type 0) (out err : Change) (status : ℕ) (text line : List ℕ) : Type 0 where
  pub whole : (Failed out → ⊥) → (Failed err → ⊥)
      → (a : Answer) × allowed a × (status ≡ a.status) × (out.now ≡ Some (text ++ a.text)) × (err.now ≡ Some (line ++ a.line))
  pub failed : status ≡ 6 → (Failed out × (err.now ≡ Some line)) ⊎ (Failed err × (out.now ≡ Some text))

-- the answer fixes the status and what the sinks gain
abbrev pub AnswerIsTold : Type 0
AnswerIsTold =
    (command : Option Command) (input out err : Change) (status : ℕ) (text line : List ℕ) → out.before ≡ Some text → err.before ≡ Some line
    → (Ends (Allowed command input) out err status → IsTold (Allowed command input) out err status text line)
    × (Ends (AllowedCheck command input) out err status → IsTold (AllowedCheck command input) out err status text line)

-- safety that is shown has the status 0, with a further formula too; safety that is left open has 10,
-- and an unsafe start has 11
abbrev pub WordsHaveStatuses : Type 0
WordsHaveStatuses =
    (f : Formula) → map word_status (Word.violated ∷ Word.safe ∷ Word.safe_with f ∷ Word.exhausted ∷ Word.unsettled ∷ []) ≡ 11 ∷ 0 ∷ 0 ∷ 10 ∷ 10 ∷ []
