-- What a run may end with: the answers that words and input allow, and how an answer is told.
use Rattle.std.specs.Prelude.{◌≡◌, ◌⊎◌, ◌<◌, ◌≤◌, ℕ, true, false, List, [], length, Option, Some, None, IfSome, string_bytes, Result, Ok, Err}
use Rattle.sw_meaning.specs.declared.protocol.Protocol.{Protocol}
use Rattle.sw_meaning.specs.declared.template.Template.{Template}
use Rattle.sw_meaning.specs.ProtocolText.{protocol_text, sort_text}
use Rattle.sw_edge.specs.Edge.{Gains, GainsPrefix, Rose, Took}
use Rattle.sw_protocol.specs.declared.texts.ProtocolError.{ProtocolError}
use Rattle.sw_logic.specs.Strata.{FirstOnCycle}
use Rattle.sw_meaning.specs.Edges.{protocol_edges}
use Rattle.sw_protocol.specs.Texts.{HasDeclared}
use Rattle.sw_protocol.specs.Stratified.{IsText}
use Rattle.sw_words.specs.declared.commands.Command.{Command}
use Rattle.sw_words.specs.declared.commands.Command.TheVariants.{Synth, Space, Print}
use Rattle.sw_words.specs.declared.commands.Options.{Options}
use Rattle.sw_run.specs.Words.{is_served, asks_check}
use Rattle.sw_run.specs.Refusals.{input_refusal, refusal_status, refusal_line}
use Rattle.sw_run.specs.declared.input.TheConstants.{INPUT_LIMIT}
use Rattle.sw_run.specs.declared.told.Refusal.{Refusal}
use Rattle.sw_run.specs.declared.told.Refusal.TheVariants.{Usage, TooLong, NotStratified, SpaceFaulty, BreadthFaulty, FinishFaulty, Unbuilt, ReadFault, NoMemory}
use Rattle.sw_space.specs.declared.faults.SpaceFault.{SpaceFault}
use Rattle.sw_space.specs.Lines.{sizes_of}
use Rattle.sw_space.specs.Named.{HasSpace}
use Rattle.sw_report.specs.declared.report.TheConstants.{OUTPUT_LIMIT}
use Rattle.sw_search.specs.declared.telling.Told.{Told}
use Rattle.sw_search.specs.declared.telling.Told.TheVariants as telling
use Rattle.sw_search.specs.Searches.{IsReport, IsStopped}
use Rattle.sw_run.specs.declared.report.Report.{Report}

-- a source or a sink before a call and after it: its bytes, where they are told, and its faults
pub record Change : Type 0 where
  pub before : Option (List ℕ)
  pub now : Option (List ℕ)
  pub faults_before : ℕ
  pub faults_now : ℕ

abbrev pub change : Option (List ℕ) → Option (List ℕ) → ℕ → ℕ → Change
change before now f g = record { before = before; now = now; faults_before = f; faults_now = g }

-- what a run tells: its status, its text for `out`, its line for `err`
pub record Answer : Type 0 where
  pub status : ℕ
  pub text : List ℕ
  pub line : List ℕ

abbrev pub refused : Refusal → Answer
refused refusal = record { status = refusal_status refusal; text = []; line = refusal_line refusal }

-- ---- the input

-- these are all the bytes that the source had left, it is at its end, and they are not too many
pub record IsInput (input : Change) (bytes : List ℕ) : Type 0 where
  pub all : IfSome input.before (λ left. bytes ≡ left)
  pub ended : IfSome input.now (λ left. left ≡ [])
  pub within : length bytes ≤ INPUT_LIMIT

-- too many bytes were taken
pub record IsTooLong (input : Change) : Type 0 where
  pub count : ℕ
  pub took : Took input.before input.now count
  pub over : INPUT_LIMIT < count

-- no more bytes were taken than may be
pub record IsWithinLimit (input : Change) : Type 0 where
  pub count : ℕ
  pub took : Took input.before input.now count
  pub within : count ≤ INPUT_LIMIT

-- nothing was taken from the source, and no fault rose
pub record IsUntouched (input : Change) : Type 0 where
  pub bytes : input.now ≡ input.before
  pub faults : input.faults_now ≡ input.faults_before

-- the whole input was read, and is a text of the protocol
pub record IsSpelled (input : Change) (p : Protocol) : Type 0 where
  pub bytes : List ℕ
  pub read : IsInput input bytes
  pub text : IsText bytes p

-- the bytes are no text of a protocol, and this is told of it: their first fault, or the first declared sort on a cycle
pub data Faults (bytes : List ℕ) (refusal : Refusal) : Type 0 where
  undeclared : (e : ProtocolError) → HasDeclared bytes (Err e) → refusal ≡ input_refusal e → Faults bytes refusal
  unstratified : (p : Protocol) (sort : ℕ) → HasDeclared bytes (Ok p) → FirstOnCycle (protocol_edges p) sort → refusal ≡ NotStratified (sort_text p.signature sort) → Faults bytes refusal

-- no protocol comes of the input: the source failed, it has too many bytes, or they have a fault
pub data Misreads (input : Change) (a : Answer) : Type 0 where
  read_fault : Rose input.faults_before input.faults_now → IsWithinLimit input → a ≡ refused ReadFault → Misreads input a
  too_long : IsTooLong input → a ≡ refused TooLong → Misreads input a
  faulty : (bytes : List ℕ) (refusal : Refusal) → IsInput input bytes → Faults bytes refusal → a ≡ refused refusal → Misreads input a

-- what a command answers that reads a protocol: why there is none, or what is answered of it
pub data Reads (input : Change) (Answers : Protocol → Answer → Type 0) (a : Answer) : Type 0 where
  misread : Misreads input a → Reads input Answers a
  read : (p : Protocol) → IsSpelled input p → Answers p a → Reads input Answers a

-- ---- the answers of each command to a protocol

-- an option's text names this template over the protocol, beside another if there is one; or the option is left out
pub data Names (given : Option (List ℕ)) (p : Protocol) (beside t : Option Template) : Type 0 where
  without : given ≡ None → t ≡ None → Names given p beside t
  named : (text : List ℕ) (u : Template) → given ≡ Some text → HasSpace p beside text (Ok u) → t ≡ Some u → Names given p beside t

-- an option's text has this fault over the protocol, beside a template if there is one
abbrev pub NamesFault : Option (List ℕ) → Protocol → Option Template → SpaceFault → Type 0
NamesFault given p beside f = (text : List ℕ) × (given ≡ Some text) × HasSpace p beside text (Err f)

-- the options name these templates over the protocol, or leave them out: `t` to search, and `u` to finish with, which stands beside `t`
pub record NamesBy (options : Options) (p : Protocol) (t u : Option Template) : Type 0 where
  pub breadth : Names options.breadth p None t
  pub finish : Names options.finish p t u

-- a report on the protocol, with the templates and the number of workers that the options name
pub record Reports (options : Options) (p : Protocol) (a : Answer) : Type 0 where
  pub breadth : Option Template
  pub finish : Option Template
  pub named : NamesBy options p breadth finish
  pub report : IsReport p breadth finish options.workers a.status a.text
  pub within : length a.text ≤ OUTPUT_LIMIT
  pub line : a.line ≡ []

-- the line of what ended a search
abbrev pub stop : List ℕ → Answer
stop line = record { status = 4; text = []; line = line }

-- a query ended the search, or its report is too long
pub record Stops (options : Options) (p : Protocol) (a : Answer) : Type 0 where
  pub breadth : Option Template
  pub finish : Option Template
  pub named : NamesBy options p breadth finish
  pub ended : IsStopped p breadth finish options.workers options.conflicts a.line
  pub is : a ≡ stop a.line

-- what a search answers of a protocol: a fault of the text to finish with is told where the other text has none
pub data Searches (options : Options) (p : Protocol) (a : Answer) : Type 0 where
  report : Reports options p a → Searches options p a
  stopped : Stops options p a → Searches options p a
  breadth_faulty : (f : SpaceFault) → NamesFault options.breadth p None f → a ≡ refused (BreadthFaulty f) → Searches options p a
  finish_faulty : (t : Option Template) (f : SpaceFault) → Names options.breadth p None t → NamesFault options.finish p t f → a ≡ refused (FinishFaulty f) → Searches options p a

-- what a search tells, as an answer
abbrev pub told_answer : Told → Answer
told_answer (telling.Report status text) = record { status = status; text = string_bytes text; line = [] }
told_answer (telling.Stopped line) = stop (string_bytes line)

abbrev pub printed : Protocol → Answer
printed p = record { status = 0; text = protocol_text p; line = [] }

-- what `print` answers of a protocol: its canonical text
abbrev pub Prints : Protocol → Answer → Type 0
Prints p a = a ≡ printed p

abbrev pub sized : Protocol → Template → Answer
sized p t = record { status = 0; text = sizes_of p.signature t; line = [] }

-- what `space` answers of a protocol: the numbers of atoms, cubes and classes of the template that the text is, or its first fault
pub data Sizes (text : List ℕ) (p : Protocol) (a : Answer) : Type 0 where
  sizes : (t : Template) → HasSpace p None text (Ok t) → a ≡ sized p t → Sizes text p a
  faulty : (f : SpaceFault) → HasSpace p None text (Err f) → a ≡ refused (SpaceFaulty f) → Sizes text p a

-- ---- the answers to words and input

-- an answer that the words and the input allow, by the row of its cause; want of memory has none.
-- The words are given by the command that they are, if they are one
pub data Allowed (command : Option Command) (input : Change) (a : Answer) : Type 0 where
  usage : command ≡ None → IsUntouched input → a ≡ refused Usage → Allowed command input a
  unserved : (c : Command) → command ≡ Some c → is_served c ≡ false → IsUntouched input → a ≡ refused Unbuilt → Allowed command input a
  synth : (options : Options) → command ≡ Some (Synth options) → Reads input (Searches options) a → Allowed command input a
  space : (text : List ℕ) → command ≡ Some (Space text) → Reads input (Sizes text) a → Allowed command input a
  print : command ≡ Some Print → Reads input Prints a → Allowed command input a
  no_memory : a ≡ refused NoMemory → Allowed command input a

-- the same of the call that serves `space`, `print` and `check` alone
pub data AllowedCheck (command : Option Command) (input : Change) (a : Answer) : Type 0 where
  usage : asks_check command ≡ false → IsUntouched input → a ≡ refused Usage → AllowedCheck command input a
  check : asks_check command ≡ true → Allowed command input a → AllowedCheck command input a
  no_memory : a ≡ refused NoMemory → AllowedCheck command input a

-- ---- how an answer is told

-- the sink gained these bytes
abbrev pub Gained : Change → List ℕ → Type 0
Gained o bytes = Gains o.before o.now bytes

-- the sink failed, and gained a part of these bytes
abbrev pub GainedPart : Change → List ℕ → Type 0
GainedPart o bytes = GainsPrefix o.before o.now bytes × Rose o.faults_before o.faults_now

-- how a run ends where some answers are allowed
pub data Ends (allowed : Answer → Type 0) (out err : Change) (status : ℕ) : Type 0 where
  told : (a : Answer) → allowed a → status ≡ a.status → Gained out a.text → Gained err a.line → Ends allowed out err status
  out_failed : (a : Answer) → allowed a → status ≡ 6 → GainedPart out a.text → Gained err [] → Ends allowed out err status
  err_failed : (a : Answer) → allowed a → status ≡ 6 → a.text ≡ [] → Gained out [] → GainedPart err a.line → Ends allowed out err status

-- the bytes were written whole, which has this status, or the sink failed
pub data Writes (o : Change) (bytes : List ℕ) (whole status : ℕ) : Type 0 where
  all : status ≡ whole → Gained o bytes → Writes o bytes whole status
  part : status ≡ 6 → GainedPart o bytes → Writes o bytes whole status

-- the line was written, which has this status, or that of want of memory
pub data TellsLine (text : List ℕ) (whole : ℕ) (err : Change) (status : ℕ) : Type 0 where
  its_line : Writes err text whole status → TellsLine text whole err status
  no_memory : Writes err (refusal_line NoMemory) (refusal_status NoMemory) status → TellsLine text whole err status

-- the same of the line of a refusal
abbrev pub TellsRefusal : Refusal → Change → ℕ → Type 0
TellsRefusal refusal = TellsLine (refusal_line refusal) (refusal_status refusal)

-- what is told of a report or a refusal
abbrev pub answer_of : Result Report Refusal → Answer
answer_of (Ok r) = record { status = r.status; text = string_bytes r.text; line = [] }
answer_of (Err e) = refused e

-- this answer, or want of memory
abbrev pub IsOrLacksMemory : Answer → Answer → Type 0
IsOrLacksMemory a b = (b ≡ a) ⊎ (b ≡ refused NoMemory)
