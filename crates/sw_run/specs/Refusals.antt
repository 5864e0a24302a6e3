-- The refusals that errors are told as, and what each of them writes.
use Rattle.std.specs.Prelude.{ℕ, List, ◌++◌, codes, string_bytes}
use Rattle.std.specs.Fmt.{decimal}
use Rattle.sw_edge.specs.declared.transfer.ReadError.{ReadError}
use Rattle.sw_edge.specs.declared.transfer.ReadError.TheVariants as error
use Rattle.sw_words.specs.declared.commands.WordsError.{WordsError}
use Rattle.sw_words.specs.declared.commands.WordsError.TheVariants as words
use Rattle.sw_meaning.specs.Report.{line}
use Rattle.sw_text.specs.declared.names.Rule.{Rule}
use Rattle.sw_text.specs.declared.names.Rule.TheVariants as rule
use Rattle.sw_protocol.specs.declared.texts.ProtocolError.{ProtocolError}
use Rattle.sw_run.specs.declared.faults.Fault.{Fault}
use Rattle.sw_run.specs.declared.faults.Fault.TheVariants as fault
use Rattle.sw_run.specs.declared.told.Refusal.{Refusal}
use Rattle.sw_space.specs.declared.faults.NoSpace.{NoSpace}
use Rattle.sw_space.specs.declared.faults.NoSpace.TheVariants as no_space
use Rattle.sw_space.specs.Lines.{fault_line as space_line}
use Rattle.sw_run.specs.declared.told.Refusal.TheVariants.{Usage, TooLong, Faulty, NotStratified, SpaceFaulty, BreadthFaulty, FinishFaulty, Stopped, Unbuilt, ReadFault, NoMemory}

abbrev pub words_refusal : WordsError → Refusal
words_refusal words.Usage = Usage
words_refusal words.Memory = NoMemory

abbrev pub read_refusal : ReadError → Refusal
read_refusal error.ReadFault = ReadFault
read_refusal error.TooLong = TooLong
read_refusal (error.Memory e) = NoMemory

-- what is wrong with the words, the names or the sorts of the input, and where
abbrev pub input_refusal : ProtocolError → Refusal
input_refusal (ProtocolError.BadByte at) = Faulty fault.BadByte at
input_refusal (ProtocolError.Syntax at) = Faulty fault.Syntax at
input_refusal (ProtocolError.TooDeep at) = Faulty fault.TooDeep at
input_refusal (ProtocolError.Broken v) = Faulty (fault.Broken v.rule) v.at
input_refusal (ProtocolError.NotStratified sort) = NoMemory
input_refusal ProtocolError.Memory = NoMemory

abbrev pub space_refusal : NoSpace → Refusal
space_refusal (no_space.Faulty f) = SpaceFaulty f
space_refusal no_space.Memory = NoMemory

abbrev pub rule_text : Rule → List ℕ
rule_text rule.Twice = codes "Twice"
rule_text rule.Unknown = codes "Unknown"
rule_text rule.AxiomMutable = codes "AxiomMutable"
rule_text rule.PostState = codes "PostState"
rule_text rule.NotModified = codes "NotModified"
rule_text rule.Arity = codes "Arity"
rule_text rule.SortMismatch = codes "SortMismatch"

abbrev pub fault_text : Fault → List ℕ
fault_text fault.BadByte = codes "BadByte"
fault_text fault.Syntax = codes "Syntax"
fault_text fault.TooDeep = codes "TooDeep"
fault_text (fault.Broken r) = rule_text r

abbrev pub fault_line : Fault → ℕ → List ℕ
fault_line f at = line (codes "swiss: " ++ fault_text f ++ codes " at " ++ decimal at)

abbrev pub cycle_line : List ℕ → List ℕ
cycle_line name = line (codes "swiss: NotStratified " ++ name)

abbrev pub refusal_status : Refusal → ℕ
refusal_status Usage = 2
refusal_status TooLong = 3
refusal_status (Faulty f at) = 3
refusal_status (NotStratified name) = 3
refusal_status (SpaceFaulty f) = 3
refusal_status (BreadthFaulty f) = 3
refusal_status (FinishFaulty f) = 3
refusal_status (Stopped text) = 4
refusal_status Unbuilt = 3
refusal_status ReadFault = 5
refusal_status NoMemory = 7

abbrev pub refusal_line : Refusal → List ℕ
refusal_line Usage = line (codes "usage: swiss synth|certify [--breadth TEXT] [--finish TEXT] [--workers N] [--conflicts K], check, print, space TEXT, drill N [--workers N]")
refusal_line TooLong = line (codes "swiss: input too long")
refusal_line (Faulty f at) = fault_line f at
refusal_line (NotStratified name) = cycle_line name
refusal_line (SpaceFaulty f) = space_line (codes "space") f
refusal_line (BreadthFaulty f) = space_line (codes "breadth") f
refusal_line (FinishFaulty f) = space_line (codes "finish") f
refusal_line (Stopped text) = string_bytes text
refusal_line Unbuilt = line (codes "swiss: Unbuilt")
refusal_line ReadFault = line (codes "swiss: read fault")
refusal_line NoMemory = line (codes "swiss: out of memory")
