-- What errors and answers of parts are told as, by the rows of the table of causes.
use Rattle.std.specs.Prelude.{◌≡◌, ◌⊎◌, ℕ, ◌++◌, true, false, List, [], length, Option, Some, None, IfSome, IfErr, Result, Ok, Err, IsErrAnd}
use Rattle.std.proofs.Common.{refl, sym, ap, ◌∙◌, subst, inl, inr, append-nil}
use Rattle.std.proofs.lemmas.Bool.{false≢true}
use Rattle.sw_meaning.specs.declared.protocol.Protocol.{Protocol}
use Rattle.sw_meaning.specs.ProtocolText.{protocol_text, sort_text}
use Rattle.sw_protocol.specs.declared.texts.ProtocolError.{ProtocolError}
use Rattle.sw_logic.specs.declared.syntax.Edge.{Edge}
use Rattle.sw_logic.specs.Strata.{FirstOnCycle}
use Rattle.sw_strata.specs.declared.ranks.StrataError.{StrataError}
use Rattle.sw_strata.specs.declared.ranks.StrataError.TheVariants.{Cycle}
use Rattle.sw_strata.specs.Answers.{IsStrataFault}
use Rattle.sw_meaning.specs.Edges.{protocol_edges}
use Rattle.sw_protocol.specs.Texts.{HasDeclared, answer_of as text_answer}
use Rattle.sw_protocol.specs.Stratified.{IsText}
use Rattle.sw_words.specs.declared.commands.Command.{Command}
use Rattle.sw_words.specs.declared.commands.Command.TheVariants.{Synth, Certify, Space, Print, Check, Drill}
use Rattle.sw_words.specs.declared.commands.Options.{Options}
use Rattle.sw_run.specs.Words.{is_check, is_served}
use Rattle.sw_run.specs.Ending.{Change, Answer, Faults, Misreads, Reads, Searches, Names, NamesFault, NamesBy, Prints, Sizes, IsInput, IsSpelled, IsUntouched, Allowed, AllowedCheck, refused, answer_of, told_answer}
use Rattle.sw_run.specs.Giving.{Gives, GivesNone}
use Rattle.sw_run.specs.Refusals.{input_refusal, space_refusal}
use Rattle.sw_meaning.specs.Classes.{atoms, classes_of}
use Rattle.sw_enumerate.specs.Spaces.{Made, IsSpaceOf, classes_in}
use Rattle.sw_space.specs.declared.faults.NoSpace.{NoSpace}
use Rattle.sw_space.specs.declared.faults.NoSpace.TheVariants as no_space
use Rattle.sw_space.specs.Lines.{numbers_text, sizes_of}
use Rattle.sw_space.specs.Named.{HasSpace, answer_of as space_answer}
use Rattle.sw_run.specs.declared.report.Report.{Report}
use Rattle.sw_run.specs.declared.told.Refusal.{Refusal}
use Rattle.sw_run.specs.declared.told.Refusal.TheVariants.{NotStratified, Unbuilt, NoMemory}
use Rattle.sw_meaning.specs.declared.template.Template.{Template}
use Rattle.sw_space.specs.declared.faults.SpaceFault.{SpaceFault}
use Rattle.sw_search.specs.declared.telling.Told.{Told}
use Rattle.sw_search.specs.declared.telling.Told.TheVariants as telling
use Rattle.sw_search.specs.Searches.{IsTold}
use Rattle.sw_search.specs.Spaces.{template_of}

-- ---- the input

-- what a fault of the words, the names and the sorts is told as
pub declared_fault : (bytes : List ℕ) (e : ProtocolError) → IfSome (text_answer (Err e)) (HasDeclared bytes) → Faults bytes (input_refusal e) ⊎ (input_refusal e ≡ NoMemory)
declared_fault bytes (ProtocolError.BadByte at) has = inl (Faults.undeclared (ProtocolError.BadByte at) has refl)
declared_fault bytes (ProtocolError.Syntax at) has = inl (Faults.undeclared (ProtocolError.Syntax at) has refl)
declared_fault bytes (ProtocolError.TooDeep at) has = inl (Faults.undeclared (ProtocolError.TooDeep at) has refl)
declared_fault bytes (ProtocolError.Broken v) has = inl (Faults.undeclared (ProtocolError.Broken v) has refl)
declared_fault bytes (ProtocolError.NotStratified sort) has = inr refl
declared_fault bytes ProtocolError.Memory has = inr refl

-- a fault of the text, passed on
pub fault_passed : (bytes : List ℕ) (x : Refusal) (r : Result Protocol Refusal) → IsErrAnd r (λ y. y ≡ x) → Faults bytes x ⊎ (x ≡ NoMemory) → IfErr r (λ y. Faults bytes y ⊎ (y ≡ NoMemory))
fault_passed bytes x (Ok p) is why = absurd is
fault_passed bytes x (Err y) is why = subst (λ z. Faults bytes z ⊎ (z ≡ NoMemory)) (sym is) why

-- the sort that a refusal of strata tells
pub cycle_first : (p : Protocol) (extra : List Edge) (f : StrataError) (m n : ℕ) → extra ≡ [] → IsStrataFault (protocol_edges p ++ extra) f → f ≡ Cycle m → n ≡ m → FirstOnCycle (protocol_edges p) n
cycle_first p extra f m n e fault is number =
    let none : protocol_edges p ++ extra ≡ protocol_edges p = ap (λ xs. protocol_edges p ++ xs) e ∙ append-nil (protocol_edges p) in
    subst (FirstOnCycle (protocol_edges p)) (sym number) (subst (λ edges. FirstOnCycle edges m) none (subst (IsStrataFault (protocol_edges p ++ extra)) is fault))

-- what is told of a sort on a cycle
pub cycle_told : (bytes : List ℕ) (p : Protocol) (sort : ℕ) (r : Refusal) → HasDeclared bytes (Ok p) → FirstOnCycle (protocol_edges p) sort
    → (r ≡ NotStratified (sort_text p.signature sort)) ⊎ (r ≡ NoMemory) → Faults bytes r ⊎ (r ≡ NoMemory)
cycle_told bytes p sort r has cycle (inl is) = inl (Faults.unstratified p sort has cycle is)
cycle_told bytes p sort r has cycle (inr lacks) = inr lacks

pub fault_refused : (input : Change) (text bytes : List ℕ) (e : Refusal) → IsInput input bytes → text ≡ bytes → Faults text e ⊎ (e ≡ NoMemory) → Misreads input (refused e) ⊎ (e ≡ NoMemory)
fault_refused input text bytes e read same (inl fault) = inl (Misreads.faulty bytes e read (subst (λ t. Faults t e) same fault) refl)
fault_refused input text bytes e read same (inr lacks) = inr lacks

pub spelled_by : (input : Change) (text bytes : List ℕ) (p : Protocol) → IsInput input bytes → text ≡ bytes → IsText text p → IsSpelled input p
spelled_by input text bytes p read same is = record { bytes = bytes; read = read; text = subst (λ t. IsText t p) same is }

-- an error that was passed on
pub passed_on : (input : Change) (e : Refusal) (r : Result Protocol Refusal) → IsErrAnd r (λ x. x ≡ e) → Misreads input (refused e) ⊎ (e ≡ NoMemory)
    → IfErr r (λ x. Misreads input (refused x) ⊎ (x ≡ NoMemory))
passed_on input e (Ok p) is why = absurd is
passed_on input e (Err x) is why = subst (λ y. Misreads input (refused y) ⊎ (y ≡ NoMemory)) (sym is) why

-- ---- commands that read

pub not_read : (input : Change) (Answers : Protocol → Answer → Type 0) (e : Refusal) (r : Result Report Refusal) → IsErrAnd r (λ x. x ≡ e) → Misreads input (refused e) ⊎ (e ≡ NoMemory)
    → Reads input Answers (answer_of r) ⊎ (answer_of r ≡ refused NoMemory)
not_read input Answers e (Ok x) is why = absurd is
not_read input Answers e (Err x) is (inl why) = inl (Reads.misread (subst (λ y. Misreads input (refused y)) (sym is) why))
not_read input Answers e (Err x) is (inr lacks) = inr (ap refused (is ∙ lacks))

pub was_read : (input : Change) (Answers : Protocol → Answer → Type 0) (p : Protocol) (r : Result Report Refusal) → IsSpelled input p → Answers p (answer_of r) ⊎ (r ≡ Err NoMemory)
    → Reads input Answers (answer_of r) ⊎ (answer_of r ≡ refused NoMemory)
was_read input Answers p r spelled (inl is) = inl (Reads.read p spelled is)
was_read input Answers p r spelled (inr lacks) = inr (ap answer_of lacks)

pub synth_row : (o : Options) (input : Change) (a : Answer) → Reads input (Searches o) a ⊎ (a ≡ refused NoMemory) → Allowed (Some (Synth o)) input a
synth_row o input a (inl reads) = Allowed.synth o refl reads
synth_row o input a (inr lacks) = Allowed.no_memory lacks

pub print_row : (input : Change) (a : Answer) → Reads input Prints a ⊎ (a ≡ refused NoMemory) → Allowed (Some Print) input a
print_row input a (inl reads) = Allowed.print refl reads
print_row input a (inr lacks) = Allowed.no_memory lacks

pub space_row : (text : List ℕ) (input : Change) (a : Answer) → Reads input (Sizes text) a ⊎ (a ≡ refused NoMemory) → Allowed (Some (Space text)) input a
space_row text input a (inl reads) = Allowed.space text refl reads
space_row text input a (inr lacks) = Allowed.no_memory lacks

-- the sizes of a space that was named, and a fault that was told
pub sizes_told : (p : Protocol) (text told : List ℕ) (s : Made) → IfSome (space_answer (Ok s)) (HasSpace p None text) → IsSpaceOf p.signature s.template s
    → told ≡ numbers_text (length s.atoms) (length s.cubes) (length (classes_in s)) → Sizes text p (record { status = 0; text = told; line = [] })
sizes_told p text told s has made is =
    let sizes : told ≡ sizes_of p.signature s.template =
    is ∙ (ap (λ xs. numbers_text (length xs) (length s.cubes) (length (classes_in s))) made.atoms_are
    ∙ ap (λ xs. numbers_text (length (atoms p.signature s.template)) (length xs) (length (classes_of s.template.literals xs))) made.cubes_are) in
    Sizes.sizes s.template has (ap (λ t. record { status = 0; text = t; line = [] }) sizes)

pub fault_told : (p : Protocol) (text : List ℕ) (e : NoSpace) (r : Result Report Refusal) → IsErrAnd r (λ x. x ≡ space_refusal e) → IfSome (space_answer (Err e)) (HasSpace p None text)
    → Sizes text p (answer_of r) ⊎ (r ≡ Err NoMemory)
fault_told p text e (Ok x) is has = absurd is
fault_told p text (no_space.Faulty f) (Err x) is has = inl (Sizes.faulty f has (ap refused is))
fault_told p text no_space.Memory (Err x) is has = inr (ap Err is)

pub printed_text : (p : Protocol) (text : List ℕ) → text ≡ protocol_text p → Prints p (record { status = 0; text = text; line = [] })
printed_text p text is = ap (λ t. record { status = 0; text = t; line = [] }) is

-- ---- searches

-- what a search told, with the templates that the options name
pub told_searches : (o : Options) (p : Protocol) (t u : Option Template) (told : Told) → NamesBy o p t u → IsTold p t u o.workers o.conflicts told → Searches o p (told_answer told)
told_searches o p t u (telling.Report status text) by is = Searches.report (record { breadth = t; finish = u; named = by; report = is.0; within = is.1; line = refl })
told_searches o p t u (telling.Stopped line) by is = Searches.stopped (record { breadth = t; finish = u; named = by; ended = is; is = refl })

-- a refusal of a search, passed on
pub search_refused : (o : Options) (p : Protocol) (e : Refusal) (r : Result Report Refusal) → IsErrAnd r (λ x. x ≡ e) → Searches o p (refused e) ⊎ (e ≡ NoMemory)
    → Searches o p (answer_of r) ⊎ (r ≡ Err NoMemory)
search_refused o p e (Ok x) is why = absurd is
search_refused o p e (Err x) is (inl why) = inl (subst (λ y. Searches o p (refused y)) (sym is) why)
search_refused o p e (Err x) is (inr lacks) = inr (ap Err (is ∙ lacks))

-- an answer that is what was told
pub answer_searches : (o : Options) (p : Protocol) (first last : Option Made) (told : Told) (r : Result Report Refusal) → Gives o.breadth p None first → Gives o.finish p (template_of first) last
    → IsTold p (template_of first) (template_of last) o.workers o.conflicts told → answer_of r ≡ told_answer told → Searches o p (answer_of r) ⊎ (r ≡ Err NoMemory)
answer_searches o p first last told r breadth finish is same =
    inl (subst (Searches o p) (sym same) (told_searches o p (template_of first) (template_of last) told (record { breadth = breadth.named; finish = finish.named }) is))

-- the space of the text that an option gives
pub given_space : (given : Option (List ℕ)) (p : Protocol) (beside : Option Template) (text : List ℕ) (s : Made) → given ≡ Some text → HasSpace p beside text (Ok s.template) → IsSpaceOf p.signature s.template s
    → Gives given p beside (Some s)
given_space given p beside text s is has made = record { named = Names.named text s.template is has refl; made = made }

-- the same of what is the same
pub gives_same : (given : Option (List ℕ)) (p : Protocol) (t u : Option Template) (x y : Option Made) → t ≡ u → y ≡ x → Gives given p t x → Gives given p u y
gives_same given p t u x y beside same gives = subst (λ o. Gives given p o y) beside (subst (Gives given p t) (sym same) gives)

-- why that text gives none, passed on
pub given_none : (given : Option (List ℕ)) (p : Protocol) (beside : Option Template) (text : List ℕ) (e : NoSpace) (r : Result (Option Made) NoSpace) → given ≡ Some text → IsErrAnd r (λ x. x ≡ e)
    → IfSome (space_answer (Err e)) (HasSpace p beside text) → IfErr r (GivesNone given p beside)
given_none given p beside text e (Ok s) is passed has = absurd passed
given_none given p beside text (no_space.Faulty f) (Err x) is passed has = subst (GivesNone given p beside) (sym passed) (text, is, has)
given_none given p beside text no_space.Memory (Err x) is passed has = subst (GivesNone given p beside) (sym passed) tt

-- the fault of an option's text
pub fault_named : (given : Option (List ℕ)) (p : Protocol) (beside : Option Template) (e : NoSpace) (f : SpaceFault) → e ≡ no_space.Faulty f → GivesNone given p beside e → NamesFault given p beside f
fault_named given p beside (no_space.Faulty g) f is fault = let same : g ≡ f = cc in subst (NamesFault given p beside) same fault
fault_named given p beside no_space.Memory f is fault = absurd cc

-- ---- what the words are told as

-- a command that needs no workers
pub check_printed : (c : Command) (input : Change) (a : Answer) → c ≡ Print → Allowed (Some Print) input a → AllowedCheck (Some c) input a
check_printed c input a is allowed = AllowedCheck.check (ap is_check is) (subst (λ d. Allowed (Some d) input a) (sym is) allowed)

pub check_sized : (c : Command) (text : List ℕ) (input : Change) (a : Answer) → c ≡ Space text → Allowed (Some (Space text)) input a → AllowedCheck (Some c) input a
check_sized c text input a is allowed = AllowedCheck.check (ap is_check is) (subst (λ d. Allowed (Some d) input a) (sym is) allowed)

pub check_unserved : (c : Command) (input : Change) → c ≡ Check → IsUntouched input → AllowedCheck (Some c) input (refused Unbuilt)
check_unserved c input is untouched = AllowedCheck.check (ap is_check is) (Allowed.unserved c refl (ap is_served is) untouched refl)

pub check_allowed : (command : Option Command) (c : Command) (input : Change) (a : Answer) → command ≡ Some c → is_check c ≡ true → AllowedCheck (Some c) input a → Allowed command input a
check_allowed command c input a is on (AllowedCheck.usage off u refused) = absurd (false≢true (sym off ∙ on))
check_allowed command c input a is on (AllowedCheck.check asks allowed) = subst (λ o. Allowed o input a) (sym is) allowed
check_allowed command c input a is on (AllowedCheck.no_memory lacks) = Allowed.no_memory lacks

-- a command that is no search, no certificate and no drill
pub other_is_check : (c : Command) → ((o : Options) → c ≡ Synth o → ⊥) → ((o : Options) → c ≡ Certify o → ⊥) → ((n w : ℕ) → c ≡ Drill n w → ⊥) → is_check c ≡ true
other_is_check (Synth o) synth certify drill = absurd (synth o refl)
other_is_check (Certify o) synth certify drill = absurd (certify o refl)
other_is_check (Space text) synth certify drill = refl
other_is_check Print synth certify drill = refl
other_is_check Check synth certify drill = refl
other_is_check (Drill n w) synth certify drill = absurd (drill n w refl)

-- a certificate and a drill are not served
pub unserved_kind : (c : Command) → ((o : Options) × (c ≡ Certify o)) ⊎ ((n : ℕ) × (w : ℕ) × (c ≡ Drill n w)) → is_served c ≡ false
unserved_kind c (inl certify) = ap is_served certify.1
unserved_kind c (inr drill) = ap is_served drill.2
