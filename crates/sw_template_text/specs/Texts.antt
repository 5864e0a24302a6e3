-- What the text of a template means, and when it means none.
use Rattle.std.specs.Prelude.{◌≡◌, ℕ, ◌+◌, ◌-◌, ◌*◌, ◌<◌, ◌≤◌, nat_le, List, [], ◌∷◌, map, length, take, drop, slice_get, Option, Some, None, Result, Ok, Err, codes, if◌then◌else◌}
use Rattle.std.specs.List.{AllByRecursion, list_any, fold}
use Rattle.std.specs.Str.{bytes_eq}
use Rattle.sw_scan.specs.declared.Kind.{Kind}
use Rattle.sw_scan.specs.declared.Token.{Token}
use Rattle.sw_scan.specs.Spelling.{kind_of}
use Rattle.sw_scan.specs.Scans.{Scans}
use Rattle.sw_logic.specs.declared.syntax.Signature.{Signature}
use Rattle.sw_meaning.specs.declared.template.Run.{Run}
use Rattle.sw_meaning.specs.declared.template.Template.{Template}
use Rattle.sw_template_text.specs.declared.errors.TemplateError.{TemplateError}
use Rattle.sw_template_text.specs.declared.words.Word.{Word}
use Rattle.sw_template_text.specs.declared.words.Word.TheVariants as w
use Rattle.sw_template_text.specs.declared.words.NamedRun.{NamedRun}
use Rattle.sw_template_text.specs.declared.words.Numbers.{Numbers}
use Rattle.sw_template_text.specs.Grammar.{Spells, IsFault}
use Rattle.sw_template.specs.Prefix.{variable_count}

-- the keywords of protocols, which are no names here either
abbrev pub keywords : List (List ℕ)
keywords =
    codes "sort" ∷ codes "immutable" ∷ codes "mutable" ∷ codes "relation" ∷ codes "constant" ∷ codes "function" ∷ codes "axiom" ∷ codes "init"
    ∷ codes "transition" ∷ codes "modifies" ∷ codes "safety" ∷ codes "true" ∷ codes "false" ∷ []

-- the number that digits write
abbrev pub value_of_digits : List ℕ → ℕ
value_of_digits digits = fold (λ n d. n * 10 + (d - 48)) 0 digits

abbrev pub name_word : List ℕ → Token → Word
name_word bytes t =
    if bytes_eq bytes (codes "forall") then w.ForAll
    else (if bytes_eq bytes (codes "exists") then w.Exists
    else (if bytes_eq bytes (codes "literals") then w.Literals
    else (if bytes_eq bytes (codes "depth") then w.Depth
    else (if bytes_eq bytes (codes "terms") then w.Terms
    else (if list_any (bytes_eq bytes) keywords then w.Other else w.Name t.at t.len)))))

-- a number of more than nine digits is no number
abbrev pub number_word : List ℕ → Word
number_word digits = if nat_le (length digits) 9 then w.Number (value_of_digits digits) else w.Other

abbrev pub word_by : Kind → List ℕ → Token → Word
word_by Kind.Name bytes t = name_word bytes t
word_by Kind.Number bytes t = number_word bytes
word_by kind bytes t = w.Other

abbrev pub bytes_at : List ℕ → ℕ → ℕ → List ℕ
bytes_at text at len = take len (drop at text)

abbrev pub words_of : List ℕ → List Token → List Word
words_of text tokens = map (λ t. word_by t.kind (bytes_at text t.at t.len) t) tokens

-- the token is of the kind that its bytes are
abbrev pub IsKind : List ℕ → Token → Type 0
IsKind text t = kind_of (bytes_at text t.at t.len) ≡ Some t.kind

-- where the word of a number stands, or where the text ends
abbrev pub place : List ℕ → Option Token → ℕ
place text (Some t) = t.at
place text None = length text

-- the sort of this number has the run's name
abbrev pub HasName : Signature → List ℕ → NamedRun → ℕ → Type 0
HasName sig text run sort = slice_get sig.sorts sort ≡ Some (bytes_at text run.at run.len)

-- the sort that a run's name is: the first one of that name
abbrev pub Names : Signature → List ℕ → NamedRun → ℕ → Type 0
Names sig text run sort = HasName sig text run sort × ((k : ℕ) → k < sort → HasName sig text run k → ⊥)

-- a run's name is no sort
abbrev pub IsUnknown : Signature → List ℕ → NamedRun → Type 0
IsUnknown sig text run = (sort : ℕ) → HasName sig text run sort → ⊥

-- the runs with their sorts
abbrev pub AreRuns : Signature → List ℕ → List NamedRun → List Run → Type 0
AreRuns sig text [] [] = Unit {0}
AreRuns sig text [] (run ∷ runs) = ⊥
AreRuns sig text (named ∷ rest) [] = ⊥
AreRuns sig text (named ∷ rest) (run ∷ runs) = (run.universal ≡ named.universal) × ((run.count ≡ named.count) × (Names sig text named run.sort × AreRuns sig text rest runs))

-- what the runs and the numbers give, once the sorts are known
pub data Bounds (prefix : List Run) (n : Numbers) (r : Result Template TemplateError) : Type 0 where
  variables_over : 6 < variable_count prefix → r ≡ Err (TemplateError.VariablesOver (variable_count prefix)) → Bounds prefix n r
  literals_over : variable_count prefix ≤ 6 → 6 < n.literals → r ≡ Err (TemplateError.LiteralsOver n.literals) → Bounds prefix n r
  within : variable_count prefix ≤ 6 → n.literals ≤ 6 → r ≡ Ok (record { prefix = prefix; literals = n.literals; depth = n.depth; terms = n.terms }) → Bounds prefix n r

-- the first name that is no sort, or what the bounds say
pub data Resolves (sig : Signature) (text : List ℕ) (runs : List NamedRun) (n : Numbers) (r : Result Template TemplateError) : Type 0 where
  unknown : (number : ℕ) (run : NamedRun) → slice_get runs number ≡ Some run → IsUnknown sig text run → AllByRecursion (λ before. (sort : ℕ) × Names sig text before sort) (take number runs)
      → r ≡ Err (TemplateError.UnknownSort run.at) → Resolves sig text runs n r
  known : (prefix : List Run) → AreRuns sig text runs prefix → Bounds prefix n r → Resolves sig text runs n r

-- what a text has: the first byte that begins no token, the first word that no template has there, or what its sorts and bounds say
pub data HasTemplate (sig : Signature) (text : List ℕ) (r : Result Template TemplateError) : Type 0 where
  bad_byte : (at : ℕ) → Scans text 0 (Err at) → r ≡ Err (TemplateError.BadByte at) → HasTemplate sig text r
  misspelled : (tokens : List Token) (number : ℕ) → Scans text 0 (Ok tokens) → IsFault (words_of text tokens) number
      → r ≡ Err (TemplateError.Syntax (place text (slice_get tokens number))) → HasTemplate sig text r
  spelled : (tokens : List Token) (runs : List NamedRun) (n : Numbers) → Scans text 0 (Ok tokens) → Spells (words_of text tokens) runs n → Resolves sig text runs n r → HasTemplate sig text r

-- a byte of the text begins no token, at this place; want of memory says nothing
abbrev pub IsUncut : List ℕ → TemplateError → Type 0
IsUncut text (TemplateError.BadByte at) = Scans text 0 (Err at)
IsUncut text (TemplateError.Syntax at) = ⊥
IsUncut text (TemplateError.UnknownSort at) = ⊥
IsUncut text (TemplateError.VariablesOver n) = ⊥
IsUncut text (TemplateError.LiteralsOver n) = ⊥
IsUncut text TemplateError.Memory = Unit {0}

-- the text is one of this template
abbrev pub IsText : Signature → List ℕ → Template → Type 0
IsText sig text t = HasTemplate sig text (Ok t)

-- a text has one answer
abbrev pub OneTemplate : Type 0
OneTemplate = (sig : Signature) (text : List ℕ) (r s : Result Template TemplateError) → HasTemplate sig text r → HasTemplate sig text s → r ≡ s

-- what an answer says of the text; want of memory says nothing
abbrev pub answer_of : Result Template TemplateError → Option (Result Template TemplateError)
answer_of (Ok t) = Some (Ok t)
answer_of (Err (TemplateError.BadByte at)) = Some (Err (TemplateError.BadByte at))
answer_of (Err (TemplateError.Syntax at)) = Some (Err (TemplateError.Syntax at))
answer_of (Err (TemplateError.UnknownSort at)) = Some (Err (TemplateError.UnknownSort at))
answer_of (Err (TemplateError.VariablesOver n)) = Some (Err (TemplateError.VariablesOver n))
answer_of (Err (TemplateError.LiteralsOver n)) = Some (Err (TemplateError.LiteralsOver n))
answer_of (Err TemplateError.Memory) = None

-- what holds of every template that a text has
pub record IsTemplate (sig : Signature) (t : Template) : Type 0 where
  pub runs : AllByRecursion (λ run. (0 < run.count) × (run.sort < length sig.sorts)) t.prefix
  pub variables : variable_count t.prefix ≤ 6
  pub some : 0 < t.literals
  pub few : t.literals ≤ 6
  pub depth : (1 ≤ t.depth) × (t.depth ≤ 2)
  pub terms : t.terms ≤ 3

abbrev pub TextsAreTemplates : Type 0
TextsAreTemplates = (sig : Signature) (text : List ℕ) (t : Template) → IsText sig text t → IsTemplate sig t
