-- The grammar of the words of a command line: which command they are.
use Rattle.std.specs.Prelude.{ℕ, ◌==◌, ◌&&◌, Bool, true, false, not, List, [], ◌∷◌, ◌++◌, Option, Some, None, length, nat_lt, nat_le, find, codes, option_map, option_and_then, if◌then◌else◌}
use Rattle.std.specs.List.{list_all, list_any, flat_map, before_first, after_first}
use Rattle.std.specs.Char.{is_ascii_digit}
use Rattle.std.specs.Str.{bytes_eq}
use Rattle.std.specs.Str.Parse.{digits_value}
use Rattle.sw_words.specs.declared.commands.Command.{Command}
use Rattle.sw_words.specs.declared.commands.Command.TheVariants.{Synth, Certify, Space, Print, Check, Drill}
use Rattle.sw_words.specs.declared.commands.Options.{Options}
use Rattle.sw_words.specs.declared.limits.TheConstants.{WORD_LIMIT, MOST_DIGITS, MOST_WORKERS, MOST_CONFLICTS, LEAST_DRILL, MOST_DRILL}

-- a word, by its bytes
abbrev pub Word : Type 0
Word = List ℕ

-- ---- the pieces of words

-- a word, or a part of one: the name of an option, or a value
pub data Piece : Type 0 where
  named : Word → Piece
  value : Word → Piece

-- a value is not empty and does not begin with a hyphen
abbrev pub is_value : Word → Bool
is_value [] = false
is_value (b ∷ rest) = not (b == 45)

-- the byte `=`
abbrev pub is_equals : ℕ → Bool
is_equals b = b == 61

-- what follows the two hyphens of an option: its name, up to the first `=`, and its value behind that
abbrev pub option_pieces : Word → List Piece
option_pieces text = named (before_first is_equals text) ∷ (if list_any is_equals text then value (after_first is_equals text) ∷ [] else [])

-- `--name`, `--name=value`, or a value
abbrev pub pieces : Word → List Piece
pieces (a ∷ b ∷ c ∷ rest) = if a == 45 && b == 45 then option_pieces (c ∷ rest) else value (a ∷ b ∷ c ∷ rest) ∷ []
pieces word = value word ∷ []

-- a piece that may stand: a name, or a value that is one
abbrev pub is_fit : Piece → Bool
is_fit (named name) = true
is_fit (value text) = is_value text

-- a word that may stand after the command: it is not too long, and each value in it is one
abbrev pub may_stand : Word → Bool
may_stand word = nat_le (length word) WORD_LIMIT && list_all is_fit (pieces word)

-- ---- options

-- options by name and value, in their order
abbrev pub Given : Type 0
Given = List (Word × Word)

-- one of these names
abbrev pub is_known : List Word → Word → Bool
is_known names name = list_any (λ known. bytes_eq known name) names

-- an option of this name was given
abbrev pub has_option : Given → Word → Bool
has_option given name = list_any (λ o. bytes_eq o.0 name) given

-- the options given before, and those of the pieces: names and values in turn, each name one of
-- these and given once
abbrev pub options_from : List Word → Given → List Piece → Option Given
options_from names given [] = Some given
options_from names given (named name ∷ value text ∷ rest) =
    if is_known names name && not (has_option given name) then options_from names (given ++ (name, text) ∷ []) rest else None
options_from names given _ = None

-- the value of an option, where it was given
abbrev pub value_of : Given → Word → Option Word
value_of given name = option_map (λ o. o.1) (find (λ o. bytes_eq o.0 name) given)

-- ---- numbers

-- the number of 1 to 20 digits
abbrev pub number_of : Word → Option ℕ
number_of text = if nat_lt 0 (length text) && nat_le (length text) MOST_DIGITS && list_all is_ascii_digit text then Some (digits_value 10 text) else None

-- a number from least to most
abbrev pub within : ℕ → ℕ → ℕ → Option ℕ
within least most n = if nat_le least n && nat_le n most then Some n else None

-- the number that the digits write, where it lies there
abbrev pub number_within : ℕ → ℕ → Word → Option ℕ
number_within least most text = option_and_then (within least most) (number_of text)

-- one worker where no number is given
abbrev pub workers_of : Option Word → Option ℕ
workers_of None = Some 1
workers_of (Some text) = number_within 1 MOST_WORKERS text

-- no budget where no number is given
abbrev pub conflicts_of : Option Word → Option (Option ℕ)
conflicts_of None = Some None
conflicts_of (Some text) = option_map (λ n. Some n) (number_within 1 MOST_CONFLICTS text)

-- ---- commands

-- the options of a search
abbrev pub search_names : List Word
search_names = codes "breadth" ∷ codes "finish" ∷ codes "workers" ∷ codes "conflicts" ∷ []

-- the values of the options that were given, and those of the others
abbrev pub options_with : Given → Option Options
options_with given = option_and_then (λ workers. option_map (λ conflicts. record {
  breadth = value_of given (codes "breadth");
  finish = value_of given (codes "finish");
  workers = workers;
  conflicts = conflicts;
})
    (conflicts_of (value_of given (codes "conflicts"))))
    (workers_of (value_of given (codes "workers")))

-- the options of `synth` and of `certify`
abbrev pub options_of : List Piece → Option Options
options_of words = option_and_then options_with (options_from search_names [] words)

-- a drill with this number, and with this text for its workers
abbrev pub drill_with : Word → Option Word → Option Command
drill_with number workers = option_and_then (λ n. option_map (Drill n) (workers_of workers)) (number_within LEAST_DRILL MOST_DRILL number)

-- the same where the option's name is `workers`
abbrev pub drill_by : Word → Word → Word → Option Command
drill_by number name workers = if bytes_eq (codes "workers") name then drill_with number (Some workers) else None

-- a number, with `--workers` behind it or before it
abbrev pub drill_of : List Piece → Option Command
drill_of (value number ∷ []) = drill_with number None
drill_of (value number ∷ named name ∷ value workers ∷ []) = drill_by number name workers
drill_of (named name ∷ value workers ∷ value number ∷ []) = drill_by number name workers
drill_of _ = None

-- one value and nothing else
abbrev pub space_of : List Piece → Option Command
space_of (value text ∷ []) = Some (Space text)
space_of _ = None

-- a command with nothing behind it
abbrev pub alone : Command → List Piece → Option Command
alone command [] = Some command
alone command _ = None

-- the command of this name with these words
abbrev pub command_with : Word → List Piece → Option Command
command_with name words =
    if bytes_eq name (codes "synth") then option_map Synth (options_of words)
    else (if bytes_eq name (codes "certify") then option_map Certify (options_of words)
    else (if bytes_eq name (codes "space") then space_of words
    else (if bytes_eq name (codes "print") then alone Print words
    else (if bytes_eq name (codes "check") then alone Check words
    else (if bytes_eq name (codes "drill") then drill_of words else None)))))

-- the command that the words are
abbrev pub command_of : List Word → Option Command
command_of [] = None
command_of (name ∷ words) = if list_all may_stand words then command_with name (flat_map pieces words) else None
