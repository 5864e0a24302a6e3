-- What the crate `clap` reads of options: the command that it is given, and what it answers.
use Rattle.std.specs.Prelude.{◌≡◌, true, List, [], ◌∷◌, map, Option, Some, codes, option_and_then}
use Rattle.clap.specs.Words.{App, Rule, first_value, found_of, new_app, new_rule}
use Rattle.clap.specs.declared.error.kind.ErrorKind.{ErrorKind}
use Rattle.clap.specs.declared.error.kind.ErrorKind.TheVariants.{OutOfMemory}
use Rattle.clap.specs.declared.parser.matches.ArgMatches.{ArgMatches}
use Rattle.sw_words.specs.Grammar.{Word, Piece, Given, value_of, options_from, drill_with}
use Rattle.sw_words.specs.declared.commands.Command.{Command}
use Rattle.sw_words.specs.declared.commands.WordsError.{WordsError}
use Rattle.sw_words.specs.declared.commands.WordsError.TheVariants.{Usage, Memory}

-- an option `--name` with one value
abbrev pub option_rule : Word → Rule
option_rule name = record (new_rule name) { long = Some name }

-- a command with these options alone, whose words are given without the program's name
abbrev pub line_of : List Word → App
line_of names =
    let bare = new_app (codes "swiss") in
    record bare { top = record bare.top { rules = map option_rule names; no_binary_name = true; disable_help_flag = true } }

-- the matches have the values of the options that the pieces give
abbrev pub MatchesOptions : List Word → List Piece → ArgMatches → Type 0
MatchesOptions names words m =
    (given : Given) × (options_from names [] words ≡ Some given) × ((name : Word) → first_value (found_of m) name ≡ value_of given name)

abbrev pub error_of : ErrorKind → WordsError
error_of OutOfMemory = Memory
error_of _ = Usage

-- a drill with this number, and with the option that the other words give
abbrev pub drill_apart : Word → List Piece → Option Command
drill_apart number words = option_and_then (λ given. drill_with number (value_of given (codes "workers"))) (options_from (codes "workers" ∷ []) [] words)
