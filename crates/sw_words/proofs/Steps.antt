-- One step of `clap`'s walk over options that have one value each.
use Rattle.std.specs.Prelude.{◌≡◌, ℕ, Bool, true, false, List, [], ◌∷◌, ◌++◌, map, Option, Some, None}
use Rattle.std.specs.Str.{bytes_eq}
use Rattle.std.proofs.Common.{refl, ap, sym, ◌∙◌, append-nil}
use Rattle.std.proofs.lemmas.Bool.{true≢false}
use Rattle.std.proofs.lemmas.Slice.Eq.{bytes_eq-Decides}
use Rattle.std.proofs.lemmas.List.{map-append}
use Rattle.clap.proofs.WalkLemmas.{list_any-map}
use Rattle.clap.specs.Lexer.{long_of, short_of}
use Rattle.clap.specs.Walk.{Held, Row, Rule, Waiting, Walk, idle, option, positional, more_values, at_row, without, has_row, arg_by_id, arg_by_long, arg_by_index, used, word_met, subcommand_met, subcommand_or_other, long_word, plain_word}
use Rattle.clap.specs.Simple.{Shape, built, filled}
use Rattle.clap.specs.Faults.{use_fault, long_fault, word_fault, other_fault}
use Rattle.clap.specs.declared.error.kind.ErrorKind.TheVariants as kind
use Rattle.clap.specs.declared.parser.matches.ValueSource.TheVariants.{CommandLine}
use Rattle.clap.specs.declared.builder.value_parser.Reading.TheVariants.{AsWritten}
use Rattle.sw_words.specs.Grammar.{Word, Given, is_known, has_option}
use Rattle.sw_words.specs.Lines.{option_rule, line_of}
use Rattle.sw_words.proofs.Pieces.{dashes}

-- ---- the options

-- an option as `clap` fills it in
abbrev pub rule : Word → Rule
rule name = filled (option_rule name)

-- a command with these options, as it is built
abbrev pub shape : List Word → Shape
shape names = record (built (line_of [])).top { rules = map rule names }

abbrev pub rules : List Word → List Rule
rules names = map rule names

same_name : (a b : Word) → bytes_eq a b ≡ true → a ≡ b
same_name a b e = (bytes_eq-Decides a b).0 e

pub name_itself : (n : Word) → bytes_eq n n ≡ true
name_itself n = (bytes_eq-Decides n n).1 refl

-- the search for an option by its long name, and by its id
pub known_long : (names : List Word) (n : Word) → is_known names n ≡ true → arg_by_long (rules names) n ≡ Some (rule n)
known_long [] n known = absurd (true≢false (sym known))
known_long (m ∷ ms) n known = go (λ e. known_long ms n e) (bytes_eq m n) refl
  where
    go : (is_known ms n ≡ true → arg_by_long (rules ms) n ≡ Some (rule n)) → (x : Bool) → bytes_eq m n ≡ x → arg_by_long (rules (m ∷ ms)) n ≡ Some (rule n)
    go later true here = rw here (ap (λ k. Some (rule k)) (same_name m n here))
    go later false other = rw other (later (rw other at known))

pub unknown_long : (names : List Word) (n : Word) → is_known names n ≡ false → arg_by_long (rules names) n ≡ None
unknown_long [] n unknown = refl
unknown_long (m ∷ ms) n unknown = go (λ e. unknown_long ms n e) (bytes_eq m n) refl
  where
    go : (is_known ms n ≡ false → arg_by_long (rules ms) n ≡ None) → (x : Bool) → bytes_eq m n ≡ x → arg_by_long (rules (m ∷ ms)) n ≡ None
    go later true here = absurd (true≢false (rw here at unknown))
    go later false other = rw other (later (rw other at unknown))

pub known_id : (names : List Word) (n : Word) → is_known names n ≡ true → arg_by_id (rules names) n ≡ Some (rule n)
known_id [] n known = absurd (true≢false (sym known))
known_id (m ∷ ms) n known = go (λ e. known_id ms n e) (bytes_eq m n) refl
  where
    go : (is_known ms n ≡ true → arg_by_id (rules ms) n ≡ Some (rule n)) → (x : Bool) → bytes_eq m n ≡ x → arg_by_id (rules (m ∷ ms)) n ≡ Some (rule n)
    go later true here = rw here (ap (λ k. Some (rule k)) (same_name m n here))
    go later false other = rw other (later (rw other at known))

pub no_positional : (names : List Word) (i : ℕ) → arg_by_index (rules names) i ≡ None
no_positional [] i = refl
no_positional (m ∷ ms) i = no_positional ms i

-- ---- the rows

abbrev pub row : Word × Word → Row
row o = record { id = o.0; values = o.1 ∷ []; count = None; source = Some CommandLine; reading = AsWritten }

abbrev pub rows_for : Given → List Row
rows_for given = map row given

pub has_row-rows : (given : Given) (n : Word) → has_row n (rows_for given) ≡ has_option given n
has_row-rows given n = sym (list_any-map (λ (r : Row). bytes_eq r.id n) row given)

at_row-none : (id : Word) (change : Row → List Row) (missing rows : List Row) → has_row id rows ≡ false → at_row id change missing rows ≡ rows ++ missing
at_row-none id change missing [] none = refl
at_row-none id change missing (r ∷ rs) none = go (λ e. at_row-none id change missing rs e) (bytes_eq r.id id) refl
  where
    go : (has_row id rs ≡ false → at_row id change missing rs ≡ rs ++ missing) → (x : Bool) → bytes_eq r.id id ≡ x → at_row id change missing (r ∷ rs) ≡ (r ∷ rs) ++ missing
    go later true here = absurd (true≢false (rw here at none))
    go later false other = rw other (ap (λ xs. r ∷ xs) (later (rw other at none)))

-- a first use of an option adds its row
pub used_once : (given : Given) (n v : Word) → has_option given n ≡ false → used (rule n) (v ∷ []) (rows_for given) ≡ rows_for (given ++ (n, v) ∷ [])
used_once given n v fresh =
    let none : has_row n (rows_for given) ≡ false = has_row-rows given n ∙ fresh in
    let kept : without n (rows_for given) ≡ rows_for given = at_row-none n (λ _. []) [] (rows_for given) none ∙ append-nil (rows_for given) in
    ap (λ rs. at_row n (more_values CommandLine (v ∷ [])) (row (n, v) ∷ []) rs) kept ∙ (at_row-none n (more_values CommandLine (v ∷ [])) (row (n, v) ∷ []) (rows_for given) none ∙ sym (map-append row given ((n, v) ∷ [])))

pub fault_once : (given : Given) (n v : Word) → has_option given n ≡ false → use_fault false (rule n) (v ∷ []) (rows_for given) ≡ []
fault_once given n v fresh = let none : has_row n (rows_for given) ≡ false = has_row-rows given n ∙ fresh in rw none refl

pub fault_again : (given : Given) (n v : Word) → has_option given n ≡ true → use_fault false (rule n) (v ∷ []) (rows_for given) ≡ kind.ArgumentConflict ∷ []
fault_again given n v twice = let some : has_row n (rows_for given) ≡ true = has_row-rows given n ∙ twice in rw some refl

-- ---- a word's turn

pub no_subcommand : (waiting : Waiting) (word : Word) → subcommand_met [] waiting word ≡ None
no_subcommand idle word = refl
no_subcommand (option id) word = refl
no_subcommand positional word = refl

-- where a walk stands between two words
abbrev pub at_word : Waiting → Held → Walk
at_word waiting h = record { held = h; waiting = waiting; position = 1; is_trailing = false; stopped = None }

module _ (names : List Word) (waiting : Waiting) (word : Word) (h : Held) (no_dashes : bytes_eq word dashes ≡ false) where
  pub long_met_is : (n : Word) (v : Option Word) → long_of word ≡ Some (n, v) → word_met (rules names) [] false waiting 1 word h ≡ long_word (rules names) waiting word n v h
  long_met_is n v is = ap (λ o. subcommand_or_other (rules names) o waiting 1 word h) (no_subcommand waiting word) ∙ rw (no_dashes, is) refl

  pub long_fault_is : (n : Word) (v : Option Word) → long_of word ≡ Some (n, v)
      → word_fault (shape names) [] false waiting word h ≡ long_fault (rules names) false (arg_by_long (rules names) n) v h
  long_fault_is n v is = ap (λ o. other_fault (shape names) o word h) (no_subcommand waiting word) ∙ rw (no_dashes, is) refl

  pub plain_met_is : long_of word ≡ None → short_of word ≡ None → word_met (rules names) [] false waiting 1 word h ≡ plain_word (rules names) waiting word h
  plain_met_is long short = ap (λ o. subcommand_or_other (rules names) o waiting 1 word h) (no_subcommand waiting word) ∙ rw (no_dashes, long, short) refl

  pub plain_fault_is : long_of word ≡ None → short_of word ≡ None → word_fault (shape names) [] false waiting word h ≡ []
  plain_fault_is long short = ap (λ o. other_fault (shape names) o word h) (no_subcommand waiting word) ∙ rw (no_dashes, long, short) refl
