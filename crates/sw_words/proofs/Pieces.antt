-- What the crate `clap` sees in a word that may stand.
use Rattle.std.specs.Prelude.{◌≡◌, ◌==◌, ℕ, Bool, true, false, [], ◌∷◌, Some, None}
use Rattle.std.specs.List.{list_all, list_any, before_first, after_first}
use Rattle.std.specs.Str.{bytes_eq}
use Rattle.std.proofs.Common.{refl, sym, ◌∙◌}
use Rattle.std.proofs.lemmas.Bool.{true≢false, and_parts, not-true}
use Rattle.clap.specs.Lexer.{long_of, short_of}
use Rattle.sw_words.specs.Grammar.{Word, named, value, pieces, is_fit, is_value, is_equals}

abbrev pub dashes : Word
dashes = 45 ∷ 45 ∷ []

-- a word is a value, `--name` or `--name=value`, and no other flag
pub data WordKind (word : Word) : Type 0 where
  plain : long_of word ≡ None → short_of word ≡ None → bytes_eq word dashes ≡ false → pieces word ≡ value word ∷ [] → WordKind word
  bare : (name : Word) → long_of word ≡ Some (name, None) → bytes_eq word dashes ≡ false → pieces word ≡ named name ∷ [] → WordKind word
  full : (name text : Word) → long_of word ≡ Some (name, Some text) → bytes_eq word dashes ≡ false → pieces word ≡ named name ∷ value text ∷ [] → WordKind word

-- a word that does not begin with a hyphen
plain_first : (a : ℕ) (rest : Word) → (a == 45) ≡ false → pieces (a ∷ rest) ≡ value (a ∷ rest) ∷ [] → WordKind (a ∷ rest)
plain_first a rest other is = WordKind.plain (rw other refl) (rw other refl) (rw other refl) is

fit_value : (word : Word) → list_all is_fit (value word ∷ []) ≡ true → is_value word ≡ true
fit_value word fit = (and_parts (is_value word) true fit).0

first_of_value : (a : ℕ) (rest : Word) → list_all is_fit (value (a ∷ rest) ∷ []) ≡ true → (a == 45) ≡ false
first_of_value a rest fit = not-true (a == 45) (fit_value (a ∷ rest) fit)

-- two hyphens and more
option_kind : (a b c : ℕ) (rest : Word) → (a == 45) ≡ true → (b == 45) ≡ true → (x : Bool) → list_any is_equals (c ∷ rest) ≡ x → WordKind (a ∷ b ∷ c ∷ rest)
option_kind a b c rest first second true equals =
    WordKind.full (before_first is_equals (c ∷ rest)) (after_first is_equals (c ∷ rest)) (rw (first, second, equals) refl) (rw (first, second) refl) (rw (first, second, equals) refl)
option_kind a b c rest first second false equals =
    WordKind.bare (before_first is_equals (c ∷ rest)) (rw (first, second, equals) refl) (rw (first, second) refl) (rw (first, second, equals) refl)

-- three bytes and more, by the first two
long_kind : (a b c : ℕ) (rest : Word) (x y : Bool) → (a == 45) ≡ x → (b == 45) ≡ y → list_all is_fit (pieces (a ∷ b ∷ c ∷ rest)) ≡ true → WordKind (a ∷ b ∷ c ∷ rest)
long_kind a b c rest true true first second fit = option_kind a b c rest first second (list_any is_equals (c ∷ rest)) refl
long_kind a b c rest true false first second fit =
    let is : pieces (a ∷ b ∷ c ∷ rest) ≡ value (a ∷ b ∷ c ∷ rest) ∷ [] = rw (first, second) refl in
    absurd (true≢false (sym first ∙ first_of_value a (b ∷ c ∷ rest) (rw is at fit)))
long_kind a b c rest false y first second fit = plain_first a (b ∷ c ∷ rest) first (rw first refl)

pub word_kind : (word : Word) → list_all is_fit (pieces word) ≡ true → WordKind word
word_kind [] fit = absurd (true≢false (sym (fit_value [] fit)))
word_kind (a ∷ []) fit = plain_first a [] (first_of_value a [] fit) refl
word_kind (a ∷ b ∷ []) fit = plain_first a (b ∷ []) (first_of_value a (b ∷ []) fit) refl
word_kind (a ∷ b ∷ c ∷ rest) fit = long_kind a b c rest (a == 45) (b == 45) refl refl fit
