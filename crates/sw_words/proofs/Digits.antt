-- What `parse` reads of digits, against the grammar's numbers.
use Rattle.std.specs.Prelude.{◌≡◌, ◌<◌, ◌≤◌, ◌^◌, ℕ, true, false, List, length, nat_le, option_and_then, Some, None, Result, Ok, Err}
use Rattle.std.specs.Result.{result_ok}
use Rattle.std.specs.List.{list_all}
use Rattle.std.specs.Char.{is_ascii_digit}
use Rattle.std.specs.Str.Parse.{ParsesUnsigned, digits_value}
use Rattle.std.proofs.Common.{refl, sym, ap, ◌∙◌, inl, inr, arith, rules, lt-ltb, le-ltb}
use Rattle.std.proofs.lemmas.Bool.{le-leb, lt-leb, cases_lt, and_right}
use Rattle.std.proofs.lemmas.Str.Parse.{IsNumeralModel, numerals_by_value, parse_digits}
use Rattle.sw_words.specs.Grammar.{Word, number_of, within, number_within}

own : IsNumeralModel (λ (ds : List ℕ). list_all is_ascii_digit ds ≡ true) (digits_value 10)
own = numerals_by_value (λ (ds : List ℕ). list_all is_ascii_digit ds ≡ true) (search rules)

-- digits, not too many, have their value, and none have none
number_is : (text : Word) → 0 < length text → length text ≤ 20 → list_all is_ascii_digit text ≡ true → number_of text ≡ Some (digits_value 10 text)
number_is text some short digits = rw (lt-ltb 0 (length text) some, le-leb (length text) 20 short, digits) refl

empty_none : (least most : ℕ) (text : Word) → length text ≤ 0 → number_within least most text ≡ None
empty_none least most text none = rw (le-ltb 0 (length text) none) refl

past_none : (least most n : ℕ) → most < n → within least most n ≡ None
past_none least most n past = rw (lt-leb n most past, and_right (nat_le least n) false refl) refl

pub number_found : {E : Type 0} (least most : ℕ) (text : Word) (r : Result ℕ E) (n : ℕ) → ParsesUnsigned 64 10 text r → result_ok r ≡ Some n
    → list_all is_ascii_digit text ≡ true → length text ≤ 20 → least ≤ n → n ≤ most → Some n ≡ number_within least most text
number_found least most text (Err e) n parses is digits short from to = absurd cc
number_found {E} least most text (Ok x) n parses is digits short from to =
    let read : ((0 < length text) × (digits_value 10 text < 2 ^ 64)) × (x ≡ digits_value 10 text) = parse_digits own {E = E} 64 text (Ok x) parses digits in
    let given : x ≡ n = cc in
    let same : digits_value 10 text ≡ n = sym read.1 ∙ given in
    let here : within least most n ≡ Some n = rw (le-leb least n from, le-leb n most to) refl in
    sym (ap (λ o. option_and_then (within least most) o) (number_is text read.0.0 short digits ∙ ap (λ m. Some m) same) ∙ here)

pub number_lost : {E : Type 0} (least most : ℕ) (text : Word) (r : Result ℕ E) → ParsesUnsigned 64 10 text r → result_ok r ≡ None
    → list_all is_ascii_digit text ≡ true → length text ≤ 20 → most < 2 ^ 64 → number_within least most text ≡ None
number_lost least most text (Ok x) parses is digits short small = absurd cc
number_lost {E} least most text (Err e) parses is digits short small =
    let none : (0 < length text) × (digits_value 10 text < 2 ^ 64) → ⊥ = parse_digits own {E = E} 64 text (Err e) parses digits in
    elim (cases_lt 0 (length text)) [
      | inr empty ↦ empty_none least most text empty
      | inl some ↦ elim (cases_lt (digits_value 10 text) (2 ^ 64)) [
        | inl fits ↦ absurd (none (some, fits))
        | inr past ↦ ap (λ o. option_and_then (within least most) o) (number_is text some short digits) ∙ past_none least most (digits_value 10 text) (omega arith)
      ]
    ]
