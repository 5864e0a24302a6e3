-- Numbers as they are written.
use Rattle.std.proofs.Common.{◌≡◌, ◌≢◌, ℕ, zero, suc, ◌+◌, ◌*◌, ◌/◌, ◌%◌, ◌^◌, ◌<◌, ◌≤◌, List, [], ◌∷◌, length, take, get_or, All, arith, Option, Some, None, ◌∙◌, ap, sym, inl, inr}
use Rattle.std.specs.Prelude.{MatchOption}
use Rattle.std.specs.Fmt.{decimal}
use Rattle.std.proofs.lemmas.Bool.{cases_lt}
use Rattle.std.specs.Char.{digit_value}
use Rattle.std.specs.Int.{IsInRange}
use Rattle.std.specs.Str.Parse.{AllDigits, digits_value}
use Rattle.std.proofs.lemmas.Str.Parse.{IsNumeralModel, tells_digits, tells_by_index, numerals_by_value, digits_value-take-le}
use Rattle.std.proofs.lemmas.Int.Digits.{digits_value_more, digits_more}
use Rattle.std.proofs.lemmas.Fmt.{digits_decimal, digits_value-decimal, decimal-digits_value, decimal_nonempty, first_decimal, decimal_step, decimal_digit, decimal_injective, length-decimal-le}
use Rattle.std.proofs.lemmas.List.Elements.{All-from_get_or}
use Rattle.std.proofs.lemmas.List.{length-append}
use Rattle.sw_models.specs.Reading.{IsNumber}

own : IsNumeralModel (AllDigits 10) (digits_value 10)
own = numerals_by_value (AllDigits 10) tells_digits

by_index : IsNumeralModel (λ ds. (i : ℕ) → i < length ds → IsInRange 48 57 (get_or ds i 0)) (digits_value 10)
by_index = numerals_by_value _ tells_by_index

-- no digit is a byte below them
pub decimal_misses : (n c : ℕ) → IsNumber n → c < 48 → All (λ b. b ≢ c) (decimal n)
decimal_misses n c fits low =
    All-from_get_or (λ b. b ≢ c) (decimal n) 0 (λ i h e. let range = digits_decimal by_index n (omega arith) i h in omega (arith, range))

pub decimal_some : (n : ℕ) → IsNumber n → 0 < length (decimal n)
decimal_some n fits = decimal_nonempty n (omega arith)

digit_below : (digits : List ℕ) (i : ℕ) → AllDigits 10 digits → i < length digits → digit_value (get_or digits i 0) < 10
digit_below [] i all h = absurd (omega arith)
digit_below (b ∷ digits) zero all h = all.0
digit_below (b ∷ digits) (suc i) all h = digit_below digits i all.1 (omega arith)

-- a number that is too large after some digits is too large after all
pub too_large : (digits : List ℕ) (i number byte : ℕ) → i < length digits → byte ≡ get_or digits i 0 → digits_value 10 (take i digits) ≡ number
    → (digit_value byte < 10 → 2 ^ 32 ≤ number * 10 + digit_value byte) → AllDigits 10 digits → 2 ^ 32 ≤ digits_value 10 digits
too_large digits i number byte h e so_far large all =
    let same : digit_value byte ≡ digit_value (get_or digits i 0) = ap digit_value e in
    let below = digit_below digits i all h in
    let big = large (omega arith) in
    omega (arith, digits_value_more 10 digits i h, digits_value-take-le 10 digits (i + 1) (omega arith))

-- one more digit
pub one_more : (digits : List ℕ) (i number byte more : ℕ) → i < length digits → byte ≡ get_or digits i 0
    → AllDigits 10 (take i digits) × (digits_value 10 (take i digits) ≡ number) × IsNumber number
    → (digit_value byte < 10) × (more ≡ number * 10 + digit_value byte) × IsNumber more
    → AllDigits 10 (take (i + 1) digits) × (digits_value 10 (take (i + 1) digits) ≡ more) × IsNumber more
one_more digits i number byte more h e so_far next =
    let same : digit_value byte ≡ digit_value (get_or digits i 0) = ap digit_value e in
    (digits_more 10 digits i h so_far.0 (omega arith), omega (arith, digits_value_more 10 digits i h), next.2)

-- a word that is no number of digits is no number
pub not_decimal : (word : List ℕ) → (AllDigits 10 word → 2 ^ 32 ≤ digits_value 10 word) → (n : ℕ) → IsNumber n → word ≢ decimal n
not_decimal word large n fits e =
    let all : AllDigits 10 word = rw e (digits_decimal own n (omega arith)) in
    let same : digits_value 10 word ≡ n = rw e (digits_value-decimal own n (omega arith)) in
    let big = large all in
    omega arith

-- a zero in front is in no number of two digits or more
pub no_zero_in_front : (word : List ℕ) → get_or word 0 0 ≡ 48 → 1 < length word → (n : ℕ) → IsNumber n → word ≢ decimal n
no_zero_in_front word front long zero fits e = omega (arith, ap length e, ap length (decimal_digit 0 (omega arith)))
no_zero_in_front word front long (suc n) fits e =
    let first = first_decimal (suc n) (omega arith) (omega arith) in
    let same : get_or word 0 0 ≡ get_or (decimal (suc n)) 0 0 = ap (λ w. get_or w 0 0) e in
    omega arith

pub no_empty : (word : List ℕ) → length word ≡ 0 → (n : ℕ) → IsNumber n → word ≢ decimal n
no_empty word none n fits e = omega (arith, ap length e, decimal_some n fits)

is_decimal : (word : List ℕ) (n : ℕ) → AllDigits 10 word → digits_value 10 word ≡ n → IsNumber n → 0 < length word → (get_or word 0 0 ≡ 48 → length word ≡ 1) → word ≡ decimal n
is_decimal word n all same fits some front =
    let e = decimal-digits_value own word all some front (rw same (omega arith)) in
    sym e ∙ ap decimal same

-- a word without a zero in front is a number exactly where its digits are one
pub match_number : (word : List ℕ) (r : Option ℕ) → 0 < length word → ((1 < length word) × (get_or word 0 0 ≡ 48) → ⊥)
    → MatchOption r (AllDigits 10 word → 2 ^ 32 ≤ digits_value 10 word) (λ n. AllDigits 10 word × (digits_value 10 word ≡ n) × IsNumber n)
    → MatchOption r ((n : ℕ) → IsNumber n → word ≢ decimal n) (λ n. (word ≡ decimal n) × IsNumber n)
match_number word None some front large = not_decimal word large
match_number word (Some n) some front is =
    (is_decimal word n is.0 is.1 is.2 some (λ zero. elim (cases_lt 1 (length word)) [ inl long ↦ absurd (front (long, zero)) | inr short ↦ omega arith ]), is.2)

-- one digit fewer
pub one_digit_less : (n : ℕ) → 10 ≤ n → IsNumber n → length (decimal n) ≡ length (decimal (n / 10)) + 1
one_digit_less n large fits =
    ap length (decimal_step n large (omega arith)) ∙ length-append (decimal (n / 10)) ((48 + n % 10) ∷ [])

pub one_digit : (n : ℕ) → n < 10 → length (decimal n) ≡ 1
one_digit n small = ap length (decimal_digit n small)

pub ten_digits : (n : ℕ) → IsNumber n → length (decimal n) ≤ 10
ten_digits n fits = length-decimal-le 10 n (omega arith) (omega arith) (omega arith)

pub same_number : (m n : ℕ) → IsNumber m → IsNumber n → decimal m ≡ decimal n → m ≡ n
same_number m n fits also e = decimal_injective m n (omega arith) (omega arith) e
