-- Numbers with spaces between them, and bits.
use Rattle.std.proofs.Common.{◌≡◌, ◌≢◌, ℕ, zero, suc, ◌+◌, ◌<◌, Bool, true, false, nat_eq, List, [], ◌∷◌, ◌++◌, length, map, take, get_or, All, refl, arith, append-nil, ◌∙◌, ap, sym, subst}
use Rattle.std.specs.Fmt.{decimal}
use Rattle.std.specs.List.{join_with_byte, slice_split}
use Rattle.std.proofs.lemmas.List.Splits.{slice_split_none, slice_split_at, join_with_byte-slice_split, length-slice_split}
use Rattle.std.proofs.lemmas.List.Elements.{All-weaker, All-head, All-tail, All-nil, All-cons, All-append, All-push}
use Rattle.std.proofs.lemmas.Bool.{false_from_ne_true, eqb-true}
use Rattle.std.proofs.lemmas.List.{length-map, get_or-map, map_push, take_more, take_all}
use Rattle.sw_models.specs.Text.{values_text, bit_digit, others_text}
use Rattle.sw_models.specs.Reading.{IsNumber}
use Rattle.sw_models.proofs.Numbers.{decimal_misses, same_number}

abbrev pub words : List ℕ → List (List ℕ)
words body = slice_split (λ b. nat_eq b 32) body

values_text-join : (values : List ℕ) → values_text values ≡ join_with_byte 32 (map decimal values)
values_text-join [] = refl
values_text-join (v ∷ []) = append-nil (decimal v)
values_text-join (v ∷ (w ∷ values)) = ap (λ x. decimal v ++ 32 ∷ x) (values_text-join (w ∷ values))

no_space : (v : ℕ) → IsNumber v → All (λ b. nat_eq b 32 ≡ false) (decimal v)
no_space v fits =
    All-weaker (λ b. b ≢ 32) (λ b. nat_eq b 32 ≡ false) (λ b differs. false_from_ne_true (nat_eq b 32) (λ e. differs (eqb-true b 32 e)))
    (decimal v) (decimal_misses v 32 fits (omega arith))

-- the words of numbers are those numbers
pub words_values : (v : ℕ) (values : List ℕ) → All IsNumber (v ∷ values) → words (values_text (v ∷ values)) ≡ map decimal (v ∷ values)
words_values v [] all =
    ap words (append-nil (decimal v)) ∙ slice_split_none (λ b. nat_eq b 32) (decimal v) (no_space v (All-head IsNumber v [] all))
words_values v (w ∷ values) all =
    slice_split_at (λ b. nat_eq b 32) (decimal v) 32 (values_text (w ∷ values)) (no_space v (All-head IsNumber v (w ∷ values) all)) refl
    ∙ ap (λ x. decimal v ∷ x) (words_values w values (All-tail IsNumber v (w ∷ values) all))

-- numbers whose writings are the words of a body are that body
pub values_from_words : (body values : List ℕ) → map decimal values ≡ words body → body ≡ values_text values
values_from_words body values e =
    sym (join_with_byte-slice_split 32 body) ∙ ap (join_with_byte 32) (sym e) ∙ sym (values_text-join values)

-- one more word that is a number
pub one_more_value : (body values next : List ℕ) (k v : ℕ) (word : List ℕ) → next ≡ values ++ v ∷ [] → (map decimal values ≡ take k (words body)) × All IsNumber values
    → k < length (words body) → word ≡ get_or (words body) k word → (word ≡ decimal v) × IsNumber v
    → (map decimal next ≡ take (k + 1) (words body)) × All IsNumber next
one_more_value body values next k v word more so_far h e is =
    let front : map decimal values ≡ take k (words body) = so_far.0 in
    let last : decimal v ≡ get_or (words body) k word = sym is.0 ∙ e in
    let P : List ℕ → Type 0 = λ l. All IsNumber l in (
      ap (map decimal) more ∙ map_push decimal values v ∙ ap (λ l. l ++ decimal v ∷ []) front ∙ ap (λ w. take k (words body) ++ w ∷ []) last
          ∙ sym (take_more (words body) k word h),
      subst P (sym more) (All-push IsNumber values v so_far.1 is.1),
    )

pub values_some : (body values : List ℕ) → map decimal values ≡ words body → values ≢ []
values_some body values e none =
    let f : map decimal values ≡ [] = ap (map decimal) none in
    omega (arith, length-slice_split (λ b. nat_eq b 32) body, ap length (sym e ∙ f))

-- all words are numbers
pub all_values : (body values : List ℕ) (k : ℕ) → (map decimal values ≡ take k (words body)) × All IsNumber values → k ≡ length (words body)
    → (values ≢ []) × All IsNumber values × (body ≡ values_text values)
all_values body values k so_far end =
    let whole : map decimal values ≡ words body = so_far.0 ∙ ap (λ n. take n (words body)) end ∙ take_all (length (words body)) (words body) (omega arith) in
    (values_some body values whole, so_far.1, values_from_words body values whole)

-- where a word is no number, the body is no numbers
pub no_values : (body : List ℕ) (k : ℕ) (word : List ℕ) → k < length (words body) → word ≡ get_or (words body) k word → ((n : ℕ) → IsNumber n → word ≢ decimal n)
    → (values : List ℕ) → values ≢ [] → All IsNumber values → body ≢ values_text values
no_values body k word h e not [] some all f = some refl
no_values body k word h e not (v ∷ values) some all f =
    let same : words body ≡ map decimal (v ∷ values) = ap words f ∙ words_values v values all in
    let less : k < length (v ∷ values) = omega (arith, ap length same, length-map (v ∷ values) decimal) in
    not (get_or (v ∷ values) k 0) (all k 0 less)
    (e ∙ ap (λ l. get_or l k word) same ∙ get_or-map decimal (v ∷ values) k 0 word less)

-- a byte that is no bit
pub no_bits : (body : List ℕ) (i byte : ℕ) → i < length body → byte ≡ get_or body i 0 → ((bit : Bool) → byte ≢ bit_digit bit) → (bits : List Bool) → body ≢ map bit_digit bits
no_bits [] i byte h e not bits f = absurd (omega arith)
no_bits (x ∷ body) i byte h e not [] f = cc
no_bits (x ∷ body) zero byte h e not (bit ∷ bits) f = let g : x ≡ bit_digit bit = cc in not bit (e ∙ g)
no_bits (x ∷ body) (suc i) byte h e not (bit ∷ bits) f = no_bits body i byte (omega arith) e not bits cc

-- where there are numbers, no byte is one below all digits, other than the space
pub values_miss : (v : ℕ) (values : List ℕ) (c : ℕ) → All IsNumber (v ∷ values) → c < 48 → c ≢ 32 → All (λ b. b ≢ c) (values_text (v ∷ values))
values_miss v values c all low other =
    All-append (λ b. b ≢ c) (decimal v) (others_text values) (decimal_misses v c (All-head IsNumber v values all) low)
    (others_miss values c (All-tail IsNumber v values all) low other)
  where
    others_miss : (values : List ℕ) (c : ℕ) → All IsNumber values → c < 48 → c ≢ 32 → All (λ b. b ≢ c) (others_text values)
    others_miss [] c all low other = All-nil (λ b. b ≢ c)
    others_miss (v ∷ values) c all low other =
        All-cons (λ b. b ≢ c) 32 (decimal v ++ others_text values) (λ e. other (sym e))
        (All-append (λ b. b ≢ c) (decimal v) (others_text values) (decimal_misses v c (All-head IsNumber v values all) low)
        (others_miss values c (All-tail IsNumber v values all) low other))

pub bits_miss : (bits : List Bool) (c : ℕ) → c < 48 → All (λ b. b ≢ c) (map bit_digit bits)
bits_miss [] c low = All-nil (λ b. b ≢ c)
bits_miss (true ∷ bits) c low = All-cons (λ b. b ≢ c) 49 (map bit_digit bits) (λ e. omega arith) (bits_miss bits c low)
bits_miss (false ∷ bits) c low = All-cons (λ b. b ≢ c) 48 (map bit_digit bits) (λ e. omega arith) (bits_miss bits c low)

-- numbers and bits are told by their text
pub same_values : (values others : List ℕ) → values ≢ [] → others ≢ [] → All IsNumber values → All IsNumber others → values_text values ≡ values_text others → values ≡ others
same_values [] others some more all every e = absurd (some refl)
same_values (v ∷ values) [] some more all every e = absurd (more refl)
same_values (v ∷ values) (w ∷ others) some more all every e =
    same_decimals (v ∷ values) (w ∷ others) all every (sym (words_values v values all) ∙ ap words e ∙ words_values w others every)
  where
    same_decimals : (values others : List ℕ) → All IsNumber values → All IsNumber others → map decimal values ≡ map decimal others → values ≡ others
    same_decimals [] [] all every e = refl
    same_decimals [] (w ∷ others) all every e = cc
    same_decimals (v ∷ values) [] all every e = cc
    same_decimals (v ∷ values) (w ∷ others) all every e =
        let first : decimal v ≡ decimal w = cc in
        let rest : map decimal values ≡ map decimal others = cc in
        let f : v ≡ w = same_number v w (All-head IsNumber v values all) (All-head IsNumber w others every) first in
        let g : values ≡ others = same_decimals values others (All-tail IsNumber v values all) (All-tail IsNumber w others every) rest in
        cc

pub same_bits : (bits others : List Bool) → map bit_digit bits ≡ map bit_digit others → bits ≡ others
same_bits [] [] e = refl
same_bits [] (c ∷ others) e = cc
same_bits (b ∷ bits) [] e = cc
same_bits (b ∷ bits) (c ∷ others) e =
    let first : bit_digit b ≡ bit_digit c = cc in
    let rest : map bit_digit bits ≡ map bit_digit others = cc in
    let f : b ≡ c = same_bit b c first in
    let g : bits ≡ others = same_bits bits others rest in
    cc
  where
    same_bit : (b c : Bool) → bit_digit b ≡ bit_digit c → b ≡ c
    same_bit true true e = refl
    same_bit true false e = absurd (omega arith)
    same_bit false true e = absurd (omega arith)
    same_bit false false e = refl
