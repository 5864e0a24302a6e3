-- The first `=` of a text.
use Rattle.std.specs.Prelude.{◌≡◌, ◌+◌, ◌-◌, ℕ, Bool, true, false, not, ◌&&◌, ◌||◌, [], ◌∷◌, length, take, drop, Some, None, nat_lt}
use Rattle.std.specs.List.{list_all, list_any, position, position_or_len, after_first}
use Rattle.std.proofs.Common.{suc, refl, sym, ap, ◌∙◌, cond, inl, inr, arith, lt-ltb, le-ltb, length-drop}
use Rattle.std.proofs.lemmas.List.{take_all}
use Rattle.std.proofs.lemmas.Bool.{cases_lt}
use Rattle.sw_words.specs.Grammar.{Word, is_fit, is_value, is_equals, option_pieces}

lt_suc : (m n : ℕ) → nat_lt m n ≡ nat_lt (1 + m) (suc n)
lt_suc m n = elim (cases_lt m n) [
  | inl below ↦ lt-ltb m n below ∙ sym (lt-ltb (1 + m) (suc n) (omega arith))
  | inr above ↦ le-ltb m n above ∙ sym (le-ltb (1 + m) (suc n) (omega arith))
]

-- some byte passes exactly where the first that does stands within the text
any_within : (text : Word) → list_any is_equals text ≡ nat_lt (position_or_len is_equals text) (length text)
any_within [] = refl
any_within (b ∷ rest) = go (is_equals b) (any_within rest)
  where
    go : (x : Bool) → list_any is_equals rest ≡ nat_lt (position_or_len is_equals rest) (length rest)
        → (x || list_any is_equals rest) ≡ nat_lt (cond (not x) (1 + position_or_len is_equals rest) 0) (suc (length rest))
    go true later = sym (lt-ltb 0 (suc (length rest)) (omega arith))
    go false later = later ∙ lt_suc (position_or_len is_equals rest) (length rest)

rest_of : (text : Word) (n : ℕ) → take (length text - n) (drop n text) ≡ drop n text
rest_of text n = take_all (length text - n) (drop n text) (omega (arith, length-drop n text))

and_true : (x : Bool) → x ≡ x && true
and_true true = refl
and_true false = refl

-- what stands behind the first `=` decides
pub fits_behind : (text : Word) (at : ℕ) (r : Bool) → position is_equals text ≡ Some at → r ≡ is_value (take (length text - (at + 1)) (drop (at + 1) text))
    → r ≡ list_all is_fit (option_pieces text)
fits_behind text at r is behind = go (nat_lt (position_or_len is_equals text) (length text)) refl
  where
    go : (x : Bool) → nat_lt (position_or_len is_equals text) (length text) ≡ x → r ≡ list_all is_fit (option_pieces text)
    go false none = let bad : None ≡ Some at = rw none at is in absurd cc
    go true some =
        let first : Some (position_or_len is_equals text) ≡ Some at = rw some at is in
        let here : position_or_len is_equals text ≡ at = cc in
        let any : list_any is_equals text ≡ true = any_within text ∙ some in
        behind ∙ (ap is_value (rest_of text (at + 1) ∙ ap (λ n. drop (n + 1) text) (sym here)) ∙ (and_true (is_value (after_first is_equals text)) ∙ sym (rw any refl)))

pub fits_without : (text : Word) → position is_equals text ≡ None → true ≡ list_all is_fit (option_pieces text)
fits_without text is = go (nat_lt (position_or_len is_equals text) (length text)) refl
  where
    go : (x : Bool) → nat_lt (position_or_len is_equals text) (length text) ≡ x → true ≡ list_all is_fit (option_pieces text)
    go true some = let bad : Some (position_or_len is_equals text) ≡ None = rw some at is in absurd cc
    go false none = let any : list_any is_equals text ≡ false = any_within text ∙ none in rw any refl
