-- Which bytes are a token, and where the longest one ends.
use Rattle.std.specs.Prelude.{◌≡◌, ℕ, ◌<◌, ◌≤◌, Bool, false, ◌||◌, ◌&&◌, ◌==◌, List, [], ◌∷◌, length, take, Option, Some, None, if◌then◌else◌, codes}
use Rattle.std.specs.List.{list_all}
use Rattle.std.specs.Char.{is_ascii_alphabetic, is_ascii_digit}
use Rattle.std.specs.Map.{lookup}
use Rattle.std.specs.Str.{bytes_eq}
use Rattle.sw_scan.specs.declared.Kind.{Kind}

-- a space, a tab, a carriage return or a line feed
abbrev pub is_blank : ℕ → Bool
is_blank b = b == 32 || b == 9 || b == 13 || b == 10

-- a letter or an underscore
abbrev pub begins_name : ℕ → Bool
begins_name b = is_ascii_alphabetic b || b == 95

-- a letter, an underscore or a digit
abbrev pub continues_name : ℕ → Bool
continues_name b = begins_name b || is_ascii_digit b

-- a byte that begins a name, and then bytes that continue one
abbrev pub is_name : List ℕ → Bool
is_name [] = false
is_name (b ∷ bs) = begins_name b && list_all continues_name bs

-- one or more digits
abbrev pub is_number : List ℕ → Bool
is_number [] = false
is_number (b ∷ bs) = is_ascii_digit b && list_all is_ascii_digit bs

-- how each mark is spelled
abbrev pub marks : List (List ℕ × Kind)
marks =
    (codes "(", Kind.LeftRound)
    ∷ (codes ")", Kind.RightRound)
    ∷ (codes ",", Kind.Comma)
    ∷ (codes ":", Kind.Colon)
    ∷ (codes ";", Kind.Semicolon)
    ∷ (codes ".", Kind.Dot)
    ∷ (codes "'", Kind.Prime)
    ∷ (codes "=", Kind.Equal)
    ∷ (codes "!=", Kind.NotEqual)
    ∷ (codes "!", Kind.Not)
    ∷ (codes "&", Kind.And)
    ∷ (codes "|", Kind.Or)
    ∷ (codes "->", Kind.Arrow)
    ∷ (codes "<->", Kind.DoubleArrow)
    ∷ []

-- the kind of the token that these bytes are, if they are one
abbrev pub kind_of : List ℕ → Option Kind
kind_of bs =
    if is_name bs then Some Kind.Name
    else (if is_number bs then Some Kind.Number else lookup (bytes_eq bs) marks)

-- the first n bytes are a token of this kind, and no more of them are a token
pub record IsFirst (rest : List ℕ) (k : Kind) (n : ℕ) : Type 0 where
  pub nonempty : 0 < n
  pub fits : n ≤ length rest
  pub kind : kind_of (take n rest) ≡ Some k
  pub longest : (m : ℕ) → n < m → m ≤ length rest → kind_of (take m rest) ≡ None

-- no token begins here
abbrev pub BeginsNone : List ℕ → Type 0
BeginsNone rest = (m : ℕ) → kind_of (take m rest) ≡ None
