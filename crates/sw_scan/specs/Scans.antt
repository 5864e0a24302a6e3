-- How a text is cut into tokens.
use Rattle.std.specs.Prelude.{◌≡◌, ◌≢◌, ℕ, ◌+◌, ◌<◌, ◌≤◌, IsTrue, List, [], ◌∷◌, ◌++◌, length, drop, Option, Some, None, Result, Ok, Err, slice_index}
use Rattle.std.specs.Global.{Vec}
use Rattle.sw_scan.specs.declared.Kind.{Kind}
use Rattle.sw_scan.specs.declared.Token.{Token}
use Rattle.sw_scan.specs.declared.ScanError.{ScanError}
use Rattle.sw_scan.specs.Spelling.{is_blank, IsFirst, BeginsNone}

-- from the sign # to the next line feed, or to the end
pub record IsComment (text : List ℕ) (at next : ℕ) : Type 0 where
  pub begins : slice_index text at ≡ 35
  pub later : at < next
  pub fits : next ≤ length text
  pub one_line : (k : ℕ) → at < k → k < next → slice_index text k ≢ 10
  pub ends : next < length text → slice_index text next ≡ 10

-- these tokens, and then what follows them
abbrev pub before : List Token → Result (List Token) ℕ → Result (List Token) ℕ
before front (Ok rest) = Ok (front ++ rest)
before front (Err at) = Err at

-- from this place on the text has these tokens, or at this place a byte that begins none
pub data Scans (text : List ℕ) : ℕ → Result (List Token) ℕ → Type 0 where
  end : {at : ℕ} → at ≡ length text → Scans text at (Ok [])
  blank : {at : ℕ} {r : Result (List Token) ℕ} → at < length text → IsTrue (is_blank (slice_index text at)) → Scans text (at + 1) r → Scans text at r
  comment : {at : ℕ} {r : Result (List Token) ℕ} (next : ℕ) → IsComment text at next → Scans text next r → Scans text at r
  token : {at : ℕ} {r : Result (List Token) ℕ} (k : Kind) (n : ℕ) → IsFirst (drop at text) k n → Scans text (at + n) r → Scans text at (before (record { kind = k; at = at; len = n } ∷ []) r)
  bad : {at : ℕ} → at < length text → ¬ (IsTrue (is_blank (slice_index text at))) → slice_index text at ≢ 35 → BeginsNone (drop at text) → Scans text at (Err at)

-- what an answer says of the text; want of memory says nothing
abbrev pub answer_of : Result (Vec Token) ScanError → Option (Result (List Token) ℕ)
answer_of (Ok tokens) = Some (Ok tokens.items)
answer_of (Err (ScanError.BadByte at)) = Some (Err at)
answer_of (Err ScanError.Memory) = None

-- a token lies in the text and has at least one byte
pub record IsWithin (text : List ℕ) (t : Token) : Type 0 where
  pub nonempty : 0 < t.len
  pub fits : t.at + t.len ≤ length text

-- a text is cut in one way
abbrev pub OneScan : Type 0
OneScan =
    (text : List ℕ) (at : ℕ) (r s : Result (List Token) ℕ) → Scans text at r → Scans text at s → r ≡ s
