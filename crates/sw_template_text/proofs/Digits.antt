-- Number tokens are digits, and nine digits write a number below 2^32.
use Rattle.std.specs.Prelude.{◌≡◌, ℕ, zero, suc, ◌+◌, ◌-◌, ◌*◌, ◌<◌, ◌≤◌, ◌&&◌, Bool, true, false, cond, Some, List, [], ◌∷◌, length, take, get_or, Result, Ok, Err}
use Rattle.std.specs.List.{AllByRecursion, fold, list_all}
use Rattle.std.specs.Char.{is_ascii_digit}
use Rattle.std.specs.Map.{lookup}
use Rattle.std.specs.Str.{bytes_eq}
use Rattle.std.proofs.Common.{refl, arith, ap, subst, ◌∙◌, le_trans, mul-le-mul_right}
use Rattle.std.proofs.lemmas.Bool.{and_parts}
use Rattle.std.proofs.lemmas.Bool.Decides.{nat_tests}
use Rattle.sw_scan.specs.declared.Kind.{Kind}
use Rattle.sw_scan.specs.declared.Token.{Token}
use Rattle.sw_scan.specs.Spelling.{is_name, is_number, marks}
use Rattle.sw_scan.specs.Scans.{Scans, before}
use Rattle.sw_template_text.specs.Texts.{value_of_digits, bytes_at, IsKind}

-- every token of a scanned text is of its kind
abbrev pub AreKinds : List ℕ → Result (List Token) ℕ → Type 0
AreKinds text (Ok tokens) = AllByRecursion (IsKind text) tokens
AreKinds text (Err at) = Unit {0}

first_kind : (text : List ℕ) (t : Token) (r : Result (List Token) ℕ) → IsKind text t → AreKinds text r → AreKinds text (before (t ∷ []) r)
first_kind text t (Ok tokens) k rest = (k, rest)
first_kind text t (Err at) k rest = tt

pub scanned : (text : List ℕ) (at : ℕ) (r : Result (List Token) ℕ) → Scans text at r → AreKinds text r
scanned text at r (Scans.end e) = tt
scanned text at r (Scans.blank h b s) = scanned text (at + 1) r s
scanned text at r (Scans.comment next c s) = scanned text next r s
scanned text at r (Scans.token {r = rest} k n first s) = first_kind text (record { kind = k; at = at; len = n }) rest first.kind (scanned text (at + n) rest s)
scanned text at r (Scans.bad h b c d) = tt

-- what a map finds is one of its values
found : {X Y : Type 0} (P : Y → Type 0) (p : X → Bool) (xs : List (X × Y)) (y : Y) → AllByRecursion (λ m. P m.1) xs → lookup p xs ≡ Some y → P y
found P p [] y all e = absurd (cc)
found {X} {Y} P p (m ∷ xs) y all e = picked (p m.0) (found P p xs y all.1) e
  where
    picked : (b : Bool) → (lookup p xs ≡ Some y → P y) → cond b (Some m.1) (lookup p xs) ≡ Some y → P y
    picked true later e = subst P (let same : m.1 ≡ y = cc in same) all.0
    picked false later e = later e

no_mark : (bytes : List ℕ) → lookup (bytes_eq bytes) marks ≡ Some Kind.Number → ⊥
no_mark bytes e = found (λ k. k ≡ Kind.Number → ⊥) (bytes_eq bytes) marks Kind.Number ((λ e. cc), ((λ e. cc), ((λ e. cc), ((λ e. cc), ((λ e. cc), ((λ e. cc), ((λ e. cc), ((λ e. cc), ((λ e. cc), ((λ e. cc), ((λ e. cc), ((λ e. cc), ((λ e. cc), ((λ e. cc), tt)))))))))))))) e refl

number_of : (bytes : List ℕ) (name number : Bool) → cond name (Some Kind.Name) (cond number (Some Kind.Number) (lookup (bytes_eq bytes) marks)) ≡ Some Kind.Number → number ≡ true
number_of bytes true number e = cc
number_of bytes false true e = refl
number_of bytes false false e = absurd (no_mark bytes e)

all_digits : (bytes : List ℕ) → is_number bytes ≡ true → list_all is_ascii_digit bytes ≡ true
all_digits [] e = refl
all_digits (b ∷ bytes) e = e

pub digits_of : (text : List ℕ) (t : Token) → t.kind ≡ Kind.Number → IsKind text t → list_all is_ascii_digit (bytes_at text t.at t.len) ≡ true
digits_of text t e k =
    all_digits (bytes_at text t.at t.len) (number_of (bytes_at text t.at t.len) (is_name (bytes_at text t.at t.len)) (is_number (bytes_at text t.at t.len)) (k ∙ ap Some e))

-- powers of ten
abbrev tens : ℕ → ℕ
tens zero = 1
tens (suc n) = 10 * tens n

tens_rise : (m n : ℕ) → n ≤ m → tens n ≤ tens m
tens_rise zero zero h = omega arith
tens_rise zero (suc n) h = absurd (omega (arith, h))
tens_rise (suc m) zero h = let least : 1 ≤ tens m = tens_rise m zero (omega arith) in omega (arith, least)
tens_rise (suc m) (suc n) h = let rest : tens n ≤ tens m = tens_rise m n (omega (arith, h)) in omega (arith, rest)

pub nine : (d : ℕ) → is_ascii_digit d ≡ true → (48 ≤ d) × (d ≤ 57)
nine d e = (grind (arith, nat_tests), grind (arith, nat_tests))

grows : (a : ℕ) (ds : List ℕ) → list_all is_ascii_digit ds ≡ true → fold (λ n d. n * 10 + (d - 48)) a ds + 1 ≤ (a + 1) * tens (length ds)
grows a [] e = let one : a + 1 ≤ (a + 1) * 1 = omega arith in one
grows a (d ∷ ds) e =
    let parts = and_parts (is_ascii_digit d) (list_all is_ascii_digit ds) e in
    let range = nine d parts.0 in
    let step : a * 10 + (d - 48) + 1 ≤ (a + 1) * 10 = omega (arith, range.0, range.1) in
    le_trans (grows (a * 10 + (d - 48)) ds parts.1) (times (a * 10 + (d - 48) + 1) (a + 1) (tens (length ds)) step)
  where
    times : (x y t : ℕ) → x ≤ y * 10 → x * t ≤ y * (10 * t)
    times x y t h = let more : x * t ≤ (y * 10) * t = mul-le-mul_right t h in omega (arith, more)

taken_digits : (n : ℕ) (ds : List ℕ) → list_all is_ascii_digit ds ≡ true → list_all is_ascii_digit (take n ds) ≡ true
taken_digits zero ds e = refl
taken_digits (suc n) [] e = refl
taken_digits (suc n) (d ∷ ds) e = let parts = and_parts (is_ascii_digit d) (list_all is_ascii_digit ds) e in ap (λ b. b && list_all is_ascii_digit (take n ds)) parts.0 ∙ taken_digits n ds parts.1

taken_few : (n : ℕ) (ds : List ℕ) → length (take n ds) ≤ n
taken_few zero ds = omega arith
taken_few (suc n) [] = omega arith
taken_few (suc n) (d ∷ ds) = let rest : length (take n ds) ≤ n = taken_few n ds in omega (arith, rest)

-- before its ninth digit a number is below 100,000,000
pub small : (ds : List ℕ) (i value : ℕ) → list_all is_ascii_digit ds ≡ true → length ds ≤ 9 → i < length ds → value ≡ value_of_digits (take i ds) → value < 100000000
small ds i value e few h is =
    let most : value_of_digits (take i ds) + 1 ≤ 1 * tens (length (take i ds)) = grows 0 (take i ds) (taken_digits i ds e) in
    let size : length (take i ds) ≤ i = taken_few i ds in
    let power : tens (length (take i ds)) ≤ tens 8 = tens_rise 8 (length (take i ds)) (omega (arith, size, h, few)) in
    let last : tens 8 ≡ 100000000 = refl in
    omega (arith, most, power, last, is)

pub digit_at : (ds : List ℕ) (i d : ℕ) → list_all is_ascii_digit ds ≡ true → i < length ds → is_ascii_digit (get_or ds i d) ≡ true
digit_at [] i d e h = absurd (omega (arith, h))
digit_at (x ∷ ds) zero d e h = (and_parts (is_ascii_digit x) (list_all is_ascii_digit ds) e).0
digit_at (x ∷ ds) (suc i) d e h = digit_at ds i d (and_parts (is_ascii_digit x) (list_all is_ascii_digit ds) e).1 (omega (arith, h))
