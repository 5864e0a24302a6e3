-- The longest token at the front of some bytes, by its kind.
use Rattle.std.proofs.Common.{◌≡◌, ◌≢◌, ℕ, ◌+◌, ◌-◌, ◌<◌, ◌≤◌, zero, suc, Bool, true, false, not, ◌&&◌, cond, nat_eq, List, [], ◌∷◌, ◌++◌, length, take, Option, Some, None, refl, sym, ◌∙◌, ap, subst, inl, inr, arith}
use Rattle.std.specs.List.{list_all, prefix_len, starts_with}
use Rattle.std.specs.Char.{is_ascii_digit}
use Rattle.std.specs.Map.{lookup}
use Rattle.std.specs.Str.{bytes_eq}
use Rattle.std.proofs.lemmas.Bool.{and_cases, and_parts, cases_Bool, false_from_ne_true, true_from_ne_false, eqb-true}
use Rattle.std.proofs.Math.Seq.{take-append_seam, take-append-add}
use Rattle.std.proofs.lemmas.List.{length-append}
use Rattle.std.proofs.lemmas.Bool.Decides.{nat_tests}
use Rattle.sw_scan.specs.declared.Kind.{Kind}
use Rattle.sw_scan.specs.Spelling.{begins_name, continues_name, marks, kind_of, IsFirst, BeginsNone}
use Rattle.sw_scan.proofs.Runs.{run_first}

and-false : (x : Bool) → (x && false) ≡ false
and-false true = refl
and-false false = refl

-- a kind that is no name and no number
abbrev is_mark : Kind → Bool
is_mark Kind.Name = false
is_mark Kind.Number = false
is_mark k = true

lookup-mark_at : (test : List ℕ → Bool) (text : List ℕ) (k j : Kind) (rest : Option Kind) (b : Bool) → is_mark k ≡ true → (rest ≡ Some j → is_mark j ≡ true) → cond b (Some k) rest ≡ Some j → is_mark j ≡ true
lookup-mark_at test text k j rest true mark ih found = let e : k ≡ j = cc in rw (← e) mark
lookup-mark_at test text k j rest false mark ih found = ih found

-- what a table of marks has is a mark
lookup-mark : (test : List ℕ → Bool) (es : List (List ℕ × Kind)) (j : Kind) → list_all (λ e. is_mark e.1) es ≡ true → lookup test es ≡ Some j → is_mark j ≡ true
lookup-mark test [] j all found = cc
lookup-mark test (e ∷ es) j all found =
    let parts = and_parts (is_mark e.1) (list_all (λ d. is_mark d.1) es) all in
    lookup-mark_at test e.0 e.1 j (lookup test es) (test e.0) parts.0 (lookup-mark test es j parts.1) found

-- a byte that passes a test is none that fails it
differs : (p : ℕ → Bool) (b n : ℕ) → p b ≡ true → p n ≡ false → nat_eq b n ≡ false
differs p b n passes fails =
    false_from_ne_true _ (λ same. let e : b ≡ n = eqb-true b n same in let f : p b ≡ p n = ap p e in cc)

-- a text whose first byte, if it has one, fails the test
abbrev misses : (ℕ → Bool) → List ℕ → Bool
misses p [] = true
misses p (n ∷ ns) = not (p n)

misses_eq : (p : ℕ → Bool) (b : ℕ) (bs text : List ℕ) → p b ≡ true → misses p text ≡ true → bytes_eq (b ∷ bs) text ≡ false
misses_eq p b bs [] passes missed = refl
misses_eq p b bs (n ∷ ns) passes missed =
    let fails : p n ≡ false = grind arith in rw (differs p b n passes fails) refl

-- what begins with a byte that passes is none of the texts that begin otherwise
pub lookup-misses : (p : ℕ → Bool) (b : ℕ) (bs : List ℕ) (es : List (List ℕ × Kind)) → p b ≡ true → list_all (λ e. misses p e.0) es ≡ true → lookup (bytes_eq (b ∷ bs)) es ≡ None
lookup-misses p b bs [] passes all = refl
lookup-misses p b bs (e ∷ es) passes all =
    let parts = and_parts (misses p e.0) (list_all (λ d. misses p d.0) es) all in
    rw (misses_eq p b bs e.0 passes parts.0) (lookup-misses p b bs es passes parts.1)

not_both : (b : ℕ) → begins_name b ≡ true → is_ascii_digit b ≡ false
not_both b begins = grind (arith, nat_tests)

begins_continues : (b : ℕ) → begins_name b ≡ true → continues_name b ≡ true
begins_continues b begins = rw begins refl

digit_continues : (b : ℕ) → begins_name b ≡ false → is_ascii_digit b ≡ true → continues_name b ≡ true
digit_continues b begins digit = rw (begins, digit) refl

name_first : (b : ℕ) (later : List ℕ) → begins_name b ≡ true → IsFirst (b ∷ later) Kind.Name (1 + prefix_len continues_name later)
name_first b later begins =
    run_first continues_name Kind.Name b later (λ bs all. rw (begins, all) refl)
    (λ bs all. rw (begins, all, not_both b begins) (lookup-misses continues_name b bs marks (begins_continues b begins) refl))

number_first : (b : ℕ) (later : List ℕ) → begins_name b ≡ false → is_ascii_digit b ≡ true → IsFirst (b ∷ later) Kind.Number (1 + prefix_len is_ascii_digit later)
number_first b later begins digit =
    run_first is_ascii_digit Kind.Number b later (λ bs all. rw (begins, digit, all) refl)
    (λ bs all. rw (begins, digit, all) (lookup-misses continues_name b bs marks (digit_continues b begins digit) refl))

-- where the bytes do not start with a text, no front of them is that text
front_differs : (text bs : List ℕ) (m : ℕ) → starts_with nat_eq bs text ≡ false → bytes_eq (take m bs) text ≡ false
front_differs [] bs m fails = cc
front_differs (n ∷ ns) [] zero fails = refl
front_differs (n ∷ ns) [] (suc m) fails = refl
front_differs (n ∷ ns) (b ∷ bs) zero fails = refl
front_differs (n ∷ ns) (b ∷ bs) (suc m) fails =
    elim (and_cases (nat_eq n b) (starts_with nat_eq bs ns) fails) [
      | inl other ↦ let differ : nat_eq b n ≡ false = grind (arith, nat_tests) in rw differ refl
      | inr later ↦ rw (front_differs ns bs m later) (and-false (nat_eq b n))
    ]

-- these bytes start with no mark of more than one byte
pub record HasNoLong (bs : List ℕ) : Type 0 where
  pub not_equal : starts_with nat_eq bs (33 ∷ 61 ∷ []) ≡ false
  pub arrow : starts_with nat_eq bs (45 ∷ 62 ∷ []) ≡ false
  pub double : starts_with nat_eq bs (60 ∷ 45 ∷ 62 ∷ []) ≡ false

-- then no two bytes or more at the front are a token
two_none : (b c : ℕ) (cs : List ℕ) (m : ℕ) → begins_name b ≡ false → is_ascii_digit b ≡ false → HasNoLong (b ∷ c ∷ cs) → kind_of (take (suc (suc m)) (b ∷ c ∷ cs)) ≡ None
two_none b c cs m begins digit long =
    let e1 = front_differs (33 ∷ 61 ∷ []) (b ∷ c ∷ cs) (suc (suc m)) long.not_equal in
    let e2 = front_differs (45 ∷ 62 ∷ []) (b ∷ c ∷ cs) (suc (suc m)) long.arrow in
    let e3 = front_differs (60 ∷ 45 ∷ 62 ∷ []) (b ∷ c ∷ cs) (suc (suc m)) long.double in
    simp (begins, digit, and-false, e1, e2, e3)

no_longer : (b : ℕ) (later : List ℕ) (m : ℕ) → begins_name b ≡ false → is_ascii_digit b ≡ false → HasNoLong (b ∷ later) → 1 < m → m ≤ length (b ∷ later) → kind_of (take m (b ∷ later)) ≡ None
no_longer b later zero begins digit long more within = absurd (omega arith)
no_longer b later (suc zero) begins digit long more within = absurd (omega arith)
no_longer b [] (suc (suc m)) begins digit long more within = absurd (omega arith)
no_longer b (c ∷ cs) (suc (suc m)) begins digit long more within =
    two_none b c cs m begins digit long

mark_first : (b : ℕ) (later : List ℕ) (k : Kind) → begins_name b ≡ false → is_ascii_digit b ≡ false → HasNoLong (b ∷ later) → kind_of (b ∷ []) ≡ Some k → IsFirst (b ∷ later) k 1
mark_first b later k begins digit long kind = record {
  nonempty = omega arith;
  fits = omega arith;
  kind = kind;
  longest = λ m more within. no_longer b later m begins digit long more within;
}

none_first : (b : ℕ) (later : List ℕ) → begins_name b ≡ false → is_ascii_digit b ≡ false → HasNoLong (b ∷ later) → kind_of (b ∷ []) ≡ None → BeginsNone (b ∷ later)
none_first b later begins digit long none zero = refl
none_first b later begins digit long none (suc zero) = none
none_first b [] begins digit long none (suc (suc m)) = none
none_first b (c ∷ cs) begins digit long none (suc (suc m)) =
    two_none b c cs m begins digit long

-- what the kind of a single byte tells of it
begins_by_kind : (b : ℕ) → kind_of (b ∷ []) ≡ Some Kind.Name → begins_name b ≡ true
begins_by_kind b kind =
    true_from_ne_false (begins_name b) (λ begins.
    elim (cases_Bool (is_ascii_digit b)) [
      | inl digit ↦ let e : Some Kind.Number ≡ Some Kind.Name = rw (begins, digit) at kind in cc
      | inr digit ↦ let found = rw (begins, digit) at kind in let e : false ≡ true = lookup-mark (bytes_eq (b ∷ [])) marks Kind.Name refl found in cc
    ])

begins_not_by_kind : (b : ℕ) → kind_of (b ∷ []) ≢ Some Kind.Name → begins_name b ≡ false
begins_not_by_kind b kind = false_from_ne_true _ (λ begins. kind (rw begins refl))

digit_by_kind : (b : ℕ) → kind_of (b ∷ []) ≡ Some Kind.Number → is_ascii_digit b ≡ true
digit_by_kind b kind =
    true_from_ne_false _ (λ digit.
    let begins : begins_name b ≡ false = begins_not_by_kind b (λ name. cc) in
    let found = rw (begins, digit) at kind in
    let e : false ≡ true = lookup-mark (bytes_eq (b ∷ [])) marks Kind.Number refl found in cc)

digit_not_by_kind : (b : ℕ) → begins_name b ≡ false → kind_of (b ∷ []) ≢ Some Kind.Number → is_ascii_digit b ≡ false
digit_not_by_kind b begins kind = false_from_ne_true _ (λ digit. kind (rw (begins, digit) refl))

-- the token at the front, by the kind of its first byte alone
pub name_by_kind : (b : ℕ) (later : List ℕ) → kind_of (b ∷ []) ≡ Some Kind.Name → IsFirst (b ∷ later) Kind.Name (1 + prefix_len continues_name later)
name_by_kind b later kind = name_first b later (begins_by_kind b kind)

pub number_by_kind : (b : ℕ) (later : List ℕ) → kind_of (b ∷ []) ≡ Some Kind.Number → IsFirst (b ∷ later) Kind.Number (1 + prefix_len is_ascii_digit later)
number_by_kind b later kind =
    number_first b later (begins_not_by_kind b (λ name. let e : Some Kind.Number ≡ Some Kind.Name = sym kind ∙ name in cc)) (digit_by_kind b kind)

pub mark_by_kind : (b : ℕ) (later : List ℕ) (k : Kind) → k ≢ Kind.Name → k ≢ Kind.Number → HasNoLong (b ∷ later) → kind_of (b ∷ []) ≡ Some k → IsFirst (b ∷ later) k 1
mark_by_kind b later k not_name not_number long kind =
    let begins : begins_name b ≡ false = begins_not_by_kind b (λ name. let e : Some k ≡ Some Kind.Name = sym kind ∙ name in not_name cc) in
    let digit : is_ascii_digit b ≡ false = digit_not_by_kind b begins (λ number. let e : Some k ≡ Some Kind.Number = sym kind ∙ number in not_number cc) in
    mark_first b later k begins digit long kind

pub none_by_kind : (b : ℕ) (later : List ℕ) → HasNoLong (b ∷ later) → kind_of (b ∷ []) ≡ None → BeginsNone (b ∷ later)
none_by_kind b later long kind =
    let begins : begins_name b ≡ false = begins_not_by_kind b (λ name. let e : None ≡ Some Kind.Name = sym kind ∙ name in cc) in
    let digit : is_ascii_digit b ≡ false = digit_not_by_kind b begins (λ number. let e : None ≡ Some Kind.Number = sym kind ∙ number in cc) in
    none_first b later begins digit long kind

-- bytes that start with a text are that text and what is left
starts_split : (text bs : List ℕ) → starts_with nat_eq bs text ≡ true → (rest : List ℕ) × (bs ≡ text ++ rest)
starts_split [] bs starts = (bs, refl)
starts_split (n ∷ ns) [] starts = cc
starts_split (n ∷ ns) (b ∷ bs) starts =
    let parts = and_parts (nat_eq n b) (starts_with nat_eq bs ns) starts in
    let same : n ≡ b = eqb-true n b parts.0 in
    let later = starts_split ns bs parts.1 in
    let e : bs ≡ ns ++ later.0 = later.1 in
    (later.0, cc)

-- a mark that no byte makes longer is the first where the bytes start with it
spelled_first : (k : Kind) (text rest : List ℕ) → 0 < length text → kind_of text ≡ Some k → ((c : ℕ) (cs : List ℕ) → kind_of (text ++ c ∷ cs) ≡ None) → IsFirst (text ++ rest) k (length text)
spelled_first k text rest nonempty kind ends = record {
  nonempty = nonempty;
  fits = omega (arith, length-append text rest);
  kind = rw (take-append_seam text rest) kind;
  longest = longest rest;
}
  where
    longest : (cs : List ℕ) (m : ℕ) → length text < m → m ≤ length (text ++ cs) → kind_of (take m (text ++ cs)) ≡ None
    longest [] m more within = absurd (omega (arith, length-append text []))
    longest (c ∷ cs) m more within =
        let e : m ≡ length text + suc (m - suc (length text)) = omega arith in
        rw e (rw (take-append-add text (c ∷ cs) (suc (m - suc (length text)))) (ends c (take (m - suc (length text)) cs)))

pub long_first : (k : Kind) (text bs : List ℕ) → 0 < length text → kind_of text ≡ Some k → ((c : ℕ) (cs : List ℕ) → kind_of (text ++ c ∷ cs) ≡ None) → starts_with nat_eq bs text ≡ true → IsFirst bs k (length text)
long_first k text bs nonempty kind ends starts =
    let split = starts_split text bs starts in
    let P : List ℕ → Type 0 = λ x. IsFirst x k (length text) in
    subst P (sym split.1) (spelled_first k text split.0 nonempty kind ends)
