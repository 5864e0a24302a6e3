-- Bytes that begin with others, and the first line of bytes.
use Rattle.std.proofs.Common.{◌≡◌, ◌≢◌, ℕ, ◌≤◌, Bool, true, cond, nat_eq, nat_lt, List, [], ◌∷◌, ◌++◌, length, Option, Some, None, All, Bor, refl, arith, append_assoc, ◌∙◌, ap, sym, inl, inr}
use Rattle.std.specs.Prelude.{MatchOption}
use Rattle.std.specs.List.{position, position_or_len}
use Rattle.std.proofs.lemmas.List.{append_cancel_left, length-append}
use Rattle.std.proofs.lemmas.Bool.Decides.{nat_tests}
use Rattle.std.proofs.lemmas.List.Elements.{All-head, All-tail}
use Rattle.std.proofs.lemmas.Bool.{cases_Bool, cases_lt}
use Rattle.sw_models.specs.Steps.{IsLine, HasNoLine}

none_after : (p q bytes rest : List ℕ) → bytes ≡ p ++ rest → ((below : List ℕ) → rest ≢ q ++ below) → (below : List ℕ) → bytes ≢ (p ++ q) ++ below
none_after p q bytes rest e none below f =
    none below (append_cancel_left p rest (q ++ below) (sym e ∙ f ∙ append_assoc p q below))

both_after : (p q bytes rest below : List ℕ) → bytes ≡ p ++ rest → rest ≡ q ++ below → bytes ≡ (p ++ q) ++ below
both_after p q bytes rest below e f = e ∙ ap (λ x. p ++ x) f ∙ sym (append_assoc p q below)

-- one prefix after another
pub match_after : (p q bytes rest : List ℕ) (r : Option (Bor (List ℕ))) → bytes ≡ p ++ rest
    → MatchOption r ((below : List ℕ) → rest ≢ q ++ below) (λ x. rest ≡ q ++ x.now)
    → MatchOption r ((below : List ℕ) → bytes ≢ (p ++ q) ++ below) (λ x. bytes ≡ (p ++ q) ++ x.now)
match_after p q bytes rest None e none = none_after p q bytes rest e none
match_after p q bytes rest (Some x) e some = both_after p q bytes rest x.now e some

-- a line after its start
pub match_line : (start bytes rest : List ℕ) (r : Option (Bor (List ℕ) × Bor (List ℕ))) → bytes ≡ start ++ rest
    → MatchOption r (HasNoLine [] rest) (λ l. IsLine [] l.0.now l.1.now rest)
    → MatchOption r (HasNoLine start bytes) (λ l. IsLine start l.0.now l.1.now bytes)
match_line start bytes rest None e none =
    λ body below f. none body below (append_cancel_left start rest (body ++ 10 ∷ below) (sym e ∙ f))
match_line start bytes rest (Some l) e line = record {
  one_line = line.one_line;
  text = e ∙ ap (λ x. start ++ x) line.text;
}

passes_by : (p : ℕ → Bool) (xs : List ℕ) (y : ℕ) (ys : List ℕ) → p y ≡ true → position_or_len p (xs ++ y ∷ ys) ≤ length xs
passes_by p [] y ys e = rw e (omega arith)
passes_by p (x ∷ xs) y ys e =
    let rest = passes_by p xs y ys e in
    elim (cases_Bool (p x)) [ inl f ↦ rw f (omega arith) | inr f ↦ rw f (omega arith) ]

pub past : (n m : ℕ) → cond (nat_lt n m) (Some n) None ≡ None → m ≤ n
past n m e =
    elim (cases_lt n m) [
      | inl less ↦ let f : nat_lt n m ≡ true = grind (arith, nat_tests) in let g : Some n ≡ None = rw f at e in absurd cc
      | inr le ↦ le
    ]

-- where no byte is a line feed there is no line
pub no_line : (bytes : List ℕ) → position (λ b. nat_eq b 10) bytes ≡ None → HasNoLine [] bytes
no_line bytes none body below e =
    let p : ℕ → Bool = λ b. nat_eq b 10 in
    let f : position p (body ++ 10 ∷ below) ≡ None = ap (position p) (sym e) ∙ none in
    let over = past (position_or_len p (body ++ 10 ∷ below)) (length (body ++ 10 ∷ below)) f in
    omega (arith, over, passes_by p body 10 below refl, length-append body (10 ∷ below))

-- without a line feed in either, two lines that are equal with what is below have equal bodies
pub one_body : (body other below lower : List ℕ) → All (λ b. b ≢ 10) body → All (λ b. b ≢ 10) other → body ++ 10 ∷ below ≡ other ++ 10 ∷ lower
    → (body ≡ other) × (below ≡ lower)
one_body [] [] below lower all every e = (refl, cc)
one_body [] (c ∷ other) below lower all every e = let f : c ≡ 10 = cc in absurd (All-head (λ b. b ≢ 10) c other every f)
one_body (b ∷ body) [] below lower all every e = let f : b ≡ 10 = cc in absurd (All-head (λ b. b ≢ 10) b body all f)
one_body (b ∷ body) (c ∷ other) below lower all every e =
    let f : b ≡ c = cc in
    let g : body ++ 10 ∷ below ≡ other ++ 10 ∷ lower = cc in
    let rest = one_body body other below lower (All-tail (λ b. b ≢ 10) b body all) (All-tail (λ b. b ≢ 10) c other every) g in
    let h : body ≡ other = rest.0 in
    (cc, rest.1)
