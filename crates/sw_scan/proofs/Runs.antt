-- Bytes that pass a test, and the tokens that go on as long as they do.
use Rattle.std.proofs.Common.{◌≡◌, ℕ, ◌+◌, ◌<◌, ◌≤◌, zero, suc, Bool, true, false, ◌&&◌, cond, List, [], ◌∷◌, length, take, Some, None, refl, arith}
use Rattle.std.specs.List.{list_all, prefix_len}
use Rattle.std.proofs.lemmas.List.Sums.{prefix_len-le-length}
use Rattle.sw_scan.specs.declared.Kind.{Kind}
use Rattle.sw_scan.specs.Spelling.{kind_of, IsFirst}

takes_more : (p : ℕ → Bool) (x : ℕ) (xs : List ℕ) (b : Bool) → p x ≡ b → list_all p (take (prefix_len p xs) xs) ≡ true → list_all p (take (cond b (1 + prefix_len p xs) 0) (x ∷ xs)) ≡ true
takes_more p x xs true passes ih =
    let one_more : 1 + prefix_len p xs ≡ suc (prefix_len p xs) = omega arith in rw one_more (rw passes ih)
takes_more p x xs false fails ih = refl

-- the bytes up to the first that fails all pass
pub list_all-take_prefix_len : (p : ℕ → Bool) (xs : List ℕ) → list_all p (take (prefix_len p xs) xs) ≡ true
list_all-take_prefix_len p [] = refl
list_all-take_prefix_len p (x ∷ xs) = takes_more p x xs (p x) refl (list_all-take_prefix_len p xs)

fails_more : (p : ℕ → Bool) (x : ℕ) (xs : List ℕ) (m : ℕ) (b : Bool) → p x ≡ b → cond b (1 + prefix_len p xs) 0 < suc m → (prefix_len p xs < m → list_all p (take m xs) ≡ false) → (p x && list_all p (take m xs)) ≡ false
fails_more p x xs m true passes over ih = rw passes (ih (omega arith))
fails_more p x xs m false fails over ih = rw fails refl

-- more bytes than those do not all pass
pub list_all-take_more : (p : ℕ → Bool) (xs : List ℕ) (m : ℕ) → prefix_len p xs < m → m ≤ length xs → list_all p (take m xs) ≡ false
list_all-take_more p [] m over within = absurd (omega arith)
list_all-take_more p (x ∷ xs) zero over within = absurd (omega arith)
list_all-take_more p (x ∷ xs) (suc m) over within =
    fails_more p x xs m (p x) refl over (λ less. list_all-take_more p xs m less (omega arith))

-- a token that is its first byte and then the bytes that pass goes up to the first that fails
pub run_first : (p : ℕ → Bool) (k : Kind) (b : ℕ) (later : List ℕ) → ((bs : List ℕ) → list_all p bs ≡ true → kind_of (b ∷ bs) ≡ Some k) → ((bs : List ℕ) → list_all p bs ≡ false → kind_of (b ∷ bs) ≡ None) → IsFirst (b ∷ later) k (1 + prefix_len p later)
run_first p k b later is_token is_none = record {
  nonempty = omega arith;
  fits = omega (arith, prefix_len-le-length p later);
  kind = rw one_more (is_token _ (list_all-take_prefix_len p later));
  longest = no_longer;
}
  where
    one_more : 1 + prefix_len p later ≡ suc (prefix_len p later)
    one_more = omega arith

    no_longer : (m : ℕ) → 1 + prefix_len p later < m → m ≤ length (b ∷ later) → kind_of (take m (b ∷ later)) ≡ None
    no_longer zero over within = absurd (omega arith)
    no_longer (suc m) over within = is_none _ (list_all-take_more p later m (omega arith) (omega arith))
