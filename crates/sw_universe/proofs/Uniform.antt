-- Lists of one length, one behind the other.
use Rattle.std.proofs.Common.{◌≡◌, ℕ, zero, suc, ◌+◌, ◌*◌, ◌<◌, List, [], ◌∷◌, ◌++◌, length, Some, sym, ap, ◌∙◌, arith}
use Rattle.std.specs.Prelude.{slice_get}
use Rattle.std.specs.List.{flat_map}
use Rattle.std.proofs.lemmas.Option.{none-some, same_Some}
use Rattle.std.proofs.lemmas.List.{length-append}
use Rattle.sw_lists.proofs.Places.{get_append_front, get_append_right}

-- behind a front of this length
pub get_behind : {X : Type 0} (xs ys : List X) (n j : ℕ) → n ≡ length xs → slice_get (xs ++ ys) (n + j) ≡ slice_get ys j
get_behind xs ys n j e = ap (λ (k : ℕ). slice_get (xs ++ ys) (k + j)) e ∙ get_append_right xs ys j

-- lists of one length, one behind the other
module _ {X Y : Type 0} (g : X → List Y) (m : ℕ) (each : (x : X) → length (g x) ≡ m) where
  pub uniform_length : (xs : List X) → length (flat_map g xs) ≡ length xs * m
  uniform_length [] = let e : 0 ≡ 0 * m = omega arith in e
  uniform_length (x ∷ xs) =
      let ih = uniform_length xs in
      let own = each x in
      let e : suc (length xs) * m ≡ m + length xs * m = grind arith in
      omega (arith, length-append (g x) (flat_map g xs), own, ih, e)

  pub uniform_at : (xs : List X) (n j : ℕ) (x : X) → slice_get xs n ≡ Some x → j < m → slice_get (flat_map g xs) (n * m + j) ≡ slice_get (g x) j
  uniform_at [] n j x e h = absurd (none-some x e)
  uniform_at (y ∷ xs) zero j x e h =
      let own = each y in
      let low : j < length (g y) = omega arith in
      let z : 0 * m + j ≡ j = omega arith in
      ap (slice_get (g y ++ flat_map g xs)) z ∙ get_append_front (g y) (flat_map g xs) j low ∙ ap (λ (w : X). slice_get (g w) j) (same_Some y x e)
  uniform_at (y ∷ xs) (suc n) j x e h =
      let at : suc n * m + j ≡ m + (n * m + j) = grind arith in
      ap (slice_get (g y ++ flat_map g xs)) at ∙ get_behind (g y) (flat_map g xs) m (n * m + j) (sym (each y)) ∙ uniform_at xs n j x e h
