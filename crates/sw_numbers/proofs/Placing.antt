-- The place of a tuple tells the tuple.
use Rattle.std.proofs.Common.{◌≡◌, ℕ, zero, suc, ◌+◌, ◌*◌, ◌<◌, ◌≤◌, List, [], ◌∷◌, drop, length, Some, refl, sym, ap, ◌∙◌, arith, add-one, inl, inr}
use Rattle.std.specs.Prelude.{slice_get}
use Rattle.std.proofs.lemmas.Bool.{cases_lt}
use Rattle.sw_lists.proofs.Places.{drop-got}
use Rattle.sw_logic.specs.Truth.{size_of, place_from}
use Rattle.sw_truth.specs.Models.{AreOfSorts}

-- equal sums with rests below the size have equal parts
record Split (a b x y : ℕ) : Type 0 where
  whole : a ≡ b
  rest : x ≡ y

not_less : (a b x y s : ℕ) → x < s → a * s + x ≡ b * s + y → a < b → ⊥
not_less a b x y s hx e h =
    let le : suc a * s ≤ b * s = grind arith in
    let step : suc a * s ≡ a * s + s = grind arith in
    omega arith

split : (a b x y s : ℕ) → x < s → y < s → a * s + x ≡ b * s + y → Split a b x y
split a b x y s hx hy e =
    let low : b ≤ a = elim (cases_lt a b) [ inl h ↦ absurd (not_less a b x y s hx e h) | inr h ↦ h ] in
    let high : a ≤ b = elim (cases_lt b a) [ inl h ↦ absurd (not_less b a y x s hy (sym e) h) | inr h ↦ h ] in
    let same : a ≡ b = omega arith in
    record { whole = same; rest = let f : a * s + x ≡ a * s + y = e ∙ ap (λ n. n * s + y) (sym same) in omega arith }

-- equal places have equal starts and equal tuples
record Told (a b : ℕ) (xs ys : List ℕ) : Type 0 where
  start : a ≡ b
  tuple : xs ≡ ys

tells : (sizes sorts : List ℕ) (a b : ℕ) (xs ys : List ℕ) → AreOfSorts sizes sorts xs → AreOfSorts sizes sorts ys
    → place_from sizes a sorts xs ≡ place_from sizes b sorts ys → Told a b xs ys
tells sizes [] a b [] [] h g e = record { start = e; tuple = refl }
tells sizes [] a b [] (y ∷ ys) h g e = absurd g
tells sizes [] a b (x ∷ xs) ys h g e = absurd h
tells sizes (sort ∷ sorts) a b [] ys h g e = absurd h
tells sizes (sort ∷ sorts) a b (x ∷ xs) [] h g e = absurd g
tells sizes (sort ∷ sorts) a b (x ∷ xs) (y ∷ ys) h g e =
    let s = size_of sizes sort in
    let t = tells sizes sorts (a * s + x) (b * s + y) xs ys h.1 g.1 e in
    let p = split a b x y s h.0 g.0 t.start in
    record { start = p.whole; tuple = ap (λ (n : ℕ). n ∷ xs) p.rest ∙ ap (λ (ns : List ℕ). y ∷ ns) t.tuple }

pub tuple_told : (sizes sorts xs ys : List ℕ) → AreOfSorts sizes sorts xs → AreOfSorts sizes sorts ys → place_from sizes 0 sorts xs ≡ place_from sizes 0 sorts ys → xs ≡ ys
tuple_told sizes sorts xs ys h g e = (tells sizes sorts 0 0 xs ys h g e).tuple

-- one more number
pub place_more : (sizes sorts values : List ℕ) (i at sort v size : ℕ) → slice_get sorts i ≡ Some sort → slice_get values i ≡ Some v → size ≡ size_of sizes sort
    → place_from sizes (at * size + v) (drop (i + 1) sorts) (drop (i + 1) values) ≡ place_from sizes at (drop i sorts) (drop i values)
place_more sizes sorts values i at sort v size e f g = rw (add-one, drop-got sorts i sort e, drop-got values i v f, g) refl

place_stops : (sizes sorts : List ℕ) (at : ℕ) → place_from sizes at sorts [] ≡ at
place_stops sizes [] at = refl
place_stops sizes (sort ∷ sorts) at = refl

drop_all : {A : Type 0} (xs : List A) (i : ℕ) → length xs ≤ i → drop i xs ≡ []
drop_all [] zero h = refl
drop_all [] (suc i) h = refl
drop_all (x ∷ xs) zero h = absurd (omega arith)
drop_all (x ∷ xs) (suc i) h = drop_all xs i (omega arith)

-- no more numbers
pub place_done : (sizes sorts values : List ℕ) (i at : ℕ) → length values ≤ i → place_from sizes at (drop i sorts) (drop i values) ≡ place_from sizes 0 sorts values → at ≡ place_from sizes 0 sorts values
place_done sizes sorts values i at h e =
    sym (place_stops sizes (drop i sorts) at) ∙ ap (place_from sizes at (drop i sorts)) (sym (drop_all values i h)) ∙ e

-- one more step keeps what the place comes to
pub place_kept : (sizes sorts values : List ℕ) (i at next v sort : ℕ) → slice_get sorts i ≡ Some sort → next ≡ at * size_of sizes sort + v → slice_get values i ≡ Some v
    → place_from sizes at (drop i sorts) (drop i values) ≡ place_from sizes 0 sorts values
    → place_from sizes next (drop (i + 1) sorts) (drop (i + 1) values) ≡ place_from sizes 0 sorts values
place_kept sizes sorts values i at next v sort e f g h =
    ap (λ n. place_from sizes n (drop (i + 1) sorts) (drop (i + 1) values)) f ∙ place_more sizes sorts values i at sort v (size_of sizes sort) e g refl ∙ h
