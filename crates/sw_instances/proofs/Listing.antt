-- Lists made row by row.
use Rattle.std.proofs.Common.{◌≡◌, ℕ, zero, suc, ◌+◌, ◌<◌, List, [], ◌∷◌, ◌++◌, length, map, take, get_or, sym, ap, ◌∙◌, arith, add-one, append_assoc, append-nil}
use Rattle.std.specs.List.{flat_map, range_with_len, enumerate_from}
use Rattle.std.proofs.lemmas.Grind.{flat_map-append}
use Rattle.std.proofs.lemmas.List.{take_more, length-take-le}
use Rattle.std.proofs.lemmas.List.FromFn.{map-range_with_len_more}

range_more : {X : Type 0} (f : ℕ → List X) (a n : ℕ) → flat_map f (range_with_len a (suc n)) ≡ flat_map f (range_with_len a n) ++ f (a + n)
range_more f a zero = append-nil (f a) ∙ ap f (omega arith)
range_more f a (suc n) =
    let on : a + 1 + n ≡ a + suc n = omega arith in
    ap (λ xs. f a ++ xs) (range_more f (a + 1) n ∙ ap (λ k. flat_map f (range_with_len (a + 1) n) ++ f k) on)
    ∙ sym (append_assoc (f a) (flat_map f (range_with_len (a + 1) n)) (f (a + suc n)))

-- a row behind what there was
joins : {X : Type 0} (a b c xs ys row : List X) → c ≡ b ++ row → b ≡ a ++ xs → ys ≡ xs ++ row → c ≡ a ++ ys
joins a b c xs ys row e f g = e ∙ ap (λ zs. zs ++ row) f ∙ append_assoc a xs row ∙ ap (λ zs. a ++ zs) (sym g)

-- one number more
pub more_numbers : {X : Type 0} (f : ℕ → List X) (n : ℕ) (a b c : List X) → c ≡ b ++ f n → b ≡ a ++ flat_map f (range_with_len 0 n) → c ≡ a ++ flat_map f (range_with_len 0 (n + 1))
more_numbers f n a b c e h =
    let more : flat_map f (range_with_len 0 (n + 1)) ≡ flat_map f (range_with_len 0 n) ++ f n = rw add-one (range_more f 0 n ∙ ap (λ k. flat_map f (range_with_len 0 n) ++ f k) (omega arith)) in
    joins a b c (flat_map f (range_with_len 0 n)) (flat_map f (range_with_len 0 (n + 1))) (f n) e h more

pub more_mapped : {X : Type 0} (f : ℕ → X) (n : ℕ) (a b c : List X) → c ≡ b ++ f n ∷ [] → b ≡ a ++ map f (range_with_len 0 n) → c ≡ a ++ map f (range_with_len 0 (n + 1))
more_mapped f n a b c e h = joins a b c (map f (range_with_len 0 n)) (map f (range_with_len 0 (n + 1))) (f n ∷ []) e h (map-range_with_len_more f 0 n n (omega arith))

front : {X : Type 0} (xs : List X) (k : ℕ) (x : X) → k < length xs → x ≡ get_or xs k x → take (k + 1) xs ≡ take k xs ++ x ∷ []
front xs k x low at = take_more xs k x low ∙ ap (λ y. take k xs ++ y ∷ []) (sym at)

-- one element more
pub more_elements : {X Y : Type 0} (f : X → List Y) (xs : List X) (k : ℕ) (x : X) (a b c : List Y) → k < length xs → x ≡ get_or xs k x → c ≡ b ++ f x → b ≡ a ++ flat_map f (take k xs) → c ≡ a ++ flat_map f (take (k + 1) xs)
more_elements f xs k x a b c low at e h =
    joins a b c (flat_map f (take k xs)) (flat_map f (take (k + 1) xs)) (f x) e h
    (ap (flat_map f) (front xs k x low at) ∙ flat_map-append f (take k xs) (x ∷ []) ∙ ap (λ zs. flat_map f (take k xs) ++ zs) (append-nil (f x)))

enumerated : {X Y : Type 0} (f : ℕ × X → List Y) (a : ℕ) (xs : List X) (x : X) → flat_map f (enumerate_from a (xs ++ x ∷ [])) ≡ flat_map f (enumerate_from a xs) ++ f (a + length xs, x)
enumerated f a [] x = append-nil (f (a, x)) ∙ ap (λ (k : ℕ). f (k, x)) (let e : a ≡ a + 0 = omega arith in e)
enumerated f a (y ∷ xs) x =
    let on : a + 1 + length xs ≡ a + suc (length xs) = omega arith in
    ap (λ zs. f (a, y) ++ zs) (enumerated f (a + 1) xs x ∙ ap (λ (k : ℕ). flat_map f (enumerate_from (a + 1) xs) ++ f (k, x)) on)
    ∙ sym (append_assoc (f (a, y)) (flat_map f (enumerate_from (a + 1) xs)) (f (a + suc (length xs), x)))

-- one element more, with its number
pub more_enumerated : {X Y : Type 0} (f : ℕ × X → List Y) (xs : List X) (k : ℕ) (x : X) (a b c : List Y) → k < length xs → x ≡ get_or xs k x → c ≡ b ++ f (k, x)
    → b ≡ a ++ flat_map f (enumerate_from 0 (take k xs)) → c ≡ a ++ flat_map f (enumerate_from 0 (take (k + 1) xs))
more_enumerated f xs k x a b c low at e h =
    let more : flat_map f (enumerate_from 0 (take (k + 1) xs)) ≡ flat_map f (enumerate_from 0 (take k xs)) ++ f (k, x) =
    ap (λ zs. flat_map f (enumerate_from 0 zs)) (front xs k x low at) ∙ enumerated f 0 (take k xs) x
    ∙ ap (λ (j : ℕ). flat_map f (enumerate_from 0 (take k xs)) ++ f (j, x)) (let e : length (take k xs) ≡ k = length-take-le k xs (omega arith) in let z : 0 + length (take k xs) ≡ k = omega arith in z) in
    joins a b c (flat_map f (enumerate_from 0 (take k xs))) (flat_map f (enumerate_from 0 (take (k + 1) xs))) (f (k, x)) e h more

pub three : {X : Type 0} (a b c d r s t : List X) → b ≡ a ++ r → c ≡ b ++ s → d ≡ c ++ t → d ≡ a ++ (r ++ (s ++ t))
three a b c d r s t e f g =
    g ∙ ap (λ zs. zs ++ t) (f ∙ ap (λ zs. zs ++ s) e) ∙ append_assoc (a ++ r) s t ∙ append_assoc a r (s ++ t)
