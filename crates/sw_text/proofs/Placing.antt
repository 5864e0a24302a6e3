-- A place in a list of names is that in the list of what has them.
use Rattle.std.proofs.Common.{◌≡◌, ℕ, ◌+◌, Bool, cond, not, nat_lt, List, [], ◌∷◌, length, map, Some, None, refl, ap, ◌∙◌}
use Rattle.std.specs.List.{position, position_or_len}
use Rattle.std.proofs.lemmas.List.{length-map}

pub position-map : {X Y : Type 0} (p : Y → Bool) (f : X → Y) (xs : List X) → position p (map f xs) ≡ position (λ x. p (f x)) xs
position-map {X} {Y} p f xs =
    ap (λ n. cond (nat_lt n (length (map f xs))) (Some n) None) (places xs)
    ∙ ap (λ n. let i = position_or_len (λ x. p (f x)) xs in cond (nat_lt i n) (Some i) None) (length-map xs f)
  where
    places : (ys : List X) → position_or_len p (map f ys) ≡ position_or_len (λ x. p (f x)) ys
    places [] = refl
    places (y ∷ ys) = ap (λ (n : ℕ). cond (not (p (f y))) (1 + n) 0) (places ys)
