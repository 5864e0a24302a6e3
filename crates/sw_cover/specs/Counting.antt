-- Numbers of tuples and of choices.
use Rattle.std.specs.Prelude.{ℕ, zero, suc, ◌+◌, ◌*◌, List, [], ◌∷◌}

-- how many tuples there are of one of each of so many
abbrev pub product : List ℕ → ℕ
product [] = 1
product (n ∷ ns) = n * product ns

-- the numbers of the elements together
abbrev pub total : {X : Type 0} → (X → ℕ) → List X → ℕ
total f [] = 0
total f (x ∷ xs) = f x + total f xs

-- how many choices there are of so many out of so many
abbrev pub binomial : ℕ → ℕ → ℕ
binomial m zero = 1
binomial zero (suc n) = 0
binomial (suc m) (suc n) = binomial m n + binomial m (suc n)
