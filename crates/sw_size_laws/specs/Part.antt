-- One list as part of another.
use Rattle.std.specs.Prelude.{List, ◌++◌, IsPermutation}

-- the one list and some further elements are, in some order, the other list
pub record IsPartOf {X : Type 0} (xs ys : List X) : Type 0 where
  pub rest : List X
  pub is : IsPermutation (xs ++ rest) ys
