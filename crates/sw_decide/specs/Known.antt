-- What is known of a query that was decided, or was not.
use Rattle.std.specs.Prelude.{◌≡◌, ℕ, Option}
use Rattle.sw_logic.specs.declared.query.Query.{Query}
use Rattle.sw_truth.specs.declared.instances.Refutation.{Refutation}
use Rattle.sw_universe.specs.declared.sizes.Size.{Size}
use Rattle.sw_decide.specs.Decision.{size_of_query, IsPast, IsSpentOn}

-- the query is not too large
abbrev pub IsWithin : Query → Type 0
IsWithin q = IsPast (size_of_query q) → ⊥

-- the budget was spent on the query
pub record IsSpentBy (q : Query) (budget : Option ℕ) (r : Refutation) : Type 0 where
  pub within : IsWithin q
  pub spent : IsSpentOn q budget r

-- the query is too large, and this is its size
pub record IsTooLargeBy (q : Query) (size : Size) : Type 0 where
  pub past : IsPast (size_of_query q)
  pub is : size ≡ size_of_query q
