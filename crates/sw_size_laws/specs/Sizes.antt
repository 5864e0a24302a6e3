-- What it means that one query is no larger than another.
use Rattle.std.specs.Prelude.{◌≤◌}
use Rattle.sw_logic.specs.declared.query.Query.{Query}
use Rattle.sw_decide.specs.Decision.{size_of_query, IsPast}

-- no more ground terms and no more instances; so where the one is too large to be decided, so is the other
pub record IsNoLarger (q r : Query) : Type 0 where
  pub terms : (size_of_query q).terms ≤ (size_of_query r).terms
  pub instances : (size_of_query q).instances ≤ (size_of_query r).instances
  pub past : IsPast (size_of_query q) → IsPast (size_of_query r)
