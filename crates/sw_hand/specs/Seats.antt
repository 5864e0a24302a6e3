-- What a worker did at the claims.
use Rattle.std.specs.Prelude.{◌≡◌, ℕ, ◌≤◌, List, ◌++◌}
use Rattle.sw_claims.specs.declared.rule.ClaimView.{ClaimView}

-- the seat before and after: what was drawn, in that order, the end was met, and no reason was written; its place among the seats stays
pub record HasDrawn (c d : ClaimView) (drawn : List ℕ) : Type 0 where
  pub gained : d.drawn ≡ c.drawn ++ drawn
  pub ended : 1 ≤ d.ends
  pub wrote : d.wrote ≡ c.wrote
  pub parts : d.parts ≡ c.parts
  pub first : d.first ≡ c.first
  pub out : d.out ≡ c.out

-- a reason was seen, and none written
pub record HasStopped (c d : ClaimView) (reason : ℕ) : Type 0 where
  pub some : 1 ≤ reason
  pub seen : d.seen ≡ reason
  pub wrote : d.wrote ≡ c.wrote
