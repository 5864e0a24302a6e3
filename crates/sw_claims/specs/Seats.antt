-- What clauses see of a seat, and how its fields keep to it.
use Rattle.std.specs.Prelude.{◌≡◌, ℕ, nat_lt, Bool, true, []}
use Rattle.atomic_table.specs.Seated.{TableId}
use Rattle.sw_claims.specs.declared.rule.ClaimView.{ClaimView}
use Rattle.sw_claims.specs.ClaimsSteps.{Knows}

-- the claims that it is a seat of, and what it knows of them
pub record SeatValue : Type 0 where
  pub object : TableId
  pub view : ClaimView

-- a seat in use, beside its number of parts, the splits that it has left and whether a draw of it met the end
pub record Sits (me : Knows) (parts splits : ℕ) (met_end : Bool) : Type 0 where
  pub bare : me.1 ≡ []
  pub live : me.0.live ≡ true
  pub parts_are : parts ≡ me.0.parts
  pub splits_are : splits ≡ me.0.splits
  pub end_is : met_end ≡ nat_lt 0 me.0.ends
