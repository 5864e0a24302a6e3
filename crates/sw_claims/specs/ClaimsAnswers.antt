-- What the calls answer, and what their seat knows afterwards.
use Rattle.std.specs.Prelude.{◌≡◌, ◌⊎◌, ℕ, ◌≤◌, ◌<◌, List, [], ◌∷◌, ◌++◌, length}
use Rattle.sw_claims.specs.declared.rule.ClaimView.{ClaimView}
use Rattle.sw_claims.specs.declared.seats.Drawn.{Drawn}
use Rattle.sw_claims.specs.declared.seats.Drawn.TheVariants.{Number, AllDrawn, Stopped}
use Rattle.sw_claims.specs.ClaimsRule.{times, once_below}
use Rattle.sw_claims.specs.ClaimsSteps.{IsAlone, Finds, looked}

-- a step on the draw word gave a number below the parts. No draw of the seat's had met the end
pub record DrawsNumber (v : ClaimView) (n : ℕ) (w : ClaimView) : Type 0 where
  pub open_seat : v.ends ≡ 0
  pub below : n < v.parts
  pub new : times n v.drawn ≡ 0
  pub after : length v.drawn ≤ n
  pub gained : w ≡ record v { drawn = v.drawn ++ n ∷ []; looks_at_draw = v.looks }
  pub alone : IsAlone v → n ≡ length v.drawn

-- the end, met now by a step on the draw word, or at an earlier draw
pub record MeetsEnd (v : ClaimView) (w : ClaimView) : Type 0 where
  pub now : v.ends ≡ 0 → w ≡ record v { ends = 1; looks_at_draw = v.looks }
  pub earlier : 1 ≤ v.ends → w ≡ v
  pub alone : IsAlone v → v.ends ≡ 0 → v.parts ≤ length v.drawn

-- the reason that stands in the stop word
pub record SeesReason (v : ClaimView) (r : ℕ) (w : ClaimView) : Type 0 where
  pub reason : 1 ≤ r
  pub found : Finds v r
  pub seen : w ≡ record v { seen = r }

-- what a draw answers, by what its seat knew before and knows afterwards: it looks at the stop word once, and then only, where it found 0, comes the draw word
abbrev pub Draws : ClaimView → Drawn → ClaimView → Type 0
Draws v (Number n) w = Finds v 0 × DrawsNumber (looked v) n w
Draws v AllDrawn w = Finds v 0 × MeetsEnd (looked v) w
Draws v (Stopped r) w = SeesReason (looked v) r w

-- the reason is the first one
pub record WritesReason (v : ClaimView) (reason r : ℕ) (w : ClaimView) : Type 0 where
  pub running : Finds v 0
  pub own : r ≡ reason
  pub written : w ≡ record v { wrote = reason; seen = reason }

-- the reason that stands is the seat's own, where none stood, or the earlier one
abbrev pub Stops : ClaimView → ℕ → ℕ → ClaimView → Type 0
Stops v reason r w = WritesReason v reason r w ⊎ SeesReason v r w

-- the list holds each number below n once, and nothing else: n numbers
pub record IsEachBelow (n : ℕ) (xs : List ℕ) : Type 0 where
  pub once : (x : ℕ) → times x xs ≡ once_below x n
  pub count : length xs ≡ n
