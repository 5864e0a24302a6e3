-- The rule of the claims: what the draw word, the stop word and what all seats know say of one another at every moment.
use Rattle.std.specs.Prelude.{◌≡◌, ℕ, ◌+◌, ◌≤◌, ◌⊎◌, ◌==◌, nat_lt, if◌then◌else◌, min, Bool, true, false, List, [], ◌∷◌, length, slice_index}
use mathlib.Core.Option.{some}
use lib.ListN.{get_elem?}
use Rattle.atomic_table.specs.Table.{State}
use Rattle.sw_claims.specs.declared.rule.ClaimView.{ClaimView}
use Rattle.sw_claims.specs.declared.rule.TheConstants.{MOST_PARTS, MOST_SEATS}

-- the sum of f over all views
abbrev pub total : (ClaimView → ℕ) → List ClaimView → ℕ
total f [] = 0
total f (v ∷ vs) = f v + total f vs

-- P holds of each view
abbrev pub Each : (ClaimView → Type 0) → List ClaimView → Type 0
Each P views = (id : ℕ) (v : ClaimView) → get_elem? views id ≡ some v → P v

-- how often x stands in the list
abbrev pub times : ℕ → List ℕ → ℕ
times x [] = 0
times x (y ∷ ys) = (if y == x then 1 else 0) + times x ys

-- 1 for a number below n, and else 0
abbrev pub once_below : ℕ → ℕ → ℕ
once_below x n = if nat_lt x n then 1 else 0

abbrev pub weight : Bool → ℕ
weight true = 1
weight false = 0

-- how many views are not spent
abbrev pub live_count : List ClaimView → ℕ
live_count views = total (λ v. weight v.live) views

-- 1 for a seat that may still meet the end
abbrev pub may_end : ClaimView → ℕ
may_end v = if v.live then (if v.ends == 0 then 1 else 0) else 0

-- the first seat's view at the start
abbrev pub opened : ℕ → ℕ → ClaimView
opened parts splits = record { live = true; first = true; parts = parts; drawn = []; ends = 0; wrote = 0; seen = 0; splits = splits; out = 0; looks = 0; looks_at_draw = 0 }

-- the view of a new seat
abbrev pub fresh : ℕ → ClaimView
fresh parts = record { live = true; first = false; parts = parts; drawn = []; ends = 0; wrote = 0; seen = 0; splits = 0; out = 0; looks = 0; looks_at_draw = 0 }

-- the view of a seat that was joined: empty
abbrev pub spent : ClaimView
spent = record { live = false; first = false; parts = 0; drawn = []; ends = 0; wrote = 0; seen = 0; splits = 0; out = 0; looks = 0; looks_at_draw = 0 }

-- the lists of all views together hold each number below n once, and nothing else: n numbers
pub record DrawnOnce (n : ℕ) (views : List ClaimView) : Type 0 where
  pub once : (x : ℕ) → total (λ v. times x v.drawn) views ≡ once_below x n
  pub count : total (λ v. length v.drawn) views ≡ n

-- the draw word is the numbers drawn and the draws that met the end, and each seat made meets the end at most once
pub record DrawsCounted (draw : ℕ) (views : List ClaimView) : Type 0 where
  pub sum : draw ≡ total (λ v. length v.drawn) views + total (λ v. v.ends) views
  pub ends : total (λ v. v.ends) views + total may_end views ≤ length views

-- what is written in all views adds up to the stop word, and each reason written or seen is that word: so one view wrote it, or it is 0 and none did
pub record OneReason (stop : ℕ) (views : List ClaimView) : Type 0 where
  pub writer : total (λ v. v.wrote) views ≡ stop
  pub written : Each (λ v. (v.wrote ≡ 0) ⊎ (v.wrote ≡ stop)) views
  pub seen : Each (λ v. (v.seen ≡ 0) ⊎ (v.seen ≡ stop)) views

-- there is at most one first seat, and its number of seats out is the number of other views that are not spent
abbrev pub CountsOut : List ClaimView → Type 0
CountsOut views = (id : ℕ) (v : ClaimView) → get_elem? views id ≡ some v → v.first ≡ true → (id ≡ 0) × (live_count views ≡ v.out + 1)

-- the number of parts is the same in every view that is not spent, the first seat alone splits, and the numbers are small enough for a word
pub record Limited (parts : ℕ) (views : List ClaimView) : Type 0 where
  pub same_parts : Each (λ v. v.live ≡ true → v.parts ≡ parts) views
  pub splitters : Each (λ v. v.first ≡ false → v.splits ≡ 0) views
  pub few_parts : parts ≤ MOST_PARTS
  pub few_seats : length views + total (λ v. v.splits) views ≤ MOST_SEATS

pub record Claimed (parts draw stop : ℕ) (views : List ClaimView) : Type 0 where
  pub numbers : DrawnOnce (min draw parts) views
  pub draws : DrawsCounted draw views
  pub reason : OneReason stop views
  -- a joined seat's own view is spent. What it held stands in the view that took it in, since the sums stay
  pub joined : Each (λ v. v.live ≡ false → v ≡ spent) views
  pub out : CountsOut views
  pub limits : Limited parts views

-- the rule of a table with two words, the draw word and the stop word
pub record Kept (parts : ℕ) (s : State (Unit {0}) ClaimView) : Type 0 where
  pub words : length s.words ≡ 2
  pub rule : Claimed parts (slice_index s.words 0) (slice_index s.words 1) s.views
