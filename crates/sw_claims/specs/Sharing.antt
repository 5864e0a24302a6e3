-- What workers that share the parts among them have drawn.
use Rattle.std.specs.Prelude.{◌≡◌, ℕ, ◌+◌, ◌≤◌, true, List, length, Vec, sum_by}
use Rattle.std.specs.Global.{Global}
use Rattle.atomic_table.specs.Seated.{TableId}
use Rattle.sw_claims.specs.declared.sharing.Share.{Share}
use Rattle.sw_claims.specs.ClaimsRule.{times, fresh}
use Rattle.sw_claims.specs.Seats.{SeatValue}

-- how often x stands in the lists together
abbrev pub times_over : ℕ → List (Vec ℕ Global) → ℕ
times_over x lists = sum_by (λ (l : Vec ℕ Global). times x l.items) lists

-- a new seat of these claims
abbrev pub IsFresh : TableId → ℕ → SeatValue → Type 0
IsFresh object parts s = s ≡ record { object = object; view = fresh parts }

-- a worker's share: its seat's numbers, drawn until the end, or until a reason was seen
pub record IsShare (object : TableId) (share : Share) : Type 0 where
  pub object_is : share.seat.object ≡ object
  pub numbers_are : share.seat.view.drawn ≡ share.numbers.items
  pub silent : share.seat.view.wrote ≡ 0
  pub ended : 1 ≤ share.seat.view.ends + share.seat.view.seen

-- the first seat, while others are out
pub record IsFirstSeat (object : TableId) (parts out : ℕ) (s : SeatValue) : Type 0 where
  pub object_is : s.object ≡ object
  pub parts_are : s.view.parts ≡ parts
  pub first : s.view.first ≡ true
  pub out_are : s.view.out ≡ out
  pub silent : s.view.wrote ≡ 0

-- the first seat has taken in these lists of numbers
pub record HasTaken (lists : List (Vec ℕ Global)) (s : SeatValue) : Type 0 where
  pub numbers : (x : ℕ) → times x s.view.drawn ≡ times_over x lists
  pub ended : 1 ≤ length lists → 1 ≤ s.view.ends + s.view.seen
