-- What a call of one job for each seat asks, and what it gives.
use Rattle.std.specs.Prelude.{◌≡◌, ℕ, ◌<◌, List, length, slice_index_or}

-- each of the calls job(i, seat i) may be made
abbrev pub MayCallEach : {S : Type 0} → (ℕ → S → Type 0) → List S → Type 0
MayCallEach {S} may seats = (i : ℕ) (seat : S) → i < length seats → seat ≡ slice_index_or seats i seat → may i seat

-- the answer r of the call job(i, seat i)
pub record AnswersSeat {S R : Type 0} (gives : ℕ → S → R → Type 0) (seats : List S) (i : ℕ) (r : R) : Type 0 where
  pub seat : S
  pub seat_is : (d : S) → slice_index_or seats i d ≡ seat
  pub call : gives i seat r

-- the results stand in order, each an answer of its call
abbrev pub AnswersEach : {S R : Type 0} → (ℕ → S → R → Type 0) → List S → List R → Type 0
AnswersEach {S} {R} gives seats rs = (i : ℕ) (d : R) → i < length seats → AnswersSeat gives seats i (slice_index_or rs i d)
