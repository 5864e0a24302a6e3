-- The first seat takes in one share more.
use Rattle.std.proofs.Common.{◌≡◌, ℕ, ◌+◌, List, [], ◌∷◌, ◌++◌, length, All, IfOk, Result, Ok, Vec, Global, sym, ap, ◌∙◌, subst, arith}
use Rattle.std.specs.declared.alloc.AllocError.{AllocError}
use Rattle.std.proofs.lemmas.List.Elements.{All-head, All-tail}
use Rattle.std.proofs.lemmas.List.Sums.{sum_by-append}
use Rattle.atomic_table.specs.Seated.{TableId}
use Rattle.sw_claims.specs.declared.sharing.Share.{Share}
use Rattle.sw_claims.specs.ClaimsRule.{times}
use Rattle.sw_claims.specs.ClaimsSteps.{taken}
use Rattle.sw_claims.specs.Seats.{SeatValue}
use Rattle.sw_claims.specs.Sharing.{times_over, IsShare, IsFirstSeat, HasTaken}
use Rattle.sw_claims.proofs.Totals.{times-append}

abbrev Answer : Type 0
Answer = Result Share AllocError

abbrev with_share : SeatValue → Share → SeatValue
with_share f share = record { object = f.object; view = taken f.view share.seat.view }

seat_stays : (object : TableId) (parts out out' : ℕ) (f : SeatValue) (share : Share) → IsFirstSeat object parts out f → IsShare object share → out ≡ out' + 1 → IsFirstSeat object parts out' (with_share f share)
seat_stays object parts out out' f share is one less = let o = is.out_are in let a = is.silent in let b = one.silent in record {
  object_is = is.object_is;
  parts_are = is.parts_are;
  first = is.first;
  out_are = omega (arith, o, less);
  silent = omega (arith, a, b);
}

lists_grow : (object : TableId) (f : SeatValue) (share : Share) (lists : List (Vec ℕ Global)) → HasTaken lists f → IsShare object share → HasTaken (lists ++ share.numbers ∷ []) (with_share f share)
lists_grow object f share lists has one = let e = one.ended in record {
  numbers = λ x. let p : times x (f.view.drawn ++ share.seat.view.drawn) ≡ times x f.view.drawn + times x share.seat.view.drawn = times-append x f.view.drawn share.seat.view.drawn in
      let same : times x share.seat.view.drawn ≡ times x share.numbers.items = ap (times x) one.numbers_are in let h : times x f.view.drawn ≡ times_over x lists = has.numbers x in
      let q : times_over x (lists ++ share.numbers ∷ []) ≡ times_over x lists + times_over x (share.numbers ∷ []) = sum_by-append (λ (l : Vec ℕ Global). times x l.items) lists (share.numbers ∷ []) in omega (arith, p, same, h, q);
  ended = λ _. omega (arith, e);
}

pub share_taken : (object : TableId) (parts : ℕ) (f f' : SeatValue) (share : Share) (answer : Answer) (lists lists' : List (Vec ℕ Global)) (rest rest' : List Answer)
    → answer ≡ Ok share → rest ≡ answer ∷ rest' → lists' ≡ lists ++ share.numbers ∷ [] → f' ≡ with_share f share
    → IsFirstSeat object parts (length rest) f → HasTaken lists f → All (λ (r : Answer). IfOk r (IsShare object)) rest
    → IsFirstSeat object parts (length rest') f' × HasTaken lists' f' × All (λ (r : Answer). IfOk r (IsShare object)) rest'
share_taken object parts f f' share answer lists lists' rest rest' ok more grown seat is has all = let P : Answer → Type 0 = λ r. IfOk r (IsShare object) in
    let these : All P (answer ∷ rest') = subst (All P) more all in
    let one : IsShare object share = subst P ok (All-head P answer rest' these) in
    let less : length rest ≡ length rest' + 1 = ap (λ (l : List Answer). length l) more ∙ (let n : length (answer ∷ rest') ≡ length rest' + 1 = omega arith in n) in (
      subst (IsFirstSeat object parts (length rest')) (sym seat) (seat_stays object parts (length rest) (length rest') f share is one less),
      subst (λ (z : List (Vec ℕ Global) × SeatValue). HasTaken z.0 z.1) (λ i. (sym grown i, sym seat i)) (lists_grow object f share lists has one),
      All-tail P answer rest' these,
    )
