-- Reads and writes in parts: two parts are one.
use Rattle.std.proofs.Common.{◌≡◌, ◌+◌, ◌-◌, ◌≤◌, ◌<◌, ℕ, List, ◌++◌, take, drop, length, Option, None, Some, ap, ◌∙◌, sym, append_assoc, arith}
use Rattle.std.proofs.lemmas.List.{drop-drop, take-append-drop, take_at, take_all, length-append, length-take-le, length-drop}
use Rattle.std.proofs.Math.Seq.{take-append_seam}
use Rattle.std.specs.Prelude.{option_map}
use Rattle.sw_edge.specs.Edge.{Loses, Took, ReadGives, Gains, GainsPrefix}
use Rattle.sw_edge.specs.declared.edge.Got.TheVariants as got

-- what a source loses in two parts
pub Loses-append : (a b c : Option (List ℕ)) (xs ys : List ℕ) → Loses a b xs → Loses b c ys → Loses a c (xs ++ ys)
Loses-append a b None xs ys first second = cc
Loses-append a b (Some left) xs ys first second =
    first ∙ ap (option_map (λ l. xs ++ l)) second ∙ ap Some (sym (append_assoc xs ys left))

-- what a sink gains in two parts
pub Gains-append : (a b c : Option (List ℕ)) (xs ys : List ℕ) → Gains a b xs → Gains b c ys → Gains a c (xs ++ ys)
Gains-append None b c xs ys first second = cc
Gains-append (Some held) b c xs ys first second =
    second ∙ ap (option_map (λ h. h ++ ys)) first ∙ ap Some (append_assoc held xs ys)

-- what lies from i on: n bytes, which were copied to the front of a buffer, and what lies behind them
pub drop-take_copied : (i n : ℕ) (bytes copied behind : List ℕ) → i + n ≤ length bytes → copied ≡ take (i + n - i) (drop i bytes)
    → drop i bytes ≡ take n (copied ++ behind) ++ drop (i + n) bytes
drop-take_copied i n bytes copied behind fits is =
    let same : i + n - i ≡ n = omega arith in
    let copy : copied ≡ take n (drop i bytes) = is ∙ ap (λ k. take k (drop i bytes)) same in
    let room : n ≤ length (drop i bytes) = omega (arith, length-drop i bytes) in
    let size : length copied ≡ n = ap length copy ∙ length-take-le n (drop i bytes) room in
    let front : take n (copied ++ behind) ≡ take n (drop i bytes) = take_at copied behind n size ∙ copy in
    rw (front, ← drop-drop n i bytes) (sym (take-append-drop n (drop i bytes)))

-- a read after these bytes were taken
pub Took-read : (a b c : Option (List ℕ)) (xs buf : List ℕ) (n : ℕ) → Loses a b xs → ReadGives b c buf (got.Bytes n)
    → Took a c (length xs + n)
Took-read a b c xs buf n first second =
    (xs ++ take n buf, length-append xs (take n buf) ∙ ap (λ k. length xs + k) (length-take-le n buf second.1), Loses-append a b c xs (take n buf) first second.2)

-- n more of the rest are done
pub done-append : (bytes done rest : List ℕ) (n : ℕ) → bytes ≡ done ++ rest
    → bytes ≡ (done ++ take n rest) ++ take (length rest - n) (drop n rest)
done-append bytes done rest n is =
    let all : length (drop n rest) ≤ length rest - n = omega (arith, length-drop n rest) in
    rw (take_all (length rest - n) (drop n rest) all, append_assoc done (take n rest) (drop n rest), take-append-drop n rest) is

-- what was done is a front of the bytes, and not all of them
pub GainsPrefix-done : (a b c : Option (List ℕ)) (bytes done rest : List ℕ) → bytes ≡ done ++ rest → 0 < length rest
    → Gains a b done → c ≡ b → GainsPrefix a c bytes
GainsPrefix-done a b c bytes done rest is more gained same =
    let front : take (length done) bytes ≡ done = ap (take (length done)) is ∙ take-append_seam done rest in
    (length done, omega (arith, ap length is, length-append done rest), same ∙ gained ∙ ap (λ xs. option_map (λ held. held ++ xs) a) (sym front))
