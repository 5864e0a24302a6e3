-- Lists of entries that begin other lists.
use Rattle.std.specs.Prelude.{◌≡◌, ◌+◌, ◌≤◌, List, [], ◌∷◌, ◌++◌, length}
use Rattle.std.proofs.Common.{refl, arith, sym, ap, ◌∙◌, append_assoc}
use Rattle.std.proofs.lemmas.List.{length-append, append-nil}
use mathlib.Core.List.{IsPrefix}
use Rattle.sw_log.specs.declared.entry.Entry.{Entry}

pub begins_itself : (xs : List Entry) → IsPrefix xs xs
begins_itself xs = ([], append-nil xs)

pub begins_longer : (xs ys : List Entry) → IsPrefix xs (xs ++ ys)
begins_longer xs ys = (ys, refl)

pub nothing_begins : (xs : List Entry) → IsPrefix [] xs
nothing_begins xs = (xs, refl)

pub begins_through : (xs ys zs : List Entry) → IsPrefix xs ys → IsPrefix ys zs → IsPrefix xs zs
begins_through xs ys zs p q = (p.0 ++ q.0, sym (append_assoc xs p.0 q.0) ∙ (ap (λ (l : List Entry). l ++ q.0) p.1 ∙ q.1))

pub prefix_le : (xs ys : List Entry) → IsPrefix xs ys → length xs ≤ length ys
prefix_le xs ys p = let a : length (xs ++ p.0) ≡ length ys = ap (λ (l : List Entry). length l) p.1 in let b : length (xs ++ p.0) ≡ length xs + length p.0 = length-append xs p.0 in omega arith

no_more : (xs ys : List Entry) → length (xs ++ ys) ≤ length xs → xs ++ ys ≡ xs
no_more [] [] le = refl
no_more [] (y ∷ ys) le = absurd (omega arith)
no_more (x ∷ xs) ys le = ap (λ (l : List Entry). x ∷ l) (no_more xs ys (omega arith))

-- a list that begins another, and is no shorter, is that list
pub prefix_full : (xs ys : List Entry) → IsPrefix xs ys → length ys ≤ length xs → ys ≡ xs
prefix_full xs ys p le = let a : length (xs ++ p.0) ≡ length ys = ap (λ (l : List Entry). length l) p.1 in sym p.1 ∙ no_more xs p.0 (omega arith)
