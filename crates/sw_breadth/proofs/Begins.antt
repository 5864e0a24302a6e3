-- Lists that begin other lists.
use Rattle.std.specs.Prelude.{◌≡◌, ℕ, ◌<◌, ◌≤◌, Bool, true, false, cond, List, [], ◌++◌, length, take, drop, Some, slice_get}
use Rattle.std.proofs.Common.{sym, ap, ◌∙◌, subst, append_assoc}
use Rattle.std.proofs.lemmas.List.{append-nil, take-append-le, take-append-drop}
use Rattle.std.proofs.Math.Seq.{take-append_seam}
use mathlib.Core.List.{IsPrefix}
use Rattle.sw_lists.proofs.Places.{get_append_left}

pub begins_itself : {X : Type 0} (xs : List X) → IsPrefix xs xs
begins_itself xs = ([], append-nil xs)

pub begins_through : {X : Type 0} (xs ys zs : List X) → IsPrefix xs ys → IsPrefix ys zs → IsPrefix xs zs
begins_through xs ys zs p q = (p.0 ++ q.0, sym (append_assoc xs p.0 q.0) ∙ (ap (λ l. l ++ q.0) p.1 ∙ q.1))

pub at_begin : {X : Type 0} (xs ys : List X) (i : ℕ) (x : X) → IsPrefix xs ys → slice_get xs i ≡ Some x → slice_get ys i ≡ Some x
at_begin xs ys i x p e = subst (λ l. slice_get l i ≡ Some x) p.1 (get_append_left xs p.0 i x e)

pub take_begin : {X : Type 0} (n : ℕ) (xs ys : List X) → IsPrefix xs ys → n ≤ length xs → take n ys ≡ take n xs
take_begin n xs ys p h = ap (take n) (sym p.1) ∙ take-append-le n xs p.0 h

-- a front of a list is one of each longer list
pub front_begin : {X : Type 0} (n : ℕ) (xs ys : List X) → IsPrefix xs ys → take (length (take n xs)) ys ≡ take n xs
front_begin n xs ys p =
    let all : ys ≡ take n xs ++ (drop n xs ++ p.0) = sym p.1 ∙ (ap (λ l. l ++ p.0) (sym (take-append-drop n xs)) ∙ append_assoc (take n xs) (drop n xs) p.0) in
    ap (take (length (take n xs))) all ∙ take-append_seam (take n xs) (drop n xs ++ p.0)

-- where the shorter of two lists begins the longer, both begin it
pub both_begin : {X : Type 0} (b : Bool) (xs ys : List X) → IsPrefix (cond b xs ys) (cond b ys xs) → IsPrefix xs (cond b ys xs) × IsPrefix ys (cond b ys xs)
both_begin true xs ys p = (p, begins_itself ys)
both_begin false xs ys p = (begins_itself xs, p)
