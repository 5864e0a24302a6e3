-- Lists that begin other lists, and entries that stand at their places.
use Rattle.std.proofs.Common.{◌≡◌, ℕ, zero, suc, ◌+◌, ◌≤◌, ◌⊎◌, List, [], ◌∷◌, ◌++◌, length, refl, sym, ap, ◌∙◌, subst, ⊎_elim, inl, inr, arith, ◌==◌, if◌then◌else◌}
use mathlib.Core.Option.{some, some-injective, some-ne-none}
use mathlib.Core.List.{IsPrefix}
use lib.ListN.{get_elem?}
use Rattle.std.proofs.lemmas.Bool.Decides.{nat_tests}
use Rattle.std.proofs.lemmas.List.{length-append}
use Rattle.atomic_table.proofs.Lists.{at_longer}
use Rattle.sw_log.specs.declared.entry.Entry.{Entry}
use Rattle.sw_log.specs.LogRule.{times_at, once_below, Placed, StandIn}
use Rattle.sw_log.proofs.Totals.{once-more}

nil_behind : (xs : List Entry) → xs ++ [] ≡ xs
nil_behind [] = refl
nil_behind (x ∷ xs) = ap (λ (l : List Entry). x ∷ l) (nil_behind xs)

behind_behind : (xs ys zs : List Entry) → xs ++ (ys ++ zs) ≡ (xs ++ ys) ++ zs
behind_behind [] ys zs = refl
behind_behind (x ∷ xs) ys zs = ap (λ (l : List Entry). x ∷ l) (behind_behind xs ys zs)

pub begins_itself : (xs : List Entry) → IsPrefix xs xs
begins_itself xs = ([], nil_behind xs)

pub begins_longer : (xs ys : List Entry) → IsPrefix xs (xs ++ ys)
begins_longer xs ys = (ys, refl)

pub nothing_begins : (xs : List Entry) → IsPrefix [] xs
nothing_begins xs = (xs, refl)

pub begins_through : (xs ys zs : List Entry) → IsPrefix xs ys → IsPrefix ys zs → IsPrefix xs zs
begins_through xs ys zs p q = (p.0 ++ q.0, behind_behind xs p.0 q.0 ∙ (ap (λ (l : List Entry). l ++ q.0) p.1 ∙ q.1))

pub prefix_le : (xs ys : List Entry) → IsPrefix xs ys → length xs ≤ length ys
prefix_le xs ys p = let a : length (xs ++ p.0) ≡ length ys = ap (λ (l : List Entry). length l) p.1 in let b : length (xs ++ p.0) ≡ length xs + length p.0 = length-append xs p.0 in omega arith

no_more : (xs ys : List Entry) → length (xs ++ ys) ≤ length xs → xs ++ ys ≡ xs
no_more [] [] le = refl
no_more [] (y ∷ ys) le = absurd (omega arith)
no_more (x ∷ xs) ys le = ap (λ (l : List Entry). x ∷ l) (no_more xs ys (omega arith))

-- a list that begins another, and is no shorter, is that list
pub prefix_full : (xs ys : List Entry) → IsPrefix xs ys → length ys ≤ length xs → ys ≡ xs
prefix_full xs ys p le = let a : length (xs ++ p.0) ≡ length ys = ap (λ (l : List Entry). length l) p.1 in sym p.1 ∙ no_more xs p.0 (omega arith)

abbrev tail_of : List Entry → List Entry
tail_of [] = []
tail_of (x ∷ xs) = xs

abbrev head_or : Entry → List Entry → Entry
head_or d [] = d
head_or d (x ∷ xs) = x

both_begin : (xs ys ts us : List Entry) → xs ++ ts ≡ ys ++ us → length xs ≤ length ys → IsPrefix xs ys
both_begin [] ys ts us e le = (ys, refl)
both_begin (x ∷ xs) [] ts us e le = absurd (omega arith)
both_begin (x ∷ xs) (y ∷ ys) ts us e le = let r = both_begin xs ys ts us (ap tail_of e) (omega arith) in let h : x ≡ y = ap (head_or x) e in (r.0, λ i. h i ∷ r.1 i)

-- of two lists that begin one, the shorter begins the longer
pub shorter_begins : (xs ys log : List Entry) → IsPrefix xs log → IsPrefix ys log → length xs ≤ length ys → IsPrefix xs ys
shorter_begins xs ys log p q le = both_begin xs ys p.0 q.0 (p.1 ∙ sym q.1) le

pub at_begun : (xs ys : List Entry) (i : ℕ) (e : Entry) → IsPrefix xs ys → get_elem? xs i ≡ some e → get_elem? ys i ≡ some e
at_begun xs ys i e p at = subst (λ (l : List Entry). get_elem? l i ≡ some e) p.1 (at_longer xs p.0 i e at)

pub stand_longer : (own xs ys : List Entry) → IsPrefix xs ys → StandIn own xs → StandIn own ys
stand_longer own xs ys p stand k e at = at_begun xs ys e.under e p (stand k e at)

at_either : (xs ys : List Entry) (k : ℕ) (e : Entry) → get_elem? (xs ++ ys) k ≡ some e → (get_elem? xs k ≡ some e) ⊎ ((j : ℕ) × (get_elem? ys j ≡ some e))
at_either [] ys k e at = inr (k, at)
at_either (x ∷ xs) ys zero e at = inl at
at_either (x ∷ xs) ys (suc k) e at = at_either xs ys k e at

pub stand_both : (own more log : List Entry) → StandIn own log → StandIn more log → StandIn (own ++ more) log
stand_both own more log p q k e at = ⊎_elim (λ (h : get_elem? own k ≡ some e). p k e h) (λ (h : (j : ℕ) × (get_elem? more j ≡ some e)). q h.0 e h.1) (at_either own more k e at)

pub times-append : (i : ℕ) (xs ys : List Entry) → times_at i (xs ++ ys) ≡ times_at i xs + times_at i ys
times-append i [] ys = omega arith
times-append i (x ∷ xs) ys = let r = times-append i xs ys in omega arith

-- 1 for the place i, and else 0
abbrev pub here_at : ℕ → ℕ → ℕ
here_at i j = if j == i then 1 else 0

-- what stands at its place from n on is there once
once_from : (i n : ℕ) (xs : List Entry) → ((k : ℕ) (e : Entry) → get_elem? xs k ≡ some e → e.under ≡ n + k) → times_at i xs + once_below i n ≡ once_below i (n + length xs)
once_from i n [] placed = let l : once_below i (n + length {A = Entry} []) ≡ once_below i n = ap (once_below i) (omega arith) in omega (arith, l)
once_from i n (x ∷ xs) placed = let h : x.under ≡ n = placed 0 x refl ∙ omega arith in
    let r = once_from i (n + 1) xs (λ k e at. placed (suc k) e at ∙ omega arith) in let m = once-more i n in
    let t : here_at i x.under ≡ here_at i n = ap (here_at i) h in
    let l : once_below i (n + 1 + length xs) ≡ once_below i (n + length (x ∷ xs)) = ap (once_below i) (omega arith) in omega (arith, r, m, t, l)

none_below : (i : ℕ) → once_below i 0 ≡ 0
none_below i = grind (arith, nat_tests)

pub placed_once : (i : ℕ) (xs : List Entry) → Placed xs → times_at i xs ≡ once_below i (length xs)
placed_once i xs placed = let r = once_from i 0 xs (λ k e at. placed k e at ∙ omega arith) in let z = none_below i in let l : once_below i (0 + length xs) ≡ once_below i (length xs) = ap (once_below i) (omega arith) in omega (arith, r, z, l)

pub placed_stand : (xs : List Entry) → Placed xs → StandIn xs xs
placed_stand xs placed k e at = subst (λ (j : ℕ). get_elem? xs j ≡ some e) (sym (placed k e at)) at

placed_from : (n : ℕ) (xs : List Entry) (x : Entry) → ((k : ℕ) (e : Entry) → get_elem? xs k ≡ some e → e.under ≡ n + k) → x.under ≡ n + length xs → (k : ℕ) (e : Entry) → get_elem? (xs ++ x ∷ []) k ≡ some e → e.under ≡ n + k
placed_from n [] x placed last zero e at = let h : x ≡ e = some-injective x e at in sym (ap (λ (u : Entry). u.under) h) ∙ last
placed_from n [] x placed last (suc k) e at = absurd (some-ne-none e (sym at))
placed_from n (y ∷ ys) x placed last zero e at = placed 0 e at
placed_from n (y ∷ ys) x placed last (suc k) e at = placed_from (n + 1) ys x (λ j u h. placed (suc j) u h ∙ omega arith) (last ∙ omega arith) k e at ∙ omega arith

pub placed_more : (xs : List Entry) (x : Entry) → Placed xs → x.under ≡ length xs → Placed (xs ++ x ∷ [])
placed_more xs x placed last k e at = placed_from 0 xs x (λ j u h. placed j u h ∙ omega arith) (last ∙ omega arith) k e at ∙ omega arith
