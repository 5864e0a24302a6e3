-- A text is cut in one way.
use Rattle.std.proofs.Common.{◌≡◌, ℕ, ◌+◌, ◌<◌, zero, suc, true, false, IsTrue, List, [], ◌∷◌, length, get_or, take, drop, Some, None, Result, refl, sym, ap, subst, inl, inr, drop-cons, length-drop, arith}
use Rattle.std.specs.Char.{is_ascii_digit}
use Rattle.std.proofs.lemmas.Bool.{cases_order}
use Rattle.std.proofs.lemmas.Bool.Decides.{nat_tests}
use Rattle.sw_scan.specs.declared.Kind.{Kind}
use Rattle.sw_scan.specs.declared.Token.{Token}
use Rattle.sw_scan.specs.Spelling.{is_blank, begins_name, marks, kind_of, IsFirst, BeginsNone}
use Rattle.sw_scan.specs.Scans.{Scans, IsComment, before}
use Rattle.sw_scan.proofs.Fronts.{lookup-misses}

blank_none : (b : ℕ) (bs : List ℕ) → is_blank b ≡ true → kind_of (b ∷ bs) ≡ None
blank_none b bs blank =
    let begins : begins_name b ≡ false = grind (arith, nat_tests) in
    let digit : is_ascii_digit b ≡ false = grind (arith, nat_tests) in
    rw (begins, digit) (lookup-misses is_blank b bs marks blank refl)

within : (text : List ℕ) (at : ℕ) (k : Kind) (n : ℕ) → IsFirst (drop at text) k n → at < length text
within text at k n first = omega (arith, length-drop at text, first.fits, first.nonempty)

-- what a token's first byte and kind have to do with each other
headed : (text : List ℕ) (at : ℕ) (k : Kind) (n : ℕ) → at < length text → 0 < n → kind_of (take n (drop at text)) ≡ Some k → (bs : List ℕ) × (kind_of (get_or text at 0 ∷ bs) ≡ Some k)
headed text at k zero inside some kind = absurd (omega arith)
headed text at k (suc n) inside some kind = (take n (drop (suc at) text), rw (drop-cons text at 0 inside) at kind)

blank_token : (text : List ℕ) (at : ℕ) (k : Kind) (n : ℕ) → IsTrue (is_blank (get_or text at 0)) → IsFirst (drop at text) k n → ⊥
blank_token text at k n blank first =
    let head = headed text at k n (within text at k n first) first.nonempty first.kind in
    let e = blank_none (get_or text at 0) head.0 blank in
    let f = head.1 in cc

comment_token : (text : List ℕ) (at : ℕ) (k : Kind) (n : ℕ) → get_or text at 0 ≡ 35 → IsFirst (drop at text) k n → ⊥
comment_token text at k n begins first =
    let head = headed text at k n (within text at k n first) first.nonempty first.kind in
    let e : kind_of (35 ∷ head.0) ≡ Some k = rw begins at head.1 in cc

bad_token : (text : List ℕ) (at : ℕ) (k : Kind) (n : ℕ) → BeginsNone (drop at text) → IsFirst (drop at text) k n → ⊥
bad_token text at k n none first = let e = none n in let f = first.kind in cc

blank_comment : (b : ℕ) → IsTrue (is_blank b) → b ≡ 35 → ⊥
blank_comment b blank begins = let e : is_blank 35 ≡ true = rw begins at blank in cc

-- a comment has one end
one_end : (text : List ℕ) (at next other : ℕ) → IsComment text at next → IsComment text at other → next < other → ⊥
one_end text at next other c d less =
    d.one_line next c.later less (c.ends (omega (arith, d.fits)))

same_end : (text : List ℕ) (at next other : ℕ) → IsComment text at next → IsComment text at other → next ≡ other
same_end text at next other c d =
    elim (cases_order next other) [
      | inl same ↦ same
      | inr (inl less) ↦ absurd (one_end text at next other c d less)
      | inr (inr more) ↦ absurd (one_end text at other next d c more)
    ]

-- no longer token begins where one is the longest
no_longer : (rest : List ℕ) (k j : Kind) (n m : ℕ) → IsFirst rest k n → IsFirst rest j m → n < m → ⊥
no_longer rest k j n m first other less =
    let e = first.longest m less other.fits in let f = other.kind in cc

same_length : (rest : List ℕ) (k j : Kind) (n m : ℕ) → IsFirst rest k n → IsFirst rest j m → n ≡ m
same_length rest k j n m first other =
    elim (cases_order n m) [
      | inl same ↦ same
      | inr (inl less) ↦ absurd (no_longer rest k j n m first other less)
      | inr (inr more) ↦ absurd (no_longer rest j k m n other first more)
    ]

same_kind : (rest : List ℕ) (k j : Kind) (n m : ℕ) → IsFirst rest k n → IsFirst rest j m → n ≡ m → k ≡ j
same_kind rest k j n m first other same =
    let e = first.kind in let f = other.kind in
    let g : kind_of (take n rest) ≡ kind_of (take m rest) = ap (λ x. kind_of (take x rest)) same in cc

same_token : (text : List ℕ) (at : ℕ) (k j : Kind) (n m : ℕ) (r s : Result (List Token) ℕ) → n ≡ m → k ≡ j → r ≡ s → before (record { kind = k; at = at; len = n } ∷ []) r ≡ before (record { kind = j; at = at; len = m } ∷ []) s
same_token text at k j n m r s n_is k_is r_is = rw (n_is, k_is, r_is) refl

moved : (text : List ℕ) (at other : ℕ) (s : Result (List Token) ℕ) → at ≡ other → Scans text other s → Scans text at s
moved text at other s same scans = let P : ℕ → Type 0 = λ x. Scans text x s in subst P (sym same) scans

pub one_scan : (text : List ℕ) (at : ℕ) (r s : Result (List Token) ℕ) → Scans text at r → Scans text at s → r ≡ s
one_scan text at r s (Scans.end e) (Scans.end f) = refl
one_scan text at r s (Scans.end e) (Scans.blank inside b f) = absurd (omega arith)
one_scan text at r s (Scans.end e) (Scans.comment next c f) = absurd (omega (arith, c.later, c.fits))
one_scan text at r s (Scans.end e) (Scans.token k n t f) = absurd (omega (arith, within text at k n t))
one_scan text at r s (Scans.end e) (Scans.bad inside b c f) = absurd (omega arith)
one_scan text at r s (Scans.blank inside b e) (Scans.end f) = absurd (omega arith)
one_scan text at r s (Scans.blank inside b e) (Scans.blank i d f) = one_scan text (at + 1) r s e f
one_scan text at r s (Scans.blank inside b e) (Scans.comment next c f) = absurd (blank_comment _ b c.begins)
one_scan text at r s (Scans.blank inside b e) (Scans.token k n t f) = absurd (blank_token text at k n b t)
one_scan text at r s (Scans.blank inside b e) (Scans.bad i d c f) = absurd (d b)
one_scan text at r s (Scans.comment next c e) (Scans.end f) = absurd (omega (arith, c.later, c.fits))
one_scan text at r s (Scans.comment next c e) (Scans.blank i d f) = absurd (blank_comment _ d c.begins)
one_scan text at r s (Scans.comment next c e) (Scans.comment other d f) =
    one_scan text next r s e (moved text next other s (same_end text at next other c d) f)
one_scan text at r s (Scans.comment next c e) (Scans.token k n t f) = absurd (comment_token text at k n c.begins t)
one_scan text at r s (Scans.comment next c e) (Scans.bad i d g f) = absurd (g c.begins)
one_scan text at r s (Scans.token k n t e) (Scans.end f) = absurd (omega (arith, within text at k n t))
one_scan text at r s (Scans.token k n t e) (Scans.blank i d f) = absurd (blank_token text at k n d t)
one_scan text at r s (Scans.token k n t e) (Scans.comment next c f) = absurd (comment_token text at k n c.begins t)
one_scan text at r s (Scans.token {r = r'} k n t e) (Scans.token {r = s'} j m u f) =
    let same = same_length (drop at text) k j n m t u in
    same_token text at k j n m r' s' same (same_kind (drop at text) k j n m t u same)
    (one_scan text (at + n) r' s' e (moved text (at + n) (at + m) s' (ap (λ x. at + x) same) f))
one_scan text at r s (Scans.token k n t e) (Scans.bad i d g f) = absurd (bad_token text at k n f t)
one_scan text at r s (Scans.bad i b c e) (Scans.end f) = absurd (omega arith)
one_scan text at r s (Scans.bad i b c e) (Scans.blank inside d f) = absurd (b d)
one_scan text at r s (Scans.bad i b c e) (Scans.comment next d f) = absurd (c d.begins)
one_scan text at r s (Scans.bad i b c e) (Scans.token k n t f) = absurd (bad_token text at k n e t)
one_scan text at r s (Scans.bad i b c e) (Scans.bad inside d g f) = refl
