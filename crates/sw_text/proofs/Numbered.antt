-- Variables that are numbered and symbols that may change, one more at a time.
use Rattle.std.specs.Prelude.{◌≡◌, ℕ, ◌+◌, ◌<◌, List, [], ◌∷◌, ◌++◌, length, take, codes}
use Rattle.std.specs.Fmt.{decimal}
use Rattle.std.proofs.Common.{sym, ap, arith, ◌∙◌, get_or, append-nil, append_assoc}
use Rattle.std.proofs.lemmas.List.{take_more, length-take-le}
use Rattle.sw_logic.specs.declared.syntax.Symbol.{Symbol}
use Rattle.sw_logic.specs.declared.syntax.Binder.{Binder}
use Rattle.sw_text.specs.Scoped.{numbered, listed_by, mutable_from}

abbrev variable : ℕ → ℕ → Binder
variable n sort = record { name = codes "_" ++ decimal (n + 1); sort = sort }

numbered_last : (n : ℕ) (sorts : List ℕ) (sort : ℕ) → numbered n (sorts ++ sort ∷ []) ≡ numbered n sorts ++ variable (n + length sorts) sort ∷ []
numbered_last n [] sort = let e : n ≡ n + 0 = omega arith in ap (λ k. variable k sort ∷ []) e
numbered_last n (s ∷ sorts) sort =
    let e : n + 1 + length sorts ≡ n + length (s ∷ sorts) = omega arith in
    ap (λ vs. variable n s ∷ vs) (numbered_last (n + 1) sorts sort ∙ ap (λ k. numbered (n + 1) sorts ++ variable k sort ∷ []) e)

pub numbered_more : (sorts : List ℕ) (i d : ℕ) → i < length sorts → numbered 0 (take (i + 1) sorts) ≡ numbered 0 (take i sorts) ++ variable i (get_or sorts i d) ∷ []
numbered_more sorts i d h =
    let count : 0 + length (take i sorts) ≡ i = let n = length-take-le i sorts (omega arith) in omega (arith, n) in
    ap (numbered 0) (take_more sorts i d h)
    ∙ numbered_last 0 (take i sorts) (get_or sorts i d)
    ∙ ap (λ k. numbered 0 (take i sorts) ++ variable k (get_or sorts i d) ∷ []) count

mutable_last : (n : ℕ) (ss : List Symbol) (s : Symbol) → mutable_from n (ss ++ s ∷ []) ≡ mutable_from n ss ++ listed_by s.mutable (n + length ss)
mutable_last n [] s = let e : n ≡ n + 0 = omega arith in append-nil (listed_by s.mutable n) ∙ ap (listed_by s.mutable) e
mutable_last n (t ∷ ss) s =
    let e : n + 1 + length ss ≡ n + length (t ∷ ss) = omega arith in
    ap (λ ks. listed_by t.mutable n ++ ks) (mutable_last (n + 1) ss s ∙ ap (λ k. mutable_from (n + 1) ss ++ listed_by s.mutable k) e)
    ∙ sym (append_assoc (listed_by t.mutable n) (mutable_from (n + 1) ss) (listed_by s.mutable (n + length (t ∷ ss))))

pub mutable_more : (ss : List Symbol) (i : ℕ) (d : Symbol) → i < length ss → mutable_from 0 (take (i + 1) ss) ≡ mutable_from 0 (take i ss) ++ listed_by (get_or ss i d).mutable i
mutable_more ss i d h =
    let count : 0 + length (take i ss) ≡ i = let n = length-take-le i ss (omega arith) in omega (arith, n) in
    ap (mutable_from 0) (take_more ss i d h)
    ∙ mutable_last 0 (take i ss) (get_or ss i d)
    ∙ ap (λ k. mutable_from 0 (take i ss) ++ listed_by (get_or ss i d).mutable k) count
