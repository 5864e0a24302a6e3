-- What the code of the negation normal form makes of lists of parts.
use Rattle.std.specs.Prelude.{◌≡◌, ℕ, suc, ◌+◌, ◌<◌, Bool, true, false, not, List, [], ◌∷◌, ◌++◌, length, take, drop, get_or, ◌≤◌}
use Rattle.std.specs.List.{list_any, filter, remove}
use Rattle.std.proofs.Common.{arith, sym, ap, ◌∙◌}
use Rattle.std.proofs.lemmas.Bool.{cond-true, cond-false}
use Rattle.std.proofs.lemmas.List.{append-nil, append_assoc, drop_more, take_more, length-take-le, take_at, drop_at, take_all, drop_all, length-append}
use Rattle.sw_logic.specs.declared.syntax.Formula.{Formula}
use Rattle.sw_skolem.specs.Normal.{is_true, is_false, is_constant, constant, whole, gathered, all_of, any_of}

pub gathered_whole : (all : Bool) (ps : List Formula) → list_any (is_constant (not all)) ps ≡ false → whole all (filter (λ p. not (is_constant all p)) ps) ≡ gathered all ps
gathered_whole true ps e = sym (cond-false (list_any is_false ps) _ (all_of (filter (λ p. not (is_true p)) ps)) e)
gathered_whole false ps e = sym (cond-false (list_any is_true ps) _ (any_of (filter (λ p. not (is_false p)) ps)) e)

pub gathered_constant : (all : Bool) (ps : List Formula) → list_any (is_constant (not all)) ps ≡ true → constant (not all) ≡ gathered all ps
gathered_constant true ps e = sym (cond-true (list_any is_false ps) (constant false) (all_of (filter (λ p. not (is_true p)) ps)) e)
gathered_constant false ps e = sym (cond-true (list_any is_true ps) (constant true) (any_of (filter (λ p. not (is_false p)) ps)) e)

-- one part further
pub kept_more : (t : Formula → Bool) (first parts : List Formula) (at : ℕ) (x : Formula) → filter t first ≡ take at parts ++ filter t (drop at parts) → at < length parts → x ≡ get_or parts at x → t x ≡ true
    → filter t first ≡ take (at + 1) parts ++ filter t (drop (at + 1) parts)
kept_more t first parts at x e h is yes_here =
    let more : drop at parts ≡ x ∷ drop (at + 1) parts = drop_more parts at x h ∙ ap (λ (y : Formula). y ∷ drop (at + 1) parts) (sym is) in
    let taken : take (at + 1) parts ≡ take at parts ++ x ∷ [] = take_more parts at x h ∙ ap (λ (y : Formula). take at parts ++ y ∷ []) (sym is) in
    let kept : filter t (x ∷ drop (at + 1) parts) ≡ x ∷ filter t (drop (at + 1) parts) = cond-true (t x) (x ∷ filter t (drop (at + 1) parts)) (filter t (drop (at + 1) parts)) yes_here in
    e ∙ (ap (λ (ys : List Formula). take at parts ++ filter t ys) more ∙ (ap (λ (ys : List Formula). take at parts ++ ys) kept
    ∙ (sym (append_assoc (take at parts) (x ∷ []) (filter t (drop (at + 1) parts))) ∙ ap (λ (ys : List Formula). ys ++ filter t (drop (at + 1) parts)) (sym taken))))

pub dropped_more : (t : Formula → Bool) (first parts : List Formula) (at : ℕ) (x : Formula) → filter t first ≡ take at parts ++ filter t (drop at parts) → at < length parts → x ≡ get_or parts at x → t x ≡ false
    → filter t first ≡ take at (remove parts at) ++ filter t (drop at (remove parts at))
dropped_more t first parts at x e h is no_here =
    let more : drop at parts ≡ x ∷ drop (at + 1) parts = drop_more parts at x h ∙ ap (λ (y : Formula). y ∷ drop (at + 1) parts) (sym is) in
    let gone : filter t (x ∷ drop (at + 1) parts) ≡ filter t (drop (at + 1) parts) = cond-false (t x) (x ∷ filter t (drop (at + 1) parts)) (filter t (drop (at + 1) parts)) no_here in
    let count : length (take at parts) ≡ at = length-take-le at parts (omega arith) in
    let front : take at (take at parts ++ drop (suc at) parts) ≡ take at parts = take_at (take at parts) (drop (suc at) parts) at count in
    let back : drop at (take at parts ++ drop (suc at) parts) ≡ drop (suc at) parts = drop_at (take at parts) (drop (suc at) parts) at count in
    let next : at + 1 ≡ suc at = omega arith in
    let shifted : take at parts ++ filter t (drop (at + 1) parts) ≡ take at parts ++ filter t (drop (suc at) parts) = ap (λ k. take at parts ++ filter t (drop k parts)) next in
    e ∙ (ap (λ (ys : List Formula). take at parts ++ filter t ys) more ∙ (ap (λ (ys : List Formula). take at parts ++ ys) gone ∙ (shifted ∙ cc (front, back))))

pub kept_all : (t : Formula → Bool) (first parts : List Formula) (at : ℕ) → filter t first ≡ take at parts ++ filter t (drop at parts) → length parts ≤ at → parts ≡ filter t first
kept_all t first parts at e h =
    let all = take_all at parts h in
    let none = drop_all at parts h in
    sym (e ∙ (cc (all, none) ∙ append-nil parts))

pub dropped_length : (parts : List Formula) (at : ℕ) → at < length parts → at ≤ length (remove parts at)
dropped_length parts at h =
    let count : length (take at parts) ≡ at = length-take-le at parts (omega arith) in
    let whole_count = length-append (take at parts) (drop (suc at) parts) in
    omega arith
