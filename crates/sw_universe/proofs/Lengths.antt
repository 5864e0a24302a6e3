-- How many ground terms the symbols of a signature give.
use Rattle.std.specs.Prelude.{◌≡◌, ℕ, zero, suc, ◌+◌, ◌*◌, ◌^◌, ◌≤◌, nat_lt, true, false, ◌&&◌, ◌==◌, List, [], ◌∷◌, length, map}
use Rattle.std.specs.List.{flat_map, filter, enumerate_from, range_with_len, sum_by, list_all}
use Rattle.std.proofs.Common.{arith, refl, sym, ap, subst, ◌∙◌, inl, inr}
use Rattle.std.proofs.Math.Nat.{suc-mul}
use Rattle.std.proofs.Math.ListN.{get_or-eq_default}
use Rattle.std.proofs.lemmas.Bool.{cases_Bool, cases_lt, and_parts}
use Rattle.std.proofs.lemmas.Bool.Decides.{nat_tests}
use Rattle.std.proofs.lemmas.List.{length-append, length-map}
use Rattle.std.proofs.lemmas.List.Sums.{sum_by-cons}
use Rattle.std.proofs.lemmas.List.FromFn.{get_or-map-range_with_len, length-map-range_with_len}
use Rattle.sw_logic.specs.declared.syntax.SymbolKind.{SymbolKind}
use Rattle.sw_logic.specs.declared.syntax.SymbolKind.TheVariants.{Relation, Constant, Function}
use Rattle.sw_logic.specs.declared.syntax.Symbol.{Symbol}
use Rattle.sw_logic.specs.declared.syntax.Signature.{Signature}
use Rattle.sw_logic.specs.declared.syntax.Term.{Term}
use Rattle.sw_logic.specs.declared.syntax.Term.TheVariants.{Apply}
use Rattle.sw_logic.specs.Signatures.{is_signature, is_symbol, is_of_kind}
use Rattle.sw_universe.specs.GroundTerms.{tuples, is_constant, is_function, constants, applications, terms_within, terms_of}
use Rattle.sw_universe.specs.Sizes.{capped}
use Rattle.sw_universe.specs.Counting.{count_in, one_constant, choices_in, applied_count, constant_count, count_over, AreCounts}
use Rattle.sw_universe.proofs.Counted.{add_same, mul_same, min_min}

longer_count : {X : Type 0} (ts : List (List X)) (xs : List X) → length (flat_map (λ x. map (λ t. x ∷ t) ts) xs) ≡ length xs * length ts
longer_count ts [] = omega arith
longer_count ts (x ∷ xs) =
    let rest = longer_count ts xs in
    let both = length-append (map (λ t. x ∷ t) ts) (flat_map (λ y. map (λ t. y ∷ t) ts) xs) in
    let one = length-map ts (λ t. x ∷ t) in
    rw (suc-mul (length xs) (length ts)) (omega arith)

tuple_count : (f : ℕ → List Term) (args : List ℕ) → length (tuples (map f args)) ≡ choices_in (λ a. length (f a)) args
tuple_count f [] = refl
tuple_count f (a ∷ args) = longer_count (tuples (map f args)) (f a) ∙ ap (λ n. length (f a) * n) (tuple_count f args)

constant_lengths : (sort from : ℕ) (xs : List Symbol) → length (map (λ (s : ℕ × Symbol). Apply s.0 false []) (filter (λ s. is_constant s.1.kind && (s.1.gives == sort)) (enumerate_from from xs))) ≡ sum_by (one_constant sort) xs
constant_lengths sort from [] = refl
constant_lengths sort from (x ∷ xs) =
    let rest = constant_lengths sort (from + 1) xs in
    elim (cases_Bool (is_constant x.kind && (x.gives == sort))) [
      | inl t ↦ rw (sum_by-cons (one_constant sort) x xs, t) (omega arith)
      | inr n ↦ rw (sum_by-cons (one_constant sort) x xs, n) (omega arith)
    ]

applied_lengths : (f : ℕ → List Term) (sort from : ℕ) (xs : List Symbol)
    → length (flat_map (λ (s : ℕ × Symbol). map (Apply s.0 false) (tuples (map f s.1.args))) (filter (λ s. is_function s.1.kind && (s.1.gives == sort)) (enumerate_from from xs))) ≡ sum_by (applied_count (λ a. length (f a)) sort) xs
applied_lengths f sort from [] = refl
applied_lengths f sort from (x ∷ xs) =
    let rest = applied_lengths f sort (from + 1) xs in
    let here = length-map (tuples (map f x.args)) (Apply from false) ∙ tuple_count f x.args in
    let both = length-append (map (Apply from false) (tuples (map f x.args))) (flat_map (λ (s : ℕ × Symbol). map (Apply s.0 false) (tuples (map f s.1.args))) (filter (λ s. is_function s.1.kind && (s.1.gives == sort)) (enumerate_from (from + 1) xs))) in
    elim (cases_Bool (is_function x.kind && (x.gives == sort))) [
      | inl t ↦ rw (sum_by-cons (applied_count (λ a. length (f a)) sort) x xs, t) (omega arith)
      | inr n ↦ rw (sum_by-cons (applied_count (λ a. length (f a)) sort) x xs, n) (omega arith)
    ]

deeper_length : (sig : Signature) (depth sort : ℕ) → length (terms_within sig (suc depth) sort) ≡ sum_by (one_constant sort) sig.symbols + sum_by (applied_count (λ a. length (terms_within sig depth a)) sort) sig.symbols
deeper_length sig depth sort =
    let both = length-append (constants sig sort) (applications sig (terms_within sig depth) sort) in
    let one = constant_lengths sort 0 sig.symbols in
    let other = applied_lengths (terms_within sig depth) sort 0 sig.symbols in
    omega arith

-- numbers that are alike once capped
abbrev pub Alike : (ℕ → ℕ) → (ℕ → ℕ) → Type 0
Alike f g = (x : ℕ) → capped (f x) ≡ capped (g x)

pub sums_alike : {X : Type 0} (f g : X → ℕ) (xs : List X) → ((x : X) → capped (f x) ≡ capped (g x)) → capped (sum_by f xs) ≡ capped (sum_by g xs)
sums_alike f g [] h = refl
sums_alike f g (x ∷ xs) h =
    ap capped (sum_by-cons f x xs) ∙ (add_same (2 ^ 64) (f x) (g x) (sum_by f xs) (sum_by g xs) (h x) (sums_alike f g xs h) ∙ ap capped (sym (sum_by-cons g x xs)))

pub choices_alike : (f g : ℕ → ℕ) (sorts : List ℕ) → Alike f g → capped (choices_in f sorts) ≡ capped (choices_in g sorts)
choices_alike f g [] h = refl
choices_alike f g (s ∷ sorts) h = mul_same (2 ^ 64) (f s) (g s) (choices_in f sorts) (choices_in g sorts) (h s) (choices_alike f g sorts h)

applied_alike : (f g : ℕ → ℕ) (sort : ℕ) (s : Symbol) → Alike f g → capped (applied_count f sort s) ≡ capped (applied_count g sort s)
applied_alike f g sort s h =
    elim (cases_Bool (is_function s.kind && (s.gives == sort))) [
      | inl t ↦ rw t (choices_alike f g s.args h)
      | inr n ↦ rw n refl
    ]

-- no symbol gives a sort that there is not
differ : (a n sort : ℕ) → nat_lt a n ≡ true → n ≤ sort → (a == sort) ≡ false
differ a n sort e h = grind (arith, nat_tests)

not_given : (kind : SymbolKind) (args : List ℕ) (gives n sort : ℕ) → is_of_kind n kind args gives ≡ true → n ≤ sort → ((is_constant kind && (gives == sort)) ≡ false) × ((is_function kind && (gives == sort)) ≡ false)
not_given Relation args gives n sort e h = (refl, refl)
not_given Constant args gives n sort e h = (differ gives n sort (and_parts (length args == 0) (nat_lt gives n) e).1 h, refl)
not_given Function args gives n sort e h = (refl, differ gives n sort (and_parts (nat_lt 0 (length args)) (nat_lt gives n) e).1 h)

none_given : (count : ℕ → ℕ) (n sort : ℕ) (xs : List Symbol) → list_all (is_symbol n) xs ≡ true → n ≤ sort → (sum_by (one_constant sort) xs ≡ 0) × (sum_by (applied_count count sort) xs ≡ 0)
none_given count n sort [] e h = (refl, refl)
none_given count n sort (x ∷ xs) e h =
    let parts = and_parts (is_symbol n x) (list_all (is_symbol n) xs) e in
    let here = and_parts (list_all (λ s. nat_lt s n) x.args) (is_of_kind n x.kind x.args x.gives) parts.0 in
    let tests = not_given x.kind x.args x.gives n sort here.1 h in
    let rest = none_given count n sort xs parts.1 h in
    let a = rest.0 in
    let b = rest.1 in
    (rw (sum_by-cons (one_constant sort) x xs, tests.0) (omega arith), rw (sum_by-cons (applied_count count sort) x xs, tests.1) (omega arith))

table_counts : (f : ℕ → ℕ) (n : ℕ) → ((sort : ℕ) → n ≤ sort → f sort ≡ 0) → (sort : ℕ) → count_in (map f (range_with_len 0 n)) sort ≡ f sort
table_counts f n none sort =
    elim (cases_lt sort n) [
      | inl l ↦ get_or-map-range_with_len f 0 n sort sort 0 l (omega arith)
      | inr l ↦ get_or-eq_default (map f (range_with_len 0 n)) 0 (let e = length-map-range_with_len f 0 n in omega arith) ∙ sym (none sort (omega arith))
    ]

pub first_counts : (sig : Signature) → is_signature sig ≡ true → AreCounts sig 0 (map (constant_count sig.symbols) (range_with_len 0 (length sig.sorts)))
first_counts sig ok sort =
    let n = length sig.sorts in
    table_counts (constant_count sig.symbols) n (λ s l. ap capped (none_given (λ a. 0) n s sig.symbols ok l).0) sort ∙ ap capped (sym (constant_lengths sort 0 sig.symbols))

pub deeper_counts : (sig : Signature) (depth : ℕ) (counts : List ℕ) → is_signature sig ≡ true → AreCounts sig depth counts → AreCounts sig (depth + 1) (map (count_over sig.symbols counts) (range_with_len 0 (length sig.sorts)))
deeper_counts sig depth counts ok are sort =
    let n = length sig.sorts in
    let c = count_in counts in
    let g = λ (a : ℕ). length (terms_within sig depth a) in
    let none : (s : ℕ) → n ≤ s → count_over sig.symbols counts s ≡ 0 =
    λ s l. let given = none_given c n s sig.symbols ok l in ap capped (ap (λ k. k + sum_by (applied_count c s) sig.symbols) given.0 ∙ (ap (λ k. 0 + k) given.1 ∙ refl)) in
    let alike : Alike c g = λ a. ap capped (are a) ∙ min_min (2 ^ 64) (g a) in
    let next : suc depth ≡ depth + 1 = omega arith in
    table_counts (count_over sig.symbols counts) n none sort
    ∙ (add_same (2 ^ 64) (sum_by (one_constant sort) sig.symbols) (sum_by (one_constant sort) sig.symbols) (sum_by (applied_count c sort) sig.symbols) (sum_by (applied_count g sort) sig.symbols) refl
    (sums_alike (applied_count c sort) (applied_count g sort) sig.symbols (λ s. applied_alike c g sort s alike))
    ∙ (ap capped (sym (deeper_length sig depth sort)) ∙ ap (λ (k : ℕ). capped (length (terms_within sig k sort))) next))

-- a sort that there is not has no terms
within_none : (sig : Signature) → is_signature sig ≡ true → (depth sort : ℕ) → length sig.sorts ≤ sort → length (terms_within sig depth sort) ≡ 0
within_none sig ok zero sort far = constant_lengths sort 0 sig.symbols ∙ (none_given (λ a. 0) (length sig.sorts) sort sig.symbols ok far).0
within_none sig ok (suc depth) sort far =
    let e = deeper_length sig depth sort in
    let none = none_given (λ a. length (terms_within sig depth a)) (length sig.sorts) sort sig.symbols ok far in
    let a = none.0 in
    let b = none.1 in
    omega arith

pub none_beyond : (sig : Signature) → is_signature sig ≡ true → (sort : ℕ) → length sig.sorts ≤ sort → length (terms_of sig sort) ≡ 0
none_beyond sig ok sort far = within_none sig ok (length sig.sorts) sort far

-- counts that one more nesting leaves as they are stay so
pub counts_stay : (sig : Signature) (depth : ℕ) (counts : List ℕ) → is_signature sig ≡ true → AreCounts sig depth counts → map (count_over sig.symbols counts) (range_with_len 0 (length sig.sorts)) ≡ counts → (more : ℕ)
    → AreCounts sig (depth + more) counts
counts_stay sig depth counts ok are same zero = let here : depth ≡ depth + zero = omega arith in subst (λ n. AreCounts sig n counts) here are
counts_stay sig depth counts ok are same (suc more) =
    let next : depth + more + 1 ≡ depth + suc more = omega arith in
    subst (λ n. AreCounts sig n counts) next (subst (AreCounts sig (depth + more + 1)) same (deeper_counts sig (depth + more) counts ok (counts_stay sig depth counts ok are same more)))
