-- The ground terms, symbol by symbol.
use Rattle.std.specs.Prelude.{◌≡◌, ℕ, suc, ◌+◌, ◌<◌, Bool, true, false, cond, ◌&&◌, ◌==◌, List, [], ◌∷◌, ◌++◌, length, map, take, get_or, nat_lt}
use Rattle.std.specs.List.{flat_map, filter, enumerate_from, range_with_len, list_all, AllByRecursion}
use Rattle.std.proofs.Common.{arith, refl, ap, subst, ◌∙◌, inl, inr}
use Rattle.std.proofs.lemmas.Bool.{cases_Bool, and_parts}
use Rattle.std.proofs.lemmas.Bool.Decides.{nat_tests}
use Rattle.std.proofs.lemmas.Grind.{flat_map-append}
use Rattle.std.proofs.lemmas.List.{append-nil, take_more, length-take-le, map-append}
use Rattle.std.proofs.lemmas.List.FromFn.{get_or-map-range_with_len}
use Rattle.sw_logic.specs.declared.syntax.Symbol.{Symbol}
use Rattle.sw_logic.specs.declared.syntax.Signature.{Signature}
use Rattle.sw_logic.specs.declared.syntax.Term.{Term}
use Rattle.sw_logic.specs.declared.syntax.Term.TheVariants.{Apply}
use Rattle.sw_universe.specs.GroundTerms.{tuples, is_constant, is_function, constants, applications, terms_within}
use Rattle.sw_universe.specs.Listing.{listed_in, constant_of, applied, terms_over}
use Rattle.sw_logic.specs.Signatures.{is_symbol, is_of_kind}
use Rattle.std.proofs.lemmas.List.Elements.{filter-append}
use Rattle.sw_lists.proofs.Made.{map_same}

-- what the first symbols give
abbrev pub constants_among : List Symbol → ℕ → List Term
constants_among symbols sort = map (λ s. Apply s.0 false []) (filter (λ s. is_constant s.1.kind && (s.1.gives == sort)) (enumerate_from 0 symbols))

abbrev pub applications_among : (ℕ → List Term) → List Symbol → ℕ → List Term
applications_among listed symbols sort = flat_map (λ s. map (Apply s.0 false) (tuples (map listed s.1.args))) (filter (λ s. is_function s.1.kind && (s.1.gives == sort)) (enumerate_from 0 symbols))

enumerate_after : (n : ℕ) (xs : List Symbol) (x : Symbol) → enumerate_from n (xs ++ x ∷ []) ≡ enumerate_from n xs ++ (n + length xs, x) ∷ []
enumerate_after n [] x = let e : n ≡ n + 0 = omega arith in ap (λ (k : ℕ). (k, x) ∷ []) e
enumerate_after n (y ∷ xs) x =
    let rest = enumerate_after (n + 1) xs x in
    let e : n + 1 + length xs ≡ n + suc (length xs) = omega arith in
    ap (λ (ys : List (ℕ × Symbol)). (n, y) ∷ ys) (rest ∙ ap (λ (k : ℕ). enumerate_from (n + 1) xs ++ (k, x) ∷ []) e)

enumerate_more : (xs : List Symbol) (i : ℕ) (d : Symbol) → i < length xs → enumerate_from 0 (take (i + 1) xs) ≡ enumerate_from 0 (take i xs) ++ (i, get_or xs i d) ∷ []
enumerate_more xs i d l =
    let count : length (take i xs) ≡ i = length-take-le i xs (omega arith) in
    let e : 0 + length (take i xs) ≡ i = omega arith in
    ap (λ (ys : List Symbol). enumerate_from 0 ys) (take_more xs i d l) ∙ (enumerate_after 0 (take i xs) (get_or xs i d) ∙ ap (λ (k : ℕ). enumerate_from 0 (take i xs) ++ (k, get_or xs i d) ∷ []) e)

one_kept : {X Y : Type 0} (p : X → Bool) (f : X → List Y) (x : X) → flat_map f (filter p (x ∷ [])) ≡ cond (p x) (f x) []
one_kept p f x = elim (cases_Bool (p x)) [ inl t ↦ rw t (append-nil (f x)) | inr n ↦ rw n refl ]

one_mapped : {X Y : Type 0} (p : X → Bool) (f : X → Y) (x : X) → map f (filter p (x ∷ [])) ≡ cond (p x) (f x ∷ []) []
one_mapped p f x = elim (cases_Bool (p x)) [ inl t ↦ rw t refl | inr n ↦ rw n refl ]

pub constants_more : (xs : List Symbol) (sort i : ℕ) (d : Symbol) → i < length xs → constants_among (take (i + 1) xs) sort ≡ constants_among (take i xs) sort ++ constant_of i (get_or xs i d) sort
constants_more xs sort i d l =
    let p = λ (s : ℕ × Symbol). is_constant s.1.kind && (s.1.gives == sort) in
    let f = λ (s : ℕ × Symbol). Apply s.0 false [] in
    let x : ℕ × Symbol = (i, get_or xs i d) in
    ap (λ (es : List (ℕ × Symbol)). map f (filter p es)) (enumerate_more xs i d l)
    ∙ (ap (map f) (filter-append p (enumerate_from 0 (take i xs)) (x ∷ []))
    ∙ (map-append f (filter p (enumerate_from 0 (take i xs))) (filter p (x ∷ []))
    ∙ ap (λ (ts : List Term). constants_among (take i xs) sort ++ ts) (one_mapped p f x)))

pub applications_more : (listed : ℕ → List Term) (xs : List Symbol) (sort i : ℕ) (d : Symbol) → i < length xs → applications_among listed (take (i + 1) xs) sort ≡ applications_among listed (take i xs) sort ++ applied listed i (get_or xs i d) sort
applications_more listed xs sort i d l =
    let p = λ (s : ℕ × Symbol). is_function s.1.kind && (s.1.gives == sort) in
    let f = λ (s : ℕ × Symbol). map (Apply s.0 false) (tuples (map listed s.1.args)) in
    let x : ℕ × Symbol = (i, get_or xs i d) in
    ap (λ (es : List (ℕ × Symbol)). flat_map f (filter p es)) (enumerate_more xs i d l)
    ∙ (ap (flat_map f) (filter-append p (enumerate_from 0 (take i xs)) (x ∷ []))
    ∙ (flat_map-append f (filter p (enumerate_from 0 (take i xs))) (filter p (x ∷ []))
    ∙ ap (λ (ts : List Term). applications_among listed (take i xs) sort ++ ts) (one_kept p f x)))

-- tables of the terms of so many sorts
in_table : (f : ℕ → List Term) (n sort : ℕ) → sort < n → listed_in (map f (range_with_len 0 n)) sort ≡ f sort
in_table f n sort l = get_or-map-range_with_len f 0 n sort sort [] l (omega arith)

all_listed : (f : ℕ → List Term) (n : ℕ) (args : List ℕ) → AllByRecursion (λ a. a < n) args → map (listed_in (map f (range_with_len 0 n))) args ≡ map f args
all_listed f n [] h = refl
all_listed f n (a ∷ args) h = let rest = all_listed f n args h.1 in let here = in_table f n a h.0 in cc (rest, here)

abbrev ArgsBelow : ℕ → ℕ × Symbol → Type 0
ArgsBelow n s = AllByRecursion (λ a. a < n) s.1.args

filter_all : {X : Type 0} (P : X → Type 0) (p : X → Bool) (xs : List X) → AllByRecursion P xs → AllByRecursion P (filter p xs)
filter_all P p [] h = tt
filter_all P p (x ∷ xs) h = elim (cases_Bool (p x)) [ inl t ↦ rw t (h.0, filter_all P p xs h.1) | inr n ↦ rw n (filter_all P p xs h.1) ]

enumerated : (n from : ℕ) (xs : List Symbol) → AllByRecursion (λ (s : Symbol). AllByRecursion (λ a. a < n) s.args) xs → AllByRecursion (ArgsBelow n) (enumerate_from from xs)
enumerated n from [] h = tt
enumerated n from (x ∷ xs) h = (h.0, enumerated n (from + 1) xs h.1)

flat_listed : (f : ℕ → List Term) (n : ℕ) (es : List (ℕ × Symbol)) → AllByRecursion (ArgsBelow n) es
    → flat_map (λ (s : ℕ × Symbol). map (Apply s.0 false) (tuples (map (listed_in (map f (range_with_len 0 n))) s.1.args))) es ≡ flat_map (λ (s : ℕ × Symbol). map (Apply s.0 false) (tuples (map f s.1.args))) es
flat_listed f n [] h = refl
flat_listed f n (e ∷ es) h =
    let rest = flat_listed f n es h.1 in
    let here = ap (λ (ls : List (List Term)). map (Apply e.0 false) (tuples ls)) (all_listed f n e.1.args h.0) in
    cc (rest, here)

applications_listed : (sig : Signature) (f : ℕ → List Term) (n sort : ℕ) → AllByRecursion (λ (s : Symbol). AllByRecursion (λ a. a < n) s.args) sig.symbols
    → applications sig (listed_in (map f (range_with_len 0 n))) sort ≡ applications sig f sort
applications_listed sig f n sort h =
    let p = λ (s : ℕ × Symbol). is_function s.1.kind && (s.1.gives == sort) in
    flat_listed f n (filter p (enumerate_from 0 sig.symbols)) (filter_all (ArgsBelow n) p (enumerate_from 0 sig.symbols) (enumerated n 0 sig.symbols h))

-- one level deeper
pub next_level : (sig : Signature) (n depth : ℕ) → AllByRecursion (λ (s : Symbol). AllByRecursion (λ a. a < n) s.args) sig.symbols
    → map (terms_over sig (map (terms_within sig depth) (range_with_len 0 n))) (range_with_len 0 n) ≡ map (terms_within sig (depth + 1)) (range_with_len 0 n)
next_level sig n depth h =
    let e : suc depth ≡ depth + 1 = omega arith in
    subst (λ (k : ℕ). map (terms_over sig (map (terms_within sig depth) (range_with_len 0 n))) (range_with_len 0 n) ≡ map (terms_within sig k) (range_with_len 0 n)) e
    (map_same (terms_over sig (map (terms_within sig depth) (range_with_len 0 n))) (terms_within sig (suc depth)) (range_with_len 0 n)
    (λ sort. ap (λ (ts : List Term). constants sig sort ++ ts) (applications_listed sig (terms_within sig depth) n sort h)))

args_below : (n : ℕ) (sorts : List ℕ) → list_all (λ sort. nat_lt sort n) sorts ≡ true → AllByRecursion (λ a. a < n) sorts
args_below n [] e = tt
args_below n (s ∷ sorts) e = let parts = and_parts (nat_lt s n) (list_all (λ sort. nat_lt sort n) sorts) e in let t = parts.0 in (grind (arith, nat_tests), args_below n sorts parts.1)

pub symbols_below : (n : ℕ) (symbols : List Symbol) → list_all (is_symbol n) symbols ≡ true → AllByRecursion (λ (s : Symbol). AllByRecursion (λ a. a < n) s.args) symbols
symbols_below n [] e = tt
symbols_below n (s ∷ symbols) e =
    let parts = and_parts (is_symbol n s) (list_all (is_symbol n) symbols) e in
    let here = and_parts (list_all (λ sort. nat_lt sort n) s.args) (is_of_kind n s.kind s.args s.gives) parts.0 in
    (args_below n s.args here.0, symbols_below n symbols parts.1)
