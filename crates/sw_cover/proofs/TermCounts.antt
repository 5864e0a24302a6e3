-- How many terms there are, without making them: those without applications, and for each function the tuples of less deep terms.
use Rattle.std.specs.Prelude.{◌⊎◌, ◌≡◌, ℕ, zero, suc, ◌+◌, ◌*◌, ◌<◌, ◌≤◌, ◌==◌, ◌&&◌, max, nat_le, not, Bool, true, false, cond, List, [], ◌∷◌, ◌++◌, map, length}
use Rattle.std.specs.List.{AllByRecursion, flat_map, filter, list_all}
use Rattle.std.proofs.Common.{refl, arith, sym, ap, ◌∙◌, length-append, eq-eqb, inl, inr}
use Rattle.std.proofs.lemmas.Bool.{false≢true, cases_lt}
use Rattle.std.proofs.lemmas.List.Folds.{list_all-map}
use Rattle.sw_logic.specs.declared.syntax.Symbol.{Symbol}
use Rattle.sw_logic.specs.declared.syntax.Signature.{Signature}
use Rattle.sw_logic.specs.declared.syntax.Term.{Term}
use Rattle.sw_logic.specs.declared.syntax.Term.TheVariants.{Apply}
use Rattle.sw_logic.specs.Truth.{greatest}
use Rattle.sw_meaning.specs.Space.{depth_of}
use Rattle.sw_meaning.specs.Classes.{terms_of, tuples, symbols_of, giving, is_function}
use Rattle.sw_lists.proofs.Each.{each-weaker}
use Rattle.sw_logic.specs.Signatures.{is_signature}
use Rattle.sw_cover.specs.Counting.{product, total}
use Rattle.sw_cover.proofs.Terms.{IsTermOf, AreArguments, terms_are, arguments_are, deep_terms}

pub length_map : {X Y : Type 0} (f : X → Y) (xs : List X) → length (map f xs) ≡ length xs
length_map f [] = refl
length_map f (x ∷ xs) = ap suc (length_map f xs)

pub length_flat : {X Y : Type 0} (f : X → List Y) (xs : List X) → length (flat_map f xs) ≡ total (λ x. length (f x)) xs
length_flat f [] = refl
length_flat f (x ∷ xs) = length-append (f x) (flat_map f xs) ∙ ap (λ n. length (f x) + n) (length_flat f xs)

filter_append : {X : Type 0} (test : X → Bool) (xs ys : List X) → length (filter test (xs ++ ys)) ≡ length (filter test xs) + length (filter test ys)
filter_append test [] ys = omega arith
filter_append {X} test (x ∷ xs) ys = kept (test x) (filter_append test xs ys)
  where
    kept : (b : Bool) → length (filter test (xs ++ ys)) ≡ length (filter test xs) + length (filter test ys) → length (cond b (x ∷ filter test (xs ++ ys)) (filter test (xs ++ ys))) ≡ length (cond b (x ∷ filter test xs) (filter test xs)) + length (filter test ys)
    kept true e = omega (arith, e)
    kept false e = e

-- the tuples of which each element passes
module _ {X : Type 0} (q : X → Bool) where
  abbrev every : List X → Bool
  every xs = list_all q xs

  with_first : (x : X) (ts : List (List X)) (b : Bool) → q x ≡ b → length (filter every (map (λ t. x ∷ t) ts)) ≡ cond b (length (filter every ts)) 0
  with_first x [] true e = refl
  with_first x [] false e = refl
  with_first x (t ∷ ts) true e =
      ap (λ b. length (cond (b && every t) ((x ∷ t) ∷ filter every (map (λ t. x ∷ t) ts)) (filter every (map (λ t. x ∷ t) ts)))) e ∙ kept (every t) (with_first x ts true e)
    where
      kept : (c : Bool) → length (filter every (map (λ t. x ∷ t) ts)) ≡ length (filter every ts) → length (cond c ((x ∷ t) ∷ filter every (map (λ t. x ∷ t) ts)) (filter every (map (λ t. x ∷ t) ts))) ≡ length (cond c (t ∷ filter every ts) (filter every ts))
      kept true f = ap suc f
      kept false f = f
  with_first x (t ∷ ts) false e =
      ap (λ b. length (cond (b && every t) ((x ∷ t) ∷ filter every (map (λ t. x ∷ t) ts)) (filter every (map (λ t. x ∷ t) ts)))) e ∙ with_first x ts false e

  row : (xs : List X) (ts : List (List X)) → length (filter every (flat_map (λ x. map (λ t. x ∷ t) ts) xs)) ≡ length (filter q xs) * length (filter every ts)
  row [] ts = omega arith
  row (x ∷ xs) ts =
      filter_append every (map (λ t. x ∷ t) ts) (flat_map (λ x. map (λ t. x ∷ t) ts) xs)
      ∙ (ap (λ n. n + length (filter every (flat_map (λ x. map (λ t. x ∷ t) ts) xs))) (with_first x ts (q x) refl) ∙ kept (q x) (row xs ts))
    where
      kept : (b : Bool) → length (filter every (flat_map (λ x. map (λ t. x ∷ t) ts) xs)) ≡ length (filter q xs) * length (filter every ts)
          → cond b (length (filter every ts)) 0 + length (filter every (flat_map (λ x. map (λ t. x ∷ t) ts) xs)) ≡ length (cond b (x ∷ filter q xs) (filter q xs)) * length (filter every ts)
      kept true f = omega (arith, f)
      kept false f = omega (arith, f)

  passing_tuples : (xss : List (List X)) → length (filter every (tuples xss)) ≡ product (map (λ xs. length (filter q xs)) xss)
  passing_tuples [] = refl
  passing_tuples (xs ∷ xss) = row xs (tuples xss) ∙ ap (λ n. length (filter q xs) * n) (passing_tuples xss)

all_kept : {X : Type 0} (test : X → Bool) (xs : List X) → AllByRecursion (λ x. test x ≡ true) xs → length (filter test xs) ≡ length xs
all_kept test [] a = refl
all_kept test (x ∷ xs) a = ap (λ b. length (cond b (x ∷ filter test xs) (filter test xs))) a.0 ∙ ap suc (all_kept test xs a.1)

none_kept : {X : Type 0} (test : X → Bool) (xs : List X) → AllByRecursion (λ x. test x ≡ false) xs → length (filter test xs) ≡ 0
none_kept test [] a = refl
none_kept test (x ∷ xs) a = ap (λ b. length (cond b (x ∷ filter test xs) (filter test xs))) a.0 ∙ none_kept test xs a.1

-- two tests of which one is the other's negation
split : {X : Type 0} (p q : X → Bool) (xs : List X) → AllByRecursion (λ x. p x ≡ not (q x)) xs → length (filter p xs) + length (filter q xs) ≡ length xs
split p q [] a = refl
split {X} p q (x ∷ xs) a = both (p x) (q x) a.0 (split p q xs a.1)
  where
    both : (b c : Bool) → b ≡ not c → length (filter p xs) + length (filter q xs) ≡ length xs → length (cond b (x ∷ filter p xs) (filter p xs)) + length (cond c (x ∷ filter q xs) (filter q xs)) ≡ suc (length xs)
    both true true e f = absurd (false≢true (sym e))
    both true false e f = omega (arith, f)
    both false true e f = omega (arith, f)
    both false false e f = absurd (false≢true e)

abbrev shallow : ℕ → Term → Bool
shallow e t = nat_le (depth_of t) e

true_le : (a b : ℕ) → a ≤ b → nat_le a b ≡ true
true_le a b h = grind arith

false_le : (a b : ℕ) → b < a → nat_le a b ≡ false
false_le a b h = grind arith

pub total_same : {X : Type 0} (f g : X → ℕ) (xs : List X) → ((x : X) → f x ≡ g x) → total f xs ≡ total g xs
total_same f g [] e = refl
total_same f g (x ∷ xs) e = omega (arith, e x, total_same f g xs e)

total_both : {X : Type 0} (f g h : X → ℕ) (xs : List X) → ((x : X) → f x + g x ≡ h x) → total f xs + total g xs ≡ total h xs
total_both f g h [] e = omega arith
total_both f g h (x ∷ xs) e = omega (arith, e x, total_both f g h xs e)

total_const : {X : Type 0} (n : ℕ) (xs : List X) → total (λ x. n) xs ≡ length xs * n
total_const n [] = omega arith
total_const n (x ∷ xs) = omega (arith, total_const n xs)

pub tuples_length : {X : Type 0} (xss : List (List X)) → length (tuples xss) ≡ product (map length xss)
tuples_length [] = refl
tuples_length {X} (xs ∷ xss) =
    length_flat (λ x. map (λ t. x ∷ t) (tuples xss)) xs
    ∙ (total_same (λ x. length (map (λ t. x ∷ t) (tuples xss))) (λ x. length (tuples xss)) xs (λ x. length_map (λ t. x ∷ t) (tuples xss))
    ∙ (total_const (length (tuples xss)) xs ∙ ap (λ n. length xs * n) (tuples_length xss)))

pub map_map : {X Y Z : Type 0} (f : Y → Z) (g : X → Y) (xs : List X) → map f (map g xs) ≡ map (λ x. f (g x)) xs
map_map f g [] = refl
map_map f g (x ∷ xs) = ap (λ ys. f (g x) ∷ ys) (map_map f g xs)

map_same : {X Y : Type 0} (f g : X → Y) (xs : List X) → ((x : X) → f x ≡ g x) → map f xs ≡ map g xs
map_same f g [] e = refl
map_same f g (x ∷ xs) e = ap (λ y. y ∷ map f xs) (e x) ∙ ap (λ ys. g x ∷ ys) (map_same f g xs e)

greatest_zero : (ns : List ℕ) → AllByRecursion (λ n. n ≤ 0) ns → (greatest ns == 0) ≡ true
greatest_zero ns a = eq-eqb (greatest ns) 0 (zero_of ns a)
  where
    both : (m n : ℕ) → m ≤ 0 → n ≡ 0 → max m n ≡ 0
    both m n h e = omega arith

    zero_of : (ns : List ℕ) → AllByRecursion (λ n. n ≤ 0) ns → greatest ns ≡ 0
    zero_of [] a = refl
    zero_of (n ∷ ns) a = both n (greatest ns) a.0 (zero_of ns a.1)

-- the greatest of numbers up to e + 1 is that exactly where not each is at most e
greatest_test : (e : ℕ) (ns : List ℕ) → AllByRecursion (λ n. n ≤ suc e) ns → (greatest ns == suc e) ≡ not (list_all (λ n. nat_le n e) ns)
greatest_test e [] a = none e
  where
    none : (e : ℕ) → (0 == suc e) ≡ false
    none e = grind arith
greatest_test e (n ∷ ns) a = by_size (greatest_test e ns a.1) (cases_lt e n)
  where
    top : (m : ℕ) → e < n → n ≤ suc e → m ≤ suc e → (max n m == suc e) ≡ true
    top m h k l = eq-eqb (max n m) (suc e) (omega arith)

    below : (m : ℕ) → n ≤ e → (max n m == suc e) ≡ (m == suc e)
    below m h = grind arith

    at_most : (d : ℕ) (ns : List ℕ) → AllByRecursion (λ n. n ≤ d) ns → greatest ns ≤ d
    at_most d [] a = omega arith
    at_most d (m ∷ ms) a = both m (greatest ms) a.0 (at_most d ms a.1)
      where
        both : (x y : ℕ) → x ≤ d → y ≤ d → max x y ≤ d
        both x y h k = omega arith

    by_size : (greatest ns == suc e) ≡ not (list_all (λ n. nat_le n e) ns) → (e < n) ⊎ (n ≤ e) → (max n (greatest ns) == suc e) ≡ not (nat_le n e && list_all (λ n. nat_le n e) ns)
    by_size ih (inl gt) = top (greatest ns) gt a.0 (at_most (suc e) ns a.1) ∙ sym (ap (λ b. not (b && list_all (λ n. nat_le n e) ns)) (false_le n e gt))
    by_size ih (inr le) = below (greatest ns) le ∙ (ih ∙ sym (ap (λ b. not (b && list_all (λ n. nat_le n e) ns)) (true_le n e le)))

module _ (sig : Signature) (scope : List ℕ) (declared : is_signature sig ≡ true) where
  abbrev count : ℕ → ℕ → ℕ
  count d sort = length (terms_of sig scope d sort)

  -- the tuples of arguments of a function, up to a depth, and those with one of that depth
  abbrev pub arguments_count : ℕ → ℕ × Symbol → ℕ
  arguments_count d s = product (map (count d) s.1.args)

  abbrev new_count : ℕ → ℕ × Symbol → ℕ
  new_count d s = length (filter (λ args. greatest (map depth_of args) == d) (tuples (map (terms_of sig scope d) s.1.args)))

  abbrev functions : ℕ → List (ℕ × Symbol)
  functions sort = giving sort (symbols_of sig is_function)

  whole : (d : ℕ) (s : ℕ × Symbol) → length (tuples (map (terms_of sig scope d) s.1.args)) ≡ arguments_count d s
  whole d s = tuples_length (map (terms_of sig scope d) s.1.args) ∙ ap product (map_map length (terms_of sig scope d) s.1.args)

  terms_more : (d sort : ℕ) → count (suc d) sort ≡ count d sort + total (new_count d) (functions sort)
  terms_more d sort =
      length-append (terms_of sig scope d sort) (flat_map (λ s. map (Apply s.0 false) (filter (λ args. greatest (map depth_of args) == d) (tuples (map (terms_of sig scope d) s.1.args)))) (functions sort))
      ∙ ap (λ n. count d sort + n)
      (length_flat (λ s. map (Apply s.0 false) (filter (λ args. greatest (map depth_of args) == d) (tuples (map (terms_of sig scope d) s.1.args)))) (functions sort)
      ∙ total_same (λ s. length (map (Apply s.0 false) (filter (λ args. greatest (map depth_of args) == d) (tuples (map (terms_of sig scope d) s.1.args))))) (new_count d) (functions sort)
      (λ s. length_map (Apply s.0 false) (filter (λ args. greatest (map depth_of args) == d) (tuples (map (terms_of sig scope d) s.1.args)))))

  first_count : (s : ℕ × Symbol) → new_count 0 s ≡ arguments_count 0 s
  first_count s =
      all_kept (λ args. greatest (map depth_of args) == 0) (tuples (map (terms_of sig scope 0) s.1.args))
      (each-weaker (AreArguments sig scope declared 0 s.1.args) (λ args. (greatest (map depth_of args) == 0) ≡ true) (λ args a. greatest_zero (map depth_of args) a.depths)
      (tuples (map (terms_of sig scope 0) s.1.args)) (arguments_are sig scope declared 0 (terms_are sig scope declared 0) s.1.args))
      ∙ whole 0 s

  shallow_terms : (e sort : ℕ) → length (filter (shallow e) (terms_of sig scope (suc e) sort)) ≡ count e sort
  shallow_terms e sort =
      filter_append (shallow e) (terms_of sig scope e sort) more
      ∙ (ap (λ n. n + length (filter (shallow e) more)) (all_kept (shallow e) (terms_of sig scope e sort) (each-weaker (IsTermOf sig scope declared e sort) (λ t. shallow e t ≡ true) (λ t i. true_le (depth_of t) e i.depth) (terms_of sig scope e sort) (terms_are sig scope declared e sort)))
      ∙ (ap (λ n. count e sort + n) (none_kept (shallow e) more (each-weaker (λ t. depth_of t ≡ suc e) (λ t. shallow e t ≡ false) (λ t i. false_le (depth_of t) e (omega (arith, i))) more (deep_terms sig scope declared e sort)))
      ∙ omega arith))
    where
      more : List Term
      more = flat_map (λ s. map (Apply s.0 false) (filter (λ args. greatest (map depth_of args) == e) (tuples (map (terms_of sig scope e) s.1.args)))) (functions sort)

  next_count : (e : ℕ) (s : ℕ × Symbol) → arguments_count e s + new_count (suc e) s ≡ arguments_count (suc e) s
  next_count e s =
      let all : List (List Term) = tuples (map (terms_of sig scope (suc e)) s.1.args) in
      let old : length (filter (every (shallow e)) all) ≡ arguments_count e s =
      passing_tuples (shallow e) (map (terms_of sig scope (suc e)) s.1.args)
      ∙ (ap product (map_map (λ xs. length (filter (shallow e) xs)) (terms_of sig scope (suc e)) s.1.args)
      ∙ ap product (map_same (λ sort. length (filter (shallow e) (terms_of sig scope (suc e) sort))) (count e) s.1.args (shallow_terms e))) in
      let both : new_count (suc e) s + length (filter (every (shallow e)) all) ≡ length all =
      split (λ args. greatest (map depth_of args) == suc e) (every (shallow e)) all
      (each-weaker (AreArguments sig scope declared (suc e) s.1.args) (λ args. (greatest (map depth_of args) == suc e) ≡ not (every (shallow e) args))
      (λ args a. greatest_test e (map depth_of args) a.depths ∙ ap not (list_all-map (λ n. nat_le n e) depth_of args))
      all (arguments_are sig scope declared (suc e) (terms_are sig scope declared (suc e)) s.1.args)) in
      omega (arith, old, both, whole (suc e) s)

  -- the terms up to a further depth: those of depth 0, and each function at all its arguments
  pub terms_count : (d sort : ℕ) → count (suc d) sort ≡ count 0 sort + total (arguments_count d) (functions sort)
  terms_count zero sort = terms_more 0 sort ∙ ap (λ n. count 0 sort + n) (total_same (new_count 0) (arguments_count 0) (functions sort) first_count)
  terms_count (suc e) sort =
      let before : count (suc e) sort ≡ count 0 sort + total (arguments_count e) (functions sort) = terms_count e sort in
      let added : total (arguments_count e) (functions sort) + total (new_count (suc e)) (functions sort) ≡ total (arguments_count (suc e)) (functions sort) =
      total_both (arguments_count e) (new_count (suc e)) (arguments_count (suc e)) (functions sort) (next_count e) in
      omega (arith, terms_more (suc e) sort, before, added)
