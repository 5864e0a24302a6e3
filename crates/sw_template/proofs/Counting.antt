-- What is counted before it is made is what there is.
use Rattle.std.specs.Prelude.{◌⊎◌, ◌≡◌, ℕ, zero, suc, ◌+◌, ◌-◌, ◌*◌, ◌^◌, ◌<◌, ◌≤◌, ◌==◌, Bool, false, min, Some, List, [], ◌∷◌, ◌++◌, map, length, take, drop, replicate, slice_get, slice_index_or, unwrap_or, true}
use Rattle.std.specs.List.{AllByRecursion, flat_map, enumerate_from, range_with_len}
use Rattle.std.proofs.Common.{refl, arith, ap, sym, subst, get_or, ◌∙◌, inl, inr, append_assoc, length-append}
use Rattle.std.proofs.lemmas.List.{length-replicate}
use Rattle.std.proofs.Math.Seq.{take-length}
use Rattle.sw_meaning.specs.declared.template.Run.{Run}
use Rattle.sw_template.specs.Prefix.{variable_count}
use Rattle.std.proofs.lemmas.Bool.{cases_lt}
use Rattle.std.proofs.lemmas.List.{map-append}
use Rattle.sw_logic.specs.declared.syntax.SymbolKind.{SymbolKind}
use Rattle.sw_logic.specs.declared.syntax.Symbol.{Symbol}
use Rattle.sw_logic.specs.declared.syntax.Signature.{Signature}
use Rattle.sw_logic.specs.declared.syntax.Term.{Term}
use Rattle.sw_logic.specs.declared.syntax.Formula.{Formula}
use Rattle.sw_logic.specs.declared.syntax.Formula.TheVariants.{Holds, Equal}
use Rattle.sw_meaning.specs.declared.template.Template.{Template}
use Rattle.sw_meaning.specs.Classes.{scope_of, terms_of, tuples, pairs, symbols_of, giving, is_relation, is_function, atoms}
use Rattle.sw_lists.proofs.Each.{each-filter, each-weaker, each-map, each-any}
use Rattle.sw_logic.specs.Signatures.{is_signature}
use Rattle.sw_cover.specs.Counting.{product, total, binomial}
use Rattle.sw_cover.proofs.TermCounts.{terms_count, map_map}
use Rattle.sw_cover.proofs.Counts.{atoms_count}
use Rattle.sw_template.specs.Counts.{capped, count_at, arguments_at, next_count, atoms_at, counts_told}
use Rattle.sw_template.specs.Listing.{HaveArguments, list_at, tuples_at, applied, next_terms, table_of, equalities, atoms_by}
use Rattle.sw_template.proofs.Numbered.{took}
use Rattle.sw_template.proofs.Termed.{got}
use Rattle.sw_template.proofs.Capping.{total_more}

-- capping
times_under : (k x y : ℕ) → min (min x k * y) k ≡ min (x * y) k
times_under k x zero = omega arith
times_under k x (suc y) = by_size (cases_lt k x)
  where
    more : (a b : ℕ) → a ≤ a * suc b
    more a b = omega arith

    by_size : (k < x) ⊎ (x ≤ k) → min (min x k * suc y) k ≡ min (x * suc y) k
    by_size (inr le) = let same : min x k ≡ x = omega arith in ap (λ z. min (z * suc y) k) same
    by_size (inl gt) = let same : min x k ≡ k = omega arith in ap (λ z. min (z * suc y) k) same ∙ both (k * suc y) (x * suc y) (more k y) (more x y)
      where
        both : (a b : ℕ) → k ≤ a → x ≤ b → min a k ≡ min b k
        both a b h g = omega arith

pub capped_times : (x y : ℕ) → capped (capped x * y) ≡ capped (x * y)
capped_times x y = times_under (2 ^ 64) x y

pub capped_product_step : (count y a r : ℕ) → count ≡ capped a → r ≡ capped (count * y) → r ≡ capped (a * y)
capped_product_step count y a r e f = f ∙ (ap (λ z. capped (z * y)) e ∙ capped_times a y)

pub capped_sum_step : (count next a b later r : ℕ) → count ≡ capped a → next ≡ capped b → later ≡ a + b → r ≡ capped (count + next) → r ≡ capped later
capped_sum_step count next a b later r e f g h = omega (arith, e, f, g, h)

ones : (n : ℕ) → binomial n 1 ≡ n
ones zero = refl
ones (suc n) = let rest : binomial n 1 ≡ n = ones n in omega (arith, rest)

pairs_grow : (n : ℕ) → n + 3 ≤ binomial (suc (suc (suc n))) 2
pairs_grow zero = omega arith
pairs_grow (suc n) = omega (arith, pairs_grow n, ones (suc (suc (suc n))))

pairs_most : (n : ℕ) → 3 ≤ n → n ≤ binomial n 2
pairs_most zero h = absurd (omega arith)
pairs_most (suc zero) h = absurd (omega arith)
pairs_most (suc (suc zero)) h = absurd (omega arith)
pairs_most (suc (suc (suc n))) h = omega (arith, pairs_grow n)

pairs_under : (k n : ℕ) → 3 ≤ k → min (binomial (min n k) 2) k ≡ min (binomial n 2) k
pairs_under k n h = by_size (cases_lt k n)
  where
    by_size : (k < n) ⊎ (n ≤ k) → min (binomial (min n k) 2) k ≡ min (binomial n 2) k
    by_size (inr le) = let same : min n k ≡ n = omega arith in ap (λ z. min (binomial z 2) k) same
    by_size (inl gt) =
        let same : min n k ≡ k = omega arith in
        let low : 3 ≤ n = omega arith in
        ap (λ z. min (binomial z 2) k) same ∙ both (binomial k 2) (binomial n 2) (pairs_most k h) (pairs_most n low)
      where
        both : (a b : ℕ) → k ≤ a → n ≤ b → min a k ≡ min b k
        both a b g f = omega arith

pub capped_pairs : (n : ℕ) → capped (binomial (capped n) 2) ≡ capped (binomial n 2)
capped_pairs n = pairs_under (2 ^ 64) n (omega arith)

-- lists
pub at_most : (ns : List ℕ) (i : ℕ) → AllByRecursion (λ n. n ≤ 18446744073709551616) ns → count_at ns i ≤ 18446744073709551616
at_most [] i a = omega arith
at_most (n ∷ ns) zero a = a.0
at_most (n ∷ ns) (suc i) a = at_most ns i a.1

product_append : (ns : List ℕ) (n : ℕ) → product (ns ++ n ∷ []) ≡ product ns * n
product_append [] n = omega arith
product_append (m ∷ ns) n = let rest : product (ns ++ n ∷ []) ≡ product ns * n = product_append ns n in ap (λ k. m * k) rest ∙ omega arith

pub product_took : (f : ℕ → ℕ) (n : ℕ) (xs : List ℕ) (x : ℕ) → slice_get xs n ≡ Some x → product (map f (take (n + 1) xs)) ≡ product (map f (take n xs)) * f x
product_took f n xs x e = ap (λ ys. product (map f ys)) (took n xs x e) ∙ (ap product (map-append f (take n xs) (x ∷ [])) ∙ product_append (map f (take n xs)) (f x))

at_range : {X : Type 0} (f : ℕ → X) (b n a : ℕ) → a < n → slice_get (map f (range_with_len b n)) a ≡ Some (f (b + a))
at_range f b zero a h = absurd (omega arith)
at_range f b (suc n) zero h = let same : b ≡ b + 0 = omega arith in ap (λ k. Some (f k)) same
at_range f b (suc n) (suc a) h = let same : b + 1 + a ≡ b + suc a = omega arith in at_range f (b + 1) n a (omega arith) ∙ ap (λ k. Some (f k)) same

pub looked_up : {X : Type 0} (f : ℕ → X) (n a : ℕ) (d : X) → a < n → unwrap_or (slice_get (map f (range_with_len 0 n)) a) d ≡ f a
looked_up f n a d h = let same : 0 + a ≡ a = omega arith in ap (λ o. unwrap_or o d) (at_range f 0 n a h) ∙ ap f same

each_in_range : (P : ℕ → Type 0) (a n : ℕ) → ((c : ℕ) → a ≤ c → c < a + n → P c) → AllByRecursion P (range_with_len a n)
each_in_range P a zero f = tt
each_in_range P a (suc n) f = (f a (omega arith) (omega arith), each_in_range P (a + 1) n (λ c low high. f c (omega arith) (omega arith)))

map_each : {X Y : Type 0} (f g : X → Y) (xs : List X) → AllByRecursion (λ x. f x ≡ g x) xs → map f xs ≡ map g xs
map_each f g [] a = refl
map_each f g (x ∷ xs) a = ap (λ y. y ∷ map f xs) a.0 ∙ ap (λ ys. g x ∷ ys) (map_each f g xs a.1)

flat_each : {X Y : Type 0} (f g : X → List Y) (xs : List X) → AllByRecursion (λ x. f x ≡ g x) xs → flat_map f xs ≡ flat_map g xs
flat_each f g [] a = refl
flat_each f g (x ∷ xs) a = ap (λ y. y ++ flat_map f xs) a.0 ∙ ap (λ ys. g x ++ ys) (flat_each f g xs a.1)

flat_of_map : {X Y Z : Type 0} (f : Y → List Z) (g : X → Y) (xs : List X) → flat_map f (map g xs) ≡ flat_map (λ x. f (g x)) xs
flat_of_map f g [] = refl
flat_of_map f g (x ∷ xs) = ap (λ ys. f (g x) ++ ys) (flat_of_map f g xs)

total_each : {X : Type 0} (f g : X → ℕ) (xs : List X) → AllByRecursion (λ x. capped (f x) ≡ capped (g x)) xs → capped (total f xs) ≡ capped (total g xs)
total_each f g [] a = refl
total_each f g (x ∷ xs) a = both (f x) (g x) (total f xs) (total g xs) a.0 (total_each f g xs a.1)
  where
    both : (a b c d : ℕ) → capped a ≡ capped b → capped c ≡ capped d → capped (a + c) ≡ capped (b + d)
    both a b c d e f = omega (arith, e, f)

product_each : {X : Type 0} (f g : X → ℕ) (xs : List X) → AllByRecursion (λ x. f x ≡ capped (g x)) xs → capped (product (map f xs)) ≡ capped (product (map g xs))
product_each f g [] a = refl
product_each f g (x ∷ xs) a =
    ap (λ n. capped (n * product (map f xs))) a.0
    ∙ (capped_times (g x) (product (map f xs))
    ∙ (ap capped (turned (g x) (product (map f xs)))
    ∙ (sym (capped_times (product (map f xs)) (g x))
    ∙ (ap (λ n. capped (n * g x)) (product_each f g xs a.1)
    ∙ (capped_times (product (map g xs)) (g x) ∙ ap capped (turned (product (map g xs)) (g x)))))))
  where
    turned : (a b : ℕ) → a * b ≡ b * a
    turned a b = omega arith

each_numbered : {X : Type 0} (P : X → Type 0) (a : ℕ) (xs : List X) → AllByRecursion P xs → AllByRecursion (λ s. P s.1) (enumerate_from a xs)
each_numbered P a [] all = tt
each_numbered P a (x ∷ xs) all = (all.0, each_numbered P (a + 1) xs all.1)

module _ (sig : Signature) (scope : List ℕ) (have : HaveArguments sig) where
  abbrev AreWithin : ℕ × Symbol → Type 0
  AreWithin s = AllByRecursion (λ sort. sort < length sig.sorts) s.1.args

  members : (kind : SymbolKind → Bool) → AllByRecursion AreWithin (symbols_of sig kind)
  members kind = each-filter AreWithin (λ s. kind s.1.kind) (enumerate_from 0 sig.symbols) (each_numbered (λ s. AllByRecursion (λ sort. sort < length sig.sorts) s.args) 0 sig.symbols have)

  -- tables of terms
  tuples_are : (d : ℕ) (s : ℕ × Symbol) → AreWithin s → tuples_at (table_of sig scope d) s.1.args ≡ tuples (map (terms_of sig scope d) s.1.args)
  tuples_are d s within =
      ap tuples (map_each (list_at (table_of sig scope d)) (terms_of sig scope d) s.1.args
      (each-weaker (λ a. a < length sig.sorts) (λ a. list_at (table_of sig scope d) a ≡ terms_of sig scope d a) (λ a h. looked_up (terms_of sig scope d) (length sig.sorts) a [] h) s.1.args within))

  next_is : (d sort : ℕ) → sort < length sig.sorts → next_terms sig d (table_of sig scope d) sort ≡ terms_of sig scope (suc d) sort
  next_is d sort h =
      ap (λ ts. ts ++ flat_map (λ s. applied d s.0 (tuples_at (table_of sig scope d) s.1.args)) (giving sort (symbols_of sig is_function))) (looked_up (terms_of sig scope d) (length sig.sorts) sort [] h)
      ∙ ap (λ ts. terms_of sig scope d sort ++ ts)
      (flat_each (λ s. applied d s.0 (tuples_at (table_of sig scope d) s.1.args)) (λ s. applied d s.0 (tuples (map (terms_of sig scope d) s.1.args))) (giving sort (symbols_of sig is_function))
      (each-weaker AreWithin (λ s. applied d s.0 (tuples_at (table_of sig scope d) s.1.args) ≡ applied d s.0 (tuples (map (terms_of sig scope d) s.1.args))) (λ s w. ap (applied d s.0) (tuples_are d s w)) (giving sort (symbols_of sig is_function))
      (each-filter AreWithin (λ s. s.1.gives == sort) (symbols_of sig is_function) (members is_function))))

  pub table_next : (d : ℕ) → map (next_terms sig d (table_of sig scope d)) (range_with_len 0 (length sig.sorts)) ≡ table_of sig scope (d + 1)
  table_next d =
      let same : suc d ≡ d + 1 = omega arith in
      map_each (next_terms sig d (table_of sig scope d)) (terms_of sig scope (suc d)) (range_with_len 0 (length sig.sorts))
      (each_in_range (λ sort. next_terms sig d (table_of sig scope d) sort ≡ terms_of sig scope (suc d) sort) 0 (length sig.sorts) (λ sort low high. next_is d sort (omega arith)))
      ∙ ap (table_of sig scope) same

  -- told counts
  told_at : (d a : ℕ) → a < length sig.sorts → count_at (counts_told sig scope d) a ≡ capped (length (terms_of sig scope d a))
  told_at d a h = looked_up (λ sort. capped (length (terms_of sig scope d sort))) (length sig.sorts) a 0 h

  pub told_most : (d : ℕ) → AllByRecursion (λ n. n ≤ 18446744073709551616) (counts_told sig scope d)
  told_most d = each-map (λ n. n ≤ 18446744073709551616) (λ sort. capped (length (terms_of sig scope d sort))) (range_with_len 0 (length sig.sorts))
      (each-any (λ sort. capped (length (terms_of sig scope d sort)) ≤ 18446744073709551616) (λ sort. most (length (terms_of sig scope d sort))) (range_with_len 0 (length sig.sorts)))
    where
      most : (n : ℕ) → capped n ≤ 18446744073709551616
      most n = omega arith

  arguments_told : (d : ℕ) (s : ℕ × Symbol) → AreWithin s → capped (arguments_at (counts_told sig scope d) s.1) ≡ capped (product (map (λ sort. length (terms_of sig scope d sort)) s.1.args))
  arguments_told d s within =
      product_each (count_at (counts_told sig scope d)) (λ sort. length (terms_of sig scope d sort)) s.1.args
      (each-weaker (λ a. a < length sig.sorts) (λ a. count_at (counts_told sig scope d) a ≡ capped (length (terms_of sig scope d a))) (λ a h. told_at d a h) s.1.args within)

  totals_told : (d : ℕ) (ss : List (ℕ × Symbol)) → AllByRecursion AreWithin ss
      → capped (total (λ s. arguments_at (counts_told sig scope d) s.1) ss) ≡ capped (total (λ s. product (map (λ sort. length (terms_of sig scope d sort)) s.1.args)) ss)
  totals_told d ss all =
      total_each (λ s. arguments_at (counts_told sig scope d) s.1) (λ s. product (map (λ sort. length (terms_of sig scope d sort)) s.1.args)) ss
      (each-weaker AreWithin (λ s. capped (arguments_at (counts_told sig scope d) s.1) ≡ capped (product (map (λ sort. length (terms_of sig scope d sort)) s.1.args))) (arguments_told d) ss all)

  next_told : is_signature sig ≡ true → (d sort : ℕ) → sort < length sig.sorts → capped (next_count sig (counts_told sig scope 0) (counts_told sig scope d) sort) ≡ capped (length (terms_of sig scope (suc d) sort))
  next_told declared d sort h =
      joined (count_at (counts_told sig scope 0) sort) (total (λ s. arguments_at (counts_told sig scope d) s.1) (giving sort (symbols_of sig is_function)))
      (length (terms_of sig scope 0 sort)) (total (λ s. product (map (λ sort. length (terms_of sig scope d sort)) s.1.args)) (giving sort (symbols_of sig is_function))) (length (terms_of sig scope (suc d) sort))
      (told_at 0 sort h) (totals_told d (giving sort (symbols_of sig is_function)) (each-filter AreWithin (λ s. s.1.gives == sort) (symbols_of sig is_function) (members is_function))) (terms_count sig scope declared d sort)
    where
      joined : (a b m n l : ℕ) → a ≡ capped m → capped b ≡ capped n → l ≡ m + n → capped (a + b) ≡ capped l
      joined a b m n l e f g = omega (arith, e, f, g)

  pub counts_next : is_signature sig ≡ true → (d : ℕ) → map (λ sort. capped (next_count sig (counts_told sig scope 0) (counts_told sig scope d) sort)) (range_with_len 0 (length sig.sorts)) ≡ counts_told sig scope (d + 1)
  counts_next declared d =
      let same : suc d ≡ d + 1 = omega arith in
      map_each (λ sort. capped (next_count sig (counts_told sig scope 0) (counts_told sig scope d) sort)) (λ sort. capped (length (terms_of sig scope (suc d) sort))) (range_with_len 0 (length sig.sorts))
      (each_in_range (λ sort. capped (next_count sig (counts_told sig scope 0) (counts_told sig scope d) sort) ≡ capped (length (terms_of sig scope (suc d) sort))) 0 (length sig.sorts) (λ sort low high. next_told declared d sort (omega arith)))
      ∙ ap (counts_told sig scope) same

pub first_told : (sig : Signature) (scope : List ℕ) → map (λ ts. capped (length ts)) (table_of sig scope 0) ≡ counts_told sig scope 0
first_told sig scope = map_map (λ (ts : List Term). capped (length ts)) (terms_of sig scope 0) (range_with_len 0 (length sig.sorts))

pub atoms_counted : (sig : Signature) (t : Template) → HaveArguments sig → capped (atoms_at sig (counts_told sig (scope_of t) t.terms)) ≡ capped (length (atoms sig t))
atoms_counted sig t have =
    joined (total (λ s. arguments_at (counts_told sig (scope_of t) t.terms) s.1) (symbols_of sig is_relation)) (total (λ sort. binomial (count_at (counts_told sig (scope_of t) t.terms) sort) 2) (range_with_len 0 (length sig.sorts)))
    (total (λ s. product (map (λ sort. length (terms_of sig (scope_of t) t.terms sort)) s.1.args)) (symbols_of sig is_relation)) (total (λ sort. binomial (length (terms_of sig (scope_of t) t.terms sort)) 2) (range_with_len 0 (length sig.sorts)))
    (length (atoms sig t))
    (totals_told sig (scope_of t) have t.terms (symbols_of sig is_relation) (members sig (scope_of t) have is_relation))
    (total_each (λ sort. binomial (count_at (counts_told sig (scope_of t) t.terms) sort) 2) (λ sort. binomial (length (terms_of sig (scope_of t) t.terms sort)) 2) (range_with_len 0 (length sig.sorts))
    (each_in_range (λ sort. capped (binomial (count_at (counts_told sig (scope_of t) t.terms) sort) 2) ≡ capped (binomial (length (terms_of sig (scope_of t) t.terms sort)) 2)) 0 (length sig.sorts)
    (λ sort low high. ap (λ n. capped (binomial n 2)) (told_at sig (scope_of t) have t.terms sort (omega arith)) ∙ capped_pairs (length (terms_of sig (scope_of t) t.terms sort)))))
    (atoms_count sig t)
  where
    joined : (a b m n l : ℕ) → capped a ≡ capped m → capped b ≡ capped n → l ≡ m + n → capped (a + b) ≡ capped l
    joined a b m n l e f g = omega (arith, e, f, g)

pub atoms_listed : (sig : Signature) (t : Template) → HaveArguments sig → atoms_by sig (table_of sig (scope_of t) t.terms) ≡ atoms sig t
atoms_listed sig t have =
    let table : List (List Term) = table_of sig (scope_of t) t.terms in
    ap (λ fs. fs ++ flat_map equalities table)
    (flat_each (λ s. map (Holds s.0 false) (tuples_at table s.1.args)) (λ s. map (Holds s.0 false) (tuples (map (terms_of sig (scope_of t) t.terms) s.1.args))) (symbols_of sig is_relation)
    (each-weaker (AreWithin sig (scope_of t) have) (λ s. map (Holds s.0 false) (tuples_at table s.1.args) ≡ map (Holds s.0 false) (tuples (map (terms_of sig (scope_of t) t.terms) s.1.args)))
    (λ s w. ap (map (Holds s.0 false)) (tuples_are sig (scope_of t) have t.terms s w)) (symbols_of sig is_relation) (members sig (scope_of t) have is_relation)))
    ∙ ap (λ fs. flat_map (λ s. map (Holds s.0 false) (tuples (map (terms_of sig (scope_of t) t.terms) s.1.args))) (symbols_of sig is_relation) ++ fs)
    (flat_of_map equalities (terms_of sig (scope_of t) t.terms) (range_with_len 0 (length sig.sorts)))

pub multiplied : (f : ℕ → ℕ) (args items : List ℕ) (i count y r : ℕ) → items ≡ args → i < length items → count ≡ capped (product (map f (take i args))) → y ≡ f (slice_index_or items i 0) → r ≡ capped (count * y)
    → r ≡ capped (product (map f (take (i + 1) args)))
multiplied f args items i count y r same h e g k =
    let at : slice_get args i ≡ Some (slice_index_or items i 0) = ap (λ zs. slice_get zs i) (sym same) ∙ got i items h in
    capped_product_step count y (product (map f (take i args))) r e k
    ∙ ap capped (ap (λ z. product (map f (take i args)) * z) g ∙ sym (product_took f i args (slice_index_or items i 0) at))

pub total_next : (f : ℕ → ℕ) (n : ℕ) → total f (range_with_len 0 (n + 1)) ≡ total f (range_with_len 0 n) + f n
total_next f n = let same : 0 + n ≡ n = omega arith in total_more f 0 n ∙ ap (λ k. total f (range_with_len 0 n) + f k) same

pub plus : (a t later b : ℕ) → later ≡ t + b → a + later ≡ a + t + b
plus a t later b e = omega (arith, e)

pub equalities_first : (terms rest : List Term) (first : Term) (atoms old new : List Formula) → terms ≡ first ∷ rest → atoms ≡ old ++ map (Equal first) rest → new ≡ atoms ++ equalities rest → new ≡ old ++ equalities terms
equalities_first terms rest first atoms old new e f g =
    g ∙ (ap (λ fs. fs ++ equalities rest) f ∙ (append_assoc old (map (Equal first) rest) (equalities rest) ∙ ap (λ fs. old ++ fs) (both rest ∙ ap equalities (sym e))))
  where
    both : (rest : List Term) → map (Equal first) rest ++ equalities rest ≡ equalities (first ∷ rest)
    both rest = ap (λ fs. fs ++ equalities rest) (sym (map_map (λ (pair : Term × Term). Equal pair.0 pair.1) (λ y. (first, y)) rest)) ∙ sym (map-append (λ (pair : Term × Term). Equal pair.0 pair.1) (map (λ y. (first, y)) rest) (pairs rest))

pub split_first : (terms : List Term) (x : Term) → 1 ≤ length terms → x ≡ get_or terms 0 x → terms ≡ x ∷ take (length terms - 1) (drop 1 terms)
split_first [] x h e = absurd (omega arith)
split_first (y ∷ ys) x h e =
    let same : length ys ≡ suc (length ys) - 1 = omega arith in
    ap (λ z. z ∷ ys) (sym e) ∙ ap (λ zs. x ∷ zs) (sym (take-length ys) ∙ ap (λ n. take n ys) same)

scope_count : (runs : List Run) → length (flat_map (λ run. replicate run.count run.sort) runs) ≡ variable_count runs
scope_count [] = refl
scope_count (run ∷ runs) =
    length-append (replicate run.count run.sort) (flat_map (λ run. replicate run.count run.sort) runs)
    ∙ (ap (λ n. n + length (flat_map (λ run. replicate run.count run.sort) runs)) (length-replicate run.count run.sort) ∙ ap (λ n. run.count + n) (scope_count runs))

pub scope_few : (t : Template) (s scope : List ℕ) → variable_count t.prefix ≤ 6 → s ≡ scope → scope ≡ scope_of t → length s < 4294967296
scope_few t s scope h e f = omega (arith, h, ap length e, ap length f, scope_count t.prefix)

module _ (sig : Signature) (scope : List ℕ) where
  pub firsts : (first : List ℕ) (s t : List (List Term)) → first ≡ map (λ ts. capped (length ts)) s → s ≡ t → t ≡ table_of sig scope 0 → first ≡ counts_told sig scope 0
  firsts first s t e f g = e ∙ (ap (map (λ (ts : List Term). capped (length ts))) (f ∙ g) ∙ first_told sig scope)

  pub told_all : HaveArguments sig → (d : ℕ) (ns : List ℕ) → ns ≡ counts_told sig scope d → AllByRecursion (λ n. n ≤ 18446744073709551616) ns
  told_all have d ns e = subst (AllByRecursion (λ n. n ≤ 18446744073709551616)) (sym e) (told_most sig scope have d)

  pub counted_on : HaveArguments sig → is_signature sig ≡ true → (d : ℕ) (next a b : List ℕ) → next ≡ map (λ sort. capped (next_count sig a b sort)) (range_with_len 0 (length sig.sorts)) → a ≡ counts_told sig scope 0 → b ≡ counts_told sig scope d
      → next ≡ counts_told sig scope (d + 1)
  counted_on have declared d next a b e f g =
      e ∙ (ap (λ x. map (λ sort. capped (next_count sig x b sort)) (range_with_len 0 (length sig.sorts))) f
      ∙ (ap (λ x. map (λ sort. capped (next_count sig (counts_told sig scope 0) x sort)) (range_with_len 0 (length sig.sorts))) g ∙ counts_next sig scope have declared d))

  pub listed_on : HaveArguments sig → (d : ℕ) (next s t : List (List Term)) → next ≡ map (next_terms sig d s) (range_with_len 0 (length sig.sorts)) → s ≡ t → t ≡ table_of sig scope d → next ≡ table_of sig scope (d + 1)
  listed_on have d next s t e f g = e ∙ (ap (λ x. map (next_terms sig d x) (range_with_len 0 (length sig.sorts))) (f ∙ g) ∙ table_next sig scope have d)

pub atoms_told : (sig : Signature) (t : Template) → HaveArguments sig → (n : ℕ) (a counts s scope : List ℕ) → n ≡ capped (atoms_at sig a) → a ≡ counts → counts ≡ counts_told sig s t.terms → s ≡ scope → scope ≡ scope_of t
    → n ≡ capped (length (atoms sig t))
atoms_told sig t have n a counts s scope e f g h k =
    e ∙ (ap (λ x. capped (atoms_at sig x)) (f ∙ (g ∙ ap (λ x. counts_told sig x t.terms) (h ∙ k))) ∙ atoms_counted sig t have)

pub atoms_made : (sig : Signature) (t : Template) → HaveArguments sig → (fs : List Formula) (a table : List (List Term)) (s scope : List ℕ) → fs ≡ atoms_by sig a → a ≡ table → table ≡ table_of sig s t.terms → s ≡ scope → scope ≡ scope_of t
    → fs ≡ atoms sig t
atoms_made sig t have fs a table s scope e f g h k =
    e ∙ (ap (atoms_by sig) (f ∙ (g ∙ ap (λ x. table_of sig x t.terms) (h ∙ k))) ∙ atoms_listed sig t have)

pub within : (sig : Signature) (t : Template) (n : ℕ) (fs : List Formula) → n ≡ capped (length (atoms sig t)) → n ≤ 512 → fs ≡ atoms sig t → length fs ≤ 512
within sig t n fs e h f = let same : length fs ≡ length (atoms sig t) = ap length f in omega (arith, e, h, same)
