-- How many ground terms a sort has, symbol by symbol, and that more symbols give no fewer.
use Rattle.std.specs.Prelude.{◌≡◌, ℕ, zero, suc, ◌+◌, ◌*◌, ◌<◌, ◌≤◌, ◌&&◌, ◌==◌, Bool, true, false, cond, List, [], ◌∷◌, ◌++◌, length, map, slice_index}
use Rattle.std.specs.List.{AllByRecursion, flat_map, filter, list_any, range_with_len, enumerate_from, sum_by}
use Rattle.std.proofs.Common.{arith, refl, ap, subst, ◌∙◌, inl, inr}
use Rattle.std.proofs.lemmas.Bool.{cases_Bool, cases_lt, and_parts, or_parts, not-true, eqb-true, ne_eqb, false≢true}
use Rattle.std.proofs.lemmas.List.{length-append, length-map}
use Rattle.std.proofs.lemmas.List.Sums.{sum_by-cons, sum_by-append}
use Rattle.std.proofs.lemmas.Nat.{mul-le}
use Rattle.sw_lists.proofs.Each.{each-front, each-back, each-unflat_map}
use Rattle.sw_logic.specs.declared.syntax.SymbolKind.{SymbolKind}
use Rattle.sw_logic.specs.declared.syntax.SymbolKind.TheVariants.{Relation, Constant, Function}
use Rattle.sw_logic.specs.declared.syntax.Symbol.{Symbol}
use Rattle.sw_logic.specs.declared.syntax.Signature.{Signature}
use Rattle.sw_logic.specs.declared.syntax.Term.{Term}
use Rattle.sw_logic.specs.declared.syntax.Term.TheVariants.{Apply}
use Rattle.sw_logic.specs.Signatures.{is_signature}
use Rattle.sw_logic.specs.Sorted.{gives_value}
use Rattle.sw_logic.specs.Strata.{IsStratified, symbol_edges, edges_between}
use Rattle.sw_truth.specs.Models.{is_bare}
use Rattle.sw_truth.proofs.Rising.{Rises}
use Rattle.sw_universe.specs.GroundTerms.{tuples, is_constant, is_function, constants, applications, terms_of, term_count}
use Rattle.sw_universe.specs.Counting.{one_constant, choices_in, applied_count}
use Rattle.sw_universe.proofs.Lengths.{none_beyond}
use Rattle.sw_universe.proofs.Stable.{terms_are}
use Rattle.sw_universe.proofs.Uniform.{uniform_length}
use Rattle.sw_skolem.specs.Skolem.{fresh_constant, fresh_constants, with_symbols}

-- ---- the terms of a sort are its constants and the choices of arguments of its functions
tuple_count : (f : ℕ → List Term) (args : List ℕ) → length (tuples (map f args)) ≡ choices_in (λ a. length (f a)) args
tuple_count f [] = refl
tuple_count f (a ∷ args) =
    let ts = tuples (map f args) in
    uniform_length (λ (x : Term). map (λ t. x ∷ t) ts) (length ts) (λ x. length-map ts (λ t. x ∷ t)) (f a) ∙ ap (λ n. length (f a) * n) (tuple_count f args)

constant_lengths : (sort from : ℕ) (xs : List Symbol)
    → length (map (λ (s : ℕ × Symbol). Apply s.0 false []) (filter (λ s. is_constant s.1.kind && (s.1.gives == sort)) (enumerate_from from xs))) ≡ sum_by (one_constant sort) xs
constant_lengths sort from [] = refl
constant_lengths sort from (x ∷ xs) =
    let rest = constant_lengths sort (from + 1) xs in
    elim (cases_Bool (is_constant x.kind && (x.gives == sort))) [
      | inl t ↦ rw (sum_by-cons (one_constant sort) x xs, t) (omega arith)
      | inr n ↦ rw (sum_by-cons (one_constant sort) x xs, n) (omega arith)
    ]

applied_lengths : (f : ℕ → List Term) (sort from : ℕ) (xs : List Symbol)
    → length (flat_map (λ (s : ℕ × Symbol). map (Apply s.0 false) (tuples (map f s.1.args))) (filter (λ s. is_function s.1.kind && (s.1.gives == sort)) (enumerate_from from xs)))
    ≡ sum_by (applied_count (λ a. length (f a)) sort) xs
applied_lengths f sort from [] = refl
applied_lengths f sort from (x ∷ xs) =
    let rest = applied_lengths f sort (from + 1) xs in
    let here = length-map (tuples (map f x.args)) (Apply from false) ∙ tuple_count f x.args in
    let both = length-append (map (Apply from false) (tuples (map f x.args)))
    (flat_map (λ (s : ℕ × Symbol). map (Apply s.0 false) (tuples (map f s.1.args))) (filter (λ s. is_function s.1.kind && (s.1.gives == sort)) (enumerate_from (from + 1) xs))) in
    elim (cases_Bool (is_function x.kind && (x.gives == sort))) [
      | inl t ↦ rw (sum_by-cons (applied_count (λ a. length (f a)) sort) x xs, t) (omega arith)
      | inr n ↦ rw (sum_by-cons (applied_count (λ a. length (f a)) sort) x xs, n) (omega arith)
    ]

-- how many terms of a sort these symbols give
abbrev given : (ℕ → ℕ) → ℕ → List Symbol → ℕ
given count sort symbols = sum_by (one_constant sort) symbols + sum_by (applied_count count sort) symbols

counts_are : (sig : Signature) → IsStratified sig → (sort : ℕ) → sort < length sig.sorts → term_count sig sort ≡ given (term_count sig) sort sig.symbols
counts_are sig strata sort h =
    let both = length-append (constants sig sort) (applications sig (terms_of sig) sort) in
    let one = constant_lengths sort 0 sig.symbols in
    let other = applied_lengths (terms_of sig) sort 0 sig.symbols in
    ap length (terms_are sig strata sort h) ∙ omega arith

given_append : (count : ℕ → ℕ) (sort : ℕ) (xs ys : List Symbol) → given count sort (xs ++ ys) ≡ given count sort xs + given count sort ys
given_append count sort xs ys =
    let a = sum_by-append (one_constant sort) xs ys in
    let b = sum_by-append (applied_count count sort) xs ys in
    omega arith

-- ---- fresh constants
no_functions : (count : ℕ → ℕ) (sort : ℕ) (ss : List ℕ) → sum_by (applied_count count sort) (map fresh_constant ss) ≡ 0
no_functions count sort [] = refl
no_functions count sort (s ∷ ss) =
    let step = sum_by-cons (applied_count count sort) (fresh_constant s) (map fresh_constant ss) in
    let here : applied_count count sort (fresh_constant s) ≡ 0 = refl in
    let rest = no_functions count sort ss in
    omega arith

abbrev fresh_count : (ℕ → Bool) → ℕ → List ℕ → ℕ
fresh_count test sort ss = sum_by (one_constant sort) (map fresh_constant (filter test ss))

module _ (test : ℕ → Bool) (sort : ℕ) where
  -- a sort that is not asked for gets no constant
  passed : (s : ℕ) (ss : List ℕ) → test s ≡ false → fresh_count test sort (s ∷ ss) ≡ fresh_count test sort ss
  passed s ss n = rw n refl

  -- a constant of another sort does not count
  uncounted : (s : ℕ) (ss : List ℕ) → (s == sort) ≡ false → fresh_count test sort (s ∷ ss) ≡ fresh_count test sort ss
  uncounted s ss u =
      elim (cases_Bool (test s)) [
        | inl t ↦
            let step = sum_by-cons (one_constant sort) (fresh_constant s) (map fresh_constant (filter test ss)) in
            let here : one_constant sort (fresh_constant s) ≡ 0 = ap (λ (b : Bool). cond {A = ℕ} b 1 0) u in
            rw t (omega arith)
        | inr n ↦ passed s ss n
      ]

  counted : (s : ℕ) (ss : List ℕ) → fresh_count test sort (s ∷ ss) ≤ 1 + fresh_count test sort ss
  counted s ss =
      elim (cases_Bool (s == sort)) [
        | inl u ↦
            let step = sum_by-cons (one_constant sort) (fresh_constant s) (map fresh_constant (filter test ss)) in
            let here : one_constant sort (fresh_constant s) ≡ 1 = ap (λ (b : Bool). cond {A = ℕ} b 1 0) u in
            elim (cases_Bool (test s)) [
              | inl t ↦ rw t (omega arith)
              | inr n ↦ let same = passed s ss n in omega arith
            ]
        | inr u ↦ let same = uncounted s ss u in omega arith
      ]

  none_fresh : test sort ≡ false → (ss : List ℕ) → fresh_count test sort ss ≡ 0
  none_fresh e [] = refl
  none_fresh e (s ∷ ss) =
      elim (cases_Bool (s == sort)) [
        | inl u ↦ passed s ss (ap test (eqb-true s sort u) ∙ e) ∙ none_fresh e ss
        | inr u ↦ uncounted s ss u ∙ none_fresh e ss
      ]

  below_range : (a k : ℕ) → sort < a → fresh_count test sort (range_with_len a k) ≡ 0
  below_range a zero h = refl
  below_range a (suc k) h = uncounted a (range_with_len (a + 1) k) (ne_eqb a sort (λ e. absurd (omega arith))) ∙ below_range (a + 1) k (omega arith)

  -- no sort gets more than one
  one_fresh : (a k : ℕ) → fresh_count test sort (range_with_len a k) ≤ 1
  one_fresh a zero = omega arith
  one_fresh a (suc k) =
      elim (cases_Bool (a == sort)) [
        | inl u ↦
            let same = eqb-true a sort u in
            let none = below_range (a + 1) k (omega arith) in
            let here = counted a (range_with_len (a + 1) k) in
            omega arith
        | inr u ↦
            let rest = one_fresh (a + 1) k in
            let here = uncounted a (range_with_len (a + 1) k) u in
            omega arith
      ]

-- ---- a sort that no symbol gives
kind_none : (kind : SymbolKind) (b : Bool) → (gives_value kind && b) ≡ false → ((is_constant kind && b) ≡ false) × ((is_function kind && b) ≡ false)
kind_none Relation b e = (refl, refl)
kind_none Constant b e = (e, refl)
kind_none Function b e = (refl, e)

none_given : (count : ℕ → ℕ) (sort : ℕ) (xs : List Symbol) → list_any (λ s. gives_value s.kind && (s.gives == sort)) xs ≡ false → given count sort xs ≡ 0
none_given count sort [] e = refl
none_given count sort (x ∷ xs) e =
    let parts = or_parts (gives_value x.kind && (x.gives == sort)) (list_any (λ s. gives_value s.kind && (s.gives == sort)) xs) e in
    let tests = kind_none x.kind (x.gives == sort) parts.0 in
    let rest = none_given count sort xs parts.1 in
    rw (sum_by-cons (one_constant sort) x xs, tests.0, sum_by-cons (applied_count count sort) x xs, tests.1) (omega arith)

-- ---- more terms of the arguments' sorts, more terms
pub choices_le : (f g : ℕ → ℕ) (args : List ℕ) → AllByRecursion (λ a. f a ≤ g a) args → choices_in f args ≤ choices_in g args
choices_le f g [] h = omega arith
choices_le f g (a ∷ args) h = mul-le (f a) (choices_in f args) (g a) (choices_in g args) h.0 (choices_le f g args h.1)

pub sums_le : {X : Type 0} (f g : X → ℕ) (xs : List X) → AllByRecursion (λ x. f x ≤ g x) xs → sum_by f xs ≤ sum_by g xs
sums_le f g [] h = omega arith
sums_le f g (x ∷ xs) h =
    let here = h.0 in
    let rest = sums_le f g xs h.1 in
    let a = sum_by-cons f x xs in
    let b = sum_by-cons g x xs in
    omega arith

applied_le : (f g : ℕ → ℕ) (sort : ℕ) (s : Symbol) → (is_function s.kind ≡ true → s.gives ≡ sort → AllByRecursion (λ a. f a ≤ g a) s.args)
    → applied_count f sort s ≤ applied_count g sort s
applied_le f g sort s h =
    elim (cases_Bool (is_function s.kind && (s.gives == sort))) [
      | inl t ↦ let parts = and_parts (is_function s.kind) (s.gives == sort) t in rw t (choices_le f g s.args (h parts.0 (eqb-true s.gives sort parts.1)))
      | inr n ↦ rw n (omega arith)
    ]

module _ (ranks : List ℕ) where
  abbrev Lower : Symbol → Type 0
  Lower s = is_function s.kind ≡ true → AllByRecursion (λ a. slice_index ranks a < slice_index ranks s.gives) s.args

  lower_args : (args : List ℕ) (gives : ℕ) → AllByRecursion (Rises ranks) (edges_between args (gives ∷ []))
      → AllByRecursion (λ a. slice_index ranks a < slice_index ranks gives) args
  lower_args [] gives h = tt
  lower_args (a ∷ args) gives h = (h.0, lower_args args gives h.1)

  lower_kind : (kind : SymbolKind) (args : List ℕ) (gives : ℕ) → AllByRecursion (Rises ranks) (symbol_edges kind args gives) → is_function kind ≡ true
      → AllByRecursion (λ a. slice_index ranks a < slice_index ranks gives) args
  lower_kind Relation args gives h e = absurd (false≢true e)
  lower_kind Constant args gives h e = absurd (false≢true e)
  lower_kind Function args gives h e = lower_args args gives h

  each_lower : (xs : List Symbol) → AllByRecursion (λ (s : Symbol). AllByRecursion (Rises ranks) (symbol_edges s.kind s.args s.gives)) xs → AllByRecursion Lower xs
  each_lower [] h = tt
  each_lower (x ∷ xs) h = (lower_kind x.kind x.args x.gives h.0, each_lower xs h.1)

  below_args : (f g : ℕ → ℕ) (sort : ℕ) → ((a : ℕ) → slice_index ranks a < slice_index ranks sort → f a ≤ g a) → (args : List ℕ)
      → AllByRecursion (λ a. slice_index ranks a < slice_index ranks sort) args
      → AllByRecursion (λ a. f a ≤ g a) args
  below_args f g sort h [] l = tt
  below_args f g sort h (a ∷ args) l = (h a l.0, below_args f g sort h args l.1)

  -- where the sorts of lower rank have no fewer terms, these symbols give no fewer
  given_le : (f g : ℕ → ℕ) (sort : ℕ) → ((a : ℕ) → slice_index ranks a < slice_index ranks sort → f a ≤ g a) → (xs : List Symbol) → AllByRecursion Lower xs
      → given f sort xs ≤ given g sort xs
  given_le f g sort h xs l =
      let each : (ys : List Symbol) → AllByRecursion Lower ys → AllByRecursion (λ s. applied_count f sort s ≤ applied_count g sort s) ys = all in
      let apps = sums_le (applied_count f sort) (applied_count g sort) xs (each xs l) in
      omega arith
    where
      all : (ys : List Symbol) → AllByRecursion Lower ys → AllByRecursion (λ s. applied_count f sort s ≤ applied_count g sort s) ys
      all [] k = tt
      all (y ∷ ys) k = (
        applied_le f g sort y
            (λ e same. below_args f g sort h y.args (subst (λ (n : ℕ). AllByRecursion (λ a. slice_index ranks a < slice_index ranks n) y.args) same (k.0 e))),
        all ys k.1,
      )

-- a signature with these symbols besides, and a constant for each sort that would be bare
abbrev pub filled : Signature → List Symbol → Signature
filled sig made = with_symbols sig (made ++ fresh_constants (length sig.sorts) (sig.symbols ++ made))

module _ (sig : Signature) (fewer more : List Symbol) (sum : (f : Symbol → ℕ) → sum_by f fewer ≤ sum_by f more)
    (strata : IsStratified (filled sig fewer)) (other : IsStratified (filled sig more)) (ok : is_signature (filled sig fewer) ≡ true)
    (some : (sort : ℕ) → sort < length sig.sorts → 0 < term_count (filled sig more) sort) where
  abbrev small : ℕ → ℕ
  small = term_count (filled sig fewer)

  abbrev large : ℕ → ℕ
  large = term_count (filled sig more)

  abbrev ranks : List ℕ
  ranks = strata.ranks

  lower : AllByRecursion (Lower ranks) (sig.symbols ++ (fewer ++ fresh_constants (length sig.sorts) (sig.symbols ++ fewer)))
  lower = each_lower ranks (filled sig fewer).symbols
      (each-unflat_map (Rises ranks) (λ (s : Symbol). symbol_edges s.kind s.args s.gives) (filled sig fewer).symbols strata.are.rises)

  -- the three kinds of symbols
  split : (count : ℕ → ℕ) (sort : ℕ) (made : List Symbol) → given count sort (filled sig made).symbols
      ≡ given count sort sig.symbols + (given count sort made + sum_by (one_constant sort) (fresh_constants (length sig.sorts) (sig.symbols ++ made)))
  split count sort made =
      let symbols = sig.symbols ++ made in
      let fresh = fresh_constants (length sig.sorts) symbols in
      let a = given_append count sort sig.symbols (made ++ fresh) in
      let b = given_append count sort made fresh in
      let c = no_functions count sort (filter (is_bare symbols) (range_with_len 0 (length sig.sorts))) in
      omega arith

  at_least : (sort : ℕ) → sort < length sig.sorts → given large sort sig.symbols + given large sort more ≤ large sort
  at_least sort h =
      let e = counts_are (filled sig more) other sort h in
      let s = split large sort more in
      omega arith

  bare_count : (sort : ℕ) → sort < length sig.sorts → is_bare (sig.symbols ++ fewer) sort ≡ true → small sort ≤ 1
  bare_count sort h e =
      let none = none_given small sort (sig.symbols ++ fewer) (not-true (list_any (λ s. gives_value s.kind && (s.gives == sort)) (sig.symbols ++ fewer)) e) in
      let apart = given_append small sort sig.symbols fewer in
      let are = counts_are (filled sig fewer) strata sort h in
      let s = split small sort fewer in
      let one = one_fresh (is_bare (sig.symbols ++ fewer)) sort 0 (length sig.sorts) in
      omega arith

  full_count : (sort : ℕ) → sort < length sig.sorts → is_bare (sig.symbols ++ fewer) sort ≡ false
      → small sort ≡ given small sort sig.symbols + given small sort fewer
  full_count sort h e =
      let are = counts_are (filled sig fewer) strata sort h in
      let s = split small sort fewer in
      let none = none_fresh (is_bare (sig.symbols ++ fewer)) sort e (range_with_len 0 (length sig.sorts)) in
      omega arith

  larger : (depth sort : ℕ) → slice_index ranks sort < depth → small sort ≤ large sort
  larger zero sort r = absurd (omega arith)
  larger (suc depth) sort r =
      elim (cases_lt sort (length sig.sorts)) [
        | inl h ↦
            elim (cases_Bool (is_bare (sig.symbols ++ fewer) sort)) [
              | inl t ↦ let a = bare_count sort h t in let b = some sort h in omega arith
              | inr n ↦
                  let fresh = fresh_constants (length sig.sorts) (sig.symbols ++ fewer) in
                  let below : (a : ℕ) → slice_index ranks a < slice_index ranks sort → small a ≤ large a = λ a l. larger depth a (omega arith) in
                  let own = given_le ranks small large sort below sig.symbols (each-front (Lower ranks) sig.symbols (fewer ++ fresh) lower) in
                  let made = given_le ranks small large sort below fewer (each-front (Lower ranks) fewer fresh (each-back (Lower ranks) sig.symbols (fewer ++ fresh) lower)) in
                  let a = full_count sort h n in
                  let b = at_least sort h in
                  let c = sum (one_constant sort) in
                  let d = sum (applied_count large sort) in
                  omega arith
            ]
        | inr far ↦ let none = none_beyond (filled sig fewer) ok sort far in omega arith
      ]

  -- more symbols give no fewer ground terms of a sort
  pub counts_grow : (sort : ℕ) → small sort ≤ large sort
  counts_grow sort = larger (suc (slice_index ranks sort)) sort (omega arith)
