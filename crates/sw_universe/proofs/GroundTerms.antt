-- The universe: its terms have their sorts, no sort is without a term, and applications stay in it.
use Rattle.std.specs.Prelude.{◌≡◌, ℕ, zero, suc, ◌+◌, ◌<◌, Bool, true, false, not, ◌⊎◌, ◌&&◌, ◌==◌, nat_lt, List, [], ◌∷◌, ◌++◌, length, map, Some, Contains, slice_get, slice_index, get_or}
use Rattle.std.specs.List.{list_all, list_any, filter, flat_map, enumerate_from, AllByRecursion, AllZip}
use Rattle.std.proofs.Common.{arith, refl, sym, ap, subst, ◌∙◌, inl, inr}
use Rattle.std.proofs.lemmas.Bool.{and_parts, and_from, or_cases, cond_both, false≢true}
use Rattle.std.proofs.lemmas.Option.{none-some, same_Some}
use Rattle.std.proofs.lemmas.Bool.Decides.{nat_tests}
use Rattle.sw_logic.specs.declared.syntax.SymbolKind.{SymbolKind}
use Rattle.sw_logic.specs.declared.syntax.SymbolKind.TheVariants.{Relation, Constant, Function}
use Rattle.sw_logic.specs.declared.syntax.Symbol.{Symbol}
use Rattle.sw_logic.specs.declared.syntax.Signature.{Signature}
use Rattle.sw_logic.specs.declared.syntax.Term.{Term}
use Rattle.sw_logic.specs.declared.syntax.Term.TheVariants.{Apply}
use Rattle.sw_logic.specs.declared.syntax.Edge.{Edge}
use Rattle.sw_logic.specs.Sorted.{gives_value}
use Rattle.sw_truth.specs.Models.{is_bare}
use Rattle.sw_logic.specs.Signatures.{is_signature, is_symbol, is_of_kind}
use Rattle.sw_logic.specs.Strata.{function_edges, symbol_edges, edges_between}
use Rattle.sw_universe.specs.GroundTerms.{tuples, is_constant, is_function, giving, constants, applications, terms_within, terms_of}
use Rattle.sw_universe.specs.Laws.{ValuesAreInRange, UniverseIsSorted, UniverseIsInhabited, UniverseIsClosed}
use Rattle.sw_truth.specs.Sorting.{HasSort, HaveSorts}
use Rattle.sw_truth.proofs.Growing.{Stage}
use Rattle.sw_truth.proofs.Ranging.{value_below}
use Rattle.sw_truth.proofs.Deriving.{term_sorted, sort_is}
use Rattle.sw_truth.proofs.Lists.{IsIn, in-left, in-right, in-map, in-flat_map, in-filter, in-enumerate, in-contains, contains-in, in-all, in-some, all-map, all-flat_map, all-filter, all-enumerate, flat_map-same, map-same, no_length}
use Rattle.sw_truth.proofs.Rising.{Rises, rises_front}
use Rattle.std.proofs.lemmas.Bool.{ltb-true, eqb-true}
use Rattle.sw_lists.proofs.Tests.{true_at}
use Rattle.sw_lists.proofs.Each.{each-append, each-weaker}

pub values_are_in_range : ValuesAreInRange
values_are_in_range sig s t sort fit e =
    let a : Stage = record { signature = sig; structure = s; fits = fit } in
    value_below a [] [] tt t sort (term_sorted sig [] t sort e)

constant_by : (sorts : ℕ) (kind : SymbolKind) (args : List ℕ) (gives : ℕ) → is_of_kind sorts kind args gives ≡ true → is_constant kind ≡ true → (gives_value kind ≡ true) × (args ≡ [])
constant_by sorts Relation args gives e k = absurd (false≢true k)
constant_by sorts Constant args gives e k = (refl, no_length args (eqb-true (length args) 0 (and_parts (length args == 0) (nat_lt gives sorts) e).0))
constant_by sorts Function args gives e k = absurd (false≢true k)

function_gives : (kind : SymbolKind) → is_function kind ≡ true → gives_value kind ≡ true
function_gives Relation e = absurd (false≢true e)
function_gives Constant e = refl
function_gives Function e = refl

module _ (sig : Signature) where
  abbrev HasSorts : ℕ → List Term → Type 0
  HasSorts sort ts = AllByRecursion (λ t. HasSort sig [] t sort) ts

  -- a symbol of the signature, with its number
  abbrev IsSymbol : (ℕ × Symbol) → Type 0
  IsSymbol s = slice_get sig.symbols s.0 ≡ Some s.1

  symbols_are : AllByRecursion IsSymbol (enumerate_from 0 sig.symbols)
  symbols_are = all-enumerate IsSymbol 0 sig.symbols (λ k x e. let zeroth : 0 + k ≡ k = omega arith in ap (slice_get sig.symbols) zeroth ∙ e)

  given : (kind : SymbolKind → Bool) (sort : ℕ) → AllByRecursion (λ s. IsSymbol s × ((kind s.1.kind && (s.1.gives == sort)) ≡ true)) (giving sig kind sort)
  given kind sort = all-filter IsSymbol (λ s. kind s.1.kind && (s.1.gives == sort)) (enumerate_from 0 sig.symbols) symbols_are

  tuples_sorted : (listed : ℕ → List Term) → ((sort : ℕ) → HasSorts sort (listed sort)) → (ss : List ℕ) → AllByRecursion (λ ts. HaveSorts sig [] ts ss) (tuples (map listed ss))
  tuples_sorted listed h [] = (HaveSorts.none, tt)
  tuples_sorted listed h (s ∷ ss) =
      all-flat_map (λ t. HasSort sig [] t s) (λ ts. HaveSorts sig [] ts (s ∷ ss)) (λ x. map (λ tuple. x ∷ tuple) (tuples (map listed ss)))
      (λ t i. all-map (λ ts. HaveSorts sig [] ts ss) (λ ts. HaveSorts sig [] ts (s ∷ ss)) (λ tuple. t ∷ tuple) (λ ts k. HaveSorts.more t ts s ss i k) (tuples (map listed ss)) (tuples_sorted listed h ss))
      (listed s) (h s)

  module _ (ok : is_signature sig ≡ true) where
    symbol_is : (s : ℕ × Symbol) → IsSymbol s → is_symbol (length sig.sorts) s.1 ≡ true
    symbol_is s e = true_at (is_symbol (length sig.sorts)) sig.symbols s.0 s.1 ok e

    constant_sorted : (sort : ℕ) (s : ℕ × Symbol) → IsSymbol s × ((is_constant s.1.kind && (s.1.gives == sort)) ≡ true) → HasSort sig [] (Apply s.0 false []) sort
    constant_sorted sort s (e, t) =
        let parts = and_parts (is_constant s.1.kind) (s.1.gives == sort) t in
        let of_kind = (and_parts _ _ (symbol_is s e)).1 in
        let c = constant_by (length sig.sorts) s.1.kind s.1.args s.1.gives of_kind parts.0 in
        let args : HaveSorts sig [] [] s.1.args = subst (HaveSorts sig [] []) (sym c.1) HaveSorts.none in
        subst (HasSort sig [] (Apply s.0 false [])) (eqb-true s.1.gives sort parts.1) (HasSort.apply s.0 s.1 [] e c.0 args)

    constants_sorted : (sort : ℕ) → HasSorts sort (constants sig sort)
    constants_sorted sort =
        all-map (λ s. IsSymbol s × ((is_constant s.1.kind && (s.1.gives == sort)) ≡ true)) (λ t. HasSort sig [] t sort) (λ s. Apply s.0 false []) (constant_sorted sort) (giving sig is_constant sort) (given is_constant sort)

    applications_sorted : (listed : ℕ → List Term) → ((sort : ℕ) → HasSorts sort (listed sort)) → (sort : ℕ) → HasSorts sort (applications sig listed sort)
    applications_sorted listed h sort =
        all-flat_map (λ s. IsSymbol s × ((is_function s.1.kind && (s.1.gives == sort)) ≡ true)) (λ t. HasSort sig [] t sort) (λ s. map (Apply s.0 false) (tuples (map listed s.1.args)))
        (λ s e.
        let parts = and_parts (is_function s.1.kind) (s.1.gives == sort) e.1 in
        all-map (λ ts. HaveSorts sig [] ts s.1.args) (λ t. HasSort sig [] t sort) (Apply s.0 false)
        (λ ts k. subst (HasSort sig [] (Apply s.0 false ts)) (eqb-true s.1.gives sort parts.1) (HasSort.apply s.0 s.1 ts e.0 (function_gives s.1.kind parts.0) k))
        (tuples (map listed s.1.args)) (tuples_sorted listed h s.1.args))
        (giving sig is_function sort) (given is_function sort)

    pub terms_sorted : (depth sort : ℕ) → HasSorts sort (terms_within sig depth sort)
    terms_sorted zero sort = constants_sorted sort
    terms_sorted (suc depth) sort =
        each-append (λ t. HasSort sig [] t sort) (constants sig sort) (applications sig (terms_within sig depth) sort) (constants_sorted sort) (applications_sorted (terms_within sig depth) (terms_sorted depth) sort)

pub universe_is_sorted : UniverseIsSorted
universe_is_sorted sig sort t ok h =
    sort_is sig [] t sort (in-all (λ u. HasSort sig [] u sort) t (terms_of sig sort) (terms_sorted sig ok (length sig.sorts) sort) (contains-in t (terms_of sig sort) h))

rises_symbol : (ranks : List ℕ) (symbols : List Symbol) (k : ℕ) (s : Symbol) → AllByRecursion (Rises ranks) (function_edges symbols) → slice_get symbols k ≡ Some s
    → AllByRecursion (Rises ranks) (symbol_edges s.kind s.args s.gives)
rises_symbol ranks [] k s h e = absurd (none-some s e)
rises_symbol ranks (x ∷ symbols) zero s h e =
    subst (λ (y : Symbol). AllByRecursion (Rises ranks) (symbol_edges y.kind y.args y.gives)) (same_Some x s e) (rises_front ranks (symbol_edges x.kind x.args x.gives) (function_edges symbols) h).0
rises_symbol ranks (x ∷ symbols) (suc k) s h e = rises_symbol ranks symbols k s (rises_front ranks (symbol_edges x.kind x.args x.gives) (function_edges symbols) h).1 e

abbrev AllLower : List ℕ → ℕ → List ℕ → Type 0
AllLower ranks gives args = AllByRecursion (λ a. slice_index ranks a < slice_index ranks gives) args

rises_args : (ranks args : List ℕ) (gives : ℕ) → AllByRecursion (Rises ranks) (edges_between args (gives ∷ [])) → AllLower ranks gives args
rises_args ranks [] gives h = tt
rises_args ranks (a ∷ args) gives h = (h.0, rises_args ranks args gives h.1)

rises_kind : (ranks args : List ℕ) (gives : ℕ) (kind : SymbolKind) → is_function kind ≡ true → AllByRecursion (Rises ranks) (symbol_edges kind args gives) → AllLower ranks gives args
rises_kind ranks args gives Relation e h = absurd (false≢true e)
rises_kind ranks args gives Constant e h = absurd (false≢true e)
rises_kind ranks args gives Function e h = rises_args ranks args gives h

module _ (sig : Signature) (ranks : List ℕ) (rises : AllByRecursion (Rises ranks) (function_edges sig.symbols)) where
  lower : (s : ℕ × Symbol) → slice_get sig.symbols s.0 ≡ Some s.1 → is_function s.1.kind ≡ true → AllLower ranks s.1.gives s.1.args
  lower s e k = rises_kind ranks s.1.args s.1.gives s.1.kind k (rises_symbol ranks sig.symbols s.0 s.1 rises e)

  same_args : (d e sort : ℕ) → slice_index ranks sort < suc d → slice_index ranks sort < suc e
      → ((a : ℕ) → slice_index ranks a < d → slice_index ranks a < e → terms_within sig d a ≡ terms_within sig e a)
      → (s : ℕ × Symbol) → (slice_get sig.symbols s.0 ≡ Some s.1) × ((is_function s.1.kind && (s.1.gives == sort)) ≡ true) → map (terms_within sig d) s.1.args ≡ map (terms_within sig e) s.1.args
  same_args d e sort h k ih s (g, t) =
      let parts = and_parts (is_function s.1.kind) (s.1.gives == sort) t in
      let gives : s.1.gives ≡ sort = eqb-true s.1.gives sort parts.1 in
      let low = lower s g parts.0 in
      map-same (terms_within sig d) (terms_within sig e) s.1.args
      (each-weaker (λ a. slice_index ranks a < slice_index ranks s.1.gives) (λ a. terms_within sig d a ≡ terms_within sig e a)
      (λ a below. let same = ap (slice_index ranks) gives in ih a (omega arith) (omega arith)) s.1.args low)

  -- deeper terms of a sort there are none
  pub stable : (d e sort : ℕ) → slice_index ranks sort < d → slice_index ranks sort < e → terms_within sig d sort ≡ terms_within sig e sort
  stable zero e sort h k = absurd (omega arith)
  stable (suc d) zero sort h k = absurd (omega arith)
  stable (suc d) (suc e) sort h k =
      ap (λ (xs : List Term). constants sig sort ++ xs)
      (flat_map-same (λ s. map (Apply s.0 false) (tuples (map (terms_within sig d) s.1.args))) (λ s. map (Apply s.0 false) (tuples (map (terms_within sig e) s.1.args))) (giving sig is_function sort)
      (each-weaker (λ s. (slice_get sig.symbols s.0 ≡ Some s.1) × ((is_function s.1.kind && (s.1.gives == sort)) ≡ true)) (λ s. map (Apply s.0 false) (tuples (map (terms_within sig d) s.1.args)) ≡ map (Apply s.0 false) (tuples (map (terms_within sig e) s.1.args)))
      (λ s g. ap (λ (lists : List (List Term)). map (Apply s.0 false) (tuples lists)) (same_args d e sort h k (λ a. stable d e a) s g)) (giving sig is_function sort) (given sig is_function sort)))

  -- a tuple of listed terms is a tuple
  in-tuples : (listed : ℕ → List Term) (ss : List ℕ) (ts : List Term) → AllZip (λ sort t. IsIn t (listed sort)) ss ts → IsIn ts (tuples (map listed ss))
  in-tuples listed [] [] h = IsIn.here []
  in-tuples listed [] (t ∷ ts) h = absurd h
  in-tuples listed (s ∷ ss) [] h = absurd h
  in-tuples listed (s ∷ ss) (t ∷ ts) h =
      in-flat_map (λ x. map (λ tuple. x ∷ tuple) (tuples (map listed ss))) t (t ∷ ts) (listed s) h.0
      (in-map (λ tuple. t ∷ tuple) ts (tuples (map listed ss)) (in-tuples listed ss ts h.1))

  is_number : (n : ℕ) → (n == n) ≡ true
  is_number n = grind arith

  function_is : (kind : SymbolKind) → kind ≡ Function → is_function kind ≡ true
  function_is kind e = ap is_function e

  -- an application to terms of the depth before
  in-applications : (k : ℕ) (s : Symbol) (listed : ℕ → List Term) (ts : List Term) → slice_get sig.symbols k ≡ Some s → is_function s.kind ≡ true → AllZip (λ sort t. IsIn t (listed sort)) s.args ts
      → IsIn (Apply k false ts) (applications sig listed s.gives)
  in-applications k s listed ts e f h =
      let zeroth : 0 + k ≡ k = omega arith in
      let listed_symbol : IsIn (k, s) (enumerate_from 0 sig.symbols) = subst (λ n. IsIn (n, s) (enumerate_from 0 sig.symbols)) zeroth (in-enumerate 0 sig.symbols k s e) in
      let chosen = in-filter (λ (x : ℕ × Symbol). is_function x.1.kind && (x.1.gives == s.gives)) (k, s) (enumerate_from 0 sig.symbols) listed_symbol (and_from _ _ f (is_number s.gives)) in
      in-flat_map (λ (x : ℕ × Symbol). map (Apply x.0 false) (tuples (map listed x.1.args))) (k, s) (Apply k false ts) (giving sig is_function s.gives) chosen
      (in-map (Apply k false) ts (tuples (map listed s.args)) (in-tuples listed s.args ts h))

  lower_terms : (m gives : ℕ) → slice_index ranks gives < suc m → (args : List ℕ) → AllLower ranks gives args → (ts : List Term)
      → AllZip (λ sort t. IsIn t (terms_within sig (suc m) sort)) args ts → AllZip (λ sort t. IsIn t (terms_within sig m sort)) args ts
  lower_terms m gives r [] low [] h = tt
  lower_terms m gives r [] low (t ∷ ts) h = absurd h
  lower_terms m gives r (a ∷ args) low [] h = absurd h
  lower_terms m gives r (a ∷ args) low (t ∷ ts) h =
      let below = low.0 in
      (subst (λ (xs : List Term). IsIn t xs) (stable (suc m) m a (omega arith) (omega arith)) h.0, lower_terms m gives r args low.1 ts h.1)

  closed_at : (n : ℕ) (k : ℕ) (s : Symbol) (ts : List Term) → slice_index ranks s.gives < n → slice_get sig.symbols k ≡ Some s → is_function s.kind ≡ true
      → AllZip (λ sort t. IsIn t (terms_within sig n sort)) s.args ts → IsIn (Apply k false ts) (terms_within sig n s.gives)
  closed_at zero k s ts r e f h = absurd (omega arith)
  closed_at (suc m) k s ts r e f h =
      in-right (Apply k false ts) (constants sig s.gives) (applications sig (terms_within sig m) s.gives)
      (in-applications k s (terms_within sig m) ts e f (lower_terms m s.gives r s.args (lower (k, s) e f) ts h))

  -- where some symbol gives each sort, each sort has a term
  some_symbol : (p : Symbol → Bool) (symbols : List Symbol) → list_any p symbols ≡ true → (k : ℕ) × (s : Symbol) × (slice_get symbols k ≡ Some s) × (p s ≡ true)
  some_symbol p [] e = absurd (false≢true e)
  some_symbol p (x ∷ symbols) e =
      elim (or_cases (p x) (list_any p symbols) e) [
        | inl t ↦ (0, x, refl, t)
        | inr t ↦ let rest = some_symbol p symbols t in (suc rest.0, rest.1, rest.2, rest.3)
      ]

  kind_cases : (kind : SymbolKind) → gives_value kind ≡ true → (is_constant kind ≡ true) ⊎ (is_function kind ≡ true)
  kind_cases Relation e = absurd (false≢true e)
  kind_cases Constant e = inl refl
  kind_cases Function e = inr refl

  chosen_terms : (listed : ℕ → List Term) (ss : List ℕ) → AllByRecursion (λ sort. (t : Term) × IsIn t (listed sort)) ss → (ts : List Term) × AllZip (λ sort t. IsIn t (listed sort)) ss ts
  chosen_terms listed [] h = ([], tt)
  chosen_terms listed (s ∷ ss) h = let rest = chosen_terms listed ss h.1 in (h.0.0 ∷ rest.0, (h.0.1, rest.1))

  in-constants : (k : ℕ) (s : Symbol) → slice_get sig.symbols k ≡ Some s → is_constant s.kind ≡ true → IsIn (Apply k false []) (constants sig s.gives)
  in-constants k s e f =
      let zeroth : 0 + k ≡ k = omega arith in
      let listed_symbol : IsIn (k, s) (enumerate_from 0 sig.symbols) = subst (λ n. IsIn (n, s) (enumerate_from 0 sig.symbols)) zeroth (in-enumerate 0 sig.symbols k s e) in
      let chosen = in-filter (λ (x : ℕ × Symbol). is_constant x.1.kind && (x.1.gives == s.gives)) (k, s) (enumerate_from 0 sig.symbols) listed_symbol (and_from _ _ f (is_number s.gives)) in
      in-map (λ (x : ℕ × Symbol). Apply x.0 false []) (k, s) (giving sig is_constant s.gives) chosen

  constants_within : (n sort : ℕ) (t : Term) → IsIn t (constants sig sort) → IsIn t (terms_within sig n sort)
  constants_within zero sort t i = i
  constants_within (suc n) sort t i = in-left t (constants sig sort) (applications sig (terms_within sig n) sort) i

  module _ (n : ℕ) (below : (sort : ℕ) → slice_index ranks sort < n) (none : (sort : ℕ) → sort < n → is_bare sig.symbols sort ≡ false) (ok : is_signature sig ≡ true) (n_is : length sig.sorts ≡ n) where
    sort_test : (v m : ℕ) → nat_lt v m ≡ true → v < m
    sort_test v m e = grind (arith, nat_tests)

    args_below : (args : List ℕ) → list_all (λ sort. nat_lt sort (length sig.sorts)) args ≡ true → AllByRecursion (λ a. a < n) args
    args_below [] e = tt
    args_below (a ∷ args) e =
        let parts = and_parts (nat_lt a (length sig.sorts)) (list_all (λ sort. nat_lt sort (length sig.sorts)) args) e in
        let here = sort_test a (length sig.sorts) parts.0 in
        (omega arith, args_below args parts.1)

    both_all : (P Q : ℕ → Type 0) (xs : List ℕ) → AllByRecursion P xs → AllByRecursion Q xs → AllByRecursion (λ x. P x × Q x) xs
    both_all P Q [] a b = tt
    both_all P Q (x ∷ xs) a b = ((a.0, b.0), both_all P Q xs a.1 b.1)

    not_not : (b : Bool) → not b ≡ false → b ≡ true
    not_not true e = refl
    not_not false e = sym e

    -- by depth
    term_of : (depth sort : ℕ) → slice_index ranks sort < depth → sort < n → (t : Term) × IsIn t (terms_within sig depth sort)
    term_of zero sort r h = absurd (omega arith)
    term_of (suc depth) sort r h =
        let found = some_symbol (λ s. gives_value s.kind && (s.gives == sort)) sig.symbols (not_not _ (none sort h)) in
        let k = found.0 in
        let s = found.1 in
        let parts = and_parts (gives_value s.kind) (s.gives == sort) found.3 in
        let gives : s.gives ≡ sort = eqb-true s.gives sort parts.1 in
        elim (kind_cases s.kind parts.0) [
          | inl c ↦
              (Apply k false [], subst (λ x. IsIn (Apply k false []) (terms_within sig (suc depth) x)) gives (constants_within (suc depth) s.gives (Apply k false []) (in-constants k s found.2 c)))
          | inr f ↦
              let symbol_ok = true_at (is_symbol (length sig.sorts)) sig.symbols k s ok found.2 in
              let args_in = args_below s.args (and_parts _ _ symbol_ok).0 in
              let low = lower (k, s) found.2 f in
              let same = ap (slice_index ranks) gives in
              let terms = chosen_terms (terms_within sig depth) s.args
              (each-weaker (λ a. (slice_index ranks a < slice_index ranks s.gives) × (a < n)) (λ a. (t : Term) × IsIn t (terms_within sig depth a))
              (λ a b. let l = b.0 in term_of depth a (omega arith) b.1) s.args (both_all (λ a. slice_index ranks a < slice_index ranks s.gives) (λ a. a < n) s.args low args_in)) in (
                Apply k false terms.0,
                subst (λ x. IsIn (Apply k false terms.0) (terms_within sig (suc depth) x)) gives
                    (in-right (Apply k false terms.0) (constants sig s.gives) (applications sig (terms_within sig depth) s.gives) (in-applications k s (terms_within sig depth) terms.0 found.2 f terms.1)),
              )
        ]

-- a rank is below the number of sorts, also where there is none
rank_below : (ranks : List ℕ) (n : ℕ) → AllByRecursion (λ r. r < n) ranks → 0 < n → (sort : ℕ) → slice_index ranks sort < n
rank_below [] n h some sort = some
rank_below (r ∷ ranks) n h some zero = h.0
rank_below (r ∷ ranks) n h some (suc sort) = rank_below ranks n h.1 some sort

pub universe_is_inhabited : UniverseIsInhabited
universe_is_inhabited sig sort ok strata none h =
    let n = length sig.sorts in
    let ranks = strata.ranks in
    let below = rank_below ranks n strata.are.below (omega arith) in
    let t = term_of sig ranks strata.are.rises n below none ok refl n sort (below sort) h in
    in-some t.0 (terms_of sig sort) t.1

zip_in : (listed : ℕ → List Term) (ss : List ℕ) (ts : List Term) → AllZip (λ sort t. Contains (listed sort) t) ss ts → AllZip (λ sort t. IsIn t (listed sort)) ss ts
zip_in listed [] [] h = tt
zip_in listed [] (t ∷ ts) h = absurd h
zip_in listed (s ∷ ss) [] h = absurd h
zip_in listed (s ∷ ss) (t ∷ ts) h = (contains-in t (listed s) h.0, zip_in listed ss ts h.1)

kind_gives_below : (sorts : ℕ) (kind : SymbolKind) (args : List ℕ) (gives : ℕ) → is_of_kind sorts kind args gives ≡ true → is_function kind ≡ true → gives < sorts
kind_gives_below sorts Relation args gives e f = absurd (false≢true f)
kind_gives_below sorts Constant args gives e f = absurd (false≢true f)
kind_gives_below sorts Function args gives e f = ltb-true gives sorts (and_parts (nat_lt 0 (length args)) (nat_lt gives sorts) e).1

pub universe_is_closed : UniverseIsClosed
universe_is_closed sig number symbol args ok strata e kind h =
    let n = length sig.sorts in
    let ranks = strata.ranks in
    let f : is_function symbol.kind ≡ true = ap is_function kind in
    let symbol_ok = true_at (is_symbol n) sig.symbols number symbol ok e in
    let gives = kind_gives_below n symbol.kind symbol.args symbol.gives (and_parts _ _ symbol_ok).1 f in
    let below = rank_below ranks n strata.are.below (omega arith) in
    in-contains (Apply number false args) (terms_of sig symbol.gives)
    (closed_at sig ranks strata.are.rises n number symbol args (below symbol.gives) e f (zip_in (terms_of sig) symbol.args args h))
