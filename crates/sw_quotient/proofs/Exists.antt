-- The structure with these tables is the quotient.
use Rattle.std.specs.Prelude.{◌≡◌, ℕ, zero, suc, ◌+◌, ◌<◌, ◌≤◌, ◌&&◌, ◌==◌, nat_lt, Bool, true, false, List, [], ◌∷◌, map, length, Some, unwrap_or, slice_get}
use Rattle.std.specs.List.{flat_map, filter, range_with_len, list_all}
use Rattle.std.proofs.Common.{arith, refl, sym, subst, ap, ◌∙◌, get_or, add-zero, zero-add, inl, inr}
use Rattle.std.proofs.lemmas.Bool.{and_from, and_parts, eqb-true, eq-eqb, lt-ltb, cases_lt}
use Rattle.std.proofs.lemmas.List.Folds.{list_all-append}
use Rattle.std.proofs.lemmas.List.FromFn.{length-map-range_with_len, get_or-map-range_with_len}
use Rattle.sw_lists.proofs.Tests.{true_at}
use Rattle.std.proofs.lemmas.Option.{slice_get_past, unwrap_or-slice_get}
use Rattle.sw_logic.specs.declared.syntax.SymbolKind.{SymbolKind}
use Rattle.sw_logic.specs.declared.syntax.SymbolKind.TheVariants.{Relation, Constant, Function}
use Rattle.sw_logic.specs.declared.syntax.Symbol.{Symbol}
use Rattle.sw_logic.specs.declared.structure.Table.TheVariants.{Bits, Value, Values}
use Rattle.sw_logic.specs.declared.structure.Structure.{Structure}
use Rattle.sw_logic.specs.Truth.{size_of, place_from, value_in, bit_in}
use Rattle.sw_logic.specs.Fits.{tuple_count, table_fits, tables_fit, fits}
use Rattle.sw_logic.specs.Sorted.{gives_value}
use Rattle.sw_truth.specs.declared.sets.SkolemSet.{SkolemSet}
use Rattle.sw_truth.specs.Models.{AreOfSorts}
use Rattle.sw_universe.specs.declared.universe.Universe.{Universe}
use Rattle.sw_numbers.specs.Numbers.{IsIndexed}
use Rattle.sw_logic.specs.declared.syntax.Signature.{Signature}
use Rattle.sw_logic.specs.Signatures.{is_signature, is_symbol, is_of_kind}
use Rattle.sw_quotient.specs.Terms.{Numbering, IsClosed, numbering, number}
use Rattle.sw_quotient.specs.Valuations.{Valuation}
use Rattle.sw_quotient.specs.Truths.{AreEqualitiesTrue}
use Rattle.sw_quotient.specs.Classes.{is_least, class_of, classes}
use Rattle.sw_quotient.specs.Quotient.{IsQuotient}
use Rattle.sw_quotient.specs.Tables.{tabulate, listed, table_of, tables_from, quotient_of}
use Rattle.sw_quotient.specs.Laws.{QuotientExists}
use Rattle.sw_quotient.proofs.Classes.{IsEquality, equality_of, class-below, class-equal, class-onto, below_count}
use Rattle.sw_quotient.proofs.Congruence.{AreEqual, relation-moves, values-move}
use Rattle.sw_quotient.proofs.Tabulated.{terms_of, tabulate_length, tabulate_get}

tables_at : (sig : Signature) (n : Numbering) (v : Valuation) (k : ℕ) (xs : List Symbol) (f : ℕ) (x : Symbol) → slice_get xs f ≡ Some x → slice_get (tables_from sig n v k xs) f ≡ Some (table_of (listed n v) sig n v (k + f) x.args x.gives x.kind)
tables_at sig n v k [] f x e = cc
tables_at sig n v k (y ∷ xs) zero x e =
    let same : y ≡ x = cc in
    ap Some (ap (λ (z : Symbol). table_of (listed n v) sig n v k z.args z.gives z.kind) same ∙ ap (λ j. table_of (listed n v) sig n v j x.args x.gives x.kind) (sym (add-zero k)))
tables_at sig n v k (y ∷ xs) (suc f) x e = tables_at sig n v (k + 1) xs f x e ∙ ap (λ j. Some (table_of (listed n v) sig n v j x.args x.gives x.kind)) (moved k f)
  where
    moved : (k f : ℕ) → (k + 1) + f ≡ k + suc f
    moved k f = omega arith

all_flat : {X : Type 0} (p : X → Bool) (h : ℕ → List X) (ts : List ℕ) → ((k : ℕ) → k < length ts → list_all p (h (get_or ts k 0)) ≡ true) → list_all p (flat_map h ts) ≡ true
all_flat p h [] f = refl
all_flat p h (t ∷ ts) f = list_all-append p (h t) (flat_map h ts) ∙ and_from (list_all p (h t)) (list_all p (flat_map h ts)) (f 0 (omega arith)) (all_flat p h ts (λ k l. f (suc k) (omega arith)))

all_positive : (g : ℕ → ℕ) (a k : ℕ) → ((s : ℕ) → s < a + k → 0 < g s) → list_all (λ n. nat_lt 0 n) (map g (range_with_len a k)) ≡ true
all_positive g a zero f = refl
all_positive g a (suc k) f = and_from (nat_lt 0 (g a)) (list_all (λ n. nat_lt 0 n) (map g (range_with_len (a + 1) k))) (lt-ltb 0 (g a) (f a (omega arith))) (all_positive g (a + 1) k (λ s l. f s (omega arith)))

-- constants have no arguments, and each sort has a term and no other number one
pub record IsUsual (sig : Signature) (n : Numbering) : Type 0 where
  pub bare : (f : ℕ) (x : Symbol) → slice_get sig.symbols f ≡ Some x → x.kind ≡ Constant → x.args ≡ []
  pub inhabited : (sort : ℕ) → sort < length sig.sorts → 0 < size_of n.counts sort
  pub counts : length n.counts ≡ length sig.sorts

module _ (set : SkolemSet) (u : Universe) (firsts : List ℕ) (v : Valuation) (true_of : AreEqualitiesTrue set u firsts v) (closed : IsClosed set.signature (numbering u firsts)) (usual : IsUsual set.signature (numbering u firsts)) where
  abbrev n : Numbering
  n = numbering u firsts

  abbrev s : Structure
  s = quotient_of set.signature n v

  abbrev class : ℕ → ℕ → ℕ
  class = class_of v n.counts

  equality : (sort : ℕ) → IsEquality (size_of n.counts sort) (v.equal sort)
  equality = equality_of set u firsts v true_of

  past_none : (sort : ℕ) → length set.signature.sorts ≤ sort → length (listed n v sort) ≡ 0
  past_none sort h =
      let none : size_of n.counts sort ≡ 0 = ap (λ o. unwrap_or o 0) (slice_get_past n.counts sort (omega (arith, usual.counts))) in
      ap (λ k. length (filter (is_least v sort) (range_with_len 0 k))) none

  sizes_are : (sort : ℕ) → size_of s.sizes sort ≡ length (listed n v sort)
  sizes_are sort =
      let count = length set.signature.sorts in
      let g = λ (k : ℕ). length (listed n v k) in
      elim (cases_lt sort count) [
        | inl below ↦ unwrap_or-slice_get s.sizes sort 0 ∙ get_or-map-range_with_len g 0 count sort sort 0 below (zero-add sort)
        | inr past ↦ ap (λ o. unwrap_or o 0) (slice_get_past s.sizes sort (omega (arith, length-map-range_with_len g 0 count))) ∙ sym (past_none sort past)
      ]

  class_low : (sort t : ℕ) → t < size_of n.counts sort → class sort t < size_of s.sizes sort
  class_low sort t h = subst (λ k. class sort t < k) (sym (sizes_are sort)) (class-below v sort (size_of n.counts sort) (equality sort) t h)

  classes_low : (sorts ts : List ℕ) → AreOfSorts n.counts sorts ts → AreOfSorts s.sizes sorts (classes class sorts ts)
  classes_low [] [] h = tt
  classes_low [] (t ∷ ts) h = absurd h
  classes_low (sort ∷ sorts) [] h = absurd h
  classes_low (sort ∷ sorts) (t ∷ ts) h = (class_low sort t h.0, classes_low sorts ts h.1)

  abbrev least_terms : List ℕ → List ℕ → List ℕ
  least_terms = terms_of s.sizes (listed n v) sizes_are

  -- the least terms of the classes of terms are terms, and equal to them
  low_terms : (sorts ts : List ℕ) → AreOfSorts n.counts sorts ts → AreOfSorts n.counts sorts (least_terms sorts (classes class sorts ts))
  low_terms [] [] h = tt
  low_terms [] (t ∷ ts) h = absurd h
  low_terms (sort ∷ sorts) [] h = absurd h
  low_terms (sort ∷ sorts) (t ∷ ts) h =
      (below_count v sort (size_of n.counts sort) (equality sort) (class sort t) (class-below v sort (size_of n.counts sort) (equality sort) t h.0), low_terms sorts ts h.1)

  equal_terms : (sorts ts : List ℕ) → AreOfSorts n.counts sorts ts → AreEqual v sorts (least_terms sorts (classes class sorts ts)) ts
  equal_terms [] ts h = tt
  equal_terms (sort ∷ sorts) [] h = absurd h
  equal_terms (sort ∷ sorts) (t ∷ ts) h =
      let count = size_of n.counts sort in
      let e = equality sort in
      let low = class-below v sort count e t h.0 in
      let least = get_or (listed n v sort) (class sort t) 0 in
      let same : class sort least ≡ class sort t = class-onto v sort count e (class sort t) low in
      ((class-equal v sort count e least t (below_count v sort count e (class sort t) low) h.0).1 same, equal_terms sorts ts h.1)

  same_bool : (a b : Bool) → (a ≡ true → b ≡ true) → (b ≡ true → a ≡ true) → a ≡ b
  same_bool true b f g = sym (f refl)
  same_bool false true f g = g refl
  same_bool false false f g = refl

  equal-sym : (sorts ts us : List ℕ) → AreOfSorts n.counts sorts ts → AreOfSorts n.counts sorts us → AreEqual v sorts ts us → AreEqual v sorts us ts
  equal-sym [] ts us h g e = tt
  equal-sym (sort ∷ sorts) [] us h g e = absurd h
  equal-sym (sort ∷ sorts) (t ∷ ts) [] h g e = absurd g
  equal-sym (sort ∷ sorts) (t ∷ ts) (u ∷ us) h g e = let q = equality sort in (q.symmetric t u h.0 g.0 e.0, equal-sym sorts ts us h.1 g.1 e.1)

  read_bits : (f : ℕ) (x : Symbol) (ts : List ℕ) → slice_get set.signature.symbols f ≡ Some x → (kind : SymbolKind) → x.kind ≡ kind → gives_value kind ≡ false → AreOfSorts n.counts x.args ts
      → bit_in (slice_get s.tables f) (place_from s.sizes 0 x.args (classes class x.args ts)) ≡ v.holds f ts
  read_bits f x ts is Constant k g h = cc
  read_bits f x ts is Function k g h = cc
  read_bits f x ts is Relation k g h =
      let cs = classes class x.args ts in
      let us = least_terms x.args cs in
      let at = place_from s.sizes 0 x.args cs in
      let table : slice_get s.tables f ≡ Some (Bits (tabulate (listed n v) x.args (v.holds f))) =
      tables_at set.signature n v 0 set.signature.symbols f x is ∙ ap (λ j. Some (table_of (listed n v) set.signature n v j x.args x.gives x.kind)) (zero-add f) ∙ ap (λ kind. Some (table_of (listed n v) set.signature n v f x.args x.gives kind)) k in
      let low = low_terms x.args ts h in
      let same = equal_terms x.args ts h in
      ap (λ o. bit_in o at) table
      ∙ ap (λ o. unwrap_or o false) (tabulate_get s.sizes (listed n v) sizes_are x.args cs (v.holds f) (classes_low x.args ts h))
      ∙ same_bool (v.holds f us) (v.holds f ts)
      (λ e. relation-moves set u firsts v true_of f x is us ts k low h same e)
      (λ e. relation-moves set u firsts v true_of f x is ts us k h low (equal-sym x.args us ts low h same) e)

  no_terms : (args ts : List ℕ) → args ≡ [] → AreOfSorts n.counts args ts → ts ≡ []
  no_terms [] [] e h = refl
  no_terms [] (t ∷ ts) e h = absurd h
  no_terms (a ∷ args) ts e h = cc

  read_value : (f : ℕ) (x : Symbol) (ts : List ℕ) → slice_get set.signature.symbols f ≡ Some x → (kind : SymbolKind) → x.kind ≡ kind → gives_value kind ≡ true → AreOfSorts n.counts x.args ts
      → value_in (slice_get s.tables f) (place_from s.sizes 0 x.args (classes class x.args ts)) ≡ class x.gives (number set.signature n f ts)
  read_value f x ts is Relation k g h = cc
  read_value f x ts is Constant k g h =
      let at = place_from s.sizes 0 x.args (classes class x.args ts) in
      let table : slice_get s.tables f ≡ Some (Value (class x.gives (number set.signature n f []))) =
      tables_at set.signature n v 0 set.signature.symbols f x is ∙ ap (λ j. Some (table_of (listed n v) set.signature n v j x.args x.gives x.kind)) (zero-add f) ∙ ap (λ kind. Some (table_of (listed n v) set.signature n v f x.args x.gives kind)) k in
      let none : ts ≡ [] = no_terms x.args ts (usual.bare f x is k) h in
      ap (λ o. value_in o at) table ∙ ap (λ us. class x.gives (number set.signature n f us)) (sym none)
  read_value f x ts is Function k g h =
      let cs = classes class x.args ts in
      let us = least_terms x.args cs in
      let at = place_from s.sizes 0 x.args cs in
      let said = λ (ws : List ℕ). class x.gives (number set.signature n f ws) in
      let table : slice_get s.tables f ≡ Some (Values (tabulate (listed n v) x.args said)) =
      tables_at set.signature n v 0 set.signature.symbols f x is ∙ ap (λ j. Some (table_of (listed n v) set.signature n v j x.args x.gives x.kind)) (zero-add f) ∙ ap (λ kind. Some (table_of (listed n v) set.signature n v f x.args x.gives kind)) k in
      let low = low_terms x.args ts h in
      let value : gives_value x.kind ≡ true = ap gives_value k in
      let same = values-move set u firsts v true_of f x is closed us ts value low h (equal_terms x.args ts h) in
      let count = size_of n.counts x.gives in
      ap (λ o. value_in o at) table
      ∙ ap (λ o. unwrap_or o 0) (tabulate_get s.sizes (listed n v) sizes_are x.args cs said (classes_low x.args ts h))
      ∙ (class-equal v x.gives count (equality x.gives) (number set.signature n f us) (number set.signature n f ts) (closed f x us is value low) (closed f x ts is value h)).0 same

  all_entries : (sorts : List ℕ) (p : ℕ → Bool) (said : List ℕ → ℕ) → ((ts : List ℕ) → AreOfSorts n.counts sorts ts → p (said ts) ≡ true) → list_all p (tabulate (listed n v) sorts said) ≡ true
  all_entries [] p said f = and_from (p (said [])) true (f [] tt) refl
  all_entries (sort ∷ sorts) p said f =
      all_flat p (λ t. tabulate (listed n v) sorts (λ ts. said (t ∷ ts))) (listed n v sort)
      (λ k l. all_entries sorts p (λ ts. said (get_or (listed n v sort) k 0 ∷ ts)) (λ ts h. f (get_or (listed n v sort) k 0 ∷ ts) (below_count v sort (size_of n.counts sort) (equality sort) k l, h)))

  table_good : (f : ℕ) (x : Symbol) → slice_get set.signature.symbols f ≡ Some x → (kind : SymbolKind) → x.kind ≡ kind → table_fits s.sizes x.args x.gives kind (table_of (listed n v) set.signature n v f x.args x.gives kind) ≡ true
  table_good f x is Relation k = eq-eqb (length (tabulate (listed n v) x.args (v.holds f))) (tuple_count s.sizes x.args) (tabulate_length s.sizes (listed n v) sizes_are x.args (v.holds f))
  table_good f x is Constant k =
      let none : AreOfSorts n.counts x.args [] = subst (λ args. AreOfSorts n.counts args []) (sym (usual.bare f x is k)) tt in
      lt-ltb (class x.gives (number set.signature n f [])) (size_of s.sizes x.gives) (class_low x.gives (number set.signature n f []) (closed f x [] is (ap gives_value k) none))
  table_good f x is Function k =
      let said = λ (ws : List ℕ). class x.gives (number set.signature n f ws) in
      and_from (length (tabulate (listed n v) x.args said) == tuple_count s.sizes x.args) (list_all (λ c. nat_lt c (size_of s.sizes x.gives)) (tabulate (listed n v) x.args said))
      (eq-eqb (length (tabulate (listed n v) x.args said)) (tuple_count s.sizes x.args) (tabulate_length s.sizes (listed n v) sizes_are x.args said))
      (all_entries x.args (λ c. nat_lt c (size_of s.sizes x.gives)) said (λ ts h. lt-ltb (said ts) (size_of s.sizes x.gives) (class_low x.gives (number set.signature n f ts) (closed f x ts is (ap gives_value k) h))))

  tables_good : (xs : List Symbol) (k : ℕ) → ((j : ℕ) (x : Symbol) → slice_get xs j ≡ Some x → slice_get set.signature.symbols (k + j) ≡ Some x) → tables_fit s.sizes xs (tables_from set.signature n v k xs) ≡ true
  tables_good [] k f = refl
  tables_good (x ∷ xs) k f =
      let here : slice_get set.signature.symbols k ≡ Some x = ap (slice_get set.signature.symbols) (sym (add-zero k)) ∙ f 0 x refl in
      and_from (table_fits s.sizes x.args x.gives x.kind (table_of (listed n v) set.signature n v k x.args x.gives x.kind)) (tables_fit s.sizes xs (tables_from set.signature n v (k + 1) xs))
      (table_good k x here x.kind refl)
      (tables_good xs (k + 1) (λ j y e. ap (slice_get set.signature.symbols) (moved k j) ∙ f (suc j) y e))
    where
      moved : (k j : ℕ) → (k + 1) + j ≡ k + suc j
      moved k j = omega arith

  some_class : (sort : ℕ) → sort < length set.signature.sorts → 0 < length (listed n v sort)
  some_class sort h = let low = class-below v sort (size_of n.counts sort) (equality sort) 0 (usual.inhabited sort h) in omega (arith, low)

  all_fit : fits set.signature s ≡ true
  all_fit =
      let count = length set.signature.sorts in
      let g = λ (k : ℕ). length (listed n v k) in
      and_from (length s.sizes == count) (list_all (λ k. nat_lt 0 k) s.sizes && tables_fit s.sizes set.signature.symbols s.tables)
      (eq-eqb (length s.sizes) count (length-map-range_with_len g 0 count))
      (and_from (list_all (λ k. nat_lt 0 k) s.sizes) (tables_fit s.sizes set.signature.symbols s.tables)
      (all_positive g 0 count (λ sort l. some_class sort (omega arith)))
      (tables_good set.signature.symbols 0 (λ j x e. ap (slice_get set.signature.symbols) (zero-add j) ∙ e)))

  quotient_exists : IsQuotient set.signature n v (class_of v n.counts) (quotient_of set.signature n v)
  quotient_exists = record {
    fits = all_fit;
    below = class_low;
    onto = λ sort c h.
        let l : c < length (listed n v sort) = subst (λ k. c < k) (sizes_are sort) h in
        (get_or (listed n v sort) c 0, below_count v sort (size_of n.counts sort) (equality sort) c l, class-onto v sort (size_of n.counts sort) (equality sort) c l);
    equal = λ sort t u h l. class-equal v sort (size_of n.counts sort) (equality sort) t u h l;
    values = λ f x ts is k h. read_value f x ts is x.kind refl k h;
    holds = λ f x ts is k h. read_bits f x ts is x.kind refl k h;
  }

-- a universe is so
no_args : (args : List ℕ) → length args ≡ 0 → args ≡ []
no_args [] e = refl
no_args (a ∷ args) e = absurd (omega arith)

kind_is : (sorts : ℕ) (kind : SymbolKind) (args : List ℕ) (gives : ℕ) → is_of_kind sorts kind args gives ≡ true → kind ≡ Constant → args ≡ []
kind_is sorts Relation args gives e k = cc
kind_is sorts Constant args gives e k = no_args args (eqb-true (length args) 0 (and_parts (length args == 0) (nat_lt gives sorts) e).0)
kind_is sorts Function args gives e k = cc

constants_bare : (sig : Signature) → is_signature sig ≡ true → (f : ℕ) (x : Symbol) → slice_get sig.symbols f ≡ Some x → x.kind ≡ Constant → x.args ≡ []
constants_bare sig e f x is k =
    let sorts = length sig.sorts in
    let good = true_at (is_symbol sorts) sig.symbols f x e is in
    kind_is sorts x.kind x.args x.gives (and_parts (list_all (λ sort. nat_lt sort sorts) x.args) (is_of_kind sorts x.kind x.args x.gives) good).1 k

pub closed_by : (sig : Signature) (u : Universe) (firsts : List ℕ) → IsIndexed sig u firsts → IsClosed sig (numbering u firsts)
closed_by sig u firsts indexed f s ts is k h = (indexed f s ts is k h).within

pub exists : QuotientExists
exists set u firsts v true_of good indexed many inhabited =
    quotient_exists set u firsts v true_of (closed_by set.signature u firsts indexed)
    (record { bare = constants_bare set.signature good; inhabited = inhabited; counts = many })
