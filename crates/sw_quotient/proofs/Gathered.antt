-- What loops over sorts and symbols gather.
use Rattle.std.specs.Prelude.{◌≡◌, ℕ, zero, suc, ◌+◌, ◌≤◌, List, [], ◌∷◌, ◌++◌, map, length, Some, unwrap_or, slice_get, slice_index}
use Rattle.std.specs.List.{flat_map, range_with_len}
use Rattle.sw_logic.specs.declared.structure.Structure.{Structure}
use Rattle.sw_truth.specs.declared.sets.SkolemSet.{SkolemSet}
use Rattle.sw_universe.specs.declared.universe.Universe.{Universe}
use Rattle.sw_universe.specs.ByNumber as universes
use Rattle.sw_numbers.specs.Numbers.{HasTerms}
use Rattle.std.proofs.Common.{arith, refl, sym, ap, ap₂, ◌∙◌, get_or, take, zero-add, inl, inr}
use Rattle.std.proofs.lemmas.Option.{none-some, slice_get-get_or, slice_get_past}
use Rattle.std.proofs.lemmas.List.FromFn.{length-map-range_with_len, get_or-map-range_with_len, map-range_with_len_more}
use Rattle.std.proofs.lemmas.Bool.{cases_lt}
use Rattle.std.proofs.Math.Path.{fun_ext}
use Rattle.sw_logic.specs.declared.syntax.Symbol.{Symbol}
use Rattle.sw_logic.specs.declared.syntax.Signature.{Signature}
use Rattle.sw_logic.specs.declared.structure.Table.{Table}
use Rattle.sw_logic.specs.Truth.{size_of}
use Rattle.sw_quotient.specs.Terms.{Numbering}
use Rattle.sw_quotient.specs.Valuations.{Valuation}
use Rattle.sw_quotient.specs.Classes.{leasts}
use Rattle.sw_quotient.specs.Tables.{listed, table_of, tables_from, row, AreLeasts, IsStructureOf}

-- one table more
from_more : (sig : Signature) (n : Numbering) (v : Valuation) (f i : ℕ) (xs : List Symbol) (x : Symbol) → slice_get xs i ≡ Some x
    → tables_from sig n v f (take (i + 1) xs) ≡ tables_from sig n v f (take i xs) ++ table_of (listed n v) sig n v (f + i) x.args x.gives x.kind ∷ []
from_more sig n v f i [] x e = absurd (none-some x e)
from_more sig n v f zero (y ∷ ys) x e = let none : f + 0 ≡ f = omega arith in rw none (ap (λ z. table_of (listed n v) sig n v f z.args z.gives z.kind ∷ []) (ap (λ o. unwrap_or o x) e))
from_more sig n v f (suc i) (y ∷ ys) x e =
    let at : (f + 1) + i ≡ f + suc i = omega arith in
    let step : suc i + 1 ≡ suc (i + 1) = omega arith in
    rw step (ap (λ ts. table_of (listed n v) sig n v f y.args y.gives y.kind ∷ ts) (from_more sig n v (f + 1) i ys x e ∙ ap (λ k. tables_from sig n v (f + 1) (take i ys) ++ table_of (listed n v) sig n v k x.args x.gives x.kind ∷ []) at))

pub tables_more : (sig : Signature) (n : Numbering) (v : Valuation) (i : ℕ) (xs : List Symbol) (x : Symbol) → slice_get xs i ≡ Some x
    → tables_from sig n v 0 (take (i + 1) xs) ≡ tables_from sig n v 0 (take i xs) ++ table_of (listed n v) sig n v i x.args x.gives x.kind ∷ []
tables_more sig n v i xs x e = from_more sig n v 0 i xs x e ∙ ap (λ k. tables_from sig n v 0 (take i xs) ++ table_of (listed n v) sig n v k x.args x.gives x.kind ∷ []) (zero-add i)

-- the lists that a loop over sorts gathers
pub are_leasts : (v : Valuation) (counts : List ℕ) (lists : List (List ℕ)) (i : ℕ) → length counts ≤ i
    → lists ≡ map (λ sort. leasts v sort (size_of counts sort)) (range_with_len 0 i) → AreLeasts v counts lists
are_leasts v counts lists i low e = λ sort. at sort
  where
    said : ℕ → List ℕ
    said sort = leasts v sort (size_of counts sort)

    many : length lists ≡ i
    many = ap length e ∙ length-map-range_with_len said 0 i

    at : (sort : ℕ) → row lists sort ≡ leasts v sort (size_of counts sort)
    at sort =
        elim (cases_lt sort i) [
          | inl in_range ↦
              ap (λ o. unwrap_or o []) (slice_get-get_or lists sort [] (omega (arith, in_range, many)))
              ∙ ap (λ ls. get_or ls sort []) e ∙ get_or-map-range_with_len said 0 i sort sort [] in_range (zero-add sort)
          | inr past ↦
              let none : size_of counts sort ≡ 0 = ap (λ o. unwrap_or o 0) (slice_get_past counts sort (omega (arith, low, past))) in
              ap (λ o. unwrap_or o []) (slice_get_past lists sort (omega (arith, past, many))) ∙ sym (ap (leasts v sort) none)
        ]

-- one sort more
pub sort_more : {X : Type 0} (said : ℕ → X) (old more : List X) (x : X) (i : ℕ) → more ≡ old ++ x ∷ [] → old ≡ map said (range_with_len 0 i) → x ≡ said i → more ≡ map said (range_with_len 0 (i + 1))
sort_more said old more x i e f g = e ∙ ap (λ xs. xs ++ x ∷ []) f ∙ ap (λ y. map said (range_with_len 0 i) ++ y ∷ []) g ∙ sym (map-range_with_len_more said 0 i i (zero-add i))

-- one symbol more
pub symbol_more : (a : ℕ → List ℕ) (sig : Signature) (n : Numbering) (v : Valuation) (symbols : List Symbol) (old more : List Table) (table : Table) (x : Symbol) (i : ℕ)
    → ((sort : ℕ) → a sort ≡ leasts v sort (size_of n.counts sort)) → slice_get symbols i ≡ Some x
    → table ≡ table_of a sig n v i x.args x.gives x.kind → old ≡ tables_from sig n v 0 (take i symbols) → more ≡ old ++ table ∷ []
    → more ≡ tables_from sig n v 0 (take (i + 1) symbols)
symbol_more a sig n v symbols old more table x i e is f g h =
    let same : a ≡ listed n v = fun_ext e in
    let here : table ≡ table_of (listed n v) sig n v i x.args x.gives x.kind = f ∙ ap (λ (l : ℕ → List ℕ). table_of l sig n v i x.args x.gives x.kind) same in
    h ∙ ap (λ ts. ts ++ table ∷ []) g ∙ ap (λ t. tables_from sig n v 0 (take i symbols) ++ t ∷ []) here ∙ sym (tables_more sig n v i symbols x is)

-- sizes and tables of least terms are the structure of least terms
pub made_structure : (set : SkolemSet) (u : Universe) (v w : Valuation) (own : Signature) (sizes firsts : List ℕ) (lists : List (List ℕ)) (made : List ℕ) (tables : List Table)
    → HasTerms set.signature u own sizes firsts → w ≡ v → AreLeasts w sizes lists → made ≡ map (λ sort. length (row lists sort)) (range_with_len 0 (length set.signature.sorts))
    → tables ≡ tables_from own (record { counts = sizes; firsts = firsts }) w 0 set.signature.symbols → IsStructureOf set u v (record { sizes = made; tables = tables })
made_structure set u v w own sizes firsts lists made tables h e leasts_are f g =
    let whole : Signature → List ℕ → Valuation → Structure = λ sig counts z. record {
      sizes = map (λ sort. length (listed (record { counts = counts; firsts = firsts }) z sort)) (range_with_len 0 (length set.signature.sorts));
      tables = tables_from sig (record { counts = counts; firsts = firsts }) z 0 set.signature.symbols;
    } in
    let rows : row lists ≡ listed (record { counts = sizes; firsts = firsts }) w = fun_ext leasts_are in
    let sized : made ≡ map (λ sort. length (listed (record { counts = sizes; firsts = firsts }) w sort)) (range_with_len 0 (length set.signature.sorts)) =
    f ∙ ap (λ (l : ℕ → List ℕ). map (λ sort. length (l sort)) (range_with_len 0 (length set.signature.sorts))) rows in
    let first : record { sizes = made; tables = tables } ≡ whole own sizes w = ap₂ (λ (s : List ℕ) (t : List Table). record { sizes = s; tables = t }) sized g in
    record {
      firsts = firsts;
      indexed = h.indexed;
      is = first ∙ ap (λ sig. whole sig sizes w) h.signature ∙ ap (λ counts. whole set.signature counts w) h.counted ∙ ap (whole set.signature (universes.counts u)) e;
    }
