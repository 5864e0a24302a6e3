-- Tables of symbols, places of tuples, and values in range.
use Rattle.std.specs.Prelude.{◌≡◌, ℕ, zero, suc, ◌+◌, ◌*◌, ◌<◌, Bool, true, ◌==◌, nat_lt, List, [], ◌∷◌, ◌++◌, length, Some, slice_get, unwrap_or, get_or}
use Rattle.std.specs.List.{list_all, flat_map, range_with_len}
use Rattle.std.proofs.Common.{arith, refl, sym, ap, subst, ◌∙◌}
use Rattle.std.proofs.Math.Nat.{mul-suc, mul_assoc, mul_comm, mul-add}
use Rattle.std.proofs.lemmas.Bool.{and_parts, and_from, false≢true}
use Rattle.std.proofs.lemmas.Bool.Decides.{nat_tests}
use Rattle.std.proofs.lemmas.Option.{slice_get-get_or, none-some, same_Some}
use Rattle.std.proofs.lemmas.Nat.{mul-add-lt}
use Rattle.std.proofs.lemmas.List.{length-append}
use Rattle.sw_logic.specs.declared.syntax.SymbolKind.{SymbolKind}
use Rattle.sw_logic.specs.declared.syntax.SymbolKind.TheVariants.{Relation, Constant, Function}
use Rattle.sw_logic.specs.declared.syntax.Symbol.{Symbol}
use Rattle.sw_logic.specs.declared.structure.Table.{Table}
use Rattle.sw_logic.specs.declared.structure.Table.TheVariants.{Bits, Value, Values}
use Rattle.sw_logic.specs.Truth.{size_of, place_from, value_in}
use Rattle.sw_logic.specs.Sorted.{gives_value}
use Rattle.sw_logic.specs.Fits.{tuple_count, table_fits, tables_fit}
use Rattle.sw_truth.specs.Models.{AreOfSorts}
use Rattle.std.proofs.lemmas.Bool.{ltb-true, lt-ltb, eqb-true}
use Rattle.sw_lists.proofs.Tests.{true_at}
use Rattle.sw_lists.proofs.Places.{get_append_front, get_append_right}

-- the table of a symbol
pub record HasTable (sizes : List ℕ) (s : Symbol) (tables : List Table) (k : ℕ) : Type 0 where
  pub table : Table
  pub is : slice_get tables k ≡ Some table
  pub fits : table_fits sizes s.args s.gives s.kind table ≡ true

pub has_table : (sizes : List ℕ) (symbols : List Symbol) (tables : List Table) (k : ℕ) (s : Symbol) → tables_fit sizes symbols tables ≡ true → slice_get symbols k ≡ Some s
    → HasTable sizes s tables k
has_table sizes [] tables k s e g = absurd (none-some s g)
has_table sizes (x ∷ symbols) [] k s e g = absurd (false≢true e)
has_table sizes (x ∷ symbols) (t ∷ tables) zero s e g =
    let parts = and_parts (table_fits sizes x.args x.gives x.kind t) (tables_fit sizes symbols tables) e in
    let same : x ≡ s = cc in
    record { table = t; is = refl; fits = subst (λ (y : Symbol). table_fits sizes y.args y.gives y.kind t ≡ true) same parts.0 }
has_table sizes (x ∷ symbols) (t ∷ tables) (suc k) s e g =
    let parts = and_parts (table_fits sizes x.args x.gives x.kind t) (tables_fit sizes symbols tables) e in
    let rest = has_table sizes symbols tables k s parts.1 g in
    record { table = rest.table; is = rest.is; fits = rest.fits }

pub tables_fit-append : (sizes : List ℕ) (symbols more : List Symbol) (tables others : List Table) → tables_fit sizes symbols tables ≡ true → tables_fit sizes more others ≡ true
    → tables_fit sizes (symbols ++ more) (tables ++ others) ≡ true
tables_fit-append sizes [] more [] others e f = f
tables_fit-append sizes [] more (t ∷ tables) others e f = absurd (false≢true e)
tables_fit-append sizes (x ∷ symbols) more [] others e f = absurd (false≢true e)
tables_fit-append sizes (x ∷ symbols) more (t ∷ tables) others e f =
    let parts = and_parts (table_fits sizes x.args x.gives x.kind t) (tables_fit sizes symbols tables) e in
    and_from _ _ parts.0 (tables_fit-append sizes symbols more tables others parts.1 f)

spread_out : (a n v c : ℕ) → (a * n + v) * c ≡ a * (n * c) + v * c
spread_out a n v c = mul_comm (a * n + v) c ∙ (mul-add c (a * n) v ∙ cc (mul_comm c (a * n), mul_comm c v, mul_assoc a n c))

regroup : (a b c : ℕ) → (a + b) + c ≡ a + (b + c)
regroup a b c = omega arith

-- the place of a tuple begins at a multiple of the number of tuples
pub place_from-count : (sizes : List ℕ) (at : ℕ) (sorts vs : List ℕ) → AreOfSorts sizes sorts vs
    → place_from sizes at sorts vs ≡ at * tuple_count sizes sorts + place_from sizes 0 sorts vs
place_from-count sizes at [] [] h = omega arith
place_from-count sizes at [] (v ∷ vs) h = absurd h
place_from-count sizes at (s ∷ sorts) [] h = absurd h
place_from-count sizes at (s ∷ sorts) (v ∷ vs) h =
    let n = size_of sizes s in
    let c = tuple_count sizes sorts in
    let there = place_from-count sizes (at * n + v) sorts vs h.1 in
    let zeroth : 0 * n + v ≡ v = omega arith in
    let here : place_from sizes (0 * n + v) sorts vs ≡ v * c + place_from sizes 0 sorts vs = ap (λ m. place_from sizes m sorts vs) zeroth ∙ place_from-count sizes v sorts vs h.1 in
    let spread : (at * n + v) * c ≡ at * (n * c) + v * c = spread_out at n v c in
    let p = place_from sizes 0 sorts vs in
    there ∙ (ap (λ m. m + p) spread ∙ (regroup (at * (n * c)) (v * c) p ∙ ap (λ m. at * (n * c) + m) (sym here)))

place_from-cons : (sizes : List ℕ) (s v : ℕ) (sorts vs : List ℕ) → AreOfSorts sizes sorts vs
    → place_from sizes 0 (s ∷ sorts) (v ∷ vs) ≡ v * tuple_count sizes sorts + place_from sizes 0 sorts vs
place_from-cons sizes s v sorts vs h =
    let zeroth : 0 * size_of sizes s + v ≡ v = omega arith in
    ap (λ m. place_from sizes m sorts vs) zeroth ∙ place_from-count sizes v sorts vs h

pub place_below : (sizes sorts vs : List ℕ) → AreOfSorts sizes sorts vs → place_from sizes 0 sorts vs < tuple_count sizes sorts
place_below sizes [] [] h = omega arith
place_below sizes [] (v ∷ vs) h = absurd h
place_below sizes (s ∷ sorts) [] h = absurd h
place_below sizes (s ∷ sorts) (v ∷ vs) h =
    let rest = place_below sizes sorts vs h.1 in
    let here = mul-add-lt v (tuple_count sizes sorts) (place_from sizes 0 sorts vs) (size_of sizes s) h.0 rest in
    let e = place_from-cons sizes s v sorts vs h.1 in
    let c = mul_comm (tuple_count sizes sorts) (size_of sizes s) in
    rw (e, ← c) here

-- a value that a table has is in range
value_in_range : (sizes args : List ℕ) (gives : ℕ) (kind : SymbolKind) (table : Table) (vs : List ℕ) → gives_value kind ≡ true → table_fits sizes args gives kind table ≡ true
    → AreOfSorts sizes args vs → value_in (Some table) (place_from sizes 0 args vs) < size_of sizes gives
value_in_range sizes args gives Relation table vs g e h = absurd (false≢true g)
value_in_range sizes args gives Constant (Value v) vs g e h = ltb-true v (size_of sizes gives) e
value_in_range sizes args gives Constant (Bits bits) vs g e h = absurd (false≢true e)
value_in_range sizes args gives Constant (Values values) vs g e h = absurd (false≢true e)
value_in_range sizes args gives Function (Value v) vs g e h = absurd (false≢true e)
value_in_range sizes args gives Function (Bits bits) vs g e h = absurd (false≢true e)
value_in_range sizes args gives Function (Values values) vs g e h =
    let parts = and_parts (length values == tuple_count sizes args) (list_all (λ v. nat_lt v (size_of sizes gives)) values) e in
    let at = place_from sizes 0 args vs in
    let count = eqb-true (length values) (tuple_count sizes args) parts.0 in
    let there = place_below sizes args vs h in
    let within : at < length values = omega arith in
    let got = slice_get-get_or values at 0 within in
    let below = ltb-true _ _ (true_at (λ v. nat_lt v (size_of sizes gives)) values at (get_or values at 0) parts.1 got) in
    subst (λ o. unwrap_or o 0 < size_of sizes gives) (sym got) below

pub table_in_range : (sizes : List ℕ) (s : Symbol) (table : Table) (vs : List ℕ) → gives_value s.kind ≡ true → table_fits sizes s.args s.gives s.kind table ≡ true
    → AreOfSorts sizes s.args vs → value_in (Some table) (place_from sizes 0 s.args vs) < size_of sizes s.gives
table_in_range sizes s table vs g e h = value_in_range sizes s.args s.gives s.kind table vs g e h

-- the list of a function's values for all tuples, in lexicographic order
abbrev pub tabulated : List ℕ → List ℕ → (List ℕ → ℕ) → List ℕ
tabulated sizes [] f = f [] ∷ []
tabulated sizes (s ∷ sorts) f = flat_map (λ v. tabulated sizes sorts (λ vs. f (v ∷ vs))) (range_with_len 0 (size_of sizes s))

swapped : (a b c : ℕ) → a ≡ b → a + c ≡ c + b
swapped a b c e = omega arith

suc-mul : (n c : ℕ) → suc n * c ≡ c + n * c
suc-mul n c = mul_comm (suc n) c ∙ (mul-suc c n ∙ swapped (c * n) (n * c) c (mul_comm c n))

rows_length : (g : ℕ → List ℕ) (c from n : ℕ) → ((i : ℕ) → length (g i) ≡ c) → length (flat_map g (range_with_len from n)) ≡ n * c
rows_length g c from zero h = omega arith
rows_length g c from (suc n) h =
    let rest = rows_length g c (from + 1) n h in
    length-append (g from) (flat_map g (range_with_len (from + 1) n)) ∙ (cc (h from, rest) ∙ sym (suc-mul n c))

pub tabulated_length : (sizes sorts : List ℕ) (f : List ℕ → ℕ) → length (tabulated sizes sorts f) ≡ tuple_count sizes sorts
tabulated_length sizes [] f = refl
tabulated_length sizes (s ∷ sorts) f =
    rows_length (λ v. tabulated sizes sorts (λ vs. f (v ∷ vs))) (tuple_count sizes sorts) 0 (size_of sizes s) (λ v. tabulated_length sizes sorts (λ vs. f (v ∷ vs)))

placed : (v c p l : ℕ) → l ≡ c → suc v * c + p ≡ l + (v * c + p)
placed v c p l e = let a = suc-mul v c in omega arith

rows_at : (g : ℕ → List ℕ) (c from n v p : ℕ) → ((i : ℕ) → length (g i) ≡ c) → v < n → p < c
    → slice_get (flat_map g (range_with_len from n)) (v * c + p) ≡ slice_get (g (from + v)) p
rows_at g c from zero v p h below within = absurd (omega arith)
rows_at g c from (suc n) zero p h below within =
    let len = h from in
    let e : 0 * c + p ≡ p = omega arith in
    let f : from + 0 ≡ from = omega arith in
    ap (slice_get (g from ++ flat_map g (range_with_len (from + 1) n))) e
    ∙ (get_append_front (g from) (flat_map g (range_with_len (from + 1) n)) p (omega arith) ∙ sym (ap (λ i. slice_get (g i) p) f))
rows_at g c from (suc n) (suc v) p h below within =
    let rest = rows_at g c (from + 1) n v p h (omega arith) within in
    let f : from + 1 + v ≡ from + suc v = omega arith in
    let e : suc v * c + p ≡ length (g from) + (v * c + p) = placed v c p (length (g from)) (h from) in
    ap (slice_get (g from ++ flat_map g (range_with_len (from + 1) n))) e
    ∙ (get_append_right (g from) (flat_map g (range_with_len (from + 1) n)) (v * c + p) ∙ (rest ∙ ap (λ i. slice_get (g i) p) f))

pub tabulated_at : (sizes sorts : List ℕ) (f : List ℕ → ℕ) (vs : List ℕ) → AreOfSorts sizes sorts vs
    → slice_get (tabulated sizes sorts f) (place_from sizes 0 sorts vs) ≡ Some (f vs)
tabulated_at sizes [] f [] h = refl
tabulated_at sizes [] f (v ∷ vs) h = absurd h
tabulated_at sizes (s ∷ sorts) f [] h = absurd h
tabulated_at sizes (s ∷ sorts) f (v ∷ vs) h =
    let g = λ (v : ℕ). tabulated sizes sorts (λ vs. f (v ∷ vs)) in
    let e : 0 + v ≡ v = omega arith in
    ap (slice_get (tabulated sizes (s ∷ sorts) f)) (place_from-cons sizes s v sorts vs h.1)
    ∙ (rows_at g (tuple_count sizes sorts) 0 (size_of sizes s) v (place_from sizes 0 sorts vs) (λ i. tabulated_length sizes sorts (λ vs. f (i ∷ vs))) h.0 (place_below sizes sorts vs h.1)
    ∙ (ap (λ i. slice_get (g i) (place_from sizes 0 sorts vs)) e ∙ tabulated_at sizes sorts (λ vs. f (v ∷ vs)) vs h.1))

all-append : {X : Type 0} (p : X → Bool) (xs ys : List X) → list_all p xs ≡ true → list_all p ys ≡ true → list_all p (xs ++ ys) ≡ true
all-append p [] ys e f = f
all-append p (x ∷ xs) ys e f =
    let parts = and_parts (p x) (list_all p xs) e in
    and_from _ _ parts.0 (all-append p xs ys parts.1 f)

all_rows : (p : ℕ → Bool) (g : ℕ → List ℕ) (ns : List ℕ) → ((i : ℕ) → list_all p (g i) ≡ true) → list_all p (flat_map g ns) ≡ true
all_rows p g [] h = refl
all_rows p g (n ∷ ns) h = all-append p (g n) (flat_map g ns) (h n) (all_rows p g ns h)

pub tabulated_below : (sizes sorts : List ℕ) (f : List ℕ → ℕ) (n : ℕ) → ((vs : List ℕ) → f vs < n) → list_all (λ v. nat_lt v n) (tabulated sizes sorts f) ≡ true
tabulated_below sizes [] f n h = and_from _ _ (lt-ltb (f []) n (h [])) refl
tabulated_below sizes (s ∷ sorts) f n h =
    all_rows (λ v. nat_lt v n) (λ v. tabulated sizes sorts (λ vs. f (v ∷ vs))) (range_with_len 0 (size_of sizes s)) (λ v. tabulated_below sizes sorts (λ vs. f (v ∷ vs)) n (λ vs. h (v ∷ vs)))
