-- What one entry changes.
use Rattle.std.proofs.Common.{◌≡◌, ◌≢◌, ℕ, zero, suc, ◌^◌, ◌<◌, Bool, true, false, cond, nat_eq, nat_lt, List, [], ◌∷◌, length, get_or, min, Option, Some, Result, refl, arith, ◌∙◌, ap, sym, subst, inl, inr, length-set}
use Rattle.std.specs.Prelude.{◌&&◌, ◌==◌, slice_get, slice_set, unwrap_or, if◌then◌else◌}
use Rattle.std.specs.List.{list_all}
use Rattle.std.proofs.lemmas.Bool.{and_from, and_parts, eqb-true, cases_order, false≢true}
use Rattle.std.proofs.lemmas.Bool.Decides.{nat_tests}
use Rattle.std.proofs.lemmas.Option.{same_Some, none-some, slice_get_within, slice_get_read}
use Rattle.sw_logic.specs.declared.syntax.SymbolKind.{SymbolKind}
use Rattle.sw_logic.specs.declared.syntax.SymbolKind.TheVariants.{Relation, Constant, Function}
use Rattle.sw_logic.specs.declared.syntax.Symbol.{Symbol}
use Rattle.sw_logic.specs.declared.syntax.Signature.{Signature}
use Rattle.sw_logic.specs.declared.structure.Table.{Table}
use Rattle.sw_logic.specs.declared.structure.Table.TheVariants.{Bits, Value, Values}
use Rattle.sw_logic.specs.Truth.{size_of, args_of, args_or_none, place_from}
use Rattle.sw_logic.specs.Fits.{tuple_count, table_fits, tables_fit, fits}
use Rattle.sw_models.specs.declared.errors.BuildError.{BuildError}
use Rattle.sw_logic.specs.Signatures.{is_signature, is_symbol, is_of_kind}
use Rattle.sw_models.specs.Building.{Building, building, is_building, counts_fit, are_below, value_count, may_have, is_entry, entry_in, entry, IsSet}
use Rattle.sw_models.specs.Entries.{entry_count, with_entry}
use Rattle.sw_models.proofs.Complete.{below}
use Rattle.sw_models.proofs.Tuples.{place_below, place_once}

get_set : {A : Type 0} (xs : List A) (k : ℕ) (x : A) → k < length xs → slice_get (slice_set xs k x) k ≡ Some x
get_set [] k x h = absurd (omega arith)
get_set (y ∷ xs) zero x h = refl
get_set (y ∷ xs) (suc k) x h = get_set xs k x (omega arith)

get_other : {A : Type 0} (xs : List A) (k j : ℕ) (x : A) → j ≢ k → slice_get (slice_set xs k x) j ≡ slice_get xs j
get_other [] k j x h = refl
get_other (y ∷ xs) zero zero x h = absurd (h refl)
get_other (y ∷ xs) zero (suc j) x h = refl
get_other (y ∷ xs) (suc k) zero x h = refl
get_other (y ∷ xs) (suc k) (suc j) x h = get_other xs k j x (λ e. h (ap suc e))

all_at : {A : Type 0} (p : A → Bool) (xs : List A) (k : ℕ) (x : A) → list_all p xs ≡ true → slice_get xs k ≡ Some x → p x ≡ true
all_at p [] k x e f = absurd (none-some x f)
all_at p (y ∷ xs) zero x e f = ap p (sym (same_Some y x f)) ∙ (and_parts (p y) (list_all p xs) e).0
all_at p (y ∷ xs) (suc k) x e f = all_at p xs k x (and_parts (p y) (list_all p xs) e).1 f

all_set : (p : ℕ → Bool) (xs : List ℕ) (k x : ℕ) → list_all p xs ≡ true → p x ≡ true → list_all p (slice_set xs k x) ≡ true
all_set p [] k x e f = refl
all_set p (y ∷ xs) zero x e f = and_from (p x) (list_all p xs) f (and_parts (p y) (list_all p xs) e).1
all_set p (y ∷ xs) (suc k) x e f =
    let parts = and_parts (p y) (list_all p xs) e in and_from (p y) (list_all p (slice_set xs k x)) parts.0 (all_set p xs k x parts.1 f)

tables_at : (sizes : List ℕ) (symbols : List Symbol) (tables : List Table) (k : ℕ) (x : Symbol) (t : Table) → tables_fit sizes symbols tables ≡ true
    → slice_get symbols k ≡ Some x → slice_get tables k ≡ Some t → table_fits sizes x.args x.gives x.kind t ≡ true
tables_at sizes [] tables k x t e f g = absurd (none-some x f)
tables_at sizes (y ∷ symbols) [] k x t e f g = absurd (none-some t g)
tables_at sizes (y ∷ symbols) (u ∷ tables) zero x t e f g =
    ap (λ (z : Symbol). table_fits sizes z.args z.gives z.kind t) (sym (same_Some y x f)) ∙ ap (table_fits sizes y.args y.gives y.kind) (sym (same_Some u t g))
    ∙ (and_parts (table_fits sizes y.args y.gives y.kind u) (tables_fit sizes symbols tables) e).0
tables_at sizes (y ∷ symbols) (u ∷ tables) (suc k) x t e f g =
    tables_at sizes symbols tables k x t (and_parts (table_fits sizes y.args y.gives y.kind u) (tables_fit sizes symbols tables) e).1 f g

tables_set : (sizes : List ℕ) (symbols : List Symbol) (tables : List Table) (k : ℕ) (x : Symbol) (t : Table) → tables_fit sizes symbols tables ≡ true
    → slice_get symbols k ≡ Some x → table_fits sizes x.args x.gives x.kind t ≡ true → tables_fit sizes symbols (slice_set tables k t) ≡ true
tables_set sizes [] tables k x t e f g = absurd (none-some x f)
tables_set sizes (y ∷ symbols) [] k x t e f g = absurd (false≢true e)
tables_set sizes (y ∷ symbols) (u ∷ tables) zero x t e f g =
    and_from (table_fits sizes y.args y.gives y.kind t) (tables_fit sizes symbols tables)
    (ap (λ (z : Symbol). table_fits sizes z.args z.gives z.kind t) (same_Some y x f) ∙ g)
    (and_parts (table_fits sizes y.args y.gives y.kind u) (tables_fit sizes symbols tables) e).1
tables_set sizes (y ∷ symbols) (u ∷ tables) (suc k) x t e f g =
    let parts = and_parts (table_fits sizes y.args y.gives y.kind u) (tables_fit sizes symbols tables) e in
    and_from (table_fits sizes y.args y.gives y.kind u) (tables_fit sizes symbols (slice_set tables k t)) parts.0 (tables_set sizes symbols tables k x t parts.1 f g)

tables_many : (sizes : List ℕ) (symbols : List Symbol) (tables : List Table) → tables_fit sizes symbols tables ≡ true → length tables ≡ length symbols
tables_many sizes [] [] e = refl
tables_many sizes [] (t ∷ tables) e = absurd (false≢true e)
tables_many sizes (y ∷ symbols) [] e = absurd (false≢true e)
tables_many sizes (y ∷ symbols) (t ∷ tables) e =
    let rest = tables_many sizes symbols tables (and_parts (table_fits sizes y.args y.gives y.kind t) (tables_fit sizes symbols tables) e).1 in omega arith

-- what holds of a structure in the making
pub record Holds (sig : Signature) (sizes : List ℕ) (tables : List Table) : Type 0 where
  pub sound : is_signature sig ≡ true
  pub held : counts_fit sizes sig.symbols ≡ true
  pub many : nat_eq (length sizes) (length sig.sorts) ≡ true
  pub some : list_all (λ n. nat_lt 0 n) sizes ≡ true
  pub fit : tables_fit sizes sig.symbols tables ≡ true

pub holds : (sig : Signature) (sizes : List ℕ) (tables : List Table) → is_building (building sig sizes tables) ≡ true → Holds sig sizes tables
holds sig sizes tables e =
    let a = and_parts (is_signature sig) (counts_fit sizes sig.symbols && fits sig (record { sizes = sizes; tables = tables })) e in
    let b = and_parts (counts_fit sizes sig.symbols) (fits sig (record { sizes = sizes; tables = tables })) a.1 in
    let d = and_parts (nat_eq (length sizes) (length sig.sorts)) (list_all (λ n. nat_lt 0 n) sizes && tables_fit sizes sig.symbols tables) b.1 in
    let f = and_parts (list_all (λ n. nat_lt 0 n) sizes) (tables_fit sizes sig.symbols tables) d.1 in
    record { sound = a.0; held = b.0; many = d.0; some = f.0; fit = f.1 }

is_held : (sig : Signature) (sizes : List ℕ) (tables : List Table) → Holds sig sizes tables → is_building (building sig sizes tables) ≡ true
is_held sig sizes tables h =
    and_from (is_signature sig) (counts_fit sizes sig.symbols && fits sig (record { sizes = sizes; tables = tables })) h.sound
    (and_from (counts_fit sizes sig.symbols) (fits sig (record { sizes = sizes; tables = tables })) h.held
    (and_from (nat_eq (length sizes) (length sig.sorts)) (list_all (λ n. nat_lt 0 n) sizes && tables_fit sizes sig.symbols tables) h.many
    (and_from (list_all (λ n. nat_lt 0 n) sizes) (tables_fit sizes sig.symbols tables) h.some h.fit)))

-- there is a table for each symbol
pub within : (sig : Signature) (sizes : List ℕ) (tables : List Table) (k : ℕ) → is_building (building sig sizes tables) ≡ true → k < length sig.symbols → k < length tables
within sig sizes tables k e h = omega (arith, tables_many sizes sig.symbols tables (holds sig sizes tables e).fit)

-- an entry that is in range
pub record Target (sig : Signature) (sizes : List ℕ) (tables : List Table) (k : ℕ) (x : Symbol) (t : Table) (tuple : List ℕ) (value at : ℕ) : Type 0 where
  pub built : is_building (building sig sizes tables) ≡ true
  pub symbol : slice_get sig.symbols k ≡ Some x
  pub table : slice_get tables k ≡ Some t
  pub in_range : are_below sizes x.args tuple ≡ true
  pub small : value < value_count sizes x.kind x.gives
  pub place : at ≡ min 18446744073709551615 (place_from sizes 0 x.args tuple)

fits_at : (sig : Signature) (sizes : List ℕ) (tables : List Table) (k : ℕ) (x : Symbol) (t : Table) (tuple : List ℕ) (value at : ℕ) → Target sig sizes tables k x t tuple value at
    → table_fits sizes x.args x.gives x.kind t ≡ true
fits_at sig sizes tables k x t tuple value at h = tables_at sizes sig.symbols tables k x t (holds sig sizes tables h.built).fit h.symbol h.table

-- its place is that of the tuple
exact : (sig : Signature) (sizes : List ℕ) (tables : List Table) (k : ℕ) (x : Symbol) (t : Table) (tuple : List ℕ) (value at : ℕ) → Target sig sizes tables k x t tuple value at
    → (at ≡ place_from sizes 0 x.args tuple) × (at < tuple_count sizes x.args)
exact sig sizes tables k x t tuple value at h =
    let room = below (tuple_count sizes x.args) (2 ^ 64) (all_at (λ (s : Symbol). nat_lt (tuple_count sizes s.args) (2 ^ 64)) sig.symbols k x (holds sig sizes tables h.built).held h.symbol) in
    let inside = place_below sizes 0 1 x.args tuple h.in_range (omega arith) in
    let place = h.place in
    (omega arith, omega arith)

no_args : (args : List ℕ) → nat_eq (length args) 0 ≡ true → args ≡ []
no_args [] e = refl
no_args (a ∷ args) e = let f : length (a ∷ args) ≡ 0 = eqb-true (length (a ∷ args)) 0 e in absurd (omega arith)

bare : (sig : Signature) (k : ℕ) (x : Symbol) → is_signature sig ≡ true → slice_get sig.symbols k ≡ Some x → is_of_kind (length sig.sorts) x.kind x.args x.gives ≡ true
bare sig k x e f =
    (and_parts (list_all (λ sort. nat_lt sort (length sig.sorts)) x.args) (is_of_kind (length sig.sorts) x.kind x.args x.gives)
    (all_at (is_symbol (length sig.sorts)) sig.symbols k x e f)).1

count_room : (sizes args : List ℕ) (gives sorts at : ℕ) (kind : SymbolKind) (t : Table) → table_fits sizes args gives kind t ≡ true → at < tuple_count sizes args
    → is_of_kind sorts kind args gives ≡ true → at < entry_count t
count_room sizes args gives sorts at Relation (Bits bits) e h f = let g = eqb-true (length bits) (tuple_count sizes args) e in omega arith
count_room sizes args gives sorts at Function (Values values) e h f =
    let g = eqb-true (length values) (tuple_count sizes args) (and_parts (nat_eq (length values) (tuple_count sizes args)) (list_all (λ v. nat_lt v (size_of sizes gives)) values) e).0 in
    omega arith
count_room sizes args gives sorts at Constant (Value value) e h f =
    let none = no_args args (and_parts (nat_eq (length args) 0) (nat_lt gives sorts) f).0 in
    let one : tuple_count sizes args ≡ 1 = ap (tuple_count sizes) none in
    omega arith
count_room sizes args gives sorts at Relation (Value value) e h f = absurd (false≢true e)
count_room sizes args gives sorts at Relation (Values values) e h f = absurd (false≢true e)
count_room sizes args gives sorts at Constant (Bits bits) e h f = absurd (false≢true e)
count_room sizes args gives sorts at Constant (Values values) e h f = absurd (false≢true e)
count_room sizes args gives sorts at Function (Bits bits) e h f = absurd (false≢true e)
count_room sizes args gives sorts at Function (Value value) e h f = absurd (false≢true e)

-- the table has the place
pub has_room : (sig : Signature) (sizes : List ℕ) (tables : List Table) (k : ℕ) (x : Symbol) (t : Table) (tuple : List ℕ) (value at : ℕ) → Target sig sizes tables k x t tuple value at
    → at < entry_count t
has_room sig sizes tables k x t tuple value at h =
    count_room sizes x.args x.gives (length sig.sorts) at x.kind t (fits_at sig sizes tables k x t tuple value at h) (exact sig sizes tables k x t tuple value at h).1
    (bare sig k x (holds sig sizes tables h.built).sound h.symbol)

less : (m n : ℕ) → m < n → nat_lt m n ≡ true
less m n h = grind (arith, nat_tests)

still_fits : (sizes args : List ℕ) (gives at value : ℕ) (kind : SymbolKind) (t : Table) → table_fits sizes args gives kind t ≡ true → value < value_count sizes kind gives
    → table_fits sizes args gives kind (with_entry t at value) ≡ true
still_fits sizes args gives at value Relation (Bits bits) e h = ap (λ n. nat_eq n (tuple_count sizes args)) (length-set bits at (value == 1)) ∙ e
still_fits sizes args gives at value Constant (Value old) e h = less value (size_of sizes gives) h
still_fits sizes args gives at value Function (Values values) e h =
    let p : ℕ → Bool = λ v. nat_lt v (size_of sizes gives) in
    let parts = and_parts (nat_eq (length values) (tuple_count sizes args)) (list_all p values) e in
    and_from (nat_eq (length (slice_set values at value)) (tuple_count sizes args)) (list_all p (slice_set values at value))
    (ap (λ n. nat_eq n (tuple_count sizes args)) (length-set values at value) ∙ parts.0) (all_set p values at value parts.1 (less value (size_of sizes gives) h))
still_fits sizes args gives at value Relation (Value old) e h = absurd (false≢true e)
still_fits sizes args gives at value Relation (Values values) e h = absurd (false≢true e)
still_fits sizes args gives at value Constant (Bits bits) e h = absurd (false≢true e)
still_fits sizes args gives at value Constant (Values values) e h = absurd (false≢true e)
still_fits sizes args gives at value Function (Bits bits) e h = absurd (false≢true e)
still_fits sizes args gives at value Function (Value old) e h = absurd (false≢true e)

-- the structure is still one of the signature
pub still_built : (sig : Signature) (sizes : List ℕ) (tables : List Table) (k : ℕ) (x : Symbol) (t : Table) (tuple : List ℕ) (value at : ℕ) → Target sig sizes tables k x t tuple value at
    → is_building (building sig sizes (slice_set tables k (with_entry t at value))) ≡ true
still_built sig sizes tables k x t tuple value at h =
    let all = holds sig sizes tables h.built in
    let fit = still_fits sizes x.args x.gives at value x.kind t (fits_at sig sizes tables k x t tuple value at h) h.small in
    is_held sig sizes (slice_set tables k (with_entry t at value))
    (record { sound = all.sound; held = all.held; many = all.many; some = all.some; fit = tables_set sizes sig.symbols tables k x (with_entry t at value) all.fit h.symbol fit })

-- the entry may have the value
pub is_target : (sig : Signature) (sizes : List ℕ) (tables : List Table) (k : ℕ) (x : Symbol) (t : Table) (tuple : List ℕ) (value at : ℕ) → Target sig sizes tables k x t tuple value at
    → is_entry (building sig sizes tables) k tuple value ≡ true
is_target sig sizes tables k x t tuple value at h =
    let P : Option Symbol → Type 0 = λ o. (are_below sizes (args_or_none o) tuple && may_have sizes o value) ≡ true in
    subst P (sym h.symbol) (and_from (are_below sizes x.args tuple) (nat_lt value (value_count sizes x.kind x.gives)) h.in_range (less value (value_count sizes x.kind x.gives) h.small))

two : (value : ℕ) → value < 2 → cond (nat_eq value 1) 1 0 ≡ value
two zero h = refl
two (suc zero) h = refl
two (suc (suc value)) h = absurd (omega arith)

entry_here : (sizes args : List ℕ) (gives at value : ℕ) (kind : SymbolKind) (t : Table) → table_fits sizes args gives kind t ≡ true → value < value_count sizes kind gives
    → at < entry_count t → entry_in (Some (with_entry t at value)) at ≡ value
entry_here sizes args gives at value Relation (Bits bits) e h room =
    ap (λ o. cond (unwrap_or o false) 1 0) (get_set bits at (value == 1) room) ∙ two value h
entry_here sizes args gives at value Constant (Value old) e h room = refl
entry_here sizes args gives at value Function (Values values) e h room = ap (λ o. unwrap_or o 0) (get_set values at value room)
entry_here sizes args gives at value Relation (Value old) e h room = absurd (false≢true e)
entry_here sizes args gives at value Relation (Values values) e h room = absurd (false≢true e)
entry_here sizes args gives at value Constant (Bits bits) e h room = absurd (false≢true e)
entry_here sizes args gives at value Constant (Values values) e h room = absurd (false≢true e)
entry_here sizes args gives at value Function (Bits bits) e h room = absurd (false≢true e)
entry_here sizes args gives at value Function (Value old) e h room = absurd (false≢true e)

-- a tuple is no other where there are no sorts
one_tuple : (sizes args values tuple : List ℕ) → args ≡ [] → are_below sizes args values ≡ true → are_below sizes args tuple ≡ true → values ≡ tuple
one_tuple sizes args values tuple none e f =
    let P : List ℕ → Type 0 = λ l. are_below sizes l values ≡ true in
    let Q : List ℕ → Type 0 = λ l. are_below sizes l tuple ≡ true in
    both values tuple (subst P none e) (subst Q none f)
  where
    both : (values tuple : List ℕ) → are_below sizes [] values ≡ true → are_below sizes [] tuple ≡ true → values ≡ tuple
    both [] [] e f = refl
    both [] (w ∷ tuple) e f = absurd (false≢true f)
    both (v ∷ values) tuple e f = absurd (false≢true e)

entry_there : (sizes args : List ℕ) (gives sorts at value : ℕ) (kind : SymbolKind) (t : Table) (tuple values : List ℕ) → table_fits sizes args gives kind t ≡ true
    → is_of_kind sorts kind args gives ≡ true → are_below sizes args tuple ≡ true → are_below sizes args values ≡ true → (values ≡ tuple → ⊥) → at ≡ place_from sizes 0 args tuple
    → entry_in (Some (with_entry t at value)) (place_from sizes 0 args values) ≡ entry_in (Some t) (place_from sizes 0 args values)
entry_there sizes args gives sorts at value Relation (Bits bits) tuple values e f g i apart h =
    ap (λ o. cond (unwrap_or o false) 1 0)
    (get_other bits at (place_from sizes 0 args values) (value == 1) (λ same. apart (place_once sizes 0 0 args values tuple i g (same ∙ h)).1))
entry_there sizes args gives sorts at value Function (Values vs) tuple values e f g i apart h =
    ap (λ o. unwrap_or o 0)
    (get_other vs at (place_from sizes 0 args values) value (λ same. apart (place_once sizes 0 0 args values tuple i g (same ∙ h)).1))
entry_there sizes args gives sorts at value Constant (Value old) tuple values e f g i apart h =
    absurd (apart (one_tuple sizes args values tuple (no_args args (and_parts (nat_eq (length args) 0) (nat_lt gives sorts) f).0) i g))
entry_there sizes args gives sorts at value Relation (Value old) tuple values e f g i apart h = absurd (false≢true e)
entry_there sizes args gives sorts at value Relation (Values vs) tuple values e f g i apart h = absurd (false≢true e)
entry_there sizes args gives sorts at value Constant (Bits bits) tuple values e f g i apart h = absurd (false≢true e)
entry_there sizes args gives sorts at value Constant (Values vs) tuple values e f g i apart h = absurd (false≢true e)
entry_there sizes args gives sorts at value Function (Bits bits) tuple values e f g i apart h = absurd (false≢true e)
entry_there sizes args gives sorts at value Function (Value old) tuple values e f g i apart h = absurd (false≢true e)

-- an entry by its symbol and its table
entry_is : (sig : Signature) (sizes : List ℕ) (tables : List Table) (k : ℕ) (x : Symbol) (o : Option Table) (tuple : List ℕ) → slice_get sig.symbols k ≡ Some x → slice_get tables k ≡ o
    → entry sig (record { sizes = sizes; tables = tables }) k tuple ≡ entry_in o (place_from sizes 0 x.args tuple)
entry_is sig sizes tables k x o tuple e f =
    ap (λ p. entry_in (slice_get tables k) (place_from sizes 0 (args_or_none p) tuple)) e ∙ ap (λ q. entry_in q (place_from sizes 0 x.args tuple)) f

-- this entry has the value, and all others have what they had
pub is_set : (sig : Signature) (sizes : List ℕ) (tables : List Table) (k : ℕ) (x : Symbol) (t : Table) (tuple : List ℕ) (value at : ℕ) → Target sig sizes tables k x t tuple value at
    → IsSet (building sig sizes tables) (building sig sizes (slice_set tables k (with_entry t at value))) k tuple value
is_set sig sizes tables k x t tuple value at h = record {
  signature = refl;
  sizes = refl;
  here =
      entry_is sig sizes next k x (Some (with_entry t at value)) tuple h.symbol found
      ∙ ap (λ p. entry_in (Some (with_entry t at value)) p) (sym place.0)
      ∙ entry_here sizes x.args x.gives at value x.kind t fit h.small (has_room sig sizes tables k x t tuple value at h);
  others = λ other values in_range apart.
      elim (cases_order other k) [
        | inl same ↦ here other values same in_range (λ e. apart (same, e))
        | inr (inl less) ↦ elsewhere other values (λ e. omega arith)
        | inr (inr more) ↦ elsewhere other values (λ e. omega arith)
      ];
}
  where
    next : List Table
    next = slice_set tables k (with_entry t at value)

    found : slice_get (slice_set tables k (with_entry t at value)) k ≡ Some (with_entry t at value)
    found = get_set tables k (with_entry t at value) (slice_get_within tables k t h.table)

    place : (at ≡ place_from sizes 0 x.args tuple) × (at < tuple_count sizes x.args)
    place = exact sig sizes tables k x t tuple value at h

    fit : table_fits sizes x.args x.gives x.kind t ≡ true
    fit = fits_at sig sizes tables k x t tuple value at h

    elsewhere : (other : ℕ) (values : List ℕ) → other ≢ k
        → entry sig (record { sizes = sizes; tables = slice_set tables k (with_entry t at value) }) other values ≡ entry sig (record { sizes = sizes; tables = tables }) other values
    elsewhere other values apart =
        ap (λ o. entry_in o (place_from sizes 0 (args_of sig other) values)) (get_other tables k other (with_entry t at value) apart)

    here : (other : ℕ) (values : List ℕ) → other ≡ k → are_below sizes (args_of sig other) values ≡ true → (values ≡ tuple → ⊥)
        → entry sig (record { sizes = sizes; tables = slice_set tables k (with_entry t at value) }) other values ≡ entry sig (record { sizes = sizes; tables = tables }) other values
    here other values same in_range apart =
        let symbol : slice_get sig.symbols other ≡ Some x = ap (slice_get sig.symbols) same ∙ h.symbol in
        let after : slice_get (slice_set tables k (with_entry t at value)) other ≡ Some (with_entry t at value) = ap (slice_get (slice_set tables k (with_entry t at value))) same ∙ found in
        let before : slice_get tables other ≡ Some t = ap (slice_get tables) same ∙ h.table in
        let P : Option Symbol → Type 0 = λ o. are_below sizes (args_or_none o) values ≡ true in
        entry_is sig sizes (slice_set tables k (with_entry t at value)) other x (Some (with_entry t at value)) values symbol after
        ∙ entry_there sizes x.args x.gives (length sig.sorts) at value x.kind t tuple values fit (bare sig k x (holds sig sizes tables h.built).sound h.symbol) h.in_range
        (subst P symbol in_range) apart place.0
        ∙ sym (entry_is sig sizes tables other x (Some t) values symbol before)

pub within_view : (sig : Signature) (sizes : List ℕ) (tables : List Table) (k : ℕ) (b : Building) → is_building (building sig sizes tables) ≡ true → building sig sizes tables ≡ b
    → k < length b.signature.symbols → k < length tables
within_view sig sizes tables k b built seen h = within sig sizes tables k built (omega (arith, ap (λ (y : Building). length y.signature.symbols) seen))

-- an entry that was found in range
pub target : (sig : Signature) (sizes : List ℕ) (tables : List Table) (k : ℕ) (x : Symbol) (t : Table) (tuple : List ℕ) (value at : ℕ) (b : Building) (symbols : List Symbol)
    (read args : List ℕ) (limit : ℕ) → is_building (building sig sizes tables) ≡ true → building sig sizes tables ≡ b → k < length b.signature.symbols → symbols ≡ sig.symbols
    → x ≡ get_or symbols k x → t ≡ get_or tables k t → read ≡ sizes → args ≡ x.args
    → (are_below read args tuple ≡ true) × (at ≡ min 18446744073709551615 (place_from read 0 args tuple)) → limit ≡ value_count read x.kind x.gives → value < limit
    → Target sig sizes tables k x t tuple value at
target sig sizes tables k x t tuple value at b symbols read args limit built seen h same symbol table first second found most small =
    let inside : k < length sig.symbols = omega (arith, ap (λ (y : Building). length y.signature.symbols) seen) in
    let P : List ℕ → List ℕ → Type 0 = λ r a. (are_below r a tuple ≡ true) × (at ≡ min 18446744073709551615 (place_from r 0 a tuple)) in
    let here : P sizes x.args = subst (λ (a : List ℕ). P sizes a) second (subst (λ (r : List ℕ). P r args) first found) in
    let bound : limit ≡ value_count sizes x.kind x.gives = most ∙ ap (λ r. value_count r x.kind x.gives) first in
    record {
      built = built;
      symbol = slice_get_read sig.symbols (length sig.symbols) k x refl inside (symbol ∙ ap (λ l. get_or l k x) same);
      table = slice_get_read tables (length tables) k t refl (within sig sizes tables k built inside) table;
      in_range = here.0;
      small = omega (arith, bound);
      place = here.1;
    }

-- the answer where the entry is in range
pub answered : (sig : Signature) (sizes : List ℕ) (tables : List Table) (k : ℕ) (x : Symbol) (t : Table) (tuple : List ℕ) (value at : ℕ) (b : Building) (good bad : Result (Unit {0}) BuildError)
    → Target sig sizes tables k x t tuple value at → building sig sizes tables ≡ b → good ≡ (if is_entry b k tuple value then good else bad)
answered sig sizes tables k x t tuple value at b good bad h seen =
    let e : is_entry b k tuple value ≡ true = ap (λ y. is_entry y k tuple value) (sym seen) ∙ is_target sig sizes tables k x t tuple value at h in
    rw e refl

-- the entry is set where its table is written
pub written : (sig : Signature) (sizes : List ℕ) (tables : List Table) (k : ℕ) (x : Symbol) (t new : Table) (tuple : List ℕ) (value at : ℕ) (b : Building)
    → Target sig sizes tables k x t tuple value at → building sig sizes tables ≡ b → new ≡ with_entry t at value
    → IsSet b (building sig sizes (slice_set tables k new)) k tuple value
written sig sizes tables k x t new tuple value at b h seen e =
    let P : Building → Type 0 = λ y. IsSet y (building sig sizes (slice_set tables k new)) k tuple value in
    let Q : Table → Type 0 = λ u. IsSet (building sig sizes tables) (building sig sizes (slice_set tables k u)) k tuple value in
    subst P seen (subst Q (sym e) (is_set sig sizes tables k x t tuple value at h))

pub written_holds : (sig : Signature) (sizes : List ℕ) (tables : List Table) (k : ℕ) (x : Symbol) (t new : Table) (tuple : List ℕ) (value at : ℕ)
    → Target sig sizes tables k x t tuple value at → new ≡ with_entry t at value → is_building (building sig sizes (slice_set tables k new)) ≡ true
written_holds sig sizes tables k x t new tuple value at h e =
    ap (λ u. is_building (building sig sizes (slice_set tables k u))) e ∙ still_built sig sizes tables k x t tuple value at h
