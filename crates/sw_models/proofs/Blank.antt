-- A structure with false and 0 for all entries fits.
use Rattle.std.proofs.Common.{◌≡◌, ℕ, zero, suc, ◌<◌, ◌≤◌, true, false, nat_eq, nat_lt, List, [], ◌∷◌, length, None, refl, arith, ◌∙◌, ap, sym, subst}
use Rattle.std.specs.Prelude.{◌&&◌, replicate}
use Rattle.std.specs.List.{list_all, position_or_len}
use Rattle.std.proofs.lemmas.Bool.{and_from, and_parts}
use Rattle.std.proofs.lemmas.Bool.Decides.{nat_tests}
use Rattle.std.proofs.lemmas.List.{length-replicate}
use Rattle.sw_logic.specs.declared.syntax.SymbolKind.{SymbolKind}
use Rattle.sw_logic.specs.declared.syntax.SymbolKind.TheVariants.{Relation, Constant, Function}
use Rattle.sw_logic.specs.declared.syntax.Symbol.{Symbol}
use Rattle.sw_logic.specs.declared.syntax.Signature.{Signature}
use Rattle.sw_logic.specs.declared.structure.Table.{Table}
use Rattle.sw_logic.specs.Truth.{size_of}
use Rattle.sw_logic.specs.Fits.{tuple_count, table_fits, tables_fit, fits}
use Rattle.sw_logic.specs.Signatures.{is_signature, is_symbol, is_of_kind}
use Rattle.sw_models.specs.Building.{first_zero, blank_table, blank_tables, building, is_building, counts_fit}
use Rattle.sw_models.proofs.Complete.{below, size_some}
use Rattle.sw_models.proofs.Pieces.{past}

equal : (m n : ℕ) → m ≡ n → nat_eq m n ≡ true
equal m n e = grind (arith, nat_tests)

less : (m n : ℕ) → m < n → nat_lt m n ≡ true
less m n h = grind (arith, nat_tests)

zeros_below : (count size : ℕ) → 0 < size → list_all (λ v. nat_lt v size) (replicate count 0) ≡ true
zeros_below zero size h = refl
zeros_below (suc count) size h = and_from (nat_lt 0 size) (list_all (λ v. nat_lt v size) (replicate count 0)) (less 0 size h) (zeros_below count size h)

blank_fits : (sizes args : List ℕ) (gives : ℕ) (kind : SymbolKind) → is_of_kind (length sizes) kind args gives ≡ true → list_all (λ n. nat_lt 0 n) sizes ≡ true
    → table_fits sizes args gives kind (blank_table (tuple_count sizes args) kind) ≡ true
blank_fits sizes args gives Relation e some = equal (length (replicate (tuple_count sizes args) false)) (tuple_count sizes args) (length-replicate (tuple_count sizes args) false)
blank_fits sizes args gives Constant e some =
    let parts = and_parts (nat_eq (length args) 0) (nat_lt gives (length sizes)) e in
    less 0 (size_of sizes gives) (size_some sizes gives (below gives (length sizes) parts.1) some)
blank_fits sizes args gives Function e some =
    let count = tuple_count sizes args in
    let size = size_of sizes gives in
    let parts = and_parts (nat_lt 0 (length args)) (nat_lt gives (length sizes)) e in
    and_from (nat_eq (length (replicate count 0)) count) (list_all (λ v. nat_lt v size) (replicate count 0))
    (equal (length (replicate count 0)) count (length-replicate count 0)) (zeros_below count size (size_some sizes gives (below gives (length sizes) parts.1) some))

blanks_fit : (sizes : List ℕ) (symbols : List Symbol) → list_all (is_symbol (length sizes)) symbols ≡ true → list_all (λ n. nat_lt 0 n) sizes ≡ true
    → tables_fit sizes symbols (blank_tables sizes symbols) ≡ true
blanks_fit sizes [] e some = refl
blanks_fit sizes (symbol ∷ symbols) e some =
    let parts = and_parts (is_symbol (length sizes) symbol) (list_all (is_symbol (length sizes)) symbols) e in
    let inner = and_parts (list_all (λ sort. nat_lt sort (length sizes)) symbol.args) (is_of_kind (length sizes) symbol.kind symbol.args symbol.gives) parts.0 in
    and_from (table_fits sizes symbol.args symbol.gives symbol.kind (blank_table (tuple_count sizes symbol.args) symbol.kind)) (tables_fit sizes symbols (blank_tables sizes symbols))
    (blank_fits sizes symbol.args symbol.gives symbol.kind inner.1 some) (blanks_fit sizes symbols parts.1 some)

one_less : (n : ℕ) (sizes : List ℕ) → length (suc n ∷ sizes) ≤ position_or_len (λ m. nat_eq m 0) (suc n ∷ sizes) → length sizes ≤ position_or_len (λ m. nat_eq m 0) sizes
one_less n sizes h = let e : nat_eq (suc n) 0 ≡ false = grind (arith, nat_tests) in let f = rw e at h in omega (arith, f)

no_zero : (sizes : List ℕ) → length sizes ≤ position_or_len (λ n. nat_eq n 0) sizes → list_all (λ n. nat_lt 0 n) sizes ≡ true
no_zero [] h = refl
no_zero (zero ∷ sizes) h = absurd (omega arith)
no_zero (suc n ∷ sizes) h = and_from (nat_lt 0 (suc n)) (list_all (λ m. nat_lt 0 m) sizes) (less 0 (suc n) (omega arith)) (no_zero sizes (one_less n sizes h))

-- where no size is 0 the blank structure fits
pub blank_is_building : (sig : Signature) (sizes : List ℕ) → is_signature sig ≡ true → length sizes ≡ length sig.sorts → first_zero sizes ≡ None
    → counts_fit sizes sig.symbols ≡ true → is_building (building sig sizes (blank_tables sizes sig.symbols)) ≡ true
blank_is_building sig sizes sound many none held =
    let some = no_zero sizes (past (position_or_len (λ n. nat_eq n 0) sizes) (length sizes) none) in
    let P : ℕ → Type 0 = λ n. list_all (is_symbol n) sig.symbols ≡ true in
    let tables = blank_tables sizes sig.symbols in
    let fit : fits sig (record { sizes = sizes; tables = tables }) ≡ true =
    and_from (nat_eq (length sizes) (length sig.sorts)) (list_all (λ n. nat_lt 0 n) sizes && tables_fit sizes sig.symbols tables) (equal (length sizes) (length sig.sorts) many)
    (and_from (list_all (λ n. nat_lt 0 n) sizes) (tables_fit sizes sig.symbols tables) some (blanks_fit sizes sig.symbols (subst P (sym many) sound) some)) in
    and_from (is_signature sig) (counts_fit sizes sig.symbols && fits sig (record { sizes = sizes; tables = tables })) sound
    (and_from (counts_fit sizes sig.symbols) (fits sig (record { sizes = sizes; tables = tables })) held fit)

-- the same, of what a new builder holds
pub new_is_building : (sig : Signature) (sizes read again held : List ℕ) (symbols : List Symbol) (tables : List Table) → is_signature sig ≡ true → length sizes ≡ length sig.sorts
    → first_zero read ≡ None → read ≡ sizes → again ≡ sizes → symbols ≡ sig.symbols → held ≡ sizes → (tables ≡ blank_tables again symbols) × (counts_fit again symbols ≡ true)
    → is_building (building sig held tables) ≡ true
new_is_building sig sizes read again held symbols tables sound many none first second third fourth made =
    let all : tables ≡ blank_tables sizes sig.symbols = made.0 ∙ ap (λ z. blank_tables z symbols) second ∙ ap (blank_tables sizes) third in
    let fit : counts_fit sizes sig.symbols ≡ true = sym (ap (λ z. counts_fit z symbols) second ∙ ap (counts_fit sizes) third) ∙ made.1 in
    ap (λ z. is_building (building sig z tables)) fourth ∙ ap (λ t. is_building (building sig sizes t)) all
    ∙ blank_is_building sig sizes sound many (ap first_zero (sym first) ∙ none) fit
