-- The text of a structure that fits has that structure.
use Rattle.std.proofs.Common.{◌≡◌, ◌≢◌, ℕ, ◌+◌, ◌<◌, zero, suc, true, false, cond, nat_eq, nat_lt, List, [], ◌∷◌, ◌++◌, length, map, Some, None, Result, Ok, Err, All, refl, arith, ◌∙◌, ap, sym, subst, append_assoc, append-nil}
use Rattle.std.specs.Prelude.{codes, IfSome, IfOk, ◌&&◌}
use Rattle.std.specs.List.{list_all}
use Rattle.std.specs.Fmt.{decimal}
use Rattle.std.proofs.lemmas.Bool.{and_parts, eqb-true, false≢true}
use Rattle.std.proofs.lemmas.Bool.Decides.{nat_tests}
use Rattle.std.proofs.lemmas.List.Elements.{All-nil, All-cons, All-head, All-tail}
use Rattle.std.proofs.Math.Nat.{mul-pos}
use Rattle.sw_logic.specs.declared.syntax.SymbolKind.{SymbolKind}
use Rattle.sw_logic.specs.declared.syntax.SymbolKind.TheVariants.{Relation, Constant, Function}
use Rattle.sw_logic.specs.declared.syntax.Symbol.{Symbol}
use Rattle.sw_logic.specs.declared.syntax.Signature.{Signature}
use Rattle.sw_logic.specs.declared.structure.Table.{Table}
use Rattle.sw_logic.specs.declared.structure.Table.TheVariants.{Bits, Value, Values}
use Rattle.sw_logic.specs.declared.structure.Structure.{Structure}
use Rattle.sw_logic.specs.Truth.{size_of}
use Rattle.sw_logic.specs.Fits.{tuple_count, table_fits, tables_fit, fits}
use Rattle.sw_models.specs.declared.errors.StructureError.{StructureError}
use Rattle.sw_models.specs.declared.errors.StructureError.TheVariants.{Syntax, SizeZero, TableLength, ValueRange, Memory}
use Rattle.sw_models.specs.Text.{line_start, sizes_text, tables_text, structure_text}
use Rattle.sw_models.specs.Reading.{Line, Content, IsNumber, IsTableOf, Has, HasText, value_fault, table_fault, place_below, answer_of}
use Rattle.sw_logic.specs.Signatures.{is_signature, is_symbol, is_of_kind}
use Rattle.sw_models.proofs.Sound.{above_both, is_structure}
use Rattle.sw_models.proofs.Unique.{one_answer}

pub below : (v size : ℕ) → nat_lt v size ≡ true → v < size
below v size e = grind (arith, nat_tests)

faultless : (n at : ℕ) → 0 < n → cond (nat_eq n 0) (Some (SizeZero at)) None ≡ None
faultless n at h = let e : nat_eq n 0 ≡ false = grind (arith, nat_tests) in rw e refl

size_number : (sizes : List ℕ) (sort : ℕ) → All IsNumber sizes → IsNumber (size_of sizes sort)
size_number [] zero all = omega arith
size_number [] (suc sort) all = omega arith
size_number (n ∷ sizes) zero all = All-head IsNumber n sizes all
size_number (n ∷ sizes) (suc sort) all = size_number sizes sort (All-tail IsNumber n sizes all)

pub size_some : (sizes : List ℕ) (sort : ℕ) → sort < length sizes → list_all (λ n. nat_lt 0 n) sizes ≡ true → 0 < size_of sizes sort
size_some [] sort h e = absurd (omega arith)
size_some (n ∷ sizes) zero h e = below 0 n (and_parts (nat_lt 0 n) (list_all (λ m. nat_lt 0 m) sizes) e).0
size_some (n ∷ sizes) (suc sort) h e = size_some sizes sort (omega arith) (and_parts (nat_lt 0 n) (list_all (λ m. nat_lt 0 m) sizes) e).1

-- there is a tuple
pub tuple_some : (sizes args : List ℕ) → list_all (λ sort. nat_lt sort (length sizes)) args ≡ true → list_all (λ n. nat_lt 0 n) sizes ≡ true → 0 < tuple_count sizes args
tuple_some sizes [] all e = omega arith
tuple_some sizes (sort ∷ args) all e =
    let parts = and_parts (nat_lt sort (length sizes)) (list_all (λ a. nat_lt a (length sizes)) args) all in
    let here = size_some sizes sort (below sort (length sizes) parts.0) e in
    let rest = tuple_some sizes args parts.1 e in
    mul-pos here rest

values_are_numbers : (size : ℕ) (values : List ℕ) → IsNumber size → list_all (λ v. nat_lt v size) values ≡ true → All IsNumber values
values_are_numbers size [] small e = All-nil IsNumber
values_are_numbers size (v ∷ values) small e =
    let parts = and_parts (nat_lt v size) (list_all (λ w. nat_lt w size) values) e in
    let here = below v size parts.0 in
    All-cons IsNumber v values (omega arith) (values_are_numbers size values small parts.1)

values_faultless : (size at : ℕ) (values : List ℕ) → list_all (λ v. nat_lt v size) values ≡ true → value_fault size at values ≡ None
values_faultless size at [] e = refl
values_faultless size at (v ∷ values) e =
    let parts = and_parts (nat_lt v size) (list_all (λ w. nat_lt w size) values) e in
    rw parts.0 (values_faultless size (at + length (decimal v) + 1) values parts.1)

some_from_length : {A : Type 0} (xs : List A) (n : ℕ) → nat_eq (length xs) n ≡ true → 0 < n → xs ≢ []
some_from_length xs n e h f = let g : length xs ≡ n = eqb-true (length xs) n e in omega (arith, ap length f)

table_form : (sizes : List ℕ) (args : List ℕ) (gives : ℕ) (kind : SymbolKind) (table : Table) → table_fits sizes args gives kind table ≡ true → 0 < tuple_count sizes args
    → All IsNumber sizes → IsTableOf kind table
table_form sizes args gives Relation (Bits bits) e some all = some_from_length bits (tuple_count sizes args) e some
table_form sizes args gives Constant (Value value) e some all =
    let h = below value (size_of sizes gives) e in let small = size_number sizes gives all in omega arith
table_form sizes args gives Function (Values values) e some all =
    let parts = and_parts (nat_eq (length values) (tuple_count sizes args)) (list_all (λ v. nat_lt v (size_of sizes gives)) values) e in
    (some_from_length values (tuple_count sizes args) parts.0 some, values_are_numbers (size_of sizes gives) values (size_number sizes gives all) parts.1)
table_form sizes args gives Relation (Value value) e some all = absurd (false≢true e)
table_form sizes args gives Relation (Values values) e some all = absurd (false≢true e)
table_form sizes args gives Constant (Bits bits) e some all = absurd (false≢true e)
table_form sizes args gives Constant (Values values) e some all = absurd (false≢true e)
table_form sizes args gives Function (Bits bits) e some all = absurd (false≢true e)
table_form sizes args gives Function (Value value) e some all = absurd (false≢true e)

table_faultless : (sizes : List ℕ) (symbol : Symbol) (kind : SymbolKind) (at : ℕ) (table : Table) → table_fits sizes symbol.args symbol.gives kind table ≡ true
    → table_fault sizes symbol at table ≡ None
table_faultless sizes symbol Relation at (Bits bits) e = rw e refl
table_faultless sizes symbol Constant at (Value value) e = rw e refl
table_faultless sizes symbol Function at (Values values) e =
    let parts = and_parts (nat_eq (length values) (tuple_count sizes symbol.args)) (list_all (λ v. nat_lt v (size_of sizes symbol.gives)) values) e in
    rw parts.0 (values_faultless (size_of sizes symbol.gives) at values parts.1)
table_faultless sizes symbol Relation at (Value value) e = absurd (false≢true e)
table_faultless sizes symbol Relation at (Values values) e = absurd (false≢true e)
table_faultless sizes symbol Constant at (Bits bits) e = absurd (false≢true e)
table_faultless sizes symbol Constant at (Values values) e = absurd (false≢true e)
table_faultless sizes symbol Function at (Bits bits) e = absurd (false≢true e)
table_faultless sizes symbol Function at (Value value) e = absurd (false≢true e)

-- tables that fit these sizes, which are numbers and not 0
record Right (sizes : List ℕ) (symbols : List Symbol) (tables : List Table) : Type 0 where
  fit : tables_fit sizes symbols tables ≡ true
  sorts : list_all (is_symbol (length sizes)) symbols ≡ true
  some : list_all (λ n. nat_lt 0 n) sizes ≡ true
  numbers : All IsNumber sizes

has_tables : (r : Result Structure StructureError) (sizes : List ℕ) (symbols : List Symbol) (tables new : List Table) (at : ℕ)
    → r ≡ Ok (record { sizes = sizes; tables = tables ++ new }) → Right sizes symbols new → Has r (map Line.of_symbol symbols) sizes tables at (tables_text symbols new)
has_tables r sizes [] tables [] at e right = Has.end (e ∙ ap (λ t. Ok (record { sizes = sizes; tables = t })) (append-nil tables))
has_tables r sizes [] tables (t ∷ new) at e right = absurd (false≢true right.fit)
has_tables r sizes (symbol ∷ symbols) tables [] at e right = absurd (false≢true right.fit)
has_tables r sizes (symbol ∷ symbols) tables (t ∷ new) at e right =
    let parts = and_parts (table_fits sizes symbol.args symbol.gives symbol.kind t) (tables_fit sizes symbols new) right.fit in
    let P : List ℕ → Type 0 = λ z. Has r (map Line.of_symbol symbols) z (tables ++ t ∷ []) (place_below at (Line.of_symbol symbol) (Content.a_table t)) (tables_text symbols new) in
    let sorts = and_parts (is_symbol (length sizes) symbol) (list_all (is_symbol (length sizes)) symbols) right.sorts in
    let args = (and_parts (list_all (λ sort. nat_lt sort (length sizes)) symbol.args) (is_of_kind (length sizes) symbol.kind symbol.args symbol.gives) sorts.0).0 in
    Has.next (Content.a_table t) (tables_text symbols new)
    (record { form = table_form sizes symbol.args symbol.gives symbol.kind t parts.0 (tuple_some sizes symbol.args args right.some) right.numbers; text = refl })
    (table_faultless sizes symbol symbol.kind _ t parts.0)
    (subst P (sym (append-nil sizes))
    (has_tables r sizes symbols (tables ++ t ∷ []) new _ (e ∙ ap (λ x. Ok (record { sizes = sizes; tables = x })) (sym (append_assoc tables (t ∷ []) new)))
    (record { fit = parts.1; sorts = sorts.1; some = right.some; numbers = right.numbers })))

has_sizes : (r : Result Structure StructureError) (all : List ℕ) (names : List (List ℕ)) (symbols : List Symbol) (sizes new : List ℕ) (tables : List Table) (at : ℕ)
    → r ≡ Ok (record { sizes = all; tables = tables }) → Right all symbols tables → all ≡ sizes ++ new → length new ≡ length names
    → list_all (λ n. nat_lt 0 n) new ≡ true → All IsNumber new
    → Has r (map Line.of_sort names ++ map Line.of_symbol symbols) sizes [] at (sizes_text names new ++ tables_text symbols tables)
has_sizes r all [] symbols sizes [] tables at e right whole many some numbers =
    let P : List ℕ → Type 0 = λ z. Has r (map Line.of_symbol symbols) z [] at (tables_text symbols tables) in
    subst P (whole ∙ append-nil sizes) (has_tables r all symbols [] tables at e right)
has_sizes r all [] symbols sizes (n ∷ new) tables at e right whole many some numbers = absurd (omega arith)
has_sizes r all (name ∷ names) symbols sizes [] tables at e right whole many some numbers = absurd (omega arith)
has_sizes r all (name ∷ names) symbols sizes (n ∷ new) tables at e right whole many some numbers =
    let parts = and_parts (nat_lt 0 n) (list_all (λ m. nat_lt 0 m) new) some in
    Has.next (Content.a_size n) (sizes_text names new ++ tables_text symbols tables)
    (record {
      form = All-head IsNumber n new numbers;
      text = above_both (line_start (codes "size") name) (decimal n) (sizes_text names new) (tables_text symbols tables);
    })
    (not_zero n at parts.0)
    (has_sizes r all names symbols (sizes ++ n ∷ []) new tables _ e right (whole ∙ sym (append_assoc sizes (n ∷ []) new)) (omega arith) parts.1 (All-tail IsNumber n new numbers))
  where
    not_zero : (n at : ℕ) → nat_lt 0 n ≡ true → cond (nat_eq n 0) (Some (SizeZero at)) None ≡ None
    not_zero zero at h = absurd (false≢true h)
    not_zero (suc n) at h = faultless (suc n) at (omega arith)

-- what is printed of a structure that fits reads back
pub reads_back : (sig : Signature) (s : Structure) → is_signature sig ≡ true → fits sig s ≡ true → All IsNumber s.sizes → HasText sig (structure_text sig s) (Ok s)
reads_back sig s sorts fit numbers =
    let outer = and_parts (nat_eq (length s.sizes) (length sig.sorts)) (list_all (λ n. nat_lt 0 n) s.sizes && tables_fit s.sizes sig.symbols s.tables) fit in
    let inner = and_parts (list_all (λ n. nat_lt 0 n) s.sizes) (tables_fit s.sizes sig.symbols s.tables) outer.1 in
    let many : length s.sizes ≡ length sig.sorts = eqb-true (length s.sizes) (length sig.sorts) outer.0 in
    let P : ℕ → Type 0 = λ n. list_all (is_symbol n) sig.symbols ≡ true in
    Has.next Content.nothing (sizes_text sig.sorts s.sizes ++ tables_text sig.symbols s.tables) (record { form = tt; text = refl }) refl
    (has_sizes (Ok s) s.sizes sig.sorts sig.symbols [] s.sizes s.tables _ refl (record { fit = inner.1; sorts = subst P (sym many) sorts; some = inner.0; numbers = numbers })
    refl many inner.0 numbers)

-- an answer that the text has is the only one
pub no_other : (sig : Signature) (text : List ℕ) (r s : Result Structure StructureError) → IfSome (answer_of r) (HasText sig text) → HasText sig text s
    → IfSome (answer_of r) (λ x. x ≡ s)
no_other sig text (Ok x) s h other = one_answer (Ok x) s _ [] [] 0 text h other
no_other sig text (Err (Syntax at)) s h other = one_answer (Err (Syntax at)) s _ [] [] 0 text h other
no_other sig text (Err (SizeZero at)) s h other = one_answer (Err (SizeZero at)) s _ [] [] 0 text h other
no_other sig text (Err (TableLength at)) s h other = one_answer (Err (TableLength at)) s _ [] [] 0 text h other
no_other sig text (Err (ValueRange at)) s h other = one_answer (Err (ValueRange at)) s _ [] [] 0 text h other
no_other sig text (Err Memory) s h other = tt

pub right_structure : (sig : Signature) (text : List ℕ) (r : Result Structure StructureError) → IfSome (answer_of r) (HasText sig text)
    → IfOk r (λ s. (fits sig s ≡ true) × (text ≡ structure_text sig s))
right_structure sig text (Ok s) h = is_structure sig text s h
right_structure sig text (Err e) h = tt

pub complete : (sig : Signature) (text : List ℕ) (r : Result Structure StructureError) (s : Structure) → IfSome (answer_of r) (HasText sig text) → is_signature sig ≡ true
    → fits sig s ≡ true → All IsNumber s.sizes → text ≡ structure_text sig s → IfSome (answer_of r) (λ x. x ≡ Ok s)
complete sig text r s h sorts fit numbers e =
    let P : List ℕ → Type 0 = λ t. HasText sig t (Ok s) in
    no_other sig text r (Ok s) h (subst P (sym e) (reads_back sig s sorts fit numbers))
