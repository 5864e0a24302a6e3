-- A structure that is read fits, and its text is what was read.
use Rattle.std.proofs.Common.{◌≡◌, ℕ, ◌+◌, ◌<◌, zero, suc, Bool, true, false, cond, nat_eq, nat_lt, List, [], ◌∷◌, ◌++◌, length, map, Option, Some, None, Ok, refl, arith, ◌∙◌, ap, sym, append_assoc, append-nil}
use Rattle.std.specs.Prelude.{codes}
use Rattle.std.specs.List.{list_all}
use Rattle.std.specs.Fmt.{decimal}
use Rattle.std.proofs.lemmas.Bool.{and_from}
use Rattle.std.proofs.lemmas.Bool.Decides.{nat_tests}
use Rattle.std.proofs.lemmas.Option.{none-some}
use Rattle.sw_logic.specs.declared.syntax.SymbolKind.{SymbolKind}
use Rattle.sw_logic.specs.declared.syntax.SymbolKind.TheVariants.{Relation, Constant, Function}
use Rattle.sw_logic.specs.declared.syntax.Symbol.{Symbol}
use Rattle.sw_logic.specs.declared.syntax.Signature.{Signature}
use Rattle.sw_logic.specs.declared.structure.Table.{Table}
use Rattle.sw_logic.specs.declared.structure.Table.TheVariants.{Bits, Value, Values}
use Rattle.sw_logic.specs.declared.structure.Structure.{Structure}
use Rattle.sw_logic.specs.Truth.{size_of}
use Rattle.sw_logic.specs.Fits.{tuple_count, table_fits, tables_fit, fits}
use Rattle.sw_models.specs.declared.errors.StructureError.{StructureError}
use Rattle.sw_models.specs.declared.errors.StructureError.TheVariants.{SizeZero, TableLength, ValueRange}
use Rattle.sw_models.specs.Text.{kind_word, line_start, line_above, table_text, sizes_text, tables_text, structure_text}
use Rattle.sw_models.specs.Reading.{Line, Content, IsTableOf, Begins, Has, HasText, value_fault, table_fault, fault_of}

positive : (n : ℕ) → 0 < n → nat_lt 0 n ≡ true
positive n h = grind (arith, nat_tests)

-- a test that has no fault
passed : (b : Bool) (o : Option StructureError) (e : StructureError) → cond b o (Some e) ≡ None → (b ≡ true) × (o ≡ None)
passed true o e f = (refl, f)
passed false o e f = absurd (none-some e (sym f))

values_below : (size at : ℕ) (values : List ℕ) → value_fault size at values ≡ None → list_all (λ v. nat_lt v size) values ≡ true
values_below size at [] e = refl
values_below size at (v ∷ values) e =
    let here = passed (nat_lt v size) (value_fault size (at + length (decimal v) + 1) values) (ValueRange at) e in
    and_from (nat_lt v size) (list_all (λ w. nat_lt w size) values) here.0 (values_below size (at + length (decimal v) + 1) values here.1)

table_right : (sizes : List ℕ) (symbol : Symbol) (kind : SymbolKind) (at : ℕ) (table : Table) → IsTableOf kind table → table_fault sizes symbol at table ≡ None
    → table_fits sizes symbol.args symbol.gives kind table ≡ true
table_right sizes symbol Relation at (Bits bits) is e = (passed (nat_eq (length bits) (tuple_count sizes symbol.args)) None (TableLength at) e).0
table_right sizes symbol Constant at (Value value) is e = (passed (nat_lt value (size_of sizes symbol.gives)) None (ValueRange at) e).0
table_right sizes symbol Function at (Values values) is e =
    let here = passed (nat_eq (length values) (tuple_count sizes symbol.args)) (value_fault (size_of sizes symbol.gives) at values) (TableLength at) e in
    and_from (nat_eq (length values) (tuple_count sizes symbol.args)) (list_all (λ v. nat_lt v (size_of sizes symbol.gives)) values) here.0
    (values_below (size_of sizes symbol.gives) at values here.1)
table_right sizes symbol Relation at (Value value) is e = absurd is
table_right sizes symbol Relation at (Values values) is e = absurd is
table_right sizes symbol Constant at (Bits bits) is e = absurd is
table_right sizes symbol Constant at (Values values) is e = absurd is
table_right sizes symbol Function at (Bits bits) is e = absurd is
table_right sizes symbol Function at (Value value) is e = absurd is

-- the tables that are read below these
record TablesAre (s : Structure) (symbols : List Symbol) (sizes : List ℕ) (tables : List Table) (bytes : List ℕ) : Type 0 where
  new : List Table
  whole : s ≡ record { sizes = sizes; tables = tables ++ new }
  fit : tables_fit sizes symbols new ≡ true
  text : bytes ≡ tables_text symbols new

one_table : (s : Structure) (symbol : Symbol) (symbols : List Symbol) (sizes : List ℕ) (tables : List Table) (at : ℕ) (table : Table) (below bytes : List ℕ)
    → Begins (Line.of_symbol symbol) (Content.a_table table) below bytes → table_fault sizes symbol at table ≡ None
    → TablesAre s symbols (sizes ++ []) (tables ++ table ∷ []) below → TablesAre s (symbol ∷ symbols) sizes tables bytes
one_table s symbol symbols sizes tables at table below bytes b e rest =
    let same : sizes ++ [] ≡ sizes = append-nil sizes in
    let fit : tables_fit sizes symbols rest.new ≡ true = ap (λ z. tables_fit z symbols rest.new) (sym same) ∙ rest.fit in
    record {
      new = table ∷ rest.new;
      whole = rest.whole ∙ ap (λ z. record { sizes = z; tables = (tables ++ table ∷ []) ++ rest.new }) same
          ∙ ap (λ t. record { sizes = sizes; tables = t }) (append_assoc tables (table ∷ []) rest.new);
      fit = and_from (table_fits sizes symbol.args symbol.gives symbol.kind table) (tables_fit sizes symbols rest.new)
          (table_right sizes symbol symbol.kind at table b.form e) fit;
      text = b.text ∙ ap (λ x. line_above (line_start (kind_word symbol.kind) symbol.name) (table_text table) x) rest.text;
    }

tables_are : (s : Structure) (symbols : List Symbol) (sizes : List ℕ) (tables : List Table) (at : ℕ) (bytes : List ℕ)
    → Has (Ok s) (map Line.of_symbol symbols) sizes tables at bytes → TablesAre s symbols sizes tables bytes
tables_are s [] sizes tables at [] (Has.end e) =
    let f : s ≡ record { sizes = sizes; tables = tables } = cc in
    record { new = []; whole = f ∙ ap (λ t. record { sizes = sizes; tables = t }) (sym (append-nil tables)); fit = refl; text = refl }
tables_are s [] sizes tables at (b ∷ bytes) (Has.more e) = absurd cc
tables_are s (symbol ∷ symbols) sizes tables at bytes (Has.fault d f e) = absurd cc
tables_are s (symbol ∷ symbols) sizes tables at bytes (Has.next Content.nothing below b g h) = absurd b.form
tables_are s (symbol ∷ symbols) sizes tables at bytes (Has.next (Content.a_size n) below b g h) = absurd b.form
tables_are s (symbol ∷ symbols) sizes tables at bytes (Has.next (Content.a_table table) below b g h) =
    one_table s symbol symbols sizes tables _ table below bytes b g (tables_are s symbols (sizes ++ []) (tables ++ table ∷ []) _ below h)

-- the sizes that are read below these, and the tables
record SizesAre (s : Structure) (names : List (List ℕ)) (symbols : List Symbol) (sizes bytes : List ℕ) : Type 0 where
  new : List ℕ
  tables : List Table
  whole : s ≡ record { sizes = sizes ++ new; tables = tables }
  many : length new ≡ length names
  some : list_all (λ n. nat_lt 0 n) new ≡ true
  fit : tables_fit (sizes ++ new) symbols tables ≡ true
  text : bytes ≡ sizes_text names new ++ tables_text symbols tables

pub above_both : (start body below lower : List ℕ) → line_above start body below ++ lower ≡ line_above start body (below ++ lower)
above_both start body below lower =
    append_assoc start (body ++ 10 ∷ below) lower ∙ ap (λ x. start ++ x) (append_assoc body (10 ∷ below) lower)

one_size : (s : Structure) (name : List ℕ) (names : List (List ℕ)) (symbols : List Symbol) (sizes : List ℕ) (n at : ℕ) (below bytes : List ℕ)
    → Begins (Line.of_sort name) (Content.a_size n) below bytes → fault_of sizes at (Line.of_sort name) (Content.a_size n) ≡ None
    → SizesAre s names symbols (sizes ++ n ∷ []) below → SizesAre s (name ∷ names) symbols sizes bytes
one_size s name names symbols sizes n at below bytes b e rest =
    let same : (sizes ++ n ∷ []) ++ rest.new ≡ sizes ++ n ∷ rest.new = append_assoc sizes (n ∷ []) rest.new in
    let start : List ℕ = line_start (codes "size") name in
    record {
      new = n ∷ rest.new;
      tables = rest.tables;
      whole = rest.whole ∙ ap (λ z. record { sizes = z; tables = rest.tables }) same;
      many = omega (arith, rest.many);
      some = and_from (nat_lt 0 n) (list_all (λ m. nat_lt 0 m) rest.new) (not_zero n at e) rest.some;
      fit = ap (λ z. tables_fit z symbols rest.tables) (sym same) ∙ rest.fit;
      text = b.text ∙ ap (λ x. line_above start (decimal n) x) rest.text ∙ sym (above_both start (decimal n) (sizes_text names rest.new) (tables_text symbols rest.tables));
    }
  where
    not_zero : (n at : ℕ) → cond (nat_eq n 0) (Some (SizeZero at)) None ≡ None → nat_lt 0 n ≡ true
    not_zero zero at e = absurd (none-some (SizeZero at) (sym e))
    not_zero (suc n) at e = positive (suc n) (omega arith)

sizes_are : (s : Structure) (names : List (List ℕ)) (symbols : List Symbol) (sizes : List ℕ) (at : ℕ) (bytes : List ℕ)
    → Has (Ok s) (map Line.of_sort names ++ map Line.of_symbol symbols) sizes [] at bytes → SizesAre s names symbols sizes bytes
sizes_are s [] symbols sizes at bytes has =
    let are = tables_are s symbols sizes [] at bytes has in
    let same : sizes ≡ sizes ++ [] = sym (append-nil sizes) in
    record {
      new = [];
      tables = are.new;
      whole = are.whole ∙ ap (λ z. record { sizes = z; tables = are.new }) same;
      many = refl;
      some = refl;
      fit = ap (λ z. tables_fit z symbols are.new) (sym same) ∙ are.fit;
      text = are.text;
    }
sizes_are s (name ∷ names) symbols sizes at bytes (Has.fault d f e) = absurd cc
sizes_are s (name ∷ names) symbols sizes at bytes (Has.next Content.nothing below b g h) = absurd b.form
sizes_are s (name ∷ names) symbols sizes at bytes (Has.next (Content.a_table table) below b g h) = absurd b.form
sizes_are s (name ∷ names) symbols sizes at bytes (Has.next (Content.a_size n) below b g h) =
    one_size s name names symbols sizes n at below bytes b g (sizes_are s names symbols (sizes ++ n ∷ []) _ below h)

-- what a text has as a structure fits, and is its text
pub is_structure : (sig : Signature) (text : List ℕ) (s : Structure) → HasText sig text (Ok s) → (fits sig s ≡ true) × (text ≡ structure_text sig s)
is_structure sig text s (Has.fault d f e) = absurd cc
is_structure sig text s (Has.next (Content.a_size n) below b g h) = absurd b.form
is_structure sig text s (Has.next (Content.a_table table) below b g h) = absurd b.form
is_structure sig text s (Has.next Content.nothing below b g h) =
    let are = sizes_are s sig.sorts sig.symbols [] _ below h in
    let t : Structure = record { sizes = are.new; tables = are.tables } in
    let same : t ≡ s = sym are.whole in
    let many : nat_eq (length are.new) (length sig.sorts) ≡ true = let e = are.many in grind (arith, nat_tests) in
    let fit : fits sig t ≡ true =
    and_from (nat_eq (length are.new) (length sig.sorts)) _ many (and_from (list_all (λ n. nat_lt 0 n) are.new) (tables_fit are.new sig.symbols are.tables) are.some are.fit) in
    (ap (fits sig) (sym same) ∙ fit, b.text ∙ ap (λ x. line_above (codes "structure") [] x) are.text ∙ ap (structure_text sig) same)
