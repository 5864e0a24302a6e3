-- A line that is expected is there or not, and in one way.
use Rattle.std.proofs.Common.{◌≡◌, ◌≢◌, ℕ, List, [], ◌∷◌, ◌++◌, All, refl, arith, ◌∙◌, ap, sym}
use Rattle.std.proofs.lemmas.List.{append_cancel_left}
use Rattle.std.proofs.lemmas.List.Elements.{All-nil}
use Rattle.sw_logic.specs.declared.syntax.SymbolKind.{SymbolKind}
use Rattle.sw_logic.specs.declared.syntax.SymbolKind.TheVariants.{Relation, Constant, Function}
use Rattle.sw_logic.specs.declared.structure.Table.{Table}
use Rattle.sw_logic.specs.declared.structure.Table.TheVariants.{Bits, Value, Values}
use Rattle.sw_models.specs.declared.errors.StructureError.TheVariants.{Syntax}
use Rattle.sw_models.specs.Text.{table_text}
use Rattle.sw_models.specs.Reading.{Line, Content, IsTableOf, IsOf, Begins, IsFault, start_of, body_of}
use Rattle.sw_models.specs.Steps.{IsLine, HasNoLine}
use Rattle.sw_models.proofs.Numbers.{decimal_misses, same_number}
use Rattle.sw_models.proofs.Pieces.{one_body}
use Rattle.sw_models.proofs.Values.{values_miss, bits_miss, same_values, same_bits}

table_one_line : (kind : SymbolKind) (table : Table) → IsTableOf kind table → All (λ b. b ≢ 10) (table_text table)
table_one_line Relation (Bits bits) is = bits_miss bits 10 (omega arith)
table_one_line Constant (Value value) is = decimal_misses value 10 is (omega arith)
table_one_line Function (Values []) is = absurd (is.0 refl)
table_one_line Function (Values (v ∷ values)) is = values_miss v values 10 is.1 (omega arith) (λ e. omega arith)
table_one_line Relation (Value value) is = absurd is
table_one_line Relation (Values values) is = absurd is
table_one_line Constant (Bits bits) is = absurd is
table_one_line Constant (Values values) is = absurd is
table_one_line Function (Bits bits) is = absurd is
table_one_line Function (Value value) is = absurd is

-- what a line says has no line feed in it
body_one_line : (line : Line) (content : Content) → IsOf line content → All (λ b. b ≢ 10) (body_of content)
body_one_line Line.first Content.nothing is = All-nil (λ b. b ≢ 10)
body_one_line Line.first (Content.a_size n) is = absurd is
body_one_line Line.first (Content.a_table table) is = absurd is
body_one_line (Line.of_sort name) Content.nothing is = absurd is
body_one_line (Line.of_sort name) (Content.a_size n) is = decimal_misses n 10 is (omega arith)
body_one_line (Line.of_sort name) (Content.a_table table) is = absurd is
body_one_line (Line.of_symbol symbol) Content.nothing is = absurd is
body_one_line (Line.of_symbol symbol) (Content.a_size n) is = absurd is
body_one_line (Line.of_symbol symbol) (Content.a_table table) is = table_one_line symbol.kind table is

-- where a line begins so, and goes on with what it may not say
pub no_content : (sizes : List ℕ) (at : ℕ) (line : Line) (body below bytes : List ℕ) → IsLine (start_of line) body below bytes
    → ((content : Content) → IsOf line content → body ≢ body_of content) → IsFault sizes at line bytes (Syntax at)
no_content sizes at line body below bytes is not =
    IsFault.missing (λ content lower b.
    let e = append_cancel_left (start_of line) (body ++ 10 ∷ below) (body_of content ++ 10 ∷ lower) (sym is.text ∙ b.text) in
    let same = one_body body (body_of content) below lower is.one_line (body_one_line line content b.form) e in
    not content b.form same.0) refl

same_table : (kind : SymbolKind) (t u : Table) → IsTableOf kind t → IsTableOf kind u → table_text t ≡ table_text u → t ≡ u
same_table Relation (Bits bits) (Bits others) is also e = ap Bits (same_bits bits others e)
same_table Relation (Bits bits) (Value value) is also e = absurd also
same_table Relation (Bits bits) (Values values) is also e = absurd also
same_table Relation (Value value) u is also e = absurd is
same_table Relation (Values values) u is also e = absurd is
same_table Constant (Value v) (Value w) is also e = ap Value (same_number v w is also e)
same_table Constant (Value v) (Bits bits) is also e = absurd also
same_table Constant (Value v) (Values values) is also e = absurd also
same_table Constant (Bits bits) u is also e = absurd is
same_table Constant (Values values) u is also e = absurd is
same_table Function (Values values) (Values others) is also e = ap Values (same_values values others is.0 also.0 is.1 also.1 e)
same_table Function (Values values) (Value value) is also e = absurd also
same_table Function (Values values) (Bits bits) is also e = absurd also
same_table Function (Value value) u is also e = absurd is
same_table Function (Bits bits) u is also e = absurd is

same_content : (line : Line) (c d : Content) → IsOf line c → IsOf line d → body_of c ≡ body_of d → c ≡ d
same_content Line.first Content.nothing Content.nothing is also e = refl
same_content Line.first Content.nothing (Content.a_size n) is also e = absurd also
same_content Line.first Content.nothing (Content.a_table t) is also e = absurd also
same_content Line.first (Content.a_size n) d is also e = absurd is
same_content Line.first (Content.a_table t) d is also e = absurd is
same_content (Line.of_sort name) (Content.a_size m) (Content.a_size n) is also e = ap Content.a_size (same_number m n is also e)
same_content (Line.of_sort name) (Content.a_size m) Content.nothing is also e = absurd also
same_content (Line.of_sort name) (Content.a_size m) (Content.a_table t) is also e = absurd also
same_content (Line.of_sort name) Content.nothing d is also e = absurd is
same_content (Line.of_sort name) (Content.a_table t) d is also e = absurd is
same_content (Line.of_symbol symbol) (Content.a_table t) (Content.a_table u) is also e = ap Content.a_table (same_table symbol.kind t u is also e)
same_content (Line.of_symbol symbol) (Content.a_table t) Content.nothing is also e = absurd also
same_content (Line.of_symbol symbol) (Content.a_table t) (Content.a_size n) is also e = absurd also
same_content (Line.of_symbol symbol) Content.nothing d is also e = absurd is
same_content (Line.of_symbol symbol) (Content.a_size n) d is also e = absurd is

-- the bytes begin with the line in one way
pub begins_once : (line : Line) (c d : Content) (below lower bytes : List ℕ) → Begins line c below bytes → Begins line d lower bytes → (c ≡ d) × (below ≡ lower)
begins_once line c d below lower bytes b also =
    let e = append_cancel_left (start_of line) (body_of c ++ 10 ∷ below) (body_of d ++ 10 ∷ lower) (sym b.text ∙ also.text) in
    let same = one_body (body_of c) (body_of d) below lower (body_one_line line c b.form) (body_one_line line d also.form) e in
    (same_content line c d b.form also.form same.0, same.1)
