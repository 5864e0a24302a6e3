-- The fault of one line, as it is found.
use Rattle.std.proofs.Common.{◌≡◌, ◌≢◌, ℕ, ◌+◌, List, [], ◌∷◌, ◌++◌, length, Some, refl, arith, ◌∙◌, ap, sym, subst}
use Rattle.std.specs.Prelude.{codes}
use Rattle.std.specs.Fmt.{decimal}
use Rattle.std.proofs.lemmas.List.{length-append}
use Rattle.sw_logic.specs.declared.syntax.Symbol.{Symbol}
use Rattle.sw_logic.specs.declared.structure.Table.{Table}
use Rattle.sw_models.specs.declared.errors.StructureError.{StructureError}
use Rattle.sw_models.specs.declared.errors.StructureError.TheVariants.{Syntax, SizeZero}
use Rattle.sw_models.specs.Text.{table_text, line_start, line_above, kind_word}
use Rattle.sw_models.specs.Reading.{Line, Content, IsTableOf, IsOf, IsNumber, IsFault, body_of, table_fault}
use Rattle.sw_models.specs.Steps.{IsLine}
use Rattle.sw_models.proofs.Lines.{no_content}

size_not : (name body : List ℕ) → ((n : ℕ) → IsNumber n → body ≢ decimal n) → (content : Content) → IsOf (Line.of_sort name) content → body ≢ body_of content
size_not name body not Content.nothing is = absurd is
size_not name body not (Content.a_size n) is = not n is
size_not name body not (Content.a_table table) is = absurd is

-- the body of a sort's line is no number
pub no_size : (sizes : List ℕ) (at : ℕ) (name text body below bytes : List ℕ) → text ≡ name → IsLine (line_start (codes "size") text) body below bytes
    → ((n : ℕ) → IsNumber n → body ≢ decimal n) → IsFault sizes at (Line.of_sort name) bytes (Syntax at)
no_size sizes at name text body below bytes same is not =
    let P : List ℕ → Type 0 = λ x. IsLine (line_start (codes "size") x) body below bytes in
    no_content sizes at (Line.of_sort name) body below bytes (subst P same is) (size_not name body not)

-- the body of a sort's line is 0
pub zero_size : (sizes : List ℕ) (at n : ℕ) (name text body below bytes : List ℕ) → text ≡ name → IsLine (line_start (codes "size") text) body below bytes
    → body ≡ decimal n → n ≡ 0 → IsFault sizes at (Line.of_sort name) bytes (SizeZero at)
zero_size sizes at n name text body below bytes same is writes none =
    IsFault.wrong (Content.a_size 0) below
    (record {
      form = omega arith;
      text = is.text ∙ ap (λ x. line_above (line_start (codes "size") x) body below) same ∙ ap (λ x. line_above (line_start (codes "size") name) x below) (writes ∙ ap decimal none);
    }) refl

table_not : (symbol : Symbol) (body : List ℕ) → ((table : Table) → IsTableOf symbol.kind table → body ≢ table_text table) → (content : Content)
    → IsOf (Line.of_symbol symbol) content → body ≢ body_of content
table_not symbol body not Content.nothing is = absurd is
table_not symbol body not (Content.a_size n) is = absurd is
table_not symbol body not (Content.a_table table) is = not table is

-- the body of a symbol's line is no table
pub no_table : (sizes : List ℕ) (at : ℕ) (symbol : Symbol) (word text body below bytes : List ℕ) → word ≡ kind_word symbol.kind → text ≡ symbol.name
    → IsLine (line_start word text) body below bytes → ((table : Table) → IsTableOf symbol.kind table → body ≢ table_text table)
    → IsFault sizes at (Line.of_symbol symbol) bytes (Syntax at)
no_table sizes at symbol word text body below bytes first second is not =
    let P : List ℕ → List ℕ → Type 0 = λ x y. IsLine (line_start x y) body below bytes in
    let here : P (kind_word symbol.kind) symbol.name = subst (λ (y : List ℕ). P (kind_word symbol.kind) y) second (subst (λ (x : List ℕ). P x text) first is) in
    no_content sizes at (Line.of_symbol symbol) body below bytes here (table_not symbol body not)

start_length : (word name : List ℕ) → length (line_start word name) ≡ length word + length name + 2
start_length word name =
    omega (arith, length-append (word ++ 32 ∷ []) (name ++ 32 ∷ []), length-append word (32 ∷ []), length-append name (32 ∷ []))

-- the table of a symbol's line is wrong
pub wrong_table : (sizes : List ℕ) (at place : ℕ) (symbol : Symbol) (table : Table) (e : StructureError) (word text body below bytes : List ℕ)
    → word ≡ kind_word symbol.kind → text ≡ symbol.name → IsLine (line_start word text) body below bytes → IsTableOf symbol.kind table × (body ≡ table_text table)
    → place ≡ at + (length word + length text + 2) → Some e ≡ table_fault sizes symbol place table → IsFault sizes at (Line.of_symbol symbol) bytes e
wrong_table sizes at place symbol table e word text body below bytes first second is has there found =
    let same : line_start word text ≡ line_start (kind_word symbol.kind) symbol.name = ap (λ x. line_start x text) first ∙ ap (λ y. line_start (kind_word symbol.kind) y) second in
    let here : place ≡ at + length (line_start (kind_word symbol.kind) symbol.name) = omega (arith, start_length word text, ap length same) in
    IsFault.wrong (Content.a_table table) below
    (record { form = has.0; text = is.text ∙ ap (λ x. line_above x body below) same ∙ ap (λ x. line_above (line_start (kind_word symbol.kind) symbol.name) x below) has.1 })
    (ap (λ p. table_fault sizes symbol p table) (sym here) ∙ sym found)
