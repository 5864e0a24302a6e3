-- What the parts of the reading say of the whole text.
use Rattle.std.proofs.Common.{◌≡◌, ◌≢◌, ℕ, ◌-◌, List, [], ◌∷◌, ◌++◌, length, map, Result, Ok, Err, refl, arith, ap, sym, subst, append-nil}
use Rattle.std.specs.Prelude.{codes, MatchResult, IfSome, IsErrAnd}
use Rattle.sw_logic.specs.declared.syntax.Symbol.{Symbol}
use Rattle.sw_logic.specs.declared.syntax.Signature.{Signature}
use Rattle.sw_logic.specs.declared.structure.Table.{Table}
use Rattle.sw_logic.specs.declared.structure.Structure.{Structure}
use Rattle.sw_models.specs.declared.errors.StructureError.{StructureError}
use Rattle.sw_models.specs.declared.errors.StructureError.TheVariants.{Syntax, SizeZero, TableLength, ValueRange, Memory}
use Rattle.sw_models.specs.Reading.{Line, Content, Begins, IsFault, Has, HasText, answer_of}
use Rattle.sw_models.specs.Steps.{InOrder, SizesRead, TablesRead, FailsAt}
use Rattle.sw_models.proofs.Onward.{step}

-- an error that is handed on
pub handed_on : {U : Type 0} (r : Result U StructureError) (Q : U → Type 0) (P : StructureError → Type 0) (e : StructureError) → IsErrAnd r (λ x. x ≡ e) → P e
    → MatchResult r Q P
handed_on (Ok x) Q P e h p = absurd h
handed_on (Err x) Q P e h p = subst P (sym h) p

told : (P : Result Structure StructureError → Type 0) (e : StructureError) → (e ≢ Memory → P (Err e)) → IfSome (answer_of (Err e)) P
told P (Syntax at) h = h (λ e. cc)
told P (SizeZero at) h = h (λ e. cc)
told P (TableLength at) h = h (λ e. cc)
told P (ValueRange at) h = h (λ e. cc)
told P Memory h = tt

pub told_on : (r : Result Structure StructureError) (P : Result Structure StructureError → Type 0) (e : StructureError) → IsErrAnd r (λ x. x ≡ e)
    → (e ≢ Memory → P (Err e)) → IfSome (answer_of r) P
told_on (Ok x) P e h p = absurd h
told_on (Err x) P e h p = let Q : StructureError → Type 0 = λ y. IfSome (answer_of (Err y)) P in subst Q (sym h) (told P e p)

abbrev head_line : List ℕ
head_line = codes "structure\n"

-- below the first line
all_lines : (sig : Signature) (end : ℕ) (text body : List ℕ) (r : Result Structure StructureError) → length text ≡ end → text ≡ head_line ++ body
    → Has r (map Line.of_sort sig.sorts ++ map Line.of_symbol sig.symbols) [] [] (end - length body) body → HasText sig text r
all_lines sig end text body r whole e has =
    let P : ℕ → Type 0 = λ n. Has r (Line.first ∷ (map Line.of_sort sig.sorts ++ map Line.of_symbol sig.symbols)) [] [] n text in
    let at : end - length text ≡ 0 = omega arith in
    let order : InOrder [] (end - length text) Line.first Content.nothing body text = record { begins = record { form = tt; text = e }; right = refl } in
    subst P at (step r end Line.first (map Line.of_sort sig.sorts ++ map Line.of_symbol sig.symbols) [] [] Content.nothing body text (omega arith) order has)

-- without the first line
pub no_head : (sig : Signature) (text : List ℕ) → ((body : List ℕ) → text ≢ head_line ++ body) → HasText sig text (Err (Syntax 0))
no_head sig text none = Has.fault (Syntax 0) (IsFault.missing not refl) refl
  where
    not : (content : Content) (below : List ℕ) → Begins Line.first content below text → ⊥
    not Content.nothing below b = none below b.text
    not (Content.a_size n) below b = absurd b.form
    not (Content.a_table table) below b = absurd b.form

pub sizes_failed : (sig : Signature) (end : ℕ) (text body : List ℕ) (sorts : List (List ℕ)) (e : StructureError) → length text ≡ end → text ≡ head_line ++ body → sorts ≡ sig.sorts
    → FailsAt (map Line.of_sort sorts) [] end body e → e ≢ Memory → HasText sig text (Err e)
sizes_failed sig end text body sorts e whole head same fails apart =
    let P : List (List ℕ) → Type 0 = λ s. Has (Err e) (map Line.of_sort s ++ map Line.of_symbol sig.symbols) [] [] (end - length body) body in
    all_lines sig end text body (Err e) whole head (subst P same (fails apart (map Line.of_symbol sig.symbols)))

after_sizes : (sig : Signature) (end : ℕ) (text body : List ℕ) (sorts : List (List ℕ)) (sizes rest : List ℕ) (r : Result Structure StructureError)
    → length text ≡ end → text ≡ head_line ++ body → sorts ≡ sig.sorts → SizesRead end sorts sizes rest body
    → Has r (map Line.of_symbol sig.symbols) sizes [] (end - length rest) rest → HasText sig text r
after_sizes sig end text body sorts sizes rest r whole head same read has =
    let P : List (List ℕ) → Type 0 = λ s. Has r (map Line.of_sort s ++ map Line.of_symbol sig.symbols) [] [] (end - length body) body in
    all_lines sig end text body r whole head (subst P same (read.goes_on r (map Line.of_symbol sig.symbols) has))

pub tables_failed : (sig : Signature) (end : ℕ) (text body : List ℕ) (sorts : List (List ℕ)) (sizes given rest : List ℕ) (symbols : List Symbol) (e : StructureError)
    → length text ≡ end → text ≡ head_line ++ body → sorts ≡ sig.sorts → SizesRead end sorts sizes rest body → given ≡ sizes → symbols ≡ sig.symbols
    → FailsAt (map Line.of_symbol symbols) given end rest e → e ≢ Memory → HasText sig text (Err e)
tables_failed sig end text body sorts sizes given rest symbols e whole head same read sizes_same symbols_same fails apart =
    let P : List Symbol → Type 0 = λ s. Has (Err e) (map Line.of_symbol s) sizes [] (end - length rest) rest in
    let Q : List ℕ → Type 0 = λ s. Has (Err e) (map Line.of_symbol symbols) s [] (end - length rest) rest in
    let R : List Line → Type 0 = λ l. Has (Err e) l given [] (end - length rest) rest in
    after_sizes sig end text body sorts sizes rest (Err e) whole head same read (subst P symbols_same (subst Q sizes_same (subst R (append-nil (map Line.of_symbol symbols)) (fails apart []))))

after_tables : (sig : Signature) (end : ℕ) (text body : List ℕ) (sorts : List (List ℕ)) (sizes given rest : List ℕ) (symbols : List Symbol) (tables : List Table) (left : List ℕ)
    (r : Result Structure StructureError)
    → length text ≡ end → text ≡ head_line ++ body → sorts ≡ sig.sorts → SizesRead end sorts sizes rest body → given ≡ sizes → symbols ≡ sig.symbols
    → TablesRead end symbols given tables left rest → Has r [] given tables (end - length left) left → HasText sig text r
after_tables sig end text body sorts sizes given rest symbols tables left r whole head same read sizes_same symbols_same tables_read has =
    let P : List Symbol → Type 0 = λ s. Has r (map Line.of_symbol s) sizes [] (end - length rest) rest in
    let Q : List ℕ → Type 0 = λ s. Has r (map Line.of_symbol symbols) s [] (end - length rest) rest in
    let R : List Line → Type 0 = λ l. Has r l given [] (end - length rest) rest in
    after_sizes sig end text body sorts sizes rest r whole head same read
    (subst P symbols_same (subst Q sizes_same (subst R (append-nil (map Line.of_symbol symbols)) (tables_read.goes_on r [] has))))

more_left : (sizes : List ℕ) (tables : List Table) (at : ℕ) (left : List ℕ) → left ≢ [] → Has (Err (Syntax at)) [] sizes tables at left
more_left sizes tables at [] some = absurd (some refl)
more_left sizes tables at (b ∷ left) some = Has.more refl

none_left : (sizes given : List ℕ) (tables : List Table) (at : ℕ) (left : List ℕ) → left ≡ [] → given ≡ sizes → Has (Ok (record { sizes = sizes; tables = tables })) [] given tables at left
none_left sizes given tables at left none same =
    let P : List ℕ → Type 0 = λ l. Has (Ok (record { sizes = sizes; tables = tables })) [] given tables at l in
    subst P (sym none) (Has.end (ap (λ s. Ok (record { sizes = s; tables = tables })) (sym same)))

-- something is left below the last line
pub too_long : (sig : Signature) (end : ℕ) (text body : List ℕ) (sorts : List (List ℕ)) (sizes given rest : List ℕ) (symbols : List Symbol) (tables : List Table) (left : List ℕ)
    → length text ≡ end → text ≡ head_line ++ body → sorts ≡ sig.sorts → SizesRead end sorts sizes rest body → given ≡ sizes → symbols ≡ sig.symbols
    → TablesRead end symbols given tables left rest → left ≢ [] → HasText sig text (Err (Syntax (end - length left)))
too_long sig end text body sorts sizes given rest symbols tables left whole head same read sizes_same symbols_same tables_read some =
    after_tables sig end text body sorts sizes given rest symbols tables left (Err (Syntax (end - length left))) whole head same read sizes_same symbols_same tables_read
    (more_left given tables (end - length left) left some)

-- nothing is left
pub all_read : (sig : Signature) (end : ℕ) (text body : List ℕ) (sorts : List (List ℕ)) (sizes given rest : List ℕ) (symbols : List Symbol) (tables : List Table) (left : List ℕ)
    → length text ≡ end → text ≡ head_line ++ body → sorts ≡ sig.sorts → SizesRead end sorts sizes rest body → given ≡ sizes → symbols ≡ sig.symbols
    → TablesRead end symbols given tables left rest → left ≡ [] → HasText sig text (Ok (record { sizes = sizes; tables = tables }))
all_read sig end text body sorts sizes given rest symbols tables left whole head same read sizes_same symbols_same tables_read none =
    after_tables sig end text body sorts sizes given rest symbols tables left (Ok (record { sizes = sizes; tables = tables })) whole head same read sizes_same symbols_same tables_read
    (none_left sizes given tables (end - length left) left none sizes_same)

pub none_from_length : (xs : List ℕ) → length xs ≡ 0 → xs ≡ []
none_from_length [] e = refl
none_from_length (x ∷ xs) e = absurd (omega arith)
