-- Reading goes on below a line that is in order.
use Rattle.std.proofs.Common.{◌≡◌, ℕ, suc, ◌+◌, ◌-◌, ◌<◌, ◌≤◌, List, [], ◌∷◌, ◌++◌, length, map, drop, get_or, Result, Err, refl, arith, ◌∙◌, ap, sym, subst, add-one, drop-cons, append-nil}
use Rattle.std.proofs.lemmas.List.{length-append}
use Rattle.sw_logic.specs.declared.syntax.Symbol.{Symbol}
use Rattle.sw_logic.specs.declared.structure.Table.{Table}
use Rattle.sw_logic.specs.declared.structure.Structure.{Structure}
use Rattle.sw_models.specs.declared.errors.StructureError.{StructureError}
use Rattle.sw_models.specs.Text.{line_above}
use Rattle.sw_models.specs.Reading.{Line, Content, IsFault, Has, start_of, body_of, place_below, sizes_in, tables_in}
use Rattle.sw_models.specs.Steps.{InOrder}

below_at : (end : ℕ) (line : Line) (content : Content) (below rest : List ℕ) → length rest ≤ end → rest ≡ line_above (start_of line) (body_of content) below
    → (length below ≤ end) × (place_below (end - length rest) line content ≡ end - length below)
below_at end line content below rest within e =
    let all : length rest ≡ length (start_of line) + (length (body_of content) + suc (length below)) =
    ap length e ∙ length-append (start_of line) (body_of content ++ 10 ∷ below) ∙ ap (λ n. length (start_of line) + n) (length-append (body_of content) (10 ∷ below)) in
    (omega arith, omega arith)

pub step : (r : Result Structure StructureError) (end : ℕ) (line : Line) (lines : List Line) (sizes : List ℕ) (tables : List Table) (content : Content) (below rest : List ℕ)
    → length rest ≤ end → InOrder sizes (end - length rest) line content below rest
    → Has r lines (sizes ++ sizes_in content) (tables ++ tables_in content) (end - length below) below
    → Has r (line ∷ lines) sizes tables (end - length rest) rest
step r end line lines sizes tables content below rest within order has =
    let at = below_at end line content below rest within order.begins.text in
    let P : ℕ → Type 0 = λ n. Has r lines (sizes ++ sizes_in content) (tables ++ tables_in content) n below in
    Has.next content below order.begins order.right (subst P (sym at.1) has)

first_is : {A : Type 0} (f : A → Line) (xs : List A) (i : ℕ) (x : A) → i < length xs → x ≡ get_or xs i x → map f (drop i xs) ≡ f x ∷ map f (drop (i + 1) xs)
first_is f xs i x h e =
    ap (map f) (drop-cons xs i x h) ∙ ap (λ y. f y ∷ map f (drop (suc i) xs)) (sym e) ∙ ap (λ n. f x ∷ map f (drop n xs)) (sym (add-one i))

-- up to here the sizes are these
pub record SizesSoFar (end : ℕ) (sorts : List (List ℕ)) (i : ℕ) (sizes rest bytes : List ℕ) : Type 0 where
  pub within : length rest ≤ end
  pub goes_on : (r : Result Structure StructureError) (lines : List Line)
      → Has r (map Line.of_sort (drop i sorts) ++ lines) sizes [] (end - length rest) rest → Has r (map Line.of_sort sorts ++ lines) [] [] (end - length bytes) bytes

pub more_sizes : (end : ℕ) (sorts : List (List ℕ)) (i : ℕ) (sizes next rest bytes below sort : List ℕ) (n : ℕ) → SizesSoFar end sorts i sizes rest bytes
    → i < length sorts → sort ≡ get_or sorts i sort → next ≡ sizes ++ n ∷ []
    → InOrder sizes (end - length rest) (Line.of_sort sort) (Content.a_size n) below rest → SizesSoFar end sorts (i + 1) next below bytes
more_sizes end sorts i sizes next rest bytes below sort n so_far h e more order = record {
  within = (below_at end (Line.of_sort sort) (Content.a_size n) below rest so_far.within order.begins.text).0;
  goes_on = λ r lines has.
      let P : List ℕ → Type 0 = λ s. Has r (map Line.of_sort (drop (i + 1) sorts) ++ lines) s [] (end - length below) below in
      let Q : List Line → Type 0 = λ l. Has r (l ++ lines) sizes [] (end - length rest) rest in
      so_far.goes_on r lines (subst Q (sym (first_is Line.of_sort sorts i sort h e))
      (step r end (Line.of_sort sort) (map Line.of_sort (drop (i + 1) sorts) ++ lines) sizes [] (Content.a_size n) below rest so_far.within order (subst P more has)));
}

pub fail_size : (end : ℕ) (sorts : List (List ℕ)) (i : ℕ) (sizes rest bytes sort : List ℕ) (e : StructureError) → SizesSoFar end sorts i sizes rest bytes
    → i < length sorts → sort ≡ get_or sorts i sort → IsFault sizes (end - length rest) (Line.of_sort sort) rest e
    → (lines : List Line) → Has (Err e) (map Line.of_sort sorts ++ lines) [] [] (end - length bytes) bytes
fail_size end sorts i sizes rest bytes sort e so_far h same faulty lines =
    let Q : List Line → Type 0 = λ l. Has (Err e) (l ++ lines) sizes [] (end - length rest) rest in
    so_far.goes_on (Err e) lines (subst Q (sym (first_is Line.of_sort sorts i sort h same)) (Has.fault e faulty refl))

-- up to here the tables are these
pub record TablesSoFar (end : ℕ) (symbols : List Symbol) (i : ℕ) (sizes : List ℕ) (tables : List Table) (rest bytes : List ℕ) : Type 0 where
  pub within : length rest ≤ end
  pub goes_on : (r : Result Structure StructureError) (lines : List Line)
      → Has r (map Line.of_symbol (drop i symbols) ++ lines) sizes tables (end - length rest) rest
      → Has r (map Line.of_symbol symbols ++ lines) sizes [] (end - length bytes) bytes

pub more_tables : (end : ℕ) (symbols : List Symbol) (i : ℕ) (sizes : List ℕ) (tables next : List Table) (rest bytes below : List ℕ) (symbol : Symbol) (table : Table)
    → TablesSoFar end symbols i sizes tables rest bytes → i < length symbols → symbol ≡ get_or symbols i symbol → next ≡ tables ++ table ∷ []
    → InOrder sizes (end - length rest) (Line.of_symbol symbol) (Content.a_table table) below rest → TablesSoFar end symbols (i + 1) sizes next below bytes
more_tables end symbols i sizes tables next rest bytes below symbol table so_far h e more order = record {
  within = (below_at end (Line.of_symbol symbol) (Content.a_table table) below rest so_far.within order.begins.text).0;
  goes_on = λ r lines has.
      let P : List Table → Type 0 = λ t. Has r (map Line.of_symbol (drop (i + 1) symbols) ++ lines) (sizes ++ []) t (end - length below) below in
      let R : List ℕ → Type 0 = λ s. Has r (map Line.of_symbol (drop (i + 1) symbols) ++ lines) s next (end - length below) below in
      let Q : List Line → Type 0 = λ l. Has r (l ++ lines) sizes tables (end - length rest) rest in
      so_far.goes_on r lines (subst Q (sym (first_is Line.of_symbol symbols i symbol h e))
      (step r end (Line.of_symbol symbol) (map Line.of_symbol (drop (i + 1) symbols) ++ lines) sizes tables (Content.a_table table) below rest so_far.within order
      (subst P more (subst R (sym (append-nil sizes)) has))));
}

pub fail_table : (end : ℕ) (symbols : List Symbol) (i : ℕ) (sizes : List ℕ) (tables : List Table) (rest bytes : List ℕ) (symbol : Symbol) (e : StructureError)
    → TablesSoFar end symbols i sizes tables rest bytes → i < length symbols → symbol ≡ get_or symbols i symbol
    → IsFault sizes (end - length rest) (Line.of_symbol symbol) rest e
    → (lines : List Line) → Has (Err e) (map Line.of_symbol symbols ++ lines) sizes [] (end - length bytes) bytes
fail_table end symbols i sizes tables rest bytes symbol e so_far h same faulty lines =
    let Q : List Line → Type 0 = λ l. Has (Err e) (l ++ lines) sizes tables (end - length rest) rest in
    so_far.goes_on (Err e) lines (subst Q (sym (first_is Line.of_symbol symbols i symbol h same)) (Has.fault e faulty refl))
