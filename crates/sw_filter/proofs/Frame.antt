-- Values of parameters, and pairs of structures that fit.
use Rattle.std.specs.Prelude.{◌≡◌, ℕ, zero, suc, ◌==◌, ◌&&◌, nat_lt, true, List, [], ◌∷◌, length, drop}
use Rattle.std.specs.List.{list_all}
use Rattle.std.proofs.Common.{refl, sym, arith, ◌∙◌}
use Rattle.std.proofs.lemmas.Bool.{false≢true, and_parts}
use Rattle.sw_logic.specs.declared.syntax.Binder.{Binder}
use Rattle.sw_logic.specs.declared.syntax.Symbol.{Symbol}
use Rattle.sw_logic.specs.declared.syntax.Signature.{Signature}
use Rattle.sw_logic.specs.declared.structure.Table.{Table}
use Rattle.sw_logic.specs.declared.structure.Structure.{Structure}
use Rattle.sw_logic.specs.declared.structure.Pair.{Pair}
use Rattle.sw_logic.specs.Truth.{AreValues}
use Rattle.sw_logic.specs.Fits.{fits, table_fits, tables_fit, FitsPair}

-- there are as many values as binders
pub values_count : (sizes : List ℕ) (binders : List Binder) (values : List ℕ) → AreValues sizes binders values → length values ≡ length binders
values_count sizes [] [] a = refl
values_count sizes [] (v ∷ vs) a = absurd a
values_count sizes (b ∷ bs) [] a = absurd a
values_count sizes (b ∷ bs) (v ∷ vs) a = omega (arith, values_count sizes bs vs a.1)

-- behind the last, there is nothing left to ask
pub values_end : (sizes : List ℕ) (binders : List Binder) (values : List ℕ) (i : ℕ) → i ≡ length binders → i ≡ length values → AreValues sizes (drop i binders) (drop i values)
values_end sizes [] [] zero e f = tt
values_end sizes [] [] (suc i) e f = absurd (omega arith)
values_end sizes [] (v ∷ vs) i e f = absurd (omega arith)
values_end sizes (b ∷ bs) [] i e f = absurd (omega arith)
values_end sizes (b ∷ bs) (v ∷ vs) zero e f = absurd (omega arith)
values_end sizes (b ∷ bs) (v ∷ vs) (suc i) e f = values_end sizes bs vs i (omega arith) (omega arith)

tables_count : (sizes : List ℕ) (symbols : List Symbol) (tables : List Table) → tables_fit sizes symbols tables ≡ true → length tables ≡ length symbols
tables_count sizes [] [] e = refl
tables_count sizes [] (t ∷ ts) e = absurd (false≢true e)
tables_count sizes (s ∷ ss) [] e = absurd (false≢true e)
tables_count sizes (s ∷ ss) (t ∷ ts) e =
    omega (arith, tables_count sizes ss ts (and_parts (table_fits sizes s.args s.gives s.kind t) (tables_fit sizes ss ts) e).1)

tables_of : (sig : Signature) (s : Structure) → fits sig s ≡ true → length s.tables ≡ length sig.symbols
tables_of sig s e =
    let first = and_parts (length s.sizes == length sig.sorts) (list_all (λ n. nat_lt 0 n) s.sizes && tables_fit s.sizes sig.symbols s.tables) e in
    tables_count s.sizes sig.symbols s.tables (and_parts (list_all (λ n. nat_lt 0 n) s.sizes) (tables_fit s.sizes sig.symbols s.tables) first.1).1

-- the two structures of a pair have as many tables
pub same_count : (sig : Signature) (pair : Pair) → FitsPair sig pair → length pair.before.tables ≡ length pair.after.tables
same_count sig pair f = tables_of sig pair.before f.before ∙ sym (tables_of sig pair.after f.after)
