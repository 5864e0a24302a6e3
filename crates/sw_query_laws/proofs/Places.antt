-- What stands at a place of a list, and tables that fit place by place.
use Rattle.std.specs.Prelude.{◌≡◌, ℕ, zero, suc, ◌+◌, ◌<◌, ◌==◌, Bool, true, false, List, [], ◌∷◌, length, map, Some, slice_get, slice_index_or, Contains, if◌then◌else◌}
use Rattle.std.specs.List.{range_with_len}
use Rattle.std.proofs.Common.{refl, arith, sym, ap, ◌∙◌, subst, add-zero}
use Rattle.std.proofs.lemmas.Bool.{false≢true, and_parts, and_from, eqb-true, eqb-false}
use Rattle.std.proofs.lemmas.Option.{none-some, same_Some}
use Rattle.sw_logic.specs.declared.syntax.Symbol.{Symbol}
use Rattle.sw_logic.specs.declared.structure.Table.{Table}
use Rattle.sw_logic.specs.Fits.{table_fits, tables_fit}
use Rattle.sw_renaming.specs.Renamed.{copy_in}

pub get_range : {X : Type 0} (f : ℕ → X) (from n i : ℕ) → i < n → slice_get (map f (range_with_len from n)) i ≡ Some (f (from + i))
get_range f from zero i h = absurd (omega arith)
get_range f from (suc n) zero h = ap (λ k. Some (f k)) (sym (add-zero from))
get_range f from (suc n) (suc i) h = let e : from + 1 + i ≡ from + suc i = omega arith in get_range f (from + 1) n i (omega arith) ∙ ap (λ k. Some (f k)) e

not_in : (m symbol : ℕ) (ms : List ℕ) → (m ≡ symbol → ⊥) → (Contains ms symbol → ⊥) → (k : ℕ) → k < length (m ∷ ms) → slice_index_or (m ∷ ms) k symbol ≡ symbol → ⊥
not_in m symbol ms f g zero h e = f e
not_in m symbol ms f g (suc k) h e = g (k, omega arith, e)

-- the copy of a symbol that is listed at some place, or the symbol itself where it is not listed
pub data Copied (ms : List ℕ) (at symbol itself : ℕ) : Type 0 where
  copied : (j : ℕ) → slice_get ms j ≡ Some symbol → copy_in ms at symbol itself ≡ at + j → Copied ms at symbol itself
  kept : (Contains ms symbol → ⊥) → copy_in ms at symbol itself ≡ itself → Copied ms at symbol itself

copy_at_first : (m : ℕ) (ms : List ℕ) (at symbol itself : ℕ) (b : Bool) → (m == symbol) ≡ b → copy_in (m ∷ ms) at symbol itself ≡ (if b then at else copy_in ms (at + 1) symbol itself)
copy_at_first m ms at symbol itself b e = ap (λ b. if b then at else copy_in ms (at + 1) symbol itself) e

copy_later : (m : ℕ) (ms : List ℕ) (at symbol itself : ℕ) → (m == symbol) ≡ false → Copied ms (at + 1) symbol itself → Copied (m ∷ ms) at symbol itself
copy_later m ms at symbol itself e (Copied.copied j g i) = let d : at + 1 + j ≡ at + suc j = omega arith in Copied.copied (suc j) g (copy_at_first m ms at symbol itself false e ∙ (i ∙ d))
copy_later m ms at symbol itself e (Copied.kept n i) = Copied.kept (λ c. not_in m symbol ms (eqb-false m symbol e) n c.0 c.1 c.2) (copy_at_first m ms at symbol itself false e ∙ i)

copy_by : (m : ℕ) (ms : List ℕ) (at symbol itself : ℕ) (b : Bool) → (m == symbol) ≡ b → Copied ms (at + 1) symbol itself → Copied (m ∷ ms) at symbol itself
copy_by m ms at symbol itself true e rest = Copied.copied 0 (ap Some (eqb-true m symbol e)) (copy_at_first m ms at symbol itself true e ∙ sym (add-zero at))
copy_by m ms at symbol itself false e rest = copy_later m ms at symbol itself e rest

pub copy_cases : (ms : List ℕ) (at symbol itself : ℕ) → Copied ms at symbol itself
copy_cases [] at symbol itself = Copied.kept (λ c. let h = c.1 in absurd (omega arith)) refl
copy_cases (m ∷ ms) at symbol itself = copy_by m ms at symbol itself (m == symbol) refl (copy_cases ms (at + 1) symbol itself)

-- one table for each symbol, each of its symbol
pub record FitsEach (sizes : List ℕ) (symbols : List Symbol) (tables : List Table) : Type 0 where
  pub count : length tables ≡ length symbols
  pub each : (i : ℕ) (s : Symbol) (x : Table) → slice_get symbols i ≡ Some s → slice_get tables i ≡ Some x → table_fits sizes s.args s.gives s.kind x ≡ true

each_first : (sizes : List ℕ) (symbol : Symbol) (symbols : List Symbol) (table : Table) (tables : List Table) → table_fits sizes symbol.args symbol.gives symbol.kind table ≡ true → FitsEach sizes symbols tables
    → (i : ℕ) (s : Symbol) (x : Table) → slice_get (symbol ∷ symbols) i ≡ Some s → slice_get (table ∷ tables) i ≡ Some x → table_fits sizes s.args s.gives s.kind x ≡ true
each_first sizes symbol symbols table tables h f zero s x a b =
    subst (λ (y : Table). table_fits sizes s.args s.gives s.kind y ≡ true) (same_Some table x b) (subst (λ (u : Symbol). table_fits sizes u.args u.gives u.kind table ≡ true) (same_Some symbol s a) h)
each_first sizes symbol symbols table tables h f (suc i) s x a b = f.each i s x a b

pub fits_each : (sizes : List ℕ) (symbols : List Symbol) (tables : List Table) → tables_fit sizes symbols tables ≡ true → FitsEach sizes symbols tables
fits_each sizes [] [] e = record { count = refl; each = λ i s x a b. absurd (none-some s a) }
fits_each sizes [] (table ∷ tables) e = absurd (false≢true e)
fits_each sizes (symbol ∷ symbols) [] e = absurd (false≢true e)
fits_each sizes (symbol ∷ symbols) (table ∷ tables) e =
    let both = and_parts (table_fits sizes symbol.args symbol.gives symbol.kind table) (tables_fit sizes symbols tables) e in
    let rest = fits_each sizes symbols tables both.1 in
    record { count = let h = rest.count in omega arith; each = each_first sizes symbol symbols table tables both.0 rest }

pub each_fits : (sizes : List ℕ) (symbols : List Symbol) (tables : List Table) → FitsEach sizes symbols tables → tables_fit sizes symbols tables ≡ true
each_fits sizes [] [] f = refl
each_fits sizes [] (table ∷ tables) f = let h = f.count in absurd (omega arith)
each_fits sizes (symbol ∷ symbols) [] f = let h = f.count in absurd (omega arith)
each_fits sizes (symbol ∷ symbols) (table ∷ tables) f =
    let h = f.count in
    and_from (table_fits sizes symbol.args symbol.gives symbol.kind table) (tables_fit sizes symbols tables) (f.each 0 symbol table refl refl)
    (each_fits sizes symbols tables (record { count = omega arith; each = λ i s x a b. f.each (suc i) s x a b }))
