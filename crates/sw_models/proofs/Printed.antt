-- Lines that are written one after another.
use Rattle.std.proofs.Common.{◌≡◌, ℕ, zero, suc, List, [], ◌∷◌, ◌++◌, length, min, drop, refl, arith, append-nil, ◌∙◌, ap, sym}
use Rattle.sw_logic.specs.declared.syntax.Symbol.{Symbol}
use Rattle.sw_logic.specs.declared.structure.Table.{Table}
use Rattle.sw_models.specs.Text.{sizes_text, tables_text}

sizes_text-past : (names : List (List ℕ)) (sizes : List ℕ) (k : ℕ) → k ≡ min (length names) (length sizes) → sizes_text (drop k names) (drop k sizes) ≡ []
sizes_text-past [] sizes zero e = refl
sizes_text-past [] sizes (suc k) e = absurd (omega arith)
sizes_text-past (name ∷ names) [] zero e = refl
sizes_text-past (name ∷ names) [] (suc k) e = absurd (omega arith)
sizes_text-past (name ∷ names) (size ∷ sizes) zero e = absurd (omega arith)
sizes_text-past (name ∷ names) (size ∷ sizes) (suc k) e = sizes_text-past names sizes k (omega arith)

tables_text-past : (symbols : List Symbol) (tables : List Table) (k : ℕ) → k ≡ min (length symbols) (length tables) → tables_text (drop k symbols) (drop k tables) ≡ []
tables_text-past [] tables zero e = refl
tables_text-past [] tables (suc k) e = absurd (omega arith)
tables_text-past (symbol ∷ symbols) [] zero e = refl
tables_text-past (symbol ∷ symbols) [] (suc k) e = absurd (omega arith)
tables_text-past (symbol ∷ symbols) (table ∷ tables) zero e = absurd (omega arith)
tables_text-past (symbol ∷ symbols) (table ∷ tables) (suc k) e = tables_text-past symbols tables k (omega arith)

-- all sizes are written
pub sizes_written : (text all : List ℕ) (names : List (List ℕ)) (sizes : List ℕ) (k : ℕ) → k ≡ min (length names) (length sizes)
    → text ++ sizes_text (drop k names) (drop k sizes) ≡ all → text ≡ all
sizes_written text all names sizes k e h =
    sym (append-nil text) ∙ ap (λ x. text ++ x) (sym (sizes_text-past names sizes k e)) ∙ h

-- all tables are written
pub tables_written : (text all : List ℕ) (symbols : List Symbol) (tables : List Table) (k : ℕ) → k ≡ min (length symbols) (length tables)
    → text ++ tables_text (drop k symbols) (drop k tables) ≡ all → text ≡ all
tables_written text all symbols tables k e h =
    sym (append-nil text) ∙ ap (λ x. text ++ x) (sym (tables_text-past symbols tables k e)) ∙ h
