-- The tables of a signature's names.
use Rattle.std.specs.Prelude.{◌≡◌, map}
use Rattle.sw_logic.specs.declared.syntax.Symbol.{Symbol}
use Rattle.sw_logic.specs.declared.syntax.Signature.{Signature}
use Rattle.sw_text.specs.declared.tables.Tables.{Tables}

-- the names of the sorts and those of the symbols, in their order
abbrev pub AreOf : Tables → Signature → Type 0
AreOf t s = (t.sorts ≡ s.sorts) × (t.symbols ≡ map (λ (x : Symbol). x.name) s.symbols)
