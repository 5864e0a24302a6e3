-- What is written and the lines that are left are all lines.
use Rattle.std.proofs.Common.{◌≡◌, ◌++◌, length, drop}
use Rattle.std.specs.Prelude.{string_bytes}
use Rattle.sw_models.specs.Text.{tables_text}
use Rattle.sw_models.proofs.printing.push_tables.Given as goal

abbrev pub invariant-loop-symbol : goal.invariant-loop-symbol
invariant-loop-symbol l =
    string_bytes l.text ++ tables_text (drop (length l.yielded) l.symbols) (drop (length l.yielded) l.tables)
    ≡ string_bytes l.fn.text ++ tables_text l.symbols l.tables
