-- What is written and the lines that are left are all lines.
use Rattle.std.proofs.Common.{◌≡◌, ◌++◌, length, drop}
use Rattle.std.specs.Prelude.{string_bytes}
use Rattle.sw_models.specs.Text.{sizes_text}
use Rattle.sw_models.proofs.printing.push_sizes.Given as goal

abbrev pub invariant-loop-sort : goal.invariant-loop-sort
invariant-loop-sort l =
    string_bytes l.text ++ sizes_text (drop (length l.yielded) l.sorts) (drop (length l.yielded) l.sizes)
    ≡ string_bytes l.fn.text ++ sizes_text l.sorts l.sizes
