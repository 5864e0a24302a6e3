-- How many tuples there are, counted no further than a ceiling, and tables beside their symbols.
use Rattle.std.proofs.Common.{◌≡◌, ℕ, zero, suc, ◌+◌, ◌*◌, ◌<◌, ◌≤◌, ◌∙◌, List, [], ◌∷◌, length, min, drop, get_or, drop-cons, refl, arith, add-one}
use Rattle.std.specs.Prelude.{nat_eq}
use Rattle.std.proofs.Math.Nat.{mul_assoc}
use Rattle.std.proofs.lemmas.Option.{slice_get_past}
use Rattle.std.proofs.lemmas.Bool.Decides.{nat_tests}
use Rattle.sw_logic.specs.declared.structure.Table.{Table}
use Rattle.sw_logic.specs.declared.syntax.Symbol.{Symbol}
use Rattle.sw_logic.specs.Truth.{size_of}
use Rattle.sw_logic.specs.Fits.{tuple_count, tables_fit}
use Rattle.sw_logic.proofs.Places.{min-mul, drop-none}

count-min : (m a s t : ℕ) → min m (min m (a * s) * t) ≡ min m (a * (s * t))
count-min m a s t =
    let e : min m (min m (a * s) * t) ≡ min m (a * s * t) = omega (arith, min-mul m (a * s) t 0) in
    e ∙ rw mul_assoc refl

-- one more sort
pub count_more : (sizes sorts : List ℕ) (m i count next size : ℕ) → i < length sorts → size ≡ size_of sizes (get_or sorts i 0)
    → next ≡ min (count * size) m
    → min m (next * tuple_count sizes (drop (i + 1) sorts)) ≡ min m (count * tuple_count sizes (drop i sorts))
count_more sizes sorts m i count next size h e f =
    let s = size_of sizes (get_or sorts i 0) in
    let t = tuple_count sizes (drop (suc i) sorts) in
    let n : next ≡ min m (count * s) = rw (f, e) (omega arith) in
    rw (add-one, drop-cons sorts i 0 h, n) (count-min m count s t)

tables_fit-none : (sizes : List ℕ) (tables : List Table) (i : ℕ) → i ≤ length tables → nat_eq i (length tables) ≡ tables_fit sizes [] (drop i tables)
tables_fit-none sizes [] zero h = refl
tables_fit-none sizes [] (suc i) h = absurd (omega arith)
tables_fit-none sizes (x ∷ tables) zero h = grind (arith, nat_tests)
tables_fit-none sizes (x ∷ tables) (suc i) h = let rest = tables_fit-none sizes tables i (omega arith) in grind (arith, nat_tests)

-- no more symbols
pub tables_fit-end : (sizes : List ℕ) (symbols : List Symbol) (tables : List Table) (i : ℕ) → i ≡ length symbols → i ≤ length tables
    → nat_eq (length symbols) (length tables) ≡ tables_fit sizes (drop i symbols) (drop i tables)
tables_fit-end sizes symbols tables i e h =
    let none : drop i symbols ≡ [] = drop-none symbols i (slice_get_past symbols i (omega arith)) in
    rw (none, ← e) (tables_fit-none sizes tables i h)
