-- Counts that are made before what they count.
use Rattle.std.specs.Prelude.{ℕ, zero, suc, ◌+◌, ◌^◌, ◌==◌, min, if◌then◌else◌, List, length, map, unwrap_or, slice_get, slice_index_or}
use Rattle.std.specs.List.{flat_map, range_with_len}
use Rattle.sw_logic.specs.declared.syntax.Symbol.{Symbol}
use Rattle.sw_logic.specs.declared.syntax.Signature.{Signature}
use Rattle.sw_meaning.specs.declared.template.Template.{Template}
use Rattle.sw_meaning.specs.Classes.{choices, symbols_of, is_relation, is_function, giving, terms_of}
use Rattle.sw_cover.specs.Counting.{product, total, binomial}

-- a count as it is told, at most 2^64
abbrev pub capped : ℕ → ℕ
capped n = min n (2 ^ 64)

-- the most literals of a cube
abbrev pub most_in : Template → ℕ
most_in t = if t.depth == 1 then 1 else t.literals

-- the lists of 1, 2 and up to so many of the literals
abbrev pub cubes_up_to : ℕ → ℕ → List (List ℕ)
cubes_up_to literals most = flat_map (λ n. choices n (range_with_len 0 literals)) (range_with_len 1 most)

-- how many they are
abbrev pub cubes_count : ℕ → ℕ → ℕ
cubes_count literals most = total (binomial literals) (range_with_len 1 most)

-- the number of choices of n with one more element, from those without it
abbrev pub row_after : List ℕ → ℕ → ℕ
row_after counts zero = slice_index_or counts 0 0
row_after counts (suc n) = capped (slice_index_or counts n 0 + slice_index_or counts (suc n) 0)

-- the count that a table has for a sort
abbrev pub count_at : List ℕ → ℕ → ℕ
count_at counts sort = unwrap_or (slice_get counts sort) 0

-- the tuples of arguments of a symbol
abbrev pub arguments_at : List ℕ → Symbol → ℕ
arguments_at counts s = product (map (count_at counts) s.args)

-- the terms of a sort up to a depth more
abbrev pub next_count : Signature → List ℕ → List ℕ → ℕ → ℕ
next_count sig first counts sort = count_at first sort + total (λ s. arguments_at counts s.1) (giving sort (symbols_of sig is_function))

-- the atoms, where so many terms are of each sort
abbrev pub atoms_at : Signature → List ℕ → ℕ
atoms_at sig counts = total (λ s. arguments_at counts s.1) (symbols_of sig is_relation) + total (λ sort. binomial (count_at counts sort) 2) (range_with_len 0 (length sig.sorts))

-- how many terms of each sort there are up to a depth, as it is told
abbrev pub counts_told : Signature → List ℕ → ℕ → List ℕ
counts_told sig scope d = map (λ sort. capped (length (terms_of sig scope d sort))) (range_with_len 0 (length sig.sorts))
