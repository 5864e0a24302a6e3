-- How deep a formula is: paths of <->, and the nestings of its canonical text.
use Rattle.std.specs.Prelude.{ℕ, ◌+◌, max, List, [], ◌∷◌, map}
use Rattle.sw_trees.specs.declared.tree.TermTree.{TermTree}
use Rattle.sw_trees.specs.declared.tree.TermTree.TheOpen.{TermTree-F}
use Rattle.sw_trees.specs.declared.tree.TermTree.TheFolds.{fold-TermTree}
use Rattle.sw_trees.specs.declared.tree.Tree.{Tree}
use Rattle.sw_trees.specs.declared.tree.Tree.TheOpen.{Tree-F}
use Rattle.sw_trees.specs.declared.tree.Tree.TheFolds.{fold-Tree}

-- the greatest of these numbers, 0 of none
abbrev pub greatest : List ℕ → ℕ
greatest [] = 0
greatest (n ∷ ns) = max n (greatest ns)

abbrev pub path_step : Tree-F ℕ → ℕ
path_step (Tree-F.Constant b) = 0
path_step (Tree-F.Atom t) = 0
path_step (Tree-F.Equal t u) = 0
path_step (Tree-F.Not p) = p
path_step (Tree-F.All ps) = greatest ps
path_step (Tree-F.Any ps) = greatest ps
path_step (Tree-F.Implies p q) = max p q
path_step (Tree-F.Iff p q) = max p q + 1
path_step (Tree-F.Quantified u bs p) = p

-- the most <-> of which each lies inside the one before
abbrev pub longest_path : Tree → ℕ
longest_path = fold-Tree ℕ path_step

-- how many nestings the canonical text of a formula opens at once: by itself, as an operand, and negated
pub record Nestings : Type 0 where
  pub alone : ℕ
  pub operand : ℕ
  pub negated : ℕ

-- a text that needs no brackets as an operand
abbrev pub bare : ℕ → Nestings
bare n = record { alone = n; operand = n; negated = n + 1 }

-- a text that stands in brackets as an operand
abbrev pub bracketed : ℕ → Nestings
bracketed n = record { alone = n; operand = n + 1; negated = n + 2 }

-- arguments stand in brackets
abbrev pub term_step : TermTree-F ℕ → ℕ
term_step (TermTree-F.Named name primed) = 0
term_step (TermTree-F.Applied name primed ns) = greatest ns + 1

abbrev pub term_nestings : TermTree → ℕ
term_nestings = fold-TermTree ℕ term_step

abbrev pub operands : List Nestings → ℕ
operands ps = greatest (map (λ p. p.operand) ps)

abbrev pub nestings_step : Tree-F Nestings → Nestings
nestings_step (Tree-F.Constant b) = bare 0
nestings_step (Tree-F.Atom t) = bare (term_nestings t)
nestings_step (Tree-F.Equal t u) =
    let n = max (term_nestings t) (term_nestings u) in record { alone = n; operand = n; negated = n }
nestings_step (Tree-F.Not p) = bare p.negated
nestings_step (Tree-F.All ps) = bracketed (operands ps)
nestings_step (Tree-F.Any ps) = bracketed (operands ps)
nestings_step (Tree-F.Implies p q) = bracketed (max p.operand (q.operand + 1))
nestings_step (Tree-F.Iff p q) = bracketed (max p.operand (q.operand + 1))
nestings_step (Tree-F.Quantified u bs p) = bracketed (p.alone + 1)

abbrev pub nestings_of : Tree → Nestings
nestings_of = fold-Tree Nestings nestings_step
