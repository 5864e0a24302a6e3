-- Ground terms by number.
use Rattle.std.specs.Prelude.{◌≡◌, ℕ, ◌<◌, true, List, Some, slice_get}
use Rattle.sw_logic.specs.declared.syntax.Symbol.{Symbol}
use Rattle.sw_logic.specs.declared.syntax.Signature.{Signature}
use Rattle.sw_logic.specs.declared.syntax.Term.{Term}
use Rattle.sw_logic.specs.Truth.{size_of}
use Rattle.sw_logic.specs.Sorted.{gives_value}
use Rattle.sw_truth.specs.Models.{AreOfSorts}
use Rattle.sw_universe.specs.declared.universe.Universe.{Universe}
use Rattle.sw_universe.specs.ByNumber as universes
use Rattle.sw_numbers.specs.declared.terms.Terms.{Terms}
use Rattle.sw_numbers.specs.Numbers as numbers

-- how many ground terms each sort has, and the number of each symbol's first application
pub record Numbering : Type 0 where
  pub counts : List ℕ
  pub firsts : List ℕ

-- that of a universe, in which the symbols' applications begin there
abbrev pub numbering : Universe → List ℕ → Numbering
numbering u firsts = record { counts = universes.counts u; firsts = firsts }

-- the number of a symbol's application to the terms of these numbers
abbrev pub number : Signature → Numbering → ℕ → List ℕ → ℕ
number sig n f ts = numbers.applied_number sig n.counts n.firsts f ts

-- the number of a term whose variables stand for the terms of these numbers
abbrev pub number_of : Signature → Numbering → List ℕ → Term → ℕ
number_of sig n ts t = numbers.number_of sig n.counts n.firsts ts t

-- each application of a constant or function to terms is a term
abbrev pub IsClosed : Signature → Numbering → Type 0
IsClosed sig n =
    (f : ℕ) (s : Symbol) (ts : List ℕ) → slice_get sig.symbols f ≡ Some s → gives_value s.kind ≡ true → AreOfSorts n.counts s.args ts
    → number sig n f ts < size_of n.counts s.gives

-- what `Terms` keeps
abbrev pub held : Terms → Numbering
held t = record { counts = t.counts; firsts = t.firsts }
