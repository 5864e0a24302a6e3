-- The formulas of a step, with the symbols of its query in the place of their own.
use Rattle.std.specs.Prelude.{ℕ, ◌+◌, ◌-◌, ◌==◌, nat_lt, Bool, true, false, List, [], ◌∷◌, length, map, if◌then◌else◌}
use Rattle.sw_logic.specs.declared.syntax.Term.{Term}
use Rattle.sw_logic.specs.declared.syntax.Term.TheOpen.{Term-F}
use Rattle.sw_logic.specs.declared.syntax.Term.TheViews.{roll-Term}
use Rattle.sw_logic.specs.declared.syntax.Term.TheFolds.{fold-Term}
use Rattle.sw_logic.specs.declared.syntax.Term.TheVariants.{Variable, Apply}
use Rattle.sw_logic.specs.declared.syntax.Formula.{Formula}
use Rattle.sw_logic.specs.declared.syntax.Formula.TheOpen.{Formula-F}
use Rattle.sw_logic.specs.declared.syntax.Formula.TheViews.{roll-Formula}
use Rattle.sw_logic.specs.declared.syntax.Formula.TheFolds.{fold-Formula}
use Rattle.sw_logic.specs.declared.syntax.Formula.TheVariants.{Holds, Equal}
use Rattle.sw_meaning.specs.declared.protocol.Protocol.{Protocol}
use Rattle.sw_meaning.specs.declared.protocol.Transition.{Transition}
use Rattle.sw_renaming.specs.declared.renaming.Moment.{Moment}
use Rattle.sw_renaming.specs.declared.renaming.Moment.TheVariants.{Before, Across, After}

-- the copy of a symbol, where copies of these symbols begin at a number; one that is not copied stands for itself
abbrev pub copy_in : List ℕ → ℕ → ℕ → ℕ → ℕ
copy_in [] at symbol itself = itself
copy_in (m ∷ ms) at symbol itself = if m == symbol then at else copy_in ms (at + 1) symbol itself

module _ (p : Protocol) (t : Transition) where
  -- how many symbols the query has beside the protocol's
  abbrev pub added : ℕ
  added = length t.modifies + length t.params

  -- a symbol is itself, and a number that is none stays none
  abbrev pub itself : ℕ → ℕ
  itself symbol = if nat_lt symbol (length p.signature.symbols) then symbol else symbol + added

  -- what stands for a symbol after the step
  abbrev pub copy_of : ℕ → ℕ
  copy_of symbol = copy_in t.modifies (length p.signature.symbols) symbol (itself symbol)

  -- the constant of a parameter
  abbrev pub constant_of : ℕ → ℕ
  constant_of parameter = length p.signature.symbols + length t.modifies + parameter

  -- what stands for a symbol, plain or primed
  abbrev pub symbol_at : Moment → ℕ → Bool → ℕ
  symbol_at Before symbol post = itself symbol
  symbol_at After symbol post = copy_of symbol
  symbol_at Across symbol true = copy_of symbol
  symbol_at Across symbol false = itself symbol

  -- what stands for a variable: across the step the outermost ones are parameters
  abbrev pub variable_at : Moment → ℕ → Term
  variable_at Before v = Variable v
  variable_at After v = Variable v
  variable_at Across v = if nat_lt v (length t.params) then Apply (constant_of v) false [] else Variable (v - length t.params)

  abbrev pub term_step : Moment → Term-F Term → Term
  term_step m (Term-F.Variable v) = variable_at m v
  term_step m (Term-F.Apply symbol post args) = Apply (symbol_at m symbol post) false args

  abbrev pub renamed_term : Moment → Term → Term
  renamed_term m = fold-Term Term (term_step m)

  abbrev pub formula_step : Moment → Formula-F Formula → Formula
  formula_step m (Formula-F.Holds symbol post args) = Holds (symbol_at m symbol post) false (map (renamed_term m) args)
  formula_step m (Formula-F.Equal a b) = Equal (renamed_term m a) (renamed_term m b)
  formula_step m x = roll-Formula x

  -- the formula as the query reads it, where it is read at this moment
  abbrev pub renamed : Moment → Formula → Formula
  renamed m = fold-Formula Formula (formula_step m)
