-- The canonical text of a formula.
use Rattle.std.specs.Prelude.{ℕ, Bool, List, [], ◌∷◌, ◌++◌, map, Option, Some, None, unwrap_or, slice_get, if◌then◌else◌, codes}
use Rattle.std.specs.List.{flat_map}
use Rattle.sw_logic.specs.declared.syntax.Symbol.{Symbol}
use Rattle.sw_logic.specs.declared.syntax.Signature.{Signature}
use Rattle.sw_logic.specs.declared.syntax.Binder.{Binder}
use Rattle.sw_logic.specs.declared.syntax.Term.{Term}
use Rattle.sw_logic.specs.declared.syntax.Term.TheOpen.{Term-F}
use Rattle.sw_logic.specs.declared.syntax.Term.TheFolds.{fold-Term}
use Rattle.sw_logic.specs.declared.syntax.Formula.{Formula}
use Rattle.sw_logic.specs.declared.syntax.Formula.TheOpen.{Formula-F}
use Rattle.sw_logic.specs.declared.syntax.Formula.TheFolds.{fold-Formula}

-- the pieces in a row, with a text between each two
abbrev pub joined : List ℕ → List (List ℕ) → List ℕ
joined between [] = []
joined between (x ∷ xs) = x ++ flat_map (λ y. between ++ y) xs

abbrev pub name_or_none : Option Symbol → List ℕ
name_or_none None = []
name_or_none (Some s) = s.name

abbrev pub symbol_text : Signature → ℕ → Bool → List ℕ
symbol_text sig symbol post = name_or_none (slice_get sig.symbols symbol) ++ (if post then codes "'" else [])

-- nothing, or the arguments in brackets
abbrev pub arguments_text : List (List ℕ) → List ℕ
arguments_text [] = []
arguments_text (arg ∷ args) = codes "(" ++ joined (codes ", ") (arg ∷ args) ++ codes ")"

-- `f`, `f'`, `f(t, u)` or `f'(t, u)`
abbrev pub applied : Signature → ℕ → Bool → List (List ℕ) → List ℕ
applied sig symbol post args = symbol_text sig symbol post ++ arguments_text args

abbrev pub term_step : Signature → List (List ℕ) → Term-F (List ℕ) → List ℕ
term_step sig scope (Term-F.Variable v) = unwrap_or (slice_get scope v) []
term_step sig scope (Term-F.Apply symbol post args) = applied sig symbol post args

abbrev pub term_text : Signature → List (List ℕ) → Term → List ℕ
term_text sig scope = fold-Term (List ℕ) (term_step sig scope)

-- a formula's text by itself, as an operand, and of its negation
pub record Shown : Type 0 where
  pub text : List ℕ
  pub operand : List ℕ
  pub negated : List ℕ

abbrev pub bare : List ℕ → Shown
bare text = record { text = text; operand = text; negated = codes "!" ++ text }

abbrev pub in_brackets : List ℕ → Shown
in_brackets text = record { text = text; operand = codes "(" ++ text ++ codes ")"; negated = codes "!(" ++ text ++ codes ")" }

abbrev pub equation : List ℕ → List ℕ → Shown
equation a b = record { text = a ++ codes " = " ++ b; operand = a ++ codes " = " ++ b; negated = a ++ codes " != " ++ b }

abbrev pub binder_text : Signature → Binder → List ℕ
binder_text sig b = b.name ++ codes ": " ++ unwrap_or (slice_get sig.sorts b.sort) []

abbrev pub quantifier_text : Signature → List ℕ → List Binder → List ℕ → Shown
quantifier_text sig word binders text = in_brackets (word ++ codes " " ++ joined (codes ", ") (map (binder_text sig) binders) ++ codes ". " ++ text)

abbrev pub names_of : List Binder → List (List ℕ)
names_of binders = map (λ b. b.name) binders

abbrev pub formula_step : Signature → Formula-F (List (List ℕ) → Shown) → List (List ℕ) → Shown
formula_step sig Formula-F.True scope = bare (codes "true")
formula_step sig Formula-F.False scope = bare (codes "false")
formula_step sig (Formula-F.Holds symbol post args) scope = bare (applied sig symbol post (map (term_text sig scope) args))
formula_step sig (Formula-F.Equal a b) scope = equation (term_text sig scope a) (term_text sig scope b)
formula_step sig (Formula-F.Not p) scope = bare (p scope).negated
formula_step sig (Formula-F.All ps) scope = in_brackets (joined (codes " & ") (map (λ p. (p scope).operand) ps))
formula_step sig (Formula-F.Any ps) scope = in_brackets (joined (codes " | ") (map (λ p. (p scope).operand) ps))
formula_step sig (Formula-F.Implies p q) scope = in_brackets ((p scope).operand ++ codes " -> " ++ (q scope).operand)
formula_step sig (Formula-F.Iff p q) scope = in_brackets ((p scope).operand ++ codes " <-> " ++ (q scope).operand)
formula_step sig (Formula-F.ForAll binders p) scope = quantifier_text sig (codes "forall") binders (p (scope ++ names_of binders)).text
formula_step sig (Formula-F.Exists binders p) scope = quantifier_text sig (codes "exists") binders (p (scope ++ names_of binders)).text

-- how a formula is shown where the variables in scope have these names
abbrev pub shown : Signature → List (List ℕ) → Formula → Shown
shown sig scope f = fold-Formula (List (List ℕ) → Shown) (formula_step sig) f scope

-- the canonical text of a formula
abbrev pub text_of : Signature → List (List ℕ) → Formula → List ℕ
text_of sig scope f = (shown sig scope f).text
