-- What a whole text has, where it is to be a formula.
use Rattle.std.specs.Prelude.{◌≡◌, ◌==◌, ℕ, List, [], ◌∷◌, length, map, Option, Some, None, Result, Ok, Err, slice_get, if◌then◌else◌}
use Rattle.sw_logic.specs.declared.syntax.Binder.{Binder}
use Rattle.sw_logic.specs.declared.syntax.Formula.{Formula}
use Rattle.sw_scan.specs.declared.Token.{Token}
use Rattle.sw_scan.specs.Scans.{Scans}
use Rattle.sw_trees.specs.declared.words.Word.{Word}
use Rattle.sw_text.specs.declared.names.Violation.{Violation}
use Rattle.sw_trees.specs.declared.reader.Read.{Read}
use Rattle.sw_text.specs.declared.texts.TextError.{TextError}
use Rattle.sw_trees.specs.Words.{word_of}
use Rattle.sw_trees.specs.Grammar.{Context}
use Rattle.sw_trees.specs.Answers.{IsAnswer}
use Rattle.sw_text.specs.Names.{Around, Scope, faults, formula_read}

-- the place of a word, or the end of the text where there is none
abbrev pub place_by : ℕ → Option Word → ℕ
place_by end None = end
place_by end (Some w) = w.token.at

abbrev pub place_in : ℕ → List Word → ℕ → ℕ
place_in end ws n = place_by end (slice_get ws n)

-- the formula, where nothing is broken; or the first rule that is
abbrev pub first_broken : List Violation → Formula → Result Formula TextError
first_broken [] f = Ok f
first_broken (v ∷ rest) f = Err (TextError.Broken v)

-- what the text has, where so much of its words was read: a formula has to be all of them
abbrev pub outcome : Around → Scope → List Word → Read → Result Formula TextError
outcome a scope ws (Read.Formula x n) =
    if n == length ws then first_broken (faults a x scope) (formula_read a x scope) else Err (TextError.Syntax (place_in (length a.text) ws n))
outcome a scope ws (Read.Syntax n) = Err (TextError.Syntax (place_in (length a.text) ws n))
outcome a scope ws (Read.TooDeep n) = Err (TextError.TooDeep (place_in (length a.text) ws n))

-- nothing is open around a text, and these variables are in scope
abbrev pub base_in : Scope → Context
base_in scope = record { nestings = 0; iffs = 0; variables = length scope }

-- what the text has: its first byte that begins no token, or what its words are
pub data HasFormula (a : Around) (scope : Scope) (r : Result Formula TextError) : Type 0 where
  bad : (at : ℕ) → Scans a.text 0 (Err at) → r ≡ Err (TextError.BadByte at) → HasFormula a scope r
  read : (tokens : List Token) (found : Read) → Scans a.text 0 (Ok tokens) → IsAnswer (base_in scope) (map (word_of a.text) tokens) found
      → r ≡ outcome a scope (map (word_of a.text) tokens) found → HasFormula a scope r

-- what an answer says of the text; want of memory says nothing
abbrev pub answer_of : Result Formula TextError → Option (Result Formula TextError)
answer_of (Ok f) = Some (Ok f)
answer_of (Err (TextError.BadByte at)) = Some (Err (TextError.BadByte at))
answer_of (Err (TextError.Syntax at)) = Some (Err (TextError.Syntax at))
answer_of (Err (TextError.TooDeep at)) = Some (Err (TextError.TooDeep at))
answer_of (Err (TextError.Broken v)) = Some (Err (TextError.Broken v))
answer_of (Err TextError.Memory) = None

-- the sorts of the variables in scope
abbrev pub sorts_of_scope : Scope → List ℕ
sorts_of_scope scope = map (λ (b : Binder). b.sort) scope

-- a text has one answer
abbrev pub OneFormula : Type 0
OneFormula = (a : Around) (scope : Scope) (r s : Result Formula TextError) → HasFormula a scope r → HasFormula a scope s → r ≡ s
