-- The number of a ground term, where each symbol's applications stand in a row in their sort's list.
use Rattle.std.specs.Prelude.{◌≡◌, ◌+◌, ℕ, true, false, List, Some, slice_get, slice_index}
use Rattle.sw_logic.specs.declared.syntax.Symbol.{Symbol}
use Rattle.sw_logic.specs.declared.syntax.Signature.{Signature}
use Rattle.sw_logic.specs.declared.syntax.Term.{Term}
use Rattle.sw_logic.specs.declared.syntax.Term.TheVariants.{Apply}
use Rattle.sw_logic.specs.declared.syntax.Term.TheOpen.{Term-F}
use Rattle.sw_logic.specs.declared.syntax.Term.TheFolds.{fold-Term}
use Rattle.sw_logic.specs.Truth.{args_of, place_from}
use Rattle.sw_logic.specs.Sorted.{gives_value, sort_of}
use Rattle.sw_logic.specs.Terms.{put}
use Rattle.sw_truth.specs.Models.{AreOfSorts}
use Rattle.sw_universe.specs.declared.universe.Universe.{Universe}
use Rattle.sw_universe.specs.ByNumber.{counts, term_at, terms_at, IsTerm}

-- the number of a symbol's application to the ground terms of these numbers, where `firsts` has the number of each symbol's first
abbrev pub applied_number : Signature → List ℕ → List ℕ → ℕ → List ℕ → ℕ
applied_number sig sizes firsts symbol ns = slice_index firsts symbol + place_from sizes 0 (args_of sig symbol) ns

-- the number of a term with the ground terms of these numbers in the place of its variables
abbrev pub number_step : Signature → List ℕ → List ℕ → List ℕ → Term-F ℕ → ℕ
number_step sig sizes firsts ns (Term-F.Variable v) = slice_index ns v
number_step sig sizes firsts ns (Term-F.Apply symbol post args) = applied_number sig sizes firsts symbol args

abbrev pub number_of : Signature → List ℕ → List ℕ → List ℕ → Term → ℕ
number_of sig sizes firsts ns = fold-Term ℕ (number_step sig sizes firsts ns)

-- the ground term of a sort with this number
pub record Stands (u : Universe) (sort n : ℕ) (t : Term) : Type 0 where
  pub within : IsTerm u sort n
  pub is : term_at u sort n ≡ t

-- each symbol's applications stand in a row in their sort's list from its first on, in the order of their arguments
abbrev pub IsIndexed : Signature → Universe → List ℕ → Type 0
IsIndexed sig u firsts =
    (symbol : ℕ) (s : Symbol) (ns : List ℕ) → slice_get sig.symbols symbol ≡ Some s → gives_value s.kind ≡ true → AreOfSorts (counts u) s.args ns
    → Stands u s.gives (applied_number sig (counts u) firsts symbol ns) (Apply symbol false (terms_at u s.args ns))

-- what is kept of a signature's ground terms: their counts, and where each symbol's applications begin
pub record HasTerms (sig : Signature) (u : Universe) (own : Signature) (sizes firsts : List ℕ) : Type 0 where
  pub signature : own ≡ sig
  pub counted : sizes ≡ counts u
  pub indexed : IsIndexed sig u firsts

-- a term has the number of what it is with ground terms in the place of its variables
abbrev pub NumbersAreTerms : Type 0
NumbersAreTerms =
    (sig : Signature) (u : Universe) (firsts vars ns : List ℕ) → IsIndexed sig u firsts → AreOfSorts (counts u) vars ns
    → (t : Term) (sort : ℕ) → sort_of sig false vars t ≡ Some sort → Stands u sort (number_of sig (counts u) firsts ns t) (put (terms_at u vars ns) t)
