-- What stands between the phases of a search, and what each of them answers.
use Rattle.std.specs.Prelude.{ℕ, ◌≤◌, List, Option, Some, IfSome, string_bytes}
use Rattle.sw_logic.specs.declared.syntax.Formula.{Formula}
use Rattle.sw_meaning.specs.declared.protocol.Protocol.{Protocol}
use Rattle.sw_meaning.specs.declared.template.Template.{Template}
use Rattle.sw_meaning.specs.Verdict.{Word}
use Rattle.sw_meaning.specs.WellFormed.{IsWellFormed}
use Rattle.sw_enumerate.specs.Spaces.{Made}
use Rattle.sw_search.specs.declared.asking.Ending.{Ending}
use Rattle.sw_search.specs.declared.asking.Ending.TheVariants as ending
use Rattle.sw_search.specs.declared.listing.Listed.{Listed}
use Rattle.sw_search.specs.declared.listing.Listed.TheVariants as listed
use Rattle.sw_search.specs.declared.finishing.Finished.{Finished}
use Rattle.sw_search.specs.declared.finishing.Finished.TheVariants as finished
use Rattle.sw_search.specs.Searches.{IsList, HasVerdict, Ended, IsStopped}
use Rattle.sw_search.specs.Spaces.{CanSearch, template_of}

-- how a query ended a search, as it is told
abbrev pub ended_of : Ending → Ended
ended_of (ending.Spent most) = Ended.spent most
ended_of (ending.TooLarge size) = Ended.too_large size

-- the list, or the line of the query that ended the pass, whatever template there is to finish with
abbrev pub IsListed : Protocol → Option Template → ℕ → Option ℕ → Listed → Type 0
IsListed p t workers budget (listed.Formulas list) = IsList p t workers list
IsListed p t workers budget (listed.Stopped line) = (u : Option Template) → IsStopped p t u workers budget (string_bytes line)

-- the list was found in a search that can be made by so many workers
pub record IsFound (p : Protocol) (first last : Option Made) (workers : ℕ) (budget : Option ℕ) (list : List Formula) : Type 0 where
  pub well_formed : IsWellFormed p
  pub can : CanSearch p first last
  pub workers_are : (1 ≤ workers) × (workers ≤ 64)
  pub some : IfSome budget (λ most. 1 ≤ most)
  pub found : IsList p (template_of first) workers list

-- the word on a list that leaves safety open, or the line of the query that ended the phase
abbrev pub IsFinished : Protocol → Option Template → Template → ℕ → Option ℕ → List Formula → Finished → Type 0
IsFinished p t u workers budget list (finished.Joined f) = HasVerdict p (Some u) workers list (Word.safe_with f)
IsFinished p t u workers budget list finished.Exhausted = HasVerdict p (Some u) workers list Word.exhausted
IsFinished p t u workers budget list (finished.Stopped line) = IsStopped p t (Some u) workers budget (string_bytes line)
