-- What is answered of safety under a list: the word, and the query that decided.
use Rattle.std.specs.Prelude.{◌≡◌, ◌⊎◌, ◌<◌, ℕ, true, List, Option, Some, None, length, slice_get}
use Rattle.std.specs.List.{AllByRecursion}
use Rattle.sw_logic.specs.declared.syntax.Edge.{Edge}
use Rattle.sw_logic.specs.declared.syntax.Formula.{Formula}
use Rattle.sw_logic.specs.declared.query.Query.{Query}
use Rattle.sw_logic.specs.Queries.{IsSentence}
use Rattle.sw_meaning.specs.declared.protocol.Protocol.{Protocol}
use Rattle.sw_meaning.specs.declared.protocol.Transition.{Transition}
use Rattle.sw_meaning.specs.WellFormed.{IsWellFormed}
use Rattle.sw_meaning.specs.Edges.{IsStratifiedWith}
use Rattle.sw_meaning.specs.Verdict.{Word, Verdict}
use Rattle.sw_queries.specs.Queries.{safety_start_query_of, join_query_of}
use Rattle.sw_query_laws.specs.Edges.{AddsAmong}
use Rattle.sw_decide.specs.Decision.{HasStructure, HasNoStructure}
pub use Rattle.sw_decide.specs.Known.{IsWithin, IsSpentBy, IsTooLargeBy}
use Rattle.sw_verdict.specs.declared.judging.SafetyQuery.{SafetyQuery}
use Rattle.sw_verdict.specs.declared.judging.SafetyQuery.TheVariants.{Start, Step}
use Rattle.sw_verdict.specs.declared.judging.Judged.{Judged}
use Rattle.sw_verdict.specs.declared.judging.Judged.TheVariants.{Violated, Safe, Open, Spent, TooLarge}

-- the protocol is well formed, the list is of sentences, and the edges of both have ranks
pub record CanAsk (p : Protocol) (g : List Formula) : Type 0 where
  pub well_formed : IsWellFormed p
  pub sentences : AllByRecursion (IsSentence p.signature) g
  pub edges : List Edge
  pub adds : AllByRecursion (AddsAmong edges true) g
  pub stratified : IsStratifiedWith p edges

-- ---- what is known of a query

-- no structure satisfies it
pub record IsCleared (q : Query) : Type 0 where
  pub none : HasNoStructure q
  pub within : IsWithin q

-- some structure satisfies it
pub record IsMet (q : Query) : Type 0 where
  pub some : HasStructure q
  pub within : IsWithin q

module _ (p : Protocol) (g : List Formula) where
  -- a step of this transition from the list and safety to where safety is false
  abbrev pub step_of : Transition → Query
  step_of t = join_query_of p t g None

  abbrev pub IsClearedAt : ℕ → Type 0
  IsClearedAt n = (t : Transition) → slice_get p.transitions n ≡ Some t → IsCleared (step_of t)

  -- those of the first n transitions, in the order of their declarations
  abbrev pub AreCleared : ℕ → Type 0
  AreCleared n = (i : ℕ) → i < n → IsClearedAt i

  -- the query of this name, where all before it are cleared
  pub data IsAsked (q : Query) : SafetyQuery → Type 0 where
    start : q ≡ safety_start_query_of p → IsAsked q Start
    step : (n : ℕ) (t : Transition) → slice_get p.transitions n ≡ Some t → q ≡ step_of t → IsCleared (safety_start_query_of p) → AreCleared n → IsAsked q (Step n)

  -- a query of this name is asked, and this is known of it
  pub record Ends (name : SafetyQuery) (Known : Query → Type 0) : Type 0 where
    pub query : Query
    pub asked : IsAsked query name
    pub known : Known query

  -- the word is that of the definitions
  abbrev pub HasWord : Judged → Type 0
  HasWord Violated = Verdict p None g Word.violated
  HasWord Safe = Verdict p None g Word.safe
  HasWord Open = Verdict p None g Word.unsettled
  HasWord (Spent name r) = Unit {0}
  HasWord (TooLarge name size) = Unit {0}

  -- the first query that is not cleared decides; where each is cleared, safety is shown
  abbrev pub IsAnswered : Option ℕ → Judged → Type 0
  IsAnswered budget Violated = Ends Start IsMet
  IsAnswered budget Safe = IsCleared (safety_start_query_of p) × AreCleared (length p.transitions)
  IsAnswered budget Open = (n : ℕ) × Ends (Step n) IsMet
  IsAnswered budget (Spent name r) = Ends name (λ q. IsSpentBy q budget r)
  IsAnswered budget (TooLarge name size) = Ends name (λ q. IsTooLargeBy q size)

abbrev pub IsSpentAnswer : Judged → Type 0
IsSpentAnswer Violated = ⊥
IsSpentAnswer Safe = ⊥
IsSpentAnswer Open = ⊥
IsSpentAnswer (Spent name r) = Unit {0}
IsSpentAnswer (TooLarge name size) = ⊥

-- the answer is fixed, whatever the budgets, but where one of them was spent
abbrev pub OneJudgement : Type 0
OneJudgement = (p : Protocol) (g : List Formula) (m n : Option ℕ) (a b : Judged) → IsAnswered p g m a → IsAnswered p g n b → (IsSpentAnswer a ⊎ IsSpentAnswer b) ⊎ (a ≡ b)
