-- The queries that a search may ask, and when each of them can be decided.
use Rattle.std.specs.Prelude.{◌≡◌, ◌≤◌, ◌+◌, ◌^◌, ℕ, List, [], Option, Some, None, IfSome, Contains}
use Rattle.sw_logic.specs.declared.syntax.Formula.{Formula}
use Rattle.sw_logic.specs.declared.query.Query.{Query}
use Rattle.sw_truth.specs.declared.instances.Ground.{Ground}
use Rattle.sw_skolem.specs.Skolem.{skolem_of}
use Rattle.sw_instances.specs.Numbered.{IsGround}
use Rattle.sw_ground.specs.Verdict.{universe}
use Rattle.sw_decide.specs.Known.{IsWithin}
use Rattle.sw_meaning.specs.declared.protocol.Protocol.{Protocol}
use Rattle.sw_meaning.specs.declared.protocol.Transition.{Transition}
use Rattle.sw_meaning.specs.declared.template.Template.{Template}
use Rattle.sw_meaning.specs.Classes.{classes}
use Rattle.sw_meaning.specs.Plain.{formulas_of}
use Rattle.sw_queries.specs.Queries.{start_query_of, follow_query_of, step_query_of, join_query_of, safety_start_query_of}
use Rattle.sw_size_laws.specs.Laws.{all_instances_of}
use Rattle.sw_size_laws.specs.Part.{IsPartOf}

-- the formulas of all classes of a template, and none without one
abbrev pub all_formulas : Protocol → Option Template → List Formula
all_formulas p None = []
all_formulas p (Some t) = formulas_of p t (classes p.signature t)

-- a query that is asked under this list: of the formula of a class of `t`, of safety, or of the formula of a class of `u`
pub data IsAskedUnder (p : Protocol) (t u : Option Template) (g : List Formula) (q : Query) : Type 0 where
  start : (f : Formula) → Contains (all_formulas p t) f → q ≡ start_query_of p f → IsAskedUnder p t u g q
  follow : (f : Formula) → Contains (all_formulas p t) f → q ≡ follow_query_of p g f → IsAskedUnder p t u g q
  step : (f : Formula) (m : Transition) → Contains (all_formulas p t) f → Contains p.transitions m → q ≡ step_query_of p m g f → IsAskedUnder p t u g q
  safety_start : q ≡ safety_start_query_of p → IsAskedUnder p t u g q
  safety_step : (m : Transition) → Contains p.transitions m → q ≡ join_query_of p m g None → IsAskedUnder p t u g q
  finish_start : (f : Formula) → Contains (all_formulas p u) f → q ≡ start_query_of p f → IsAskedUnder p t u g q
  join : (f : Formula) (m : Transition) → Contains (all_formulas p u) f → Contains p.transitions m → q ≡ join_query_of p m g (Some f) → IsAskedUnder p t u g q

-- a query that may be asked: under some of the formulas of all classes, each once
pub record MayAsk (p : Protocol) (t u : Option Template) (q : Query) : Type 0 where
  pub list : List Formula
  pub part : IsPartOf list (all_formulas p t)
  pub asked : IsAskedUnder p t u list q

-- under the formulas of all classes, no query is too large
abbrev pub WorstIsWithin : Protocol → Option Template → Option Template → Type 0
WorstIsWithin p t u = (q : Query) → IsAskedUnder p t u (all_formulas p t) q → IsWithin q

-- there is no budget, or it has at least 2^(v + 1) steps, where the clauses of all instances of the query have v variables
abbrev pub IsEnough : Option ℕ → Query → Type 0
IsEnough budget q =
    IfSome budget (λ most. (g : Ground) → IsGround (skolem_of q) (universe (skolem_of q)) (all_instances_of q) g → 2 ^ (g.cnf.variables + 1) ≤ most)

-- the budget is enough for each query that may be asked
abbrev pub BudgetIsEnough : Option ℕ → Protocol → Option Template → Option Template → Type 0
BudgetIsEnough budget p t u = (q : Query) → MayAsk p t u q → IsEnough budget q
