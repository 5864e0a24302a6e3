-- The laws of sizes, each the contract of a function of the crate.
use Rattle.std.specs.Prelude.{◌≡◌, ◌≤◌, ◌+◌, ◌^◌, ℕ, List, Option, Some, None, IfSome, Contains}
use Rattle.std.specs.List.{AllByRecursion}
use Rattle.sw_logic.specs.declared.syntax.Edge.{Edge}
use Rattle.sw_logic.specs.declared.syntax.Formula.{Formula}
use Rattle.sw_logic.specs.declared.query.Query.{Query}
use Rattle.sw_logic.specs.Queries.{IsQuery}
use Rattle.sw_truth.specs.declared.instances.Ground.{Ground}
use Rattle.sw_truth.specs.declared.instances.Instance.{Instance}
use Rattle.sw_truth.specs.declared.instances.Refutation.{Refutation}
use Rattle.sw_skolem.specs.Skolem.{skolem_of}
use Rattle.sw_instances.specs.AllInstances.{instances_of}
use Rattle.sw_instances.specs.Numbered.{IsGround}
use Rattle.sw_ground.specs.Verdict.{IsStratifiedQuery, universe}
use Rattle.sw_decide.specs.Decision.{IsSpentOn}
use Rattle.sw_meaning.specs.declared.protocol.Protocol.{Protocol}
use Rattle.sw_meaning.specs.declared.protocol.Transition.{Transition}
use Rattle.sw_meaning.specs.declared.template.Template.{Template}
use Rattle.sw_meaning.specs.Classes.{classes}
use Rattle.sw_meaning.specs.Inductive.{Earned}
use Rattle.sw_meaning.specs.Plain.{formulas_of}
use Rattle.sw_queries.specs.Queries.{follow_query_of, step_query_of, join_query_of}
use Rattle.sw_size_laws.specs.Asked.{CanAskUnder, CanAskAbout}
use Rattle.sw_size_laws.specs.Part.{IsPartOf}
use Rattle.sw_size_laws.specs.Sizes.{IsNoLarger}

-- a query of some of the sentences of another, over the same symbols, is no larger
abbrev pub SizesGrow : Type 0
SizesGrow = (q r : Query) → IsQuery r → IsStratifiedQuery r → q.signature ≡ r.signature → IsPartOf q.sentences r.sentences → IsNoLarger q r

-- what is asked under a part of a list is no larger than what is asked under the list
pub record ListsGrow : Type 0 where
  pub follow : (p : Protocol) (extra : List Edge) (g h : List Formula) (f : Formula) → IsPartOf g h → CanAskUnder p extra h → CanAskAbout p extra f
      → IsNoLarger (follow_query_of p g f) (follow_query_of p h f)
  pub step : (p : Protocol) (extra : List Edge) (g h : List Formula) (f : Formula) (t : Transition) → IsPartOf g h → CanAskUnder p extra h → CanAskAbout p extra f
      → Contains p.transitions t → IsNoLarger (step_query_of p t g f) (step_query_of p t h f)
  pub join : (p : Protocol) (extra : List Edge) (g h : List Formula) (f : Option Formula) (t : Transition) → IsPartOf g h → CanAskUnder p extra h
      → IfSome f (CanAskAbout p extra) → Contains p.transitions t → IsNoLarger (join_query_of p t g f) (join_query_of p t h f)

-- these classes, and their formulas, are part of all classes of the template and of their formulas
pub record IsListedOnce (p : Protocol) (t : Template) (list : List (List ℕ)) : Type 0 where
  pub of_classes : IsPartOf list (classes p.signature t)
  pub of_formulas : IsPartOf (formulas_of p t list) (formulas_of p t (classes p.signature t))

-- an earned list of classes has each class once at most
abbrev pub ListedOnce : Type 0
ListedOnce = (p : Protocol) (t : Template) (list : List (List ℕ)) → AllByRecursion (Contains (classes p.signature t)) list → Earned p (Some t) (formulas_of p t list)
    → IsListedOnce p t list

-- all instances of a query's Skolem form
abbrev pub all_instances_of : Query → List Instance
all_instances_of q = instances_of (skolem_of q) (universe (skolem_of q))

-- where there is no budget none is spent; and one of 2^(v + 1) steps is not, where the clauses of all instances have v variables
pub record BudgetSuffices : Type 0 where
  pub without : (q : Query) (r : Refutation) → IsSpentOn q None r → ⊥
  pub enough : (q : Query) (most : ℕ) (r : Refutation) (g : Ground) → IsGround (skolem_of q) (universe (skolem_of q)) (all_instances_of q) g
      → 2 ^ (g.cnf.variables + 1) ≤ most → IsSpentOn q (Some most) r → ⊥
