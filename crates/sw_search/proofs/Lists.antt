-- The list that a search finds can be asked about.
use Rattle.std.specs.Prelude.{ℕ, ◌≤◌, true, List, [], ◌∷◌, ◌++◌, Option, Some, None, Contains}
use Rattle.std.specs.List.{AllByRecursion}
use Rattle.std.proofs.Common.{arith, sym, subst}
use Rattle.sw_lists.proofs.Each.{each-weaker, of_contained}
use Rattle.sw_logic.specs.declared.syntax.Edge.{Edge}
use Rattle.sw_logic.specs.declared.syntax.Formula.{Formula}
use Rattle.sw_logic.specs.Queries.{IsSentence}
use Rattle.sw_logic.specs.Truth.{binds}
use Rattle.sw_meaning.specs.declared.protocol.Protocol.{Protocol}
use Rattle.sw_meaning.specs.declared.template.Template.{Template}
use Rattle.sw_meaning.specs.Space.{InSpace}
use Rattle.sw_meaning.specs.Inductive.{EarnedAfter, Earned}
use Rattle.sw_query_laws.specs.Edges.{AreAmong, AddsAmong}
use Rattle.sw_template.specs.Edges.{template_edges}
use Rattle.sw_template.specs.Prefix.{variable_count}
use Rattle.sw_template_laws.proofs.Blocks.{formulas_add_these_edges}
use Rattle.sw_template_laws.proofs.Binding.{formulas_bind_few}
use Rattle.sw_filter.specs.Filters.{AreNarrow}
use Rattle.sw_verdict.specs.Judgement.{CanAsk}
use Rattle.sw_search.specs.Phases.{IsFound}
use Rattle.sw_search.specs.Spaces.{IsSearchable}
use Rattle.sw_enumerate.specs.Spaces.{Made}

-- what lies among edges that lie among others
pub among_more : (edges some all : List Edge) → AreAmong edges some → AreAmong some all → AreAmong edges all
among_more edges some all a b = each-weaker (Contains some) (Contains all) (λ e c. of_contained (Contains all) some e b c) edges a

-- each entry is of the template
in_space : (p : Protocol) (t : Template) (before g : List Formula) → EarnedAfter p (Some t) before g → AllByRecursion (InSpace p t) g
in_space p t before [] e = tt
in_space p t before (f ∷ g) e = (e.0, in_space p t (before ++ f ∷ []) g e.3)

-- what the queries of a list ask of it
pub record CanBeListed (p : Protocol) (extra : List Edge) (g : List Formula) : Type 0 where
  pub sentences : AllByRecursion (IsSentence p.signature) g
  pub adds : AllByRecursion (AddsAmong extra true) g
  pub narrow : AreNarrow g

narrow_formula : (p : Protocol) (t : Template) → variable_count t.prefix ≤ 6 → (f : Formula) → InSpace p t f → binds f ≤ 32
narrow_formula p t few f i = let e = formulas_bind_few p t f i in omega (arith, e, few)

of_space : (p : Protocol) (extra : List Edge) (s : Made) (g : List Formula) → IsSearchable p extra s → Earned p (Some s.template) g → CanBeListed p extra g
of_space p extra s g can earned =
    let each = in_space p s.template [] g earned in
    record {
      sentences = each-weaker (InSpace p s.template) (IsSentence p.signature) (λ f i. i.closed) g each;
      adds = each-weaker (InSpace p s.template) (AddsAmong extra true)
          (λ f i. among_more _ (template_edges s.template) extra (formulas_add_these_edges p s.template f true i) can.edges) g each;
      narrow = each-weaker (InSpace p s.template) (λ f. binds f ≤ 32) (narrow_formula p s.template can.variables) g each;
    }

-- the list of a search, with a template or without one
pub list_can : (p : Protocol) (first last : Option Made) (workers : ℕ) (budget : Option ℕ) (g : List Formula) (x : IsFound p first last workers budget g) → CanBeListed p x.can.extra g
list_can p None last workers budget g x = subst (CanBeListed p x.can.extra) (sym x.found.of_classes) (record { sentences = tt; adds = tt; narrow = tt })
list_can p (Some s) last workers budget g x = of_space p x.can.extra s g x.can.breadth x.found.earned

pub can_ask : (p : Protocol) (first last : Option Made) (workers : ℕ) (budget : Option ℕ) (g : List Formula) → IsFound p first last workers budget g → CanAsk p g
can_ask p first last workers budget g x =
    let can = list_can p first last workers budget g x in
    record { well_formed = x.well_formed; sentences = can.sentences; edges = x.can.extra; adds = can.adds; stratified = x.can.stratified }
