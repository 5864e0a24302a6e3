-- The queries: what a structure is asked for.
use Rattle.std.specs.Prelude.{List, [], ◌∷◌, ◌++◌, map, Option, Some, None}
use Rattle.sw_logic.specs.declared.syntax.Signature.{Signature}
use Rattle.sw_logic.specs.declared.syntax.Formula.{Formula}
use Rattle.sw_logic.specs.declared.syntax.Formula.TheVariants.{Not, All}
use Rattle.sw_logic.specs.declared.query.Query.{Query}
use Rattle.sw_meaning.specs.declared.protocol.Protocol.{Protocol}
use Rattle.sw_meaning.specs.declared.protocol.Transition.{Transition}
use Rattle.sw_renaming.specs.declared.renaming.Moment.TheVariants.{Before, Across, After}
use Rattle.sw_renaming.specs.Symbols.{copies_of, constant_for}
use Rattle.sw_renaming.specs.Renamed.{renamed}

-- the axioms and these formulas, and what is to be false
abbrev pub state_query : Protocol → List Formula → Formula → Query
state_query p list f = record { signature = p.signature; sentences = p.axioms ++ list ++ Not f ∷ [] }

abbrev pub start_query_of : Protocol → Formula → Query
start_query_of p f = state_query p p.inits f

abbrev pub follow_query_of : Protocol → List Formula → Formula → Query
follow_query_of p list f = state_query p list f

abbrev pub safety_start_query_of : Protocol → Query
safety_start_query_of p = state_query p p.inits (All p.safeties)

-- the protocol's symbols, a copy of each that the transition modifies, a constant for each parameter
abbrev pub step_signature : Protocol → Transition → Signature
step_signature p t = record {
  sorts = p.signature.sorts;
  symbols = p.signature.symbols ++ copies_of p.signature.symbols t.modifies ++ map constant_for t.params;
}

-- the axioms and these formulas before the step, the transition's own, and what is to be false after the step
abbrev pub across_query : Protocol → Transition → List Formula → Formula → Query
across_query p t before after = record {
  signature = step_signature p t;
  sentences = map (renamed p t Before) (p.axioms ++ before) ++ renamed p t Across t.formula ∷ [] ++ Not (renamed p t After after) ∷ [];
}

abbrev pub step_query_of : Protocol → Transition → List Formula → Formula → Query
step_query_of p t list f = across_query p t (list ++ f ∷ []) f

-- the formula that is joined, if there is one
abbrev pub with_joined : List Formula → Option Formula → List Formula
with_joined fs None = fs
with_joined fs (Some f) = fs ++ f ∷ []

-- safety, and the formula that is joined, if there is one
abbrev pub safe_after : Protocol → Option Formula → Formula
safe_after p None = All p.safeties
safe_after p (Some f) = All (All p.safeties ∷ f ∷ [])

abbrev pub join_query_of : Protocol → Transition → List Formula → Option Formula → Query
join_query_of p t list f = across_query p t (with_joined (list ++ p.safeties) f) (safe_after p f)
