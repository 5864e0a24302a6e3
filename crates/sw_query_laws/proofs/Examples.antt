-- Worked examples of the queries, computed.
use Rattle.std.specs.Prelude.{◌≡◌, ℕ, true, false, List, [], ◌∷◌, codes, Some, None}
use Rattle.std.proofs.Common.{rules, refl}
use Rattle.sw_logic.specs.declared.syntax.SymbolKind.TheVariants.{Relation, Constant}
use Rattle.sw_logic.specs.declared.syntax.Symbol.{Symbol}
use Rattle.sw_logic.specs.declared.syntax.Binder.{Binder}
use Rattle.sw_logic.specs.declared.syntax.Term as terms
use Rattle.sw_logic.specs.declared.syntax.Term.TheVariants.{Variable, Apply}
use Rattle.sw_logic.specs.declared.syntax.Formula as formulas
use Rattle.sw_logic.specs.declared.syntax.Formula.{Formula}
use Rattle.sw_logic.specs.declared.syntax.Formula.TheVariants.{Holds, Not, All, ForAll}
use Rattle.sw_meaning.specs.declared.protocol.Protocol.{Protocol}
use Rattle.sw_meaning.specs.declared.protocol.Transition.{Transition}
use Rattle.sw_queries.specs.Queries.{step_signature, step_query_of, join_query_of}

-- sort node; relation link; mutable relation up(node); axiom link; transition rise(x: node) modifies up: link & up'(x);
-- safety forall y: node. up(y)
abbrev link : Symbol
link = record { name = codes "link"; kind = Relation; args = []; gives = 0; mutable = false }

abbrev up : Symbol
up = record { name = codes "up"; kind = Relation; args = 0 ∷ []; gives = 0; mutable = true }

abbrev node : List ℕ → Binder
node name = record { name = name; sort = 0 }

abbrev is_linked : Formula
is_linked = Holds 0 false []

-- the symbol of this number holds of each node
abbrev each_is : ℕ → Formula
each_is symbol = ForAll (node (codes "y") ∷ []) (Holds symbol false (Variable 0 ∷ []))

abbrev rise : Transition
rise = record { name = codes "rise"; params = node (codes "x") ∷ []; modifies = 1 ∷ []; formula = All (is_linked ∷ Holds 1 true (Variable 0 ∷ []) ∷ []) }

abbrev rising : Protocol
rising = record {
  signature = record { sorts = codes "node" ∷ []; symbols = link ∷ up ∷ [] };
  axioms = is_linked ∷ [];
  inits = [];
  transitions = rise ∷ [];
  safeties = each_is 1 ∷ [];
  order = [];
}

-- the copy of `up` is symbol 2, and the constant of the parameter is symbol 3
rising_symbols : (step_signature rising rise).symbols ≡ link ∷ up ∷ up ∷ record { name = codes "x"; kind = Constant; args = []; gives = 0; mutable = false } ∷ []
rising_symbols = refl

abbrev rises : Formula
rises = All (is_linked ∷ Holds 2 false (Apply 3 false [] ∷ []) ∷ [])

rising_step : (step_query_of rising rise [] (each_is 1)).sentences ≡ is_linked ∷ each_is 1 ∷ rises ∷ Not (each_is 2) ∷ []
rising_step = search (rules, formulas.the_lemmas, terms.the_lemmas)

rising_safety : (join_query_of rising rise [] None).sentences ≡ is_linked ∷ each_is 1 ∷ rises ∷ Not (All (each_is 2 ∷ [])) ∷ []
rising_safety = search (rules, formulas.the_lemmas, terms.the_lemmas)

rising_join : (join_query_of rising rise (is_linked ∷ []) (Some (each_is 1))).sentences ≡ is_linked ∷ is_linked ∷ each_is 1 ∷ each_is 1 ∷ rises ∷ Not (All (All (each_is 2 ∷ []) ∷ each_is 2 ∷ [])) ∷ []
rising_join = search (rules, formulas.the_lemmas, terms.the_lemmas)
