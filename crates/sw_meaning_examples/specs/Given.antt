-- The signatures, templates and protocols of the examples.
use Rattle.std.specs.Prelude.{ℕ, Bool, true, false, List, [], ◌∷◌, codes}
use Rattle.std.specs.Fmt.{decimal}
use Rattle.sw_logic.specs.declared.syntax.SymbolKind.TheVariants.{Relation, Constant, Function}
use Rattle.sw_logic.specs.declared.syntax.Symbol.{Symbol}
use Rattle.sw_logic.specs.declared.syntax.Signature.{Signature}
use Rattle.sw_logic.specs.declared.syntax.Binder.{Binder}
use Rattle.sw_logic.specs.declared.syntax.Term.{Term}
use Rattle.sw_logic.specs.declared.syntax.Term.TheVariants.{Apply}
use Rattle.sw_logic.specs.declared.syntax.Formula.{Formula}
use Rattle.sw_logic.specs.declared.syntax.Formula.TheVariants.{Holds, Not}
use Rattle.sw_meaning.specs.declared.protocol.Protocol.{Protocol}
use Rattle.sw_meaning.specs.declared.template.Run.{Run}
use Rattle.sw_meaning.specs.declared.template.Template.{Template}

abbrev pub relation : List ℕ → List ℕ → Symbol
relation name args = record { name = name; kind = Relation; args = args; gives = 0; mutable = true }

abbrev pub constant : List ℕ → ℕ → Symbol
constant name sort = record { name = name; kind = Constant; args = []; gives = sort; mutable = false }

abbrev pub function : List ℕ → List ℕ → ℕ → Symbol
function name args sort = record { name = name; kind = Function; args = args; gives = sort; mutable = false }

abbrev pub no_sort : List Symbol → Signature
no_sort symbols = record { sorts = []; symbols = symbols }

abbrev pub one_sort : List Symbol → Signature
one_sort symbols = record { sorts = codes "node" ∷ []; symbols = symbols }

abbrev pub two_sorts : List Symbol → Signature
two_sorts symbols = record { sorts = codes "node" ∷ codes "value" ∷ []; symbols = symbols }

abbrev pub run : Bool → ℕ → ℕ → Run
run universal count sort = record { universal = universal; count = count; sort = sort }

abbrev pub template : List Run → ℕ → ℕ → ℕ → Template
template prefix literals depth terms = record { prefix = prefix; literals = literals; depth = depth; terms = terms }

-- the variable of this number, from 1
abbrev pub binder : ℕ → ℕ → Binder
binder n sort = record { name = 95 ∷ decimal n; sort = sort }

-- one relation over nodes, and `forall 2 node literals 2`
abbrev pub over_nodes : Signature
over_nodes = one_sort (relation (codes "p") (0 ∷ []) ∷ [])

abbrev pub for_two : Template
for_two = template (run true 2 0 ∷ []) 2 1 0

-- `exists 1 node literals 1`
abbrev pub for_some : Template
for_some = template (run false 1 0 ∷ []) 1 1 0

-- a token that nodes hold, and `forall 2 node literals 3`
abbrev pub token : Signature
token = one_sort (relation (codes "holds") (0 ∷ []) ∷ constant (codes "first") 0 ∷ [])

abbrev pub of_three : Template
of_three = template (run true 2 0 ∷ []) 3 1 0

-- a function from nodes to values, and `forall 1 node exists 1 value literals 1 terms 1`
abbrev pub valued : Signature
valued = two_sorts (function (codes "h") (0 ∷ []) 1 ∷ [])

abbrev pub with_terms : Template
with_terms = template (run true 1 0 ∷ run false 1 1 ∷ []) 1 1 1

-- two switches, and `literals 3 depth 2`
abbrev pub switches : Signature
switches = no_sort (relation (codes "a") [] ∷ relation (codes "b") [] ∷ [])

abbrev pub deep_of_three : Template
deep_of_three = template [] 3 2 0

-- one switch, and `literals 2 depth 2`
abbrev pub switch : Signature
switch = no_sort (relation (codes "a") [] ∷ [])

abbrev pub deep_of_two : Template
deep_of_two = template [] 2 2 0

-- a constant and a function over nodes
abbrev pub successors : Signature
successors = one_sort (constant (codes "c") 0 ∷ function (codes "f") (0 ∷ []) 0 ∷ [])

abbrev pub zero_of : Term
zero_of = Apply 0 false []

abbrev pub next_of : Term → Term
next_of t = Apply 1 false (t ∷ [])

-- a relation without arguments of which nothing is said but that it is an axiom
abbrev pub fact : Formula
fact = Holds 0 false []

abbrev pub with_axiom : Protocol
with_axiom = record {
  signature = no_sort (record { name = codes "r"; kind = Relation; args = []; gives = 0; mutable = false } ∷ []);
  axioms = fact ∷ [];
  inits = [];
  transitions = [];
  safeties = [];
  order = [];
}

-- two switches x and y, of which a report speaks
abbrev pub two_switches : Protocol
two_switches = record {
  signature = no_sort (relation (codes "x") [] ∷ relation (codes "y") [] ∷ []);
  axioms = [];
  inits = [];
  transitions = [];
  safeties = [];
  order = [];
}

abbrev pub no_y : Formula
no_y = Not (Holds 1 false [])
