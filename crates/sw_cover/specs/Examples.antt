-- How many terms and atoms there are over some small signatures.
use Rattle.std.specs.Prelude.{◌≡◌, ℕ, true, false, List, [], ◌∷◌, codes, length}
use Rattle.sw_logic.specs.declared.syntax.SymbolKind.TheVariants.{Relation, Function}
use Rattle.sw_logic.specs.declared.syntax.Symbol.{Symbol}
use Rattle.sw_logic.specs.declared.syntax.Signature.{Signature}
use Rattle.sw_meaning.specs.declared.template.Template.{Template}
use Rattle.sw_meaning.specs.Classes.{atoms, terms_of}

abbrev pub function : List ℕ → List ℕ → Symbol
function name args = record { name = name; kind = Function; args = args; gives = 0; mutable = false }

-- one sort, with a function of one argument and one of two
abbrev pub functions : Signature
functions = record { sorts = codes "node" ∷ []; symbols = function (codes "f") (0 ∷ []) ∷ function (codes "g") (0 ∷ 0 ∷ []) ∷ [] }

-- one sort, with a relation of four arguments
abbrev pub four_places : Signature
four_places = record { sorts = codes "node" ∷ []; symbols = record { name = codes "q"; kind = Relation; args = 0 ∷ 0 ∷ 0 ∷ 0 ∷ []; gives = 0; mutable = false } ∷ [] }

-- `forall 6 node literals 1`
abbrev pub six : Template
six = record { prefix = record { universal = true; count = 6; sort = 0 } ∷ []; literals = 1; depth = 1; terms = 0 }

pub record CountsAreTold : Type 0 where
  -- one variable
  pub terms_at_0 : length (terms_of functions (0 ∷ []) 0 0) ≡ 1
  -- f(_1) and g(_1, _1)
  pub terms_at_1 : length (terms_of functions (0 ∷ []) 1 0) ≡ 3
  -- two more by f, and 9 - 1 by g
  pub terms_at_2 : length (terms_of functions (0 ∷ []) 2 0) ≡ 13
  -- 6 ^ 4 and the pairs of 6
  pub atoms_of_six : length (atoms four_places six) ≡ 1311
