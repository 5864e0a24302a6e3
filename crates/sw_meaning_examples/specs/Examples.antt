-- What the definitions give on small signatures and templates.
use Rattle.std.specs.Prelude.{◌≡◌, ◌^◌, ℕ, true, false, [], ◌∷◌, length, codes, Some, None, slice_get}
use Rattle.sw_logic.specs.declared.syntax.Term.{Term}
use Rattle.sw_logic.specs.declared.syntax.Term.TheVariants.{Variable}
use Rattle.sw_logic.specs.declared.syntax.Formula.{Formula}
use Rattle.sw_logic.specs.declared.syntax.Formula.TheVariants.{Holds, Equal, Not, False, ForAll, Any}
use Rattle.sw_logic.specs.declared.structure.Structure.{Structure}
use Rattle.sw_logic.specs.Canonical.{text_of}
use Rattle.sw_logic.specs.Fits.{fits}
use Rattle.sw_logic.specs.Sorted.{well_sorted}
use Rattle.sw_logic.specs.Truth.{IsTrueIn}
use Rattle.sw_meaning.specs.declared.protocol.Protocol.{Protocol}
use Rattle.sw_meaning.specs.Runs.{Step}
use Rattle.sw_meaning.specs.Inductive.{AtStart, Follows}
use Rattle.sw_meaning.specs.Verdict.{Word, Joins}
use Rattle.sw_meaning.specs.Report.{report_text}
use Rattle.sw_meaning.specs.Space.{blocks, IsAtom}
use Rattle.sw_meaning.specs.Classes.{atoms, cubes, classes, parts, formula_of, terms_of}
use Rattle.sw_meaning_examples.specs.Given.{one_sort, run, binder, over_nodes, for_two, for_some, token, of_three, valued, with_terms, switches, deep_of_three, switch, deep_of_two, successors, zero_of, next_of, fact, with_axiom, two_switches, no_y}

pub record ClassesAreCounted : Type 0 where
  -- p(_1), p(_2) and _1 = _2
  pub atoms_of_two : length (atoms over_nodes for_two) ≡ 3
  pub cubes_of_two : length (cubes over_nodes for_two) ≡ 6
  pub classes_of_two : length (classes over_nodes for_two) ≡ 21
  pub parts_of_two : length (parts over_nodes for_two) ≡ 12
  -- the part of the classes of 2 literals whose least is literal 1
  pub one_part : slice_get (parts over_nodes for_two) 7 ≡ Some ((1 ∷ 2 ∷ []) ∷ (1 ∷ 3 ∷ []) ∷ (1 ∷ 4 ∷ []) ∷ (1 ∷ 5 ∷ []) ∷ [])
  pub classes_of_some : classes over_nodes for_some ≡ (0 ∷ []) ∷ (1 ∷ []) ∷ []
  pub classes_of_the_token : length (classes token of_three) ≡ 298
  -- h(_1) = _2 alone, since a value is equal to a value
  pub classes_of_values : length (classes valued with_terms) ≡ 2
  -- 4 cubes of one literal, 6 of two and 4 of three
  pub deep_cubes : length (cubes switches deep_of_three) ≡ 14
  -- a, !a, both as two cubes, and both as one
  pub deep_classes : classes switch deep_of_two ≡ (0 ∷ []) ∷ (1 ∷ []) ∷ (0 ∷ 1 ∷ []) ∷ (2 ∷ []) ∷ []

pub record FormulasAreWritten : Type 0 where
  pub of_the_token : formula_of token of_three (1 ∷ 3 ∷ 6 ∷ []) ≡ ForAll (binder 1 0 ∷ binder 2 0 ∷ [])
      (Any (Not (Holds 0 false (Variable 0 ∷ [])) ∷ Not (Holds 0 false (Variable 1 ∷ [])) ∷ Equal (Variable 0) (Variable 1) ∷ []))
  pub token_text : text_of token [] (formula_of token of_three (1 ∷ 3 ∷ 6 ∷ [])) ≡ codes "forall _1: node, _2: node. !holds(_1) | !holds(_2) | _1 = _2"
  pub token_sorted : well_sorted token false (formula_of token of_three (1 ∷ 3 ∷ 6 ∷ [])) [] ≡ true
  pub some_text : text_of over_nodes [] (formula_of over_nodes for_some (0 ∷ [])) ≡ codes "exists _1: node. p(_1)"
  pub values_sorted : well_sorted valued false (formula_of valued with_terms (0 ∷ [])) [] ≡ true
  -- an "or" of cubes, of which one is an "and"
  pub deep_text : text_of switches [] (formula_of switches deep_of_three (1 ∷ 5 ∷ [])) ≡ codes "!a | (a & b)"
  -- runs of one quantifier are one block, and a block has its variables in the prefix's order
  pub two_blocks : blocks 0 (run true 2 0 ∷ run true 1 1 ∷ run false 1 0 ∷ [])
      ≡ record { universal = true; binders = binder 1 0 ∷ binder 2 0 ∷ binder 3 1 ∷ [] } ∷ record { universal = false; binders = binder 4 0 ∷ [] } ∷ []
  -- the constant, and the applications of depth 1, 2 and 3
  pub terms_to_three : terms_of successors [] 3 0 ≡ zero_of ∷ next_of zero_of ∷ next_of (next_of zero_of) ∷ next_of (next_of (next_of zero_of)) ∷ []
  -- a size has no upper bound
  pub large_structure : fits (one_sort []) (record { sizes = (2 ^ 70) ∷ []; tables = [] }) ≡ true

pub record AxiomsAreGiven : Type 0 where
  pub follow : Follows with_axiom [] fact
  pub at_start : AtStart with_axiom fact
  pub before_step : (s t : Structure) → Step with_axiom s t → IsTrueIn with_axiom.signature s fact

pub record AtomsAreBounded : Type 0 where
  -- an application is one deeper than its deepest argument
  pub shallow : IsAtom 0 (Equal (next_of zero_of) zero_of) → ⊥
  -- no term is said to equal itself
  pub apart : (depth : ℕ) (t : Term) → IsAtom depth (Equal t t) → ⊥

abbrev pub ListsServe : Type 0
ListsServe = (p : Protocol) (f : Formula) → AtStart p f → Joins p (False ∷ []) f

pub record WordsAreTold : Type 0 where
  pub safe_with : report_text two_switches None [] (Word.safe_with no_y) ≡ codes "classes 0\nverdict safe with !y\n"
  pub exhausted : report_text two_switches None [] Word.exhausted ≡ codes "classes 0\nverdict exhausted\n"
  pub left_open : report_text two_switches None [] Word.unsettled ≡ codes "classes 0\nverdict open\n"
