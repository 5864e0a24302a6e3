-- Truth of ground atoms, and of formulas whose variables stand for ground terms.
use Rattle.std.specs.Prelude.{◌≡◌, ℕ, Bool, true, false, ◌&&◌, ◌||◌, not, ◌==◌, List, [], ◌∷◌, map, Option, Some, None, unwrap_or}
use Rattle.std.specs.List.{list_all, list_any}
use Rattle.sw_logic.specs.declared.syntax.Signature.{Signature}
use Rattle.sw_logic.specs.declared.syntax.Term.{Term}
use Rattle.sw_logic.specs.declared.syntax.Formula.{Formula}
use Rattle.sw_logic.specs.declared.syntax.Formula.TheOpen.{Formula-F}
use Rattle.sw_logic.specs.declared.syntax.Formula.TheFolds.{fold-Formula}
use Rattle.sw_logic.specs.Sorted.{sort_of}
use Rattle.sw_truth.specs.declared.instances.Atom.{Atom}
use Rattle.sw_truth.specs.declared.instances.Atom.TheVariants.{Holds, Equal, Inner}
use Rattle.sw_quotient.specs.Terms.{Numbering, number_of}

-- which ground atoms are true, terms by number
pub record Valuation : Type 0 where
  pub holds : ℕ → List ℕ → Bool
  pub equal : ℕ → ℕ → ℕ → Bool

-- whether two lists are one
abbrev pub same_terms : List ℕ → List ℕ → Bool
same_terms [] [] = true
same_terms [] (u ∷ us) = false
same_terms (t ∷ ts) [] = false
same_terms (t ∷ ts) (u ∷ us) = (t == u) && same_terms ts us

-- whether two ground atoms are one
abbrev pub same_atom : Atom → Atom → Bool
same_atom (Holds symbol ts) (Holds other us) = (symbol == other) && same_terms ts us
same_atom (Equal sort t u) (Equal other v w) = (sort == other) && ((t == v) && (u == w))
same_atom (Holds symbol ts) (Equal sort t u) = false
same_atom (Holds symbol ts) Inner = false
same_atom (Equal sort t u) (Holds symbol ts) = false
same_atom (Equal sort t u) Inner = false
same_atom Inner other = false

-- whether some variable of the atom is true; an atom without a variable is false
abbrev pub atom_holds : List Atom → List Bool → Atom → Bool
atom_holds [] values a = false
atom_holds (b ∷ atoms) [] a = false
atom_holds (b ∷ atoms) (value ∷ values) a = (same_atom b a && value) || atom_holds atoms values a

-- what an assignment says of ground atoms
abbrev pub valuation : List Atom → List Bool → Valuation
valuation atoms values = record {
  holds = λ symbol ts. atom_holds atoms values (Holds symbol ts);
  equal = λ sort t u. atom_holds atoms values (Equal sort t u);
}

-- the sort of a term, 0 where it has none
abbrev pub sort_here : Signature → List ℕ → Term → ℕ
sort_here sig scope t = unwrap_or (sort_of sig false scope t) 0

-- the truth of a matrix whose variables, of these sorts, stand for the terms of these numbers
abbrev pub ground_step : Signature → Numbering → Valuation → List ℕ → Formula-F (List ℕ → Bool) → List ℕ → Bool
ground_step sig n v scope Formula-F.True env = true
ground_step sig n v scope Formula-F.False env = false
ground_step sig n v scope (Formula-F.Holds symbol post args) env = v.holds symbol (map (number_of sig n env) args)
ground_step sig n v scope (Formula-F.Equal a b) env = v.equal (sort_here sig scope a) (number_of sig n env a) (number_of sig n env b)
ground_step sig n v scope (Formula-F.Not p) env = not (p env)
ground_step sig n v scope (Formula-F.All ps) env = list_all (λ p. p env) ps
ground_step sig n v scope (Formula-F.Any ps) env = list_any (λ p. p env) ps
ground_step sig n v scope (Formula-F.Implies p q) env = false
ground_step sig n v scope (Formula-F.Iff p q) env = false
ground_step sig n v scope (Formula-F.ForAll binders p) env = false
ground_step sig n v scope (Formula-F.Exists binders p) env = false

abbrev pub ground_truth : Signature → Numbering → Valuation → List ℕ → Formula → List ℕ → Bool
ground_truth sig n v scope = fold-Formula (List ℕ → Bool) (ground_step sig n v scope)
