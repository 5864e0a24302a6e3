-- Sizes, worked out, and why sentences are counted.
use Rattle.std.specs.Prelude.{◌≡◌, false, List, [], ◌∷◌, ◌++◌}
use Rattle.std.proofs.Common.{rules, arith, refl, ap, ◌∙◌}
use Rattle.std.proofs.lemmas.List.Sorted.{length_permutation}
use Rattle.sw_logic.specs.declared.syntax.SymbolKind.TheVariants.{Relation}
use Rattle.sw_logic.specs.declared.syntax.Symbol.{Symbol}
use Rattle.sw_logic.specs.declared.syntax.Term.{the_lemmas as term_lemmas}
use Rattle.sw_logic.specs.declared.syntax.Term.TheVariants.{Variable, Apply}
use Rattle.sw_logic.specs.declared.syntax.Formula.{Formula, the_lemmas}
use Rattle.sw_logic.specs.declared.syntax.Formula.TheVariants.{Holds, Exists}
use Rattle.sw_logic.specs.declared.query.Query.{Query}
use Rattle.sw_universe.specs.Sizes.{size_of_set}
use Rattle.sw_skolem.specs.Skolem.{fresh_constant, skolem_of}
use Rattle.sw_decide.specs.Decision.{size_of_query}
use Rattle.sw_size_laws.specs.Part.{IsPartOf}

-- what stands twice is not part of a list in which it stands once
twice_is_not_part : {X : Type 0} (x : X) → IsPartOf (x ∷ x ∷ []) (x ∷ []) → ⊥
twice_is_not_part x h = let count = length_permutation (x ∷ x ∷ [] ++ h.rest) (x ∷ []) h.is in absurd (omega arith)

-- one sort and a relation of it
abbrev p : Symbol
p = record { name = []; kind = Relation; args = 0 ∷ []; gives = 0; mutable = false }

-- exists X. p(X)
abbrev some : Formula
some = Exists (record { name = []; sort = 0 } ∷ []) (Holds 0 false (Variable 0 ∷ []))

abbrev of : List Formula → Query
of sentences = record { signature = record { sorts = [] ∷ []; symbols = p ∷ [] }; sentences = sentences }

-- a fresh constant: 3 instances of equality and one of congruence
none_size : size_of_query (of []) ≡ record { terms = 1; instances = 4 }
none_size = refl

-- a Skolem constant in its place, and a piece
one_set : skolem_of (of (some ∷ []))
    ≡ record { signature = record { sorts = [] ∷ []; symbols = p ∷ fresh_constant 0 ∷ [] }; added = 1; pieces = record { vars = []; matrix = Holds 0 false (Apply 1 false [] ∷ []) } ∷ [] }
one_set = search (rules, the_lemmas, term_lemmas)

one_size : size_of_query (of (some ∷ [])) ≡ record { terms = 1; instances = 5 }
one_size = ap size_of_set one_set ∙ refl

-- the same sentence again has a constant of its own: 2 pieces, 2 + 4 + 8 instances of equality and 4 of congruence
two_set : skolem_of (of (some ∷ some ∷ []))
    ≡ record {
      signature = record { sorts = [] ∷ []; symbols = p ∷ fresh_constant 0 ∷ fresh_constant 0 ∷ [] };
      added = 2;
      pieces = record { vars = []; matrix = Holds 0 false (Apply 1 false [] ∷ []) } ∷ record { vars = []; matrix = Holds 0 false (Apply 2 false [] ∷ []) } ∷ [];
    }
two_set = search (rules, the_lemmas, term_lemmas)

two_size : size_of_query (of (some ∷ some ∷ [])) ≡ record { terms = 2; instances = 20 }
two_size = ap size_of_set two_set ∙ refl
