-- Edges of formulas, worked out.
use Rattle.std.specs.Prelude.{◌≡◌, ℕ, true, false, [], ◌∷◌}
use Rattle.std.proofs.Common.{rules, refl}
use Rattle.sw_logic.specs.declared.syntax.SymbolKind.TheVariants.{Relation, Constant, Function}
use Rattle.sw_logic.specs.declared.syntax.Symbol.{Symbol}
use Rattle.sw_logic.specs.declared.syntax.Binder.{Binder}
use Rattle.sw_logic.specs.declared.syntax.Term.{Term, the_lemmas as term_lemmas}
use Rattle.sw_logic.specs.declared.syntax.Term.TheVariants.{Variable, Apply}
use Rattle.sw_logic.specs.declared.syntax.Formula.{Formula, the_lemmas}
use Rattle.sw_logic.specs.declared.syntax.Formula.TheVariants.{True, False, Holds, Equal, Not, All, Any, Implies, Iff, ForAll, Exists}
use Rattle.sw_logic.specs.Strata.{formula_edges, function_edges, edge}

abbrev of : ℕ → Binder
of sort = record { name = []; sort = sort }

abbrev p : ℕ → Formula
p v = Holds 0 false (Variable v ∷ [])

abbrev q : ℕ → Formula
q v = Holds 1 false (Variable v ∷ [])

abbrev r : Term → Term → Formula
r a b = Holds 2 false (a ∷ b ∷ [])

-- forall X. exists Y. exists Z of r(Y, Z), with r(X, Y): Z depends on X through Y
abbrev through : Formula
through = ForAll (of 3 ∷ []) (Exists (of 4 ∷ []) (All (r (Variable 0) (Variable 1) ∷ Exists (of 5 ∷ []) (r (Variable 1) (Variable 2)) ∷ [])))

edges_through : formula_edges through true ≡ (edge 3 4 ∷ edge 3 5 ∷ [])
edges_through = search (rules, the_lemmas, term_lemmas)

-- forall X. exists Y. r(X, Y), negated: no universal variable is before X
edges_negated : formula_edges (ForAll (of 3 ∷ []) (Exists (of 4 ∷ []) (r (Variable 0) (Variable 1)))) false ≡ []
edges_negated = search (rules, the_lemmas, term_lemmas)

-- an equivalence has the edges of both parts and of their negations
edges_both_ways : formula_edges (Iff (ForAll (of 3 ∷ []) (Exists (of 4 ∷ []) (r (Variable 0) (Variable 1)))) (Exists (of 5 ∷ []) (ForAll (of 6 ∷ []) (r (Variable 0) (Variable 1))))) true ≡ (edge 3 4 ∷ edge 5 6 ∷ [])
edges_both_ways = search (rules, the_lemmas, term_lemmas)

-- `true` is not absorbed: an existential variable beside it counts
edges_beside_true : formula_edges (ForAll (of 3 ∷ []) (Exists (of 4 ∷ []) (Any (r (Variable 0) (Variable 1) ∷ True ∷ [])))) true ≡ (edge 3 4 ∷ [])
edges_beside_true = search (rules, the_lemmas, term_lemmas)

-- from each argument of a function to its value
edges_of_function : function_edges (record { name = []; kind = Function; args = 0 ∷ 1 ∷ []; gives = 2; mutable = false } ∷ []) ≡ (edge 0 2 ∷ edge 1 2 ∷ [])
edges_of_function = refl

-- forall V: 6, X: 3. exists Y: 4. r(X, Y) & (p(X) | (forall Z: 5. exists W: 4. r(Y, W) & true))
abbrev deep : Formula
deep = ForAll (of 6 ∷ of 3 ∷ []) (Exists (of 4 ∷ []) (All (r (Variable 1) (Variable 2) ∷ Any (p 1 ∷ ForAll (of 5 ∷ []) (Exists (of 4 ∷ []) (All (r (Variable 2) (Variable 4) ∷ True ∷ []))) ∷ []) ∷ [])))

-- Z does not lead to W, and V leads nowhere
deep_edges : formula_edges deep true ≡ (edge 3 4 ∷ edge 3 4 ∷ [])
deep_edges = search (rules, the_lemmas, term_lemmas)

-- of its negation: V and X are existential, and Y and W universal
deep_edges_negated : formula_edges deep false ≡ (edge 4 5 ∷ [])
deep_edges_negated = search (rules, the_lemmas, term_lemmas)
