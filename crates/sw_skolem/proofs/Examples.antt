-- The Skolem form, worked out.
use Rattle.std.specs.Prelude.{◌≡◌, ℕ, true, false, [], ◌∷◌}
use Rattle.std.proofs.Common.{rules, refl}
use Rattle.sw_logic.specs.declared.syntax.SymbolKind.TheVariants.{Constant, Function}
use Rattle.sw_logic.specs.declared.syntax.Symbol.{Symbol}
use Rattle.sw_logic.specs.declared.syntax.Binder.{Binder}
use Rattle.sw_logic.specs.declared.syntax.Term.{Term, the_lemmas as term_lemmas}
use Rattle.sw_logic.specs.declared.syntax.Term.TheVariants.{Variable, Apply}
use Rattle.sw_logic.specs.declared.syntax.Formula.{Formula, the_lemmas}
use Rattle.sw_logic.specs.declared.syntax.Formula.TheVariants.{True, False, Holds, All, Any, ForAll, Exists}
use Rattle.sw_skolem.specs.Normal.{nnf_of}
use Rattle.sw_skolem.specs.Skolem.{part_of, fresh_constant, fresh_constants}
use Rattle.sw_skolem.specs.Pieces.{pieces_of}

abbrev of : ℕ → Binder
of sort = record { name = []; sort = sort }

abbrev p : ℕ → Formula
p v = Holds 0 false (Variable v ∷ [])

abbrev q : ℕ → Formula
q v = Holds 1 false (Variable v ∷ [])

abbrev r : Term → Term → Formula
r a b = Holds 2 false (a ∷ b ∷ [])

-- a disjunction with one part left is that part
one_left : nnf_of (Any (False ∷ p 0 ∷ [])) true ≡ p 0
one_left = search (rules, the_lemmas)

-- a quantifier over `true` is `true`
no_quantifier : nnf_of (Exists (of 0 ∷ []) (Any (p 0 ∷ True ∷ []))) true ≡ True
no_quantifier = search (rules, the_lemmas)

-- a variable that does not occur is dropped from a piece, and the others are numbered anew
dropped : pieces_of 0 (ForAll (of 3 ∷ of 4 ∷ []) (p 1)) ≡ (record { vars = 4 ∷ []; matrix = p 0 } ∷ [])
dropped = search (rules, the_lemmas, term_lemmas)

-- inside a disjunction it is pulled out all the same
pulled_out : pieces_of 0 (Any (ForAll (of 3 ∷ []) (p 0) ∷ ForAll (of 4 ∷ of 5 ∷ []) (q 1) ∷ [])) ≡ (record { vars = 3 ∷ 4 ∷ 5 ∷ []; matrix = Any (p 0 ∷ q 2 ∷ []) } ∷ [])
pulled_out = search (rules, the_lemmas, term_lemmas)

-- a conjunction has the pieces of its parts
two_pieces : pieces_of 0 (All (ForAll (of 0 ∷ []) (p 0) ∷ ForAll (of 0 ∷ []) (q 0) ∷ [])) ≡ (record { vars = 0 ∷ []; matrix = p 0 } ∷ record { vars = 0 ∷ []; matrix = q 0 } ∷ [])
two_pieces = search (rules, the_lemmas, term_lemmas)

-- forall X. exists Y. r(X, Y): a function of X
function_of_one : (part_of 7 (ForAll (of 3 ∷ []) (Exists (of 4 ∷ []) (r (Variable 0) (Variable 1))))).form [] [] []
    ≡ record { formula = ForAll (of 3 ∷ []) (r (Variable 0) (Apply 7 false (Variable 0 ∷ []))); made = record { name = []; kind = Function; args = 3 ∷ []; gives = 4; mutable = false } ∷ [] }
function_of_one = search (rules, the_lemmas, term_lemmas)

-- forall X. exists Y. q(Y): a constant
constant_alone : (part_of 7 (ForAll (of 3 ∷ []) (Exists (of 4 ∷ []) (q 1)))).form [] [] []
    ≡ record { formula = ForAll (of 3 ∷ []) (Holds 1 false (Apply 7 false [] ∷ [])); made = record { name = []; kind = Constant; args = []; gives = 4; mutable = false } ∷ [] }
constant_alone = search (rules, the_lemmas, term_lemmas)

-- exists Y, then exists Z of r(Y, Z) below forall X of r(X, Y): Z is a function of X through Y
through_another : (part_of 7 (ForAll (of 3 ∷ []) (Exists (of 4 ∷ []) (All (r (Variable 0) (Variable 1) ∷ Exists (of 5 ∷ []) (r (Variable 1) (Variable 2)) ∷ []))))).form [] [] []
    ≡ record {
      formula = ForAll (of 3 ∷ []) (All (r (Variable 0) (Apply 7 false (Variable 0 ∷ [])) ∷ r (Apply 7 false (Variable 0 ∷ [])) (Apply 8 false (Variable 0 ∷ [])) ∷ []));
      made = record { name = []; kind = Function; args = 3 ∷ []; gives = 4; mutable = false } ∷ record { name = []; kind = Function; args = 3 ∷ []; gives = 5; mutable = false } ∷ [];
    }
through_another = search (rules, the_lemmas, term_lemmas)

-- two sorts, and a function from the first to the second: a fresh constant of the first alone
abbrev h : Symbol
h = record { name = []; kind = Function; args = 0 ∷ []; gives = 1; mutable = false }

fresh_of_two : fresh_constants 2 (h ∷ []) ≡ (fresh_constant 0 ∷ [])
fresh_of_two = refl

-- a tricky case: a function through another existential variable, absorption, a vacuous universal variable inside a
-- disjunction, and one outside
abbrev f : Term
f = Apply 7 false (Variable 0 ∷ [])

abbrev g : Term
g = Apply 8 false (Variable 0 ∷ [])

abbrev made_of : ℕ → ℕ → Symbol
made_of arg sort = record { name = []; kind = Function; args = arg ∷ []; gives = sort; mutable = false }

-- forall V: 6, X: 3. exists Y: 4. r(X, Y) & (p(X) | (forall Z: 5. exists W: 4. r(Y, W) & true))
abbrev deep : Formula
deep = ForAll (of 6 ∷ of 3 ∷ []) (Exists (of 4 ∷ []) (All (r (Variable 1) (Variable 2) ∷ Any (p 1 ∷ ForAll (of 5 ∷ []) (Exists (of 4 ∷ []) (All (r (Variable 2) (Variable 4) ∷ True ∷ []))) ∷ []) ∷ [])))

abbrev normal : Formula
normal = ForAll (of 6 ∷ of 3 ∷ []) (Exists (of 4 ∷ []) (All (r (Variable 1) (Variable 2) ∷ Any (p 1 ∷ ForAll (of 5 ∷ []) (Exists (of 4 ∷ []) (r (Variable 2) (Variable 4))) ∷ []) ∷ [])))

deep_normal : nnf_of deep true ≡ normal
deep_normal = search (rules, the_lemmas, term_lemmas)

abbrev f1 : Term
f1 = Apply 7 false (Variable 1 ∷ [])

abbrev g1 : Term
g1 = Apply 8 false (Variable 1 ∷ [])

abbrev formed : Formula
formed = ForAll (of 6 ∷ of 3 ∷ []) (All (r (Variable 1) f1 ∷ Any (p 1 ∷ ForAll (of 5 ∷ []) (r f1 g1) ∷ []) ∷ []))

deep_form : (part_of 7 normal).form [] [] [] ≡ record { formula = formed; made = made_of 3 4 ∷ made_of 3 4 ∷ [] }
deep_form = search (rules, the_lemmas, term_lemmas)

deep_pieces : pieces_of 0 formed ≡ (record { vars = 3 ∷ []; matrix = r (Variable 0) f } ∷ record { vars = 3 ∷ 5 ∷ []; matrix = Any (p 0 ∷ r f g ∷ []) } ∷ [])
deep_pieces = search (rules, the_lemmas, term_lemmas)
