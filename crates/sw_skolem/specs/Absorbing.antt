-- Negation normal form as it comes, and then with `true` and `false` absorbed.
use Rattle.std.specs.Prelude.{Bool, true, false, not, List, [], ◌∷◌, map}
use Rattle.sw_logic.specs.declared.syntax.Binder.{Binder}
use Rattle.sw_logic.specs.declared.syntax.Formula.{Formula}
use Rattle.sw_logic.specs.declared.syntax.Formula.TheVariants.{True, False, Holds, Equal, Not, All, Any, Implies, Iff, ForAll, Exists}
use Rattle.sw_logic.specs.declared.syntax.Formula.TheOpen.{Formula-F}
use Rattle.sw_logic.specs.declared.syntax.Formula.TheFolds.{fold-Formula}
use Rattle.sw_skolem.specs.Normal.{constant, signed, conjunction, disjunction, universal, existential}

-- a conjunction, or a disjunction
abbrev pub listed : Bool → List Formula → Formula
listed true ps = All ps
listed false ps = Any ps

-- a universal, or an existential quantifier
abbrev pub quantified : Bool → List Binder → Formula → Formula
quantified true binders p = ForAll binders p
quantified false binders p = Exists binders p

abbrev pub plain_step : Formula-F (Bool → Formula) → Bool → Formula
plain_step Formula-F.True positive = constant positive
plain_step Formula-F.False positive = constant (not positive)
plain_step (Formula-F.Holds symbol post args) positive = signed positive (Holds symbol post args)
plain_step (Formula-F.Equal a b) positive = signed positive (Equal a b)
plain_step (Formula-F.Not p) positive = p (not positive)
plain_step (Formula-F.All ps) positive = listed positive (map (λ p. p positive) ps)
plain_step (Formula-F.Any ps) positive = listed (not positive) (map (λ p. p positive) ps)
plain_step (Formula-F.Implies p q) positive = listed (not positive) (p (not positive) ∷ q positive ∷ [])
plain_step (Formula-F.Iff p q) true = All (Any (p false ∷ q true ∷ []) ∷ Any (q false ∷ p true ∷ []) ∷ [])
plain_step (Formula-F.Iff p q) false = Any (All (p true ∷ q false ∷ []) ∷ All (q true ∷ p false ∷ []) ∷ [])
plain_step (Formula-F.ForAll binders p) positive = quantified positive binders (p positive)
plain_step (Formula-F.Exists binders p) positive = quantified (not positive) binders (p positive)

-- the negation normal form of a formula, or, where `positive` is false, of its negation; nothing is absorbed
abbrev pub plain_nnf_of : Formula → Bool → Formula
plain_nnf_of = fold-Formula (Bool → Formula) plain_step

abbrev pub absorb_step : Formula-F Formula → Formula
absorb_step Formula-F.True = True
absorb_step Formula-F.False = False
absorb_step (Formula-F.Holds symbol post args) = Holds symbol post args
absorb_step (Formula-F.Equal a b) = Equal a b
absorb_step (Formula-F.Not p) = Not p
absorb_step (Formula-F.All ps) = conjunction ps
absorb_step (Formula-F.Any ps) = disjunction ps
absorb_step (Formula-F.Implies p q) = Implies p q
absorb_step (Formula-F.Iff p q) = Iff p q
absorb_step (Formula-F.ForAll binders p) = universal binders p
absorb_step (Formula-F.Exists binders p) = existential binders p

-- a formula in negation normal form with `true` and `false` absorbed
abbrev pub absorbed : Formula → Formula
absorbed = fold-Formula Formula absorb_step
