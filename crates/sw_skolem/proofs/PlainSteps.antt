-- The negation normal form, one step down, as the code makes it.
use Rattle.std.specs.Prelude.{◌≡◌, ℕ, Bool, true, false, not, List, [], ◌∷◌, map}
use Rattle.std.proofs.Common.{rules, refl, ap, ◌∙◌}
use Rattle.sw_logic.specs.declared.syntax.Binder.{Binder}
use Rattle.sw_logic.specs.declared.syntax.Term.{Term}
use Rattle.sw_logic.specs.declared.syntax.Formula.{Formula, the_lemmas}
use Rattle.sw_logic.specs.declared.syntax.Formula.TheVariants.{True, False, Holds, Equal, Not, All, Any, Implies, Iff, ForAll, Exists}
use Rattle.sw_skolem.specs.Normal.{constant, signed}
use Rattle.sw_skolem.specs.Absorbing.{listed, quantified, plain_nnf_of}

forms_same : (c : Bool) (ps : List Formula) → map (λ (p : Bool → Formula). p c) (map plain_nnf_of ps) ≡ map (λ (p : Formula). plain_nnf_of p c) ps
forms_same c [] = refl
forms_same c (p ∷ ps) = ap (λ (xs : List Formula). plain_nnf_of p c ∷ xs) (forms_same c ps)

not_twice : (c : Bool) → not (not c) ≡ c
not_twice true = refl
not_twice false = refl

pub plain-True : (c : Bool) → plain_nnf_of True c ≡ constant c
plain-True c = search (rules, the_lemmas)

pub plain-False : (c : Bool) → plain_nnf_of False c ≡ constant (not c)
plain-False c = search (rules, the_lemmas)

pub plain-Holds : (k : ℕ) (post : Bool) (args : List Term) (c : Bool) → plain_nnf_of (Holds k post args) c ≡ signed c (Holds k post args)
plain-Holds k post args c = search (rules, the_lemmas)

pub plain-Equal : (a b : Term) (c : Bool) → plain_nnf_of (Equal a b) c ≡ signed c (Equal a b)
plain-Equal a b c = search (rules, the_lemmas)

pub plain-Not : (p : Formula) (c : Bool) → plain_nnf_of (Not p) c ≡ plain_nnf_of p (not c)
plain-Not p c = search (rules, the_lemmas)

pub plain-All : (ps : List Formula) (c : Bool) → plain_nnf_of (All ps) c ≡ listed c (map (λ (p : Formula). plain_nnf_of p c) ps)
plain-All ps c =
    let step : plain_nnf_of (All ps) c ≡ listed c (map (λ (p : Bool → Formula). p c) (map plain_nnf_of ps)) = search (rules, the_lemmas) in
    step ∙ ap (listed c) (forms_same c ps)

pub plain-Any : (ps : List Formula) (c : Bool) → plain_nnf_of (Any ps) c ≡ listed (not c) (map (λ (p : Formula). plain_nnf_of p c) ps)
plain-Any ps c =
    let step : plain_nnf_of (Any ps) c ≡ listed (not c) (map (λ (p : Bool → Formula). p c) (map plain_nnf_of ps)) = search (rules, the_lemmas) in
    step ∙ ap (listed (not c)) (forms_same c ps)

pub plain-Implies : (p q : Formula) (c : Bool) → plain_nnf_of (Implies p q) c ≡ listed (not c) (plain_nnf_of p (not c) ∷ plain_nnf_of q c ∷ [])
plain-Implies p q c = search (rules, the_lemmas)

pub plain-Iff : (p q : Formula) → plain_nnf_of (Iff p q) true ≡ All (Any (plain_nnf_of p false ∷ plain_nnf_of q true ∷ []) ∷ Any (plain_nnf_of q false ∷ plain_nnf_of p true ∷ []) ∷ [])
plain-Iff p q = search (rules, the_lemmas)

pub plain-not_Iff : (p q : Formula) → plain_nnf_of (Iff p q) false ≡ Any (All (plain_nnf_of p true ∷ plain_nnf_of q false ∷ []) ∷ All (plain_nnf_of q true ∷ plain_nnf_of p false ∷ []) ∷ [])
plain-not_Iff p q = search (rules, the_lemmas)

pub plain-ForAll : (bs : List Binder) (p : Formula) (c : Bool) → plain_nnf_of (ForAll bs p) c ≡ quantified c bs (plain_nnf_of p c)
plain-ForAll bs p c = search (rules, the_lemmas)

pub plain-Exists : (bs : List Binder) (p : Formula) (c : Bool) → plain_nnf_of (Exists bs p) c ≡ quantified (not c) bs (plain_nnf_of p c)
plain-Exists bs p c = search (rules, the_lemmas)

-- the same where the code negates
pub negated-Any : (ps : List Formula) (negate : Bool) → plain_nnf_of (Any ps) (not negate) ≡ listed negate (map (λ (p : Formula). plain_nnf_of p (not negate)) ps)
negated-Any ps negate = plain-Any ps (not negate) ∙ ap (λ (c : Bool). listed c (map (λ (p : Formula). plain_nnf_of p (not negate)) ps)) (not_twice negate)

pub negated-Implies : (p q : Formula) (negate : Bool) → plain_nnf_of (Implies p q) (not negate) ≡ listed negate (plain_nnf_of p (not (not negate)) ∷ plain_nnf_of q (not negate) ∷ [])
negated-Implies p q negate = plain-Implies p q (not negate) ∙ ap (λ (c : Bool). listed c (plain_nnf_of p (not (not negate)) ∷ plain_nnf_of q (not negate) ∷ [])) (not_twice negate)

pub negated-Exists : (bs : List Binder) (p : Formula) (negate : Bool) → plain_nnf_of (Exists bs p) (not negate) ≡ quantified negate bs (plain_nnf_of p (not negate))
negated-Exists bs p negate = plain-Exists bs p (not negate) ∙ ap (λ (c : Bool). quantified c bs (plain_nnf_of p (not negate))) (not_twice negate)
