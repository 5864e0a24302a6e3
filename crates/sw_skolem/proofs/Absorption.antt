-- The negation normal form with `true` and `false` absorbed afterwards is the one that absorbs them on the way.
use Rattle.std.specs.Prelude.{◌≡◌, ℕ, Bool, true, false, not, cond, List, [], ◌∷◌, map}
use Rattle.std.specs.List.{AllByRecursion}
use Rattle.std.proofs.Common.{rules, refl, sym, ap, subst, ◌∙◌}
use Rattle.sw_logic.specs.declared.syntax.Binder.{Binder}
use Rattle.sw_logic.specs.declared.syntax.Term.{Term}
use Rattle.sw_logic.specs.declared.syntax.Formula.{Formula, roll-Formula, map-Formula, the_lemmas}
use Rattle.sw_logic.specs.declared.syntax.Formula.TheOpen.{Formula-F}
use Rattle.sw_logic.specs.declared.syntax.Formula.TheFolds.{ind-Formula}
use Rattle.sw_logic.specs.declared.syntax.Formula.TheVariants.{True, False, Holds, Equal, Not, All, Any, Implies, Iff, ForAll, Exists}
use Rattle.sw_logic.specs.declared.syntax.Formula.TheVariants.{rolls-True, rolls-False, rolls-Holds, rolls-Equal, rolls-Not, rolls-All, rolls-Any, rolls-Implies, rolls-Iff, rolls-ForAll, rolls-Exists}
use Rattle.sw_skolem.specs.Normal.{constant, signed, gathered, conjunction, disjunction, universal, existential, nnf_of}
use Rattle.sw_skolem.specs.Absorbing.{listed, quantified, plain_nnf_of, absorbed}
use Rattle.sw_lists.proofs.Each.{each-pairs}
use Rattle.sw_skolem.proofs.NnfSteps.{nnf-All, nnf-Any, nnf-Implies, nnf-Iff, nnf-not_Iff, nnf-ForAll, nnf-Exists}
use Rattle.sw_skolem.proofs.PlainSteps.{plain-True, plain-False, plain-Holds, plain-Equal, plain-Not, plain-All, plain-Iff, plain-not_Iff, plain-ForAll, negated-Any, negated-Implies, negated-Exists}

-- what is absorbed of each kind
absorbed_constant : (c : Bool) → absorbed (constant c) ≡ constant c
absorbed_constant true = search (rules, the_lemmas)
absorbed_constant false = search (rules, the_lemmas)

absorbed-Holds : (k : ℕ) (post : Bool) (args : List Term) (c : Bool) → absorbed (signed c (Holds k post args)) ≡ signed c (Holds k post args)
absorbed-Holds k post args true = search (rules, the_lemmas)
absorbed-Holds k post args false = search (rules, the_lemmas)

absorbed-Equal : (a b : Term) (c : Bool) → absorbed (signed c (Equal a b)) ≡ signed c (Equal a b)
absorbed-Equal a b true = search (rules, the_lemmas)
absorbed-Equal a b false = search (rules, the_lemmas)

pub absorbed_listed : (c : Bool) (ps : List Formula) → absorbed (listed c ps) ≡ gathered c (map absorbed ps)
absorbed_listed true ps = search (rules, the_lemmas)
absorbed_listed false ps = search (rules, the_lemmas)

pub absorbed_quantified : (c : Bool) (bs : List Binder) (p : Formula) → absorbed (quantified c bs p) ≡ cond c (universal bs (absorbed p)) (existential bs (absorbed p))
absorbed_quantified true bs p = search (rules, the_lemmas)
absorbed_quantified false bs p = search (rules, the_lemmas)

abbrev Absorbs : Formula → Type 0
Absorbs f = (negate : Bool) → absorbed (plain_nnf_of f (not negate)) ≡ nnf_of f (not negate)

true_absorbs : Absorbs True
true_absorbs n =
    let step : nnf_of True (not n) ≡ constant (not n) = search (rules, the_lemmas) in
    ap absorbed (plain-True (not n)) ∙ (absorbed_constant (not n) ∙ sym step)

false_absorbs : Absorbs False
false_absorbs n =
    let step : nnf_of False (not n) ≡ constant (not (not n)) = search (rules, the_lemmas) in
    ap absorbed (plain-False (not n)) ∙ (absorbed_constant (not (not n)) ∙ sym step)

holds_absorbs : (k : ℕ) (post : Bool) (args : List Term) → Absorbs (Holds k post args)
holds_absorbs k post args n =
    let step : nnf_of (Holds k post args) (not n) ≡ signed (not n) (Holds k post args) = search (rules, the_lemmas) in
    ap absorbed (plain-Holds k post args (not n)) ∙ (absorbed-Holds k post args (not n) ∙ sym step)

equal_absorbs : (a b : Term) → Absorbs (Equal a b)
equal_absorbs a b n =
    let step : nnf_of (Equal a b) (not n) ≡ signed (not n) (Equal a b) = search (rules, the_lemmas) in
    ap absorbed (plain-Equal a b (not n)) ∙ (absorbed-Equal a b (not n) ∙ sym step)

not_absorbs : (p : Formula) → Absorbs p → Absorbs (Not p)
not_absorbs p h n =
    let step : nnf_of (Not p) (not n) ≡ nnf_of p (not (not n)) = search (rules, the_lemmas) in
    ap absorbed (plain-Not p (not n)) ∙ (h (not n) ∙ sym step)

parts_absorbed : (n : Bool) (ps : List Formula) → AllByRecursion Absorbs ps → map absorbed (map (λ (p : Formula). plain_nnf_of p (not n)) ps) ≡ map (λ (p : Formula). nnf_of p (not n)) ps
parts_absorbed n [] h = refl
parts_absorbed n (p ∷ ps) h =
    ap (λ (f : Formula). f ∷ map absorbed (map (λ (q : Formula). plain_nnf_of q (not n)) ps)) (h.0 n) ∙ ap (λ (fs : List Formula). nnf_of p (not n) ∷ fs) (parts_absorbed n ps h.1)

all_absorbs : (ps : List Formula) → AllByRecursion Absorbs ps → Absorbs (All ps)
all_absorbs ps h n =
    ap absorbed (plain-All ps (not n)) ∙ (absorbed_listed (not n) (map (λ (p : Formula). plain_nnf_of p (not n)) ps) ∙ (ap (gathered (not n)) (parts_absorbed n ps h) ∙ sym (nnf-All n ps)))

any_absorbs : (ps : List Formula) → AllByRecursion Absorbs ps → Absorbs (Any ps)
any_absorbs ps h n =
    ap absorbed (negated-Any ps n) ∙ (absorbed_listed n (map (λ (p : Formula). plain_nnf_of p (not n)) ps) ∙ (ap (gathered n) (parts_absorbed n ps h) ∙ sym (nnf-Any n ps)))

two_absorbed : (c : Bool) (p q f g : Formula) → absorbed p ≡ f → absorbed q ≡ g → absorbed (listed c (p ∷ q ∷ [])) ≡ gathered c (f ∷ g ∷ [])
two_absorbed c p q f g e h =
    absorbed_listed c (p ∷ q ∷ []) ∙ (ap (λ (x : Formula). gathered c (x ∷ absorbed q ∷ [])) e ∙ ap (λ (x : Formula). gathered c (f ∷ x ∷ [])) h)

implies_absorbs : (p q : Formula) → Absorbs p → Absorbs q → Absorbs (Implies p q)
implies_absorbs p q h k n =
    ap absorbed (negated-Implies p q n)
    ∙ (two_absorbed n (plain_nnf_of p (not (not n))) (plain_nnf_of q (not n)) (nnf_of p (not (not n))) (nnf_of q (not n)) (h (not n)) (k n) ∙ sym (nnf-Implies n p q))

iff_absorbs : (p q : Formula) → Absorbs p → Absorbs q → Absorbs (Iff p q)
iff_absorbs p q h k false =
    let left = two_absorbed false (plain_nnf_of p false) (plain_nnf_of q true) (nnf_of p false) (nnf_of q true) (h true) (k false) in
    let right = two_absorbed false (plain_nnf_of q false) (plain_nnf_of p true) (nnf_of q false) (nnf_of p true) (k true) (h false) in
    ap absorbed (plain-Iff p q)
    ∙ (two_absorbed true (Any (plain_nnf_of p false ∷ plain_nnf_of q true ∷ [])) (Any (plain_nnf_of q false ∷ plain_nnf_of p true ∷ []))
    (disjunction (nnf_of p false ∷ nnf_of q true ∷ [])) (disjunction (nnf_of q false ∷ nnf_of p true ∷ [])) left right ∙ sym (nnf-Iff p q))
iff_absorbs p q h k true =
    let left = two_absorbed true (plain_nnf_of p true) (plain_nnf_of q false) (nnf_of p true) (nnf_of q false) (h false) (k true) in
    let right = two_absorbed true (plain_nnf_of q true) (plain_nnf_of p false) (nnf_of q true) (nnf_of p false) (k false) (h true) in
    ap absorbed (plain-not_Iff p q)
    ∙ (two_absorbed false (All (plain_nnf_of p true ∷ plain_nnf_of q false ∷ [])) (All (plain_nnf_of q true ∷ plain_nnf_of p false ∷ []))
    (conjunction (nnf_of p true ∷ nnf_of q false ∷ [])) (conjunction (nnf_of q true ∷ nnf_of p false ∷ [])) left right ∙ sym (nnf-not_Iff p q))

for_all_absorbs : (bs : List Binder) (p : Formula) → Absorbs p → Absorbs (ForAll bs p)
for_all_absorbs bs p h n =
    ap absorbed (plain-ForAll bs p (not n)) ∙ (absorbed_quantified (not n) bs (plain_nnf_of p (not n))
    ∙ (ap (λ (f : Formula). cond (not n) (universal bs f) (existential bs f)) (h n) ∙ sym (nnf-ForAll n bs p)))

exists_absorbs : (bs : List Binder) (p : Formula) → Absorbs p → Absorbs (Exists bs p)
exists_absorbs bs p h n =
    ap absorbed (negated-Exists bs p n) ∙ (absorbed_quantified n bs (plain_nnf_of p (not n))
    ∙ (ap (λ (f : Formula). cond n (universal bs f) (existential bs f)) (h n) ∙ sym (nnf-Exists n bs p)))

layer : (y : Formula-F ((f : Formula) × Absorbs f)) → Absorbs (roll-Formula (map-Formula ((f : Formula) × Absorbs f) Formula (λ e. e.0) y))
layer Formula-F.True = subst Absorbs (sym rolls-True) true_absorbs
layer Formula-F.False = subst Absorbs (sym rolls-False) false_absorbs
layer (Formula-F.Holds k post args) = subst Absorbs (sym (rolls-Holds k post args)) (holds_absorbs k post args)
layer (Formula-F.Equal t u) = subst Absorbs (sym (rolls-Equal t u)) (equal_absorbs t u)
layer (Formula-F.Not p) = subst Absorbs (sym (rolls-Not p.0)) (not_absorbs p.0 p.1)
layer (Formula-F.All ps) = subst Absorbs (sym (rolls-All (map (λ e. e.0) ps))) (all_absorbs (map (λ e. e.0) ps) (each-pairs Absorbs ps))
layer (Formula-F.Any ps) = subst Absorbs (sym (rolls-Any (map (λ e. e.0) ps))) (any_absorbs (map (λ e. e.0) ps) (each-pairs Absorbs ps))
layer (Formula-F.Implies p q) = subst Absorbs (sym (rolls-Implies p.0 q.0)) (implies_absorbs p.0 q.0 p.1 q.1)
layer (Formula-F.Iff p q) = subst Absorbs (sym (rolls-Iff p.0 q.0)) (iff_absorbs p.0 q.0 p.1 q.1)
layer (Formula-F.ForAll bs p) = subst Absorbs (sym (rolls-ForAll bs p.0)) (for_all_absorbs bs p.0 p.1)
layer (Formula-F.Exists bs p) = subst Absorbs (sym (rolls-Exists bs p.0)) (exists_absorbs bs p.0 p.1)

pub absorbs : (f : Formula) → Absorbs f
absorbs = ind-Formula Absorbs (λ x y is. subst (λ z. Absorbs (roll-Formula z)) is (layer y))
