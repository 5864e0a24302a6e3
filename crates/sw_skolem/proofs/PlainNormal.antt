-- The negation normal form is normal.
use Rattle.std.specs.Prelude.{ℕ, Bool, true, false, not, List, [], ◌∷◌, map}
use Rattle.std.specs.List.{AllByRecursion}
use Rattle.std.proofs.Common.{sym, subst}
use Rattle.sw_logic.specs.declared.syntax.Binder.{Binder}
use Rattle.sw_logic.specs.declared.syntax.Term.{Term}
use Rattle.sw_logic.specs.declared.syntax.Formula.{Formula, roll-Formula, map-Formula}
use Rattle.sw_logic.specs.declared.syntax.Formula.TheOpen.{Formula-F}
use Rattle.sw_logic.specs.declared.syntax.Formula.TheFolds.{ind-Formula}
use Rattle.sw_logic.specs.declared.syntax.Formula.TheVariants.{Holds, Equal, All, Any, Iff}
use Rattle.sw_logic.specs.declared.syntax.Formula.TheVariants.{rolls-True, rolls-False, rolls-Holds, rolls-Equal, rolls-Not, rolls-All, rolls-Any, rolls-Implies, rolls-Iff, rolls-ForAll, rolls-Exists}
use Rattle.sw_skolem.specs.Normal.{constant, signed, IsLiteral, IsNormal, AreNormal}
use Rattle.sw_skolem.specs.Absorbing.{listed, quantified, plain_nnf_of}
use Rattle.sw_lists.proofs.Each.{each-pairs}
use Rattle.sw_skolem.proofs.PlainSteps.{plain-True, plain-False, plain-Holds, plain-Equal, plain-Not, plain-All, plain-Any, plain-Implies, plain-Iff, plain-not_Iff, plain-ForAll, plain-Exists}

abbrev Turns : Formula → Type 0
Turns f = (c : Bool) → IsNormal (plain_nnf_of f c)

constant_normal : (c : Bool) → IsNormal (constant c)
constant_normal true = IsNormal.truth
constant_normal false = IsNormal.falsity

signed_holds : (k : ℕ) (post : Bool) (args : List Term) (c : Bool) → IsNormal (signed c (Holds k post args))
signed_holds k post args true = IsNormal.literal (IsLiteral.holds k post args)
signed_holds k post args false = IsNormal.literal (IsLiteral.not_holds k post args)

signed_equal : (a b : Term) (c : Bool) → IsNormal (signed c (Equal a b))
signed_equal a b true = IsNormal.literal (IsLiteral.equal a b)
signed_equal a b false = IsNormal.literal (IsLiteral.not_equal a b)

listed_normal : (c : Bool) (ps : List Formula) → AreNormal ps → IsNormal (listed c ps)
listed_normal true ps n = IsNormal.all ps n
listed_normal false ps n = IsNormal.any ps n

quantified_normal : (c : Bool) (bs : List Binder) (p : Formula) → IsNormal p → IsNormal (quantified c bs p)
quantified_normal true bs p n = IsNormal.for_all bs p n
quantified_normal false bs p n = IsNormal.exists bs p n

pair_normal : (c : Bool) (p q : Formula) → IsNormal p → IsNormal q → IsNormal (listed c (p ∷ q ∷ []))
pair_normal c p q n m = listed_normal c (p ∷ q ∷ []) (AreNormal.more p (q ∷ []) n (AreNormal.more q [] m AreNormal.none))

parts_normal : (c : Bool) (ps : List Formula) → AllByRecursion Turns ps → AreNormal (map (λ (p : Formula). plain_nnf_of p c) ps)
parts_normal c [] h = AreNormal.none
parts_normal c (p ∷ ps) h = AreNormal.more (plain_nnf_of p c) (map (λ (q : Formula). plain_nnf_of q c) ps) (h.0 c) (parts_normal c ps h.1)

iff_normal : (p q : Formula) → Turns p → Turns q → Turns (Iff p q)
iff_normal p q h k true =
    subst IsNormal (sym (plain-Iff p q))
    (pair_normal true (Any (plain_nnf_of p false ∷ plain_nnf_of q true ∷ [])) (Any (plain_nnf_of q false ∷ plain_nnf_of p true ∷ []))
    (pair_normal false (plain_nnf_of p false) (plain_nnf_of q true) (h false) (k true)) (pair_normal false (plain_nnf_of q false) (plain_nnf_of p true) (k false) (h true)))
iff_normal p q h k false =
    subst IsNormal (sym (plain-not_Iff p q))
    (pair_normal false (All (plain_nnf_of p true ∷ plain_nnf_of q false ∷ [])) (All (plain_nnf_of q true ∷ plain_nnf_of p false ∷ []))
    (pair_normal true (plain_nnf_of p true) (plain_nnf_of q false) (h true) (k false)) (pair_normal true (plain_nnf_of q true) (plain_nnf_of p false) (k true) (h false)))

layer : (y : Formula-F ((f : Formula) × Turns f)) → Turns (roll-Formula (map-Formula ((f : Formula) × Turns f) Formula (λ e. e.0) y))
layer Formula-F.True = subst Turns (sym rolls-True) (λ c. subst IsNormal (sym (plain-True c)) (constant_normal c))
layer Formula-F.False = subst Turns (sym rolls-False) (λ c. subst IsNormal (sym (plain-False c)) (constant_normal (not c)))
layer (Formula-F.Holds k post args) = subst Turns (sym (rolls-Holds k post args)) (λ c. subst IsNormal (sym (plain-Holds k post args c)) (signed_holds k post args c))
layer (Formula-F.Equal t u) = subst Turns (sym (rolls-Equal t u)) (λ c. subst IsNormal (sym (plain-Equal t u c)) (signed_equal t u c))
layer (Formula-F.Not p) = subst Turns (sym (rolls-Not p.0)) (λ c. subst IsNormal (sym (plain-Not p.0 c)) (p.1 (not c)))
layer (Formula-F.All ps) =
    let qs = map (λ (e : (f : Formula) × Turns f). e.0) ps in
    subst Turns (sym (rolls-All qs)) (λ c. subst IsNormal (sym (plain-All qs c)) (listed_normal c (map (λ (p : Formula). plain_nnf_of p c) qs) (parts_normal c qs (each-pairs Turns ps))))
layer (Formula-F.Any ps) =
    let qs = map (λ (e : (f : Formula) × Turns f). e.0) ps in
    subst Turns (sym (rolls-Any qs)) (λ c. subst IsNormal (sym (plain-Any qs c)) (listed_normal (not c) (map (λ (p : Formula). plain_nnf_of p c) qs) (parts_normal c qs (each-pairs Turns ps))))
layer (Formula-F.Implies p q) =
    subst Turns (sym (rolls-Implies p.0 q.0)) (λ c. subst IsNormal (sym (plain-Implies p.0 q.0 c)) (pair_normal (not c) (plain_nnf_of p.0 (not c)) (plain_nnf_of q.0 c) (p.1 (not c)) (q.1 c)))
layer (Formula-F.Iff p q) = subst Turns (sym (rolls-Iff p.0 q.0)) (iff_normal p.0 q.0 p.1 q.1)
layer (Formula-F.ForAll bs p) = subst Turns (sym (rolls-ForAll bs p.0)) (λ c. subst IsNormal (sym (plain-ForAll bs p.0 c)) (quantified_normal c bs (plain_nnf_of p.0 c) (p.1 c)))
layer (Formula-F.Exists bs p) = subst Turns (sym (rolls-Exists bs p.0)) (λ c. subst IsNormal (sym (plain-Exists bs p.0 c)) (quantified_normal (not c) bs (plain_nnf_of p.0 c) (p.1 c)))

pub turns_normal : (f : Formula) → Turns f
turns_normal = ind-Formula Turns (λ x y is. subst (λ z. Turns (roll-Formula z)) is (layer y))
