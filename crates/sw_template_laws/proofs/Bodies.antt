-- Formulas without quantifiers have no edges.
use Rattle.std.specs.Prelude.{◌≡◌, ℕ, Bool, true, false, not, List, [], ◌∷◌, ◌++◌, map}
use Rattle.std.specs.List.{AllByRecursion, flat_map}
use Rattle.std.proofs.Common.{rules, refl, sym, ap, subst, ◌∙◌}
use Rattle.sw_logic.specs.declared.syntax.Edge.{Edge}
use Rattle.sw_logic.specs.declared.syntax.Term.{Term}
use Rattle.sw_logic.specs.declared.syntax.Formula as formulas
use Rattle.sw_logic.specs.declared.syntax.Formula.{Formula}
use Rattle.sw_logic.specs.declared.syntax.Formula.TheOpen.{Formula-F}
use Rattle.sw_logic.specs.declared.syntax.Formula.TheFolds.{fold-Formula}
use Rattle.sw_logic.specs.declared.syntax.Formula.TheVariants.{Holds, Equal, Not, All, Any}
use Rattle.sw_logic.specs.Strata.{Part, part_step}
use Rattle.sw_meaning.specs.Space.{IsAtom, IsLiteral, all_of, any_of}

abbrev pub part_of : Formula → Part
part_of f = fold-Formula Part part_step f

abbrev pub HasNoEdges : Formula → Type 0
HasNoEdges f = (positive : Bool) (scope : List (List ℕ)) → (part_of f).edges positive scope ≡ []

holds_none : (symbol : ℕ) (args : List Term) → HasNoEdges (Holds symbol false args)
holds_none symbol args positive scope =
    let step : part_of (Holds symbol false args) ≡ part_step (Formula-F.Holds symbol false args) = search (rules, formulas.the_lemmas) in
    ap (λ (q : Part). q.edges positive scope) step

equal_none : (a b : Term) → HasNoEdges (Equal a b)
equal_none a b positive scope =
    let step : part_of (Equal a b) ≡ part_step (Formula-F.Equal a b) = search (rules, formulas.the_lemmas) in
    ap (λ (q : Part). q.edges positive scope) step

not_none : (f : Formula) → HasNoEdges f → HasNoEdges (Not f)
not_none f h positive scope =
    let step : part_of (Not f) ≡ part_step (Formula-F.Not (part_of f)) = search (rules, formulas.the_lemmas) in
    ap (λ (q : Part). q.edges positive scope) step ∙ h (not positive) scope

none_together : (fs : List Formula) → AllByRecursion HasNoEdges fs → (positive : Bool) (scope : List (List ℕ)) → flat_map (λ (q : Part). q.edges positive scope) (map part_of fs) ≡ []
none_together [] h positive scope = refl
none_together (f ∷ fs) h positive scope = ap (λ es. es ++ flat_map (λ (q : Part). q.edges positive scope) (map part_of fs)) (h.0 positive scope) ∙ none_together fs h.1 positive scope

all_none : (fs : List Formula) → AllByRecursion HasNoEdges fs → HasNoEdges (All fs)
all_none fs h positive scope =
    let step : part_of (All fs) ≡ part_step (Formula-F.All (map part_of fs)) = search (rules, formulas.the_lemmas) in
    ap (λ (q : Part). q.edges positive scope) step ∙ none_together fs h positive scope

any_none : (fs : List Formula) → AllByRecursion HasNoEdges fs → HasNoEdges (Any fs)
any_none fs h positive scope =
    let step : part_of (Any fs) ≡ part_step (Formula-F.Any (map part_of fs)) = search (rules, formulas.the_lemmas) in
    ap (λ (q : Part). q.edges positive scope) step ∙ none_together fs h positive scope

all_of_none : (fs : List Formula) → AllByRecursion HasNoEdges fs → HasNoEdges (all_of fs)
all_of_none [] h = all_none [] h
all_of_none (f ∷ []) h = h.0
all_of_none (f ∷ g ∷ fs) h = all_none (f ∷ g ∷ fs) h

any_of_none : (fs : List Formula) → AllByRecursion HasNoEdges fs → HasNoEdges (any_of fs)
any_of_none [] h = any_none [] h
any_of_none (f ∷ []) h = h.0
any_of_none (f ∷ g ∷ fs) h = any_none (f ∷ g ∷ fs) h

atom_none : (depth : ℕ) (f : Formula) → IsAtom depth f → HasNoEdges f
atom_none depth f (IsAtom.holds symbol args e h) = subst HasNoEdges (sym e) (holds_none symbol args)
atom_none depth f (IsAtom.equal a b e d h k) = subst HasNoEdges (sym e) (equal_none a b)

literal_none : (depth : ℕ) (f : Formula) → IsLiteral depth f → HasNoEdges f
literal_none depth f (IsLiteral.plain a) = atom_none depth f a
literal_none depth f (IsLiteral.negated atom e a) = subst HasNoEdges (sym e) (not_none atom (atom_none depth atom a))

cube_none : (depth : ℕ) (fs : List Formula) → AllByRecursion (IsLiteral depth) fs → AllByRecursion HasNoEdges fs
cube_none depth [] h = tt
cube_none depth (f ∷ fs) h = (literal_none depth f h.0, cube_none depth fs h.1)

cubes_none : (depth : ℕ) (cubes : List (List Formula)) → AllByRecursion (λ cube. AllByRecursion (IsLiteral depth) cube) cubes → AllByRecursion HasNoEdges (map all_of cubes)
cubes_none depth [] h = tt
cubes_none depth (cube ∷ cubes) h = (all_of_none cube (cube_none depth cube h.0), cubes_none depth cubes h.1)

pub body_none : (depth : ℕ) (body : List (List Formula)) → AllByRecursion (λ cube. AllByRecursion (IsLiteral depth) cube) body → HasNoEdges (any_of (map all_of body))
body_none depth body h = any_of_none (map all_of body) (cubes_none depth body h)
