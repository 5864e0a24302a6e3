-- What the names of clauses are worth in a structure.
use Rattle.std.specs.Prelude.{◌≡◌, ◌<◌, ℕ, Bool, true, false, List, [], ◌∷◌, Option, Some, None, unwrap_or, slice_get}
use Rattle.sw_logic.specs.declared.syntax.Formula.{Formula, out-Formula}
use Rattle.sw_logic.specs.declared.syntax.Formula.TheVariants as formula
use Rattle.sw_logic.specs.declared.syntax.Formula.TheOpen.{Formula-F}
use Rattle.sw_logic.specs.declared.syntax.Signature.{Signature}
use Rattle.sw_logic.specs.declared.structure.Structure.{Structure}
use Rattle.sw_logic.specs.Fits.{fits}
use Rattle.sw_logic.specs.Truth.{World, world, truth, value_of, values_of, size_of}
use Rattle.sw_truth.specs.declared.sets.Piece.{Piece}
use Rattle.sw_truth.specs.declared.sets.SkolemSet.{SkolemSet}
use Rattle.sw_universe.specs.declared.universe.Universe.{Universe}
use Rattle.sw_truth.specs.declared.instances.Instance.{Instance}
use Rattle.sw_truth.specs.declared.instances.Instance.TheVariants.{Of, Reflexive, Symmetric, Transitive, Congruent}
use Rattle.sw_universe.specs.ByNumber.{counts, term_at, terms_at}
use Rattle.sw_instances.specs.Named.{Name, related, equated, inner}

-- part k of a negation, a conjunction or a disjunction; of another formula, itself
abbrev pub part_layer : ℕ → Formula → Formula-F Formula → Formula
part_layer k f (Formula-F.Not p) = p
part_layer k f (Formula-F.All ps) = unwrap_or (slice_get ps k) f
part_layer k f (Formula-F.Any ps) = unwrap_or (slice_get ps k) f
part_layer k f Formula-F.True = f
part_layer k f Formula-F.False = f
part_layer k f (Formula-F.Holds symbol post args) = f
part_layer k f (Formula-F.Equal a b) = f
part_layer k f (Formula-F.Implies p q) = f
part_layer k f (Formula-F.Iff p q) = f
part_layer k f (Formula-F.ForAll binders p) = f
part_layer k f (Formula-F.Exists binders p) = f

-- the part at a path
abbrev pub part_at : Formula → List ℕ → Formula
part_at f [] = f
part_at f (k ∷ path) = part_at (part_layer k f (out-Formula f)) path

-- the truth of an instance's part
abbrev pub part_holds : World → Universe → Option Piece → List ℕ → List ℕ → Bool
part_holds w u None ns path = false
part_holds w u (Some p) ns path = truth w (part_at p.matrix path) (values_of w [] (terms_at u p.vars ns))

abbrev pub inner_holds : World → SkolemSet → Universe → Option Instance → List ℕ → Bool
inner_holds w set u None path = false
inner_holds w set u (Some (Of piece ns)) path = part_holds w u (slice_get set.pieces piece) ns path
inner_holds w set u (Some (Reflexive sort t)) path = false
inner_holds w set u (Some (Symmetric sort t v)) path = false
inner_holds w set u (Some (Transitive sort t v x)) path = false
inner_holds w set u (Some (Congruent symbol place ns v)) path = false

-- the truth in a structure of what a name stands for
abbrev pub name_holds : World → SkolemSet → Universe → List Instance → Name → Bool
name_holds w set u is (related symbol ts) = truth w (formula.Holds symbol false ts) []
name_holds w set u is (equated t v) = truth w (formula.Equal t v) []
name_holds w set u is (inner []) = false
name_holds w set u is (inner (k ∷ path)) = inner_holds w set u (slice_get is k) path

-- every ground term has a value of its sort in every structure of the signature
abbrev pub HaveValues : Signature → Universe → Type 0
HaveValues sig u =
    (s : Structure) → fits sig s ≡ true
    → (sort n : ℕ) → n < size_of (counts u) sort → value_of (world sig s s) [] (term_at u sort n) < size_of s.sizes sort
