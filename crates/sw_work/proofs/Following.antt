-- What follows from a list follows from a longer one, and what is known to follow grows.
use Rattle.std.specs.Prelude.{◌≡◌, ℕ, List, [], ◌∷◌, ◌++◌, Contains}
use Rattle.std.specs.List.{AllByRecursion}
use Rattle.std.proofs.Common.{sym, subst}
use Rattle.std.proofs.lemmas.List.{map-append}
use mathlib.Core.List.{IsPrefix}
use Rattle.sw_lists.proofs.Each.{each-front, each-push, each-weaker, of_contained}
use Rattle.sw_logic.specs.declared.syntax.Formula.{Formula}
use Rattle.sw_logic.specs.Truth.{IsTrueIn, AreTrueIn}
use Rattle.sw_meaning.specs.Inductive.{Follows}
use Rattle.sw_template.specs.Bodies.{Class}
use Rattle.sw_core.specs.Machine.{Search, formula_in}
use Rattle.sw_walk.specs.Parts.{classes_of}
use Rattle.sw_work.specs.declared.implied.Implied.{Implied}
use Rattle.sw_work.specs.Steps.{AreImplied}

-- the class follows
abbrev Known : Search → List Formula → List ℕ → Type 0
Known m g c = Follows m.protocol g (formula_in m c)

follows_longer : (m : Search) (g h : List Formula) → IsPrefix g h → (c : List ℕ) → Known m g c → Known m h c
follows_longer m g h p c f = λ s fits axioms list. f s fits axioms (each-front (IsTrueIn m.protocol.signature s) g p.0 (subst (AreTrueIn m.protocol.signature s) (sym p.1) list))

pub implied_longer : (m : Search) (g h : List Formula) (i : Implied) → IsPrefix g h → AreImplied m g i → AreImplied m h i
implied_longer m g h i p a = record {
  before = each-weaker (Known m g) (Known m h) (follows_longer m g h p) (classes_of i.before) a.before;
  now = each-weaker (Known m g) (Known m h) (follows_longer m g h p) (classes_of i.now) a.now;
}

pub implied_added : (m : Search) (g : List Formula) (i j : Implied) (b : Class) → j.before ≡ i.before → j.now ≡ i.now ++ b ∷ [] → AreImplied m g i → Follows m.protocol g (formula_in m b.cubes) → AreImplied m g j
implied_added m g i j b e n a f = record {
  before = subst (λ (bs : List Class). AllByRecursion (Known m g) (classes_of bs)) (sym e) a.before;
  now = subst (λ (bs : List Class). AllByRecursion (Known m g) (classes_of bs)) (sym n)
      (subst (AllByRecursion (Known m g)) (sym (map-append (λ (x : Class). x.cubes) i.now (b ∷ []))) (each-push (Known m g) (classes_of i.now) b.cubes a.now f));
}

pub implied_same : (m : Search) (g : List Formula) (i j : Implied) → j.before ≡ i.before → j.now ≡ i.now → AreImplied m g i → AreImplied m g j
implied_same m g i j e n a = record {
  before = subst (λ (bs : List Class). AllByRecursion (Known m g) (classes_of bs)) (sym e) a.before;
  now = subst (λ (bs : List Class). AllByRecursion (Known m g) (classes_of bs)) (sym n) a.now;
}

pub implied_begun : (m : Search) (g : List Formula) (i j : Implied) → j.before ≡ i.now → j.now ≡ [] → AreImplied m g i → AreImplied m g j
implied_begun m g i j e n a = record {
  before = subst (λ (bs : List Class). AllByRecursion (Known m g) (classes_of bs)) (sym e) a.now;
  now = subst (λ (bs : List Class). AllByRecursion (Known m g) (classes_of bs)) (sym n) tt;
}

pub implied_none : (m : Search) (g : List Formula) (i : Implied) → i.before ≡ [] → i.now ≡ [] → AreImplied m g i
implied_none m g i e n = record {
  before = subst (λ (bs : List Class). AllByRecursion (Known m g) (classes_of bs)) (sym e) tt;
  now = subst (λ (bs : List Class). AllByRecursion (Known m g) (classes_of bs)) (sym n) tt;
}

pub known_follows : (m : Search) (g : List Formula) (i : Implied) (c : List ℕ) → AreImplied m g i → Contains (classes_of i.before) c → Follows m.protocol g (formula_in m c)
known_follows m g i c a k = of_contained (Known m g) (classes_of i.before) c a.before k
