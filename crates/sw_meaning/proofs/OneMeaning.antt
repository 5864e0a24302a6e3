-- Two lists that are earned and closed follow from each other, and have one word.
use Rattle.std.specs.Prelude.{◌≡◌, true, false, is_some, List, [], ◌∷◌, ◌++◌, Option, None, IsSome}
use Rattle.std.specs.List.{AllByRecursion}
use Rattle.std.proofs.Common.{subst, sym}
use Rattle.sw_logic.specs.declared.syntax.Formula.{Formula}
use Rattle.sw_logic.specs.declared.structure.Structure.{Structure}
use Rattle.sw_logic.specs.Fits.{fits}
use Rattle.sw_logic.specs.Truth.{AreTrueIn}
use Rattle.sw_meaning.specs.declared.protocol.Protocol.{Protocol}
use Rattle.sw_meaning.specs.declared.template.Template.{Template}
use Rattle.sw_meaning.specs.Space.{InSpaceOf}
use Rattle.sw_meaning.specs.Inductive.{EarnedAfter, Closed, Follows, Inductive}
use Rattle.sw_meaning.specs.Verdict.{Word, Verdict, SafeBy, NotSafeBy, Joins}
use Rattle.sw_meaning.specs.Laws.{SameWord, ListsHaveOneMeaning}
use Rattle.sw_meaning.proofs.Lists.{AreTrueIn-push}

-- every one of the formulas follows from the list
abbrev AllFollow : Protocol → List Formula → List Formula → Type 0
AllFollow p g h = (s : Structure) → fits p.signature s ≡ true → AreTrueIn p.signature s p.axioms → AreTrueIn p.signature s g → AreTrueIn p.signature s h

-- what is inductive under a list is so under one that the list follows from
inductive_under : (p : Protocol) (g h : List Formula) (f : Formula) → AllFollow p g h → Inductive p h f → Inductive p g f
inductive_under p g h f all i = record { start = i.start; kept = λ s t x a b. i.kept s t x (all s x.fits.before x.axioms a) b }

all_follow : (p : Protocol) (t : Option Template) (g before h : List Formula) → Closed p t g → AllFollow p g before → EarnedAfter p t before h → AllFollow p g h
all_follow p t g before [] closed all earned s k x a = tt
all_follow p t g before (f ∷ fs) closed all earned s k x a =
    let follows : Follows p g f = closed f earned.0 (inductive_under p g before f all earned.1) in (
      follows s k x a,
      all_follow p t g (before ++ f ∷ []) fs closed (λ u l y b. AreTrueIn-push p.signature u before f (all u l y b) (follows u l y b)) earned.3 s k x a,
    )

each_follows : (p : Protocol) (g h : List Formula) → AllFollow p g h → AllByRecursion (Follows p g) h
each_follows p g [] all = tt
each_follows p g (f ∷ fs) all = (λ s k x a. (all s k x a).0, each_follows p g fs (λ s k x a. (all s k x a).1))

-- a word that stands for itself
same_by : (w v x y : Word) → w ≡ x → v ≡ y → SameWord x y → SameWord w v
same_by w v x y e d h = subst (λ z. SameWord z v) (sym e) (subst (λ z. SameWord x z) (sym d) h)

not_both : (p : Protocol) (g h : List Formula) → AllFollow p h g → SafeBy p g → NotSafeBy p h → ⊥
not_both p g h all b n = n.unsafe (b.step n.before n.after n.step (all n.before n.step.fits.before n.step.axioms n.list) n.safe)

joins_under : (p : Protocol) (g h : List Formula) (f : Formula) → AllFollow p h g → Joins p g f → Joins p h f
joins_under p g h f all j = record {
  start = j.start;
  safe = λ s t x a. j.safe s t x (all s x.fits.before x.axioms a);
  kept = λ s t x a. j.kept s t x (all s x.fits.before x.axioms a);
}

none_given : {X : Type 0} (o : Option X) → o ≡ None → IsSome o → ⊥
none_given {X} o e h = let k : false ≡ true = subst (λ u. is_some u ≡ true) e h in cc

in_none : (p : Protocol) (t : Option Template) (f : Formula) → t ≡ None → InSpaceOf p t f → ⊥
in_none p t f e h = subst (λ o. InSpaceOf p o f) e h

same_word : (p : Protocol) (t : Option Template) (g h : List Formula) → AllFollow p g h → AllFollow p h g → (w v : Word) → Verdict p t g w → Verdict p t h v → SameWord w v
same_word p t g h to from w v (Verdict.violated e x) (Verdict.violated d y) = same_by _ _ _ _ e d tt
same_word p t g h to from w v (Verdict.violated e x) (Verdict.safe d y) = absurd (x.unsafe (y.start x.state x.start))
same_word p t g h to from w v (Verdict.violated e x) (Verdict.safe_with f d y i j) = absurd (x.unsafe (y.start x.state x.start))
same_word p t g h to from w v (Verdict.violated e x) (Verdict.exhausted d y i j) = absurd (x.unsafe (y.start x.state x.start))
same_word p t g h to from w v (Verdict.violated e x) (Verdict.unsettled d y i) = absurd (x.unsafe (y.start x.state x.start))
same_word p t g h to from w v (Verdict.safe e x) (Verdict.violated d y) = absurd (y.unsafe (x.start y.state y.start))
same_word p t g h to from w v (Verdict.safe e x) (Verdict.safe d y) = same_by _ _ _ _ e d tt
same_word p t g h to from w v (Verdict.safe e x) (Verdict.safe_with f d y i j) = absurd (not_both p g h from x y)
same_word p t g h to from w v (Verdict.safe e x) (Verdict.exhausted d y i j) = absurd (not_both p g h from x y)
same_word p t g h to from w v (Verdict.safe e x) (Verdict.unsettled d y i) = absurd (not_both p g h from x y)
same_word p t g h to from w v (Verdict.safe_with f e x i j) (Verdict.violated d y) = absurd (y.unsafe (x.start y.state y.start))
same_word p t g h to from w v (Verdict.safe_with f e x i j) (Verdict.safe d y) = absurd (not_both p h g to y x)
same_word p t g h to from w v (Verdict.safe_with f e x i j) (Verdict.safe_with f' d y i' j') = same_by _ _ _ _ e d tt
same_word p t g h to from w v (Verdict.safe_with f e x i j) (Verdict.exhausted d y i' j') = absurd (j' f i (joins_under p g h f from j))
same_word p t g h to from w v (Verdict.safe_with f e x i j) (Verdict.unsettled d y i') = absurd (in_none p t f i' i)
same_word p t g h to from w v (Verdict.exhausted e x i j) (Verdict.violated d y) = absurd (y.unsafe (x.start y.state y.start))
same_word p t g h to from w v (Verdict.exhausted e x i j) (Verdict.safe d y) = absurd (not_both p h g to y x)
same_word p t g h to from w v (Verdict.exhausted e x i j) (Verdict.safe_with f d y i' j') = absurd (j f i' (joins_under p h g f to j'))
same_word p t g h to from w v (Verdict.exhausted e x i j) (Verdict.exhausted d y i' j') = same_by _ _ _ _ e d tt
same_word p t g h to from w v (Verdict.exhausted e x i j) (Verdict.unsettled d y i') = absurd (none_given t i' i)
same_word p t g h to from w v (Verdict.unsettled e x i) (Verdict.violated d y) = absurd (y.unsafe (x.start y.state y.start))
same_word p t g h to from w v (Verdict.unsettled e x i) (Verdict.safe d y) = absurd (not_both p h g to y x)
same_word p t g h to from w v (Verdict.unsettled e x i) (Verdict.safe_with f d y i' j') = absurd (in_none p t f i i')
same_word p t g h to from w v (Verdict.unsettled e x i) (Verdict.exhausted d y i' j') = absurd (none_given t i i')
same_word p t g h to from w v (Verdict.unsettled e x i) (Verdict.unsettled d y i') = same_by _ _ _ _ e d tt

pub lists_have_one_meaning : ListsHaveOneMeaning
lists_have_one_meaning p t g h earned_g closed_g earned_h closed_h =
    let to : AllFollow p g h = all_follow p t g [] h closed_g (λ _ _ _ _. tt) earned_h in
    let from : AllFollow p h g = all_follow p t h [] g closed_h (λ _ _ _ _. tt) earned_g in
    record { to = each_follows p g h to; from = each_follows p h g from; word = λ finish. same_word p finish g h to from }
