-- An earned list repeats no class, so it is part of the list of all classes.
use Rattle.std.specs.Prelude.{◌≢◌, List, [], ◌∷◌, ◌++◌, map, Option, Some, Contains, IsPermutation}
use Rattle.std.specs.List.{AllByRecursion}
use Rattle.std.proofs.Common.{refl, subst}
use Rattle.std.proofs.lemmas.List.Sorted.{IsPermutation-refl, IsPermutation-sym, IsPermutation-trans, IsPermutation-cons, IsPermutation-middle}
use Rattle.sw_lists.proofs.Each.{each-both, each-weaker, each-unmap}
use Rattle.sw_truth.proofs.Lists.{IsIn, in-left, in-right, in-all, contains-in}
use Rattle.sw_logic.specs.declared.syntax.Formula.{Formula}
use Rattle.sw_logic.specs.Truth.{IsTrueIn}
use Rattle.sw_meaning.specs.declared.protocol.Protocol.{Protocol}
use Rattle.sw_meaning.specs.declared.template.Template.{Template}
use Rattle.sw_meaning.specs.Classes.{classes, formula_of}
use Rattle.sw_meaning.specs.Inductive.{EarnedAfter}
use Rattle.sw_cover.specs.Apart.{Apart}
use Rattle.sw_size_laws.specs.Part.{IsPartOf}
use Rattle.sw_size_laws.specs.Laws.{ListedOnce}
use Rattle.sw_size_laws.proofs.Part.{part_map}

-- a list without one of its elements
record Without {X : Type 0} (x : X) (xs : List X) : Type 0 where
  others : List X
  is : IsPermutation (x ∷ others) xs
  stays : (y : X) → x ≢ y → IsIn y xs → IsIn y others

after_first : {X : Type 0} (x y : X) (xs : List X) → x ≢ y → IsIn y (x ∷ xs) → IsIn y xs
after_first x y xs n (IsIn.here zs) = absurd (n refl)
after_first x y xs n (IsIn.there z zs i) = i

kept : {X : Type 0} (x y : X) (ys : List X) (rest : Without x ys) (z : X) → x ≢ z → IsIn z (y ∷ ys) → IsIn z (y ∷ rest.others)
kept x y ys rest z n (IsIn.here us) = IsIn.here rest.others
kept x y ys rest z n (IsIn.there u us j) = IsIn.there y rest.others (rest.stays z n j)

without : {X : Type 0} (x : X) (xs : List X) → IsIn x xs → Without x xs
without x xs (IsIn.here ys) = record { others = ys; is = IsPermutation-refl (x ∷ ys); stays = λ y n i. after_first x y ys n i }
without x xs (IsIn.there y ys i) =
    let rest = without x ys i in
    record {
      others = y ∷ rest.others;
      is = IsPermutation-trans (x ∷ y ∷ rest.others) (y ∷ x ∷ rest.others) (y ∷ ys)
          (IsPermutation-sym (y ∷ x ∷ rest.others) (x ∷ y ∷ rest.others) (IsPermutation-middle (y ∷ []) x rest.others)) (IsPermutation-cons y (x ∷ rest.others) ys rest.is);
      stays = λ z n j. kept x y ys rest z n j;
    }

-- elements of a list, none of which stands twice, are part of it
part_of_all : {X : Type 0} (xs all : List X) → Apart xs → AllByRecursion (λ x. IsIn x all) xs → IsPartOf xs all
part_of_all [] all a h = record { rest = all; is = IsPermutation-refl all }
part_of_all (x ∷ xs) all a h =
    let left = without x all h.0 in
    let each = each-weaker (λ y. (x ≢ y) × IsIn y all) (λ y. IsIn y left.others) (λ y k. left.stays y k.0 k.1) xs (each-both (λ y. x ≢ y) (λ y. IsIn y all) xs a.0 h.1) in
    let part = part_of_all xs left.others a.1 each in
    record { rest = part.rest; is = IsPermutation-trans (x ∷ xs ++ part.rest) (x ∷ left.others) all (IsPermutation-cons x (xs ++ part.rest) left.others part.is) left.is }

module _ (p : Protocol) (o : Option Template) where
  -- an entry is none of those before it, since it does not follow from them
  new_after : (before fs : List Formula) → EarnedAfter p o before fs → AllByRecursion (λ f. IsIn f before → ⊥) fs
  new_after before [] e = tt
  new_after before (f ∷ fs) e = (
    λ i. e.2 (λ s fit axioms holds. in-all (IsTrueIn p.signature s) f before holds i),
    each-weaker (λ g. IsIn g (before ++ f ∷ []) → ⊥) (λ g. IsIn g before → ⊥) (λ g n i. n (in-left g before (f ∷ []) i)) fs (new_after (before ++ f ∷ []) fs e.3),
  )

  earned_apart : {X : Type 0} (formula : X → Formula) (before : List Formula) (cs : List X) → EarnedAfter p o before (map formula cs) → Apart cs
  earned_apart formula before [] e = tt
  earned_apart formula before (c ∷ cs) e =
      let after = before ++ formula c ∷ [] in
      let new = each-unmap (λ f. IsIn f after → ⊥) formula cs (new_after after (map formula cs) e.3) in (
        each-weaker (λ d. IsIn (formula d) after → ⊥) (λ d. c ≢ d)
            (λ d n same. n (subst (λ x. IsIn (formula x) after) same (in-right (formula c) before (formula c ∷ []) (IsIn.here [])))) cs new,
        earned_apart formula after cs e.3,
      )

pub listed_once : ListedOnce
listed_once p t cs each earned =
    let all = classes p.signature t in
    let within = each-weaker (λ c. Contains all c) (λ c. IsIn c all) (λ c. contains-in c all) cs each in
    let part = part_of_all cs all (earned_apart p (Some t) (formula_of p.signature t) [] cs earned) within in
    record { of_classes = part; of_formulas = part_map (formula_of p.signature t) cs all part }
