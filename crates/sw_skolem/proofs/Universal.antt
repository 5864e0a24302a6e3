-- The Skolem form of a well sorted formula is well sorted and has no existential quantifier.
use Rattle.std.specs.Prelude.{◌≡◌, ℕ, ◌+◌, true, false, List, ◌++◌, length, map}
use Rattle.std.specs.List.{list_any}
use Rattle.std.proofs.Common.{refl, sym, ap, subst, ◌∙◌}
use Rattle.std.proofs.lemmas.List.{append_assoc, length-append, length-map}
use Rattle.sw_logic.specs.declared.syntax.Symbol.{Symbol}
use Rattle.sw_logic.specs.declared.syntax.Binder.{Binder}
use Rattle.sw_logic.specs.declared.syntax.Term.{Term}
use Rattle.sw_logic.specs.declared.syntax.Formula.{Formula}
use Rattle.sw_logic.specs.declared.syntax.Formula.TheVariants.{True, False, Holds, Equal, Not, All, Any, ForAll, Exists}
use Rattle.sw_logic.specs.declared.syntax.Formula.TheOpen.{Formula-F}
use Rattle.sw_logic.specs.Sorted.{are_sorts, extended}
use Rattle.sw_logic.specs.Terms.{has, put, variables}
use Rattle.sw_skolem.specs.Skolem.{Part, Form, Forms, part_of, part_step, forms, universals, skolem_symbol, skolem_terms}
use Rattle.sw_truth.specs.Sorting.{HaveSorts, IsAtom, IsNormal, AreNormal, IsUniversal, AreUniversal}
use Rattle.sw_truth.proofs.Growing.{Stage, Grows, symbol_stays}
use Rattle.sw_skolem.proofs.Parts.{part-True, part-False, part-Holds, part-Equal, part-Not, part-All, part-Any, part-ForAll, part-Exists}
use Rattle.sw_skolem.proofs.Witnesses.{new_sorts, universals_below}
use Rattle.sw_truth.proofs.Scoping.{sorts_of, sorts_wider, have-append, variables_sorted}
use Rattle.sw_truth.proofs.Putting.{put_sort, put_sorts, all_terms}
use Rattle.sw_skolem.proofs.Restricting.{grown, all_grown, regrouped}

module _ (a : Stage) (base : ℕ) (base_is : length a.signature.symbols ≡ base) (d : Stage) (g : Grows a d) where
  abbrev Becomes : List ℕ → List Term → List ℕ → Form → Type 0
  Becomes scope terms sorts f = (rest : List Symbol) → d.signature.symbols ≡ a.signature.symbols ++ (f.made ++ rest) → HaveSorts d.signature sorts terms scope
      → IsUniversal d.signature sorts f.formula

  abbrev BecomeAll : List ℕ → List Term → List ℕ → Forms → Type 0
  BecomeAll scope terms sorts fs = (rest : List Symbol) → d.signature.symbols ≡ a.signature.symbols ++ (fs.made ++ rest) → HaveSorts d.signature sorts terms scope
      → AreUniversal d.signature sorts fs.formulas

  moved : (scope : List ℕ) (p : Formula) (terms : List Term) (sorts : List ℕ) (made : List Symbol) (t : Part) → part_of base p ≡ t
      → Becomes scope terms sorts (t.form terms sorts made) → Becomes scope terms sorts ((part_of base p).form terms sorts made)
  moved scope p terms sorts made t e x = subst (λ (q : Part). Becomes scope terms sorts (q.form terms sorts made)) (sym e) x

  atom_becomes : (scope : List ℕ) (p : Formula) → IsAtom a.signature scope p → (terms : List Term) (sorts : List ℕ) (made : List Symbol) → Becomes scope terms sorts ((part_of base p).form terms sorts made)
  atom_becomes scope p (IsAtom.holds k s args e r h) terms sorts made =
      moved scope (Holds k false args) terms sorts made (part_step base (Formula-F.Holds k false args)) (part-Holds base k false args)
      (λ rest are ok. IsUniversal.atom sorts (Holds k false (map (put terms) args))
      (IsAtom.holds k s (map (put terms) args) (symbol_stays a d g k s e) r (put_sorts a d g terms sorts scope args s.args h (all_terms a d g terms sorts scope ok (λ x. list_any (has x) args)))))
  atom_becomes scope p (IsAtom.equal t u sort h i) terms sorts made =
      moved scope (Equal t u) terms sorts made (part_step base (Formula-F.Equal t u)) (part-Equal base t u)
      (λ rest are ok. IsUniversal.atom sorts (Equal (put terms t) (put terms u))
      (IsAtom.equal (put terms t) (put terms u) sort (put_sort a d g terms sorts scope t sort h (all_terms a d g terms sorts scope ok (λ x. has x t))) (put_sort a d g terms sorts scope u sort i (all_terms a d g terms sorts scope ok (λ x. has x u)))))

  negated_becomes : (scope : List ℕ) (p : Formula) → IsAtom a.signature scope p → (terms : List Term) (sorts : List ℕ) (made : List Symbol) → Becomes scope terms sorts ((part_of base (Not p)).form terms sorts made)
  negated_becomes scope p (IsAtom.holds k s args e r h) terms sorts made =
      moved scope (Not (Holds k false args)) terms sorts made (part_step base (Formula-F.Not (part_step base (Formula-F.Holds k false args))))
      (part-Not base (Holds k false args) ∙ ap (λ (t : Part). part_step base (Formula-F.Not t)) (part-Holds base k false args))
      (λ rest are ok. IsUniversal.negated sorts (Holds k false (map (put terms) args))
      (IsAtom.holds k s (map (put terms) args) (symbol_stays a d g k s e) r (put_sorts a d g terms sorts scope args s.args h (all_terms a d g terms sorts scope ok (λ x. list_any (has x) args)))))
  negated_becomes scope p (IsAtom.equal t u sort h i) terms sorts made =
      moved scope (Not (Equal t u)) terms sorts made (part_step base (Formula-F.Not (part_step base (Formula-F.Equal t u))))
      (part-Not base (Equal t u) ∙ ap (λ (t : Part). part_step base (Formula-F.Not t)) (part-Equal base t u))
      (λ rest are ok. IsUniversal.negated sorts (Equal (put terms t) (put terms u))
      (IsAtom.equal (put terms t) (put terms u) sort (put_sort a d g terms sorts scope t sort h (all_terms a d g terms sorts scope ok (λ x. has x t))) (put_sort a d g terms sorts scope u sort i (all_terms a d g terms sorts scope ok (λ x. has x u)))))

  -- binders of sorts that there are, in both signatures
  sorts_there : (bs : List Binder) → are_sorts a.signature bs ≡ true → are_sorts d.signature bs ≡ true
  sorts_there bs e = ap (λ (names : List (List ℕ)). are_sorts (record { sorts = names; symbols = d.signature.symbols }) bs) g.sorts_are ∙ e

  mutual
    pub becomes : (scope : List ℕ) (p : Formula) → IsNormal a.signature scope p → (terms : List Term) (sorts : List ℕ) (made : List Symbol) → Becomes scope terms sorts ((part_of base p).form terms sorts made)
    becomes scope p (IsNormal.truth s) terms sorts made =
        moved scope True terms sorts made (part_step base Formula-F.True) (part-True base) (λ rest are ok. IsUniversal.truth sorts)
    becomes scope p (IsNormal.falsity s) terms sorts made =
        moved scope False terms sorts made (part_step base Formula-F.False) (part-False base) (λ rest are ok. IsUniversal.falsity sorts)
    becomes scope p (IsNormal.atom s f i) terms sorts made = atom_becomes scope f i terms sorts made
    becomes scope p (IsNormal.negated s f i) terms sorts made = negated_becomes scope f i terms sorts made
    becomes scope p (IsNormal.all s ps n) terms sorts made =
        moved scope (All ps) terms sorts made (part_step base (Formula-F.All (map (part_of base) ps))) (part-All base ps)
        (λ rest are ok. IsUniversal.all sorts (forms (map (part_of base) ps) terms sorts made).formulas (all_become scope ps n terms sorts made rest are ok))
    becomes scope p (IsNormal.any s ps n) terms sorts made =
        moved scope (Any ps) terms sorts made (part_step base (Formula-F.Any (map (part_of base) ps))) (part-Any base ps)
        (λ rest are ok. IsUniversal.any sorts (forms (map (part_of base) ps) terms sorts made).formulas (all_become scope ps n terms sorts made rest are ok))
    becomes scope p (IsNormal.for_all s bs f k n) terms sorts made =
        moved scope (ForAll bs f) terms sorts made (part_step base (Formula-F.ForAll bs (part_of base f))) (part-ForAll base bs f)
        (λ rest are ok.
        let inner = variables_sorted d.signature sorts (sorts_of bs) (length sorts) (length bs) refl (length-map bs (λ (b : Binder). b.sort)) in
        let terms_are = have-append d.signature (sorts ++ sorts_of bs) terms (variables (length sorts) (length bs)) scope (sorts_of bs) (sorts_wider d.signature sorts (sorts_of bs) terms scope ok) inner in
        IsUniversal.for_all sorts bs ((part_of base f).form (terms ++ variables (length sorts) (length bs)) (sorts ++ sorts_of bs) made).formula (sorts_there bs k)
        (becomes (extended scope bs) f n (terms ++ variables (length sorts) (length bs)) (sorts ++ sorts_of bs) made rest are terms_are))
    becomes scope p (IsNormal.exists s bs f k n) terms sorts made =
        let us = universals (part_of base f).occurs terms (length sorts) in
        let symbols = map (skolem_symbol sorts us) bs in
        let from = base + length made in
        let new_terms = skolem_terms us from (length bs) in
        let grows = grown base a.signature (extended scope bs) f n (terms ++ new_terms) sorts (made ++ symbols) in
        let front = a.signature.symbols ++ made in
        let front_count : length front ≡ from = length-append a.signature.symbols made ∙ ap (λ k. k + length made) base_is in
        moved scope (Exists bs f) terms sorts made (part_step base (Formula-F.Exists bs (part_of base f))) (part-Exists base bs f)
        (λ rest are ok.
        let symbols_are : d.signature.symbols ≡ front ++ (symbols ++ (grows.0 ++ rest)) =
        are ∙ (ap (λ (xs : List Symbol). a.signature.symbols ++ (xs ++ rest)) grows.1 ∙ regrouped a.signature.symbols made symbols grows.0 rest) in
        let new_are = new_sorts d.signature us sorts bs front (grows.0 ++ rest) from symbols_are front_count (universals_below (part_of base f).occurs terms (length sorts)) in
        becomes (extended scope bs) f n (terms ++ new_terms) sorts (made ++ symbols) rest are (have-append d.signature sorts terms new_terms scope (sorts_of bs) ok new_are))

    pub all_become : (scope : List ℕ) (ps : List Formula) → AreNormal a.signature scope ps → (terms : List Term) (sorts : List ℕ) (made : List Symbol)
        → BecomeAll scope terms sorts (forms (map (part_of base) ps) terms sorts made)
    all_become scope ps (AreNormal.none s) terms sorts made = λ rest are ok. AreUniversal.none sorts
    all_become scope ps (AreNormal.more s q qs n ns) terms sorts made = λ rest are ok.
        let made' = ((part_of base q).form terms sorts made).made in
        let grows = all_grown base a.signature scope qs ns terms sorts made' in
        let first_are = are ∙ (ap (λ (xs : List Symbol). a.signature.symbols ++ (xs ++ rest)) grows.1 ∙ ap (λ (xs : List Symbol). a.signature.symbols ++ xs) (append_assoc made' grows.0 rest)) in
        AreUniversal.more sorts ((part_of base q).form terms sorts made).formula (forms (map (part_of base) qs) terms sorts made').formulas
        (becomes scope q n terms sorts made (grows.0 ++ rest) first_are ok) (all_become scope qs ns terms sorts made' rest are ok)
