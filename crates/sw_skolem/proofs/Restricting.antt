-- A formula is true wherever its Skolem form is.
use Rattle.std.specs.Prelude.{◌≡◌, ℕ, ◌+◌, true, false, not, List, [], ◌++◌, length, map}
use Rattle.std.proofs.Common.{refl, sym, ap, subst, ◌∙◌}
use Rattle.std.proofs.lemmas.List.{append-nil, append_assoc, length-append, length-map, map-append}
use Rattle.sw_logic.specs.declared.syntax.Symbol.{Symbol}
use Rattle.sw_logic.specs.declared.syntax.Signature.{Signature}
use Rattle.sw_logic.specs.declared.syntax.Binder.{Binder}
use Rattle.sw_logic.specs.declared.syntax.Term.{Term}
use Rattle.sw_logic.specs.declared.syntax.Formula.{Formula}
use Rattle.sw_logic.specs.declared.syntax.Formula.TheVariants.{True, False, Holds, Equal, Not, All, Any, ForAll, Exists}
use Rattle.sw_logic.specs.declared.syntax.Formula.TheOpen.{Formula-F}
use Rattle.sw_logic.specs.Truth.{truth, value_of, values_of, AreValues}
use Rattle.sw_logic.specs.Sorted.{extended}
use Rattle.sw_logic.proofs.Ranges.{for_all-at, for_all-from, exists-at}
use Rattle.sw_logic.proofs.Steps as steps
use Rattle.sw_logic.specs.Terms.{put, variables}
use Rattle.sw_truth.specs.Models.{AreOfSorts}
use Rattle.sw_skolem.specs.Skolem.{Part, Form, Forms, part_of, part_step, forms, quantified, conjoined, disjoined, below, universals, skolem_symbol, skolem_terms}
use Rattle.sw_truth.specs.Sorting.{HaveSorts, IsAtom, IsNormal, AreNormal}
use Rattle.sw_truth.proofs.Growing.{Stage, at, Grows}
use Rattle.sw_truth.proofs.Ranging.{values_below}
use Rattle.sw_truth.proofs.Truths.{truth-True, truth-False, truth-Not}
use Rattle.sw_skolem.proofs.Parts.{part-True, part-False, part-Holds, part-Equal, part-Not, part-All, part-Any, part-ForAll, part-Exists}
use Rattle.sw_skolem.proofs.Witnesses.{new_sorts, universals_below}
use Rattle.sw_truth.proofs.Scoping.{sorts_of, sorts_wider, have-append, of_sorts_length, of_sorts-append, values_of_sorts, sorts_values, values_front, variables_new, variables_sorted}
use Rattle.sw_truth.proofs.Atoms.{holds_same, equal_same}
use Rattle.sw_skolem.proofs.Expanding.{Implied, implied_all, implied_any, same_stage, values_count}

-- the Skolem symbols so far stay in front
abbrev pub Grown : List Symbol → List Symbol → Type 0
Grown made more = (new : List Symbol) × (more ≡ made ++ new)

grown_on : (made more most : List Symbol) → Grown made more → Grown more most → Grown made most
grown_on made more most (n, e) (k, f) = (n ++ k, f ∙ (ap (λ (xs : List Symbol). xs ++ k) e ∙ append_assoc made n k))

pub regrouped : (xs made symbols new rest : List Symbol) → xs ++ (((made ++ symbols) ++ new) ++ rest) ≡ (xs ++ made) ++ (symbols ++ (new ++ rest))
regrouped xs made symbols new rest = simp append_assoc

grown_none : (made : List Symbol) → Grown made made
grown_none made = ([], sym (append-nil made))

module _ (base : ℕ) (sig : Signature) where
  grown_by : (p : Formula) (t : Part) → part_of base p ≡ t → (terms : List Term) (sorts : List ℕ) (made : List Symbol) → Grown made (t.form terms sorts made).made
      → Grown made ((part_of base p).form terms sorts made).made
  grown_by p t e terms sorts made h = subst (λ (q : Part). Grown made (q.form terms sorts made).made) (sym e) h

  atom_grown : (scope : List ℕ) (p : Formula) → IsAtom sig scope p → (terms : List Term) (sorts : List ℕ) (made : List Symbol) → Grown made ((part_of base p).form terms sorts made).made
  atom_grown scope p (IsAtom.holds k s args e r h) terms sorts made = grown_by (Holds k false args) (part_step base (Formula-F.Holds k false args)) (part-Holds base k false args) terms sorts made (grown_none made)
  atom_grown scope p (IsAtom.equal t u sort h g) terms sorts made = grown_by (Equal t u) (part_step base (Formula-F.Equal t u)) (part-Equal base t u) terms sorts made (grown_none made)

  mutual
    pub grown : (scope : List ℕ) (p : Formula) → IsNormal sig scope p → (terms : List Term) (sorts : List ℕ) (made : List Symbol) → Grown made ((part_of base p).form terms sorts made).made
    grown scope p (IsNormal.truth s) terms sorts made = grown_by True (part_step base Formula-F.True) (part-True base) terms sorts made (grown_none made)
    grown scope p (IsNormal.falsity s) terms sorts made = grown_by False (part_step base Formula-F.False) (part-False base) terms sorts made (grown_none made)
    grown scope p (IsNormal.atom s f i) terms sorts made = atom_grown scope f i terms sorts made
    grown scope p (IsNormal.negated s f i) terms sorts made = grown_by (Not f) (part_step base (Formula-F.Not (part_of base f))) (part-Not base f) terms sorts made (atom_grown scope f i terms sorts made)
    grown scope p (IsNormal.all s ps n) terms sorts made =
        grown_by (All ps) (part_step base (Formula-F.All (map (part_of base) ps))) (part-All base ps) terms sorts made (all_grown scope ps n terms sorts made)
    grown scope p (IsNormal.any s ps n) terms sorts made =
        grown_by (Any ps) (part_step base (Formula-F.Any (map (part_of base) ps))) (part-Any base ps) terms sorts made (all_grown scope ps n terms sorts made)
    grown scope p (IsNormal.for_all s bs f k n) terms sorts made =
        grown_by (ForAll bs f) (part_step base (Formula-F.ForAll bs (part_of base f))) (part-ForAll base bs f) terms sorts made
        (grown (extended scope bs) f n (terms ++ variables (length sorts) (length bs)) (sorts ++ sorts_of bs) made)
    grown scope p (IsNormal.exists s bs f k n) terms sorts made =
        let us = universals (part_of base f).occurs terms (length sorts) in
        let symbols = map (skolem_symbol sorts us) bs in
        grown_by (Exists bs f) (part_step base (Formula-F.Exists bs (part_of base f))) (part-Exists base bs f) terms sorts made
        (grown_on made (made ++ symbols) _ (symbols, refl) (grown (extended scope bs) f n (terms ++ skolem_terms us (base + length made) (length bs)) sorts (made ++ symbols)))

    pub all_grown : (scope : List ℕ) (ps : List Formula) → AreNormal sig scope ps → (terms : List Term) (sorts : List ℕ) (made : List Symbol)
        → Grown made (forms (map (part_of base) ps) terms sorts made).made
    all_grown scope ps (AreNormal.none s) terms sorts made = grown_none made
    all_grown scope ps (AreNormal.more s q qs n ns) terms sorts made =
        grown_on made ((part_of base q).form terms sorts made).made _ (grown scope q n terms sorts made) (all_grown scope qs ns terms sorts ((part_of base q).form terms sorts made).made)

module _ (a : Stage) (base : ℕ) (base_is : length a.signature.symbols ≡ base) (d : Stage) (g : Grows a d) where
  abbrev Restricted : List ℕ → Formula → List Term → List ℕ → Form → Type 0
  Restricted scope p terms sorts f = (rest : List Symbol) → d.signature.symbols ≡ a.signature.symbols ++ (f.made ++ rest) → HaveSorts d.signature sorts terms scope
      → (vs : List ℕ) → AreOfSorts d.structure.sizes sorts vs → truth (at d) f.formula vs ≡ true → truth (at a) p (values_of (at d) vs terms) ≡ true

  abbrev RestrictedAll : List ℕ → List Formula → List Term → List ℕ → Forms → Type 0
  RestrictedAll scope ps terms sorts fs = (rest : List Symbol) → d.signature.symbols ≡ a.signature.symbols ++ (fs.made ++ rest) → HaveSorts d.signature sorts terms scope
      → (vs : List ℕ) → AreOfSorts d.structure.sizes sorts vs → Implied (at d) vs (at a) (values_of (at d) vs terms) fs.formulas ps

  moved : (scope : List ℕ) (p : Formula) (terms : List Term) (sorts : List ℕ) (made : List Symbol) (t : Part) → part_of base p ≡ t
      → Restricted scope p terms sorts (t.form terms sorts made) → Restricted scope p terms sorts ((part_of base p).form terms sorts made)
  moved scope p terms sorts made t e x = subst (λ (q : Part). Restricted scope p terms sorts (q.form terms sorts made)) (sym e) x

  same : Grows d d
  same = same_stage a base base_is d

  atom_restricted : (scope : List ℕ) (p : Formula) → IsAtom a.signature scope p → (terms : List Term) (sorts : List ℕ) (made : List Symbol)
      → Restricted scope p terms sorts ((part_of base p).form terms sorts made)
  atom_restricted scope p (IsAtom.holds k s args e r h) terms sorts made =
      moved scope (Holds k false args) terms sorts made (part_step base (Formula-F.Holds k false args)) (part-Holds base k false args)
      (λ rest are ok vs within t. sym (holds_same a d d g same sorts scope terms ok vs k s args e h) ∙ t)
  atom_restricted scope p (IsAtom.equal t u sort h i) terms sorts made =
      moved scope (Equal t u) terms sorts made (part_step base (Formula-F.Equal t u)) (part-Equal base t u)
      (λ rest are ok vs within e. sym (equal_same a d d g same sorts scope terms ok vs t u sort h i) ∙ e)

  negated_restricted : (scope : List ℕ) (p : Formula) → IsAtom a.signature scope p → (terms : List Term) (sorts : List ℕ) (made : List Symbol)
      → Restricted scope (Not p) terms sorts ((part_of base (Not p)).form terms sorts made)
  negated_restricted scope p (IsAtom.holds k s args e r h) terms sorts made =
      moved scope (Not (Holds k false args)) terms sorts made (part_step base (Formula-F.Not (part_step base (Formula-F.Holds k false args))))
      (part-Not base (Holds k false args) ∙ ap (λ (t : Part). part_step base (Formula-F.Not t)) (part-Holds base k false args))
      (λ rest are ok vs within t.
      truth-Not (at a) (Holds k false args) (values_of (at d) vs terms)
      ∙ (sym (ap not (holds_same a d d g same sorts scope terms ok vs k s args e h)) ∙ (sym (truth-Not (at d) (Holds k false (map (put terms) args)) vs) ∙ t)))
  negated_restricted scope p (IsAtom.equal t u sort h i) terms sorts made =
      moved scope (Not (Equal t u)) terms sorts made (part_step base (Formula-F.Not (part_step base (Formula-F.Equal t u))))
      (part-Not base (Equal t u) ∙ ap (λ (t : Part). part_step base (Formula-F.Not t)) (part-Equal base t u))
      (λ rest are ok vs within e.
      truth-Not (at a) (Equal t u) (values_of (at d) vs terms)
      ∙ (sym (ap not (equal_same a d d g same sorts scope terms ok vs t u sort h i)) ∙ (sym (truth-Not (at d) (Equal (put terms t) (put terms u)) vs) ∙ e)))

  all_restricted : (scope : List ℕ) (ps : List Formula) (terms : List Term) (sorts : List ℕ) (fs : Forms) → RestrictedAll scope ps terms sorts fs → Restricted scope (All ps) terms sorts (conjoined fs)
  all_restricted scope ps terms sorts fs x rest are ok vs within e =
      steps.truth-All (at a) ps (values_of (at d) vs terms)
      ∙ implied_all (at d) vs (at a) (values_of (at d) vs terms) fs.formulas ps (x rest are ok vs within) (sym (steps.truth-All (at d) fs.formulas vs) ∙ e)

  any_restricted : (scope : List ℕ) (ps : List Formula) (terms : List Term) (sorts : List ℕ) (fs : Forms) → RestrictedAll scope ps terms sorts fs → Restricted scope (Any ps) terms sorts (disjoined fs)
  any_restricted scope ps terms sorts fs x rest are ok vs within e =
      steps.truth-Any (at a) ps (values_of (at d) vs terms)
      ∙ implied_any (at d) vs (at a) (values_of (at d) vs terms) fs.formulas ps (x rest are ok vs within) (sym (steps.truth-Any (at d) fs.formulas vs) ∙ e)

  sizes_from : (bs : List Binder) (ws : List ℕ) → AreValues d.structure.sizes bs ws → AreValues a.structure.sizes bs ws
  sizes_from bs ws h = subst (λ sizes. AreValues sizes bs ws) g.sizes_are h

  sizes_to : (bs : List Binder) (ws : List ℕ) → AreValues a.structure.sizes bs ws → AreValues d.structure.sizes bs ws
  sizes_to bs ws h = subst (λ sizes. AreValues sizes bs ws) (sym g.sizes_are) h

  for_all_restricted : (scope : List ℕ) (bs : List Binder) (p : Formula) (terms : List Term) (sorts : List ℕ) (f : Form)
      → Restricted (extended scope bs) p (terms ++ variables (length sorts) (length bs)) (sorts ++ sorts_of bs) f → Restricted scope (ForAll bs p) terms sorts (quantified bs f)
  for_all_restricted scope bs p terms sorts f x rest are ok vs within e =
      let env = values_of (at d) vs terms in
      let count = of_sorts_length d.structure.sizes sorts vs within in
      let inner = variables_sorted d.signature sorts (sorts_of bs) (length sorts) (length bs) refl (length-map bs (λ (b : Binder). b.sort)) in
      let terms_are = have-append d.signature (sorts ++ sorts_of bs) terms (variables (length sorts) (length bs)) scope (sorts_of bs) (sorts_wider d.signature sorts (sorts_of bs) terms scope ok) inner in
      steps.truth-ForAll (at a) bs p env
      ∙ for_all-from a.structure.sizes bs (truth (at a) p) env (λ ws h.
      let hd = sizes_to bs ws h in
      let here = for_all-at d.structure.sizes bs (truth (at d) f.formula) vs ws (sym (steps.truth-ForAll (at d) bs f.formula vs) ∙ e) hd in
      let old : values_of (at d) (vs ++ ws) terms ≡ env = values_front (at d) d.signature d.structure.sizes sorts vs ws terms scope ok within in
      let new : values_of (at d) (vs ++ ws) (variables (length sorts) (length bs)) ≡ ws =
      variables_new (at d) vs ws (length sorts) (length bs) (sym count) (values_count a base base_is d.structure.sizes bs ws hd) in
      let both : values_of (at d) (vs ++ ws) (terms ++ variables (length sorts) (length bs)) ≡ env ++ ws =
      map-append (value_of (at d) (vs ++ ws)) terms (variables (length sorts) (length bs)) ∙ cc (old, new) in
      ap (truth (at a) p) (sym both) ∙ x rest are terms_are (vs ++ ws) (of_sorts-append d.structure.sizes sorts (sorts_of bs) vs ws within (values_of_sorts d.structure.sizes bs ws hd)) here)

  exists_restricted : (scope : List ℕ) (bs : List Binder) (p : Formula) (terms : List Term) (sorts : List ℕ) (made : List Symbol) → IsNormal a.signature (extended scope bs) p
      → ((terms : List Term) (sorts : List ℕ) (made : List Symbol) → Restricted (extended scope bs) p terms sorts ((part_of base p).form terms sorts made))
      → Restricted scope (Exists bs p) terms sorts (below base bs (part_of base p) (universals (part_of base p).occurs terms (length sorts)) terms sorts made)
  exists_restricted scope bs p terms sorts made normal x rest are ok vs within e =
      let us = universals (part_of base p).occurs terms (length sorts) in
      let symbols = map (skolem_symbol sorts us) bs in
      let from = base + length made in
      let new_terms = skolem_terms us from (length bs) in
      let grows = grown base a.signature (extended scope bs) p normal (terms ++ new_terms) sorts (made ++ symbols) in
      let front = a.signature.symbols ++ made in
      let front_count : length front ≡ from = length-append a.signature.symbols made ∙ ap (λ k. k + length made) base_is in
      let symbols_are : d.signature.symbols ≡ front ++ (symbols ++ (grows.0 ++ rest)) =
      are ∙ (ap (λ (xs : List Symbol). a.signature.symbols ++ (xs ++ rest)) grows.1 ∙ regrouped a.signature.symbols made symbols grows.0 rest) in
      let new_are = new_sorts d.signature us sorts bs front (grows.0 ++ rest) from symbols_are front_count (universals_below (part_of base p).occurs terms (length sorts)) in
      let terms_are = have-append d.signature sorts terms new_terms scope (sorts_of bs) ok new_are in
      let env = values_of (at d) vs terms in
      let ws = values_of (at d) vs new_terms in
      let ws_are : AreValues d.structure.sizes bs ws = sorts_values d.structure.sizes bs ws (values_below d sorts vs within new_terms (sorts_of bs) new_are) in
      let both : values_of (at d) vs (terms ++ new_terms) ≡ env ++ ws = map-append (value_of (at d) vs) terms new_terms in
      let here = x (terms ++ new_terms) sorts (made ++ symbols) rest are terms_are vs within e in
      steps.truth-Exists (at a) bs p env ∙ exists-at a.structure.sizes bs (truth (at a) p) env ws (sizes_from bs ws ws_are) (ap (truth (at a) p) (sym both) ∙ here)

  mutual
    pub restricts : (scope : List ℕ) (p : Formula) → IsNormal a.signature scope p → (terms : List Term) (sorts : List ℕ) (made : List Symbol)
        → Restricted scope p terms sorts ((part_of base p).form terms sorts made)
    restricts scope p (IsNormal.truth s) terms sorts made =
        moved scope True terms sorts made (part_step base Formula-F.True) (part-True base) (λ rest are ok vs within e. truth-True (at a) (values_of (at d) vs terms))
    restricts scope p (IsNormal.falsity s) terms sorts made =
        moved scope False terms sorts made (part_step base Formula-F.False) (part-False base)
        (λ rest are ok vs within e. truth-False (at a) (values_of (at d) vs terms) ∙ (sym (truth-False (at d) vs) ∙ e))
    restricts scope p (IsNormal.atom s f i) terms sorts made = atom_restricted scope f i terms sorts made
    restricts scope p (IsNormal.negated s f i) terms sorts made = negated_restricted scope f i terms sorts made
    restricts scope p (IsNormal.all s ps n) terms sorts made =
        moved scope (All ps) terms sorts made (part_step base (Formula-F.All (map (part_of base) ps))) (part-All base ps)
        (all_restricted scope ps terms sorts (forms (map (part_of base) ps) terms sorts made) (all_restricts scope ps n terms sorts made))
    restricts scope p (IsNormal.any s ps n) terms sorts made =
        moved scope (Any ps) terms sorts made (part_step base (Formula-F.Any (map (part_of base) ps))) (part-Any base ps)
        (any_restricted scope ps terms sorts (forms (map (part_of base) ps) terms sorts made) (all_restricts scope ps n terms sorts made))
    restricts scope p (IsNormal.for_all s bs f k n) terms sorts made =
        moved scope (ForAll bs f) terms sorts made (part_step base (Formula-F.ForAll bs (part_of base f))) (part-ForAll base bs f)
        (for_all_restricted scope bs f terms sorts ((part_of base f).form (terms ++ variables (length sorts) (length bs)) (sorts ++ sorts_of bs) made)
        (restricts (extended scope bs) f n (terms ++ variables (length sorts) (length bs)) (sorts ++ sorts_of bs) made))
    restricts scope p (IsNormal.exists s bs f k n) terms sorts made =
        moved scope (Exists bs f) terms sorts made (part_step base (Formula-F.Exists bs (part_of base f))) (part-Exists base bs f)
        (exists_restricted scope bs f terms sorts made n (restricts (extended scope bs) f n))

    pub all_restricts : (scope : List ℕ) (ps : List Formula) → AreNormal a.signature scope ps → (terms : List Term) (sorts : List ℕ) (made : List Symbol)
        → RestrictedAll scope ps terms sorts (forms (map (part_of base) ps) terms sorts made)
    all_restricts scope ps (AreNormal.none s) terms sorts made = λ rest are ok vs within. tt
    all_restricts scope ps (AreNormal.more s q qs n ns) terms sorts made = λ rest are ok vs within.
        let made' = ((part_of base q).form terms sorts made).made in
        let grows = all_grown base a.signature scope qs ns terms sorts made' in
        let first_are = are ∙ (ap (λ (xs : List Symbol). a.signature.symbols ++ (xs ++ rest)) grows.1 ∙ ap (λ (xs : List Symbol). a.signature.symbols ++ xs) (append_assoc made' grows.0 rest)) in
        (restricts scope q n terms sorts made (grows.0 ++ rest) first_are ok vs within, all_restricts scope qs ns terms sorts made' rest are ok vs within)
