-- A formula with its quantifiers pulled out is true at all values exactly where it is true.
use Rattle.std.specs.Prelude.{◌≡◌, ℕ, ◌+◌, true, false, not, List, [], ◌∷◌, ◌++◌, length, map, Some, slice_get}
use Rattle.std.specs.List.{list_any}
use Rattle.std.proofs.Common.{refl, sym, ap, subst, ◌∙◌}
use Rattle.std.proofs.lemmas.List.{append-nil, append_assoc, length-append, length-map, map-append}
use Rattle.sw_logic.specs.declared.syntax.Symbol.{Symbol}
use Rattle.sw_logic.specs.declared.syntax.Binder.{Binder}
use Rattle.sw_logic.specs.declared.syntax.Term.{Term}
use Rattle.sw_logic.specs.declared.syntax.Formula.{Formula}
use Rattle.sw_logic.specs.declared.syntax.Formula.TheVariants.{True, False, Holds, Equal, Not, All, Any, ForAll}
use Rattle.sw_logic.specs.declared.syntax.Formula.TheOpen.{Formula-F}
use Rattle.sw_logic.specs.Truth.{truth, value_of, values_of}
use Rattle.sw_logic.specs.Sorted.{gives_value, are_sorts, extended}
use Rattle.sw_logic.proofs.Ranges.{for_all-at}
use Rattle.sw_logic.proofs.Steps as steps
use Rattle.sw_logic.specs.Terms.{has, put, variables}
use Rattle.sw_truth.specs.Models.{AreOfSorts}
use Rattle.sw_skolem.specs.Pieces.{Pulled, PulledAll, Part, part_of, part_step, pulled_all, before, bare, conjoined, disjoined, behind}
use Rattle.sw_truth.specs.Sorting.{HasSort, HaveSorts, IsAtom, IsUniversal, AreUniversal, IsMatrix, AreMatrices}
use Rattle.sw_truth.proofs.Growing.{Stage, at, Grows}
use Rattle.sw_truth.proofs.Truths.{truth-True, truth-False, truth-Not}
use Rattle.sw_truth.proofs.Inhabited.{sized}
use Rattle.sw_truth.proofs.Scoping.{sorts_of, sorts_wider, have-append, of_sorts_length, of_sorts-append, values_of_sorts, sorts_values, values_front, variables_new, variables_sorted}
use Rattle.sw_truth.proofs.Atoms.{holds_same, equal_same}
use Rattle.sw_truth.proofs.Putting.{put_sort, put_sorts, all_terms}
use Rattle.sw_truth.proofs.Matrices.{matrix_wider}
use Rattle.sw_skolem.proofs.Expanding.{Implied, implied_all, implied_any}
use Rattle.sw_truth.proofs.Critical.{critical_values}
use Rattle.sw_skolem.proofs.PieceParts.{piece-True, piece-False, piece-Holds, piece-Equal, piece-Not, piece-All, piece-Any, piece-ForAll}

pub split_sorts : (sizes ss rs ws : List ℕ) → AreOfSorts sizes (ss ++ rs) ws → (us : List ℕ) × (xs : List ℕ) × (ws ≡ us ++ xs) × AreOfSorts sizes ss us × AreOfSorts sizes rs xs
split_sorts sizes [] rs ws h = ([], ws, refl, tt, h)
split_sorts sizes (s ∷ ss) rs [] h = absurd h
split_sorts sizes (s ∷ ss) rs (w ∷ ws) h =
    let rest = split_sorts sizes ss rs ws h.1 in
    (w ∷ rest.0, rest.1, ap (λ (ys : List ℕ). w ∷ ys) rest.2, (h.0, rest.3), rest.4)

none_of : (sizes ws : List ℕ) → AreOfSorts sizes [] ws → ws ≡ []
none_of sizes [] h = refl
none_of sizes (w ∷ ws) h = absurd h

module _ (d : Stage) where
  pub none_more : Grows d d
  none_more = record {
    symbols = [];
    tables = [];
    sorts_are = refl;
    sizes_are = refl;
    symbols_are = sym (append-nil d.signature.symbols);
    tables_are = sym (append-nil d.structure.tables);
  }

  pub record IsPulled (p : Formula) (terms : List Term) (sorts : List ℕ) (r : Pulled) : Type 0 where
    pub matrix : IsMatrix d.signature (sorts ++ r.vars) r.formula
    pub down : (vs : List ℕ) → AreOfSorts d.structure.sizes sorts vs → truth (at d) p (values_of (at d) vs terms) ≡ true
        → (ws : List ℕ) → AreOfSorts d.structure.sizes r.vars ws → (xs : List ℕ) → truth (at d) r.formula ((vs ++ ws) ++ xs) ≡ true
    pub up : (vs : List ℕ) → AreOfSorts d.structure.sizes sorts vs
        → (ws : List ℕ) × AreOfSorts d.structure.sizes r.vars ws × ((xs : List ℕ) → truth (at d) r.formula ((vs ++ ws) ++ xs) ≡ true → truth (at d) p (values_of (at d) vs terms) ≡ true)

  pub record ArePulled (ps : List Formula) (terms : List Term) (sorts : List ℕ) (r : PulledAll) : Type 0 where
    pub matrices : AreMatrices d.signature (sorts ++ r.vars) r.formulas
    pub down : (vs : List ℕ) → AreOfSorts d.structure.sizes sorts vs → (ws : List ℕ) → AreOfSorts d.structure.sizes r.vars ws → (xs : List ℕ)
        → Implied (at d) (values_of (at d) vs terms) (at d) ((vs ++ ws) ++ xs) ps r.formulas
    pub up : (vs : List ℕ) → AreOfSorts d.structure.sizes sorts vs
        → (ws : List ℕ) × AreOfSorts d.structure.sizes r.vars ws × ((xs : List ℕ) → Implied (at d) ((vs ++ ws) ++ xs) (at d) (values_of (at d) vs terms) r.formulas ps)

  moved : (p : Formula) (terms : List Term) (sorts : List ℕ) (next : ℕ) (t : Part) → part_of p ≡ t → IsPulled p terms sorts (t.pulled terms next) → IsPulled p terms sorts ((part_of p).pulled terms next)
  moved p terms sorts next t e x = subst (λ (q : Part). IsPulled p terms sorts (q.pulled terms next)) (sym e) x

  no_values : (vs xs : List ℕ) → (vs ++ []) ++ xs ≡ vs ++ xs
  no_values vs xs = ap (λ (ys : List ℕ). ys ++ xs) (append-nil vs)

  -- a formula without quantifiers, with the terms put
  plain : (p : Formula) (terms : List Term) (sorts : List ℕ) (f : Formula) → IsMatrix d.signature sorts f
      → ((vs : List ℕ) → AreOfSorts d.structure.sizes sorts vs → (xs : List ℕ) → truth (at d) f (vs ++ xs) ≡ truth (at d) p (values_of (at d) vs terms)) → IsPulled p terms sorts (bare f)
  plain p terms sorts f m same = record {
    matrix = subst (λ (ss : List ℕ). IsMatrix d.signature ss f) (sym (append-nil sorts)) m;
    down = λ vs ok e ws w xs.
        let none = none_of d.structure.sizes ws w in
        ap (λ (ys : List ℕ). truth (at d) f ((vs ++ ys) ++ xs)) none ∙ (ap (truth (at d) f) (no_values vs xs) ∙ (same vs ok xs ∙ e));
    up = λ vs ok. ([], tt, λ xs e. sym (same vs ok xs) ∙ (sym (ap (truth (at d) f) (no_values vs xs)) ∙ e));
  }

  holds_plain : (k : ℕ) (s : Symbol) (args : List Term) (terms : List Term) (sorts scope : List ℕ) → slice_get d.signature.symbols k ≡ Some s → HaveSorts d.signature scope args s.args → HaveSorts d.signature sorts terms scope
      → (vs : List ℕ) → AreOfSorts d.structure.sizes sorts vs → (xs : List ℕ)
      → truth (at d) (Holds k false (map (put terms) args)) (vs ++ xs) ≡ truth (at d) (Holds k false args) (values_of (at d) vs terms)
  holds_plain k s args terms sorts scope e h ok vs within xs =
      holds_same d d d none_more none_more sorts scope terms ok (vs ++ xs) k s args e h
      ∙ ap (truth (at d) (Holds k false args)) (values_front (at d) d.signature d.structure.sizes sorts vs xs terms scope ok within)

  equal_plain : (t u : Term) (s : ℕ) (terms : List Term) (sorts scope : List ℕ) → HasSort d.signature scope t s → HasSort d.signature scope u s → HaveSorts d.signature sorts terms scope
      → (vs : List ℕ) → AreOfSorts d.structure.sizes sorts vs → (xs : List ℕ)
      → truth (at d) (Equal (put terms t) (put terms u)) (vs ++ xs) ≡ truth (at d) (Equal t u) (values_of (at d) vs terms)
  equal_plain t u s terms sorts scope h i ok vs within xs =
      equal_same d d d none_more none_more sorts scope terms ok (vs ++ xs) t u s h i
      ∙ ap (truth (at d) (Equal t u)) (values_front (at d) d.signature d.structure.sizes sorts vs xs terms scope ok within)

  holds_atom : (k : ℕ) (s : Symbol) (args terms : List Term) (sorts scope : List ℕ) → slice_get d.signature.symbols k ≡ Some s → gives_value s.kind ≡ false → HaveSorts d.signature scope args s.args
      → HaveSorts d.signature sorts terms scope → IsAtom d.signature sorts (Holds k false (map (put terms) args))
  holds_atom k s args terms sorts scope e r h ok =
      IsAtom.holds k s (map (put terms) args) e r (put_sorts d d none_more terms sorts scope args s.args h (all_terms d d none_more terms sorts scope ok (λ x. list_any (has x) args)))

  equal_atom : (t u : Term) (s : ℕ) (terms : List Term) (sorts scope : List ℕ) → HasSort d.signature scope t s → HasSort d.signature scope u s → HaveSorts d.signature sorts terms scope
      → IsAtom d.signature sorts (Equal (put terms t) (put terms u))
  equal_atom t u s terms sorts scope h i ok =
      IsAtom.equal (put terms t) (put terms u) s (put_sort d d none_more terms sorts scope t s h (all_terms d d none_more terms sorts scope ok (λ x. has x t)))
      (put_sort d d none_more terms sorts scope u s i (all_terms d d none_more terms sorts scope ok (λ x. has x u)))

  atom_pulls : (scope : List ℕ) (p : Formula) → IsAtom d.signature scope p → (terms : List Term) (sorts : List ℕ) (next : ℕ) → HaveSorts d.signature sorts terms scope
      → IsPulled p terms sorts ((part_of p).pulled terms next)
  atom_pulls scope p (IsAtom.holds k s args e r h) terms sorts next ok =
      moved (Holds k false args) terms sorts next (part_step (Formula-F.Holds k false args)) (piece-Holds k false args)
      (plain (Holds k false args) terms sorts (Holds k false (map (put terms) args)) (IsMatrix.atom _ (holds_atom k s args terms sorts scope e r h ok)) (holds_plain k s args terms sorts scope e h ok))
  atom_pulls scope p (IsAtom.equal t u s h i) terms sorts next ok =
      moved (Equal t u) terms sorts next (part_step (Formula-F.Equal t u)) (piece-Equal t u)
      (plain (Equal t u) terms sorts (Equal (put terms t) (put terms u)) (IsMatrix.atom _ (equal_atom t u s terms sorts scope h i ok)) (equal_plain t u s terms sorts scope h i ok))

  negated_pulls : (scope : List ℕ) (p : Formula) → IsAtom d.signature scope p → (terms : List Term) (sorts : List ℕ) (next : ℕ) → HaveSorts d.signature sorts terms scope
      → IsPulled (Not p) terms sorts ((part_of (Not p)).pulled terms next)
  negated_pulls scope p (IsAtom.holds k s args e r h) terms sorts next ok =
      moved (Not (Holds k false args)) terms sorts next (part_step (Formula-F.Not (part_step (Formula-F.Holds k false args))))
      (piece-Not (Holds k false args) ∙ ap (λ (t : Part). part_step (Formula-F.Not t)) (piece-Holds k false args))
      (plain (Not (Holds k false args)) terms sorts (Not (Holds k false (map (put terms) args))) (IsMatrix.negated _ (holds_atom k s args terms sorts scope e r h ok))
      (λ vs within xs. truth-Not (at d) (Holds k false (map (put terms) args)) (vs ++ xs)
      ∙ (ap not (holds_plain k s args terms sorts scope e h ok vs within xs) ∙ sym (truth-Not (at d) (Holds k false args) (values_of (at d) vs terms)))))
  negated_pulls scope p (IsAtom.equal t u s h i) terms sorts next ok =
      moved (Not (Equal t u)) terms sorts next (part_step (Formula-F.Not (part_step (Formula-F.Equal t u))))
      (piece-Not (Equal t u) ∙ ap (λ (t : Part). part_step (Formula-F.Not t)) (piece-Equal t u))
      (plain (Not (Equal t u)) terms sorts (Not (Equal (put terms t) (put terms u))) (IsMatrix.negated _ (equal_atom t u s terms sorts scope h i ok))
      (λ vs within xs. truth-Not (at d) (Equal (put terms t) (put terms u)) (vs ++ xs)
      ∙ (ap not (equal_plain t u s terms sorts scope h i ok vs within xs) ∙ sym (truth-Not (at d) (Equal t u) (values_of (at d) vs terms)))))

  all_pulls : (ps : List Formula) (terms : List Term) (sorts : List ℕ) (r : PulledAll) → ArePulled ps terms sorts r → IsPulled (All ps) terms sorts (conjoined r)
  all_pulls ps terms sorts r x = record {
    matrix = IsMatrix.all r.formulas x.matrices;
    down = λ vs ok e ws w xs.
        steps.truth-All (at d) r.formulas ((vs ++ ws) ++ xs)
        ∙ implied_all (at d) (values_of (at d) vs terms) (at d) ((vs ++ ws) ++ xs) ps r.formulas (x.down vs ok ws w xs) (sym (steps.truth-All (at d) ps (values_of (at d) vs terms)) ∙ e);
    up = λ vs ok.
        let y = x.up vs ok in (
          y.0,
          y.1,
          λ xs e. steps.truth-All (at d) ps (values_of (at d) vs terms)
              ∙ implied_all (at d) ((vs ++ y.0) ++ xs) (at d) (values_of (at d) vs terms) r.formulas ps (y.2 xs) (sym (steps.truth-All (at d) r.formulas ((vs ++ y.0) ++ xs)) ∙ e),
        );
  }

  any_pulls : (ps : List Formula) (terms : List Term) (sorts : List ℕ) (r : PulledAll) → ArePulled ps terms sorts r → IsPulled (Any ps) terms sorts (disjoined r)
  any_pulls ps terms sorts r x = record {
    matrix = IsMatrix.any r.formulas x.matrices;
    down = λ vs ok e ws w xs.
        steps.truth-Any (at d) r.formulas ((vs ++ ws) ++ xs)
        ∙ implied_any (at d) (values_of (at d) vs terms) (at d) ((vs ++ ws) ++ xs) ps r.formulas (x.down vs ok ws w xs) (sym (steps.truth-Any (at d) ps (values_of (at d) vs terms)) ∙ e);
    up = λ vs ok.
        let y = x.up vs ok in (
          y.0,
          y.1,
          λ xs e. steps.truth-Any (at d) ps (values_of (at d) vs terms)
              ∙ implied_any (at d) ((vs ++ y.0) ++ xs) (at d) (values_of (at d) vs terms) r.formulas ps (y.2 xs) (sym (steps.truth-Any (at d) r.formulas ((vs ++ y.0) ++ xs)) ∙ e),
        );
  }

  shifted : (vs us ws xs : List ℕ) → ((vs ++ us) ++ ws) ++ xs ≡ (vs ++ (us ++ ws)) ++ xs
  shifted vs us ws xs = simp append_assoc

  first_part : (vs us ws xs : List ℕ) → (vs ++ us) ++ (ws ++ xs) ≡ (vs ++ (us ++ ws)) ++ xs
  first_part vs us ws xs = simp append_assoc

  -- one part and then the others, over its variables too
  more_pulled : (p : Formula) (ps : List Formula) (terms : List Term) (sorts scope : List ℕ) (r : Pulled) (rs : PulledAll) → HaveSorts d.signature sorts terms scope
      → IsPulled p terms sorts r → ArePulled ps terms (sorts ++ r.vars) rs → ArePulled (p ∷ ps) terms sorts (before r rs)
  more_pulled p ps terms sorts scope r rs n x y = record {
    matrices = subst (λ (ss : List ℕ). AreMatrices d.signature ss (r.formula ∷ rs.formulas)) (append_assoc sorts r.vars rs.vars)
        (AreMatrices.more r.formula rs.formulas (matrix_wider d.signature (sorts ++ r.vars) rs.vars r.formula x.matrix) y.matrices);
    down = λ vs ok ws w xs.
        let s = split_sorts d.structure.sizes r.vars rs.vars ws w in
        let same = values_front (at d) d.signature d.structure.sizes sorts vs s.0 terms scope n ok in
        let here : truth (at d) p (values_of (at d) vs terms) ≡ true → truth (at d) r.formula ((vs ++ ws) ++ xs) ≡ true =
        λ e. ap (λ (ys : List ℕ). truth (at d) r.formula ((vs ++ ys) ++ xs)) s.2
        ∙ (ap (truth (at d) r.formula) (sym (first_part vs s.0 s.1 xs)) ∙ x.down vs ok e s.0 s.3 (s.1 ++ xs)) in
        let there = y.down (vs ++ s.0) (of_sorts-append d.structure.sizes sorts r.vars vs s.0 ok s.3) s.1 s.4 xs in
        let moved_there = subst (λ (e : List ℕ). Implied (at d) e (at d) (((vs ++ s.0) ++ s.1) ++ xs) ps rs.formulas) same there in
        (here, subst (λ (e : List ℕ). Implied (at d) (values_of (at d) vs terms) (at d) e ps rs.formulas) (shifted vs s.0 s.1 xs ∙ ap (λ (ys : List ℕ). (vs ++ ys) ++ xs) (sym s.2)) moved_there);
    up = λ vs ok.
        let a = x.up vs ok in
        let b = y.up (vs ++ a.0) (of_sorts-append d.structure.sizes sorts r.vars vs a.0 ok a.1) in
        let same = values_front (at d) d.signature d.structure.sizes sorts vs a.0 terms scope n ok in (
          a.0 ++ b.0,
          of_sorts-append d.structure.sizes r.vars rs.vars a.0 b.0 a.1 b.1,
          λ xs. (
            λ e. a.2 (b.0 ++ xs) (ap (truth (at d) r.formula) (first_part vs a.0 b.0 xs) ∙ e),
            subst (λ (e : List ℕ). Implied (at d) e (at d) (values_of (at d) vs terms) rs.formulas ps) (shifted vs a.0 b.0 xs)
                (subst (λ (e : List ℕ). Implied (at d) (((vs ++ a.0) ++ b.0) ++ xs) (at d) e rs.formulas ps) same (b.2 xs)),
          ),
        );
  }

  for_all_pulls : (bs : List Binder) (p : Formula) (terms : List Term) (sorts scope : List ℕ) (next : ℕ) (r : Pulled) → length sorts ≡ next → HaveSorts d.signature sorts terms scope
      → are_sorts d.signature bs ≡ true
      → IsPulled p (terms ++ variables next (length bs)) (sorts ++ sorts_of bs) r → IsPulled (ForAll bs p) terms sorts (behind bs r)
  for_all_pulls bs p terms sorts scope next r next_is n k x = record {
    matrix = subst (λ (ss : List ℕ). IsMatrix d.signature ss r.formula) (append_assoc sorts (sorts_of bs) r.vars) x.matrix;
    down = λ vs ok e ws w xs.
        let s = split_sorts d.structure.sizes (sorts_of bs) r.vars ws w in
        let v = sorts_values d.structure.sizes bs s.0 s.3 in
        let here = for_all-at d.structure.sizes bs (truth (at d) p) (values_of (at d) vs terms) s.0 (sym (steps.truth-ForAll (at d) bs p (values_of (at d) vs terms)) ∙ e) v in
        let there = x.down (vs ++ s.0) (of_sorts-append d.structure.sizes sorts (sorts_of bs) vs s.0 ok s.3) (ap (truth (at d) p) (values_here vs s.0 ok s.3) ∙ here) s.1 s.4 xs in
        ap (λ (ys : List ℕ). truth (at d) r.formula ((vs ++ ys) ++ xs)) s.2 ∙ (ap (truth (at d) r.formula) (sym (shifted vs s.0 s.1 xs)) ∙ there);
    up = λ vs ok.
        let c = critical_values d.structure.sizes bs (truth (at d) p) (values_of (at d) vs terms) (sized d bs k) in
        let o = values_of_sorts d.structure.sizes bs c.0 c.1 in
        let y = x.up (vs ++ c.0) (of_sorts-append d.structure.sizes sorts (sorts_of bs) vs c.0 ok o) in (
          c.0 ++ y.0,
          of_sorts-append d.structure.sizes (sorts_of bs) r.vars c.0 y.0 o y.1,
          λ xs e.
              steps.truth-ForAll (at d) bs p (values_of (at d) vs terms)
              ∙ c.2 (ap (truth (at d) p) (sym (values_here vs c.0 ok o)) ∙ y.2 xs (ap (truth (at d) r.formula) (shifted vs c.0 y.0 xs) ∙ e)),
        );
  }
    where
      values_here : (vs us : List ℕ) → AreOfSorts d.structure.sizes sorts vs → AreOfSorts d.structure.sizes (sorts_of bs) us
          → values_of (at d) (vs ++ us) (terms ++ variables next (length bs)) ≡ values_of (at d) vs terms ++ us
      values_here vs us ok o =
          let old : values_of (at d) (vs ++ us) terms ≡ values_of (at d) vs terms = values_front (at d) d.signature d.structure.sizes sorts vs us terms scope n ok in
          let count : length vs ≡ next = sym (of_sorts_length d.structure.sizes sorts vs ok) ∙ next_is in
          let binders : length us ≡ length bs = sym (of_sorts_length d.structure.sizes (sorts_of bs) us o) ∙ length-map bs (λ (b : Binder). b.sort) in
          let new : values_of (at d) (vs ++ us) (variables next (length bs)) ≡ us = variables_new (at d) vs us next (length bs) count binders in
          map-append (value_of (at d) (vs ++ us)) terms (variables next (length bs)) ∙ cc (old, new)

  mutual
    pub pulls : (scope : List ℕ) (p : Formula) → IsUniversal d.signature scope p → (terms : List Term) (sorts : List ℕ) (next : ℕ) → length sorts ≡ next → HaveSorts d.signature sorts terms scope
        → IsPulled p terms sorts ((part_of p).pulled terms next)
    pulls scope p (IsUniversal.truth s) terms sorts next e ok =
        moved True terms sorts next (part_step Formula-F.True) piece-True
        (plain True terms sorts True IsMatrix.truth (λ vs within xs. truth-True (at d) (vs ++ xs) ∙ sym (truth-True (at d) (values_of (at d) vs terms))))
    pulls scope p (IsUniversal.falsity s) terms sorts next e ok =
        moved False terms sorts next (part_step Formula-F.False) piece-False
        (plain False terms sorts False IsMatrix.falsity (λ vs within xs. truth-False (at d) (vs ++ xs) ∙ sym (truth-False (at d) (values_of (at d) vs terms))))
    pulls scope p (IsUniversal.atom s f i) terms sorts next e ok = atom_pulls scope f i terms sorts next ok
    pulls scope p (IsUniversal.negated s f i) terms sorts next e ok = negated_pulls scope f i terms sorts next ok
    pulls scope p (IsUniversal.all s ps n) terms sorts next e ok =
        moved (All ps) terms sorts next (part_step (Formula-F.All (map part_of ps))) (piece-All ps)
        (all_pulls ps terms sorts (pulled_all (map part_of ps) terms next) (pull_all scope ps n terms sorts next e ok))
    pulls scope p (IsUniversal.any s ps n) terms sorts next e ok =
        moved (Any ps) terms sorts next (part_step (Formula-F.Any (map part_of ps))) (piece-Any ps)
        (any_pulls ps terms sorts (pulled_all (map part_of ps) terms next) (pull_all scope ps n terms sorts next e ok))
    pulls scope p (IsUniversal.for_all s bs f k n) terms sorts next e ok =
        let count = length-map bs (λ (b : Binder). b.sort) in
        let inner = variables_sorted d.signature sorts (sorts_of bs) next (length bs) e count in
        let terms_are = have-append d.signature (sorts ++ sorts_of bs) terms (variables next (length bs)) scope (sorts_of bs) (sorts_wider d.signature sorts (sorts_of bs) terms scope ok) inner in
        let longer : length (sorts ++ sorts_of bs) ≡ next + length bs = length-append sorts (sorts_of bs) ∙ cc (e, count) in
        moved (ForAll bs f) terms sorts next (part_step (Formula-F.ForAll bs (part_of f))) (piece-ForAll bs f)
        (for_all_pulls bs f terms sorts scope next ((part_of f).pulled (terms ++ variables next (length bs)) (next + length bs)) e ok k
        (pulls (extended scope bs) f n (terms ++ variables next (length bs)) (sorts ++ sorts_of bs) (next + length bs) longer terms_are))

    pub pull_all : (scope : List ℕ) (ps : List Formula) → AreUniversal d.signature scope ps → (terms : List Term) (sorts : List ℕ) (next : ℕ) → length sorts ≡ next → HaveSorts d.signature sorts terms scope
        → ArePulled ps terms sorts (pulled_all (map part_of ps) terms next)
    pull_all scope ps (AreUniversal.none s) terms sorts next e ok = record {
      matrices = AreMatrices.none;
      down = λ vs w ws o xs. tt;
      up = λ vs w. ([], tt, λ xs. tt);
    }
    pull_all scope ps (AreUniversal.more s q qs n ns) terms sorts next e ok =
        let r = (part_of q).pulled terms next in
        let longer : length (sorts ++ r.vars) ≡ next + length r.vars = length-append sorts r.vars ∙ ap (λ k. k + length r.vars) e in
        more_pulled q qs terms sorts scope r (pulled_all (map part_of qs) terms (next + length r.vars)) ok (pulls scope q n terms sorts next e ok)
        (pull_all scope qs ns terms (sorts ++ r.vars) (next + length r.vars) longer (sorts_wider d.signature sorts r.vars terms scope ok))
