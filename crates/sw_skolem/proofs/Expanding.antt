-- A structure expands to one in which the Skolem form is true wherever the formula was.
use Rattle.std.specs.Prelude.{◌≡◌, ℕ, zero, suc, ◌+◌, ◌≤◌, Bool, true, false, not, List, [], ◌∷◌, ◌++◌, length, map, Some, slice_get, slice_index, option_map}
use Rattle.std.specs.List.{list_all, list_any}
use Rattle.std.proofs.Common.{arith, refl, sym, ap, subst, ◌∙◌, inl, inr}
use Rattle.std.proofs.lemmas.Bool.{and_parts, and_from, or_cases, or_left, or_right, false≢true}
use Rattle.std.proofs.lemmas.List.{append-nil, append_assoc, length-append, length-map, map-append, get_or_past}
use Rattle.std.proofs.lemmas.Option.{slice_get-map, slice_get-get_or, slice_get_cases, get_or_from_slice_get, none-some, same_Some}
use Rattle.sw_logic.specs.declared.syntax.Symbol.{Symbol}
use Rattle.sw_logic.specs.declared.syntax.Signature.{Signature}
use Rattle.sw_logic.specs.declared.syntax.Binder.{Binder}
use Rattle.sw_logic.specs.declared.syntax.Term.{Term}
use Rattle.sw_logic.specs.declared.syntax.Formula.{Formula}
use Rattle.sw_logic.specs.declared.syntax.Formula.TheVariants.{True, False, Holds, Equal, Not, All, Any, ForAll, Exists}
use Rattle.sw_logic.specs.declared.syntax.Formula.TheOpen.{Formula-F}
use Rattle.sw_logic.specs.declared.structure.Table.{Table}
use Rattle.sw_logic.specs.Truth.{World, truth, exists, value_of, values_of, AreValues}
use Rattle.sw_logic.specs.Sorted.{are_sorts, extended}
use Rattle.sw_logic.specs.Fits.{fits, tables_fit}
use Rattle.sw_logic.proofs.Ranges.{for_all-at, for_all-from}
use Rattle.sw_logic.proofs.Steps as steps
use Rattle.sw_logic.specs.Terms.{occurs, put, variables}
use Rattle.sw_truth.specs.Models.{AreOfSorts}
use Rattle.sw_skolem.specs.Skolem.{Part, Form, Forms, part_of, part_step, form, forms, quantified, conjoined, disjoined, before, below, universals, skolem_symbol, skolem_terms}
use Rattle.sw_truth.specs.Sorting.{HasSort, HaveSorts, IsAtom, IsNormal, AreNormal}
use Rattle.sw_truth.proofs.Tables.{tables_fit-append}
use Rattle.sw_truth.proofs.Growing.{Stage, at, Grows, grows_on, stage_tables, values_stay, sorts_stay}
use Rattle.sw_truth.proofs.Ranging.{value_agrees, of_sort_at}
use Rattle.sw_truth.proofs.Truths.{truth-True, truth-False, truth-Not, exists-same}
use Rattle.sw_truth.proofs.Occurring.{truth_agrees, agree_behind}
use Rattle.sw_skolem.proofs.PartOccurs.{occurs_same}
use Rattle.sw_skolem.proofs.Parts.{part-True, part-False, part-Holds, part-Equal, part-Not, part-All, part-Any, part-ForAll, part-Exists}
use Rattle.sw_skolem.proofs.Witnesses.{witness, witness_values, witness_true, new_tables, sorts_at, new_tables_fit, new_values, new_sorts, universals_below, universals_have, spread, spread_at}
use Rattle.sw_truth.proofs.Inhabited.{sized, AreBelow}
use Rattle.sw_truth.proofs.Scoping.{sorts_of, sorts_wider, have-append, has_below, of_sorts_length, of_sorts-append, values_of_sorts, values_front, variables_new, variables_sorted, tables_length}
use Rattle.sw_truth.proofs.Atoms.{holds_same, equal_same}

-- each formula of the second list is true where that of the first is
abbrev pub Implied : World → List ℕ → World → List ℕ → List Formula → List Formula → Type 0
Implied w env v vs [] [] = Unit {0}
Implied w env v vs [] (f ∷ fs) = ⊥
Implied w env v vs (p ∷ ps) [] = ⊥
Implied w env v vs (p ∷ ps) (f ∷ fs) = (truth w p env ≡ true → truth v f vs ≡ true) × Implied w env v vs ps fs

pub implied_all : (w : World) (env : List ℕ) (v : World) (vs : List ℕ) (ps fs : List Formula) → Implied w env v vs ps fs
    → list_all (λ p. truth w p env) ps ≡ true → list_all (λ f. truth v f vs) fs ≡ true
implied_all w env v vs [] [] h e = refl
implied_all w env v vs [] (f ∷ fs) h e = absurd h
implied_all w env v vs (p ∷ ps) [] h e = absurd h
implied_all w env v vs (p ∷ ps) (f ∷ fs) h e =
    let parts = and_parts (truth w p env) (list_all (λ p. truth w p env) ps) e in
    and_from _ _ (h.0 parts.0) (implied_all w env v vs ps fs h.1 parts.1)

pub implied_any : (w : World) (env : List ℕ) (v : World) (vs : List ℕ) (ps fs : List Formula) → Implied w env v vs ps fs
    → list_any (λ p. truth w p env) ps ≡ true → list_any (λ f. truth v f vs) fs ≡ true
implied_any w env v vs [] [] h e = absurd (false≢true e)
implied_any w env v vs [] (f ∷ fs) h e = absurd h
implied_any w env v vs (p ∷ ps) [] h e = absurd h
implied_any w env v vs (p ∷ ps) (f ∷ fs) h e =
    elim (or_cases (truth w p env) (list_any (λ p. truth w p env) ps) e) [
      | inl q ↦ or_left (truth v f vs) _ (h.0 q)
      | inr q ↦ or_right (truth v f vs) _ (implied_any w env v vs ps fs h.1 q)
    ]

index_map : (h : Term → ℕ) (ts : List Term) (x : ℕ) (t : Term) → slice_get ts x ≡ Some t → slice_index (map h ts) x ≡ h t
index_map h ts x t e = get_or_from_slice_get (map h ts) x (h t) 0 (slice_get-map h ts x ∙ ap (option_map h) e)

index_past : (h : Term → ℕ) (ts : List Term) (x : ℕ) → length ts ≤ x → slice_index (map h ts) x ≡ 0
index_past h ts x e = let count = length-map ts h in get_or_past (map h ts) x 0 (omega arith)

sort_at : (sig : Signature) (sorts : List ℕ) (ts : List Term) (ss : List ℕ) (x : ℕ) (t : Term) → HaveSorts sig sorts ts ss → slice_get ts x ≡ Some t → (sort : ℕ) × HasSort sig sorts t sort
sort_at sig sorts ts ss x t HaveSorts.none e = absurd (none-some t e)
sort_at sig sorts ts ss zero t (HaveSorts.more u us sort rest h hs) e = (sort, subst (λ (y : Term). HasSort sig sorts y sort) (same_Some u t e) h)
sort_at sig sorts ts ss (suc x) t (HaveSorts.more u us sort rest h hs) e = sort_at sig sorts us rest x t hs e

sorts_given : (sizes sorts vs us : List ℕ) → AreOfSorts sizes sorts vs → AreBelow (length sorts) us → AreOfSorts sizes (sorts_at sorts us) (map (slice_index vs) us)
sorts_given sizes sorts vs [] ok h = tt
sorts_given sizes sorts vs (u ∷ us) ok h = (of_sort_at sizes sorts vs u (slice_index sorts u) ok (slice_get-get_or sorts u 0 h.0), sorts_given sizes sorts vs us ok h.1)

module _ (a : Stage) (base : ℕ) (base_is : length a.signature.symbols ≡ base) where
  -- the stage has the query's symbols and the Skolem symbols so far
  pub record IsReady (b : Stage) (made : List Symbol) : Type 0 where
    pub grows : Grows a b
    pub made_are : b.signature.symbols ≡ a.signature.symbols ++ made

  pub record Expansion (b : Stage) (p : Formula) (terms : List Term) (sorts : List ℕ) (f : Form) : Type 0 where
    pub stage : Stage
    pub ready : IsReady stage f.made
    pub grows : Grows b stage
    pub keeps : (d : Stage) → Grows stage d → (vs : List ℕ) → AreOfSorts b.structure.sizes sorts vs → truth (at a) p (values_of (at b) vs terms) ≡ true → truth (at d) f.formula vs ≡ true

  pub record Expansions (b : Stage) (ps : List Formula) (terms : List Term) (sorts : List ℕ) (fs : Forms) : Type 0 where
    pub stage : Stage
    pub ready : IsReady stage fs.made
    pub grows : Grows b stage
    pub keeps : (d : Stage) → Grows stage d → (vs : List ℕ) → AreOfSorts b.structure.sizes sorts vs → Implied (at a) (values_of (at b) vs terms) (at d) vs ps fs.formulas

  pub same_stage : (b : Stage) → Grows b b
  same_stage b = record {
    symbols = [];
    tables = [];
    sorts_are = refl;
    sizes_are = refl;
    symbols_are = sym (append-nil b.signature.symbols);
    tables_are = sym (append-nil b.structure.tables);
  }

  -- a formula that stays true or false
  unchanged : (b : Stage) (p : Formula) (terms : List Term) (sorts : List ℕ) (made : List Symbol) (f : Formula) → IsReady b made
      → ((d : Stage) → Grows b d → (vs : List ℕ) → truth (at d) f vs ≡ truth (at a) p (values_of (at b) vs terms)) → Expansion b p terms sorts (form f made)
  unchanged b p terms sorts made f ready same = record {
    stage = b;
    ready = ready;
    grows = same_stage b;
    keeps = λ d g vs ok e. same d g vs ∙ e;
  }

  abbrev Expands : Formula → List ℕ → Type 0
  Expands p scope = (b : Stage) (terms : List Term) (sorts : List ℕ) (made : List Symbol) → IsReady b made → HaveSorts b.signature sorts terms scope
      → Expansion b p terms sorts ((part_of base p).form terms sorts made)

  abbrev moved : (b : Stage) (p : Formula) (terms : List Term) (sorts : List ℕ) (made : List Symbol) (t : Part) → part_of base p ≡ t
      → Expansion b p terms sorts (t.form terms sorts made) → Expansion b p terms sorts ((part_of base p).form terms sorts made)
  moved b p terms sorts made t e x = subst (λ (q : Part). Expansion b p terms sorts (q.form terms sorts made)) (sym e) x

  atom_expands : (scope : List ℕ) (p : Formula) → IsAtom a.signature scope p → Expands p scope
  atom_expands scope p (IsAtom.holds k s args e r h) b terms sorts made ready ok =
      moved b (Holds k false args) terms sorts made (part_step base (Formula-F.Holds k false args)) (part-Holds base k false args)
      (unchanged b (Holds k false args) terms sorts made (Holds k false (map (put terms) args)) ready
      (λ d g vs. holds_same a b d ready.grows g sorts scope terms ok vs k s args e h))
  atom_expands scope p (IsAtom.equal t u sort h g) b terms sorts made ready ok =
      moved b (Equal t u) terms sorts made (part_step base (Formula-F.Equal t u)) (part-Equal base t u)
      (unchanged b (Equal t u) terms sorts made (Equal (put terms t) (put terms u)) ready
      (λ d i vs. equal_same a b d ready.grows i sorts scope terms ok vs t u sort h g))

  negated_expands : (scope : List ℕ) (p : Formula) → IsAtom a.signature scope p → Expands (Not p) scope
  negated_expands scope p (IsAtom.holds k s args e r h) b terms sorts made ready ok =
      moved b (Not (Holds k false args)) terms sorts made (part_step base (Formula-F.Not (part_step base (Formula-F.Holds k false args))))
      (part-Not base (Holds k false args) ∙ ap (λ (t : Part). part_step base (Formula-F.Not t)) (part-Holds base k false args))
      (unchanged b (Not (Holds k false args)) terms sorts made (Not (Holds k false (map (put terms) args))) ready
      (λ d g vs. truth-Not (at d) (Holds k false (map (put terms) args)) vs
      ∙ (ap not (holds_same a b d ready.grows g sorts scope terms ok vs k s args e h) ∙ sym (truth-Not (at a) (Holds k false args) (values_of (at b) vs terms)))))
  negated_expands scope p (IsAtom.equal t u sort h g) b terms sorts made ready ok =
      moved b (Not (Equal t u)) terms sorts made (part_step base (Formula-F.Not (part_step base (Formula-F.Equal t u))))
      (part-Not base (Equal t u) ∙ ap (λ (t : Part). part_step base (Formula-F.Not t)) (part-Equal base t u))
      (unchanged b (Not (Equal t u)) terms sorts made (Not (Equal (put terms t) (put terms u))) ready
      (λ d i vs. truth-Not (at d) (Equal (put terms t) (put terms u)) vs
      ∙ (ap not (equal_same a b d ready.grows i sorts scope terms ok vs t u sort h g) ∙ sym (truth-Not (at a) (Equal t u) (values_of (at b) vs terms)))))

  all_expands : (b : Stage) (ps : List Formula) (terms : List Term) (sorts : List ℕ) (fs : Forms) → Expansions b ps terms sorts fs → Expansion b (All ps) terms sorts (conjoined fs)
  all_expands b ps terms sorts fs x = record {
    stage = x.stage;
    ready = x.ready;
    grows = x.grows;
    keeps = λ d g vs ok e.
        steps.truth-All (at d) fs.formulas vs
        ∙ implied_all (at a) (values_of (at b) vs terms) (at d) vs ps fs.formulas (x.keeps d g vs ok) (sym (steps.truth-All (at a) ps (values_of (at b) vs terms)) ∙ e);
  }

  any_expands : (b : Stage) (ps : List Formula) (terms : List Term) (sorts : List ℕ) (fs : Forms) → Expansions b ps terms sorts fs → Expansion b (Any ps) terms sorts (disjoined fs)
  any_expands b ps terms sorts fs x = record {
    stage = x.stage;
    ready = x.ready;
    grows = x.grows;
    keeps = λ d g vs ok e.
        steps.truth-Any (at d) fs.formulas vs
        ∙ implied_any (at a) (values_of (at b) vs terms) (at d) vs ps fs.formulas (x.keeps d g vs ok) (sym (steps.truth-Any (at a) ps (values_of (at b) vs terms)) ∙ e);
  }

  -- one part and then the others, over the stage of the first
  more_expands : (b : Stage) (p : Formula) (ps : List Formula) (terms : List Term) (sorts scope : List ℕ) (f : Form) (fs : Forms) → HaveSorts b.signature sorts terms scope
      → (x : Expansion b p terms sorts f) → Expansions x.stage ps terms sorts fs → Expansions b (p ∷ ps) terms sorts (before f fs)
  more_expands b p ps terms sorts scope f fs n x y = record {
    stage = y.stage;
    ready = y.ready;
    grows = grows_on b x.stage y.stage x.grows y.grows;
    keeps = λ d g vs ok.
        let env = values_stay b x.stage x.grows sorts vs terms scope n in
        let later = subst (λ sizes. AreOfSorts sizes sorts vs) (sym x.grows.sizes_are) ok in
        (x.keeps d (grows_on x.stage y.stage d y.grows g) vs ok, subst (λ e. Implied (at a) e (at d) vs ps fs.formulas) env (y.keeps d g vs later));
  }

  -- the sizes of stages are those of the structure
  sizes_from : (b d : Stage) → Grows b d → (bs : List Binder) (ws : List ℕ) → AreValues d.structure.sizes bs ws → AreValues b.structure.sizes bs ws
  sizes_from b d g bs ws h = subst (λ sizes. AreValues sizes bs ws) g.sizes_are h

  sizes_to : (b d : Stage) → Grows b d → (bs : List Binder) (ws : List ℕ) → AreValues b.structure.sizes bs ws → AreValues d.structure.sizes bs ws
  sizes_to b d g bs ws h = subst (λ sizes. AreValues sizes bs ws) (sym g.sizes_are) h

  pub values_count : (sizes : List ℕ) (bs : List Binder) (ws : List ℕ) → AreValues sizes bs ws → length ws ≡ length bs
  values_count sizes bs ws h = sym (of_sorts_length sizes (sorts_of bs) ws (values_of_sorts sizes bs ws h)) ∙ length-map bs (λ (b : Binder). b.sort)

  for_all_expands : (b : Stage) (bs : List Binder) (p : Formula) (terms : List Term) (sorts scope : List ℕ) (made : List Symbol) (f : Form) → IsReady b made
      → HaveSorts b.signature sorts terms scope
      → Expansion b p (terms ++ variables (length sorts) (length bs)) (sorts ++ sorts_of bs) f → Expansion b (ForAll bs p) terms sorts (quantified bs f)
  for_all_expands b bs p terms sorts scope made f ready n x = record {
    stage = x.stage;
    ready = x.ready;
    grows = x.grows;
    keeps = λ d g vs ok e.
        let env = values_of (at b) vs terms in
        let count = of_sorts_length b.structure.sizes sorts vs ok in
        steps.truth-ForAll (at d) bs f.formula vs
        ∙ for_all-from d.structure.sizes bs (truth (at d) f.formula) vs (λ ws h.
        let hb = sizes_from b d (grows_on b x.stage d x.grows g) bs ws h in
        let ha = sizes_from a b ready.grows bs ws hb in
        let here = for_all-at a.structure.sizes bs (truth (at a) p) env ws (sym (steps.truth-ForAll (at a) bs p env) ∙ e) ha in
        let old : values_of (at b) (vs ++ ws) terms ≡ env = values_front (at b) b.signature b.structure.sizes sorts vs ws terms scope n ok in
        let new : values_of (at b) (vs ++ ws) (variables (length sorts) (length bs)) ≡ ws =
        variables_new (at b) vs ws (length sorts) (length bs) (sym count) (values_count b.structure.sizes bs ws hb) in
        let both : values_of (at b) (vs ++ ws) (terms ++ variables (length sorts) (length bs)) ≡ env ++ ws =
        map-append (value_of (at b) (vs ++ ws)) terms (variables (length sorts) (length bs)) ∙ cc (old, new) in
        x.keeps d g (vs ++ ws) (of_sorts-append b.structure.sizes sorts (sorts_of bs) vs ws ok (values_of_sorts b.structure.sizes bs ws hb)) (ap (truth (at a) p) both ∙ here));
  }

  -- the stage with tables for new symbols
  longer : (b : Stage) (symbols : List Symbol) (tables : List Table) → tables_fit b.structure.sizes symbols tables ≡ true
      → fits (record { sorts = b.signature.sorts; symbols = b.signature.symbols ++ symbols }) (record { sizes = b.structure.sizes; tables = b.structure.tables ++ tables }) ≡ true
  longer b symbols tables h =
      let parts = and_parts _ _ b.fits in
      let inner = and_parts _ _ parts.1 in
      and_from _ _ parts.0 (and_from _ _ inner.0 (tables_fit-append b.structure.sizes b.signature.symbols symbols b.structure.tables tables inner.1 h))

  abbrev with_tables : (b : Stage) (symbols : List Symbol) (tables : List Table) → tables_fit b.structure.sizes symbols tables ≡ true → Stage
  with_tables b symbols tables h = record {
    signature = record { sorts = b.signature.sorts; symbols = b.signature.symbols ++ symbols };
    structure = record { sizes = b.structure.sizes; tables = b.structure.tables ++ tables };
    fits = longer b symbols tables h;
  }

  module _ (b : Stage) (bs : List Binder) (p : Formula) (terms : List Term) (sorts scope : List ℕ) (n : HaveSorts b.signature sorts terms scope) (g : Grows a b)
      (sorted : are_sorts a.signature bs ≡ true) (normal : IsNormal a.signature (extended scope bs) p) where
    abbrev occ : ℕ → Bool
    occ = (part_of base p).occurs

    abbrev us : List ℕ
    us = universals occ terms (length sorts)

    abbrev env_of : List ℕ → List ℕ
    env_of given = values_of (at b) (spread (length sorts) us given) terms

    -- witnesses by the values of the universal variables
    abbrev chosen : List ℕ → List ℕ
    chosen given = witness a.structure.sizes bs (truth (at a) p) (env_of given)

    chosen_values : (given : List ℕ) → AreValues b.structure.sizes bs (chosen given)
    chosen_values given = sizes_to a b g bs (chosen given) (witness_values a.structure.sizes bs (truth (at a) p) (env_of given) (sized a bs sorted))

    abbrev tables_made : List Table
    tables_made = new_tables us b.structure.sizes (sorts_at sorts us) bs chosen

    fit : tables_fit b.structure.sizes (map (skolem_symbol sorts us) bs) tables_made ≡ true
    fit = new_tables_fit us b.structure.sizes sorts bs chosen chosen_values

    abbrev next : Stage
    next = with_tables b (map (skolem_symbol sorts us) bs) tables_made fit

    grows_next : Grows b next
    grows_next = record { symbols = map (skolem_symbol sorts us) bs; tables = tables_made; sorts_are = refl; sizes_are = refl; symbols_are = refl; tables_are = refl }

    -- the variables that occur have the same values where the universal variables that they need have
    agrees : (vs : List ℕ) (x : ℕ) → occ x ≡ true → slice_index (values_of (at b) vs terms) x ≡ slice_index (env_of (map (slice_index vs) us)) x
    agrees vs x o =
        elim ((slice_get_cases terms x).1) [
          | inl (t, within, e, is) ↦
              let sort = sort_at b.signature sorts terms scope x t n e in
              index_map (value_of (at b) vs) terms x t e
              ∙ (value_agrees (at b) b.signature sorts vs (spread (length sorts) us (map (slice_index vs) us)) t sort.0 sort.1
              (λ u h. let below = has_below b.signature sorts u t sort.0 sort.1 h in sym (spread_at (length sorts) us vs u below (universals_have occ terms (length sorts) x u t e o h below)))
              ∙ sym (index_map (value_of (at b) (spread (length sorts) us (map (slice_index vs) us))) terms x t e))
          | inr (past, e) ↦ index_past (value_of (at b) vs) terms x past ∙ sym (index_past (value_of (at b) (spread (length sorts) us (map (slice_index vs) us))) terms x past)
        ]

    -- so the part has the same truth there
    same_there : (vs ws : List ℕ) → truth (at a) p (values_of (at b) vs terms ++ ws) ≡ truth (at a) p (env_of (map (slice_index vs) us) ++ ws)
    same_there vs ws =
        let env = values_of (at b) vs terms in
        let other = env_of (map (slice_index vs) us) in
        let count : length env ≡ length other = length-map terms (value_of (at b) vs) ∙ sym (length-map terms (value_of (at b) (spread (length sorts) us (map (slice_index vs) us)))) in
        truth_agrees (at a) a.signature (env ++ ws) (other ++ ws) (extended scope bs) p normal
        (length-append env ws ∙ (ap (λ k. k + length ws) count ∙ sym (length-append other ws)))
        (agree_behind (λ x. occurs x p) env other ws count (λ x o. agrees vs x (occurs_same base p x ∙ o)))

    -- where the quantified formula is true, the part is at the values of the new terms
    holds_there : (from : ℕ) → length b.signature.symbols ≡ from → (vs : List ℕ) → AreOfSorts b.structure.sizes sorts vs → truth (at a) (Exists bs p) (values_of (at b) vs terms) ≡ true
        → truth (at a) p (values_of (at next) vs (terms ++ skolem_terms us from (length bs))) ≡ true
    holds_there from from_is vs ok e =
        let given = map (slice_index vs) us in
        let env = values_of (at b) vs terms in
        let here : exists a.structure.sizes bs (truth (at a) p) env ≡ true = sym (steps.truth-Exists (at a) bs p env) ∙ e in
        let there : exists a.structure.sizes bs (truth (at a) p) (env_of given) ≡ true = sym (exists-same a.structure.sizes bs (truth (at a) p) (truth (at a) p) env (env_of given) (same_there vs)) ∙ here in
        let found : truth (at a) p (env ++ chosen given) ≡ true = same_there vs (chosen given) ∙ witness_true a.structure.sizes bs (truth (at a) p) (env_of given) there in
        let tables_count : length b.structure.tables ≡ from = tables_length b.structure.sizes b.signature.symbols b.structure.tables (stage_tables b) ∙ from_is in
        let new : values_of (at next) vs (skolem_terms us from (length bs)) ≡ chosen given =
        new_values (at next) us sorts vs bs chosen b.structure.tables b.signature.symbols from refl refl tables_count from_is
        (sorts_given b.structure.sizes sorts vs us ok (universals_below occ terms (length sorts))) (chosen_values given) in
        let old : values_of (at next) vs terms ≡ env = values_stay b next grows_next sorts vs terms scope n in
        let both : values_of (at next) vs (terms ++ skolem_terms us from (length bs)) ≡ env ++ chosen given =
        map-append (value_of (at next) vs) terms (skolem_terms us from (length bs)) ∙ cc (old, new) in
        ap (truth (at a) p) both ∙ found

  exists_expands : (b : Stage) (bs : List Binder) (p : Formula) (terms : List Term) (sorts scope : List ℕ) (made : List Symbol) → IsReady b made → HaveSorts b.signature sorts terms scope
      → are_sorts a.signature bs ≡ true → IsNormal a.signature (extended scope bs) p → Expands p (extended scope bs)
      → Expansion b (Exists bs p) terms sorts (below base bs (part_of base p) (universals (part_of base p).occurs terms (length sorts)) terms sorts made)
  exists_expands b bs p terms sorts scope made ready n sorted normal x =
      let g = ready.grows in
      let vars = us b bs p terms sorts scope n g sorted normal in
      let c = next b bs p terms sorts scope n g sorted normal in
      let grows = grows_next b bs p terms sorts scope n g sorted normal in
      let symbols = map (skolem_symbol sorts vars) bs in
      let from = base + length made in
      let count : length b.signature.symbols ≡ from = ap length ready.made_are ∙ (length-append a.signature.symbols made ∙ ap (λ k. k + length made) base_is) in
      let later : IsReady c (made ++ symbols) = record {
        grows = grows_on a b c g grows;
        made_are = ap (λ (xs : List Symbol). xs ++ symbols) ready.made_are ∙ append_assoc a.signature.symbols made symbols;
      } in
      let new = new_sorts c.signature vars sorts bs b.signature.symbols [] from (ap (λ (xs : List Symbol). b.signature.symbols ++ xs) (sym (append-nil symbols))) count (universals_below (part_of base p).occurs terms (length sorts)) in
      let terms_are = have-append c.signature sorts terms (skolem_terms vars from (length bs)) scope (sorts_of bs) (sorts_stay b c grows sorts terms scope n) new in
      let y = x c (terms ++ skolem_terms vars from (length bs)) sorts (made ++ symbols) later terms_are in
      record {
        stage = y.stage;
        ready = y.ready;
        grows = grows_on b c y.stage grows y.grows;
        keeps = λ d i vs ok e. y.keeps d i vs ok (holds_there b bs p terms sorts scope n g sorted normal from count vs ok e);
      }

  mutual
    pub expands : (scope : List ℕ) (p : Formula) → IsNormal a.signature scope p → Expands p scope
    expands scope p (IsNormal.truth s) b terms sorts made ready ok =
        moved b True terms sorts made (part_step base Formula-F.True) (part-True base)
        (unchanged b True terms sorts made True ready (λ d g vs. truth-True (at d) vs ∙ sym (truth-True (at a) (values_of (at b) vs terms))))
    expands scope p (IsNormal.falsity s) b terms sorts made ready ok =
        moved b False terms sorts made (part_step base Formula-F.False) (part-False base)
        (unchanged b False terms sorts made False ready (λ d g vs. truth-False (at d) vs ∙ sym (truth-False (at a) (values_of (at b) vs terms))))
    expands scope p (IsNormal.atom s f i) b terms sorts made ready ok = atom_expands scope f i b terms sorts made ready ok
    expands scope p (IsNormal.negated s f i) b terms sorts made ready ok = negated_expands scope f i b terms sorts made ready ok
    expands scope p (IsNormal.all s ps n) b terms sorts made ready ok =
        moved b (All ps) terms sorts made (part_step base (Formula-F.All (map (part_of base) ps))) (part-All base ps)
        (all_expands b ps terms sorts (forms (map (part_of base) ps) terms sorts made) (all_parts scope ps n b terms sorts made ready ok))
    expands scope p (IsNormal.any s ps n) b terms sorts made ready ok =
        moved b (Any ps) terms sorts made (part_step base (Formula-F.Any (map (part_of base) ps))) (part-Any base ps)
        (any_expands b ps terms sorts (forms (map (part_of base) ps) terms sorts made) (all_parts scope ps n b terms sorts made ready ok))
    expands scope p (IsNormal.for_all s bs f k n) b terms sorts made ready ok =
        let inner = variables_sorted b.signature sorts (sorts_of bs) (length sorts) (length bs) refl (length-map bs (λ (b : Binder). b.sort)) in
        let terms_are = have-append b.signature (sorts ++ sorts_of bs) terms (variables (length sorts) (length bs)) scope (sorts_of bs) (sorts_wider b.signature sorts (sorts_of bs) terms scope ok) inner in
        moved b (ForAll bs f) terms sorts made (part_step base (Formula-F.ForAll bs (part_of base f))) (part-ForAll base bs f)
        (for_all_expands b bs f terms sorts scope made ((part_of base f).form (terms ++ variables (length sorts) (length bs)) (sorts ++ sorts_of bs) made) ready ok
        (expands (extended scope bs) f n b (terms ++ variables (length sorts) (length bs)) (sorts ++ sorts_of bs) made ready terms_are))
    expands scope p (IsNormal.exists s bs f k n) b terms sorts made ready ok =
        moved b (Exists bs f) terms sorts made (part_step base (Formula-F.Exists bs (part_of base f))) (part-Exists base bs f)
        (exists_expands b bs f terms sorts scope made ready ok k n (expands (extended scope bs) f n))

    pub all_parts : (scope : List ℕ) (ps : List Formula) → AreNormal a.signature scope ps → (b : Stage) (terms : List Term) (sorts : List ℕ) (made : List Symbol) → IsReady b made
        → HaveSorts b.signature sorts terms scope → Expansions b ps terms sorts (forms (map (part_of base) ps) terms sorts made)
    all_parts scope ps (AreNormal.none s) b terms sorts made ready ok = record { stage = b; ready = ready; grows = same_stage b; keeps = λ d g vs h. tt }
    all_parts scope ps (AreNormal.more s q qs n ns) b terms sorts made ready ok =
        let x = expands scope q n b terms sorts made ready ok in
        more_expands b q qs terms sorts scope ((part_of base q).form terms sorts made) (forms (map (part_of base) qs) terms sorts ((part_of base q).form terms sorts made).made) ok x
        (all_parts scope qs ns x.stage terms sorts ((part_of base q).form terms sorts made).made x.ready (sorts_stay b x.stage x.grows sorts terms scope ok))
