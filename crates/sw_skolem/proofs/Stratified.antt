-- Ranks that rise along the edges of a query rise along its Skolem functions.
use Rattle.std.specs.Prelude.{◌≡◌, ℕ, ◌+◌, ◌<◌, Bool, true, false, not, cond, ◌&&◌, ◌||◌, if◌then◌else◌, List, [], ◌∷◌, ◌++◌, length, map, slice_index}
use Rattle.std.specs.List.{list_any, filter, flat_map, range_with_len, enumerate_from, AllByRecursion, AllZip}
use Rattle.std.proofs.Common.{rules, arith, refl, sym, ap, subst, ◌∙◌, inl, inr}
use Rattle.std.proofs.lemmas.Bool.{and_parts, or_cases, or_left, or_right, cond_both, cond-true, false≢true}
use Rattle.std.proofs.lemmas.List.{append_assoc, length-append, get_or_append_left}
use Rattle.sw_logic.specs.declared.syntax.Symbol.{Symbol}
use Rattle.sw_logic.specs.declared.syntax.Binder.{Binder}
use Rattle.sw_logic.specs.declared.syntax.Edge.{Edge}
use Rattle.sw_logic.specs.declared.syntax.Term.{Term}
use Rattle.sw_logic.specs.declared.syntax.Term.TheVariants.{Variable}
use Rattle.sw_logic.specs.declared.syntax.Formula.{Formula, roll-Formula, map-Formula, the_lemmas}
use Rattle.sw_logic.specs.declared.syntax.Formula.TheOpen.{Formula-F}
use Rattle.sw_logic.specs.declared.syntax.Formula.TheFolds.{fold-Formula, ind-Formula}
use Rattle.sw_logic.specs.declared.syntax.Formula.TheVariants.{True, False, Holds, Equal, Not, All, Any, Implies, Iff, ForAll, Exists}
use Rattle.sw_logic.specs.declared.syntax.Formula.TheVariants.{rolls-True, rolls-False, rolls-Holds, rolls-Equal, rolls-Not, rolls-All, rolls-Any, rolls-Implies, rolls-Iff, rolls-ForAll, rolls-Exists}
use Rattle.sw_logic.specs.declared.query.Polar.{Polar}
use Rattle.sw_logic.specs.Terms.{has, variables}
use Rattle.sw_skolem.specs.Normal.{is_true, is_false, all_of, any_of, conjunction, disjunction, universal, existential, nnf_of}
use Rattle.sw_skolem.specs.Skolem.{part_of, forms, forms_of, normal_sentences, added_of, universals, kind_by, skolem_symbol, skolem_terms, fresh_constant, skolem_of}
use Rattle.sw_truth.specs.Models.{is_bare}
use Rattle.sw_skolem.specs.Skolem as skolem
use Rattle.sw_logic.specs.Strata as strata
use Rattle.sw_logic.specs.Strata.{edge, edges_between, depended, sorts_of, symbol_edges, function_edges, formula_edges, edges_of, AreRanks}
use Rattle.sw_skolem.specs.Laws.{asserted, SkolemKeepsStrata}
use Rattle.sw_skolem.proofs.Parts.{part-True, part-False, part-Holds, part-Equal, part-Not, part-All, part-Any, part-ForAll, part-Exists}
use Rattle.sw_truth.proofs.Ranging.{has-Variable, has-Apply}
use Rattle.sw_skolem.proofs.Witnesses.{sorts_at, universals_below}
use Rattle.sw_truth.proofs.Lists.{IsIn, in-left, in-right, in-map, in-all}
use Rattle.sw_truth.proofs.Rising.{Rises, rises_front}
use Rattle.sw_skolem.proofs.NormalForms.{IsNeither, neither-Holds, neither-Equal, neither-Not, neither-All, neither-Any, neither-ForAll, neither-Exists, not_constant}
use Rattle.std.proofs.lemmas.Bool.{eqb-true}
use Rattle.sw_lists.proofs.Each.{each-pairs}

abbrev strata_of : Formula → strata.Part
strata_of = fold-Formula strata.Part strata.part_step

some_of : {X : Type 0} (p : X → Bool) (P : Type 0) (xs : List X) → ((x : X) → p x ≡ true → P) → list_any p xs ≡ true → P
some_of p P [] h e = absurd (false≢true e)
some_of p P (x ∷ xs) h e = elim (or_cases (p x) (list_any p xs) e) [ inl t ↦ h x t | inr t ↦ some_of p P xs h t ]

module _ (base : ℕ) (ranks : List ℕ) where
  abbrev AllRise : List Edge → Type 0
  AllRise edges = AllByRecursion (Rises ranks) edges

  rise_both : (xs ys : List Edge) → AllRise xs → AllRise ys → AllRise (xs ++ ys)
  rise_both [] ys h k = k
  rise_both (x ∷ xs) ys h k = (h.0, rise_both xs ys h.1 k)

  functions_both : (xs ys : List Symbol) → AllRise (function_edges xs) → AllRise (function_edges ys) → AllRise (function_edges (xs ++ ys))
  functions_both [] ys h k = k
  functions_both (x ∷ xs) ys h k =
      let parts = rises_front ranks (symbol_edges x.kind x.args x.gives) (function_edges xs) h in
      rise_both (symbol_edges x.kind x.args x.gives) (function_edges (xs ++ ys)) parts.0 (functions_both xs ys parts.1 k)

  -- the universal variables of each term have sorts on which the variable of the scope depends
  abbrev Related : List Term → List ℕ → List (List ℕ) → Type 0
  Related terms sorts deps = AllZip (λ (t : Term) (ds : List ℕ). (u : ℕ) → has u t ≡ true → (u < length sorts) × IsIn (slice_index sorts u) ds) terms deps

  related_wider : (terms : List Term) (sorts more : List ℕ) (deps : List (List ℕ)) → Related terms sorts deps → Related terms (sorts ++ more) deps
  related_wider [] sorts more [] h = tt
  related_wider [] sorts more (d ∷ deps) h = absurd h
  related_wider (t ∷ terms) sorts more [] h = absurd h
  related_wider (t ∷ terms) sorts more (d ∷ deps) h = (
    λ u e.
        let r = h.0 u e in
        let below = r.0 in
        let same = get_or_append_left sorts more 0 u r.0 in
        let count = length-append sorts more in
        (omega arith, subst (λ s. IsIn s d) (sym same) r.1),
    related_wider terms sorts more deps h.1,
  )

  related_both : (ts us : List Term) (sorts : List ℕ) (ds es : List (List ℕ)) → Related ts sorts ds → Related us sorts es → Related (ts ++ us) sorts (ds ++ es)
  related_both [] us sorts [] es h k = k
  related_both [] us sorts (d ∷ ds) es h k = absurd h
  related_both (t ∷ ts) us sorts [] es h k = absurd h
  related_both (t ∷ ts) us sorts (d ∷ ds) es h k = (h.0, related_both ts us sorts ds es h.1 k)

  seam : (front : List ℕ) (s : ℕ) (back : List ℕ) → (length front < length (front ++ s ∷ back)) × (slice_index (front ++ s ∷ back) (length front) ≡ s)
  seam [] s back = (omega arith, refl)
  seam (x ∷ front) s back = let rest = seam front s back in let below = rest.0 in (omega arith, rest.1)

  related_variables : (front : List ℕ) (bs : List Binder) (n : ℕ) → length front ≡ n → Related (variables n (length bs)) (front ++ sorts_of bs) (map (λ (b : Binder). b.sort ∷ []) bs)
  related_variables front [] n e = tt
  related_variables front (b ∷ bs) n e =
      let s = seam front b.sort (sorts_of bs) in
      let longer : length (front ++ b.sort ∷ []) ≡ n + 1 = simp length-append (omega arith) in
      let rest = related_variables (front ++ b.sort ∷ []) bs (n + 1) longer in (
        (λ u h.
            let is : n ≡ u = eqb-true n u (sym (has-Variable u n) ∙ h) in
            let at : length front ≡ u = e ∙ is in
            (subst (λ k. k < length (front ++ b.sort ∷ sorts_of bs)) at s.0, subst (λ x. IsIn x (b.sort ∷ [])) (sym s.1 ∙ ap (slice_index (front ++ b.sort ∷ sorts_of bs)) at) (IsIn.here []))),
        subst (λ (ss : List ℕ). Related (variables (n + 1) (length bs)) ss (map (λ (b : Binder). b.sort ∷ []) bs)) (append_assoc front (b.sort ∷ []) (sorts_of bs)) rest,
      )

  -- the variables of a Skolem term
  abbrev Depends : List ℕ → List ℕ → ℕ → Type 0
  Depends sorts ds u = (u < length sorts) × IsIn (slice_index sorts u) ds

  listed : (sorts ds us : List ℕ) (u : ℕ) → AllByRecursion (Depends sorts ds) us → list_any (has u) (map Variable us) ≡ true → Depends sorts ds u
  listed sorts ds [] u h e = absurd (false≢true e)
  listed sorts ds (x ∷ us) u h e =
      elim (or_cases (has u (Variable x)) (list_any (has u) (map Variable us)) e) [
        | inl t ↦ subst (Depends sorts ds) (eqb-true x u (sym (has-Variable u x) ∙ t)) h.0
        | inr t ↦ listed sorts ds us u h.1 t
      ]

  related_skolem : (sorts ds us : List ℕ) (bs : List Binder) (from : ℕ) → AllByRecursion (Depends sorts ds) us → Related (skolem_terms us from (length bs)) sorts (map (λ (b : Binder). ds) bs)
  related_skolem sorts ds us [] from h = tt
  related_skolem sorts ds us (b ∷ bs) from h =
      (λ u e. listed sorts ds us u h (sym (has-Apply u from (map Variable us)) ∙ e), related_skolem sorts ds us bs (from + 1) h)

  depended_has : (occurs occ : ℕ → Bool) (from u : ℕ) (terms : List Term) (sorts : List ℕ) (deps : List (List ℕ)) → ((x : ℕ) → occurs x ≡ true → occ x ≡ true) → Related terms sorts deps
      → list_any (λ t. occurs t.0 && has u t.1) (enumerate_from from terms) ≡ true → IsIn (slice_index sorts u) (flat_map (λ v. if occ v.0 then v.1 else []) (enumerate_from from deps))
  depended_has occurs occ from u [] sorts [] o h e = absurd (false≢true e)
  depended_has occurs occ from u [] sorts (d ∷ deps) o h e = absurd h
  depended_has occurs occ from u (t ∷ terms) sorts [] o h e = absurd h
  depended_has occurs occ from u (t ∷ terms) sorts (d ∷ deps) o h e =
      elim (or_cases (occurs from && has u t) (list_any (λ t. occurs t.0 && has u t.1) (enumerate_from (from + 1) terms)) e) [
        | inl both ↦
            let parts = and_parts (occurs from) (has u t) both in
            let r = h.0 u parts.1 in
            let here : d ≡ cond (occ from) d [] = sym (cond-true (occ from) d [] (o from parts.0)) in
            in-left (slice_index sorts u) (cond (occ from) d []) _ (subst (λ (xs : List ℕ). IsIn (slice_index sorts u) xs) here r.1)
        | inr rest ↦ in-right (slice_index sorts u) (cond (occ from) d []) _ (depended_has occurs occ (from + 1) u terms sorts deps o h.1 rest)
      ]

  filtered : (test : ℕ → Bool) (xs : List ℕ) → AllByRecursion (λ u. test u ≡ true) (filter test xs)
  filtered test [] = tt
  filtered test (x ∷ xs) = cond_both (test x) (x ∷ filter test xs) (filter test xs) (AllByRecursion (λ u. test u ≡ true)) (λ t. (t, filtered test xs)) (λ f. filtered test xs)

  together : (P Q R : ℕ → Type 0) (xs : List ℕ) → ((x : ℕ) → P x → Q x → R x) → AllByRecursion P xs → AllByRecursion Q xs → AllByRecursion R xs
  together P Q R [] h a b = tt
  together P Q R (x ∷ xs) h a b = (h x a.0 b.0, together P Q R xs h a.1 b.1)

  universals_depend : (occurs occ : ℕ → Bool) (terms : List Term) (sorts : List ℕ) (deps : List (List ℕ)) → ((x : ℕ) → occurs x ≡ true → occ x ≡ true) → Related terms sorts deps
      → AllByRecursion (Depends sorts (depended occ deps)) (universals occurs terms (length sorts))
  universals_depend occurs occ terms sorts deps o h =
      together (λ u. u < length sorts) (λ u. list_any (λ t. occurs t.0 && has u t.1) (enumerate_from 0 terms) ≡ true) (Depends sorts (depended occ deps)) (universals occurs terms (length sorts))
      (λ u below e. (below, depended_has occurs occ 0 u terms sorts deps o h e)) (universals_below occurs terms (length sorts))
      (filtered (λ u. list_any (λ t. occurs t.0 && has u t.1) (enumerate_from 0 terms)) (range_with_len 0 (length sorts)))

  -- the edges of a Skolem function rise
  ends : (a : ℕ) (ss : List ℕ) (s : ℕ) → AllRise (map (edge a) ss) → IsIn s ss → slice_index ranks a < slice_index ranks s
  ends a ss s h i = in-all (Rises ranks) (edge a s) (map (edge a) ss) h (in-map (edge a) s ss i)

  between_at : (a : ℕ) (ds ss : List ℕ) (s : ℕ) → AllRise (edges_between ds ss) → IsIn a ds → IsIn s ss → slice_index ranks a < slice_index ranks s
  between_at a ds ss s h (IsIn.here xs) i = ends a ss s (rises_front ranks (map (edge a) ss) (edges_between xs ss) h).0 i
  between_at a ds ss s h (IsIn.there d xs j) i = between_at a xs ss s (rises_front ranks (map (edge d) ss) (edges_between xs ss) h).1 j i

  args_rise : (sorts ds us ss : List ℕ) (s : ℕ) → AllByRecursion (Depends sorts ds) us → AllRise (edges_between ds ss) → IsIn s ss → AllRise (edges_between (sorts_at sorts us) (s ∷ []))
  args_rise sorts ds [] ss s h e i = tt
  args_rise sorts ds (u ∷ us) ss s h e i = (between_at (slice_index sorts u) ds ss s e h.0.1 i, args_rise sorts ds us ss s h.1 e i)

  symbol_rises : (sorts ds us ss : List ℕ) (s : ℕ) → AllByRecursion (Depends sorts ds) us → AllRise (edges_between ds ss) → IsIn s ss → AllRise (symbol_edges (kind_by us) (sorts_at sorts us) s)
  symbol_rises sorts ds [] ss s h e i = tt
  symbol_rises sorts ds (u ∷ us) ss s h e i = args_rise sorts ds (u ∷ us) ss s h e i

  symbols_rise : (sorts ds us ss : List ℕ) (bs : List Binder) → AllByRecursion (Depends sorts ds) us → AllRise (edges_between ds ss) → ((s : ℕ) → IsIn s (sorts_of bs) → IsIn s ss)
      → AllRise (function_edges (map (skolem_symbol sorts us) bs))
  symbols_rise sorts ds us ss [] h e i = tt
  symbols_rise sorts ds us ss (b ∷ bs) h e i =
      rise_both (symbol_edges (kind_by us) (sorts_at sorts us) b.sort) (function_edges (map (skolem_symbol sorts us) bs)) (symbol_rises sorts ds us ss b.sort h e (i b.sort (IsIn.here (sorts_of bs))))
      (symbols_rise sorts ds us ss bs h e (λ s k. i s (IsIn.there b.sort (sorts_of bs) k)))

  -- what is kept of a part: fewer variables occur, and its new symbols rise where the edges do
  pub record Good (occ : ℕ → Bool) (edges : List (List ℕ) → List Edge) (p : Formula) : Type 0 where
    pub occurs : (x : ℕ) → (part_of base p).occurs x ≡ true → occ x ≡ true
    pub rises : (terms : List Term) (sorts : List ℕ) (made : List Symbol) (deps : List (List ℕ)) → Related terms sorts deps → AllRise (edges deps) → AllRise (function_edges made)
        → AllRise (function_edges ((part_of base p).form terms sorts made).made)
    pub fixed : (is_true p || is_false p) ≡ true → (terms : List Term) (sorts : List ℕ) (made : List Symbol) → ((part_of base p).form terms sorts made).made ≡ made

  good_by : (occ : ℕ → Bool) (edges : List (List ℕ) → List Edge) (p : Formula) (t : skolem.Part) → part_of base p ≡ t → IsNeither p → ((x : ℕ) → t.occurs x ≡ true → occ x ≡ true)
      → ((terms : List Term) (sorts : List ℕ) (made : List Symbol) (deps : List (List ℕ)) → Related terms sorts deps → AllRise (edges deps) → AllRise (function_edges made) → AllRise (function_edges (t.form terms sorts made).made))
      → Good occ edges p
  good_by occ edges p t e n o r = record {
    occurs = λ x h. o x (ap (λ (q : skolem.Part). q.occurs x) (sym e) ∙ h);
    rises = λ terms sorts made deps h k m. subst (λ (q : skolem.Part). AllRise (function_edges (q.form terms sorts made).made)) (sym e) (r terms sorts made deps h k m);
    fixed = λ c. absurd (not_constant p n c);
  }

  good-True : (occ : ℕ → Bool) (edges : List (List ℕ) → List Edge) → Good occ edges True
  good-True occ edges = record {
    occurs = λ x h. absurd (false≢true (ap (λ (q : skolem.Part). q.occurs x) (sym (part-True base)) ∙ h));
    rises = λ terms sorts made deps h k m. subst (λ (q : skolem.Part). AllRise (function_edges (q.form terms sorts made).made)) (sym (part-True base)) m;
    fixed = λ c terms sorts made. ap (λ (q : skolem.Part). (q.form terms sorts made).made) (part-True base);
  }

  good-False : (occ : ℕ → Bool) (edges : List (List ℕ) → List Edge) → Good occ edges False
  good-False occ edges = record {
    occurs = λ x h. absurd (false≢true (ap (λ (q : skolem.Part). q.occurs x) (sym (part-False base)) ∙ h));
    rises = λ terms sorts made deps h k m. subst (λ (q : skolem.Part). AllRise (function_edges (q.form terms sorts made).made)) (sym (part-False base)) m;
    fixed = λ c terms sorts made. ap (λ (q : skolem.Part). (q.form terms sorts made).made) (part-False base);
  }

  -- lists of parts
  abbrev AllGood : (ℕ → Bool) → (List (List ℕ) → List Edge) → List Formula → Type 0
  AllGood occ edges ps = AllByRecursion (Good occ edges) ps

  good_occurs : (occ : ℕ → Bool) (edges : List (List ℕ) → List Edge) (ps : List Formula) → AllGood occ edges ps → (x : ℕ) → list_any (λ (q : skolem.Part). q.occurs x) (map (part_of base) ps) ≡ true → occ x ≡ true
  good_occurs occ edges [] h x e = absurd (false≢true e)
  good_occurs occ edges (p ∷ ps) h x e =
      elim (or_cases ((part_of base p).occurs x) (list_any (λ (q : skolem.Part). q.occurs x) (map (part_of base) ps)) e) [ inl t ↦ h.0.occurs x t | inr t ↦ good_occurs occ edges ps h.1 x t ]

  good_forms : (occ : ℕ → Bool) (edges : List (List ℕ) → List Edge) (ps : List Formula) → AllGood occ edges ps → (terms : List Term) (sorts : List ℕ) (made : List Symbol) (deps : List (List ℕ))
      → Related terms sorts deps → AllRise (edges deps) → AllRise (function_edges made) → AllRise (function_edges (forms (map (part_of base) ps) terms sorts made).made)
  good_forms occ edges [] h terms sorts made deps r k m = m
  good_forms occ edges (p ∷ ps) h terms sorts made deps r k m =
      good_forms occ edges ps h.1 terms sorts ((part_of base p).form terms sorts made).made deps r k (h.0.rises terms sorts made deps r k m)

  good-All : (occ : ℕ → Bool) (edges : List (List ℕ) → List Edge) (ps : List Formula) → AllGood occ edges ps → Good occ edges (All ps)
  good-All occ edges ps h = good_by occ edges (All ps) (skolem.part_step base (Formula-F.All (map (part_of base) ps))) (part-All base ps) (neither-All ps) (good_occurs occ edges ps h) (good_forms occ edges ps h)

  good-Any : (occ : ℕ → Bool) (edges : List (List ℕ) → List Edge) (ps : List Formula) → AllGood occ edges ps → Good occ edges (Any ps)
  good-Any occ edges ps h = good_by occ edges (Any ps) (skolem.part_step base (Formula-F.Any (map (part_of base) ps))) (part-Any base ps) (neither-Any ps) (good_occurs occ edges ps h) (good_forms occ edges ps h)

  good_filter : (occ : ℕ → Bool) (edges : List (List ℕ) → List Edge) (test : Formula → Bool) (ps : List Formula) → AllGood occ edges ps → AllGood occ edges (filter test ps)
  good_filter occ edges test [] h = tt
  good_filter occ edges test (p ∷ ps) h =
      cond_both (test p) (p ∷ filter test ps) (filter test ps) (AllGood occ edges) (λ t. (h.0, good_filter occ edges test ps h.1)) (λ f. good_filter occ edges test ps h.1)

  good_all_of : (occ : ℕ → Bool) (edges : List (List ℕ) → List Edge) (ps : List Formula) → AllGood occ edges ps → Good occ edges (all_of ps)
  good_all_of occ edges [] h = good-True occ edges
  good_all_of occ edges (p ∷ []) h = h.0
  good_all_of occ edges (p ∷ q ∷ ps) h = good-All occ edges (p ∷ q ∷ ps) h

  good_any_of : (occ : ℕ → Bool) (edges : List (List ℕ) → List Edge) (ps : List Formula) → AllGood occ edges ps → Good occ edges (any_of ps)
  good_any_of occ edges [] h = good-False occ edges
  good_any_of occ edges (p ∷ []) h = h.0
  good_any_of occ edges (p ∷ q ∷ ps) h = good-Any occ edges (p ∷ q ∷ ps) h

  good_conjunction : (occ : ℕ → Bool) (edges : List (List ℕ) → List Edge) (ps : List Formula) → AllGood occ edges ps → Good occ edges (conjunction ps)
  good_conjunction occ edges ps h =
      cond_both (list_any is_false ps) False (all_of (filter (λ p. not (is_true p)) ps)) (Good occ edges) (λ e. good-False occ edges)
      (λ e. good_all_of occ edges (filter (λ p. not (is_true p)) ps) (good_filter occ edges (λ p. not (is_true p)) ps h))

  good_disjunction : (occ : ℕ → Bool) (edges : List (List ℕ) → List Edge) (ps : List Formula) → AllGood occ edges ps → Good occ edges (disjunction ps)
  good_disjunction occ edges ps h =
      cond_both (list_any is_true ps) True (any_of (filter (λ p. not (is_false p)) ps)) (Good occ edges) (λ e. good-True occ edges)
      (λ e. good_any_of occ edges (filter (λ p. not (is_false p)) ps) (good_filter occ edges (λ p. not (is_false p)) ps h))

  -- quantifiers
  constant_good : (occ : ℕ → Bool) (edges inner : List (List ℕ) → List Edge) (p : Formula) → Good occ inner p → (is_true p || is_false p) ≡ true → Good occ edges p
  constant_good occ edges inner p g c = record {
    occurs = g.occurs;
    rises = λ terms sorts made deps r k m. subst (λ (xs : List Symbol). AllRise (function_edges xs)) (sym (g.fixed c terms sorts made)) m;
    fixed = g.fixed;
  }

  good_universal : (occ : ℕ → Bool) (inner : List (List ℕ) → List Edge) (bs : List Binder) (p : Formula) → Good occ inner p
      → Good occ (λ deps. inner (deps ++ map (λ (b : Binder). b.sort ∷ []) bs)) (universal bs p)
  good_universal occ inner bs p g =
      cond_both (is_true p || is_false p) p (ForAll bs p) (Good occ (λ deps. inner (deps ++ map (λ (b : Binder). b.sort ∷ []) bs)))
      (λ c. constant_good occ (λ deps. inner (deps ++ map (λ (b : Binder). b.sort ∷ []) bs)) inner p g c)
      (λ c. good_by occ (λ deps. inner (deps ++ map (λ (b : Binder). b.sort ∷ []) bs)) (ForAll bs p) (skolem.part_step base (Formula-F.ForAll bs (part_of base p))) (part-ForAll base bs p) (neither-ForAll bs p) g.occurs
      (λ terms sorts made deps r k m. g.rises (terms ++ variables (length sorts) (length bs)) (sorts ++ sorts_of bs) made (deps ++ map (λ (b : Binder). b.sort ∷ []) bs)
      (related_both terms (variables (length sorts) (length bs)) (sorts ++ sorts_of bs) deps (map (λ (b : Binder). b.sort ∷ []) bs) (related_wider terms sorts (sorts_of bs) deps r) (related_variables sorts bs (length sorts) refl)) k m))

  good_existential : (occ : ℕ → Bool) (inner : List (List ℕ) → List Edge) (bs : List Binder) (p : Formula) → Good occ inner p
      → Good occ (λ deps. edges_between (depended occ deps) (sorts_of bs) ++ inner (deps ++ map (λ (b : Binder). depended occ deps) bs)) (existential bs p)
  good_existential occ inner bs p g =
      let edges = λ (deps : List (List ℕ)). edges_between (depended occ deps) (sorts_of bs) ++ inner (deps ++ map (λ (b : Binder). depended occ deps) bs) in
      cond_both (is_true p || is_false p) p (Exists bs p) (Good occ edges)
      (λ c. constant_good occ edges inner p g c)
      (λ c. good_by occ edges (Exists bs p) (skolem.part_step base (Formula-F.Exists bs (part_of base p))) (part-Exists base bs p) (neither-Exists bs p) g.occurs
      (λ terms sorts made deps r k m.
      let us = universals (part_of base p).occurs terms (length sorts) in
      let ds = depended occ deps in
      let parts = rises_front ranks (edges_between ds (sorts_of bs)) (inner (deps ++ map (λ (b : Binder). ds) bs)) k in
      let depend = universals_depend (part_of base p).occurs occ terms sorts deps g.occurs r in
      let new = symbols_rise sorts ds us (sorts_of bs) bs depend parts.0 (λ s i. i) in
      g.rises (terms ++ skolem_terms us (base + length made) (length bs)) sorts (made ++ map (skolem_symbol sorts us) bs) (deps ++ map (λ (b : Binder). ds) bs)
      (related_both terms (skolem_terms us (base + length made) (length bs)) sorts deps (map (λ (b : Binder). ds) bs) r (related_skolem sorts ds us bs (base + length made) depend)) parts.1
      (functions_both made (map (skolem_symbol sorts us) bs) m new)))

  -- a formula and its negation
  abbrev GoodPart : strata.Part → Bool → Formula → Type 0
  GoodPart t c p = Good t.occurs (λ deps. t.edges c deps) p

  abbrev HasGood : Formula → Type 0
  HasGood f = (c : Bool) → GoodPart (strata_of f) c (nnf_of f c)

  by : (f : Formula) (c : Bool) (t : strata.Part) (g : Formula) → strata_of f ≡ t → nnf_of f c ≡ g → GoodPart t c g → GoodPart (strata_of f) c (nnf_of f c)
  by f c t g e h x = subst (λ (p : Formula). GoodPart (strata_of f) c p) (sym h) (subst (λ (q : strata.Part). GoodPart q c g) (sym e) x)

  -- what is good stays so where more variables count and more edges rise
  weaker : (occ more : ℕ → Bool) (edges others : List (List ℕ) → List Edge) (p : Formula) → Good occ edges p → ((x : ℕ) → occ x ≡ true → more x ≡ true)
      → ((deps : List (List ℕ)) → AllRise (others deps) → AllRise (edges deps)) → Good more others p
  weaker occ more edges others p g o r = record {
    occurs = λ x h. o x (g.occurs x h);
    rises = λ terms sorts made deps h k m. g.rises terms sorts made deps h (r deps k) m;
    fixed = g.fixed;
  }

  atom_good : (occ : ℕ → Bool) (edges : List (List ℕ) → List Edge) (p : Formula) (t : skolem.Part) → part_of base p ≡ t → IsNeither p → ((x : ℕ) → t.occurs x ≡ true → occ x ≡ true)
      → ((terms : List Term) (sorts : List ℕ) (made : List Symbol) → (t.form terms sorts made).made ≡ made) → Good occ edges p
  atom_good occ edges p t e n o same = good_by occ edges p t e n o (λ terms sorts made deps h k m. subst (λ (xs : List Symbol). AllRise (function_edges xs)) (sym (same terms sorts made)) m)

  true_good : HasGood True
  true_good true = by True true (strata.part_step Formula-F.True) True (search (rules, the_lemmas)) (search (rules, the_lemmas)) (good-True _ _)
  true_good false = by True false (strata.part_step Formula-F.True) False (search (rules, the_lemmas)) (search (rules, the_lemmas)) (good-False _ _)

  false_good : HasGood False
  false_good true = by False true (strata.part_step Formula-F.False) False (search (rules, the_lemmas)) (search (rules, the_lemmas)) (good-False _ _)
  false_good false = by False false (strata.part_step Formula-F.False) True (search (rules, the_lemmas)) (search (rules, the_lemmas)) (good-True _ _)

  holds_good : (k : ℕ) (post : Bool) (args : List Term) → HasGood (Holds k post args)
  holds_good k post args true =
      by (Holds k post args) true (strata.part_step (Formula-F.Holds k post args)) (Holds k post args) (search (rules, the_lemmas)) (search (rules, the_lemmas))
      (atom_good _ _ (Holds k post args) (skolem.part_step base (Formula-F.Holds k post args)) (part-Holds base k post args) (neither-Holds k post args) (λ x e. e) (λ terms sorts made. refl))
  holds_good k post args false =
      by (Holds k post args) false (strata.part_step (Formula-F.Holds k post args)) (Not (Holds k post args)) (search (rules, the_lemmas)) (search (rules, the_lemmas))
      (atom_good _ _ (Not (Holds k post args)) (skolem.part_step base (Formula-F.Not (skolem.part_step base (Formula-F.Holds k post args))))
      (part-Not base (Holds k post args) ∙ ap (λ (t : skolem.Part). skolem.part_step base (Formula-F.Not t)) (part-Holds base k post args)) (neither-Not (Holds k post args)) (λ x e. e) (λ terms sorts made. refl))

  equal_good : (a b : Term) → HasGood (Equal a b)
  equal_good a b true =
      by (Equal a b) true (strata.part_step (Formula-F.Equal a b)) (Equal a b) (search (rules, the_lemmas)) (search (rules, the_lemmas))
      (atom_good _ _ (Equal a b) (skolem.part_step base (Formula-F.Equal a b)) (part-Equal base a b) (neither-Equal a b) (λ x e. e) (λ terms sorts made. refl))
  equal_good a b false =
      by (Equal a b) false (strata.part_step (Formula-F.Equal a b)) (Not (Equal a b)) (search (rules, the_lemmas)) (search (rules, the_lemmas))
      (atom_good _ _ (Not (Equal a b)) (skolem.part_step base (Formula-F.Not (skolem.part_step base (Formula-F.Equal a b))))
      (part-Not base (Equal a b) ∙ ap (λ (t : skolem.Part). skolem.part_step base (Formula-F.Not t)) (part-Equal base a b)) (neither-Not (Equal a b)) (λ x e. e) (λ terms sorts made. refl))

  not_good : (p : Formula) → HasGood p → HasGood (Not p)
  not_good p h true = by (Not p) true (strata.part_step (Formula-F.Not (strata_of p))) (nnf_of p false) (search (rules, the_lemmas)) (search (rules, the_lemmas)) (h false)
  not_good p h false = by (Not p) false (strata.part_step (Formula-F.Not (strata_of p))) (nnf_of p true) (search (rules, the_lemmas)) (search (rules, the_lemmas)) (h true)

  abbrev parts_of : Bool → List Formula → List Formula
  parts_of c ps = map (λ (p : Bool → Formula). p c) (map nnf_of ps)

  abbrev any_occurs : List Formula → ℕ → Bool
  any_occurs ps x = list_any (λ (q : strata.Part). q.occurs x) (map strata_of ps)

  abbrev all_edges : Bool → List Formula → List (List ℕ) → List Edge
  all_edges c ps deps = flat_map (λ (q : strata.Part). q.edges c deps) (map strata_of ps)

  parts_good : (c : Bool) (ps : List Formula) → AllByRecursion HasGood ps → (occ : ℕ → Bool) (edges : List (List ℕ) → List Edge) → ((x : ℕ) → any_occurs ps x ≡ true → occ x ≡ true)
      → ((deps : List (List ℕ)) → AllRise (edges deps) → AllRise (all_edges c ps deps)) → AllGood occ edges (parts_of c ps)
  parts_good c [] h occ edges o r = tt
  parts_good c (p ∷ ps) h occ edges o r = (
    weaker (strata_of p).occurs occ (λ deps. (strata_of p).edges c deps) edges (nnf_of p c) (h.0 c) (λ x e. o x (or_left ((strata_of p).occurs x) (any_occurs ps x) e))
        (λ deps k. (rises_front ranks ((strata_of p).edges c deps) (all_edges c ps deps) (r deps k)).0),
    parts_good c ps h.1 occ edges (λ x e. o x (or_right ((strata_of p).occurs x) (any_occurs ps x) e))
        (λ deps k. (rises_front ranks ((strata_of p).edges c deps) (all_edges c ps deps) (r deps k)).1),
  )

  all_good : (ps : List Formula) → AllByRecursion HasGood ps → HasGood (All ps)
  all_good ps h true =
      by (All ps) true (strata.part_step (Formula-F.All (map strata_of ps))) (conjunction (parts_of true ps)) (search (rules, the_lemmas)) (search (rules, the_lemmas))
      (good_conjunction (any_occurs ps) (all_edges true ps) (parts_of true ps) (parts_good true ps h (any_occurs ps) (all_edges true ps) (λ x e. e) (λ deps k. k)))
  all_good ps h false =
      by (All ps) false (strata.part_step (Formula-F.All (map strata_of ps))) (disjunction (parts_of false ps)) (search (rules, the_lemmas)) (search (rules, the_lemmas))
      (good_disjunction (any_occurs ps) (all_edges false ps) (parts_of false ps) (parts_good false ps h (any_occurs ps) (all_edges false ps) (λ x e. e) (λ deps k. k)))

  any_good : (ps : List Formula) → AllByRecursion HasGood ps → HasGood (Any ps)
  any_good ps h true =
      by (Any ps) true (strata.part_step (Formula-F.Any (map strata_of ps))) (disjunction (parts_of true ps)) (search (rules, the_lemmas)) (search (rules, the_lemmas))
      (good_disjunction (any_occurs ps) (all_edges true ps) (parts_of true ps) (parts_good true ps h (any_occurs ps) (all_edges true ps) (λ x e. e) (λ deps k. k)))
  any_good ps h false =
      by (Any ps) false (strata.part_step (Formula-F.Any (map strata_of ps))) (conjunction (parts_of false ps)) (search (rules, the_lemmas)) (search (rules, the_lemmas))
      (good_conjunction (any_occurs ps) (all_edges false ps) (parts_of false ps) (parts_good false ps h (any_occurs ps) (all_edges false ps) (λ x e. e) (λ deps k. k)))

  -- two parts, with their edges among others
  left_good : (p : Formula) (c : Bool) (occ : ℕ → Bool) (edges : List (List ℕ) → List Edge) → HasGood p → ((x : ℕ) → (strata_of p).occurs x ≡ true → occ x ≡ true)
      → ((deps : List (List ℕ)) → AllRise (edges deps) → AllRise ((strata_of p).edges c deps)) → Good occ edges (nnf_of p c)
  left_good p c occ edges h o r = weaker (strata_of p).occurs occ (λ deps. (strata_of p).edges c deps) edges (nnf_of p c) (h c) o r

  implies_good : (p q : Formula) → HasGood p → HasGood q → HasGood (Implies p q)
  implies_good p q h k true =
      let t = strata.part_step (Formula-F.Implies (strata_of p) (strata_of q)) in
      let edges = λ (deps : List (List ℕ)). (strata_of p).edges false deps ++ (strata_of q).edges true deps in
      by (Implies p q) true t (disjunction (nnf_of p false ∷ nnf_of q true ∷ [])) (search (rules, the_lemmas)) (search (rules, the_lemmas))
      (good_disjunction t.occurs edges (nnf_of p false ∷ nnf_of q true ∷ []) (
        left_good p false t.occurs edges h (λ x e. or_left ((strata_of p).occurs x) ((strata_of q).occurs x) e) (λ deps r. (rises_front ranks ((strata_of p).edges false deps) ((strata_of q).edges true deps) r).0),
        (left_good q true t.occurs edges k (λ x e. or_right ((strata_of p).occurs x) ((strata_of q).occurs x) e) (λ deps r. (rises_front ranks ((strata_of p).edges false deps) ((strata_of q).edges true deps) r).1), tt),
      ))
  implies_good p q h k false =
      let t = strata.part_step (Formula-F.Implies (strata_of p) (strata_of q)) in
      let edges = λ (deps : List (List ℕ)). (strata_of p).edges true deps ++ (strata_of q).edges false deps in
      by (Implies p q) false t (conjunction (nnf_of p true ∷ nnf_of q false ∷ [])) (search (rules, the_lemmas)) (search (rules, the_lemmas))
      (good_conjunction t.occurs edges (nnf_of p true ∷ nnf_of q false ∷ []) (
        left_good p true t.occurs edges h (λ x e. or_left ((strata_of p).occurs x) ((strata_of q).occurs x) e) (λ deps r. (rises_front ranks ((strata_of p).edges true deps) ((strata_of q).edges false deps) r).0),
        (left_good q false t.occurs edges k (λ x e. or_right ((strata_of p).occurs x) ((strata_of q).occurs x) e) (λ deps r. (rises_front ranks ((strata_of p).edges true deps) ((strata_of q).edges false deps) r).1), tt),
      ))

  -- both polarities of two parts
  module _ (p q : Formula) (h : HasGood p) (k : HasGood q) where
    abbrev both_part : strata.Part
    both_part = strata.part_step (Formula-F.Iff (strata_of p) (strata_of q))

    abbrev both_edges : List (List ℕ) → List Edge
    both_edges deps = ((strata_of p).edges true deps ++ (strata_of p).edges false deps) ++ ((strata_of q).edges true deps ++ (strata_of q).edges false deps)

    first_rise : (c : Bool) (deps : List (List ℕ)) → AllRise (both_edges deps) → AllRise ((strata_of p).edges c deps)
    first_rise true deps r =
        (rises_front ranks ((strata_of p).edges true deps) ((strata_of p).edges false deps)
        (rises_front ranks ((strata_of p).edges true deps ++ (strata_of p).edges false deps) ((strata_of q).edges true deps ++ (strata_of q).edges false deps) r).0).0
    first_rise false deps r =
        (rises_front ranks ((strata_of p).edges true deps) ((strata_of p).edges false deps)
        (rises_front ranks ((strata_of p).edges true deps ++ (strata_of p).edges false deps) ((strata_of q).edges true deps ++ (strata_of q).edges false deps) r).0).1

    second_rise : (c : Bool) (deps : List (List ℕ)) → AllRise (both_edges deps) → AllRise ((strata_of q).edges c deps)
    second_rise true deps r =
        (rises_front ranks ((strata_of q).edges true deps) ((strata_of q).edges false deps)
        (rises_front ranks ((strata_of p).edges true deps ++ (strata_of p).edges false deps) ((strata_of q).edges true deps ++ (strata_of q).edges false deps) r).1).0
    second_rise false deps r =
        (rises_front ranks ((strata_of q).edges true deps) ((strata_of q).edges false deps)
        (rises_front ranks ((strata_of p).edges true deps ++ (strata_of p).edges false deps) ((strata_of q).edges true deps ++ (strata_of q).edges false deps) r).1).1

    first_good : (c : Bool) → Good both_part.occurs both_edges (nnf_of p c)
    first_good c = left_good p c both_part.occurs both_edges h (λ x e. or_left ((strata_of p).occurs x) ((strata_of q).occurs x) e) (first_rise c)

    second_good : (c : Bool) → Good both_part.occurs both_edges (nnf_of q c)
    second_good c = left_good q c both_part.occurs both_edges k (λ x e. or_right ((strata_of p).occurs x) ((strata_of q).occurs x) e) (second_rise c)

    iff_good : HasGood (Iff p q)
    iff_good true =
        by (Iff p q) true both_part (conjunction (disjunction (nnf_of p false ∷ nnf_of q true ∷ []) ∷ disjunction (nnf_of q false ∷ nnf_of p true ∷ []) ∷ [])) (search (rules, the_lemmas)) (search (rules, the_lemmas))
        (good_conjunction both_part.occurs both_edges (disjunction (nnf_of p false ∷ nnf_of q true ∷ []) ∷ disjunction (nnf_of q false ∷ nnf_of p true ∷ []) ∷ []) (
          good_disjunction both_part.occurs both_edges (nnf_of p false ∷ nnf_of q true ∷ []) (first_good false, (second_good true, tt)),
          (good_disjunction both_part.occurs both_edges (nnf_of q false ∷ nnf_of p true ∷ []) (second_good false, (first_good true, tt)), tt),
        ))
    iff_good false =
        by (Iff p q) false both_part (disjunction (conjunction (nnf_of p true ∷ nnf_of q false ∷ []) ∷ conjunction (nnf_of q true ∷ nnf_of p false ∷ []) ∷ [])) (search (rules, the_lemmas)) (search (rules, the_lemmas))
        (good_disjunction both_part.occurs both_edges (conjunction (nnf_of p true ∷ nnf_of q false ∷ []) ∷ conjunction (nnf_of q true ∷ nnf_of p false ∷ []) ∷ []) (
          good_conjunction both_part.occurs both_edges (nnf_of p true ∷ nnf_of q false ∷ []) (first_good true, (second_good false, tt)),
          (good_conjunction both_part.occurs both_edges (nnf_of q true ∷ nnf_of p false ∷ []) (second_good true, (first_good false, tt)), tt),
        ))

  for_all_good : (bs : List Binder) (p : Formula) → HasGood p → HasGood (ForAll bs p)
  for_all_good bs p h true =
      by (ForAll bs p) true (strata.part_step (Formula-F.ForAll bs (strata_of p))) (universal bs (nnf_of p true)) (search (rules, the_lemmas)) (search (rules, the_lemmas))
      (good_universal (strata_of p).occurs (λ deps. (strata_of p).edges true deps) bs (nnf_of p true) (h true))
  for_all_good bs p h false =
      by (ForAll bs p) false (strata.part_step (Formula-F.ForAll bs (strata_of p))) (existential bs (nnf_of p false)) (search (rules, the_lemmas)) (search (rules, the_lemmas))
      (good_existential (strata_of p).occurs (λ deps. (strata_of p).edges false deps) bs (nnf_of p false) (h false))

  exists_good : (bs : List Binder) (p : Formula) → HasGood p → HasGood (Exists bs p)
  exists_good bs p h true =
      by (Exists bs p) true (strata.part_step (Formula-F.Exists bs (strata_of p))) (existential bs (nnf_of p true)) (search (rules, the_lemmas)) (search (rules, the_lemmas))
      (good_existential (strata_of p).occurs (λ deps. (strata_of p).edges true deps) bs (nnf_of p true) (h true))
  exists_good bs p h false =
      by (Exists bs p) false (strata.part_step (Formula-F.Exists bs (strata_of p))) (universal bs (nnf_of p false)) (search (rules, the_lemmas)) (search (rules, the_lemmas))
      (good_universal (strata_of p).occurs (λ deps. (strata_of p).edges false deps) bs (nnf_of p false) (h false))

  layer : (y : Formula-F ((f : Formula) × HasGood f)) → HasGood (roll-Formula (map-Formula ((f : Formula) × HasGood f) Formula (λ e. e.0) y))
  layer Formula-F.True = subst HasGood (sym rolls-True) true_good
  layer Formula-F.False = subst HasGood (sym rolls-False) false_good
  layer (Formula-F.Holds k post args) = subst HasGood (sym (rolls-Holds k post args)) (holds_good k post args)
  layer (Formula-F.Equal t u) = subst HasGood (sym (rolls-Equal t u)) (equal_good t u)
  layer (Formula-F.Not p) = subst HasGood (sym (rolls-Not p.0)) (not_good p.0 p.1)
  layer (Formula-F.All ps) = subst HasGood (sym (rolls-All (map (λ e. e.0) ps))) (all_good (map (λ e. e.0) ps) (each-pairs HasGood ps))
  layer (Formula-F.Any ps) = subst HasGood (sym (rolls-Any (map (λ e. e.0) ps))) (any_good (map (λ e. e.0) ps) (each-pairs HasGood ps))
  layer (Formula-F.Implies p q) = subst HasGood (sym (rolls-Implies p.0 q.0)) (implies_good p.0 q.0 p.1 q.1)
  layer (Formula-F.Iff p q) = subst HasGood (sym (rolls-Iff p.0 q.0)) (iff_good p.0 q.0 p.1 q.1)
  layer (Formula-F.ForAll bs p) = subst HasGood (sym (rolls-ForAll bs p.0)) (for_all_good bs p.0 p.1)
  layer (Formula-F.Exists bs p) = subst HasGood (sym (rolls-Exists bs p.0)) (exists_good bs p.0 p.1)

  pub has_good : (f : Formula) → HasGood f
  has_good = ind-Formula HasGood (λ x y is. subst (λ z. HasGood (roll-Formula z)) is (layer y))

  all_has_good : (fs : List Formula) → AllByRecursion HasGood fs
  all_has_good [] = tt
  all_has_good (f ∷ fs) = (has_good f, all_has_good fs)

  -- fresh constants have no edges
  fresh_rise : (sorts : List ℕ) → AllRise (function_edges (map fresh_constant sorts))
  fresh_rise [] = tt
  fresh_rise (s ∷ sorts) = fresh_rise sorts

  edges_same : (fs : List Formula) → flat_map (λ (p : Polar). formula_edges p.formula p.positive) (asserted fs) ≡ all_edges true fs []
  edges_same [] = refl
  edges_same (f ∷ fs) = ap (λ (xs : List Edge). (strata_of f).edges true [] ++ xs) (edges_same fs)

  normals_same : (fs : List Formula) → map (λ f. nnf_of f true) fs ≡ parts_of true fs
  normals_same [] = refl
  normals_same (f ∷ fs) = ap (λ (xs : List Formula). nnf_of f true ∷ xs) (normals_same fs)

  made_rise : (fs : List Formula) → AllRise (all_edges true fs []) → AllRise (function_edges (forms (map (part_of base) (map (λ f. nnf_of f true) fs)) [] [] []).made)
  made_rise fs h =
      let good = parts_good true fs (all_has_good fs) (any_occurs fs) (all_edges true fs) (λ x e. e) (λ deps k. k) in
      subst (λ (ps : List Formula). AllRise (function_edges (forms (map (part_of base) ps) [] [] []).made)) (sym (normals_same fs))
      (good_forms (any_occurs fs) (all_edges true fs) (parts_of true fs) good [] [] [] [] tt h tt)

pub skolem_keeps_strata : SkolemKeepsStrata
skolem_keeps_strata q ranks ok h =
    let base = length q.signature.symbols in
    let parts = rises_front ranks (function_edges q.signature.symbols) (flat_map (λ (p : Polar). formula_edges p.formula p.positive) (asserted q.sentences)) h.rises in
    let sentences = subst (λ (es : List Edge). AllRise base ranks es) (edges_same base ranks q.sentences) parts.1 in
    let made = made_rise base ranks q.sentences sentences in
    let fresh = filter (is_bare (q.signature.symbols ++ (forms_of q).made)) (range_with_len 0 (length q.signature.sorts)) in
    record {
      count = h.count;
      below = h.below;
      rises = functions_both base ranks q.signature.symbols (added_of q) parts.0
          (functions_both base ranks (forms_of q).made (map fresh_constant fresh) made (fresh_rise base ranks fresh));
    }
