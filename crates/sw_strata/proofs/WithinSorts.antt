-- Edges are between sorts that there are.
use Rattle.std.specs.Prelude.{◌≡◌, ℕ, ◌+◌, ◌<◌, Bool, true, false, not, cond, ◌&&◌, nat_lt, List, [], ◌∷◌, ◌++◌, length, map, if◌then◌else◌}
use Rattle.std.specs.List.{list_all, flat_map, enumerate_from, AllByRecursion}
use Rattle.std.proofs.Common.{rules, arith, sym, subst, ◌∙◌}
use Rattle.std.proofs.lemmas.Bool.{and_parts, cond_both}
use Rattle.std.proofs.lemmas.Bool.Decides.{nat_tests}
use Rattle.sw_logic.specs.declared.syntax.SymbolKind.{SymbolKind}
use Rattle.sw_logic.specs.declared.syntax.SymbolKind.TheVariants.{Relation, Constant, Function}
use Rattle.sw_logic.specs.declared.syntax.Symbol.{Symbol}
use Rattle.sw_logic.specs.declared.syntax.Signature.{Signature}
use Rattle.sw_logic.specs.declared.syntax.Binder.{Binder}
use Rattle.sw_logic.specs.declared.syntax.Edge.{Edge}
use Rattle.sw_logic.specs.declared.syntax.Formula.{Formula, roll-Formula, map-Formula, the_lemmas}
use Rattle.sw_logic.specs.declared.syntax.Formula.TheOpen.{Formula-F}
use Rattle.sw_logic.specs.declared.syntax.Formula.TheFolds.{fold-Formula, ind-Formula}
use Rattle.sw_logic.specs.declared.syntax.Formula.TheVariants.{True, False, Holds, Equal, Not, All, Any, Implies, Iff, ForAll, Exists}
use Rattle.sw_logic.specs.declared.syntax.Formula.TheVariants.{rolls-True, rolls-False, rolls-Holds, rolls-Equal, rolls-Not, rolls-All, rolls-Any, rolls-Implies, rolls-Iff, rolls-ForAll, rolls-Exists}
use Rattle.sw_logic.specs.Sorted.{well_sorted, are_sorts, extended}
use Rattle.sw_logic.proofs.Steps as steps
use Rattle.sw_logic.specs.declared.query.Polar.{Polar}
use Rattle.sw_logic.specs.Signatures.{is_symbol, is_of_kind}
use Rattle.sw_logic.specs.Strata.{Part, part_step, AreWithin, edge, edges_between, depended, sorts_of, universal, existential, symbol_edges, function_edges, formula_edges}
use Rattle.sw_strata.specs.Laws.{EdgesAreWithin}
use Rattle.sw_truth.proofs.Inhabited.{AreBelow}
use Rattle.std.proofs.lemmas.Bool.{ltb-true}
use Rattle.sw_lists.proofs.Each.{each-pairs}

abbrev strata_of : Formula → Part
strata_of = fold-Formula Part part_step

tests_below : (n : ℕ) (sorts : List ℕ) → list_all (λ sort. nat_lt sort n) sorts ≡ true → AreBelow n sorts
tests_below n [] e = tt
tests_below n (s ∷ sorts) e = let parts = and_parts (nat_lt s n) (list_all (λ sort. nat_lt sort n) sorts) e in (ltb-true s n parts.0, tests_below n sorts parts.1)

within_both : (n : ℕ) (xs ys : List Edge) → AreWithin n xs → AreWithin n ys → AreWithin n (xs ++ ys)
within_both n [] ys h k = k
within_both n (x ∷ xs) ys h k = (h.0, within_both n xs ys h.1 k)

below_both : (n : ℕ) (xs ys : List ℕ) → AreBelow n xs → AreBelow n ys → AreBelow n (xs ++ ys)
below_both n [] ys h k = k
below_both n (x ∷ xs) ys h k = (h.0, below_both n xs ys h.1 k)

ends_within : (n a : ℕ) (to : List ℕ) → a < n → AreBelow n to → AreWithin n (map (edge a) to)
ends_within n a [] h k = tt
ends_within n a (s ∷ to) h k = ((h, k.0), ends_within n a to h k.1)

between_within : (n : ℕ) (from to : List ℕ) → AreBelow n from → AreBelow n to → AreWithin n (edges_between from to)
between_within n [] to h k = tt
between_within n (a ∷ from) to h k = within_both n (map (edge a) to) (edges_between from to) (ends_within n a to h.0 k) (between_within n from to h.1 k)

binders_below : (sig : Signature) (bs : List Binder) → are_sorts sig bs ≡ true → AreBelow (length sig.sorts) (sorts_of bs)
binders_below sig [] e = tt
binders_below sig (b ∷ bs) e = let parts = and_parts (nat_lt b.sort (length sig.sorts)) (are_sorts sig bs) e in (ltb-true b.sort (length sig.sorts) parts.0, binders_below sig bs parts.1)

module _ (sig : Signature) (post : Bool) where
  abbrev n : ℕ
  n = length sig.sorts

  abbrev DepsBelow : List (List ℕ) → Type 0
  DepsBelow deps = AllByRecursion (AreBelow n) deps

  deps_both : (xs ys : List (List ℕ)) → DepsBelow xs → DepsBelow ys → DepsBelow (xs ++ ys)
  deps_both [] ys h k = k
  deps_both (x ∷ xs) ys h k = (h.0, deps_both xs ys h.1 k)

  deps_one : (bs : List Binder) → AreBelow n (sorts_of bs) → DepsBelow (map (λ (b : Binder). b.sort ∷ []) bs)
  deps_one [] h = tt
  deps_one (b ∷ bs) h = ((h.0, tt), deps_one bs h.1)

  deps_same : (bs : List Binder) (ds : List ℕ) → AreBelow n ds → DepsBelow (map (λ (b : Binder). ds) bs)
  deps_same [] ds h = tt
  deps_same (b ∷ bs) ds h = (h, deps_same bs ds h)

  depended_from : (occurs : ℕ → Bool) (from : ℕ) (deps : List (List ℕ)) → DepsBelow deps → AreBelow n (flat_map (λ v. if occurs v.0 then v.1 else []) (enumerate_from from deps))
  depended_from occurs from [] h = tt
  depended_from occurs from (d ∷ deps) h =
      below_both n (cond (occurs from) d []) _ (cond_both (occurs from) d [] (AreBelow n) (λ t. h.0) (λ f. tt)) (depended_from occurs (from + 1) deps h.1)

  abbrev IsWithin : Part → Bool → Type 0
  IsWithin t c = (deps : List (List ℕ)) → DepsBelow deps → AreWithin n (t.edges c deps)

  abbrev HasWithin : Formula → Type 0
  HasWithin f = (scope : List ℕ) → well_sorted sig post f scope ≡ true → (c : Bool) → IsWithin (strata_of f) c

  by : (f : Formula) (t : Part) (c : Bool) → strata_of f ≡ t → IsWithin t c → IsWithin (strata_of f) c
  by f t c e x = subst (λ (q : Part). IsWithin q c) (sym e) x

  universal_within : (bs : List Binder) (t : Part) (c : Bool) → AreBelow n (sorts_of bs) → IsWithin t c → (deps : List (List ℕ)) → DepsBelow deps → AreWithin n (universal bs t c deps)
  universal_within bs t c k x deps h = x (deps ++ map (λ (b : Binder). b.sort ∷ []) bs) (deps_both deps (map (λ (b : Binder). b.sort ∷ []) bs) h (deps_one bs k))

  existential_within : (bs : List Binder) (t : Part) (c : Bool) → AreBelow n (sorts_of bs) → IsWithin t c → (deps : List (List ℕ)) → DepsBelow deps → AreWithin n (existential bs t c deps)
  existential_within bs t c k x deps h =
      let ds = depended t.occurs deps in
      let below = depended_from t.occurs 0 deps h in
      within_both n (edges_between ds (sorts_of bs)) (t.edges c (deps ++ map (λ (b : Binder). ds) bs)) (between_within n ds (sorts_of bs) below k)
      (x (deps ++ map (λ (b : Binder). ds) bs) (deps_both deps (map (λ (b : Binder). ds) bs) h (deps_same bs ds below)))

  parts_within : (ps : List Formula) → AllByRecursion HasWithin ps → (scope : List ℕ) → list_all (λ p. well_sorted sig post p scope) ps ≡ true → (c : Bool) (deps : List (List ℕ)) → DepsBelow deps
      → AreWithin n (flat_map (λ (q : Part). q.edges c deps) (map strata_of ps))
  parts_within [] h scope e c deps d = tt
  parts_within (p ∷ ps) h scope e c deps d =
      let parts = and_parts (well_sorted sig post p scope) (list_all (λ p. well_sorted sig post p scope) ps) e in
      within_both n ((strata_of p).edges c deps) _ (h.0 scope parts.0 c deps d) (parts_within ps h.1 scope parts.1 c deps d)

  not_within : (p : Formula) → HasWithin p → HasWithin (Not p)
  not_within p h scope e c =
      let sorted : well_sorted sig post (Not p) scope ≡ well_sorted sig post p scope = search (rules, the_lemmas) in
      by (Not p) (part_step (Formula-F.Not (strata_of p))) c (search (rules, the_lemmas)) (h scope (sym sorted ∙ e) (not c))

  two_within : (p q : Formula) (scope : List ℕ) → HasWithin p → HasWithin q → (well_sorted sig post p scope && well_sorted sig post q scope) ≡ true → (c d : Bool) (deps : List (List ℕ)) → DepsBelow deps
      → AreWithin n ((strata_of p).edges c deps ++ (strata_of q).edges d deps)
  two_within p q scope h k e c d deps b =
      let parts = and_parts (well_sorted sig post p scope) (well_sorted sig post q scope) e in
      within_both n ((strata_of p).edges c deps) ((strata_of q).edges d deps) (h scope parts.0 c deps b) (k scope parts.1 d deps b)

  implies_within : (p q : Formula) → HasWithin p → HasWithin q → HasWithin (Implies p q)
  implies_within p q h k scope e c =
      let sorted : well_sorted sig post (Implies p q) scope ≡ (well_sorted sig post p scope && well_sorted sig post q scope) = search (rules, the_lemmas) in
      by (Implies p q) (part_step (Formula-F.Implies (strata_of p) (strata_of q))) c (search (rules, the_lemmas)) (λ deps b. two_within p q scope h k (sym sorted ∙ e) (not c) c deps b)

  iff_within : (p q : Formula) → HasWithin p → HasWithin q → HasWithin (Iff p q)
  iff_within p q h k scope e c =
      let sorted : well_sorted sig post (Iff p q) scope ≡ (well_sorted sig post p scope && well_sorted sig post q scope) = search (rules, the_lemmas) in
      let parts = and_parts _ _ (sym sorted ∙ e) in
      by (Iff p q) (part_step (Formula-F.Iff (strata_of p) (strata_of q))) c (search (rules, the_lemmas))
      (λ deps b. within_both n ((strata_of p).edges true deps ++ (strata_of p).edges false deps) ((strata_of q).edges true deps ++ (strata_of q).edges false deps)
      (within_both n ((strata_of p).edges true deps) ((strata_of p).edges false deps) (h scope parts.0 true deps b) (h scope parts.0 false deps b))
      (within_both n ((strata_of q).edges true deps) ((strata_of q).edges false deps) (k scope parts.1 true deps b) (k scope parts.1 false deps b)))

  for_all_within : (bs : List Binder) (p : Formula) → HasWithin p → HasWithin (ForAll bs p)
  for_all_within bs p h scope e c =
      let sorted : well_sorted sig post (ForAll bs p) scope ≡ (are_sorts sig bs && well_sorted sig post p (extended scope bs)) = search (rules, the_lemmas) in
      let parts = and_parts _ _ (sym sorted ∙ e) in
      let k = binders_below sig bs parts.0 in
      by (ForAll bs p) (part_step (Formula-F.ForAll bs (strata_of p))) c (search (rules, the_lemmas))
      (λ deps b. cond_both c (universal bs (strata_of p) true deps) (existential bs (strata_of p) false deps) (AreWithin n)
      (λ t. universal_within bs (strata_of p) true k (h (extended scope bs) parts.1 true) deps b) (λ f. existential_within bs (strata_of p) false k (h (extended scope bs) parts.1 false) deps b))

  exists_within : (bs : List Binder) (p : Formula) → HasWithin p → HasWithin (Exists bs p)
  exists_within bs p h scope e c =
      let sorted : well_sorted sig post (Exists bs p) scope ≡ (are_sorts sig bs && well_sorted sig post p (extended scope bs)) = search (rules, the_lemmas) in
      let parts = and_parts _ _ (sym sorted ∙ e) in
      let k = binders_below sig bs parts.0 in
      by (Exists bs p) (part_step (Formula-F.Exists bs (strata_of p))) c (search (rules, the_lemmas))
      (λ deps b. cond_both c (existential bs (strata_of p) true deps) (universal bs (strata_of p) false deps) (AreWithin n)
      (λ t. existential_within bs (strata_of p) true k (h (extended scope bs) parts.1 true) deps b) (λ f. universal_within bs (strata_of p) false k (h (extended scope bs) parts.1 false) deps b))

  layer : (y : Formula-F ((f : Formula) × HasWithin f)) → HasWithin (roll-Formula (map-Formula ((f : Formula) × HasWithin f) Formula (λ e. e.0) y))
  layer Formula-F.True = subst HasWithin (sym rolls-True) (λ scope e c. by True (part_step Formula-F.True) c (search (rules, the_lemmas)) (λ deps b. tt))
  layer Formula-F.False = subst HasWithin (sym rolls-False) (λ scope e c. by False (part_step Formula-F.False) c (search (rules, the_lemmas)) (λ deps b. tt))
  layer (Formula-F.Holds k primed args) = subst HasWithin (sym (rolls-Holds k primed args)) (λ scope e c. by (Holds k primed args) (part_step (Formula-F.Holds k primed args)) c (search (rules, the_lemmas)) (λ deps b. tt))
  layer (Formula-F.Equal t u) = subst HasWithin (sym (rolls-Equal t u)) (λ scope e c. by (Equal t u) (part_step (Formula-F.Equal t u)) c (search (rules, the_lemmas)) (λ deps b. tt))
  layer (Formula-F.Not p) = subst HasWithin (sym (rolls-Not p.0)) (not_within p.0 p.1)
  layer (Formula-F.All ps) = subst HasWithin (sym (rolls-All (map (λ e. e.0) ps)))
      (λ scope e c. by (All (map (λ e. e.0) ps)) (part_step (Formula-F.All (map strata_of (map (λ e. e.0) ps)))) c (search (rules, the_lemmas))
      (parts_within (map (λ e. e.0) ps) (each-pairs HasWithin ps) scope (sym (steps.sorted-All sig post (map (λ e. e.0) ps) scope) ∙ e) c))
  layer (Formula-F.Any ps) = subst HasWithin (sym (rolls-Any (map (λ e. e.0) ps)))
      (λ scope e c. by (Any (map (λ e. e.0) ps)) (part_step (Formula-F.Any (map strata_of (map (λ e. e.0) ps)))) c (search (rules, the_lemmas))
      (parts_within (map (λ e. e.0) ps) (each-pairs HasWithin ps) scope (sym (steps.sorted-Any sig post (map (λ e. e.0) ps) scope) ∙ e) c))
  layer (Formula-F.Implies p q) = subst HasWithin (sym (rolls-Implies p.0 q.0)) (implies_within p.0 q.0 p.1 q.1)
  layer (Formula-F.Iff p q) = subst HasWithin (sym (rolls-Iff p.0 q.0)) (iff_within p.0 q.0 p.1 q.1)
  layer (Formula-F.ForAll bs p) = subst HasWithin (sym (rolls-ForAll bs p.0)) (for_all_within bs p.0 p.1)
  layer (Formula-F.Exists bs p) = subst HasWithin (sym (rolls-Exists bs p.0)) (exists_within bs p.0 p.1)

  has_within : (f : Formula) → HasWithin f
  has_within = ind-Formula HasWithin (λ x y is. subst (λ z. HasWithin (roll-Formula z)) is (layer y))

  formulas_within : (ps : List Polar) → AllByRecursion (λ (p : Polar). well_sorted sig post p.formula [] ≡ true) ps → AreWithin n (flat_map (λ (p : Polar). formula_edges p.formula p.positive) ps)
  formulas_within [] h = tt
  formulas_within (p ∷ ps) h = within_both n (formula_edges p.formula p.positive) _ (has_within p.formula [] h.0 p.positive [] tt) (formulas_within ps h.1)

symbol_within : (m : ℕ) (kind : SymbolKind) (args : List ℕ) (gives : ℕ) → list_all (λ sort. nat_lt sort m) args ≡ true → is_of_kind m kind args gives ≡ true → AreWithin m (symbol_edges kind args gives)
symbol_within m Relation args gives e k = tt
symbol_within m Constant args gives e k = tt
symbol_within m Function args gives e k = between_within m args (gives ∷ []) (tests_below m args e) (ltb-true gives m (and_parts (nat_lt 0 (length args)) (nat_lt gives m) k).1, tt)

functions_within : (m : ℕ) (symbols : List Symbol) → list_all (is_symbol m) symbols ≡ true → AreWithin m (function_edges symbols)
functions_within m [] e = tt
functions_within m (s ∷ symbols) e =
    let parts = and_parts (is_symbol m s) (list_all (is_symbol m) symbols) e in
    let symbol = and_parts (list_all (λ sort. nat_lt sort m) s.args) (is_of_kind m s.kind s.args s.gives) parts.0 in
    within_both m (symbol_edges s.kind s.args s.gives) (function_edges symbols) (symbol_within m s.kind s.args s.gives symbol.0 symbol.1) (functions_within m symbols parts.1)

pub edges_are_within : EdgesAreWithin
edges_are_within sig post formulas ok h =
    within_both (length sig.sorts) (function_edges sig.symbols) _ (functions_within (length sig.sorts) sig.symbols ok) (formulas_within sig post formulas h)
