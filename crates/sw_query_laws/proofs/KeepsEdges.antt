-- The edges of a renamed formula are those of the formula.
use Rattle.std.specs.Prelude.{◌≡◌, ℕ, ◌+◌, ◌==◌, ◌||◌, Bool, true, false, not, cond, List, [], ◌∷◌, ◌++◌, length, map, if◌then◌else◌}
use Rattle.std.specs.List.{AllByRecursion, list_any, flat_map, enumerate_from}
use Rattle.std.proofs.Common.{rules, arith, refl, sym, subst, ap, ◌∙◌, append_assoc}
use Rattle.sw_logic.specs.declared.syntax.Binder.{Binder}
use Rattle.sw_logic.specs.declared.syntax.Edge.{Edge}
use Rattle.sw_logic.specs.declared.syntax.Term as terms
use Rattle.sw_logic.specs.declared.syntax.Term.{Term, roll-Term}
use Rattle.sw_logic.specs.declared.syntax.Term.TheOpen.{Term-F}
use Rattle.sw_logic.specs.declared.syntax.Term.TheFolds.{ind-Term}
use Rattle.sw_logic.specs.declared.syntax.Term.TheVariants.{Variable, Apply, rolls-Variable, rolls-Apply}
use Rattle.sw_logic.specs.declared.syntax.Formula as formulas
use Rattle.sw_logic.specs.declared.syntax.Formula.{Formula, roll-Formula}
use Rattle.sw_logic.specs.declared.syntax.Formula.TheOpen.{Formula-F}
use Rattle.sw_logic.specs.declared.syntax.Formula.TheFolds.{fold-Formula, ind-Formula}
use Rattle.sw_logic.specs.declared.syntax.Formula.TheVariants.{True, False, Holds, Equal, Not, All, Any, Implies, Iff, ForAll, Exists, rolls-True, rolls-False, rolls-Holds, rolls-Equal, rolls-Not, rolls-All, rolls-Any, rolls-Implies, rolls-Iff, rolls-ForAll, rolls-Exists}
use Rattle.sw_logic.specs.Terms.{has}
use Rattle.sw_logic.specs.Strata.{Part, part_step, no_edges, edges_between, depended, sorts_of, universal, existential}
use Rattle.sw_meaning.specs.declared.protocol.Protocol.{Protocol}
use Rattle.sw_meaning.specs.declared.protocol.Transition.{Transition}
use Rattle.sw_renaming.specs.declared.renaming.Moment.{Moment}
use Rattle.sw_renaming.specs.Renamed.{symbol_at, variable_at, renamed_term, renamed}
use Rattle.sw_lists.proofs.Each.{each-pairs}
use Rattle.sw_lists.proofs.Tests.{list_any-map}

abbrev pub strata_of : Formula → Part
strata_of = fold-Formula Part part_step

-- ---- what a part depends on
abbrev reached : (ℕ → Bool) → ℕ → List (List ℕ) → List ℕ
reached occurs from scope = flat_map (λ v. if occurs v.0 then v.1 else []) (enumerate_from from scope)

abbrev IsEmpty : List ℕ → Type 0
IsEmpty ds = ds ≡ []

no_more : (b : Bool) (ds : List ℕ) → IsEmpty ds → cond {A = List ℕ} b ds [] ≡ []
no_more true ds e = e
no_more false ds e = refl

skipped : (occurs : ℕ → Bool) (from : ℕ) (first : List (List ℕ)) → AllByRecursion IsEmpty first → (scope : List (List ℕ)) → reached occurs from (first ++ scope) ≡ reached occurs (from + length first) scope
skipped occurs from [] h scope = let e : from ≡ from + length {A = List ℕ} [] = omega arith in ap (λ n. reached occurs n scope) e
skipped occurs from (ds ∷ first) h scope =
    let e : from + 1 + length first ≡ from + length (ds ∷ first) = omega arith in
    ap (λ (xs : List ℕ). xs ++ reached occurs (from + 1) (first ++ scope)) (no_more (occurs from) ds h.0) ∙ skipped occurs (from + 1) first h.1 scope ∙ ap (λ n. reached occurs n scope) e

shifted_by : (one other : ℕ → Bool) (n : ℕ) → ((x : ℕ) → one x ≡ other (n + x)) → (from : ℕ) (scope : List (List ℕ)) → reached one from scope ≡ reached other (n + from) scope
shifted_by one other n h from [] = refl
shifted_by one other n h from (ds ∷ scope) =
    let e : n + (from + 1) ≡ n + from + 1 = omega arith in
    ap (λ (b : Bool). cond {A = List ℕ} b ds [] ++ reached one (from + 1) scope) (h from)
    ∙ ap (λ (xs : List ℕ). cond {A = List ℕ} (other (n + from)) ds [] ++ xs) (shifted_by one other n h (from + 1) scope ∙ ap (λ k. reached other k scope) e)

depended_same : (one other : ℕ → Bool) (first : List (List ℕ)) → AllByRecursion IsEmpty first → ((x : ℕ) → one x ≡ other (length first + x)) → (scope : List (List ℕ)) → depended one scope ≡ depended other (first ++ scope)
depended_same one other first none h scope =
    let e : length first + 0 ≡ 0 + length first = omega arith in
    shifted_by one other (length first) h 0 scope ∙ ap (λ n. reached other n scope) e ∙ sym (skipped other 0 first none scope)

-- ---- one layer
-- the variables of the one part are those of the other after the first ones, which depend on nothing; and the edges are the same
record Same (first : List (List ℕ)) (a b : Part) : Type 0 where
  occurs : (x : ℕ) → a.occurs x ≡ b.occurs (length first + x)
  edges : (positive : Bool) (scope : List (List ℕ)) → a.edges positive scope ≡ b.edges positive (first ++ scope)

module _ (first : List (List ℕ)) (none : AllByRecursion IsEmpty first) where
  atoms_same : (one other : ℕ → Bool) → ((x : ℕ) → one x ≡ other (length first + x)) → Same first (no_edges one) (no_edges other)
  atoms_same one other h = record { occurs = h; edges = λ positive scope. refl }

  universal_same : (a b : Part) → Same first a b → (bs : List Binder) (c : Bool) (scope : List (List ℕ)) → universal bs a c scope ≡ universal bs b c (first ++ scope)
  universal_same a b same bs c scope =
      let bound = map (λ (x : Binder). x.sort ∷ []) bs in
      same.edges c (scope ++ bound) ∙ ap (b.edges c) (sym (append_assoc first scope bound))

  existential_same : (a b : Part) → Same first a b → (bs : List Binder) (c : Bool) (scope : List (List ℕ)) → existential bs a c scope ≡ existential bs b c (first ++ scope)
  existential_same a b same bs c scope =
      let ds = depended b.occurs (first ++ scope) in
      let bound = map (λ (x : Binder). ds) bs in
      ap (λ (xs : List ℕ). edges_between xs (sorts_of bs) ++ a.edges c (scope ++ map (λ (x : Binder). xs) bs)) (depended_same a.occurs b.occurs first none same.occurs scope)
      ∙ ap (λ (es : List Edge). edges_between ds (sorts_of bs) ++ es) (same.edges c (scope ++ bound) ∙ ap (b.edges c) (sym (append_assoc first scope bound)))

  for_all_edges : (a b : Part) → Same first a b → (bs : List Binder) (c : Bool) (scope : List (List ℕ)) → (part_step (Formula-F.ForAll bs a)).edges c scope ≡ (part_step (Formula-F.ForAll bs b)).edges c (first ++ scope)
  for_all_edges a b same bs true scope = universal_same a b same bs true scope
  for_all_edges a b same bs false scope = existential_same a b same bs false scope

  exists_edges : (a b : Part) → Same first a b → (bs : List Binder) (c : Bool) (scope : List (List ℕ)) → (part_step (Formula-F.Exists bs a)).edges c scope ≡ (part_step (Formula-F.Exists bs b)).edges c (first ++ scope)
  exists_edges a b same bs true scope = existential_same a b same bs true scope
  exists_edges a b same bs false scope = universal_same a b same bs false scope

  both_occur : (a b c d : Part) → Same first a b → Same first c d → (x : ℕ) → (a.occurs x || c.occurs x) ≡ (b.occurs (length first + x) || d.occurs (length first + x))
  both_occur a b c d h k x = ap (λ t. t || c.occurs x) (h.occurs x) ∙ ap (λ t. b.occurs (length first + x) || t) (k.occurs x)

  both_edges : (a b c d : Part) → Same first a b → Same first c d → (s t : Bool) (scope : List (List ℕ)) → a.edges s scope ++ c.edges t scope ≡ b.edges s (first ++ scope) ++ d.edges t (first ++ scope)
  both_edges a b c d h k s t scope = ap (λ (es : List Edge). es ++ c.edges t scope) (h.edges s scope) ∙ ap (λ (es : List Edge). b.edges s (first ++ scope) ++ es) (k.edges t scope)

  not_same : (a b : Part) → Same first a b → Same first (part_step (Formula-F.Not a)) (part_step (Formula-F.Not b))
  not_same a b h = record { occurs = h.occurs; edges = λ positive scope. h.edges (not positive) scope }

  implies_same : (a b c d : Part) → Same first a b → Same first c d → Same first (part_step (Formula-F.Implies a c)) (part_step (Formula-F.Implies b d))
  implies_same a b c d h k = record { occurs = both_occur a b c d h k; edges = λ positive scope. both_edges a b c d h k (not positive) positive scope }

  iff_same : (a b c d : Part) → Same first a b → Same first c d → Same first (part_step (Formula-F.Iff a c)) (part_step (Formula-F.Iff b d))
  iff_same a b c d h k = record {
    occurs = both_occur a b c d h k;
    edges = λ positive scope.
        ap (λ (es : List Edge). es ++ (c.edges true scope ++ c.edges false scope)) (both_edges a b a b h h true false scope)
        ∙ ap (λ (es : List Edge). (b.edges true (first ++ scope) ++ b.edges false (first ++ scope)) ++ es) (both_edges c d c d k k true false scope);
  }

module _ (p : Protocol) (t : Transition) (m : Moment) (first : List (List ℕ)) where
  -- the outermost variables become constants, and those after them take their places
  pub record IsShifted : Type 0 where
    pub none : AllByRecursion (λ (ds : List ℕ). ds ≡ []) first
    pub variables : (x v : ℕ) → has x (variable_at p t m v) ≡ (v == length first + x)

  module _ (shifted : IsShifted) where
    abbrev HasSame : Term → Type 0
    HasSame y = (x : ℕ) → has x (renamed_term p t m y) ≡ has (length first + x) y

    args_same : (x : ℕ) (ys : List Term) → AllByRecursion HasSame ys → list_any (has x) (map (renamed_term p t m) ys) ≡ list_any (has (length first + x)) ys
    args_same x [] h = refl
    args_same x (y ∷ ys) h = ap (λ b. b || list_any (has x) (map (renamed_term p t m) ys)) (h.0 x) ∙ ap (λ b. has (length first + x) y || b) (args_same x ys h.1)

    has-Apply : (x symbol : ℕ) (post : Bool) (ys : List Term) → has x (Apply symbol post ys) ≡ list_any (has x) ys
    has-Apply x symbol post ys = search (rules, terms.the_lemmas, list_any-map)

    variable_same : (v : ℕ) → HasSame (Variable v)
    variable_same v x =
        let is : renamed_term p t m (Variable v) ≡ variable_at p t m v = search (rules, terms.the_lemmas) in
        let here : has (length first + x) (Variable v) ≡ (v == length first + x) = search (rules, terms.the_lemmas) in
        ap (has x) is ∙ shifted.variables x v ∙ sym here

    apply_same : (symbol : ℕ) (post : Bool) (ys : List Term) → AllByRecursion HasSame ys → HasSame (Apply symbol post ys)
    apply_same symbol post ys h x =
        let is : renamed_term p t m (Apply symbol post ys) ≡ Apply (symbol_at p t m symbol post) false (map (renamed_term p t m) ys) = search (rules, terms.the_lemmas) in
        ap (has x) is ∙ has-Apply x (symbol_at p t m symbol post) false (map (renamed_term p t m) ys) ∙ args_same x ys h ∙ sym (has-Apply (length first + x) symbol post ys)

    term_layer : (y : Term-F ((x : Term) × HasSame x)) → HasSame (roll-Term (terms.map-Term ((x : Term) × HasSame x) Term (λ e. e.0) y))
    term_layer (Term-F.Variable v) = subst HasSame (sym (rolls-Variable v)) (variable_same v)
    term_layer (Term-F.Apply symbol post ys) = subst HasSame (sym (rolls-Apply symbol post (map (λ e. e.0) ys))) (apply_same symbol post (map (λ e. e.0) ys) (each-pairs HasSame ys))

    has_same : (y : Term) → HasSame y
    has_same = ind-Term HasSame (λ x y is. subst (λ z. HasSame (roll-Term z)) is (term_layer y))

    each_same : (ys : List Term) → AllByRecursion HasSame ys
    each_same [] = tt
    each_same (y ∷ ys) = (has_same y, each_same ys)

    abbrev IsSame : Formula → Type 0
    IsSame f = Same first (strata_of (renamed p t m f)) (strata_of f)

    by : (f : Formula) (a b : Part) → strata_of (renamed p t m f) ≡ a → strata_of f ≡ b → Same first a b → IsSame f
    by f a b d e h = subst (λ (x : Part). Same first x (strata_of f)) (sym d) (subst (Same first a) (sym e) h)

    list_occurs : (x : ℕ) (fs : List Formula) → AllByRecursion IsSame fs
        → list_any (λ (q : Part). q.occurs x) (map strata_of (map (renamed p t m) fs)) ≡ list_any (λ (q : Part). q.occurs (length first + x)) (map strata_of fs)
    list_occurs x [] h = refl
    list_occurs x (f ∷ fs) h =
        ap (λ b. b || list_any (λ (q : Part). q.occurs x) (map strata_of (map (renamed p t m) fs))) (h.0.occurs x)
        ∙ ap (λ b. (strata_of f).occurs (length first + x) || b) (list_occurs x fs h.1)

    list_edges : (c : Bool) (scope : List (List ℕ)) (fs : List Formula) → AllByRecursion IsSame fs
        → flat_map (λ (q : Part). q.edges c scope) (map strata_of (map (renamed p t m) fs)) ≡ flat_map (λ (q : Part). q.edges c (first ++ scope)) (map strata_of fs)
    list_edges c scope [] h = refl
    list_edges c scope (f ∷ fs) h =
        ap (λ (es : List Edge). es ++ flat_map (λ (q : Part). q.edges c scope) (map strata_of (map (renamed p t m) fs))) (h.0.edges c scope)
        ∙ ap (λ (es : List Edge). (strata_of f).edges c (first ++ scope) ++ es) (list_edges c scope fs h.1)

    holds_same : (symbol : ℕ) (post : Bool) (ys : List Term) → IsSame (Holds symbol post ys)
    holds_same symbol post ys =
        let zs = map (renamed_term p t m) ys in
        let is : renamed p t m (Holds symbol post ys) ≡ Holds (symbol_at p t m symbol post) false zs = search (rules, formulas.the_lemmas) in
        let here : strata_of (Holds (symbol_at p t m symbol post) false zs) ≡ no_edges (λ x. list_any (has x) zs) = search (rules, formulas.the_lemmas) in
        let there : strata_of (Holds symbol post ys) ≡ no_edges (λ x. list_any (has x) ys) = search (rules, formulas.the_lemmas) in
        by (Holds symbol post ys) (no_edges (λ x. list_any (has x) zs)) (no_edges (λ x. list_any (has x) ys)) (ap strata_of is ∙ here) there
        (atoms_same first shifted.none (λ x. list_any (has x) zs) (λ x. list_any (has x) ys) (λ x. args_same x ys (each_same ys)))

    equal_same : (a b : Term) → IsSame (Equal a b)
    equal_same a b =
        let c = renamed_term p t m a in
        let d = renamed_term p t m b in
        let is : renamed p t m (Equal a b) ≡ Equal c d = search (rules, formulas.the_lemmas) in
        let here : strata_of (Equal c d) ≡ no_edges (λ x. has x c || has x d) = search (rules, formulas.the_lemmas) in
        let there : strata_of (Equal a b) ≡ no_edges (λ x. has x a || has x b) = search (rules, formulas.the_lemmas) in
        by (Equal a b) (no_edges (λ x. has x c || has x d)) (no_edges (λ x. has x a || has x b)) (ap strata_of is ∙ here) there
        (atoms_same first shifted.none (λ x. has x c || has x d) (λ x. has x a || has x b)
        (λ x. ap (λ s. s || has x d) (has_same a x) ∙ ap (λ s. has (length first + x) a || s) (has_same b x)))

    constant_same : (f : Formula) → renamed p t m f ≡ f → strata_of f ≡ no_edges (λ x. false) → IsSame f
    constant_same f e d = by f (no_edges (λ x. false)) (no_edges (λ x. false)) (ap strata_of e ∙ d) d (atoms_same first shifted.none (λ x. false) (λ x. false) (λ x. refl))

    negation_same : (f : Formula) → IsSame f → IsSame (Not f)
    negation_same f h =
        let g = renamed p t m f in
        let is : renamed p t m (Not f) ≡ Not g = search (rules, formulas.the_lemmas) in
        let here : strata_of (Not g) ≡ part_step (Formula-F.Not (strata_of g)) = search (rules, formulas.the_lemmas) in
        let there : strata_of (Not f) ≡ part_step (Formula-F.Not (strata_of f)) = search (rules, formulas.the_lemmas) in
        by (Not f) (part_step (Formula-F.Not (strata_of g))) (part_step (Formula-F.Not (strata_of f))) (ap strata_of is ∙ here) there (not_same first shifted.none (strata_of g) (strata_of f) h)

    conjunction_same : (fs : List Formula) → AllByRecursion IsSame fs → IsSame (All fs)
    conjunction_same fs h =
        let gs = map (renamed p t m) fs in
        let is : renamed p t m (All fs) ≡ All gs = search (rules, formulas.the_lemmas) in
        let here : strata_of (All gs) ≡ part_step (Formula-F.All (map strata_of gs)) = search (rules, formulas.the_lemmas) in
        let there : strata_of (All fs) ≡ part_step (Formula-F.All (map strata_of fs)) = search (rules, formulas.the_lemmas) in
        by (All fs) (part_step (Formula-F.All (map strata_of gs))) (part_step (Formula-F.All (map strata_of fs))) (ap strata_of is ∙ here) there
        (record { occurs = λ x. list_occurs x fs h; edges = λ c scope. list_edges c scope fs h })

    disjunction_same : (fs : List Formula) → AllByRecursion IsSame fs → IsSame (Any fs)
    disjunction_same fs h =
        let gs = map (renamed p t m) fs in
        let is : renamed p t m (Any fs) ≡ Any gs = search (rules, formulas.the_lemmas) in
        let here : strata_of (Any gs) ≡ part_step (Formula-F.Any (map strata_of gs)) = search (rules, formulas.the_lemmas) in
        let there : strata_of (Any fs) ≡ part_step (Formula-F.Any (map strata_of fs)) = search (rules, formulas.the_lemmas) in
        by (Any fs) (part_step (Formula-F.Any (map strata_of gs))) (part_step (Formula-F.Any (map strata_of fs))) (ap strata_of is ∙ here) there
        (record { occurs = λ x. list_occurs x fs h; edges = λ c scope. list_edges c scope fs h })

    implication_same : (f g : Formula) → IsSame f → IsSame g → IsSame (Implies f g)
    implication_same f g h k =
        let d = renamed p t m f in
        let e = renamed p t m g in
        let is : renamed p t m (Implies f g) ≡ Implies d e = search (rules, formulas.the_lemmas) in
        let here : strata_of (Implies d e) ≡ part_step (Formula-F.Implies (strata_of d) (strata_of e)) = search (rules, formulas.the_lemmas) in
        let there : strata_of (Implies f g) ≡ part_step (Formula-F.Implies (strata_of f) (strata_of g)) = search (rules, formulas.the_lemmas) in
        by (Implies f g) (part_step (Formula-F.Implies (strata_of d) (strata_of e))) (part_step (Formula-F.Implies (strata_of f) (strata_of g))) (ap strata_of is ∙ here) there
        (implies_same first shifted.none (strata_of d) (strata_of f) (strata_of e) (strata_of g) h k)

    equivalence_same : (f g : Formula) → IsSame f → IsSame g → IsSame (Iff f g)
    equivalence_same f g h k =
        let d = renamed p t m f in
        let e = renamed p t m g in
        let is : renamed p t m (Iff f g) ≡ Iff d e = search (rules, formulas.the_lemmas) in
        let here : strata_of (Iff d e) ≡ part_step (Formula-F.Iff (strata_of d) (strata_of e)) = search (rules, formulas.the_lemmas) in
        let there : strata_of (Iff f g) ≡ part_step (Formula-F.Iff (strata_of f) (strata_of g)) = search (rules, formulas.the_lemmas) in
        by (Iff f g) (part_step (Formula-F.Iff (strata_of d) (strata_of e))) (part_step (Formula-F.Iff (strata_of f) (strata_of g))) (ap strata_of is ∙ here) there
        (iff_same first shifted.none (strata_of d) (strata_of f) (strata_of e) (strata_of g) h k)

    for_all_same : (bs : List Binder) (f : Formula) → IsSame f → IsSame (ForAll bs f)
    for_all_same bs f h =
        let g = renamed p t m f in
        let is : renamed p t m (ForAll bs f) ≡ ForAll bs g = search (rules, formulas.the_lemmas) in
        let here : strata_of (ForAll bs g) ≡ part_step (Formula-F.ForAll bs (strata_of g)) = search (rules, formulas.the_lemmas) in
        let there : strata_of (ForAll bs f) ≡ part_step (Formula-F.ForAll bs (strata_of f)) = search (rules, formulas.the_lemmas) in
        by (ForAll bs f) (part_step (Formula-F.ForAll bs (strata_of g))) (part_step (Formula-F.ForAll bs (strata_of f))) (ap strata_of is ∙ here) there
        (record { occurs = h.occurs; edges = for_all_edges first shifted.none (strata_of g) (strata_of f) h bs })

    exists_same : (bs : List Binder) (f : Formula) → IsSame f → IsSame (Exists bs f)
    exists_same bs f h =
        let g = renamed p t m f in
        let is : renamed p t m (Exists bs f) ≡ Exists bs g = search (rules, formulas.the_lemmas) in
        let here : strata_of (Exists bs g) ≡ part_step (Formula-F.Exists bs (strata_of g)) = search (rules, formulas.the_lemmas) in
        let there : strata_of (Exists bs f) ≡ part_step (Formula-F.Exists bs (strata_of f)) = search (rules, formulas.the_lemmas) in
        by (Exists bs f) (part_step (Formula-F.Exists bs (strata_of g))) (part_step (Formula-F.Exists bs (strata_of f))) (ap strata_of is ∙ here) there
        (record { occurs = h.occurs; edges = exists_edges first shifted.none (strata_of g) (strata_of f) h bs })

    formula_layer : (y : Formula-F ((f : Formula) × IsSame f)) → IsSame (roll-Formula (formulas.map-Formula ((f : Formula) × IsSame f) Formula (λ e. e.0) y))
    formula_layer Formula-F.True = subst IsSame (sym rolls-True) (constant_same True (search (rules, formulas.the_lemmas)) (search (rules, formulas.the_lemmas)))
    formula_layer Formula-F.False = subst IsSame (sym rolls-False) (constant_same False (search (rules, formulas.the_lemmas)) (search (rules, formulas.the_lemmas)))
    formula_layer (Formula-F.Holds symbol post ys) = subst IsSame (sym (rolls-Holds symbol post ys)) (holds_same symbol post ys)
    formula_layer (Formula-F.Equal a b) = subst IsSame (sym (rolls-Equal a b)) (equal_same a b)
    formula_layer (Formula-F.Not f) = subst IsSame (sym (rolls-Not f.0)) (negation_same f.0 f.1)
    formula_layer (Formula-F.All fs) = subst IsSame (sym (rolls-All (map (λ e. e.0) fs))) (conjunction_same (map (λ e. e.0) fs) (each-pairs IsSame fs))
    formula_layer (Formula-F.Any fs) = subst IsSame (sym (rolls-Any (map (λ e. e.0) fs))) (disjunction_same (map (λ e. e.0) fs) (each-pairs IsSame fs))
    formula_layer (Formula-F.Implies f g) = subst IsSame (sym (rolls-Implies f.0 g.0)) (implication_same f.0 g.0 f.1 g.1)
    formula_layer (Formula-F.Iff f g) = subst IsSame (sym (rolls-Iff f.0 g.0)) (equivalence_same f.0 g.0 f.1 g.1)
    formula_layer (Formula-F.ForAll bs f) = subst IsSame (sym (rolls-ForAll bs f.0)) (for_all_same bs f.0 f.1)
    formula_layer (Formula-F.Exists bs f) = subst IsSame (sym (rolls-Exists bs f.0)) (exists_same bs f.0 f.1)

    formula_same : (f : Formula) → IsSame f
    formula_same = ind-Formula IsSame (λ x y is. subst (λ z. IsSame (roll-Formula z)) is (formula_layer y))

    -- the edges of a renamed formula, where the outermost variables depend on nothing
    pub renamed_edges : (f : Formula) (positive : Bool) (scope : List (List ℕ)) → (strata_of (renamed p t m f)).edges positive scope ≡ (strata_of f).edges positive (first ++ scope)
    renamed_edges f positive scope = (formula_same f).edges positive scope
