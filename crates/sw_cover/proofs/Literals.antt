-- The literals of a template: each is well sorted and of the template, and each such literal is true where one of them is.
use Rattle.std.specs.Prelude.{◌≡◌, ◌≢◌, ℕ, zero, suc, ◌+◌, ◌<◌, ◌≤◌, ◌==◌, ◌&&◌, ◌||◌, not, true, false, List, [], ◌∷◌, map, length, replicate, slice_get, unwrap_or, Option, Some, None}
use Rattle.std.specs.List.{AllByRecursion, flat_map, enumerate_from, range_with_len}
use Rattle.std.proofs.Common.{rules, refl, arith, subst, sym, ap, ◌∙◌, inl, inr, eq-eqb}
use Rattle.std.proofs.lemmas.Bool.{and_from, false≢true, eqb-true, cases_lt}
use Rattle.std.proofs.lemmas.Option.{slice_get_within}
use Rattle.sw_logic.specs.declared.syntax.SymbolKind.{SymbolKind}
use Rattle.sw_logic.specs.declared.syntax.SymbolKind.TheVariants.{Relation, Constant, Function}
use Rattle.sw_logic.specs.declared.syntax.Symbol.{Symbol}
use Rattle.sw_logic.specs.declared.syntax.Signature.{Signature}
use Rattle.sw_logic.specs.declared.syntax.Term.{Term}
use Rattle.sw_logic.specs.declared.syntax.Formula.{Formula}
use Rattle.sw_logic.specs.declared.syntax.Formula.TheVariants.{False, Holds, Equal, Not}
use Rattle.sw_logic.specs.declared.syntax.Formula as formula
use Rattle.sw_logic.specs.Truth.{World, truth, value_of}
use Rattle.sw_logic.specs.Sorted.{well_sorted, sort_of, sorts_of, same_sort, sorts_match, is_atom, gives_value}
use Rattle.sw_meaning.specs.declared.template.Run.{Run}
use Rattle.sw_meaning.specs.declared.template.Template.{Template}
use Rattle.sw_meaning.specs.Space.{IsAtom, IsLiteral, depth_of}
use Rattle.sw_meaning.specs.Classes.{scope_of, terms_of, tuples, pairs, symbols_of, is_relation, atoms, literals, both_signs}
use Rattle.sw_lists.proofs.Each.{each-append, each-at, each-map, each-unmap, each-any, each-weaker, each-filter, each-flat_map, each-both}
use Rattle.sw_meaning.proofs.Equations.{sorted-Holds, sorted-Equal, sorted-Not}
use Rattle.sw_logic.specs.Signatures.{is_signature}
use Rattle.sw_cover.specs.Laws.{IsOver}
use Rattle.sw_cover.proofs.Declared.{declared_at}
use Rattle.sw_cover.proofs.Members.{Has, has-front, has-back, has-map, has-flat_map, has-filter, each-passes, has-enumerate, each-enumerate, has-tuple, has-pair, each-pair, number_of}
use Rattle.sw_cover.proofs.Terms.{IsTermOf, AreArguments, Shape, shape_of, first_true, rest_true, sort-Variable, arguments_are, terms_are, terms_apart, has_term, has_arguments, applied}

truth-Equal : (w : World) (env : List ℕ) (a b : Term) → truth w (Equal a b) env ≡ (value_of w env a == value_of w env b)
truth-Equal w env a b = search (rules, formula.the_lemmas)

truth-Not : (w : World) (env : List ℕ) (f : Formula) → truth w (Not f) env ≡ not (truth w f env)
truth-Not w env f = search (rules, formula.the_lemmas)

eq_swap : (m n : ℕ) → (m == n) ≡ (n == m)
eq_swap m n = grind arith

relation_kind : (k : SymbolKind) → is_relation k ≡ true → gives_value k ≡ false
relation_kind Relation e = refl
relation_kind Constant e = absurd (false≢true e)
relation_kind Function e = absurd (false≢true e)

relation_of : (k : SymbolKind) → not (gives_value k) ≡ true → is_relation k ≡ true
relation_of Relation e = refl
relation_of Constant e = absurd (false≢true e)
relation_of Function e = absurd (false≢true e)

found_both : (a b : Option ℕ) → same_sort a b ≡ true → (sort : ℕ) × ((a ≡ Some sort) × (b ≡ Some sort))
found_both None b e = absurd (false≢true e)
found_both (Some n) None e = absurd (false≢true e)
found_both (Some n) (Some m) e = (n, (refl, ap Some (sym (eqb-true n m e))))

pub has_range : (a n i : ℕ) → a ≤ i → i < a + n → Has i (range_with_len a n)
has_range a zero i low high = absurd (omega arith)
has_range a (suc n) i low high = elim (cases_lt a i) [
  | inl lt ↦ inr (has_range (a + 1) n i (omega arith) (omega arith))
  | inr le ↦ let e : a ≡ i = omega arith in inl e
]

each_replicate : (n sort m : ℕ) → sort < m → AllByRecursion (λ s. s < m) (replicate n sort)
each_replicate zero sort m h = tt
each_replicate (suc n) sort m h = (h, each_replicate n sort m h)

each_scope : (m : ℕ) (runs : List Run) → AllByRecursion (λ run. run.sort < m) runs → AllByRecursion (λ s. s < m) (flat_map (λ run. replicate run.count run.sort) runs)
each_scope m [] a = tt
each_scope m (run ∷ runs) a = each-append (λ s. s < m) (replicate run.count run.sort) _ (each_replicate run.count run.sort m a.0) (each_scope m runs a.1)

module _ (sig : Signature) (t : Template) (declared : is_signature sig ≡ true) (over : IsOver sig t) where
  -- a literal of the template, well sorted
  pub record IsGood (f : Formula) : Type 0 where
    pub literal : IsLiteral t.terms f
    pub sorted : well_sorted sig false f (scope_of t) ≡ true

  record IsGoodAtom (f : Formula) : Type 0 where
    pub atom : IsAtom t.terms f
    pub sorted : well_sorted sig false f (scope_of t) ≡ true

  abbrev terms : ℕ → List Term
  terms = terms_of sig (scope_of t) t.terms

  abbrev IsTerm : ℕ → Term → Type 0
  IsTerm = IsTermOf sig (scope_of t) declared t.terms

  record IsSymbol (s : ℕ × Symbol) : Type 0 where
    pub at : slice_get sig.symbols s.0 ≡ Some s.1
    pub relation : is_relation s.1.kind ≡ true

  relations : AllByRecursion IsSymbol (symbols_of sig is_relation)
  relations =
      let all : List (ℕ × Symbol) = enumerate_from 0 sig.symbols in
      let places : AllByRecursion (λ s. slice_get sig.symbols s.0 ≡ Some s.1) all = each-enumerate sig.symbols 0 sig.symbols (λ j. ap (slice_get sig.symbols) (omega arith)) in
      each-weaker (λ s. (slice_get sig.symbols s.0 ≡ Some s.1) × (is_relation s.1.kind ≡ true)) IsSymbol (λ s h. record { at = h.0; relation = h.1 }) (symbols_of sig is_relation)
      (each-both (λ s. slice_get sig.symbols s.0 ≡ Some s.1) (λ s. is_relation s.1.kind ≡ true) (symbols_of sig is_relation)
      (each-filter (λ s. slice_get sig.symbols s.0 ≡ Some s.1) (λ s. is_relation s.1.kind) all places) (each-passes (λ s. is_relation s.1.kind) all))

  good_relation : (s : ℕ × Symbol) → IsSymbol s → (args : List Term) → AreArguments sig (scope_of t) declared t.terms s.1.args args → IsGoodAtom (Holds s.0 false args)
  good_relation s i args a = record {
    atom = IsAtom.holds s.0 args refl (each-unmap (λ n. n ≤ t.terms) depth_of args a.depths);
    sorted = sorted-Holds sig false (scope_of t) s.0 false args
        ∙ (ap (λ o. is_atom o true (sorts_of sig false (scope_of t) args)) i.at
        ∙ and_from (not (gives_value s.1.kind)) (sorts_match s.1.args (sorts_of sig false (scope_of t) args)) (ap not (relation_kind s.1.kind i.relation)) a.sorted);
  }

  good_equality : (sort : ℕ) (a b : Term) → IsTerm sort a → IsTerm sort b → a ≢ b → IsGoodAtom (Equal a b)
  good_equality sort a b i j n = record {
    atom = IsAtom.equal a b refl n i.depth j.depth;
    sorted = sorted-Equal sig false (scope_of t) a b ∙ (ap (λ o. same_sort o (sort_of sig false (scope_of t) b)) i.sorted ∙ (ap (same_sort (Some sort)) j.sorted ∙ eq-eqb sort sort refl));
  }

  good_atoms : AllByRecursion IsGoodAtom (atoms sig t)
  good_atoms =
      each-append IsGoodAtom _ _
      (each-flat_map IsGoodAtom (λ s. map (Holds s.0 false) (tuples (map terms s.1.args))) (symbols_of sig is_relation)
      (each-weaker IsSymbol (λ s. AllByRecursion IsGoodAtom (map (Holds s.0 false) (tuples (map terms s.1.args))))
      (λ s i. each-map IsGoodAtom (Holds s.0 false) (tuples (map terms s.1.args))
      (each-weaker (AreArguments sig (scope_of t) declared t.terms s.1.args) (λ args. IsGoodAtom (Holds s.0 false args)) (good_relation s i) (tuples (map terms s.1.args))
      (arguments_are sig (scope_of t) declared t.terms (terms_are sig (scope_of t) declared t.terms) s.1.args)))
      (symbols_of sig is_relation) relations))
      (each-flat_map IsGoodAtom (λ sort. map (λ pair. Equal pair.0 pair.1) (pairs (terms sort))) (range_with_len 0 (length sig.sorts))
      (each-any (λ sort. AllByRecursion IsGoodAtom (map (λ pair. Equal pair.0 pair.1) (pairs (terms sort))))
      (λ sort. each-map IsGoodAtom (λ pair. Equal pair.0 pair.1) (pairs (terms sort))
      (each-weaker (λ e. IsTerm sort e.0 × (IsTerm sort e.1 × (e.0 ≢ e.1))) (λ pair. IsGoodAtom (Equal pair.0 pair.1)) (λ e h. good_equality sort e.0 e.1 h.0 h.1.0 h.1.1) (pairs (terms sort))
      (each-pair (IsTerm sort) (terms sort) (terms_are sig (scope_of t) declared t.terms sort) (terms_apart sig (scope_of t) declared t.terms sort))))
      (range_with_len 0 (length sig.sorts))))

  good_signs : (f : Formula) → IsGoodAtom f → AllByRecursion IsGood (both_signs f)
  good_signs f a = (
    record { literal = IsLiteral.plain a.atom; sorted = a.sorted },
    (record { literal = IsLiteral.negated f refl a.atom; sorted = sorted-Not sig false (scope_of t) f ∙ a.sorted }, tt),
  )

  -- each literal of the numbering is one of the template
  pub literals_are : AllByRecursion IsGood (literals sig t)
  literals_are = each-flat_map IsGood both_signs (atoms sig t) (each-weaker IsGoodAtom (λ f. AllByRecursion IsGood (both_signs f)) good_signs (atoms sig t) good_atoms)

  sort_below : (u : Term) (sort : ℕ) → sort_of sig false (scope_of t) u ≡ Some sort → sort < length sig.sorts
  sort_below u sort e = by_shape (shape_of u)
    where
      by_shape : Shape u → sort < length sig.sorts
      by_shape (Shape.variable v is) =
          each-at (λ s. s < length sig.sorts) (scope_of t) v sort (sym (sort-Variable sig false (scope_of t) v) ∙ (ap (sort_of sig false (scope_of t)) (sym is) ∙ e)) (each_scope (length sig.sorts) t.prefix over)
      by_shape (Shape.application symbol post args is) =
          let a = applied sig (scope_of t) declared symbol post args sort (ap (sort_of sig false (scope_of t)) (sym is) ∙ e) in
          subst (λ s. s < length sig.sorts) a.gives ((declared_at sig declared symbol a.symbol a.is).value a.value)

  -- an atom that is true where this one is stands in the numbering
  record Found (f : Formula) : Type 0 where
    pub atom : Formula
    pub has : Has atom (atoms sig t)
    pub same : (w : World) (env : List ℕ) → truth w f env ≡ truth w atom env

  found_relation : (symbol : ℕ) (args : List Term) → AllByRecursion (λ u. depth_of u ≤ t.terms) args → well_sorted sig false (Holds symbol false args) (scope_of t) ≡ true → Found (Holds symbol false args)
  found_relation symbol args depths sorted = by_symbol (slice_get sig.symbols symbol) refl (sym (sorted-Holds sig false (scope_of t) symbol false args) ∙ sorted)
    where
      by_symbol : (o : Option Symbol) → slice_get sig.symbols symbol ≡ o → is_atom (slice_get sig.symbols symbol) (false || not false) (sorts_of sig false (scope_of t) args) ≡ true → Found (Holds symbol false args)
      by_symbol None e h = absurd (false≢true (ap (λ o. is_atom o true (sorts_of sig false (scope_of t) args)) (sym e) ∙ h))
      by_symbol (Some s) e h =
          let both : (not (gives_value s.kind) && sorts_match s.args (sorts_of sig false (scope_of t) args)) ≡ true = ap (λ o. is_atom o true (sorts_of sig false (scope_of t) args)) (sym e) ∙ h in
          let kind : is_relation s.kind ≡ true = relation_of s.kind (first_true (not (gives_value s.kind)) (sorts_match s.args (sorts_of sig false (scope_of t) args)) both) in
          let place : Has {X = ℕ × Symbol} (0 + symbol, s) (enumerate_from 0 sig.symbols) = has-enumerate 0 symbol s sig.symbols e in
          let zero_add : 0 + symbol ≡ symbol = omega arith in
          let there : Has {X = ℕ × Symbol} (symbol, s) (enumerate_from 0 sig.symbols) = subst (λ j. Has {X = ℕ × Symbol} (j, s) (enumerate_from 0 sig.symbols)) zero_add place in
          let tuple : Has args (tuples (map terms s.args)) =
          has-tuple args (map terms s.args) (has_arguments sig (scope_of t) declared t.terms (has_term sig (scope_of t) declared t.terms) s.args args
          (rest_true (not (gives_value s.kind)) (sorts_match s.args (sorts_of sig false (scope_of t) args)) both) (each-map (λ n. n ≤ t.terms) depth_of args depths)) in
          record {
            atom = Holds symbol false args;
            has = has-front (Holds symbol false args) (flat_map (λ s. map (Holds s.0 false) (tuples (map terms s.1.args))) (symbols_of sig is_relation)) _
                (has-flat_map (λ s. map (Holds s.0 false) (tuples (map terms s.1.args))) (symbol, s) (Holds symbol false args) (symbols_of sig is_relation)
                (has-filter (λ s. is_relation s.1.kind) (symbol, s) (enumerate_from 0 sig.symbols) there kind) (has-map (Holds symbol false) args (tuples (map terms s.args)) tuple));
            same = λ w env. refl;
          }

  has_equality : (sort : ℕ) (a b : Term) → sort < length sig.sorts → Has {X = Term × Term} (a, b) (pairs (terms sort)) → Has (Equal a b) (atoms sig t)
  has_equality sort a b low h =
      has-back (Equal a b) (flat_map (λ s. map (Holds s.0 false) (tuples (map terms s.1.args))) (symbols_of sig is_relation)) _
      (has-flat_map (λ sort. map (λ pair. Equal pair.0 pair.1) (pairs (terms sort))) sort (Equal a b) (range_with_len 0 (length sig.sorts)) (has_range 0 (length sig.sorts) sort (omega arith) (omega arith))
      (has-map (λ pair. Equal pair.0 pair.1) (a, b) (pairs (terms sort)) h))

  found_equality : (a b : Term) → a ≢ b → depth_of a ≤ t.terms → depth_of b ≤ t.terms → well_sorted sig false (Equal a b) (scope_of t) ≡ true → Found (Equal a b)
  found_equality a b n da db sorted =
      let both = found_both (sort_of sig false (scope_of t) a) (sort_of sig false (scope_of t) b) (sym (sorted-Equal sig false (scope_of t) a b) ∙ sorted) in
      let sort : ℕ = both.0 in
      let low : sort < length sig.sorts = sort_below a sort both.1.0 in
      let ha : Has a (terms sort) = has_term sig (scope_of t) declared t.terms a sort (record { depth = da; sorted = both.1.0 }) in
      let hb : Has b (terms sort) = has_term sig (scope_of t) declared t.terms b sort (record { depth = db; sorted = both.1.1 }) in
      elim (has-pair a b (terms sort) ha hb n) [
        | inl h ↦ record { atom = Equal a b; has = has_equality sort a b low h; same = λ w env. refl }
        | inr h ↦ record {
          atom = Equal b a;
          has = has_equality sort b a low h;
          same = λ w env. truth-Equal w env a b ∙ (eq_swap (value_of w env a) (value_of w env b) ∙ sym (truth-Equal w env b a));
        }
      ]

  found_atom : (f : Formula) → IsAtom t.terms f → well_sorted sig false f (scope_of t) ≡ true → Found f
  found_atom f (IsAtom.holds symbol args e depths) sorted = subst Found (sym e) (found_relation symbol args depths (ap (λ g. well_sorted sig false g (scope_of t)) (sym e) ∙ sorted))
  found_atom f (IsAtom.equal a b e n da db) sorted = subst Found (sym e) (found_equality a b n da db (ap (λ g. well_sorted sig false g (scope_of t)) (sym e) ∙ sorted))

  -- the literal of a number
  abbrev pub literal : ℕ → Formula
  literal n = unwrap_or (slice_get (literals sig t) n) False

  -- the number of a literal that is true where this one is
  pub record Numbered (f : Formula) : Type 0 where
    pub number : ℕ
    pub below : number < length (literals sig t)
    pub same : (w : World) (env : List ℕ) → truth w f env ≡ truth w (literal number) env

  numbered : (f g : Formula) → Has g (literals sig t) → ((w : World) (env : List ℕ) → truth w f env ≡ truth w g env) → Numbered f
  numbered f g h same =
      let place = number_of g (literals sig t) h in
      record {
        number = place.0;
        below = slice_get_within (literals sig t) place.0 g place.1;
        same = λ w env. same w env ∙ ap (λ o. truth w (unwrap_or o False) env) (sym place.1);
      }

  -- a well sorted literal of the template has a number
  pub has_number : (f : Formula) → IsLiteral t.terms f → well_sorted sig false f (scope_of t) ≡ true → Numbered f
  has_number f (IsLiteral.plain atom) sorted =
      let found : Found f = found_atom f atom sorted in
      numbered f found.atom (has-flat_map both_signs found.atom found.atom (atoms sig t) found.has (inl refl)) found.same
  has_number f (IsLiteral.negated g e atom) sorted =
      let found : Found g = found_atom g atom (sym (sorted-Not sig false (scope_of t) g) ∙ (ap (λ h. well_sorted sig false h (scope_of t)) (sym e) ∙ sorted)) in
      numbered f (Not found.atom) (has-flat_map both_signs found.atom (Not found.atom) (atoms sig t) found.has (inr (inl refl)))
      (λ w env. ap (λ h. truth w h env) e ∙ (truth-Not w env g ∙ (ap not (found.same w env) ∙ sym (truth-Not w env found.atom))))
