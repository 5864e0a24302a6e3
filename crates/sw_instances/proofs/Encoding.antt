-- A matrix's clauses are true where its literal names are worth what they stand for.
use Rattle.std.proofs.Common.{◌≡◌, ℕ, zero, suc, ◌+◌, Bool, true, false, List, [], ◌∷◌, ◌++◌, map, Some, unwrap_or, rules, arith, refl, sym, ap, ◌∙◌, subst, append_assoc, append-nil}
use Rattle.std.specs.Prelude.{◌==◌, ◌&&◌, ◌||◌, not, slice_get, slice_index, if◌then◌else◌}
use Rattle.std.specs.List.{AllByRecursion, list_all, list_any, flat_map}
use Rattle.std.proofs.lemmas.Bool.{and_parts, and_from}
use Rattle.std.proofs.lemmas.List.Folds.{list_all-append}
use Rattle.sw_lists.proofs.Each.{each-pairs}
use Rattle.sw_logic.specs.declared.syntax.Signature.{Signature}
use Rattle.sw_logic.specs.declared.syntax.Binder.{Binder}
use Rattle.sw_logic.specs.declared.structure.Structure.{Structure}
use Rattle.sw_logic.specs.declared.syntax.Term as terms_of_logic
use Rattle.sw_logic.specs.declared.syntax.Term.{Term, roll-Term}
use Rattle.sw_logic.specs.declared.syntax.Term.TheOpen.{Term-F}
use Rattle.sw_logic.specs.declared.syntax.Term.TheFolds.{ind-Term}
use Rattle.sw_logic.specs.declared.syntax.Term.TheVariants as term
use Rattle.sw_logic.specs.declared.syntax.Term.TheVariants.{rolls-Variable, rolls-Apply}
use Rattle.sw_logic.specs.declared.syntax.Formula as formulas
use Rattle.sw_logic.specs.declared.syntax.Formula.{Formula, roll-Formula, out-Formula}
use Rattle.sw_logic.specs.declared.syntax.Formula.TheOpen.{Formula-F}
use Rattle.sw_logic.specs.declared.syntax.Formula.TheFolds.{ind-Formula}
use Rattle.sw_logic.specs.declared.syntax.Formula.TheVariants as formula
use Rattle.sw_logic.specs.declared.syntax.Formula.TheVariants.{rolls-True, rolls-False, rolls-Holds, rolls-Equal, rolls-Not, rolls-All, rolls-Any, rolls-Implies, rolls-Iff, rolls-ForAll, rolls-Exists}
use Rattle.sw_logic.specs.Truth.{World, world, truth, value_of, values_of, value_in, bit_in, table_at, place}
use Rattle.sw_logic.specs.Terms.{put}
use Rattle.sw_instances.specs.Named.{Name, related, equated, inner, Literal, plain, opposite, literal_holds, named_holds}
use Rattle.sw_instances.specs.Matrix.{Encoded, literal_part, new, parts_at, negated, conjunction, disjunction, opaque, encoded}
use Rattle.sw_instances.specs.Numbered.{Beside}
use Rattle.sw_instances.specs.Values.{part_at, part_layer}

-- the value of a term with terms put for its variables
module _ (w : World) (terms : List Term) where
  abbrev Put : Term → Type 0
  Put t = value_of w [] (put terms t) ≡ value_of w (values_of w [] terms) t

  variable_put : (ts : List Term) (v : ℕ) (d : Term) → value_of w [] d ≡ 0 → value_of w [] (unwrap_or (slice_get ts v) d) ≡ slice_index (values_of w [] ts) v
  variable_put [] zero d e = e
  variable_put [] (suc v) d e = e
  variable_put (t ∷ ts) zero d e = refl
  variable_put (t ∷ ts) (suc v) d e = variable_put ts v d e

  values_put : (ts : List Term) → AllByRecursion Put ts → values_of w [] (map (put terms) ts) ≡ values_of w (values_of w [] terms) ts
  values_put [] h = refl
  values_put (t ∷ ts) h = ap (λ (x : ℕ). x ∷ map (value_of w []) (map (put terms) ts)) h.0 ∙ ap (λ (xs : List ℕ). value_of w (values_of w [] terms) t ∷ xs) (values_put ts h.1)

  variable : (v : ℕ) → Put (term.Variable v)
  variable v =
      let a : put terms (term.Variable v) ≡ unwrap_or (slice_get terms v) (term.Variable v) = search (rules, terms_of_logic.the_lemmas) in
      let c : value_of w [] (term.Variable v) ≡ 0 = search (rules, terms_of_logic.the_lemmas) in
      let b : value_of w (values_of w [] terms) (term.Variable v) ≡ slice_index (values_of w [] terms) v = search (rules, terms_of_logic.the_lemmas) in
      ap (value_of w []) a ∙ variable_put terms v (term.Variable v) c ∙ sym b

  apply : (symbol : ℕ) (post : Bool) (args : List Term) → AllByRecursion Put args → Put (term.Apply symbol post args)
  apply symbol post args h =
      let a : put terms (term.Apply symbol post args) ≡ term.Apply symbol post (map (put terms) args) = search (rules, terms_of_logic.the_lemmas) in
      let b : value_of w [] (term.Apply symbol post (map (put terms) args)) ≡ value_in (table_at w.before w.after symbol post) (place w symbol (values_of w [] (map (put terms) args))) = search (rules, terms_of_logic.the_lemmas) in
      let c : value_of w (values_of w [] terms) (term.Apply symbol post args) ≡ value_in (table_at w.before w.after symbol post) (place w symbol (values_of w (values_of w [] terms) args)) = search (rules, terms_of_logic.the_lemmas) in
      ap (value_of w []) a ∙ b ∙ ap (λ vs. value_in (table_at w.before w.after symbol post) (place w symbol vs)) (values_put args h) ∙ sym c

  put_layer : (y : Term-F ((t : Term) × Put t)) → Put (roll-Term (terms_of_logic.map-Term ((t : Term) × Put t) Term (λ e. e.0) y))
  put_layer (Term-F.Variable v) = subst Put (sym (rolls-Variable v)) (variable v)
  put_layer (Term-F.Apply symbol post ts) = subst Put (sym (rolls-Apply symbol post (map (λ e. e.0) ts))) (apply symbol post (map (λ e. e.0) ts) (each-pairs Put ts))

  pub value_put : (t : Term) → Put t
  value_put = ind-Term Put (λ x y is. subst (λ z. Put (roll-Term z)) is (put_layer y))

  each_put : (ts : List Term) → AllByRecursion Put ts
  each_put [] = tt
  each_put (t ∷ ts) = (value_put t, each_put ts)

  pub values_are_put : (ts : List Term) → values_of w [] (map (put terms) ts) ≡ values_of w (values_of w [] terms) ts
  values_are_put ts = values_put ts (each_put ts)

-- what a part's clauses are worth, where the part has this truth
pub record Encodes (v : Name → Bool) (e : Encoded) (b : Bool) : Type 0 where
  pub literal : literal_holds v e.literal ≡ b
  pub inside : list_all (named_holds v) e.inside ≡ true
  pub top : b ≡ true → list_all (named_holds v) e.top ≡ true

not_or : (b : Bool) → (not b || b) ≡ true
not_or true = refl
not_or false = refl

not_or_false : (b : Bool) → b ≡ false → (not b || false) ≡ true
not_or_false true e = cc
not_or_false false e = refl

pub or_false : (b : Bool) → (b || false) ≡ b
or_false true = refl
or_false false = refl

not_twice : (b : Bool) → b ≡ not (not b)
not_twice true = refl
not_twice false = refl

opposite_by : (v : Bool) (positive : Bool) → (if not positive then v else not v) ≡ not (if positive then v else not v)
opposite_by v true = refl
opposite_by v false = not_twice v

pub opposite_holds : (v : Name → Bool) (l : Literal) → literal_holds v (opposite l) ≡ not (literal_holds v l)
opposite_holds v l = opposite_by (v l.name) l.positive

one_clause : (v : Name → Bool) (l : Literal) (b : Bool) → literal_holds v l ≡ b → b ≡ true → list_all (named_holds v) ((l ∷ []) ∷ []) ≡ true
one_clause v l b e h = and_from _ _ (or_false (literal_holds v l) ∙ e ∙ h) refl

pub all_append : (v : Name → Bool) (xs ys : List (List Literal)) → list_all (named_holds v) xs ≡ true → list_all (named_holds v) ys ≡ true → list_all (named_holds v) (xs ++ ys) ≡ true
all_append v xs ys e f = list_all-append (named_holds v) xs ys ∙ and_from _ _ e f

-- parts and their truths
module _ (v : Name → Bool) where
  abbrev AreEncoded : List Encoded → List Bool → Type 0
  AreEncoded es bs = Beside (Encodes v) es bs

  insides : (es : List Encoded) (bs : List Bool) → AreEncoded es bs → list_all (named_holds v) (flat_map (λ (p : Encoded). p.inside) es) ≡ true
  insides [] [] h = refl
  insides [] (b ∷ bs) h = absurd h
  insides (e ∷ es) [] h = absurd h
  insides (e ∷ es) (b ∷ bs) h = all_append v e.inside _ h.0.inside (insides es bs h.1)

  tops : (es : List Encoded) (bs : List Bool) → AreEncoded es bs → list_all (λ (b : Bool). b) bs ≡ true → list_all (named_holds v) (flat_map (λ (p : Encoded). p.top) es) ≡ true
  tops [] [] h t = refl
  tops [] (b ∷ bs) h t = absurd h
  tops (e ∷ es) [] h t = absurd h
  tops (e ∷ es) (b ∷ bs) h t = let both = and_parts b (list_all (λ (b : Bool). b) bs) t in all_append v e.top _ (h.0.top both.0) (tops es bs h.1 both.1)

  implied : (n : Literal) (es : List Encoded) (bs : List Bool) → AreEncoded es bs → (literal_holds v n ≡ true → list_all (λ (b : Bool). b) bs ≡ true)
      → list_all (named_holds v) (map (λ (p : Encoded). opposite n ∷ p.literal ∷ []) es) ≡ true
  implied n [] [] h t = refl
  implied n [] (b ∷ bs) h t = absurd h
  implied n (e ∷ es) [] h t = absurd h
  implied n (e ∷ es) (b ∷ bs) h t =
      and_from _ _
      (ap (λ x. x || (literal_holds v e.literal || false)) (opposite_holds v n) ∙ ap (λ x. not (literal_holds v n) || x) (or_false (literal_holds v e.literal) ∙ h.0.literal) ∙ by_cases (literal_holds v n) b (λ yes. (and_parts b _ (t yes)).0))
      (implied n es bs h.1 (λ yes. (and_parts b (list_all (λ (b : Bool). b) bs) (t yes)).1))
    where
      by_cases : (x y : Bool) → (x ≡ true → y ≡ true) → (not x || y) ≡ true
      by_cases true y f = f refl
      by_cases false y f = refl

  some_literal : (es : List Encoded) (bs : List Bool) → AreEncoded es bs → list_any (literal_holds v) (map (λ (p : Encoded). p.literal) es) ≡ list_any (λ (b : Bool). b) bs
  some_literal [] [] h = refl
  some_literal [] (b ∷ bs) h = absurd h
  some_literal (e ∷ es) [] h = absurd h
  some_literal (e ∷ es) (b ∷ bs) h = ap (λ x. x || list_any (literal_holds v) (map (λ (p : Encoded). p.literal) es)) h.0.literal ∙ ap (λ x. b || x) (some_literal es bs h.1)

  pub conjunction_encodes : (path : List ℕ) (es : List Encoded) (bs : List Bool) → AreEncoded es bs → v (inner path) ≡ list_all (λ (b : Bool). b) bs
      → Encodes v (conjunction path es) (list_all (λ (b : Bool). b) bs)
  conjunction_encodes path es bs h e = record {
    literal = e;
    inside = all_append v (map (λ (p : Encoded). opposite (new path) ∷ p.literal ∷ []) es) _ (implied (new path) es bs h (λ yes. sym e ∙ yes)) (insides es bs h);
    top = tops es bs h;
  }

  pub disjunction_encodes : (path : List ℕ) (es : List Encoded) (bs : List Bool) → AreEncoded es bs → v (inner path) ≡ list_any (λ (b : Bool). b) bs
      → Encodes v (disjunction path es) (list_any (λ (b : Bool). b) bs)
  disjunction_encodes path es bs h e = record {
    literal = e;
    inside = and_from _ _ (ap (λ x. not (v (inner path)) || x) (some_literal es bs h ∙ sym e) ∙ not_or (v (inner path))) (insides es bs h);
    top = λ t. and_from _ _ (some_literal es bs h ∙ t) (insides es bs h);
  }

  pub negated_encodes : (e : Encoded) (b : Bool) → Encodes v e b → Encodes v (negated e) (not b)
  negated_encodes e b h = record {
    literal = opposite_holds v e.literal ∙ ap not h.literal;
    inside = h.inside;
    top = λ t. and_from _ _ (or_false _ ∙ opposite_holds v e.literal ∙ ap not h.literal ∙ t) h.inside;
  }

  pub literal_encodes : (l : Literal) (b : Bool) → literal_holds v l ≡ b → Encodes v (literal_part l) b
  literal_encodes l b e = record { literal = e; inside = refl; top = one_clause v l b e }

  pub opaque_encodes : (path : List ℕ) (b : Bool) → v (inner path) ≡ b → Encodes v (opaque path) b
  opaque_encodes path b e = record { literal = e; inside = refl; top = one_clause v (new path) b e }

  pub true_encodes : (path : List ℕ) → v (inner path) ≡ true → Encodes v (record { literal = new path; inside = []; top = [] }) true
  true_encodes path e = record { literal = e; inside = refl; top = λ t. refl }

  pub false_encodes : (path : List ℕ) → v (inner path) ≡ false → Encodes v (record { literal = new path; inside = (opposite (new path) ∷ []) ∷ []; top = [] ∷ [] }) false
  false_encodes path e = record { literal = e; inside = and_from _ _ (not_or_false (v (inner path)) e) refl; top = λ t. cc }

module _ (sig : Signature) (s : Structure) (v : Name → Bool) (terms : List Term) where
  abbrev here : World
  here = world sig s s

  abbrev env : List ℕ
  env = values_of here [] terms

  -- ground atoms are worth their truth
  pub record AreAtoms : Type 0 where
    pub related : (symbol : ℕ) (ts : List Term) → v (related symbol ts) ≡ truth here (formula.Holds symbol false ts) []
    pub equated : (t u : Term) → v (equated t u) ≡ truth here (formula.Equal t u) []

  -- the parts of a formula at a path are worth their truth
  abbrev Agrees : List ℕ → Formula → Type 0
  Agrees path f = (q : List ℕ) → v (inner (path ++ q)) ≡ truth here (part_at f q) env

  abbrev IsEncoded : Formula → Type 0
  IsEncoded f = (path : List ℕ) → Agrees path f → Encodes v (encoded terms f path) (truth here f env)

  whole : (path : List ℕ) (f : Formula) → Agrees path f → v (inner path) ≡ truth here f env
  whole path f a = ap (λ (p : List ℕ). v (inner p)) (sym (append-nil path)) ∙ a []

  encodes_by : (path : List ℕ) (f : Formula) (e : Encoded) (b : Bool) → encoded terms f path ≡ e → truth here f env ≡ b → Encodes v e b → Encodes v (encoded terms f path) (truth here f env)
  encodes_by path f e b p q h = subst (λ x. Encodes v x (truth here f env)) (sym p) (subst (Encodes v e) (sym q) h)

  same_table : (symbol : ℕ) (post : Bool) → table_at s s symbol post ≡ table_at s s symbol false
  same_table symbol true = refl
  same_table symbol false = refl

  module _ (a : AreAtoms) where
    true_part : IsEncoded formula.True
    true_part path g =
        let e : encoded terms formula.True path ≡ record { literal = new path; inside = []; top = [] } = search (rules, formulas.the_lemmas) in
        let t : truth here formula.True env ≡ true = search (rules, formulas.the_lemmas) in
        encodes_by path formula.True _ true e t (true_encodes v path (whole path formula.True g ∙ t))

    false_part : IsEncoded formula.False
    false_part path g =
        let e : encoded terms formula.False path ≡ record { literal = new path; inside = (opposite (new path) ∷ []) ∷ []; top = [] ∷ [] } = search (rules, formulas.the_lemmas) in
        let t : truth here formula.False env ≡ false = search (rules, formulas.the_lemmas) in
        encodes_by path formula.False _ false e t (false_encodes v path (whole path formula.False g ∙ t))

    holds_part : (symbol : ℕ) (post : Bool) (args : List Term) → IsEncoded (formula.Holds symbol post args)
    holds_part symbol post args path g =
        let n = related symbol (map (put terms) args) in
        let e : encoded terms (formula.Holds symbol post args) path ≡ literal_part (plain n) = search (rules, formulas.the_lemmas) in
        let t : truth here (formula.Holds symbol post args) env ≡ bit_in (table_at s s symbol post) (place here symbol (values_of here env args)) = search (rules, formulas.the_lemmas) in
        let u : truth here (formula.Holds symbol false (map (put terms) args)) [] ≡ bit_in (table_at s s symbol false) (place here symbol (values_of here [] (map (put terms) args))) = search (rules, formulas.the_lemmas) in
        let same = u ∙ ap (λ vs. bit_in (table_at s s symbol false) (place here symbol vs)) (values_are_put here terms args) ∙ ap (λ tb. bit_in tb (place here symbol (values_of here env args))) (sym (same_table symbol post)) ∙ sym t in
        encodes_by path (formula.Holds symbol post args) _ _ e refl (literal_encodes v (plain n) _ (a.related symbol (map (put terms) args) ∙ same))

    equal_part : (x y : Term) → IsEncoded (formula.Equal x y)
    equal_part x y path g =
        let n = equated (put terms x) (put terms y) in
        let e : encoded terms (formula.Equal x y) path ≡ literal_part (plain n) = search (rules, formulas.the_lemmas) in
        let t : truth here (formula.Equal x y) env ≡ (value_of here env x == value_of here env y) = search (rules, formulas.the_lemmas) in
        let u : truth here (formula.Equal (put terms x) (put terms y)) [] ≡ (value_of here [] (put terms x) == value_of here [] (put terms y)) = search (rules, formulas.the_lemmas) in
        let same = u ∙ ap (λ m. m == value_of here [] (put terms y)) (value_put here terms x) ∙ ap (λ m. value_of here env x == m) (value_put here terms y) ∙ sym t in
        encodes_by path (formula.Equal x y) _ _ e refl (literal_encodes v (plain n) _ (a.equated (put terms x) (put terms y) ∙ same))

    -- what agrees with a formula agrees with its part
    inward : (path : List ℕ) (f p : Formula) (k : ℕ) → part_layer k f (out-Formula f) ≡ p → Agrees path f → Agrees (path ++ k ∷ []) p
    inward path f p k e g q = ap (λ (x : List ℕ). v (inner x)) (append_assoc path (k ∷ []) q) ∙ g (k ∷ q) ∙ ap (λ x. truth here (part_at x q) env) e

    not_part : (p : Formula) → IsEncoded p → IsEncoded (formula.Not p)
    not_part p h path g =
        let e : encoded terms (formula.Not p) path ≡ negated (encoded terms p (path ++ 0 ∷ [])) = search (rules, formulas.the_lemmas) in
        let t : truth here (formula.Not p) env ≡ not (truth here p env) = search (rules, formulas.the_lemmas) in
        let o : part_layer 0 (formula.Not p) (out-Formula (formula.Not p)) ≡ p = search (rules, formulas.the_lemmas) in
        encodes_by path (formula.Not p) _ _ e t (negated_encodes v _ _ (h (path ++ 0 ∷ []) (inward path (formula.Not p) p 0 o g)))

    -- the truths of parts
    abbrev truths : List Formula → List Bool
    truths ps = map (λ (p : Formula). truth here p env) ps

    each_part : (path : List ℕ) (k : ℕ) (ps : List Formula) → AllByRecursion IsEncoded ps → ((j : ℕ) (p : Formula) → slice_get ps j ≡ Some p → Agrees (path ++ (k + j) ∷ []) p)
        → AreEncoded v (parts_at path k (map (encoded terms) ps)) (truths ps)
    each_part path k [] h g = tt
    each_part path k (p ∷ ps) h g =
        let zero_on : k + 0 ≡ k = omega arith in
        let here_on : Agrees (path ++ k ∷ []) p = subst (λ (n : ℕ). Agrees (path ++ n ∷ []) p) zero_on (g 0 p refl) in (
          h.0 (path ++ k ∷ []) here_on,
          each_part path (k + 1) ps h.1 (λ j q is. let on : k + suc j ≡ k + 1 + j = omega arith in subst (λ (n : ℕ). Agrees (path ++ n ∷ []) q) on (g (suc j) q is)),
        )

    all_truths : (ps : List Formula) → list_all (λ (p : List ℕ → Bool). p env) (map (truth here) ps) ≡ list_all (λ (b : Bool). b) (truths ps)
    all_truths [] = refl
    all_truths (p ∷ ps) = ap (λ b. truth here p env && b) (all_truths ps)

    any_truths : (ps : List Formula) → list_any (λ (p : List ℕ → Bool). p env) (map (truth here) ps) ≡ list_any (λ (b : Bool). b) (truths ps)
    any_truths [] = refl
    any_truths (p ∷ ps) = ap (λ b. truth here p env || b) (any_truths ps)

    got : (ps : List Formula) (j : ℕ) (p f : Formula) → slice_get ps j ≡ Some p → unwrap_or (slice_get ps j) f ≡ p
    got ps j p f e = ap (λ o. unwrap_or o f) e

    all_part : (ps : List Formula) → AllByRecursion IsEncoded ps → IsEncoded (formula.All ps)
    all_part ps h path g =
        let e : encoded terms (formula.All ps) path ≡ conjunction path (parts_at path 0 (map (encoded terms) ps)) = search (rules, formulas.the_lemmas) in
        let t : truth here (formula.All ps) env ≡ list_all (λ (p : List ℕ → Bool). p env) (map (truth here) ps) = search (rules, formulas.the_lemmas) in
        let o : (j : ℕ) → part_layer j (formula.All ps) (out-Formula (formula.All ps)) ≡ unwrap_or (slice_get ps j) (formula.All ps) = λ j. search (rules, formulas.the_lemmas) in
        let parts = each_part path 0 ps h (λ j p is. let on : j ≡ 0 + j = omega arith in
        subst (λ (n : ℕ). Agrees (path ++ n ∷ []) p) on (inward path (formula.All ps) p j (o j ∙ got ps j p (formula.All ps) is) g)) in
        encodes_by path (formula.All ps) _ _ e (t ∙ all_truths ps) (conjunction_encodes v path _ (truths ps) parts (whole path (formula.All ps) g ∙ t ∙ all_truths ps))

    any_part : (ps : List Formula) → AllByRecursion IsEncoded ps → IsEncoded (formula.Any ps)
    any_part ps h path g =
        let e : encoded terms (formula.Any ps) path ≡ disjunction path (parts_at path 0 (map (encoded terms) ps)) = search (rules, formulas.the_lemmas) in
        let t : truth here (formula.Any ps) env ≡ list_any (λ (p : List ℕ → Bool). p env) (map (truth here) ps) = search (rules, formulas.the_lemmas) in
        let o : (j : ℕ) → part_layer j (formula.Any ps) (out-Formula (formula.Any ps)) ≡ unwrap_or (slice_get ps j) (formula.Any ps) = λ j. search (rules, formulas.the_lemmas) in
        let parts = each_part path 0 ps h (λ j p is. let on : j ≡ 0 + j = omega arith in
        subst (λ (n : ℕ). Agrees (path ++ n ∷ []) p) on (inward path (formula.Any ps) p j (o j ∙ got ps j p (formula.Any ps) is) g)) in
        encodes_by path (formula.Any ps) _ _ e (t ∙ any_truths ps) (disjunction_encodes v path _ (truths ps) parts (whole path (formula.Any ps) g ∙ t ∙ any_truths ps))

    -- what a matrix does not have
    opaque_part : (f : Formula) → ((path : List ℕ) → encoded terms f path ≡ opaque path) → IsEncoded f
    opaque_part f e path g = encodes_by path f _ _ (e path) refl (opaque_encodes v path _ (whole path f g))

    implies_part : (p q : Formula) → IsEncoded (formula.Implies p q)
    implies_part p q = opaque_part (formula.Implies p q) (λ path. search (rules, formulas.the_lemmas))

    iff_part : (p q : Formula) → IsEncoded (formula.Iff p q)
    iff_part p q = opaque_part (formula.Iff p q) (λ path. search (rules, formulas.the_lemmas))

    for_all_part : (bs : List Binder) (p : Formula) → IsEncoded (formula.ForAll bs p)
    for_all_part bs p = opaque_part (formula.ForAll bs p) (λ path. search (rules, formulas.the_lemmas))

    exists_part : (bs : List Binder) (p : Formula) → IsEncoded (formula.Exists bs p)
    exists_part bs p = opaque_part (formula.Exists bs p) (λ path. search (rules, formulas.the_lemmas))

    layer : (y : Formula-F ((f : Formula) × IsEncoded f)) → IsEncoded (roll-Formula (formulas.map-Formula ((f : Formula) × IsEncoded f) Formula (λ e. e.0) y))
    layer Formula-F.True = subst IsEncoded (sym rolls-True) true_part
    layer Formula-F.False = subst IsEncoded (sym rolls-False) false_part
    layer (Formula-F.Holds symbol post args) = subst IsEncoded (sym (rolls-Holds symbol post args)) (holds_part symbol post args)
    layer (Formula-F.Equal x y) = subst IsEncoded (sym (rolls-Equal x y)) (equal_part x y)
    layer (Formula-F.Not p) = subst IsEncoded (sym (rolls-Not p.0)) (not_part p.0 p.1)
    layer (Formula-F.All ps) = subst IsEncoded (sym (rolls-All (map (λ e. e.0) ps))) (all_part (map (λ e. e.0) ps) (each-pairs IsEncoded ps))
    layer (Formula-F.Any ps) = subst IsEncoded (sym (rolls-Any (map (λ e. e.0) ps))) (any_part (map (λ e. e.0) ps) (each-pairs IsEncoded ps))
    layer (Formula-F.Implies p q) = subst IsEncoded (sym (rolls-Implies p.0 q.0)) (implies_part p.0 q.0)
    layer (Formula-F.Iff p q) = subst IsEncoded (sym (rolls-Iff p.0 q.0)) (iff_part p.0 q.0)
    layer (Formula-F.ForAll bs p) = subst IsEncoded (sym (rolls-ForAll bs p.0)) (for_all_part bs p.0)
    layer (Formula-F.Exists bs p) = subst IsEncoded (sym (rolls-Exists bs p.0)) (exists_part bs p.0)

    pub is_encoded : (f : Formula) → IsEncoded f
    is_encoded = ind-Formula IsEncoded (λ x y is. subst (λ z. IsEncoded (roll-Formula z)) is (layer y))
