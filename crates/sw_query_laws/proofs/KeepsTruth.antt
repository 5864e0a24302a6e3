-- A renamed formula has the truth that the formula has, where each symbol reads what its stand-in reads.
use Rattle.std.specs.Prelude.{◌≡◌, ℕ, zero, suc, ◌&&◌, ◌||◌, not, ◌==◌, Bool, true, false, List, [], ◌∷◌, ◌++◌, map, slice_get, slice_index, if◌then◌else◌}
use Rattle.std.specs.List.{AllByRecursion, list_all, list_any}
use Rattle.std.proofs.Common.{rules, refl, sym, subst, ap, ◌∙◌, append_assoc}
use Rattle.sw_lists.proofs.Each.{each-pairs}
use Rattle.sw_logic.specs.declared.syntax.Binder.{Binder}
use Rattle.sw_logic.specs.declared.syntax.Term as terms
use Rattle.sw_logic.specs.declared.syntax.Term.{Term, roll-Term}
use Rattle.sw_logic.specs.declared.syntax.Term.TheOpen.{Term-F}
use Rattle.sw_logic.specs.declared.syntax.Term.TheFolds.{ind-Term}
use Rattle.sw_logic.specs.declared.syntax.Term.TheVariants.{Variable, Apply, rolls-Variable, rolls-Apply}
use Rattle.sw_logic.specs.declared.syntax.Formula as formulas
use Rattle.sw_logic.specs.declared.syntax.Formula.{Formula, roll-Formula}
use Rattle.sw_logic.specs.declared.syntax.Formula.TheOpen.{Formula-F}
use Rattle.sw_logic.specs.declared.syntax.Formula.TheFolds.{ind-Formula}
use Rattle.sw_logic.specs.declared.syntax.Formula.TheVariants.{True, False, Holds, Equal, Not, All, Any, Implies, Iff, ForAll, Exists, rolls-True, rolls-False, rolls-Holds, rolls-Equal, rolls-Not, rolls-All, rolls-Any, rolls-Implies, rolls-Iff, rolls-ForAll, rolls-Exists}
use Rattle.sw_logic.specs.Truth.{World, truth, table_at, args_of, place, place_from, value_in, bit_in, value_of, values_of, all_below, any_below, for_all, exists, size_of}
use Rattle.sw_logic.proofs.Steps.{value_of-Apply, truth-All, truth-Any, truth-ForAll, truth-Exists}
use Rattle.sw_meaning.specs.declared.protocol.Protocol.{Protocol}
use Rattle.sw_meaning.specs.declared.protocol.Transition.{Transition}
use Rattle.sw_renaming.specs.declared.renaming.Moment.{Moment}
use Rattle.sw_renaming.specs.Renamed.{symbol_at, variable_at, renamed_term, renamed}

all_below_same : (n : ℕ) (p q : ℕ → Bool) → ((k : ℕ) → p k ≡ q k) → all_below n p ≡ all_below n q
all_below_same zero p q h = refl
all_below_same (suc n) p q h = ap (λ b. b && p n) (all_below_same n p q h) ∙ ap (λ b. all_below n q && b) (h n)

any_below_same : (n : ℕ) (p q : ℕ → Bool) → ((k : ℕ) → p k ≡ q k) → any_below n p ≡ any_below n q
any_below_same zero p q h = refl
any_below_same (suc n) p q h = ap (λ b. b || p n) (any_below_same n p q h) ∙ ap (λ b. any_below n q || b) (h n)

module _ (first : List ℕ) (p q : List ℕ → Bool) (h : (env : List ℕ) → p env ≡ q (first ++ env)) (sizes : List ℕ) where
  for_all_same : (bs : List Binder) (env : List ℕ) → for_all sizes bs p env ≡ for_all sizes bs q (first ++ env)
  for_all_same [] env = h env
  for_all_same (b ∷ bs) env =
      all_below_same (size_of sizes b.sort) (λ k. for_all sizes bs p (env ++ k ∷ [])) (λ k. for_all sizes bs q ((first ++ env) ++ k ∷ []))
      (λ k. for_all_same bs (env ++ k ∷ []) ∙ ap (for_all sizes bs q) (sym (append_assoc first env (k ∷ []))))

  exists_same : (bs : List Binder) (env : List ℕ) → exists sizes bs p env ≡ exists sizes bs q (first ++ env)
  exists_same [] env = h env
  exists_same (b ∷ bs) env =
      any_below_same (size_of sizes b.sort) (λ k. exists sizes bs p (env ++ k ∷ [])) (λ k. exists sizes bs q ((first ++ env) ++ k ∷ []))
      (λ k. exists_same bs (env ++ k ∷ []) ∙ ap (exists sizes bs q) (sym (append_assoc first env (k ∷ []))))

module _ (p : Protocol) (t : Transition) (m : Moment) (w v : World) (first : List ℕ) where
  -- each symbol reads in the one world what its stand-in reads in the other, and the outermost variables have these values
  pub record Reads : Type 0 where
    pub sizes : v.before.sizes ≡ w.before.sizes
    pub tables : (symbol : ℕ) (post : Bool) → slice_get v.before.tables (symbol_at p t m symbol post) ≡ table_at w.before w.after symbol post
    pub args : (symbol : ℕ) (post : Bool) → args_of v.signature (symbol_at p t m symbol post) ≡ args_of w.signature symbol
    pub variables : (env : List ℕ) (n : ℕ) → value_of v env (variable_at p t m n) ≡ slice_index (first ++ env) n

  module _ (reads : Reads) where
    place_same : (symbol : ℕ) (post : Bool) (xs ys : List ℕ) → xs ≡ ys → place v (symbol_at p t m symbol post) xs ≡ place w symbol ys
    place_same symbol post xs ys e =
        ap (λ sizes. place_from sizes 0 (args_of v.signature (symbol_at p t m symbol post)) xs) reads.sizes
        ∙ ap (λ sorts. place_from w.before.sizes 0 sorts xs) (reads.args symbol post)
        ∙ ap (place_from w.before.sizes 0 (args_of w.signature symbol)) e

    abbrev HasValue : Term → Type 0
    HasValue x = (env : List ℕ) → value_of v env (renamed_term p t m x) ≡ value_of w (first ++ env) x

    values_same : (xs : List Term) → AllByRecursion HasValue xs → (env : List ℕ) → values_of v env (map (renamed_term p t m) xs) ≡ values_of w (first ++ env) xs
    values_same [] h env = refl
    values_same (x ∷ xs) h env = ap (λ n. n ∷ values_of v env (map (renamed_term p t m) xs)) (h.0 env) ∙ ap (λ ns. value_of w (first ++ env) x ∷ ns) (values_same xs h.1 env)

    variable_same : (n : ℕ) → HasValue (Variable n)
    variable_same n env =
        let is : renamed_term p t m (Variable n) ≡ variable_at p t m n = search (rules, terms.the_lemmas) in
        let reads_it : value_of w (first ++ env) (Variable n) ≡ slice_index (first ++ env) n = search (rules, terms.the_lemmas) in
        ap (value_of v env) is ∙ reads.variables env n ∙ sym reads_it

    apply_same : (symbol : ℕ) (post : Bool) (xs : List Term) → AllByRecursion HasValue xs → HasValue (Apply symbol post xs)
    apply_same symbol post xs h env =
        let is : renamed_term p t m (Apply symbol post xs) ≡ Apply (symbol_at p t m symbol post) false (map (renamed_term p t m) xs) = search (rules, terms.the_lemmas) in
        ap (value_of v env) is ∙ value_of-Apply v env (symbol_at p t m symbol post) false (map (renamed_term p t m) xs)
        ∙ ap (λ table. value_in table (place v (symbol_at p t m symbol post) (values_of v env (map (renamed_term p t m) xs)))) (reads.tables symbol post)
        ∙ ap (value_in (table_at w.before w.after symbol post)) (place_same symbol post (values_of v env (map (renamed_term p t m) xs)) (values_of w (first ++ env) xs) (values_same xs h env))
        ∙ sym (value_of-Apply w (first ++ env) symbol post xs)

    term_layer : (y : Term-F ((x : Term) × HasValue x)) → HasValue (roll-Term (terms.map-Term ((x : Term) × HasValue x) Term (λ e. e.0) y))
    term_layer (Term-F.Variable n) = subst HasValue (sym (rolls-Variable n)) (variable_same n)
    term_layer (Term-F.Apply symbol post xs) = subst HasValue (sym (rolls-Apply symbol post (map (λ e. e.0) xs))) (apply_same symbol post (map (λ e. e.0) xs) (each-pairs HasValue xs))

    has_value : (x : Term) → HasValue x
    has_value = ind-Term HasValue (λ x y is. subst (λ z. HasValue (roll-Term z)) is (term_layer y))

    each_value : (xs : List Term) → AllByRecursion HasValue xs
    each_value [] = tt
    each_value (x ∷ xs) = (has_value x, each_value xs)

    abbrev HasTruth : Formula → Type 0
    HasTruth f = (env : List ℕ) → truth v (renamed p t m f) env ≡ truth w f (first ++ env)

    true_same : HasTruth True
    true_same env =
        let is : renamed p t m True ≡ True = search (rules, formulas.the_lemmas) in
        let here : truth v True env ≡ true = search (rules, formulas.the_lemmas) in
        let there : truth w True (first ++ env) ≡ true = search (rules, formulas.the_lemmas) in
        ap (λ f. truth v f env) is ∙ here ∙ sym there

    false_same : HasTruth False
    false_same env =
        let is : renamed p t m False ≡ False = search (rules, formulas.the_lemmas) in
        let here : truth v False env ≡ false = search (rules, formulas.the_lemmas) in
        let there : truth w False (first ++ env) ≡ false = search (rules, formulas.the_lemmas) in
        ap (λ f. truth v f env) is ∙ here ∙ sym there

    holds_same : (symbol : ℕ) (post : Bool) (xs : List Term) → HasTruth (Holds symbol post xs)
    holds_same symbol post xs env =
        let ys = map (renamed_term p t m) xs in
        let is : renamed p t m (Holds symbol post xs) ≡ Holds (symbol_at p t m symbol post) false (map (renamed_term p t m) xs) = search (rules, formulas.the_lemmas) in
        let here : truth v (Holds (symbol_at p t m symbol post) false ys) env ≡ bit_in (slice_get v.before.tables (symbol_at p t m symbol post)) (place v (symbol_at p t m symbol post) (values_of v env ys)) = search (rules, formulas.the_lemmas) in
        let there : truth w (Holds symbol post xs) (first ++ env) ≡ bit_in (table_at w.before w.after symbol post) (place w symbol (values_of w (first ++ env) xs)) = search (rules, formulas.the_lemmas) in
        ap (λ f. truth v f env) is ∙ here
        ∙ ap (λ table. bit_in table (place v (symbol_at p t m symbol post) (values_of v env ys))) (reads.tables symbol post)
        ∙ ap (bit_in (table_at w.before w.after symbol post)) (place_same symbol post (values_of v env ys) (values_of w (first ++ env) xs) (values_same xs (each_value xs) env))
        ∙ sym there

    equal_same : (a b : Term) → HasTruth (Equal a b)
    equal_same a b env =
        let is : renamed p t m (Equal a b) ≡ Equal (renamed_term p t m a) (renamed_term p t m b) = search (rules, formulas.the_lemmas) in
        let here : truth v (Equal (renamed_term p t m a) (renamed_term p t m b)) env ≡ (value_of v env (renamed_term p t m a) == value_of v env (renamed_term p t m b)) = search (rules, formulas.the_lemmas) in
        let there : truth w (Equal a b) (first ++ env) ≡ (value_of w (first ++ env) a == value_of w (first ++ env) b) = search (rules, formulas.the_lemmas) in
        ap (λ f. truth v f env) is ∙ here
        ∙ ap (λ n. n == value_of v env (renamed_term p t m b)) (has_value a env)
        ∙ ap (λ n. value_of w (first ++ env) a == n) (has_value b env)
        ∙ sym there

    not_same : (f : Formula) → HasTruth f → HasTruth (Not f)
    not_same f h env =
        let is : renamed p t m (Not f) ≡ Not (renamed p t m f) = search (rules, formulas.the_lemmas) in
        let here : truth v (Not (renamed p t m f)) env ≡ not (truth v (renamed p t m f) env) = search (rules, formulas.the_lemmas) in
        let there : truth w (Not f) (first ++ env) ≡ not (truth w f (first ++ env)) = search (rules, formulas.the_lemmas) in
        ap (λ x. truth v x env) is ∙ here ∙ ap not (h env) ∙ sym there

    all_same : (fs : List Formula) → AllByRecursion HasTruth fs → (env : List ℕ) → list_all (λ f. truth v f env) (map (renamed p t m) fs) ≡ list_all (λ f. truth w f (first ++ env)) fs
    all_same [] h env = refl
    all_same (f ∷ fs) h env = ap (λ b. b && list_all (λ x. truth v x env) (map (renamed p t m) fs)) (h.0 env) ∙ ap (λ b. truth w f (first ++ env) && b) (all_same fs h.1 env)

    any_same : (fs : List Formula) → AllByRecursion HasTruth fs → (env : List ℕ) → list_any (λ f. truth v f env) (map (renamed p t m) fs) ≡ list_any (λ f. truth w f (first ++ env)) fs
    any_same [] h env = refl
    any_same (f ∷ fs) h env = ap (λ b. b || list_any (λ x. truth v x env) (map (renamed p t m) fs)) (h.0 env) ∙ ap (λ b. truth w f (first ++ env) || b) (any_same fs h.1 env)

    conjunction_same : (fs : List Formula) → AllByRecursion HasTruth fs → HasTruth (All fs)
    conjunction_same fs h env =
        let is : renamed p t m (All fs) ≡ All (map (renamed p t m) fs) = search (rules, formulas.the_lemmas) in
        ap (λ f. truth v f env) is ∙ truth-All v (map (renamed p t m) fs) env ∙ all_same fs h env ∙ sym (truth-All w fs (first ++ env))

    disjunction_same : (fs : List Formula) → AllByRecursion HasTruth fs → HasTruth (Any fs)
    disjunction_same fs h env =
        let is : renamed p t m (Any fs) ≡ Any (map (renamed p t m) fs) = search (rules, formulas.the_lemmas) in
        ap (λ f. truth v f env) is ∙ truth-Any v (map (renamed p t m) fs) env ∙ any_same fs h env ∙ sym (truth-Any w fs (first ++ env))

    implies_same : (f g : Formula) → HasTruth f → HasTruth g → HasTruth (Implies f g)
    implies_same f g h k env =
        let is : renamed p t m (Implies f g) ≡ Implies (renamed p t m f) (renamed p t m g) = search (rules, formulas.the_lemmas) in
        let here : truth v (Implies (renamed p t m f) (renamed p t m g)) env ≡ (not (truth v (renamed p t m f) env) || truth v (renamed p t m g) env) = search (rules, formulas.the_lemmas) in
        let there : truth w (Implies f g) (first ++ env) ≡ (not (truth w f (first ++ env)) || truth w g (first ++ env)) = search (rules, formulas.the_lemmas) in
        ap (λ x. truth v x env) is ∙ here ∙ ap (λ b. not b || truth v (renamed p t m g) env) (h env) ∙ ap (λ b. not (truth w f (first ++ env)) || b) (k env) ∙ sym there

    iff_same : (f g : Formula) → HasTruth f → HasTruth g → HasTruth (Iff f g)
    iff_same f g h k env =
        let is : renamed p t m (Iff f g) ≡ Iff (renamed p t m f) (renamed p t m g) = search (rules, formulas.the_lemmas) in
        let here : truth v (Iff (renamed p t m f) (renamed p t m g)) env ≡ (if truth v (renamed p t m f) env then truth v (renamed p t m g) env else not (truth v (renamed p t m g) env)) = search (rules, formulas.the_lemmas) in
        let there : truth w (Iff f g) (first ++ env) ≡ (if truth w f (first ++ env) then truth w g (first ++ env) else not (truth w g (first ++ env))) = search (rules, formulas.the_lemmas) in
        ap (λ x. truth v x env) is ∙ here
        ∙ ap (λ b. if b then truth v (renamed p t m g) env else not (truth v (renamed p t m g) env)) (h env)
        ∙ ap (λ b. if truth w f (first ++ env) then b else not b) (k env) ∙ sym there

    for_all_formula : (bs : List Binder) (f : Formula) → HasTruth f → HasTruth (ForAll bs f)
    for_all_formula bs f h env =
        let is : renamed p t m (ForAll bs f) ≡ ForAll bs (renamed p t m f) = search (rules, formulas.the_lemmas) in
        ap (λ x. truth v x env) is ∙ truth-ForAll v bs (renamed p t m f) env
        ∙ for_all_same first (truth v (renamed p t m f)) (truth w f) h v.before.sizes bs env
        ∙ ap (λ sizes. for_all sizes bs (truth w f) (first ++ env)) reads.sizes ∙ sym (truth-ForAll w bs f (first ++ env))

    exists_formula : (bs : List Binder) (f : Formula) → HasTruth f → HasTruth (Exists bs f)
    exists_formula bs f h env =
        let is : renamed p t m (Exists bs f) ≡ Exists bs (renamed p t m f) = search (rules, formulas.the_lemmas) in
        ap (λ x. truth v x env) is ∙ truth-Exists v bs (renamed p t m f) env
        ∙ exists_same first (truth v (renamed p t m f)) (truth w f) h v.before.sizes bs env
        ∙ ap (λ sizes. exists sizes bs (truth w f) (first ++ env)) reads.sizes ∙ sym (truth-Exists w bs f (first ++ env))

    formula_layer : (y : Formula-F ((f : Formula) × HasTruth f)) → HasTruth (roll-Formula (formulas.map-Formula ((f : Formula) × HasTruth f) Formula (λ e. e.0) y))
    formula_layer Formula-F.True = subst HasTruth (sym rolls-True) true_same
    formula_layer Formula-F.False = subst HasTruth (sym rolls-False) false_same
    formula_layer (Formula-F.Holds symbol post xs) = subst HasTruth (sym (rolls-Holds symbol post xs)) (holds_same symbol post xs)
    formula_layer (Formula-F.Equal a b) = subst HasTruth (sym (rolls-Equal a b)) (equal_same a b)
    formula_layer (Formula-F.Not f) = subst HasTruth (sym (rolls-Not f.0)) (not_same f.0 f.1)
    formula_layer (Formula-F.All fs) = subst HasTruth (sym (rolls-All (map (λ e. e.0) fs))) (conjunction_same (map (λ e. e.0) fs) (each-pairs HasTruth fs))
    formula_layer (Formula-F.Any fs) = subst HasTruth (sym (rolls-Any (map (λ e. e.0) fs))) (disjunction_same (map (λ e. e.0) fs) (each-pairs HasTruth fs))
    formula_layer (Formula-F.Implies f g) = subst HasTruth (sym (rolls-Implies f.0 g.0)) (implies_same f.0 g.0 f.1 g.1)
    formula_layer (Formula-F.Iff f g) = subst HasTruth (sym (rolls-Iff f.0 g.0)) (iff_same f.0 g.0 f.1 g.1)
    formula_layer (Formula-F.ForAll bs f) = subst HasTruth (sym (rolls-ForAll bs f.0)) (for_all_formula bs f.0 f.1)
    formula_layer (Formula-F.Exists bs f) = subst HasTruth (sym (rolls-Exists bs f.0)) (exists_formula bs f.0 f.1)

    pub renamed_truth : (f : Formula) → HasTruth f
    renamed_truth = ind-Formula HasTruth (λ x y is. subst (λ z. HasTruth (roll-Formula z)) is (formula_layer y))
