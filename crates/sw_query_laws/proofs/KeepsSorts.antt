-- A renamed formula is well sorted where the formula is, if each symbol's stand-in is declared as the symbol is.
use Rattle.std.specs.Prelude.{◌≡◌, ℕ, ◌&&◌, ◌||◌, not, ◌==◌, Bool, true, false, List, [], ◌∷◌, ◌++◌, length, map, nat_lt, Option, Some, None, slice_get}
use Rattle.std.specs.List.{AllByRecursion, list_all}
use Rattle.std.proofs.Common.{rules, arith, refl, sym, subst, ap, ◌∙◌, append_assoc, inl, inr}
use Rattle.std.proofs.lemmas.Bool.{false≢true, and_parts, and_from, cases_Bool, cond-true, cond-false, eqb-true}
use Rattle.std.proofs.lemmas.Option.{none-some}
use Rattle.sw_logic.specs.declared.syntax.Symbol.{Symbol}
use Rattle.sw_logic.specs.declared.syntax.Signature.{Signature}
use Rattle.sw_logic.specs.declared.syntax.Binder.{Binder}
use Rattle.sw_logic.specs.declared.syntax.Term as terms
use Rattle.sw_logic.specs.declared.syntax.Term.{Term, roll-Term}
use Rattle.sw_logic.specs.declared.syntax.Term.TheOpen.{Term-F}
use Rattle.sw_logic.specs.declared.syntax.Term.TheFolds.{ind-Term}
use Rattle.sw_logic.specs.declared.syntax.Term.TheVariants.{Variable, Apply, rolls-Variable, rolls-Apply}
use Rattle.sw_logic.specs.declared.syntax.Formula as formulas
use Rattle.sw_logic.specs.declared.syntax.Formula.{Formula, roll-Formula}
use Rattle.sw_logic.specs.declared.syntax.Formula.TheOpen.{Formula-F}
use Rattle.sw_logic.specs.declared.syntax.Formula.TheFolds.{ind-Formula}
use Rattle.sw_logic.specs.declared.syntax.Formula.TheVariants.{True, False, Holds, Equal, Not, All, Any, Implies, Iff, ForAll, Exists, rolls-True, rolls-False, rolls-Holds, rolls-Equal, rolls-Not, rolls-All, rolls-Any, rolls-Implies, rolls-Iff, rolls-ForAll, rolls-Exists}
use Rattle.sw_logic.specs.Sorted.{gives_value, same_sort, sorts_match, value_sort, is_atom, sort_of, are_sorts, extended, well_sorted}
use Rattle.sw_logic.proofs.Steps.{sorted-All, sorted-Any}
use Rattle.sw_meaning.specs.declared.protocol.Protocol.{Protocol}
use Rattle.sw_meaning.specs.declared.protocol.Transition.{Transition}
use Rattle.sw_renaming.specs.declared.renaming.Moment.{Moment}
use Rattle.sw_renaming.specs.Renamed.{symbol_at, variable_at, renamed_term, renamed}
use Rattle.sw_lists.proofs.Each.{each-pairs}

-- ---- one layer
number_same : (n : ℕ) → (n == n) ≡ true
number_same n = grind arith

sort_same : (sort : ℕ) (o : Option ℕ) → same_sort (Some sort) o ≡ true → o ≡ Some sort
sort_same sort None e = absurd (false≢true e)
sort_same sort (Some found) e = ap Some (sym (eqb-true sort found e))

-- both terms have a sort, the same one
both_sorted : (o q : Option ℕ) → same_sort o q ≡ true → (sort : ℕ) × (o ≡ Some sort) × (q ≡ Some sort)
both_sorted None q e = absurd (false≢true e)
both_sorted (Some sort) q e = (sort, refl, sort_same sort q e)

sorted_both : (o q : Option ℕ) (sort : ℕ) → o ≡ Some sort → q ≡ Some sort → same_sort o q ≡ true
sorted_both o q sort d e = ap (λ x. same_sort x q) d ∙ (ap (same_sort (Some sort)) e ∙ number_same sort)

value_kept : (o : Option Symbol) (readable : Bool) (found other : List (Option ℕ)) (sort : ℕ)
    → ((s : Symbol) → sorts_match s.args found ≡ true → sorts_match s.args other ≡ true) → value_sort o readable found ≡ Some sort → value_sort o true other ≡ Some sort
value_kept None readable found other sort h e = absurd (none-some sort e)
value_kept (Some s) false found other sort h e = absurd (none-some sort e)
value_kept (Some s) true found other sort h e = elim (cases_Bool (gives_value s.kind && sorts_match s.args found)) [
  | inl yes_sorted ↦
      let parts = and_parts (gives_value s.kind) (sorts_match s.args found) yes_sorted in
      let gives : Some s.gives ≡ Some sort = sym (cond-true (gives_value s.kind && sorts_match s.args found) (Some s.gives) None yes_sorted) ∙ e in
      cond-true (gives_value s.kind && sorts_match s.args other) (Some s.gives) None (and_from (gives_value s.kind) (sorts_match s.args other) parts.0 (h s parts.1)) ∙ gives
  | inr not_sorted ↦ absurd (none-some sort (sym (cond-false (gives_value s.kind && sorts_match s.args found) (Some s.gives) None not_sorted) ∙ e))
]

atom_kept : (o : Option Symbol) (readable : Bool) (found other : List (Option ℕ))
    → ((s : Symbol) → sorts_match s.args found ≡ true → sorts_match s.args other ≡ true) → is_atom o readable found ≡ true → is_atom o true other ≡ true
atom_kept None readable found other h e = absurd (false≢true e)
atom_kept (Some s) false found other h e = absurd (false≢true e)
atom_kept (Some s) true found other h e =
    let parts = and_parts (not (gives_value s.kind)) (sorts_match s.args found) e in
    and_from (not (gives_value s.kind)) (sorts_match s.args other) parts.0 (h s parts.1)

module _ (p : Protocol) (t : Transition) (m : Moment) (sig : Signature) (post : Bool) (first : List ℕ) where
  -- each symbol's stand-in is declared as the symbol is, and the outermost variables have these sorts
  pub record Declares : Type 0 where
    pub sorts : length sig.sorts ≡ length p.signature.sorts
    pub symbols : (symbol : ℕ) (primed : Bool) → slice_get sig.symbols (symbol_at p t m symbol primed) ≡ slice_get p.signature.symbols symbol
    pub variables : (scope : List ℕ) (v : ℕ) → sort_of sig false scope (variable_at p t m v) ≡ slice_get (first ++ scope) v

  module _ (declares : Declares) where
    abbrev before : List ℕ → Term → Option ℕ
    before scope = sort_of p.signature post (first ++ scope)

    abbrev after : List ℕ → Term → Option ℕ
    after scope x = sort_of sig false scope (renamed_term p t m x)

    abbrev KeepsSort : Term → Type 0
    KeepsSort x = (scope : List ℕ) (sort : ℕ) → before scope x ≡ Some sort → after scope x ≡ Some sort

    variable_kept : (v : ℕ) → KeepsSort (Variable v)
    variable_kept v scope sort e =
        let is : renamed_term p t m (Variable v) ≡ variable_at p t m v = search (rules, terms.the_lemmas) in
        let step : before scope (Variable v) ≡ slice_get (first ++ scope) v = search (rules, terms.the_lemmas) in
        ap (sort_of sig false scope) is ∙ declares.variables scope v ∙ (sym step ∙ e)

    args_kept : (xs : List Term) → AllByRecursion KeepsSort xs → (scope ss : List ℕ) → sorts_match ss (map (before scope) xs) ≡ true
        → sorts_match ss (map (sort_of sig false scope) (map (renamed_term p t m) xs)) ≡ true
    args_kept [] h scope [] e = refl
    args_kept [] h scope (s ∷ ss) e = absurd (false≢true e)
    args_kept (x ∷ xs) h scope [] e = absurd (false≢true e)
    args_kept (x ∷ xs) h scope (s ∷ ss) e =
        let parts = and_parts (same_sort (Some s) (before scope x)) (sorts_match ss (map (before scope) xs)) e in
        and_from (same_sort (Some s) (after scope x)) (sorts_match ss (map (sort_of sig false scope) (map (renamed_term p t m) xs)))
        (sorted_both (Some s) (after scope x) s refl (h.0 scope s (sort_same s (before scope x) parts.0))) (args_kept xs h.1 scope ss parts.1)

    apply_kept : (symbol : ℕ) (primed : Bool) (xs : List Term) → AllByRecursion KeepsSort xs → KeepsSort (Apply symbol primed xs)
    apply_kept symbol primed xs h scope sort e =
        let ys = map (renamed_term p t m) xs in
        let c = symbol_at p t m symbol primed in
        let is : renamed_term p t m (Apply symbol primed xs) ≡ Apply c false ys = search (rules, terms.the_lemmas) in
        let here : before scope (Apply symbol primed xs) ≡ value_sort (slice_get p.signature.symbols symbol) (post || not primed) (map (before scope) xs) = search (rules, terms.the_lemmas) in
        let there : sort_of sig false scope (Apply c false ys) ≡ value_sort (slice_get sig.symbols c) true (map (sort_of sig false scope) ys) = search (rules, terms.the_lemmas) in
        ap (sort_of sig false scope) is ∙ there ∙ ap (λ (o : Option Symbol). value_sort o true (map (sort_of sig false scope) ys)) (declares.symbols symbol primed)
        ∙ value_kept (slice_get p.signature.symbols symbol) (post || not primed) (map (before scope) xs) (map (sort_of sig false scope) ys) sort (λ s. args_kept xs h scope s.args) (sym here ∙ e)

    term_layer : (y : Term-F ((x : Term) × KeepsSort x)) → KeepsSort (roll-Term (terms.map-Term ((x : Term) × KeepsSort x) Term (λ e. e.0) y))
    term_layer (Term-F.Variable v) = subst KeepsSort (sym (rolls-Variable v)) (variable_kept v)
    term_layer (Term-F.Apply symbol primed xs) = subst KeepsSort (sym (rolls-Apply symbol primed (map (λ e. e.0) xs))) (apply_kept symbol primed (map (λ e. e.0) xs) (each-pairs KeepsSort xs))

    term_kept : (x : Term) → KeepsSort x
    term_kept = ind-Term KeepsSort (λ x y is. subst (λ z. KeepsSort (roll-Term z)) is (term_layer y))

    each_kept : (xs : List Term) → AllByRecursion KeepsSort xs
    each_kept [] = tt
    each_kept (x ∷ xs) = (term_kept x, each_kept xs)

    abbrev sorted_before : List ℕ → Formula → Bool
    sorted_before scope f = well_sorted p.signature post f (first ++ scope)

    abbrev sorted_after : List ℕ → Formula → Bool
    sorted_after scope f = well_sorted sig false f scope

    abbrev IsKept : Formula → Type 0
    IsKept f = (scope : List ℕ) → sorted_before scope f ≡ true → sorted_after scope (renamed p t m f) ≡ true

    constant_kept : (f : Formula) → renamed p t m f ≡ f → ((scope : List ℕ) → sorted_after scope f ≡ true) → IsKept f
    constant_kept f is h scope e = ap (sorted_after scope) is ∙ h scope

    holds_kept : (symbol : ℕ) (primed : Bool) (xs : List Term) → IsKept (Holds symbol primed xs)
    holds_kept symbol primed xs scope e =
        let ys = map (renamed_term p t m) xs in
        let c = symbol_at p t m symbol primed in
        let is : renamed p t m (Holds symbol primed xs) ≡ Holds c false ys = search (rules, formulas.the_lemmas) in
        let here : sorted_before scope (Holds symbol primed xs) ≡ is_atom (slice_get p.signature.symbols symbol) (post || not primed) (map (before scope) xs) = search (rules, formulas.the_lemmas) in
        let there : sorted_after scope (Holds c false ys) ≡ is_atom (slice_get sig.symbols c) true (map (sort_of sig false scope) ys) = search (rules, formulas.the_lemmas) in
        ap (sorted_after scope) is ∙ there ∙ ap (λ (o : Option Symbol). is_atom o true (map (sort_of sig false scope) ys)) (declares.symbols symbol primed)
        ∙ atom_kept (slice_get p.signature.symbols symbol) (post || not primed) (map (before scope) xs) (map (sort_of sig false scope) ys) (λ s. args_kept xs (each_kept xs) scope s.args) (sym here ∙ e)

    equal_kept : (a b : Term) → IsKept (Equal a b)
    equal_kept a b scope e =
        let c = renamed_term p t m a in
        let d = renamed_term p t m b in
        let is : renamed p t m (Equal a b) ≡ Equal c d = search (rules, formulas.the_lemmas) in
        let here : sorted_before scope (Equal a b) ≡ same_sort (before scope a) (before scope b) = search (rules, formulas.the_lemmas) in
        let there : sorted_after scope (Equal c d) ≡ same_sort (sort_of sig false scope c) (sort_of sig false scope d) = search (rules, formulas.the_lemmas) in
        let same = both_sorted (before scope a) (before scope b) (sym here ∙ e) in
        ap (sorted_after scope) is ∙ there ∙ sorted_both (after scope a) (after scope b) same.0 (term_kept a scope same.0 same.1) (term_kept b scope same.0 same.2)

    not_kept : (f : Formula) → IsKept f → IsKept (Not f)
    not_kept f h scope e =
        let is : renamed p t m (Not f) ≡ Not (renamed p t m f) = search (rules, formulas.the_lemmas) in
        let here : sorted_before scope (Not f) ≡ sorted_before scope f = search (rules, formulas.the_lemmas) in
        let there : sorted_after scope (Not (renamed p t m f)) ≡ sorted_after scope (renamed p t m f) = search (rules, formulas.the_lemmas) in
        ap (sorted_after scope) is ∙ there ∙ h scope (sym here ∙ e)

    list_kept : (fs : List Formula) → AllByRecursion IsKept fs → (scope : List ℕ) → list_all (sorted_before scope) fs ≡ true → list_all (sorted_after scope) (map (renamed p t m) fs) ≡ true
    list_kept [] h scope e = refl
    list_kept (f ∷ fs) h scope e =
        let parts = and_parts (sorted_before scope f) (list_all (sorted_before scope) fs) e in
        and_from (sorted_after scope (renamed p t m f)) (list_all (sorted_after scope) (map (renamed p t m) fs)) (h.0 scope parts.0) (list_kept fs h.1 scope parts.1)

    all_kept : (fs : List Formula) → AllByRecursion IsKept fs → IsKept (All fs)
    all_kept fs h scope e =
        let is : renamed p t m (All fs) ≡ All (map (renamed p t m) fs) = search (rules, formulas.the_lemmas) in
        ap (sorted_after scope) is ∙ sorted-All sig false (map (renamed p t m) fs) scope ∙ list_kept fs h scope (sym (sorted-All p.signature post fs (first ++ scope)) ∙ e)

    any_kept : (fs : List Formula) → AllByRecursion IsKept fs → IsKept (Any fs)
    any_kept fs h scope e =
        let is : renamed p t m (Any fs) ≡ Any (map (renamed p t m) fs) = search (rules, formulas.the_lemmas) in
        ap (sorted_after scope) is ∙ sorted-Any sig false (map (renamed p t m) fs) scope ∙ list_kept fs h scope (sym (sorted-Any p.signature post fs (first ++ scope)) ∙ e)

    two_kept : (f g : Formula) → IsKept f → IsKept g → (scope : List ℕ) → (sorted_before scope f && sorted_before scope g) ≡ true → (sorted_after scope (renamed p t m f) && sorted_after scope (renamed p t m g)) ≡ true
    two_kept f g h k scope e =
        let parts = and_parts (sorted_before scope f) (sorted_before scope g) e in
        and_from (sorted_after scope (renamed p t m f)) (sorted_after scope (renamed p t m g)) (h scope parts.0) (k scope parts.1)

    implies_kept : (f g : Formula) → IsKept f → IsKept g → IsKept (Implies f g)
    implies_kept f g h k scope e =
        let is : renamed p t m (Implies f g) ≡ Implies (renamed p t m f) (renamed p t m g) = search (rules, formulas.the_lemmas) in
        let here : sorted_before scope (Implies f g) ≡ (sorted_before scope f && sorted_before scope g) = search (rules, formulas.the_lemmas) in
        let there : sorted_after scope (Implies (renamed p t m f) (renamed p t m g)) ≡ (sorted_after scope (renamed p t m f) && sorted_after scope (renamed p t m g)) = search (rules, formulas.the_lemmas) in
        ap (sorted_after scope) is ∙ there ∙ two_kept f g h k scope (sym here ∙ e)

    iff_kept : (f g : Formula) → IsKept f → IsKept g → IsKept (Iff f g)
    iff_kept f g h k scope e =
        let is : renamed p t m (Iff f g) ≡ Iff (renamed p t m f) (renamed p t m g) = search (rules, formulas.the_lemmas) in
        let here : sorted_before scope (Iff f g) ≡ (sorted_before scope f && sorted_before scope g) = search (rules, formulas.the_lemmas) in
        let there : sorted_after scope (Iff (renamed p t m f) (renamed p t m g)) ≡ (sorted_after scope (renamed p t m f) && sorted_after scope (renamed p t m g)) = search (rules, formulas.the_lemmas) in
        ap (sorted_after scope) is ∙ there ∙ two_kept f g h k scope (sym here ∙ e)

    -- under binders
    bound_kept : (bs : List Binder) (f : Formula) → IsKept f → (scope : List ℕ) → (are_sorts p.signature bs && well_sorted p.signature post f (extended (first ++ scope) bs)) ≡ true
        → (are_sorts sig bs && well_sorted sig false (renamed p t m f) (extended scope bs)) ≡ true
    bound_kept bs f h scope e =
        let parts = and_parts (are_sorts p.signature bs) (well_sorted p.signature post f (extended (first ++ scope) bs)) e in
        let sorts : are_sorts sig bs ≡ true = ap (λ n. list_all (λ (b : Binder). nat_lt b.sort n) bs) declares.sorts ∙ parts.0 in
        and_from (are_sorts sig bs) (well_sorted sig false (renamed p t m f) (extended scope bs)) sorts
        (h (extended scope bs) (ap (well_sorted p.signature post f) (sym (append_assoc first scope (map (λ (b : Binder). b.sort) bs))) ∙ parts.1))

    for_all_kept : (bs : List Binder) (f : Formula) → IsKept f → IsKept (ForAll bs f)
    for_all_kept bs f h scope e =
        let is : renamed p t m (ForAll bs f) ≡ ForAll bs (renamed p t m f) = search (rules, formulas.the_lemmas) in
        let here : sorted_before scope (ForAll bs f) ≡ (are_sorts p.signature bs && well_sorted p.signature post f (extended (first ++ scope) bs)) = search (rules, formulas.the_lemmas) in
        let there : sorted_after scope (ForAll bs (renamed p t m f)) ≡ (are_sorts sig bs && well_sorted sig false (renamed p t m f) (extended scope bs)) = search (rules, formulas.the_lemmas) in
        ap (sorted_after scope) is ∙ there ∙ bound_kept bs f h scope (sym here ∙ e)

    exists_kept : (bs : List Binder) (f : Formula) → IsKept f → IsKept (Exists bs f)
    exists_kept bs f h scope e =
        let is : renamed p t m (Exists bs f) ≡ Exists bs (renamed p t m f) = search (rules, formulas.the_lemmas) in
        let here : sorted_before scope (Exists bs f) ≡ (are_sorts p.signature bs && well_sorted p.signature post f (extended (first ++ scope) bs)) = search (rules, formulas.the_lemmas) in
        let there : sorted_after scope (Exists bs (renamed p t m f)) ≡ (are_sorts sig bs && well_sorted sig false (renamed p t m f) (extended scope bs)) = search (rules, formulas.the_lemmas) in
        ap (sorted_after scope) is ∙ there ∙ bound_kept bs f h scope (sym here ∙ e)

    formula_layer : (y : Formula-F ((f : Formula) × IsKept f)) → IsKept (roll-Formula (formulas.map-Formula ((f : Formula) × IsKept f) Formula (λ e. e.0) y))
    formula_layer Formula-F.True = subst IsKept (sym rolls-True) (constant_kept True (search (rules, formulas.the_lemmas)) (λ scope. search (rules, formulas.the_lemmas)))
    formula_layer Formula-F.False = subst IsKept (sym rolls-False) (constant_kept False (search (rules, formulas.the_lemmas)) (λ scope. search (rules, formulas.the_lemmas)))
    formula_layer (Formula-F.Holds symbol primed xs) = subst IsKept (sym (rolls-Holds symbol primed xs)) (holds_kept symbol primed xs)
    formula_layer (Formula-F.Equal a b) = subst IsKept (sym (rolls-Equal a b)) (equal_kept a b)
    formula_layer (Formula-F.Not f) = subst IsKept (sym (rolls-Not f.0)) (not_kept f.0 f.1)
    formula_layer (Formula-F.All fs) = subst IsKept (sym (rolls-All (map (λ e. e.0) fs))) (all_kept (map (λ e. e.0) fs) (each-pairs IsKept fs))
    formula_layer (Formula-F.Any fs) = subst IsKept (sym (rolls-Any (map (λ e. e.0) fs))) (any_kept (map (λ e. e.0) fs) (each-pairs IsKept fs))
    formula_layer (Formula-F.Implies f g) = subst IsKept (sym (rolls-Implies f.0 g.0)) (implies_kept f.0 g.0 f.1 g.1)
    formula_layer (Formula-F.Iff f g) = subst IsKept (sym (rolls-Iff f.0 g.0)) (iff_kept f.0 g.0 f.1 g.1)
    formula_layer (Formula-F.ForAll bs f) = subst IsKept (sym (rolls-ForAll bs f.0)) (for_all_kept bs f.0 f.1)
    formula_layer (Formula-F.Exists bs f) = subst IsKept (sym (rolls-Exists bs f.0)) (exists_kept bs f.0 f.1)

    pub renamed_sorted : (f : Formula) → IsKept f
    renamed_sorted = ind-Formula IsKept (λ x y is. subst (λ z. IsKept (roll-Formula z)) is (formula_layer y))
