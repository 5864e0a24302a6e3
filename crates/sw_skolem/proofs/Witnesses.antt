-- Tables of Skolem symbols whose values are witnesses.
use Rattle.std.specs.Prelude.{◌≡◌, ℕ, zero, suc, ◌+◌, ◌<◌, ◌≤◌, Bool, true, false, cond, ◌&&◌, ◌||◌, ◌==◌, List, [], ◌∷◌, ◌++◌, length, map, drop, Option, Some, slice_get, slice_index, unwrap_or}
use Rattle.std.specs.List.{list_any, filter, range_with_len, enumerate_from}
use Rattle.std.proofs.Common.{arith, refl, sym, ap, ◌∙◌, inl, inr}
use Rattle.std.proofs.lemmas.Bool.{and_from, or_left, or_right, cond_both, cond-true, cond-false, false≢true, cases_Bool, cases_eq}
use Rattle.std.proofs.lemmas.List.{append_assoc, length-append}
use Rattle.std.proofs.lemmas.Option.{none-some, same_Some, slice_get-get_or}
use Rattle.sw_logic.specs.declared.syntax.Symbol.{Symbol}
use Rattle.sw_logic.specs.declared.syntax.Signature.{Signature}
use Rattle.sw_logic.specs.declared.syntax.Binder.{Binder}
use Rattle.sw_logic.specs.declared.syntax.Term.{Term}
use Rattle.sw_logic.specs.declared.syntax.Term.TheVariants.{Variable, Apply}
use Rattle.sw_logic.specs.declared.structure.Table.{Table}
use Rattle.sw_logic.specs.declared.structure.Table.TheVariants.{Value, Values}
use Rattle.sw_logic.specs.Truth.{World, size_of, args_or_none, args_of, place_from, value_in, value_of, values_of, exists, AreValues}
use Rattle.sw_logic.specs.Sorted.{gives_value}
use Rattle.sw_logic.specs.Fits.{table_fits, tables_fit}
use Rattle.sw_logic.proofs.Ranges.{exists-some}
use Rattle.sw_logic.specs.Terms.{has}
use Rattle.sw_truth.specs.Models.{AreOfSorts}
use Rattle.sw_skolem.specs.Skolem.{kind_by, skolem_symbol, skolem_terms, universals}
use Rattle.sw_truth.specs.Sorting.{HasSort, HaveSorts}
use Rattle.sw_truth.proofs.Tables.{tabulated, tabulated_length, tabulated_below, tabulated_at}
use Rattle.sw_truth.proofs.Growing.{value_of-Variable, value_of-Apply}
use Rattle.sw_truth.proofs.Inhabited.{AreSized, AreBelow}
use Rattle.std.proofs.lemmas.Bool.{lt-ltb, eqb-true, eq-eqb}

-- some values at which a part is true, if there are any
pick : (b : Bool) → (b ≡ true → List ℕ) → List ℕ → List ℕ
pick true f z = f refl
pick false f z = z

pick_both : (b : Bool) (f : b ≡ true → List ℕ) (z : List ℕ) (P : List ℕ → Type 0) → ((e : b ≡ true) → P (f e)) → P z → P (pick b f z)
unfolding pick
pick_both true f z P h k = h refl
pick_both false f z P h k = k

pick_true : (b : Bool) (f : b ≡ true → List ℕ) (z : List ℕ) (P : List ℕ → Type 0) → ((e : b ≡ true) → P (f e)) → b ≡ true → P (pick b f z)
unfolding pick
pick_true true f z P h e = h refl
pick_true false f z P h e = absurd (false≢true e)

pub witness : List ℕ → List Binder → (List ℕ → Bool) → List ℕ → List ℕ
witness sizes bs p env = pick (exists sizes bs p env) (λ e. (exists-some sizes bs p env e).0) (map (λ (b : Binder). 0) bs)

zeros : (sizes : List ℕ) (bs : List Binder) → AreSized sizes bs → AreValues sizes bs (map (λ (b : Binder). 0) bs)
zeros sizes [] h = tt
zeros sizes (b ∷ bs) h = (h.0, zeros sizes bs h.1)

pub witness_values : (sizes : List ℕ) (bs : List Binder) (p : List ℕ → Bool) (env : List ℕ) → AreSized sizes bs → AreValues sizes bs (witness sizes bs p env)
unfolding witness
witness_values sizes bs p env h =
    pick_both (exists sizes bs p env) (λ e. (exists-some sizes bs p env e).0) (map (λ (b : Binder). 0) bs) (AreValues sizes bs) (λ e. (exists-some sizes bs p env e).1) (zeros sizes bs h)

pub witness_true : (sizes : List ℕ) (bs : List Binder) (p : List ℕ → Bool) (env : List ℕ) → exists sizes bs p env ≡ true → p (env ++ witness sizes bs p env) ≡ true
unfolding witness
witness_true sizes bs p env e =
    pick_true (exists sizes bs p env) (λ e. (exists-some sizes bs p env e).0) (map (λ (b : Binder). 0) bs) (λ vs. p (env ++ vs) ≡ true) (λ e. (exists-some sizes bs p env e).2) e

-- the table of a Skolem symbol
abbrev pub table_by : List ℕ → List ℕ → List ℕ → (List ℕ → ℕ) → Table
table_by [] sizes args g = Value (g [])
table_by (u ∷ us) sizes args g = Values (tabulated sizes args g)

abbrev pub new_tables : List ℕ → List ℕ → List ℕ → List Binder → (List ℕ → List ℕ) → List Table
new_tables us sizes args [] f = []
new_tables us sizes args (b ∷ bs) f = table_by us sizes args (λ vs. slice_index (f vs) 0) ∷ new_tables us sizes args bs (λ vs. drop 1 (f vs))

abbrev pub sorts_at : List ℕ → List ℕ → List ℕ
sorts_at sorts us = map (slice_index sorts) us

table_by_fits : (us sizes sorts : List ℕ) (g : List ℕ → ℕ) (gives : ℕ) → ((vs : List ℕ) → g vs < size_of sizes gives)
    → table_fits sizes (sorts_at sorts us) gives (kind_by us) (table_by us sizes (sorts_at sorts us) g) ≡ true
table_by_fits [] sizes sorts g gives h = lt-ltb (g []) (size_of sizes gives) (h [])
table_by_fits (u ∷ us) sizes sorts g gives h =
    and_from _ _ (eq-eqb _ _ (tabulated_length sizes (sorts_at sorts (u ∷ us)) g)) (tabulated_below sizes (sorts_at sorts (u ∷ us)) g (size_of sizes gives) h)

table_by_value : (us sizes sorts : List ℕ) (g : List ℕ → ℕ) (vs : List ℕ) → AreOfSorts sizes (sorts_at sorts us) vs
    → value_in (Some (table_by us sizes (sorts_at sorts us) g)) (place_from sizes 0 (sorts_at sorts us) vs) ≡ g vs
table_by_value [] sizes sorts g [] h = refl
table_by_value [] sizes sorts g (v ∷ vs) h = absurd h
table_by_value (u ∷ us) sizes sorts g vs h = ap (λ o. unwrap_or o 0) (tabulated_at sizes (sorts_at sorts (u ∷ us)) g vs h)

values_head : (sizes : List ℕ) (b : Binder) (bs : List Binder) (vs : List ℕ) → AreValues sizes (b ∷ bs) vs → slice_index vs 0 < size_of sizes b.sort
values_head sizes b bs [] h = absurd h
values_head sizes b bs (v ∷ vs) h = h.0

values_tail : (sizes : List ℕ) (b : Binder) (bs : List Binder) (vs : List ℕ) → AreValues sizes (b ∷ bs) vs → AreValues sizes bs (drop 1 vs)
values_tail sizes b bs [] h = absurd h
values_tail sizes b bs (v ∷ vs) h = h.1

values_whole : (sizes : List ℕ) (b : Binder) (bs : List Binder) (vs : List ℕ) → AreValues sizes (b ∷ bs) vs → slice_index vs 0 ∷ drop 1 vs ≡ vs
values_whole sizes b bs [] h = absurd h
values_whole sizes b bs (v ∷ vs) h = refl

values_none : (sizes vs : List ℕ) → AreValues sizes [] vs → [] ≡ vs
values_none sizes [] h = refl
values_none sizes (v ∷ vs) h = absurd h

pub new_tables_fit : (us sizes sorts : List ℕ) (bs : List Binder) (f : List ℕ → List ℕ) → ((vs : List ℕ) → AreValues sizes bs (f vs))
    → tables_fit sizes (map (skolem_symbol sorts us) bs) (new_tables us sizes (sorts_at sorts us) bs f) ≡ true
new_tables_fit us sizes sorts [] f h = refl
new_tables_fit us sizes sorts (b ∷ bs) f h =
    and_from _ _ (table_by_fits us sizes sorts (λ vs. slice_index (f vs) 0) b.sort (λ vs. values_head sizes b bs (f vs) (h vs)))
    (new_tables_fit us sizes sorts bs (λ vs. drop 1 (f vs)) (λ vs. values_tail sizes b bs (f vs) (h vs)))

slice_get-seam : {X : Type 0} (xs : List X) (y : X) (ys : List X) (n : ℕ) → length xs ≡ n → slice_get (xs ++ y ∷ ys) n ≡ Some y
slice_get-seam [] y ys zero e = refl
slice_get-seam [] y ys (suc n) e = absurd (omega arith)
slice_get-seam (x ∷ xs) y ys zero e = absurd (omega arith)
slice_get-seam (x ∷ xs) y ys (suc n) e = slice_get-seam xs y ys n (omega arith)

pub variables_values : (w : World) (vs us : List ℕ) → values_of w vs (map Variable us) ≡ map (slice_index vs) us
variables_values w vs [] = refl
variables_values w vs (u ∷ us) = cc (value_of-Variable w vs u, variables_values w vs us)

one_longer : {X : Type 0} (xs : List X) (x : X) (n : ℕ) → length xs ≡ n → length (xs ++ x ∷ []) ≡ n + 1
one_longer xs x n e = simp length-append (omega arith)

-- the values of the new terms are those of the function
pub new_values : (w : World) (us sorts vs : List ℕ) (bs : List Binder) (f : List ℕ → List ℕ) (front : List Table) (sfront : List Symbol) (from : ℕ)
    → w.before.tables ≡ front ++ new_tables us w.before.sizes (sorts_at sorts us) bs f → w.signature.symbols ≡ sfront ++ map (skolem_symbol sorts us) bs
    → length front ≡ from → length sfront ≡ from → AreOfSorts w.before.sizes (sorts_at sorts us) (map (slice_index vs) us)
    → AreValues w.before.sizes bs (f (map (slice_index vs) us))
    → values_of w vs (skolem_terms us from (length bs)) ≡ f (map (slice_index vs) us)
new_values w us sorts vs [] f front sfront from e g l m ok h = values_none w.before.sizes (f (map (slice_index vs) us)) h
new_values w us sorts vs (b ∷ bs) f front sfront from e g l m ok h =
    let sizes = w.before.sizes in
    let args = sorts_at sorts us in
    let given = map (slice_index vs) us in
    let table = table_by us sizes args (λ xs. slice_index (f xs) 0) in
    let tables = new_tables us sizes args bs (λ xs. drop 1 (f xs)) in
    let symbol = skolem_symbol sorts us b in
    let symbols = map (skolem_symbol sorts us) bs in
    let got : slice_get w.before.tables from ≡ Some table = ap (λ (ts : List Table). slice_get ts from) e ∙ slice_get-seam front table tables from l in
    let sorted : args_of w.signature from ≡ args = ap (λ (ss : List Symbol). args_or_none (slice_get ss from)) g ∙ ap args_or_none (slice_get-seam sfront symbol symbols from m) in
    let first : value_of w vs (Apply from false (map Variable us)) ≡ slice_index (f given) 0 =
    value_of-Apply w vs from (map Variable us)
    ∙ (ap (λ (o : Option Table). value_in o (place_from sizes 0 (args_of w.signature from) (values_of w vs (map Variable us)))) got
    ∙ (ap (λ ss. value_in (Some table) (place_from sizes 0 ss (values_of w vs (map Variable us)))) sorted
    ∙ (ap (λ xs. value_in (Some table) (place_from sizes 0 args xs)) (variables_values w vs us)
    ∙ table_by_value us sizes sorts (λ xs. slice_index (f xs) 0) given ok))) in
    let rest : values_of w vs (skolem_terms us (from + 1) (length bs)) ≡ drop 1 (f given) =
    new_values w us sorts vs bs (λ xs. drop 1 (f xs)) (front ++ table ∷ []) (sfront ++ symbol ∷ []) (from + 1)
    (e ∙ sym (append_assoc front (table ∷ []) tables)) (g ∙ sym (append_assoc sfront (symbol ∷ []) symbols))
    (one_longer front table from l) (one_longer sfront symbol from m) ok (values_tail sizes b bs (f given) h) in
    cc (first, rest) ∙ values_whole sizes b bs (f given) h

variables_sorts : (sig : Signature) (sorts us : List ℕ) → AreBelow (length sorts) us → HaveSorts sig sorts (map Variable us) (sorts_at sorts us)
variables_sorts sig sorts [] h = HaveSorts.none
variables_sorts sig sorts (u ∷ us) h =
    HaveSorts.more (Variable u) (map Variable us) (slice_index sorts u) (sorts_at sorts us) (HasSort.variable u (slice_index sorts u) (slice_get-get_or sorts u 0 h.0)) (variables_sorts sig sorts us h.1)

kind_gives : (us : List ℕ) → gives_value (kind_by us) ≡ true
kind_gives [] = refl
kind_gives (u ∷ us) = refl

pub new_sorts : (sig : Signature) (us sorts : List ℕ) (bs : List Binder) (sfront sback : List Symbol) (from : ℕ) → sig.symbols ≡ sfront ++ (map (skolem_symbol sorts us) bs ++ sback)
    → length sfront ≡ from → AreBelow (length sorts) us → HaveSorts sig sorts (skolem_terms us from (length bs)) (map (λ (b : Binder). b.sort) bs)
new_sorts sig us sorts [] sfront sback from e l h = HaveSorts.none
new_sorts sig us sorts (b ∷ bs) sfront sback from e l h =
    let symbol = skolem_symbol sorts us b in
    let symbols = map (skolem_symbol sorts us) bs ++ sback in
    let got : slice_get sig.symbols from ≡ Some symbol = ap (λ (ss : List Symbol). slice_get ss from) e ∙ slice_get-seam sfront symbol symbols from l in
    HaveSorts.more (Apply from false (map Variable us)) (skolem_terms us (from + 1) (length bs)) b.sort (map (λ (b : Binder). b.sort) bs)
    (HasSort.apply from symbol (map Variable us) got (kind_gives us) (variables_sorts sig sorts us h))
    (new_sorts sig us sorts bs (sfront ++ symbol ∷ []) sback (from + 1) (e ∙ sym (append_assoc sfront (symbol ∷ []) symbols)) (one_longer sfront symbol from l) h)

-- the universal variables on which an existential quantifier depends
pub filter_below : (test : ℕ → Bool) (from n m : ℕ) → from + n ≤ m → AreBelow m (filter test (range_with_len from n))
filter_below test from zero m h = tt
filter_below test from (suc n) m h =
    let rest = filter_below test (from + 1) n m (omega arith) in
    cond_both (test from) (from ∷ filter test (range_with_len (from + 1) n)) (filter test (range_with_len (from + 1) n)) (AreBelow m) (λ e. (omega arith, rest)) (λ e. rest)

pub universals_below : (occurs : ℕ → Bool) (terms : List Term) (n : ℕ) → AreBelow n (universals occurs terms n)
universals_below occurs terms n = filter_below (λ u. list_any (λ t. occurs t.0 && has u t.1) (enumerate_from 0 terms)) 0 n n (omega arith)

filter_has : (test : ℕ → Bool) (from n u : ℕ) → from ≤ u → u < from + n → test u ≡ true → list_any (λ x. x == u) (filter test (range_with_len from n)) ≡ true
filter_has test from zero u h k e = absurd (omega arith)
filter_has test from (suc n) u h k e =
    elim (cases_eq from u) [
      | inl same ↦
          let here : test from ≡ true = ap test same ∙ e in
          rw (cond-true (test from) (from ∷ filter test (range_with_len (from + 1) n)) (filter test (range_with_len (from + 1) n)) here)
          (or_left (from == u) _ (eq-eqb from u same))
      | inr other ↦
          let rest = filter_has test (from + 1) n u (omega arith) (omega arith) e in
          cond_both (test from) (from ∷ filter test (range_with_len (from + 1) n)) (filter test (range_with_len (from + 1) n)) (λ xs. list_any (λ x. x == u) xs ≡ true)
          (λ e. or_right (from == u) _ rest) (λ e. rest)
    ]

enumerated : (p : (ℕ × Term) → Bool) (from : ℕ) (terms : List Term) (x : ℕ) (t : Term) → slice_get terms x ≡ Some t → p (from + x, t) ≡ true → list_any p (enumerate_from from terms) ≡ true
enumerated p from [] x t e h = absurd (none-some t e)
enumerated p from (y ∷ terms) zero t e h =
    let zeroth : from + 0 ≡ from = omega arith in
    or_left (p (from, y)) _ (ap p (cc (zeroth, same_Some y t e)) ∙ h)
enumerated p from (y ∷ terms) (suc x) t e h =
    let next : from + 1 + x ≡ from + suc x = omega arith in
    or_right (p (from, y)) _ (enumerated p (from + 1) terms x t e (ap (λ n. p (n, t)) next ∙ h))

pub universals_have : (occurs : ℕ → Bool) (terms : List Term) (n x u : ℕ) (t : Term) → slice_get terms x ≡ Some t → occurs x ≡ true → has u t ≡ true → u < n
    → list_any (λ y. y == u) (universals occurs terms n) ≡ true
universals_have occurs terms n x u t e o h below =
    let zeroth : 0 + x ≡ x = omega arith in
    filter_has (λ u. list_any (λ t. occurs t.0 && has u t.1) (enumerate_from 0 terms)) 0 n u (omega arith) (omega arith)
    (enumerated (λ t. occurs t.0 && has u t.1) 0 terms x t e (and_from _ _ (ap occurs zeroth ∙ o) h))

-- values of some variables spread over all places
abbrev pub lookup : List ℕ → List ℕ → ℕ → ℕ
lookup [] as' u = 0
lookup (x ∷ us) [] u = 0
lookup (x ∷ us) (a ∷ as') u = cond (x == u) a (lookup us as' u)

lookup_at : (us : List ℕ) (g : ℕ → ℕ) (u : ℕ) → list_any (λ x. x == u) us ≡ true → lookup us (map g us) u ≡ g u
lookup_at [] g u e = absurd (false≢true e)
lookup_at (x ∷ us) g u e =
    elim (cases_Bool (x == u)) [
      | inl here ↦ cond-true (x == u) (g x) (lookup us (map g us) u) here ∙ ap g (eqb-true x u here)
      | inr past ↦ cond-false (x == u) (g x) (lookup us (map g us) u) past ∙ lookup_at us g u (ap (λ b. b || list_any (λ y. y == u) us) (sym past) ∙ e)
    ]

abbrev pub spread : ℕ → List ℕ → List ℕ → List ℕ
spread n us values = map (lookup us values) (range_with_len 0 n)

map_range : (h : ℕ → ℕ) (from n k : ℕ) → k < n → slice_index (map h (range_with_len from n)) k ≡ h (from + k)
map_range h from zero k below = absurd (omega arith)
map_range h from (suc n) zero below = let e : from ≡ from + 0 = omega arith in ap h e
map_range h from (suc n) (suc k) below = let e : from + 1 + k ≡ from + suc k = omega arith in map_range h (from + 1) n k (omega arith) ∙ ap h e

pub spread_at : (n : ℕ) (us : List ℕ) (vs : List ℕ) (u : ℕ) → u < n → list_any (λ x. x == u) us ≡ true → slice_index (spread n us (map (slice_index vs) us)) u ≡ slice_index vs u
spread_at n us vs u below e =
    let zeroth : 0 + u ≡ u = omega arith in
    map_range (lookup us (map (slice_index vs) us)) 0 n u below ∙ (ap (lookup us (map (slice_index vs) us)) zeroth ∙ lookup_at us (slice_index vs) u e)
