-- Terms where further variables come into scope.
use Rattle.std.specs.Prelude.{◌≡◌, ℕ, zero, suc, ◌+◌, ◌<◌, true, ◌==◌, List, [], ◌∷◌, ◌++◌, length, map, Some, slice_get, slice_index}
use Rattle.std.specs.List.{list_any}
use Rattle.std.proofs.Common.{arith, refl, sym, ap, subst, ◌∙◌, inl, inr}
use Rattle.std.proofs.lemmas.Bool.{and_parts, or_cases, false≢true}
use Rattle.std.proofs.lemmas.Bool.Decides.{nat_tests}
use Rattle.std.proofs.lemmas.List.{append_assoc, length-append, get_or_append_left}
use Rattle.std.proofs.lemmas.Option.{slice_get_within}
use Rattle.sw_logic.specs.declared.syntax.Symbol.{Symbol}
use Rattle.sw_logic.specs.declared.syntax.Signature.{Signature}
use Rattle.sw_logic.specs.declared.syntax.Binder.{Binder}
use Rattle.sw_logic.specs.declared.syntax.Term.{Term}
use Rattle.sw_logic.specs.declared.syntax.Term.TheVariants.{Variable}
use Rattle.sw_logic.specs.declared.structure.Table.{Table}
use Rattle.sw_logic.specs.Truth.{World, value_of, values_of, AreValues}
use Rattle.sw_logic.specs.Fits.{table_fits, tables_fit}
use Rattle.sw_logic.specs.Terms.{has, variables}
use Rattle.sw_truth.specs.Models.{AreOfSorts}
use Rattle.sw_truth.specs.Sorting.{HasSort, HaveSorts}
use Rattle.sw_truth.proofs.Growing.{value_of-Variable}
use Rattle.sw_truth.proofs.Ranging.{values_agree, has-Variable, has-Apply}
use Rattle.std.proofs.lemmas.Bool.{eqb-true}
use Rattle.sw_lists.proofs.Places.{get_append_left}

abbrev pub sorts_of : List Binder → List ℕ
sorts_of bs = map (λ (b : Binder). b.sort) bs

-- more variables at the end of the scope
module _ (sig : Signature) (sorts more : List ℕ) where
  mutual
    pub sort_wider : (t : Term) (sort : ℕ) → HasSort sig sorts t sort → HasSort sig (sorts ++ more) t sort
    sort_wider t sort (HasSort.variable v s e) = HasSort.variable v s (get_append_left sorts more v s e)
    sort_wider t sort (HasSort.apply k s args e g h) = HasSort.apply k s args e g (sorts_wider args s.args h)

    pub sorts_wider : (ts : List Term) (ss : List ℕ) → HaveSorts sig sorts ts ss → HaveSorts sig (sorts ++ more) ts ss
    sorts_wider ts ss HaveSorts.none = HaveSorts.none
    sorts_wider ts ss (HaveSorts.more t us sort rest h hs) = HaveSorts.more t us sort rest (sort_wider t sort h) (sorts_wider us rest hs)

pub have-append : (sig : Signature) (sorts : List ℕ) (ts us : List Term) (ss rs : List ℕ) → HaveSorts sig sorts ts ss → HaveSorts sig sorts us rs → HaveSorts sig sorts (ts ++ us) (ss ++ rs)
have-append sig sorts ts us ss rs HaveSorts.none h = h
have-append sig sorts ts us ss rs (HaveSorts.more t xs sort rest g gs) h = HaveSorts.more t (xs ++ us) sort (rest ++ rs) g (have-append sig sorts xs us rest rs gs h)

-- a variable that occurs is in scope
module _ (sig : Signature) (sorts : List ℕ) (x : ℕ) where
  mutual
    pub has_below : (t : Term) (sort : ℕ) → HasSort sig sorts t sort → has x t ≡ true → x < length sorts
    has_below t sort (HasSort.variable v s e) o =
        let same : v ≡ x = eqb-true v x (sym (has-Variable x v) ∙ o) in
        let within = slice_get_within sorts v s e in
        omega arith
    has_below t sort (HasSort.apply k s args e g h) o = some_below args s.args h (sym (has-Apply x k args) ∙ o)

    pub some_below : (ts : List Term) (ss : List ℕ) → HaveSorts sig sorts ts ss → list_any (has x) ts ≡ true → x < length sorts
    some_below ts ss HaveSorts.none o = absurd (false≢true o)
    some_below ts ss (HaveSorts.more t us sort rest h hs) o =
        elim (or_cases (has x t) (list_any (has x) us) o) [ inl p ↦ has_below t sort h p | inr p ↦ some_below us rest hs p ]

-- further values at the end
pub of_sorts_length : (sizes sorts vs : List ℕ) → AreOfSorts sizes sorts vs → length sorts ≡ length vs
of_sorts_length sizes [] [] h = refl
of_sorts_length sizes [] (v ∷ vs) h = absurd h
of_sorts_length sizes (s ∷ sorts) [] h = absurd h
of_sorts_length sizes (s ∷ sorts) (v ∷ vs) h = ap suc (of_sorts_length sizes sorts vs h.1)

pub of_sorts-append : (sizes sorts more vs ws : List ℕ) → AreOfSorts sizes sorts vs → AreOfSorts sizes more ws → AreOfSorts sizes (sorts ++ more) (vs ++ ws)
of_sorts-append sizes [] more [] ws h g = g
of_sorts-append sizes [] more (v ∷ vs) ws h g = absurd h
of_sorts-append sizes (s ∷ sorts) more [] ws h g = absurd h
of_sorts-append sizes (s ∷ sorts) more (v ∷ vs) ws h g = (h.0, of_sorts-append sizes sorts more vs ws h.1 g)

pub values_of_sorts : (sizes : List ℕ) (bs : List Binder) (vs : List ℕ) → AreValues sizes bs vs → AreOfSorts sizes (sorts_of bs) vs
values_of_sorts sizes [] [] h = tt
values_of_sorts sizes [] (v ∷ vs) h = absurd h
values_of_sorts sizes (b ∷ bs) [] h = absurd h
values_of_sorts sizes (b ∷ bs) (v ∷ vs) h = (h.0, values_of_sorts sizes bs vs h.1)

pub sorts_values : (sizes : List ℕ) (bs : List Binder) (vs : List ℕ) → AreOfSorts sizes (sorts_of bs) vs → AreValues sizes bs vs
sorts_values sizes [] [] h = tt
sorts_values sizes [] (v ∷ vs) h = absurd h
sorts_values sizes (b ∷ bs) [] h = absurd h
sorts_values sizes (b ∷ bs) (v ∷ vs) h = (h.0, sorts_values sizes bs vs h.1)

front_index : (vs ws : List ℕ) (x : ℕ) → x < length vs → slice_index (vs ++ ws) x ≡ slice_index vs x
front_index vs ws x h = get_or_append_left vs ws 0 x h

pub values_front : (w : World) (sig : Signature) (sizes sorts vs ws : List ℕ) (ts : List Term) (ss : List ℕ) → HaveSorts sig sorts ts ss → AreOfSorts sizes sorts vs
    → values_of w (vs ++ ws) ts ≡ values_of w vs ts
values_front w sig sizes sorts vs ws ts ss h ok =
    let count = of_sorts_length sizes sorts vs ok in
    values_agree w sig sorts (vs ++ ws) vs ts ss h (λ x o. let below = some_below sig sorts x ts ss h o in front_index vs ws x (omega arith))

-- the variables that come into scope
slice_index-behind : (vs : List ℕ) (w : ℕ) (ws : List ℕ) → slice_index (vs ++ w ∷ ws) (length vs) ≡ w
slice_index-behind [] w ws = refl
slice_index-behind (v ∷ vs) w ws = slice_index-behind vs w ws

pub variables_new : (w : World) (vs ws : List ℕ) (n k : ℕ) → length vs ≡ n → length ws ≡ k → values_of w (vs ++ ws) (variables n k) ≡ ws
variables_new w vs [] n zero e f = refl
variables_new w vs [] n (suc k) e f = absurd (omega arith)
variables_new w vs (x ∷ ws) n zero e f = absurd (omega arith)
variables_new w vs (x ∷ ws) n (suc k) e f =
    let first : value_of w (vs ++ x ∷ ws) (Variable n) ≡ x = value_of-Variable w (vs ++ x ∷ ws) n ∙ (ap (slice_index (vs ++ x ∷ ws)) (sym e) ∙ slice_index-behind vs x ws) in
    let longer : length (vs ++ x ∷ []) ≡ n + 1 = simp length-append (omega arith) in
    let rest = variables_new w (vs ++ x ∷ []) ws (n + 1) k longer (omega arith) in
    let there : values_of w (vs ++ x ∷ ws) (variables (n + 1) k) ≡ ws = ap (λ env. values_of w env (variables (n + 1) k)) (sym (append_assoc vs (x ∷ []) ws)) ∙ rest in
    cc (first, there)

slice_get-last : (vs : List ℕ) (w : ℕ) (ws : List ℕ) (n : ℕ) → length vs ≡ n → slice_get (vs ++ w ∷ ws) n ≡ Some w
slice_get-last [] w ws zero e = refl
slice_get-last [] w ws (suc n) e = absurd (omega arith)
slice_get-last (v ∷ vs) w ws zero e = absurd (omega arith)
slice_get-last (v ∷ vs) w ws (suc n) e = slice_get-last vs w ws n (omega arith)

pub variables_sorted : (sig : Signature) (sorts more : List ℕ) (n k : ℕ) → length sorts ≡ n → length more ≡ k → HaveSorts sig (sorts ++ more) (variables n k) more
variables_sorted sig sorts [] n zero e f = HaveSorts.none
variables_sorted sig sorts [] n (suc k) e f = absurd (omega arith)
variables_sorted sig sorts (x ∷ more) n zero e f = absurd (omega arith)
variables_sorted sig sorts (x ∷ more) n (suc k) e f =
    let longer : length (sorts ++ x ∷ []) ≡ n + 1 = simp length-append (omega arith) in
    let rest = variables_sorted sig (sorts ++ x ∷ []) more (n + 1) k longer (omega arith) in
    HaveSorts.more (Variable n) (variables (n + 1) k) x more (HasSort.variable n x (slice_get-last sorts x more n e))
    (subst (λ (ss : List ℕ). HaveSorts sig ss (variables (n + 1) k) more) (append_assoc sorts (x ∷ []) more) rest)

pub tables_length : (sizes : List ℕ) (symbols : List Symbol) (tables : List Table) → tables_fit sizes symbols tables ≡ true → length tables ≡ length symbols
tables_length sizes [] [] e = refl
tables_length sizes [] (t ∷ tables) e = absurd (false≢true e)
tables_length sizes (s ∷ symbols) [] e = absurd (false≢true e)
tables_length sizes (s ∷ symbols) (t ∷ tables) e =
    let rest = tables_length sizes symbols tables (and_parts (table_fits sizes s.args s.gives s.kind t) (tables_fit sizes symbols tables) e).1 in
    ap suc rest
