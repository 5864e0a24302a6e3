-- Values of terms are in range, and depend on the variables that occur.
use Rattle.std.specs.Prelude.{◌≡◌, ℕ, zero, suc, ◌<◌, Bool, true, false, ◌==◌, List, [], ◌∷◌, map, Option, Some, slice_get, slice_index}
use Rattle.std.specs.List.{list_any}
use Rattle.std.proofs.Common.{rules, refl, sym, ap, subst, ◌∙◌}
use Rattle.std.proofs.lemmas.Bool.{or_left, or_right}
use Rattle.std.proofs.lemmas.Option.{none-some, same_Some}
use Rattle.sw_logic.specs.declared.syntax.Signature.{Signature}
use Rattle.sw_logic.specs.declared.syntax.Term.{Term, the_lemmas}
use Rattle.sw_logic.specs.declared.syntax.Term.TheVariants.{Variable, Apply}
use Rattle.sw_logic.specs.declared.structure.Table.{Table}
use Rattle.sw_logic.specs.Truth.{World, size_of, args_or_none, args_of, place_from, value_in, value_of, values_of}
use Rattle.sw_logic.specs.Terms.{has}
use Rattle.sw_truth.specs.Models.{AreOfSorts}
use Rattle.sw_truth.specs.Sorting.{HasSort, HaveSorts}
use Rattle.sw_truth.proofs.Tables.{has_table, table_in_range}
use Rattle.sw_truth.proofs.Growing.{Stage, at, stage_tables, value_of-Variable, value_of-Apply}
use Rattle.std.proofs.lemmas.Bool.{eq-eqb}
use Rattle.sw_lists.proofs.Tests.{list_any-map}

pub of_sort_at : (sizes sorts env : List ℕ) (v sort : ℕ) → AreOfSorts sizes sorts env → slice_get sorts v ≡ Some sort → slice_index env v < size_of sizes sort
of_sort_at sizes [] env v sort h e = absurd (none-some sort e)
of_sort_at sizes (s ∷ sorts) [] v sort h e = absurd h
of_sort_at sizes (s ∷ sorts) (x ∷ env) zero sort h e = subst (λ r. x < size_of sizes r) (same_Some s sort e) h.0
of_sort_at sizes (s ∷ sorts) (x ∷ env) (suc v) sort h e = of_sort_at sizes sorts env v sort h.1 e

module _ (a : Stage) (sorts env : List ℕ) (ok : AreOfSorts a.structure.sizes sorts env) where
  mutual
    pub value_below : (t : Term) (sort : ℕ) → HasSort a.signature sorts t sort → value_of (at a) env t < size_of a.structure.sizes sort
    value_below t sort (HasSort.variable v s e) = rw value_of-Variable (of_sort_at a.structure.sizes sorts env v s ok e)
    value_below t sort (HasSort.apply k s args e gives h) =
        let there = has_table a.structure.sizes a.signature.symbols a.structure.tables k s (stage_tables a) e in
        let below = table_in_range a.structure.sizes s there.table (values_of (at a) env args) gives there.fits (values_below args s.args h) in
        let sorts_are : args_of a.signature k ≡ s.args = ap args_or_none e in
        let is : value_of (at a) env (Apply k false args) ≡ value_in (Some there.table) (place_from a.structure.sizes 0 s.args (values_of (at a) env args)) =
        value_of-Apply (at a) env k args ∙ (ap (λ (o : Option Table). value_in o (place_from a.structure.sizes 0 (args_of a.signature k) (values_of (at a) env args))) there.is
        ∙ ap (λ ss. value_in (Some there.table) (place_from a.structure.sizes 0 ss (values_of (at a) env args))) sorts_are) in
        rw is below

    pub values_below : (ts : List Term) (ss : List ℕ) → HaveSorts a.signature sorts ts ss → AreOfSorts a.structure.sizes ss (values_of (at a) env ts)
    values_below ts ss HaveSorts.none = tt
    values_below ts ss (HaveSorts.more t us sort rest h hs) = (value_below t sort h, values_below us rest hs)

pub has-Variable : (x v : ℕ) → has x (Variable v) ≡ (v == x)
has-Variable x v = search (rules, the_lemmas)

pub has-args : (x k : ℕ) (post : Bool) (args : List Term) → has x (Apply k post args) ≡ list_any (has x) args
has-args x k post args =
    let step : has x (Apply k post args) ≡ list_any (λ (b : Bool). b) (map (has x) args) = search (rules, the_lemmas) in
    step ∙ list_any-map (λ (b : Bool). b) (has x) args

pub has-Apply : (x k : ℕ) (args : List Term) → has x (Apply k false args) ≡ list_any (has x) args
has-Apply x k args = has-args x k false args

module _ (w : World) (sig : Signature) (sorts env other : List ℕ) where
  mutual
    pub value_agrees : (t : Term) (sort : ℕ) → HasSort sig sorts t sort → ((x : ℕ) → has x t ≡ true → slice_index env x ≡ slice_index other x) → value_of w env t ≡ value_of w other t
    value_agrees t sort (HasSort.variable v s e) same =
        value_of-Variable w env v ∙ (same v (has-Variable v v ∙ eq-eqb v v refl) ∙ sym (value_of-Variable w other v))
    value_agrees t sort (HasSort.apply k s args e gives h) same =
        value_of-Apply w env k args
        ∙ (ap (λ vs. value_in (slice_get w.before.tables k) (place_from w.before.sizes 0 (args_of w.signature k) vs)) (values_agree args s.args h (λ x o. same x (has-Apply x k args ∙ o)))
        ∙ sym (value_of-Apply w other k args))

    pub values_agree : (ts : List Term) (ss : List ℕ) → HaveSorts sig sorts ts ss → ((x : ℕ) → list_any (has x) ts ≡ true → slice_index env x ≡ slice_index other x)
        → values_of w env ts ≡ values_of w other ts
    values_agree ts ss HaveSorts.none same = refl
    values_agree ts ss (HaveSorts.more t us sort rest h hs) same =
        cc (value_agrees t sort h (λ x o. same x (or_left (has x t) (list_any (has x) us) o)), values_agree us rest hs (λ x o. same x (or_right (has x t) (list_any (has x) us) o)))
