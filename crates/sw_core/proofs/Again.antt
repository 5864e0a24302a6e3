-- A part that is settled again under a longer prefix.
use Rattle.std.specs.Prelude.{◌≡◌, ℕ, zero, suc, ◌≤◌, List, [], ◌∷◌, ◌++◌, take, drop, slice_get, unwrap_or}
use Rattle.std.specs.List.{AllByRecursion}
use Rattle.std.proofs.Common.{refl, arith, sym, ap, subst, ◌∙◌}
use Rattle.std.proofs.lemmas.List.{take-append-drop}
use Rattle.sw_logic.specs.declared.syntax.Formula.{Formula}
use Rattle.sw_lists.proofs.Each.{each-weaker}
use Rattle.sw_filter.specs.declared.filter.Filter.{Filter}
use Rattle.sw_filter.specs.Filters.{IsLive}
use Rattle.sw_filter.specs.Good.{Good}
use Rattle.sw_filter.proofs.Good.{good_stays}
use Rattle.sw_core.specs.Machine.{filters_at, formula_in, parts_in}
use Rattle.sw_core.specs.Gathered.{SettledAgain}

take_take : {X : Type 0} (a b : ℕ) (xs : List X) → a ≤ b → take a (take b xs) ≡ take a xs
take_take zero b xs h = refl
take_take (suc a) zero xs h = absurd (omega arith)
take_take (suc a) (suc b) [] h = refl
take_take (suc a) (suc b) (x ∷ xs) h = ap (λ l. x ∷ l) (take_take a b xs (omega arith))

pub settled_again : SettledAgain
settled_again m log filters x under le good live =
    let more : List Formula = drop x.under (take under log) in
    let whole : take x.under log ++ more ≡ take under log = ap (λ l. l ++ more) (sym (take_take x.under under log le)) ∙ take-append-drop x.under (take under log) in
    let fs : List Filter = filters_at filters x.by in
    let live_too : AllByRecursion (IsLive m.protocol m.mode (take x.under log ++ more)) fs = subst (λ g. AllByRecursion (IsLive m.protocol m.mode g) fs) (sym whole) live in
    each-weaker (λ class. Good m.protocol m.mode (take x.under log) (formula_in m class) fs) (λ class. Good m.protocol m.mode (take under log) (formula_in m class) fs)
    (λ class g. subst (λ h. Good m.protocol m.mode h (formula_in m class) fs) whole (good_stays m.protocol m.mode (take x.under log) more (formula_in m class) fs g live_too))
    (unwrap_or (slice_get (parts_in m) x.part) []) good
