-- What a term or a formula means, one step down.
use Rattle.std.proofs.Common.{◌≡◌, ℕ, Bool, List, rules}
use Rattle.std.specs.List.{list_all, list_any}
use Rattle.std.proofs.lemmas.List.Folds.{list_all-map}
use Rattle.sw_logic.specs.declared.syntax.Term.{Term, the_lemmas}
use Rattle.sw_logic.specs.declared.syntax.Term.TheVariants.{Apply}
use Rattle.sw_logic.specs.declared.syntax.Formula.{Formula, the_lemmas as formula_lemmas}
use Rattle.sw_logic.specs.declared.syntax.Formula.TheVariants.{All, Any, ForAll, Exists}
use Rattle.sw_logic.proofs.Quantifiers.{list_any-map}
use Rattle.sw_logic.specs.declared.syntax.Signature.{Signature}
use Rattle.sw_logic.specs.declared.syntax.Binder.{Binder}
use Rattle.sw_logic.specs.Sorted.{well_sorted}
use Rattle.sw_logic.specs.Truth.{World, for_all, exists, truth, table_at, place, values_of, value_of, value_in}

pub value_of-Apply : (w : World) (env : List ℕ) (symbol : ℕ) (post : Bool) (args : List Term)
    → value_of w env (Apply symbol post args) ≡ value_in (table_at w.before w.after symbol post) (place w symbol (values_of w env args))
value_of-Apply w env symbol post args = search (rules, the_lemmas)

pub truth-All : (w : World) (parts : List Formula) (env : List ℕ) → truth w (All parts) env ≡ list_all (λ p. truth w p env) parts
truth-All w parts env = search (rules, formula_lemmas, list_all-map)

pub truth-Any : (w : World) (parts : List Formula) (env : List ℕ) → truth w (Any parts) env ≡ list_any (λ p. truth w p env) parts
truth-Any w parts env = search (rules, formula_lemmas, list_any-map)

pub sorted-All : (sig : Signature) (post : Bool) (parts : List Formula) (scope : List ℕ)
    → well_sorted sig post (All parts) scope ≡ list_all (λ p. well_sorted sig post p scope) parts
sorted-All sig post parts scope = search (rules, formula_lemmas, list_all-map)

pub sorted-Any : (sig : Signature) (post : Bool) (parts : List Formula) (scope : List ℕ)
    → well_sorted sig post (Any parts) scope ≡ list_all (λ p. well_sorted sig post p scope) parts
sorted-Any sig post parts scope = search (rules, formula_lemmas, list_all-map)

pub truth-ForAll : (w : World) (binders : List Binder) (part : Formula) (env : List ℕ)
    → truth w (ForAll binders part) env ≡ for_all w.before.sizes binders (truth w part) env
truth-ForAll w binders part env = search (rules, formula_lemmas)

pub truth-Exists : (w : World) (binders : List Binder) (part : Formula) (env : List ℕ)
    → truth w (Exists binders part) env ≡ exists w.before.sizes binders (truth w part) env
truth-Exists w binders part env = search (rules, formula_lemmas)
