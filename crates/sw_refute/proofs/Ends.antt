-- Whether the last step is empty.
use Rattle.std.specs.Prelude.{◌≡◌, ◌↔◌, ◌-◌, ◌≤◌, suc, List, [], ◌∷◌, length}
use Rattle.std.proofs.Common.{arith, sym, ap, subst, get_or}
use Rattle.sw_refute.specs.declared.clauses.Derived.{Derived}
use Rattle.sw_refute.specs.Propagation.{EndsEmpty}

pub last_empty : (steps : List Derived) (d : Derived) → 1 ≤ length steps → EndsEmpty steps ↔ ((get_or steps (length steps - 1) d).clause.lits ≡ [])
last_empty [] d h = absurd (omega arith)
last_empty (s ∷ []) d h = (λ e. e, λ e. e)
last_empty (s ∷ t ∷ steps) d h =
    let some : 1 ≤ length (t ∷ steps) = omega arith in
    let more : length (s ∷ t ∷ steps) - 1 ≡ suc (length (t ∷ steps) - 1) = omega arith in
    let at : get_or (s ∷ t ∷ steps) (length (s ∷ t ∷ steps) - 1) d ≡ get_or (t ∷ steps) (length (t ∷ steps) - 1) d = ap (λ n. get_or (s ∷ t ∷ steps) n d) more in
    subst (λ (x : Derived). EndsEmpty (t ∷ steps) ↔ (x.clause.lits ≡ [])) (sym at) (last_empty (t ∷ steps) d some)
