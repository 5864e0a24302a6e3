-- A sentence that was read binds few variables.
use Rattle.std.specs.Prelude.{◌≡◌, ◌≤◌, ◌+◌, ℕ, List, [], length, Ok, Err, IfSome}
use Rattle.std.proofs.Common.{arith, ap}
use Rattle.sw_logic.specs.declared.syntax.Signature.{Signature}
use Rattle.sw_logic.specs.declared.syntax.Formula.{Formula}
use Rattle.sw_logic.specs.declared.variables.Scope.{Scope}
use Rattle.sw_logic.specs.Truth.{binds}
use Rattle.sw_text.specs.Texts.{HasFormula, answer_of}
use Rattle.sw_text.specs.Scoped.{in_scope, variables_of, numbered}
use Rattle.sw_text.proofs.FewVariables.{read_binds_few}

pub few : (sig : Signature) (scope : Scope) (text : List ℕ) (f : Formula) → scope.sorts ≡ [] → IfSome (answer_of (Ok f)) (HasFormula (in_scope sig scope text) (variables_of scope)) → binds f ≤ 32
few sig scope text f e h =
    let none : length (variables_of scope) ≡ 0 = ap (λ (ss : List ℕ). length (numbered 0 ss)) e in
    let some = read_binds_few (in_scope sig scope text) (variables_of scope) f (omega (arith, none)) h in
    omega (arith, none, some)
