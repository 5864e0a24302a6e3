-- A budget that is large enough is not spent.
use Rattle.std.specs.Prelude.{◌≡◌, ◌+◌, ◌^◌, ◌<◌, ◌≤◌, ℕ, List, Some}
use Rattle.std.proofs.Common.{arith, sym, subst}
use Rattle.std.proofs.lemmas.Option.{none-some, same_Some}
use Rattle.sw_refute.specs.declared.clauses.Cnf.{Cnf}
use Rattle.sw_logic.specs.declared.query.Query.{Query}
use Rattle.sw_truth.specs.declared.instances.Ground.{Ground}
use Rattle.sw_truth.specs.declared.instances.Instance.{Instance}
use Rattle.sw_truth.specs.declared.instances.Refutation.{Refutation}
use Rattle.sw_skolem.specs.Skolem.{skolem_of}
use Rattle.sw_instances.specs.Numbered.{IsGround}
use Rattle.sw_ground.specs.Verdict.{universe}
use Rattle.sw_ground_laws.specs.Laws.{GroundIsOne}
use Rattle.sw_decide.specs.Decision.{IsSpentOn}
use Rattle.sw_size_laws.specs.Laws.{BudgetSuffices, all_instances_of}

clash : (few most given : ℕ) → most ≡ given → few ≤ most → given < few → ⊥
clash few most given e l h = absurd (omega arith)

enough : GroundIsOne → (q : Query) (most : ℕ) (r : Refutation) (g : Ground) → IsGround (skolem_of q) (universe (skolem_of q)) (all_instances_of q) g
    → 2 ^ (g.cnf.variables + 1) ≤ most → IsSpentOn q (Some most) r → ⊥
enough one q most r g is l s =
    let here = subst (λ (is : List Instance). IsGround (skolem_of q) (universe (skolem_of q)) is g) (sym s.all) is in
    let same = one (skolem_of q) (universe (skolem_of q)) r.instances g s.ground here s.made in
    let large = subst (λ (c : Cnf). 2 ^ (c.variables + 1) ≤ most) same l in
    clash (2 ^ (s.ground.cnf.variables + 1)) most s.steps.most (same_Some most s.steps.most s.steps.given) large s.steps.few

pub budget_suffices : GroundIsOne → BudgetSuffices
budget_suffices one = record { without = λ q r s. none-some s.steps.most s.steps.given; enough = enough one }
