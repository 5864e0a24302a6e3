use Rattle.std.proofs.Common.{sym, ap, ◌∙◌}
use Rattle.sw_refute.specs.declared.clauses.Derived.{Derived}
use Rattle.sw_refute.proofs.Ends.{last_empty}
use Rattle.sw_refute.proofs.check.ends_empty.Goals as goal

pub returns-in-len1-up : goal.returns-in-len1-up
returns-in-len1-up c =
    let last = last_empty c.args.steps.now c.last-item.result c.in-len1-up.len_at_least in
    let same = ap (λ (s : Derived). s.clause.lits) c.last-item.is in
    (λ t. last.1 (sym same ∙ c.is_empty.ensures.0 t), λ e. c.is_empty.ensures.1 (same ∙ last.0 e))
