use Rattle.std.proofs.Common.{Option, sym, ap, ◌∙◌}
use Rattle.sw_text.specs.declared.names.Head.{Head}
use Rattle.sw_text.specs.Names.{head_of, head_tests}
use Rattle.sw_text.specs.Resolving.{around, first_rule}
use Rattle.sw_text.proofs.Breaking.{broken_first}
use Rattle.sw_text.proofs.names.Names.head.Goals as goal

pub returns-in-Some : goal.returns-in-Some
returns-in-Some c =
    let a = around c.args.self.now in
    let scope = c.args.scope.now in
    broken_first c.args.word.token.at (head_tests a scope (head_of a scope c.args.word) c.args.primed c.args.count c.args.wanted) c.in-Some.rule
    (ap (λ (h : Option Head). first_rule (head_tests a scope h c.args.primed c.args.count c.args.wanted)) (sym c.in_ok-head.ensures)
    ∙ sym c.head_rule.ensures
    ∙ c.in-Some.is)
