use Rattle.std.proofs.Common.{List, ℕ, Option, sym, ap, ◌∙◌}
use Rattle.sw_text.specs.Names.{bytes_at, symbol_number}
use Rattle.sw_text.specs.Resolving.{around, first_rule}
use Rattle.sw_text.proofs.Breaking.{broken_first}
use Rattle.sw_protocol.specs.Declaring.{modified_tests}
use Rattle.sw_protocol.proofs.declaring.modified_one.Goals as goal

pub returns-in-Some : goal.returns-in-Some
returns-in-Some c =
    let a = around c.args.names.now in
    let name = bytes_at a.text c.args.word.now in
    broken_first c.args.word.now.token.at (modified_tests a c.args.before.now name (symbol_number a name)) c.in-Some.rule
    (ap (λ (n : List ℕ). first_rule (modified_tests a c.args.before.now n (symbol_number a n))) (sym c.bytes_of-name.ensures)
    ∙ ap (λ (o : Option ℕ). first_rule (modified_tests a c.args.before.now c.bytes_of-name.result.now o)) (sym c.in_ok-symbol.ensures)
    ∙ sym c.modified_rule.ensures
    ∙ c.in-Some.is)
