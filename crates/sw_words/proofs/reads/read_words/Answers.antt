use Rattle.std.specs.Prelude.{◌≡◌, true, false, Some, IfOk, map, string_bytes}
use Rattle.std.specs.List.{list_all, flat_map}
use Rattle.std.proofs.Common.{sym, ◌∙◌, rules, tests, subst}
use Rattle.sw_words.specs.Grammar.{may_stand, command_with, pieces}
use Rattle.std.proofs.lemmas.List.Folds.{list_all-map}
use Rattle.sw_words.proofs.Drills.{command_is, command_none}
use Rattle.sw_words.proofs.reads.read_words.Goals as goal

pub returns-then-not-all_stand-clause-usage : goal.returns-then-not-all_stand-clause-usage
returns-then-not-all_stand-clause-usage c =
    let stand : list_all (λ w. may_stand (string_bytes w)) c.in-Some.rest.now ≡ false = search (rules, tests) in
    λ usage. command_none (λ w. string_bytes w) c.args.words.now c.in-Some.rest.now c.in-Some.name.now c.in-Some.ensures.cases.0 stand

pub read_command-requires : goal.read_command-requires
read_command-requires c =
    let stand : list_all (λ w. may_stand (string_bytes w)) c.in-Some.rest.now ≡ true = search (rules, tests) in
    list_all-map may_stand (λ w. string_bytes w) c.in-Some.rest.now ∙ stand

pub returns-clause-command : goal.returns-clause-command
returns-clause-command c =
    let stand : list_all (λ w. may_stand (string_bytes w)) c.in-Some.rest.now ≡ true = search (rules, tests) in
    let is = command_is (λ w. string_bytes w) c.args.words.now c.in-Some.rest.now c.in-Some.name.now c.in-Some.ensures.cases.0 stand in
    subst (λ o. IfOk c.read_command.result (λ r. o ≡ Some r)) (sym is)
    (subst (λ name. IfOk c.read_command.result (λ r. command_with name (flat_map pieces (map (λ w. string_bytes w) c.in-Some.rest.now)) ≡ Some r)) c.as_str.ensures.value c.read_command.ensures.command)
