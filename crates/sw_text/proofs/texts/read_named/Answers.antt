use Rattle.std.proofs.Common.{arith, ◌≡◌, List, length, map, IfSome, subst, sym, ap, ◌∙◌}
use Rattle.sw_trees.specs.declared.words.Word.{Word}
use Rattle.sw_trees.specs.Words.{word_of}
use Rattle.sw_trees.specs.Answers.{IsAnswer}
use Rattle.sw_text.specs.Resolving.{around}
use Rattle.sw_text.specs.Texts.{HasFormula, base_in, outcome, answer_of}
use Rattle.sw_text.proofs.OneFormula.{has_bad, has_outcome, each_outcome, no_other, sorted}
use Rattle.sw_text.proofs.texts.read_named.Goals as goal

pub returns-in-Err-BadByte-clause-has : goal.returns-in-Err-BadByte-clause-has
returns-in-Err-BadByte-clause-has c =
    has_bad (around c.args.names.now) c.args.variables.items c.in-Err-BadByte.field-0 c.in-Err-BadByte.at _ c.in-Err-BadByte.field-0-is c.in-Err-BadByte.at-is c.in-Err-BadByte.ensures.scans

has : (c : goal.After-drop-tokens-2) → IfSome (answer_of c.outcome.result) (HasFormula (around c.args.names.now) c.args.variables.items)
has c =
    let a = around c.args.names.now in
    let scope = c.args.variables.items in
    let ws = c.as_slice-3.result.now in
    let same : c.as_slice-2.result.now ≡ ws = c.as_slice-2.ensures.value ∙ sym c.as_slice-3.ensures.value in
    let are : ws ≡ map (word_of a.text) c.in-Ok-scan.tokens.items = c.as_slice-3.ensures.value ∙ c.in-Ok-words_of.ensures ∙ ap (map (word_of a.text)) c.as_slice.ensures.value in
    let count : c.in-Ok-try_from.count ≡ length scope = omega (arith, c.in-Ok-try_from.ensures, c.len.ensures, c.args.variables.ok.0) in
    let answer : IsAnswer (base_in scope) ws c.in-Ok-read_tree.read = subst (λ (us : List Word). IsAnswer (base_in scope) us c.in-Ok-read_tree.read) same (subst (λ n. IsAnswer (record { nestings = 0; iffs = 0; variables = n }) c.as_slice-2.result.now c.in-Ok-read_tree.read) count c.in-Ok-read_tree.ensures) in
    each_outcome a scope (λ r. r ≡ outcome a scope ws c.in-Ok-read_tree.read) (HasFormula a scope) (has_outcome a scope c.in-Ok-scan.tokens.items ws c.in-Ok-read_tree.read c.in-Ok-scan.ensures.scans are answer) c.outcome.result c.outcome.ensures

pub returns-clause-has : goal.returns-clause-has
returns-clause-has c = has c

pub returns-clause-no_other : goal.returns-clause-no_other
returns-clause-no_other c = no_other (around c.args.names.now) c.args.variables.items c.outcome.result (has c)

pub returns-clause-sorted : goal.returns-clause-sorted
returns-clause-sorted c = sorted (around c.args.names.now) c.args.variables.items c.outcome.result (has c)
