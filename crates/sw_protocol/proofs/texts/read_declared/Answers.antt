use Rattle.std.proofs.Common.{◌≡◌, List, map, IfSome, subst, sym, ap, ◌∙◌}
use Rattle.sw_trees.specs.declared.words.Word.{Word}
use Rattle.sw_trees.specs.Words.{word_of}
use Rattle.sw_protocol.specs.Answers.{IsAnswer}
use Rattle.sw_protocol.specs.Texts.{HasDeclared, outcome, answer_of}
use Rattle.sw_protocol.proofs.OneDeclared.{has_bad, has_outcome, each_outcome, no_other}
use Rattle.sw_protocol.proofs.texts.read_declared.Goals as goal

pub returns-in-Err-BadByte-clause-has : goal.returns-in-Err-BadByte-clause-has
returns-in-Err-BadByte-clause-has c =
    has_bad c.args.text.now c.in-Err-BadByte.field-0 c.in-Err-BadByte.at _ c.in-Err-BadByte.field-0-is c.in-Err-BadByte.at-is c.in-Err-BadByte.ensures.scans

has : (c : goal.After-drop-tokens-2) → IfSome (answer_of c.outcome.result) (HasDeclared c.args.text.now)
has c =
    let text = c.args.text.now in
    let ws = c.as_slice-3.result.now in
    let same : c.as_slice-2.result.now ≡ ws = c.as_slice-2.ensures.value ∙ sym c.as_slice-3.ensures.value in
    let are : ws ≡ map (word_of text) c.in-Ok-scan.tokens.items = c.as_slice-3.ensures.value ∙ c.in-Ok-words_of.ensures ∙ ap (map (word_of text)) c.as_slice.ensures.value in
    let answer : IsAnswer text ws c.in-Ok-parse.parsed = subst (λ (us : List Word). IsAnswer text us c.in-Ok-parse.parsed) same c.in-Ok-parse.ensures in
    each_outcome text (λ r. r ≡ outcome text ws c.in-Ok-parse.parsed) (HasDeclared text) (has_outcome text c.in-Ok-scan.tokens.items ws c.in-Ok-parse.parsed c.in-Ok-scan.ensures.scans are answer) c.outcome.result c.outcome.ensures

pub returns-clause-has : goal.returns-clause-has
returns-clause-has c = has c

pub returns-clause-no_other : goal.returns-clause-no_other
returns-clause-no_other c = no_other c.args.text.now c.outcome.result (has c)
