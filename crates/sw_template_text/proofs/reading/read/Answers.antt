use Rattle.std.proofs.Common.{◌≡◌, sym, subst, ◌∙◌, ap}
use Rattle.std.specs.Prelude.{Ok, slice_get}
use Rattle.std.specs.List.{AllByRecursion}
use Rattle.sw_template_text.specs.Grammar.{Spells, IsFault}
use Rattle.sw_template_text.specs.Texts.{IsKind, answer_of, words_of, place}
use Rattle.sw_template_text.proofs.Digits.{scanned}
use Rattle.sw_template_text.proofs.Settled.{uncut, misspelled, spelled}
use Rattle.sw_template_text.proofs.reading.read.Goals as goal

pub words_in-requires : goal.words_in-requires
words_in-requires c = subst (AllByRecursion (IsKind c.args.text.now)) (sym c.as_slice.ensures.value) (scanned c.args.text.now 0 (Ok c.in-Ok.tokens.items) c.in-Ok.ensures.tokens)

pub returns-in-Err : goal.returns-in-Err
returns-in-Err c = uncut c.args.sig.now c.args.text.now c.in-Err.error c.in-Err.ensures.refused

pub returns-in-Ok-Syntax : goal.returns-in-Ok-Syntax
returns-in-Ok-Syntax c =
    let text = c.args.text.now in
    let tokens = c.in-Ok.tokens.items in
    let same : c.as_slice-2.result.now ≡ words_of text tokens = c.as_slice-2.ensures.value ∙ (c.in-Ok-words_in.ensures ∙ ap (words_of text) c.as_slice.ensures.value) in
    misspelled c.args.sig.now text tokens c.in-Ok-Syntax.number c.place_of.result c.in-Ok.ensures.tokens (subst (λ ws. IsFault ws c.in-Ok-Syntax.number) same (rw c.in-Ok-Syntax.field-0-is at c.in-Ok-Syntax.ensures))
    (c.place_of.ensures ∙ ap (λ ts. place text (slice_get ts c.in-Ok-Syntax.number)) c.as_slice-in-Ok-Syntax.ensures.value)

pub returns-in-Ok-Template : goal.returns-in-Ok-Template
returns-in-Ok-Template c =
    let text = c.args.text.now in
    let tokens = c.in-Ok.tokens.items in
    let same : c.as_slice-2.result.now ≡ words_of text tokens = c.as_slice-2.ensures.value ∙ (c.in-Ok-words_in.ensures ∙ ap (words_of text) c.as_slice.ensures.value) in
    spelled c.args.sig.now text tokens c.in-Ok-Template.runs c.in-Ok-Template.numbers (answer_of c.resolve.result) c.in-Ok.ensures.tokens
    (subst (λ ws. Spells ws c.in-Ok-Template.runs c.in-Ok-Template.numbers) same (rw c.in-Ok-Template.field-0-is at c.in-Ok-Template.ensures)) (rw c.as_slice-in-Ok-Template.ensures at c.resolve.ensures)
