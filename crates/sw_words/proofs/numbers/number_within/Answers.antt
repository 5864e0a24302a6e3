use Rattle.std.specs.Prelude.{◌≡◌, ◌<◌, ◌^◌, true, Some, None}
use Rattle.std.specs.List.{list_all}
use Rattle.std.specs.Char.{is_ascii_digit}
use Rattle.std.specs.Result.{result_ok}
use Rattle.std.proofs.Common.{rules, tests, sym, ◌∙◌}
use Rattle.sw_words.proofs.Digits.{number_found, number_lost}
use Rattle.sw_words.proofs.numbers.number_within.Goals as goal

pub returns-in_err-number : goal.returns-in_err-number
returns-in_err-number c =
    let digits : list_all is_ascii_digit c.args.text.now ≡ true = search (rules, tests) in
    let is : result_ok c.parse.result ≡ None = search rules in
    let small : c.args.most < 2 ^ 64 = search rules in
    c.from_residual.ensures ∙ sym (number_lost c.args.least c.args.most c.args.text.now c.parse.result c.parse.ensures.value.0 is digits c.if-text-gt-MOST_DIGITS.false small)

pub returns-then-number-most : goal.returns-then-number-most
returns-then-number-most c =
    let digits : list_all is_ascii_digit c.args.text.now ≡ true = search (rules, tests) in
    let is : result_ok c.parse.result ≡ Some c.in_ok-number.number = search rules in
    number_found c.args.least c.args.most c.args.text.now c.parse.result c.in_ok-number.number c.parse.ensures.value.0 is digits c.if-text-gt-MOST_DIGITS.false
    c.if-least-number.true c.if-number-most.true
