use Rattle.std.specs.Prelude.{◌≡◌, ◌∷◌, [], map, string_bytes, true, false}
use Rattle.std.specs.List.{flat_map}
use Rattle.std.proofs.Common.{ap, ◌∙◌, rules}
use Rattle.std.proofs.lemmas.List.{map-append}
use Rattle.sw_words.specs.Grammar.{is_value, drill_of, pieces}
use Rattle.sw_words.proofs.Drills.{apart_first, apart_last, apart_none}
use Rattle.sw_words.proofs.reads.number_apart.Goals as goal

pub returns-then-is_value-clause-drill : goal.returns-then-is_value-clause-drill
returns-then-is_value-clause-drill c =
    let is : is_value (string_bytes c.in_ok-first.first.now) ≡ true = search rules in
    ap (λ ws. drill_of (flat_map pieces (map (λ w. string_bytes w) ws))) c.in_ok-first.ensures.cases.0
    ∙ apart_first (string_bytes c.in_ok-first.first.now) (map (λ w. string_bytes w) c.in_ok-first.rest.now) is

pub returns-then-is_value-2-clause-drill : goal.returns-then-is_value-2-clause-drill
returns-then-is_value-2-clause-drill c =
    let other : is_value (string_bytes c.in_ok-first.first.now) ≡ false = search rules in
    let is : is_value (string_bytes c.in_ok-last.last.now) ≡ true = search rules in
    apart_last (map (λ w. string_bytes w) c.args.words.now) (map (λ w. string_bytes w) c.in_ok-last.front.now) (string_bytes c.in_ok-last.last.now)
    (string_bytes c.in_ok-first.first.now) (map (λ w. string_bytes w) c.in_ok-first.rest.now)
    (ap (map (λ w. string_bytes w)) c.in_ok-last.ensures.cases.0 ∙ map-append (λ w. string_bytes w) c.in_ok-last.front.now (c.in_ok-last.last.now ∷ []))
    (ap (map (λ w. string_bytes w)) c.in_ok-first.ensures.cases.0) c.requires other is

pub returns-clause-none : goal.returns-clause-none
returns-clause-none c =
    let other : is_value (string_bytes c.in_ok-first.first.now) ≡ false = search rules in
    let unlike : is_value (string_bytes c.in_ok-last.last.now) ≡ false = search rules in
    apart_none (map (λ w. string_bytes w) c.args.words.now) (map (λ w. string_bytes w) c.in_ok-last.front.now) (string_bytes c.in_ok-last.last.now)
    (string_bytes c.in_ok-first.first.now) (map (λ w. string_bytes w) c.in_ok-first.rest.now)
    (ap (map (λ w. string_bytes w)) c.in_ok-last.ensures.cases.0 ∙ map-append (λ w. string_bytes w) c.in_ok-last.front.now (c.in_ok-last.last.now ∷ []))
    (ap (map (λ w. string_bytes w)) c.in_ok-first.ensures.cases.0) c.requires other unlike
