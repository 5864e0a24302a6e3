use Rattle.std.proofs.Common.{◌≡◌, ◌+◌, ◌++◌, ◌∷◌, [], ◌∙◌, sym, ap, arith, List}
use Rattle.std.proofs.lemmas.List.{append_assoc}
use Rattle.std.proofs.lemmas.List.FromFn.{map-range_with_len_more}
use Rattle.sw_logic.specs.declared.syntax.Term.{Term}
use Rattle.sw_logic.specs.declared.syntax.Term.TheVariants.{Variable}
use Rattle.sw_logic.specs.Terms.{variables}
use Rattle.sw_skolem.proofs.existentials.put_variables.Goals as goal

pub loop-place-preserved : goal.loop-place-preserved
loop-place-preserved c =
    let i = c.loop-place.place in
    let first = c.args.first in
    let old = c.args.terms.now in
    let number : first + i ≡ c.in-Some.number = omega arith in
    c.in_ok-push.ensures.ok ∙ (ap (λ (ts : List Term). ts ++ Variable c.in-Some.number ∷ []) c.loop-place.invariant
    ∙ (append_assoc old (variables first i) (Variable c.in-Some.number ∷ []) ∙ ap (λ (ts : List Term). old ++ ts) (sym (map-range_with_len_more Variable first i c.in-Some.number number))))
