use Rattle.std.proofs.Common.{◌≡◌, ℕ, ◌+◌, ◌++◌, ◌∷◌, [], ◌∙◌, sym, ap, arith, List, false}
use Rattle.std.proofs.lemmas.List.{append_assoc}
use Rattle.std.proofs.lemmas.List.FromFn.{map-range_with_len_more}
use Rattle.sw_logic.specs.declared.syntax.Term.{Term}
use Rattle.sw_logic.specs.declared.syntax.Term.TheVariants.{Apply}
use Rattle.sw_skolem.specs.Skolem.{skolem_terms}
use Rattle.sw_skolem.specs.Forming.{variables_at}
use Rattle.sw_skolem.proofs.existentials.put_skolem_terms.Goals as goal

pub loop-place-preserved : goal.loop-place-preserved
loop-place-preserved c =
    let i = c.loop-place.place in
    let first = c.args.first in
    let us = c.args.universals.now in
    let old = c.args.terms.now in
    let k = c.in-Some.symbol in
    let number : first + i ≡ k = omega arith in
    let f = λ (symbol : ℕ). Apply symbol false (variables_at us) in
    c.in_ok-push.ensures.ok ∙ (ap (λ (ts : List Term). ts ++ Apply k false c.in_ok-variables_at.field-0 ∷ []) c.loop-place.invariant
    ∙ (ap (λ (args : List Term). (old ++ skolem_terms us first i) ++ Apply k false args ∷ []) (c.in_ok-variables_at.ensures {u = tt})
    ∙ (append_assoc old (skolem_terms us first i) (f k ∷ []) ∙ ap (λ (ts : List Term). old ++ ts) (sym (map-range_with_len_more f first i k number)))))
