use Rattle.std.proofs.Common.{◌≡◌, ◌∙◌, ◌++◌, ◌∷◌, [], sym, ap, arith, map, List}
use Rattle.std.specs.List.{range_with_len}
use Rattle.std.proofs.lemmas.List.FromFn.{map-range_with_len_more}
use Rattle.sw_logic.specs.declared.syntax.Term.{Term}
use Rattle.sw_universe.specs.GroundTerms.{constants}
use Rattle.sw_universe.specs.Listing.{terms_over}
use Rattle.sw_universe.proofs.listing.deeper.Goals as goal

pub loop-sort-preserved : goal.loop-sort-preserved
loop-sort-preserved c =
    let n = c.loop-sort.sort in
    let sig = c.args.sig.now in
    let f = terms_over sig c.args.listed.now in
    let terms : c.append.new.self ≡ f n =
    c.in_ok-append.ensures {u = tt} ∙ (ap (λ (ts : List Term). ts ++ c.in_ok-applications.field-0) (c.in_ok-terms.ensures {u = tt})
    ∙ ap (λ (ts : List Term). constants sig n ++ ts) (c.in_ok-applications.ensures {u = tt})) in
    c.in_ok-push.ensures.ok ∙ (ap (λ (ls : List (List Term)). ls ++ c.append.new.self ∷ []) c.loop-sort.invariant
    ∙ (ap (λ (ts : List Term). map f (range_with_len 0 n) ++ ts ∷ []) terms ∙ sym (map-range_with_len_more f 0 n n (omega arith))))
