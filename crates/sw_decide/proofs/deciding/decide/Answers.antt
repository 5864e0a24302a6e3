use Rattle.std.proofs.Common.{◌≡◌, ◌↔◌, sym, ap, subst, ◌∙◌}
use Rattle.std.proofs.lemmas.Bool.{false≢true}
use Rattle.sw_universe.specs.Sizes.{size_of_set}
use Rattle.sw_decide.specs.declared.decision.Decision.{Decision}
use Rattle.sw_decide.specs.Decision.{size_of_query, IsPast, Decides, IsTooLarge, IsExact}
use Rattle.sw_decide.proofs.Answers.{prepared, exact, in_ok}
use Rattle.sw_decide.proofs.deciding.decide.Goals as goal

pub decide_within-requires-clause-prepared : goal.decide_within-requires-clause-prepared
decide_within-requires-clause-prepared c =
    prepared c.skolem_is_well_formed.ensures c.skolem_keeps_strata.ensures c.args.query.now c.requires.query c.requires.strata c.in_ok-set.set c.in_ok-set.ensures c.in_ok-universe.universe c.in_ok-universe.ensures

pub returns-clause-exact : goal.returns-clause-exact
returns-clause-exact c =
    let q = c.args.query.now in
    in_ok c.decide_within.result (λ (d : Decision). Decides q c.args.budget d × (IsTooLarge d → ⊥)) (IsExact q)
    (λ d h. exact q c.requires.query c.accepted_leaves_no_structure.ensures c.args.budget d h.0) c.decide_within.ensures

pub returns-clause-large : goal.returns-clause-large
returns-clause-large c =
    let q = c.args.query.now in
    let within : IsPast (size_of_query q) → ⊥ = λ p.
    let here = subst IsPast (sym (c.in_ok-size.ensures ∙ ap size_of_set c.in_ok-set.ensures)) p in
    false≢true (sym c.if-is_past.false ∙ c.is_past.ensures.1 here) in
    in_ok c.decide_within.result (λ (d : Decision). Decides q c.args.budget d × (IsTooLarge d → ⊥)) (λ (d : Decision). IsTooLarge d ↔ IsPast (size_of_query q))
    (λ d h. ((λ t. absurd (h.1 t)), (λ p. absurd (within p)))) c.decide_within.ensures
