use Rattle.std.specs.Prelude.{◌≤◌, ◌+◌, IfSome}
use Rattle.std.proofs.Common.{rules, ◌≡◌, List, Bool, length, sym, ap, subst, ◌∙◌}
use Rattle.sw_logic.specs.Queries.{Satisfies}
use Rattle.sw_sat.specs.Answers.{IsModel, IsRefutation, IsSpent}
use Rattle.sw_refute.specs.declared.clauses.Derived.{Derived}
use Rattle.sw_truth.specs.declared.sets.SkolemSet.{SkolemSet}
use Rattle.sw_universe.specs.declared.universe.Universe.{Universe}
use Rattle.sw_instances.specs.Instances.{AreInstances}
use Rattle.sw_ground.specs.Verdict.{Accepts}
use Rattle.sw_quotient.specs.Valuations.{valuation}
use Rattle.sw_quotient.specs.Tables.{IsStructureOf}
use Rattle.sw_decide.specs.Decision.{IsSpentOver}
use Rattle.sw_decide.proofs.Among.{sound}
use Rattle.sw_decide.proofs.Answers.{of_query, AreSolved, IsMade, TheLaws, values_are, refuted, spent, found}
use Rattle.sw_decide.proofs.deciding.decide_within.Goals as goal

pub clauses_of-requires-clause-instances : goal.clauses_of-requires-clause-instances
clauses_of-requires-clause-instances c =
    let set = c.args.set.now in
    let u = c.args.universe.now in
    subst (AreInstances set u) (sym c.in-Ok.ensures.0) (sound set u)

pub structure_of-requires-clause-values : goal.structure_of-requires-clause-values
structure_of-requires-clause-values c =
    let g = c.in_ok-ground.ground in
    let model : IsModel g.cnf c.in-Satisfied.values.items = rw c.in-Satisfied.is at c.in_ok-values.ensures in
    ap length c.as_slice.ensures.value ∙ values_are c.args.set.now c.args.universe.now c.in-Ok.instances g c.in-Satisfied.values.items c.in_ok-ground.ensures model

pub returns-in_ok-structure-in-Satisfied : goal.returns-in_ok-structure-in-Satisfied
returns-in_ok-structure-in-Satisfied c =
    let q = c.args.query.now in
    let set = c.args.set.now in
    let u = c.args.universe.now in
    let g = c.in_ok-ground.ground in
    let is = c.in-Ok.instances in
    let values = c.in-Satisfied.values.items in
    let s = c.in_ok-structure-in-Satisfied.structure in
    let model : IsModel g.cnf values = rw c.in-Satisfied.is at c.in_ok-values.ensures in
    let solved : AreSolved g is set u = record { all = c.in-Ok.ensures.0; made = c.in_ok-ground.ensures } in
    let structure = subst (λ (vs : List Bool). IsStructureOf set u (valuation g.atoms vs) s) c.as_slice.ensures.value c.in_ok-structure-in-Satisfied.ensures in
    let laws : TheLaws = record {
      clauses = c.clauses_mean.ensures;
      exists = c.quotient_exists.ensures;
      model = c.quotient_is_model.ensures;
      formed = c.skolem_is_well_formed.ensures;
      restricts = c.skolem_restricts.ensures;
      inhabited = c.universe_is_inhabited.ensures;
    } in
    let made : IsMade g is values s set u = record { solved = solved; prepared = c.requires.prepared; structure = structure } in
    let holds = found q c.requires.query laws set u c.requires.set c.requires.prepared.universe g is values s made model in
    (subst (Satisfies q) (sym c.restrict.ensures) holds, λ z. z)

pub returns-in-Refuted : goal.returns-in-Refuted
returns-in-Refuted c =
    let q = c.args.query.now in
    let set = c.args.set.now in
    let u = c.args.universe.now in
    let g = c.in_ok-ground.ground in
    let is = c.in-Ok.instances in
    let r : IsRefutation g.cnf c.args.budget c.in-Refuted.steps.items = rw c.in-Refuted.is at c.in_ok-values.ensures in
    let here = refuted set u g is (record { all = c.in-Ok.ensures.0; made = c.in_ok-ground.ensures }) c.args.budget c.in-Refuted.steps.items r in
    let steps = subst (λ (ss : List Derived). Accepts set u (record { instances = is; steps = ss })) (sym c.from_vec-steps.ensures) here in
    let accepted = of_query (λ (x : SkolemSet) (y : Universe). Accepts x y (record { instances = is; steps = c.from_vec-steps.result })) q set u c.requires.set c.requires.prepared.universe steps in
    let within = subst (λ (ss : List Derived). IfSome c.args.budget (λ most. length ss ≤ most + 1)) (sym c.from_vec-steps.ensures) r.within in
    (record { accepted = accepted; within = within }, λ z. z)

pub returns-in-Spent : goal.returns-in-Spent
returns-in-Spent c =
    let q = c.args.query.now in
    let set = c.args.set.now in
    let u = c.args.universe.now in
    let g = c.in_ok-ground.ground in
    let is = c.in-Ok.instances in
    let r : IsSpent g.cnf c.args.budget c.in-Spent.steps.items = rw c.in-Spent.is at c.in_ok-values.ensures in
    let here = spent set u g is (record { all = c.in-Ok.ensures.0; made = c.in_ok-ground.ensures }) c.args.budget c.in-Spent.steps.items r in
    let steps = subst (λ (ss : List Derived). IsSpentOver set u c.args.budget (record { instances = is; steps = ss })) (sym c.from_vec-steps-in-Spent.ensures) here in
    (of_query (λ (x : SkolemSet) (y : Universe). IsSpentOver x y c.args.budget (record { instances = is; steps = c.from_vec-steps-in-Spent.result })) q set u c.requires.set c.requires.prepared.universe steps, λ z. z)
