use Rattle.std.proofs.Common.{◌≡◌, ◌∙◌, sym, ap, subst, IfOk, List}
use Rattle.std.specs.List.{flat_map}
use Rattle.sw_logic.specs.declared.syntax.Edge.{Edge}
use Rattle.sw_logic.specs.declared.syntax.Formula.{Formula}
use Rattle.sw_strata.specs.Edges.{edges_in}
use Rattle.sw_strata.proofs.EdgeSteps.{edges-All, edges-Any, for_all_joined, exists_joined}
use Rattle.sw_strata.proofs.edges.Scope.+edges.Goals as goal

pub edges-returns-in-All : goal.edges-returns-in-All
edges-returns-in-All t c =
    let pos = c.args.positive in
    let scope = c.args.self.now.sorts in
    let whole_is : flat_map (λ (f : Formula). edges_in f pos scope) c.as_slice.result.now ≡ edges_in c.args.formula.now pos scope =
    ap (λ (ps : List Formula). flat_map (λ (f : Formula). edges_in f pos scope) ps) c.as_slice.ensures ∙ (sym (edges-All pos scope c.in-All.parts) ∙ ap (λ (f : Formula). edges_in f pos scope) (sym c.in-All.is)) in
    subst (λ (g : List Edge). IfOk c.all_edges.result (λ (es : List Edge). es ≡ g)) whole_is c.all_edges.ensures

pub edges-returns-in-Any : goal.edges-returns-in-Any
edges-returns-in-Any t c =
    let pos = c.args.positive in
    let scope = c.args.self.now.sorts in
    let whole_is : flat_map (λ (f : Formula). edges_in f pos scope) c.as_slice-in-Any.result.now ≡ edges_in c.args.formula.now pos scope =
    ap (λ (ps : List Formula). flat_map (λ (f : Formula). edges_in f pos scope) ps) c.as_slice-in-Any.ensures ∙ (sym (edges-Any pos scope c.in-Any.parts) ∙ ap (λ (f : Formula). edges_in f pos scope) (sym c.in-Any.is)) in
    subst (λ (g : List Edge). IfOk c.all_edges-in-Any.result (λ (es : List Edge). es ≡ g)) whole_is c.all_edges-in-Any.ensures

pub edges-returns-in_ok-append-in-ForAll : goal.edges-returns-in_ok-append-in-ForAll
edges-returns-in_ok-append-in-ForAll t c =
    let made = c.in_ok-edges-in-ForAll.ensures {u = tt} in
    for_all_joined c.append-in-ForAll.new.self c.in_ok-edges-in-ForAll.field-0.edges c.in_ok-more-in-ForAll.more c.args.self.now.sorts c.in_ok-edges-in-ForAll.field-0.scope.sorts c.args.positive c.in-ForAll.binders c.as_slice-in-ForAll.result.now c.args.formula.now c.in-ForAll.part c.get-in-ForAll.result.now c.get-in-ForAll-2.result.now
    (c.in_ok-append-in-ForAll.ensures {u = tt}) made.0 made.1 (c.in_ok-more-in-ForAll.ensures {u = tt}) c.as_slice-in-ForAll.ensures c.get-in-ForAll.ensures c.get-in-ForAll-2.ensures c.in-ForAll.is

pub edges-returns-in_ok-append-in-Exists : goal.edges-returns-in_ok-append-in-Exists
edges-returns-in_ok-append-in-Exists t c =
    let made = c.in_ok-edges-in-Exists.ensures {u = tt} in
    exists_joined c.append-in-Exists.new.self c.in_ok-edges-in-Exists.field-0.edges c.in_ok-more-in-Exists.more c.args.self.now.sorts c.in_ok-edges-in-Exists.field-0.scope.sorts c.args.positive c.in-Exists.binders c.as_slice-in-Exists.result.now c.args.formula.now c.in-Exists.part c.get-in-Exists.result.now c.get-in-Exists-2.result.now
    (c.in_ok-append-in-Exists.ensures {u = tt}) made.0 made.1 (c.in_ok-more-in-Exists.ensures {u = tt}) c.as_slice-in-Exists.ensures c.get-in-Exists.ensures c.get-in-Exists-2.ensures c.in-Exists.is
