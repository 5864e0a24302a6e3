use Rattle.std.proofs.Common.{◌≡◌, ◌<◌, ◌∙◌, sym, ap, subst, arith, true, Bool, List, length, not}
use Rattle.std.specs.List.{count_by, list_any}
use Rattle.std.proofs.lemmas.List.{length-set}
use Rattle.sw_logic.specs.declared.syntax.Edge.{Edge}
use Rattle.sw_logic.specs.Strata.{Leads}
use Rattle.sw_strata.specs.Reaching.{is_found, is_open}
use Rattle.sw_strata.proofs.Reached.{none_count, none_there, contained_all, found_then, led_on, fewer, open_new}
use Rattle.sw_strata.proofs.reaching.reached.Goals as goal

pub loop-edge-init : goal.loop-edge-init
loop-edge-init c =
    let same = c.in_ok-found.ensures in (
      ap (λ (xs : List Bool). length xs) same ∙ none_count c.args.sorts,
      λ k e. none_there c.args.sorts k (Leads c.args.edges.now c.args.start k) (sym (ap (λ (xs : List Bool). is_found xs k) same) ∙ e),
    )

pub set-requires : goal.set-requires
set-requires c =
    let within = contained_all (λ (e : Edge). (e.from < c.args.sorts) × (e.to < c.args.sorts)) c.args.edges.now c.in-Some.edge c.requires (c.in-Some.ensures {u = tt}).0 in
    let e = c.loop-edge.invariant.0 in
    let b = within.1 in
    omega arith

pub loop-edge-preserved : goal.loop-edge-preserved
loop-edge-preserved c =
    let edge = c.in-Some.edge in
    let edges = c.args.edges.now in
    let found = c.loop-edge.found in
    let is : is_open c.args.start found edge ≡ true = sym (ap (λ (xs : List Bool). is_open c.args.start xs edge) c.as_slice.ensures) ∙ (c.in-Some.ensures {u = tt}).1 in
    let here : Leads edges c.args.start edge.to = led_on edges c.args.start found edge c.loop-edge.invariant.1 is (c.in-Some.ensures {u = tt}).0 in (
      ap (λ (xs : List Bool). length xs) c.set.ensures ∙ (length-set found edge.to true ∙ c.loop-edge.invariant.0),
      λ k e. found_then (λ j. Leads edges c.args.start j) found edge.to k c.loop-edge.invariant.1 here (sym (ap (λ (xs : List Bool). is_found xs k) c.set.ensures) ∙ e),
    )

pub loop-edge-smaller : goal.loop-edge-smaller
loop-edge-smaller c =
    let edge = c.in-Some.edge in
    let found = c.loop-edge.found in
    let open_here = c.in-Some.ensures {u = tt} in
    let is : is_open c.args.start found edge ≡ true = sym (ap (λ (xs : List Bool). is_open c.args.start xs edge) c.as_slice.ensures) ∙ open_here.1 in
    let within = contained_all (λ (e : Edge). (e.from < c.args.sorts) × (e.to < c.args.sorts)) c.args.edges.now edge c.requires open_here.0 in
    let b = within.1 in
    let e = c.loop-edge.invariant.0 in
    subst (λ (xs : List Bool). count_by not xs < count_by not found) (sym c.set.ensures) (fewer found edge.to (omega arith) (open_new c.args.start found edge is))

pub returns : goal.returns
returns c =
    record {
      count = c.loop-edge.invariant.0;
      led = c.loop-edge.invariant.1;
      closed = sym (ap (λ (xs : List Bool). list_any (is_open c.args.start xs) c.args.edges.now) c.as_slice.ensures) ∙ c.in_default.ensures {u = tt};
    }
