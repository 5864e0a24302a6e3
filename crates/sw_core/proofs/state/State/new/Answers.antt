use Rattle.std.proofs.Common.{◌≡◌, refl, sym, ap, arith, ◌∙◌, ◌≤◌, length, map, replicate}
use Rattle.sw_core.specs.declared.steps.End.TheVariants.{Running}
use Rattle.sw_meaning.specs.Classes.{parts, parts_of}
use Rattle.sw_core.proofs.Starting.{untouched, all_untouched}
use Rattle.sw_core.proofs.Places.{narrow_is}
use Rattle.sw_core.proofs.state.State.new.Goals as goal

pub invariant_of-result : goal.invariant_of-result
invariant_of-result c = (sym c.in_ok-vec.field-0.ok.0 ∙ c.in_ok-vec.ensures.len, narrow_is c.args.opening.items c.requires.opening, c.requires.well_formed, c.requires.space, c.requires.variables, refl)

pub returns-clause-board : goal.returns-clause-board
returns-clause-board c =
    let high : c.loop-part._part ≤ c.parts-part-end.result = c.loop-part.auto._part-end in
    let low : c.parts-part-end.result ≤ c.loop-part._part = c.loop-part-test.false in
    let count : c.loop-part._part ≡ length (parts c.args.protocol.now.signature c.args.space.now.template) = omega (arith, c.parts-part-end.ensures, ap (λ cubes. length (parts_of c.args.space.now.template.literals cubes)) c.requires.space.cubes_are) in
    let ps : c.loop-part.parts.items ≡ map (λ _. untouched) (parts c.args.protocol.now.signature c.args.space.now.template) =
    c.loop-part.invariant ∙ (ap (λ n. replicate n untouched) count ∙ all_untouched (parts c.args.protocol.now.signature c.args.space.now.template)) in
    let vs : c.in_ok-vec.field-0.items ≡ replicate c.args.workers 0 = c.in_ok-vec.ensures.items_if_clones_equal (λ y e. e) in
    λ i. record { log = c.args.opening.items; filters = c.new-2.ensures.items i; drawn = 0; parts = ps i; seen = vs i; end = Running }
