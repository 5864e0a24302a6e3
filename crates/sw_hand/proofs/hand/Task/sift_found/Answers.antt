use Rattle.std.proofs.Common.{ℕ, List, ◌≡◌, ◌<◌, ◌∙◌, sym, subst, ap, arith, length, vec_len}
use Rattle.std.proofs.lemmas.Option.{get_or_from_slice_get}
use Rattle.sw_logic.specs.declared.syntax.Formula.{Formula}
use Rattle.sw_template.specs.Bodies.{Class}
use Rattle.sw_filter.specs.declared.view.Shown.{Shown}
use Rattle.sw_pool.specs.declared.pool.Seen.{Seen}
use Rattle.sw_pool.specs.Pools.{IsShown, filter_of}
use Rattle.sw_core.specs.Machine.{formula_in}
use Rattle.sw_hand.specs.Hands.{search_of, Rejects}
use Rattle.sw_hand.proofs.Holding.{formula_is, rejecting, token_place, token_at}
use Rattle.sw_hand.proofs.hand.Task.sift_found.Goals as goal

pub index-requires : goal.index-requires
index-requires g c =
    let first = c.in-Some.ensures in
    let found = c.args.hand.now.found in
    let h : c.in-Some.place < length found.items = token_place c.args.self.now.pool.now found.items c.args.hand.now.others.shown.items c.in-Some.place first.0.0 c.requires.found first.0.1 in
    let long : vec_len found ≡ length found.items = c.args.hand.now.found.ok.0 in
    omega arith

pub hold-requires-clause-rejects : goal.hold-requires-clause-rejects
hold-requires-clause-rejects g c =
    let m = search_of c.args.self.now.protocol.now (g.B.Walk.template c.args.self.now.space.now) c.args.self.now.mode c.args.self.now.workers in
    let ps : List (List (List ℕ)) = g.B.Walk.part_lists c.args.self.now.space.now in
    let Has : Class → Type 0 = g.B.Candidates.has c.args.self.now.space.now in
    let formula : Class → Formula = g.B.Candidates.formula_of c.args.self.now.space.now in
    let is : formula c.args.body.now ≡ formula_in m c.args.body.now.cubes = formula_is m ps Has formula c.requires.serves c.args.body.now c.requires.class in
    let first = c.in-Some.ensures in
    let e : Shown = first.0.0 in
    let shown = c.args.hand.now.others.shown.items in
    let same : c.index-shown.result.now ≡ e = c.index-shown.ensures ∙ get_or_from_slice_get shown c.in-Some.place e _ first.0.1 in
    subst (λ (x : Shown). Rejects m c.args.formulas.now c.args.body.now.cubes x.filter.now) (sym same)
    (rejecting m c.args.formulas.now c.args.body.now.cubes (formula c.args.body.now) shown c.in-Some.place e is c.requires.others.admitted c.requires.others.marked first.0.1 first.0.2.live first.0.2.refutes)

pub hold-requires-clause-mark : goal.hold-requires-clause-mark
hold-requires-clause-mark g c =
    let first = c.in-Some.ensures in
    let e : Shown = first.0.0 in
    let shown = c.args.hand.now.others.shown.items in
    let same : c.index-shown.result.now ≡ e = c.index-shown.ensures ∙ get_or_from_slice_get shown c.in-Some.place e _ first.0.1 in
    ap (λ (x : Shown). x.mark) same ∙ first.0.2.live

pub hold-requires-clause-token : goal.hold-requires-clause-token
hold-requires-clause-token g c =
    let first = c.in-Some.ensures in
    let e : Shown = first.0.0 in
    let shown = c.args.hand.now.others.shown.items in
    let same : c.index-shown.result.now ≡ e = c.index-shown.ensures ∙ get_or_from_slice_get shown c.in-Some.place e _ first.0.1 in
    let pool = c.args.self.now.pool.now in
    let got = token_at pool c.args.hand.now.found.items shown c.in-Some.place _ e c.requires.found first.0.1 in
    subst (λ (t : Seen). IsShown pool t × (filter_of t ≡ c.index-shown.result.now.filter.now)) (sym (c.again-token.ensures ∙ c.index.ensures))
    (got.0, got.1 ∙ sym (ap (λ (x : Shown). x.filter.now) same))
