use Rattle.std.specs.Option.{is_some}
use Rattle.std.specs.Prelude.{option_map}
use Rattle.std.proofs.Common.{◌≡◌, ℕ, ◌+◌, ◌-◌, ◌++◌, Some, None, false, [], ◌∷◌, slice_get, arith, ap, ◌∙◌, sym}
use Rattle.sw_meaning.specs.Classes.{part_of}
use Rattle.sw_enumerate.specs.Walk.{size, first}
use Rattle.sw_enumerate.proofs.Parting.{part_where, part_empty, none_at}
use Rattle.sw_enumerate.proofs.Completing.{some_of}
use Rattle.sw_enumerate.proofs.walk.Walk.first_in.Goals as goal

pub returns-then-size-count : goal.returns-then-size-count
returns-then-size-count c =
    let e : slice_get (part_of c.args.self.now c.args.count c.args.least) 0 ≡ None = part_empty c.args.self.now c.args.count c.args.least 0 c.requires.some c.requires.least (omega (arith, c.size-size.ensures.is, c.if-size-count.true)) in sym e

pub returns-then-not-reaches : goal.returns-then-not-reaches
returns-then-not-reaches c =
    let cubes = c.args.self.now in
    let off : is_some (first cubes (c.args.least + 1) (c.args.count - size cubes c.args.least)) ≡ false =
    ap (λ n. is_some (first cubes (c.args.least + 1) (c.args.count - n))) (sym c.size-size.ensures.is) ∙ (ap (λ n. is_some (first cubes n (c.args.count - c.size-size.result))) (sym c.next-next.ensures.is) ∙ (sym c.reaches.ensures ∙ c.if-not-reaches.true)) in
    none_at (first cubes (c.args.least + 1) (c.args.count - size cubes c.args.least)) c.args.least off
    ∙ sym (part_where cubes c.args.count c.args.least 0 c.requires.some c.requires.least (omega (arith, c.size-size.ensures.is, c.if-size-count.false)))

pub returns : goal.returns
returns c =
    let cubes = c.args.self.now in
    let left : ℕ = c.args.count - c.size-size.result in
    let body = some_of (first cubes c.next-next.result left) (sym c.reaches.ensures ∙ c.if-not-reaches.false) in
    let picked : c.complete.new.picked ≡ c.args.least ∷ body.0 = c.complete.ensures body.0 body.1 ∙ ap (λ xs. xs ++ body.0) (c.push.ensures ∙ ap (λ xs. xs ++ c.args.least ∷ []) c.new-picked.ensures) in
    let is : first cubes (c.args.least + 1) (c.args.count - size cubes c.args.least) ≡ Some body.0 =
    ap (λ n. first cubes (c.args.least + 1) (c.args.count - n)) (sym c.size-size.ensures.is) ∙ (ap (λ n. first cubes n left) (sym c.next-next.ensures.is) ∙ body.1) in
    ap Some picked ∙ (ap (option_map (λ rest. c.args.least ∷ rest)) (sym is)
    ∙ sym (part_where cubes c.args.count c.args.least 0 c.requires.some c.requires.least (omega (arith, c.size-size.ensures.is, c.if-size-count.false))))
