use Rattle.std.specs.Prelude.{◌++◌, unwrap_or}
use Rattle.std.specs.Option.{is_some}
use Rattle.std.proofs.Common.{◌≡◌, ℕ, ◌+◌, ◌-◌, ◌<◌, ◌≤◌, length, false, List, [], arith, ap, ◌∙◌, sym, subst}
use Rattle.sw_enumerate.specs.Walk.{first, size}
use Rattle.sw_enumerate.proofs.Completing.{Completing, takes, leaves, finished, still}
use Rattle.sw_enumerate.proofs.walk.Walk.complete.Goals as goal
use Rattle.sw_enumerate.proofs.walk.Walk.complete.Goals.{then-size-left+then-reaches, else-size-left, else-size-left-via-then-size-left+else-reaches, else-size-left-via-else-size-left}

pub size-size-requires : goal.size-size-requires
size-size-requires c = still c.args.self.now c.loop-left.at c.loop-left.left c.count-total.result c.loop-left.picked _ c.loop-left.invariant (omega (arith, c.loop-left-test.true))

pub loop-left-preserved : goal.loop-left-preserved
loop-left-preserved c =
    let cubes = c.args.self.now in
    let at = c.loop-left.at in
    let left = c.loop-left.left in
    let target : List ℕ = c.args.picked.now ++ unwrap_or (first cubes c.args.from c.args.count) [] in
    let inv : Completing cubes at left c.count-total.result c.loop-left.picked target = c.loop-left.invariant in
    let some : 0 < left = omega (arith, c.loop-left-test.true) in
    let here : at < length cubes = still cubes at left c.count-total.result c.loop-left.picked target inv some in
    let low : at < c.count-total.result = omega (arith, here, inv.all) in
    let size_is : c.size-size.result ≡ size cubes at = c.size-size.ensures.is in
    elim c.if-size-left.branch [
      | then-size-left+then-reaches w ↦
          takes cubes at left c.count-total.result c.loop-left.picked target inv some low
          (omega (arith, size_is, w.if-size-left.true)) (omega (arith, size_is, c.size-size.ensures.some))
          (ap (λ k. is_some (first cubes (at + 1) (left - k))) (sym size_is) ∙ (sym w.reaches.ensures ∙ w.if-reaches.true))
          c.if-size-left.picked c.if-size-left.left (w.picked-is ∙ w.push.ensures) (w.left-is ∙ ap (λ k. left - k) size_is)
      | else-size-left w ↦
          let no_take : (size cubes at ≤ left → is_some (first cubes (at + 1) (left - size cubes at)) ≡ false) =
          elim w.else-size-left.branch [
            | else-size-left-via-then-size-left+else-reaches v ↦ λ le. ap (λ k. is_some (first cubes (at + 1) (left - k))) (sym size_is) ∙ (sym v.reaches.ensures ∙ v.if-reaches.false)
            | else-size-left-via-else-size-left v ↦ λ le. absurd (omega (arith, le, size_is, v.if-size-left.false))
          ] in
          let next : Completing cubes (at + 1) left c.count-total.result c.loop-left.picked target = leaves cubes at left c.count-total.result c.loop-left.picked target inv some low no_take in
          subst (λ n. Completing cubes (at + 1) n c.count-total.result c.if-size-left.picked target) (sym w.left-is)
          (subst (λ xs. Completing cubes (at + 1) left c.count-total.result xs target) (sym w.picked-is) next)
    ]

pub returns : goal.returns
returns c body e =
    let cubes = c.args.self.now in
    finished cubes c.loop-left.at c.loop-left.left c.count-total.result c.loop-left.picked _ c.loop-left.invariant (omega (arith, c.loop-left-test.false))
    ∙ ap (λ o. c.args.picked.now ++ unwrap_or o []) e
