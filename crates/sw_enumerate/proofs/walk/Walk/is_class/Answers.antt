use Rattle.std.specs.Prelude.{IsTrue}
use Rattle.std.proofs.Common.{◌≡◌, ◌==◌, ◌<◌, ℕ, Bool, true, false, not, length, arith, sym, ◌∙◌, subst}
use Rattle.std.proofs.lemmas.Bool.{eqb-true, false≢true}
use Rattle.sw_enumerate.specs.Walk.{AreSmall}
use Rattle.sw_enumerate.proofs.Testing.{class_is, is_class}
use Rattle.sw_enumerate.proofs.walk.Walk.is_class.Goals as goal

some_of : (n : ℕ) → (n == 0) ≡ false → 0 < n
some_of n e = grind arith

off : (b : Bool) → b ≡ true → IsTrue (not b) → ⊥
off true e h = false≢true h
off false e h = false≢true e

pub returns-then-not-is_empty : goal.returns-then-not-is_empty
returns-then-not-is_empty c =
    let cubes = c.args.self.now in
    let small : AreSmall cubes = subst AreSmall c.self.view_is c.self.invariant.1 in
    let some : 0 < length c.args.body.now = some_of (length c.args.body.now) (sym c.is_empty.ensures ∙ c.if-not-is_empty.true) in (
      λ t. is_class cubes small c.args.most c.args.body.now (record { some = some; rest = c.is_rest.ensures.0 t }),
      λ m. c.is_rest.ensures.1 ((class_is cubes small c.args.most c.args.body.now m).rest),
    )

pub returns-else-not-is_empty : goal.returns-else-not-is_empty
returns-else-not-is_empty c =
    let cubes = c.args.self.now in
    let small : AreSmall cubes = subst AreSmall c.self.view_is c.self.invariant.1 in
    let none : length c.args.body.now ≡ 0 = eqb-true (length c.args.body.now) 0 (sym c.is_empty.ensures ∙ c.if-not-is_empty.false) in (
      λ t. absurd (off c.is_empty.result c.if-not-is_empty.false t),
      λ m. let some : 0 < length c.args.body.now = (class_is cubes small c.args.most c.args.body.now m).some in absurd (omega (arith, some, none)),
    )
