-- What each loop has seen so far, and how far a formula and its binders go down.
use Rattle.std.proofs.Common.{◌≡◌, ◌+◌, ◌*◌, length, take, true, false, ◌++◌, ◌∷◌, []}
use Rattle.std.specs.List.{list_all, list_any}
use Rattle.sw_logic.specs.Truth.{world, truth, for_all, exists, all_below, any_below}
use Rattle.sw_logic.proofs.evaluate.World.+formula.Given as goal

abbrev pub decreases-truth : goal.decreases-truth
decreases-truth l = 40 * goal.size-truth l

abbrev pub decreases-all : goal.decreases-all
decreases-all l = 40 * goal.size-all l + 1

abbrev pub decreases-any : goal.decreases-any
decreases-any l = 40 * goal.size-any l + 1

abbrev pub decreases-for_all : goal.decreases-for_all
decreases-for_all l = 40 * goal.size-for_all l + (length l.binders.now + 1)

abbrev pub decreases-exists : goal.decreases-exists
decreases-exists l = 40 * goal.size-exists l + (length l.binders.now + 1)

abbrev pub invariant-all-loop-part : goal.invariant-all-loop-part
invariant-all-loop-part l =
    let w = world l.self.signature.now l.self.before.now l.self.after.now in
    list_all (λ p. truth w p l.env) (take l.part-index l.parts) ≡ true

abbrev pub invariant-any-loop-part : goal.invariant-any-loop-part
invariant-any-loop-part l =
    let w = world l.self.signature.now l.self.before.now l.self.after.now in
    list_any (λ p. truth w p l.env) (take l.part-index l.parts) ≡ false

abbrev pub invariant-for_all-loop-value : goal.invariant-for_all-loop-value
invariant-for_all-loop-value l =
    let w = world l.self.signature.now l.self.before.now l.self.after.now in
    all_below l.value (λ v. for_all w.before.sizes l.inner (truth w l.part) (l.env ++ v ∷ [])) ≡ true

abbrev pub invariant-exists-loop-value : goal.invariant-exists-loop-value
invariant-exists-loop-value l =
    let w = world l.self.signature.now l.self.before.now l.self.after.now in
    any_below l.value (λ v. exists w.before.sizes l.inner (truth w l.part) (l.env ++ v ∷ [])) ≡ false
