-- A list of filters in which the mark of one is set.
use Rattle.std.specs.Prelude.{◌≡◌, ℕ, zero, suc, ◌+◌, ◌<◌, List, [], ◌∷◌, length, take, drop, get_or, slice_set}
use Rattle.std.proofs.Common.{ap, subst, arith, ◌∙◌}
use Rattle.sw_logic.specs.declared.syntax.Formula.{Formula}
use Rattle.sw_meaning.specs.declared.protocol.Protocol.{Protocol}
use Rattle.sw_filter.specs.declared.filter.Mode.{Mode}
use Rattle.sw_filter.specs.declared.view.Shown.{Shown}
use Rattle.sw_filter.specs.Views.{AreTold, AreMarked, IsMarked, known_of}

pub set_known : (xs : List Shown) (i : ℕ) (d y : Shown) → i < length xs → y.filter.now ≡ (get_or xs i d).filter.now → y.own ≡ (get_or xs i d).own → known_of (slice_set xs i y) ≡ known_of xs
set_known [] i d y h e f = absurd (omega arith)
set_known (z ∷ xs) zero d y h e f = ap (λ x. (x, y.own) ∷ known_of xs) e ∙ ap (λ b. (z.filter.now, b) ∷ known_of xs) f
set_known (z ∷ xs) (suc i) d y h e f = ap (λ k. (z.filter.now, z.own) ∷ k) (set_known xs i d y (omega arith) e f)

module _ (p : Protocol) (m : Mode) (g : List Formula) where
  pub set_marked : (xs : List Shown) (i : ℕ) (y : Shown) → i < length xs → AreMarked p m g (take i xs) → IsMarked p m g y.filter.now y.mark → AreMarked p m g (take (i + 1) (slice_set xs i y))
  set_marked [] i y h a r = absurd (omega arith)
  set_marked (z ∷ xs) zero y h a r = (r, tt)
  set_marked (z ∷ xs) (suc i) y h a r =
      let d : suc (i + 1) ≡ suc i + 1 = omega arith in
      subst (λ n. AreMarked p m g (take n (slice_set (z ∷ xs) (suc i) y))) d (a.0, set_marked xs i y (omega arith) a.1 r)

  pub set_told : (xs : List Shown) (i : ℕ) (y : Shown) → AreTold p m g (drop i xs) → AreTold p m g (drop (i + 1) (slice_set xs i y))
  set_told [] zero y a = tt
  set_told [] (suc i) y a = let d : suc (i + 1) ≡ suc i + 1 = omega arith in subst (λ n. AreTold p m g (drop n [])) d tt
  set_told (z ∷ xs) zero y a = a.1
  set_told (z ∷ xs) (suc i) y a =
      let d : suc (i + 1) ≡ suc i + 1 = omega arith in
      subst (λ n. AreTold p m g (drop n (slice_set (z ∷ xs) (suc i) y))) d (set_told xs i y a)
