-- The cubes that are made over a template's atoms are the template's.
use Rattle.std.specs.Prelude.{◌≡◌, ℕ, zero, suc, ◌+◌, ◌*◌, ◌<◌, ◌≤◌, ◌==◌, Bool, true, false, cond, List, [], ◌∷◌, length}
use Rattle.std.specs.List.{AllByRecursion, flat_map, range_with_len}
use Rattle.std.proofs.Common.{arith, sym, ap}
use Rattle.sw_logic.specs.declared.syntax.Formula.{Formula}
use Rattle.sw_logic.specs.declared.syntax.Signature.{Signature}
use Rattle.sw_meaning.specs.declared.template.Template.{Template}
use Rattle.sw_meaning.specs.Classes.{atoms, cubes, both_signs, choices, cubes_of}
use Rattle.sw_lists.proofs.Each.{each-flat_map, each-weaker}
use Rattle.sw_cover.proofs.Rising.{IsChoice, each_choice}
use Rattle.sw_template.specs.declared.errors.CubesError.{CubesError}
use Rattle.sw_template.specs.Limits.{RefusesCubes}
use Rattle.sw_enumerate.specs.Refusals.{RefusesSpace, of_cubes}
use Rattle.sw_enumerate.specs.Walk.{AreSmall}

signs : (fs : List Formula) → length (flat_map both_signs fs) ≡ 2 * length fs
signs [] = omega arith
signs (f ∷ fs) = omega (arith, signs fs)

pub cubes_same : (sig : Signature) (t : Template) → cubes_of (2 * length (atoms sig t)) t ≡ cubes sig t
cubes_same sig t = ap (λ n. cubes_of n t) (sym (signs (atoms sig t)))

pub each_in_range : (P : ℕ → Type 0) (a n : ℕ) → ((c : ℕ) → a ≤ c → c < a + n → P c) → AllByRecursion P (range_with_len a n)
each_in_range P a zero f = tt
each_in_range P a (suc n) f = (f a (omega arith) (omega arith), each_in_range P (a + 1) n (λ c low high. f c (omega arith) (omega arith)))

pub small_cubes : (literals : ℕ) (t : Template) → t.literals ≤ 6 → AreSmall (cubes_of literals t)
small_cubes literals t h =
    let k : ℕ = cond (t.depth == 1) 1 t.literals in
    let few : k ≤ 6 = bounded (t.depth == 1) in
    each-flat_map (λ cube. (0 < length cube) × (length cube ≤ 6)) (λ n. choices n (range_with_len 0 literals)) (range_with_len 1 k)
    (each_in_range (λ n. AllByRecursion (λ cube. (0 < length cube) × (length cube ≤ 6)) (choices n (range_with_len 0 literals))) 1 k
    (λ n low high. each-weaker (IsChoice n (0 + literals)) (λ cube. (0 < length cube) × (length cube ≤ 6)) (λ cube c. (omega (arith, c.size, low), omega (arith, c.size, high, few))) (choices n (range_with_len 0 literals)) (each_choice n 0 literals)))
  where
    bounded : (b : Bool) → cond b 1 t.literals ≤ 6
    bounded true = omega arith
    bounded false = h

pub refused : (sig : Signature) (t : Template) (e : CubesError) → length (atoms sig t) ≤ 512 → RefusesCubes (length (cubes sig t)) e → RefusesSpace sig t (of_cubes e)
refused sig t (CubesError.CubesOver n) few r = (few, r)
refused sig t CubesError.Memory few r = tt
