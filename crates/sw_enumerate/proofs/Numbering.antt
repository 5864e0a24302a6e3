-- The number of a part, and what it says.
use Rattle.std.specs.Prelude.{◌⊎◌, ◌≡◌, ℕ, suc, ◌+◌, ◌*◌, ◌/◌, ◌%◌, ◌<◌, ◌≤◌, length}
use Rattle.std.proofs.Common.{arith, subst, ap, ◌∙◌, inl, inr}
use Rattle.std.proofs.lemmas.Bool.{cases_lt}
use Rattle.std.proofs.Math.Nat.{mul-le-mul_left}
use Rattle.sw_meaning.specs.Classes.{part_of}
use Rattle.sw_enumerate.specs.Spaces.{Made, parts_in, part_in}
use Rattle.sw_enumerate.proofs.Steps.{part_at_is, parts_count}

pub record Numbered (k C part : ℕ) : Type 0 where
  pub some : 0 < C
  pub literals : part / C < k
  pub least : part % C < C
  pub is : part ≡ (part / C) * C + part % C

pub numbered : (k C part : ℕ) → part < k * C → Numbered k C part
numbered k C part h = record { some = some; literals = below (cases_lt (part / C) k); least = omega (arith, some); is = whole }
  where
    some : 0 < C
    some = elim (cases_lt 0 C) [
      | inl lt ↦ lt
      | inr le ↦ let e : C ≡ 0 = omega (arith, le) in let g : k * C ≡ k * 0 = ap (λ n. k * n) e in absurd (omega (arith, h, g))
    ]

    whole : part ≡ (part / C) * C + part % C
    whole = omega (arith, some)

    below : (part / C < k) ⊎ (k ≤ part / C) → part / C < k
    below (inl lt) = lt
    below (inr le) = let g : C * k ≤ C * (part / C) = mul-le-mul_left C le in absurd (omega (arith, h, g, some))

pub in_space : (s : Made) (part : ℕ) → part < length (parts_in s) → Numbered s.template.literals (length s.cubes) part
in_space s part h = numbered s.template.literals (length s.cubes) part (subst (λ n. part < n) (parts_count s.template.literals s.cubes) h)

pub part_where : (s : Made) (part : ℕ) → part < length (parts_in s) → part_in s part ≡ part_of s.cubes (part / length s.cubes + 1) (part % length s.cubes)
part_where s part h =
    let n : Numbered s.template.literals (length s.cubes) part = in_space s part h in
    ap (part_in s) n.is ∙ (part_at_is s.template.literals s.cubes (part / length s.cubes) (part % length s.cubes) n.literals n.least
    ∙ ap (λ m. part_of s.cubes m (part % length s.cubes)) (let e : suc (part / length s.cubes) ≡ part / length s.cubes + 1 = omega arith in e))
