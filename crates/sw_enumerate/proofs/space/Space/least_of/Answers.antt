use Rattle.std.proofs.Common.{◌≡◌, ℕ, ◌<◌, ◌%◌, ◌/◌, ◌+◌, length, sym, ap, ◌∙◌, arith, subst}
use Rattle.sw_meaning.specs.Classes.{part_of}
use Rattle.sw_enumerate.proofs.Numbering.{in_space, part_where}
use Rattle.sw_enumerate.proofs.space.Space.least_of.Goals as goal

below_count : (n C count part : ℕ) → C ≡ count → part % C < C → part % count < count
below_count n C count part e h = subst (λ k. part % k < k) e h

pub nonzero_rem-result : goal.nonzero_rem-result
nonzero_rem-result c =
    let n = in_space c.args.self.now c.args.part c.requires in
    let same : length c.args.self.now.cubes ≡ c.count.result = ap (λ s. length s.cubes) (sym c.self.view_is) ∙ sym c.count.ensures in
    omega (arith, n.some, same)

pub overflow_cast-result-2 : goal.overflow_cast-result-2
overflow_cast-result-2 c =
    let n = in_space c.args.self.now c.args.part c.requires in
    let same : length c.args.self.now.cubes ≡ c.count.result = ap (λ s. length s.cubes) (sym c.self.view_is) ∙ sym c.count.ensures in
    let low : c.args.part % c.count.result < c.count.result = below_count 0 (length c.args.self.now.cubes) c.count.result c.args.part same n.least in
    omega (arith, low)

pub returns-clause-below : goal.returns-clause-below
returns-clause-below c =
    let n = in_space c.args.self.now c.args.part c.requires in
    let same : length c.args.self.now.cubes ≡ c.count.result = ap (λ s. length s.cubes) (sym c.self.view_is) ∙ sym c.count.ensures in
    subst (λ k. c.args.part % k < length c.args.self.now.cubes) same n.least

pub returns-clause-part : goal.returns-clause-part
returns-clause-part c =
    let same : length c.args.self.now.cubes ≡ c.count.result = ap (λ s. length s.cubes) (sym c.self.view_is) ∙ sym c.count.ensures in
    part_where c.args.self.now c.args.part c.requires ∙ ap (λ k. part_of c.args.self.now.cubes (c.args.part / length c.args.self.now.cubes + 1) (c.args.part % k)) same
