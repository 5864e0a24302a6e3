use Rattle.std.proofs.Common.{◌≡◌, ◌∙◌, sym}
use Rattle.std.proofs.lemmas.Slice.Eq.{slice_eq-Decides}
use Rattle.std.specs.Cmp.{booleans_Decides}
use Rattle.sw_filter.proofs.admitting.are_same.Goals as goal

pub returns-in-Bits-Bits : goal.returns-in-Bits-Bits
returns-in-Bits-Bits c =
    let d = slice_eq-Decides booleans_Decides c.as_slice.result.now c.as_slice-in-Bits-Bits.result.now c.eq.result c.eq.ensures in
    let bits = c.as_slice.ensures in
    let others = c.as_slice-in-Bits-Bits.ensures in
    let table = c.in-Bits-Bits.is-0 in
    let other = c.in-Bits-Bits.is-1 in
    (λ h. let e = d.0 h in cc, λ h. let e : c.in-Bits-Bits.bits ≡ c.in-Bits-Bits.others = cc in d.1 (bits ∙ e ∙ sym others))
