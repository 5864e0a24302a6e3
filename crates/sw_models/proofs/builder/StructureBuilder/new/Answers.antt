use Rattle.std.proofs.Common.{◌∙◌, sym}
use Rattle.sw_models.proofs.Blank.{new_is_building}
use Rattle.sw_models.proofs.builder.StructureBuilder.new.Goals as goal

pub invariant_of-result : goal.invariant_of-result
invariant_of-result c =
    new_is_building c.args.sig.now c.args.sizes.items c.as_slice.result.now c.as_slice-2.result.now c.from_vec.result c.as_slice-3.result.now c.in_ok-tables.tables.items
    c.requires.sorts c.requires.sizes (sym c.zero_at.ensures ∙ c.in_default.is) c.as_slice.ensures.value c.as_slice-2.ensures.value c.as_slice-3.ensures c.from_vec.ensures
    c.in_ok-tables.ensures
