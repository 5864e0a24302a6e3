use Rattle.std.proofs.Common.{[], ◌++◌, refl}
use Rattle.sw_text.specs.declared.names.Place.TheVariants as place
use Rattle.sw_text.specs.Names.{binders_faults, faults}
use Rattle.sw_text.proofs.Breaking.{begins_front, begins_back}
use Rattle.sw_protocol.specs.Declaring.{params_of, in_step, modified_faults}
use Rattle.sw_protocol.specs.Drafts.{reading}
use Rattle.sw_protocol.proofs.draft.Draft.named_transition.Goals as goal

pub returns-in-Some : goal.returns-in-Some
returns-in-Some c =
    let a = reading c.args.text.now c.args.self.now place.OneState in
    let h = c.args.heading.now in
    let first = rw (c.in-Some.is, c.names-names.ensures, c.new-params.ensures.items, c.as_slice.ensures) at c.in_ok-violation.ensures in
    begins_front _ (binders_faults a [] h.params) (modified_faults a [] h.modifies ++ faults (in_step a h) c.args.tree.now (params_of a h)) c.in-Some.violation refl first

pub returns-in-Broken : goal.returns-in-Broken
returns-in-Broken c =
    let a = reading c.args.text.now c.args.self.now place.OneState in
    let h = c.args.heading.now in
    let none = rw (c.in_default.is, c.names-names.ensures, c.new-params.ensures.items, c.as_slice.ensures) at c.in_ok-violation.ensures in
    let first = rw (c.in-Broken.is, c.names-names.ensures, c.as_slice-2.ensures) at c.in_ok-modifies.ensures in
    begins_back _ (binders_faults a [] h.params) (modified_faults a [] h.modifies ++ faults (in_step a h) c.args.tree.now (params_of a h)) c.in-Broken.violation refl none.0
    (begins_front _ (modified_faults a [] h.modifies) (faults (in_step a h) c.args.tree.now (params_of a h)) c.in-Broken.violation refl first)
