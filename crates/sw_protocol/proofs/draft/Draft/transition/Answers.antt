use Rattle.std.proofs.Common.{refl, subst}
use Rattle.sw_text.specs.declared.names.Place.TheVariants as place
use Rattle.sw_text.specs.Names.{Around}
use Rattle.sw_text.proofs.Breaking.{begins_front}
use Rattle.sw_protocol.specs.Declaring.{name_faults, named_faults, with_own_name}
use Rattle.sw_protocol.specs.Drafts.{reading, IsFirst}
use Rattle.sw_protocol.proofs.draft.Draft.transition.Goals as goal

pub returns-in-Some : goal.returns-in-Some
returns-in-Some c =
    let a = reading c.args.text.now c.args.self.now place.OneState in
    let h = c.args.heading.now in
    let found = subst (λ (b : Around). IsFirst (name_faults b h.name) c.new_name.result) c.names.ensures c.new_name.ensures in
    let first = rw c.in-Some.is at found in
    begins_front _ (name_faults a h.name) (named_faults (with_own_name a h) h c.args.tree.now) c.in-Some.violation refl first
