use Rattle.std.proofs.Common.{refl}
use Rattle.sw_text.specs.Resolving.{around}
use Rattle.sw_text.proofs.Breaking.{begins_front}
use Rattle.sw_protocol.specs.Declaring.{name_faults, sorts_faults}
use Rattle.sw_protocol.proofs.declaring.relation.Goals as goal

pub returns-in-Some : goal.returns-in-Some
returns-in-Some c =
    let a = around c.args.names.now in
    let first = rw c.in-Some.is at c.new_name.ensures in
    begins_front _ (name_faults a c.args.name) (sorts_faults a c.args.sorts.now) c.in-Some.violation refl first
