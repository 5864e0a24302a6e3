use Rattle.std.proofs.Common.{◌++◌, refl}
use Rattle.sw_text.specs.Resolving.{around}
use Rattle.sw_text.proofs.Breaking.{begins_front, begins_back}
use Rattle.sw_protocol.specs.Declaring.{name_faults, sorts_faults, sort_faults}
use Rattle.sw_protocol.proofs.declaring.function.Goals as goal

pub returns-in-Some : goal.returns-in-Some
returns-in-Some c =
    let a = around c.args.names.now in
    let first = rw c.in-Some.is at c.new_name.ensures in
    begins_front _ (name_faults a c.args.name) (sorts_faults a c.args.sorts.now ++ sort_faults a c.args.sort) c.in-Some.violation refl first

pub returns-in-Broken : goal.returns-in-Broken
returns-in-Broken c =
    let a = around c.args.names.now in
    let none = rw c.in_default.is at c.new_name.ensures in
    let first = rw c.in-Broken.is at c.in_ok-args.ensures in
    begins_back _ (name_faults a c.args.name) (sorts_faults a c.args.sorts.now ++ sort_faults a c.args.sort) c.in-Broken.violation refl none
    (begins_front _ (sorts_faults a c.args.sorts.now) (sort_faults a c.args.sort) c.in-Broken.violation refl first)
