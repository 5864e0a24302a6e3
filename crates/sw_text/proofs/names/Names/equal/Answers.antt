use Rattle.std.proofs.Common.{refl}
use Rattle.sw_text.specs.declared.names.Wanted.TheVariants as wanted
use Rattle.sw_text.specs.Names.{term_faults, right_wanted}
use Rattle.sw_text.specs.Resolving.{around}
use Rattle.sw_text.proofs.Breaking.{begins_front}
use Rattle.sw_text.proofs.names.Names.equal.Goals as goal

pub returns-in-Broken : goal.returns-in-Broken
returns-in-Broken c =
    let a = around c.args.self.now in
    let scope = c.args.scope.now in
    let first = rw c.in-Broken.is at c.in_ok-term.ensures in
    begins_front _ (term_faults a scope c.args.left.now wanted.Value) (term_faults a scope c.args.right.now (right_wanted a scope c.args.left.now)) c.in-Broken.violation refl first
