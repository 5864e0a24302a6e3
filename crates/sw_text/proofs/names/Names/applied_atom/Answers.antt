use Rattle.std.proofs.Common.{ℕ, List, length, map, refl, ap, ◌∙◌}
use Rattle.std.proofs.lemmas.List.{length-map}
use Rattle.sw_text.specs.declared.names.Violation.{Violation}
use Rattle.sw_text.specs.declared.names.Wanted.TheVariants as wanted
use Rattle.sw_text.specs.Names.{head_faults, args_faults, head_sorts, head_of, term_faults}
use Rattle.sw_text.specs.Resolving.{around}
use Rattle.sw_text.proofs.Breaking.{begins_front}
use Rattle.sw_text.proofs.names.Names.applied_atom.Goals as goal

pub returns-in-Broken : goal.returns-in-Broken
returns-in-Broken c =
    let a = around c.args.self.now in
    let head = rw c.in-Broken.is at c.in_ok-head.ensures in
    let found = map (term_faults a c.args.scope.now) c.args.args.now in
    let front : ℕ → List Violation = λ n. head_faults a c.args.scope.now c.args.word c.args.primed n wanted.Atom in
    begins_front _ (front (length found)) (args_faults found (head_sorts a (head_of a c.args.scope.now c.args.word))) c.in-Broken.violation refl
    (head.0, ap front (length-map c.args.args.now (term_faults a c.args.scope.now)) ∙ head.1)
