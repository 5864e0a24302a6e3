use Rattle.std.proofs.Common.{◌≡◌, length, arith, ◌∙◌}
use Rattle.sw_meaning.specs.Classes.{atoms}
use Rattle.sw_template.specs.Counts.{capped}
use Rattle.sw_template.proofs.Counting.{scope_few, told_all, atoms_told, atoms_made, within}
use Rattle.sw_template.proofs.Declared.{have_arguments}
use Rattle.sw_template.proofs.literals.Literals.new.Goals as goal

pub counts_up_to-requires-clause-scope : goal.counts_up_to-requires-clause-scope
counts_up_to-requires-clause-scope c = scope_few c.args.template.now c.as_slice.result.now c.in-Ok.scope c.requires.variables c.as_slice.ensures c.in-Ok.ensures

pub table_up_to-requires-clause-scope : goal.table_up_to-requires-clause-scope
table_up_to-requires-clause-scope c = scope_few c.args.template.now c.as_slice-3.result.now c.in-Ok.scope c.requires.variables c.as_slice-3.ensures c.in-Ok.ensures

pub count_atoms-n-requires-clause-most : goal.count_atoms-n-requires-clause-most
count_atoms-n-requires-clause-most c = told_all c.args.sig.now c.as_slice.result.now (have_arguments c.args.sig.now c.requires.signature) c.args.template.now.terms c.as_slice-2.result.now (c.as_slice-2.ensures ∙ c.in-Ok-counts_up_to.ensures)

pub returns-then-n-clause-refused : goal.returns-then-n-clause-refused
returns-then-n-clause-refused c =
    let told : c.count_atoms-n.result ≡ capped (length (atoms c.args.sig.now c.args.template.now)) =
    atoms_told c.args.sig.now c.args.template.now (have_arguments c.args.sig.now c.requires.signature) c.count_atoms-n.result c.as_slice-2.result.now c.in-Ok-counts_up_to.counts c.as_slice.result.now c.in-Ok.scope c.count_atoms-n.ensures c.as_slice-2.ensures c.in-Ok-counts_up_to.ensures c.as_slice.ensures c.in-Ok.ensures in
    record { over = omega (arith, told, c.if-n.true); is = told }

pub returns-clause-ok : goal.returns-clause-ok
returns-clause-ok c =
    atoms_made c.args.sig.now c.args.template.now (have_arguments c.args.sig.now c.requires.signature) c.in-Ok-atoms_of.atoms c.as_slice-4.result.now c.in-Ok-table_up_to.table c.as_slice-3.result.now c.in-Ok.scope c.in-Ok-atoms_of.ensures c.as_slice-4.ensures c.in-Ok-table_up_to.ensures c.as_slice-3.ensures c.in-Ok.ensures

pub returns-clause-within : goal.returns-clause-within
returns-clause-within c =
    within c.args.sig.now c.args.template.now c.count_atoms-n.result c.in-Ok-atoms_of.atoms
    (atoms_told c.args.sig.now c.args.template.now (have_arguments c.args.sig.now c.requires.signature) c.count_atoms-n.result c.as_slice-2.result.now c.in-Ok-counts_up_to.counts c.as_slice.result.now c.in-Ok.scope c.count_atoms-n.ensures c.as_slice-2.ensures c.in-Ok-counts_up_to.ensures c.as_slice.ensures c.in-Ok.ensures)
    c.if-n.false
    (atoms_made c.args.sig.now c.args.template.now (have_arguments c.args.sig.now c.requires.signature) c.in-Ok-atoms_of.atoms c.as_slice-4.result.now c.in-Ok-table_up_to.table c.as_slice-3.result.now c.in-Ok.scope c.in-Ok-atoms_of.ensures c.as_slice-4.ensures c.in-Ok-table_up_to.ensures c.as_slice-3.ensures c.in-Ok.ensures)

pub invariant_of-result : goal.invariant_of-result
invariant_of-result c =
    within c.args.sig.now c.args.template.now c.count_atoms-n.result c.in-Ok-atoms_of.atoms
    (atoms_told c.args.sig.now c.args.template.now (have_arguments c.args.sig.now c.requires.signature) c.count_atoms-n.result c.as_slice-2.result.now c.in-Ok-counts_up_to.counts c.as_slice.result.now c.in-Ok.scope c.count_atoms-n.ensures c.as_slice-2.ensures c.in-Ok-counts_up_to.ensures c.as_slice.ensures c.in-Ok.ensures)
    c.if-n.false
    (atoms_made c.args.sig.now c.args.template.now (have_arguments c.args.sig.now c.requires.signature) c.in-Ok-atoms_of.atoms c.as_slice-4.result.now c.in-Ok-table_up_to.table c.as_slice-3.result.now c.in-Ok.scope c.in-Ok-atoms_of.ensures c.as_slice-4.ensures c.in-Ok-table_up_to.ensures c.as_slice-3.ensures c.in-Ok.ensures)
