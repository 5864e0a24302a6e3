use Rattle.sw_template.proofs.Counting.{listed_on}
use Rattle.sw_template.proofs.Declared.{have_arguments}
use Rattle.sw_template.proofs.literals.table_up_to.Goals as goal

pub loop-d-preserved : goal.loop-d-preserved
loop-d-preserved c = listed_on c.args.sig.now c.args.scope.now (have_arguments c.args.sig.now c.requires.signature) c.loop-d.d _ _ _ c.in_ok-table-2.ensures c.as_slice.ensures c.loop-d.invariant
