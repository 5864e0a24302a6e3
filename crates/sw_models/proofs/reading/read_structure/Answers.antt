use Rattle.sw_models.proofs.Complete.{no_other, right_structure, complete}
use Rattle.sw_models.proofs.reading.read_structure.Goals as goal

pub returns-in-Ok-clause-no_other : goal.returns-in-Ok-clause-no_other
returns-in-Ok-clause-no_other c r other = no_other c.args.sig.now c.args.text.now c.read_lines.result r c.read_lines.ensures other

pub returns-in-Ok-clause-is : goal.returns-in-Ok-clause-is
returns-in-Ok-clause-is c = right_structure c.args.sig.now c.args.text.now c.read_lines.result c.read_lines.ensures

pub returns-in-Ok-clause-complete : goal.returns-in-Ok-clause-complete
returns-in-Ok-clause-complete c s = complete c.args.sig.now c.args.text.now c.read_lines.result s c.read_lines.ensures
