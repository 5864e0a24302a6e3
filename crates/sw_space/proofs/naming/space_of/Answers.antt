use Rattle.std.specs.Option.{option_copied}
use Rattle.sw_space.specs.Named.{answer_of}
use Rattle.sw_space.proofs.OneSpace.{no_other}
use Rattle.sw_space.proofs.naming.space_of.Goals as goal

pub returns-clause-no_other : goal.returns-clause-no_other
returns-clause-no_other c = no_other c.args.protocol.now (option_copied c.args.beside) c.args.text.now c.one_space.ensures (answer_of c.read.result) c.read.ensures.has
