use Rattle.std.specs.Option.{option_copied}
use Rattle.sw_search.proofs.Lists.{can_ask}
use Rattle.sw_search.proofs.telling.Found.tell.Goals as goal

pub judge_safety-requires-clause-ask : goal.judge_safety-requires-clause-ask
judge_safety-requires-clause-ask g c =
    let found = c.args.self.now in
    can_ask found.protocol.now (option_copied found.breadth) (option_copied found.finish) found.workers found.budget found.list.now c.requires.found
