use Rattle.std.specs.Option.{option_copied}
use Rattle.std.proofs.Common.{subst}
use Rattle.sw_search.specs.Phases.{IsListed}
use Rattle.sw_search.specs.Spaces.{template_of}
use Rattle.sw_search.proofs.searching.search.Goals as goal

pub returns-in-Stopped : goal.returns-in-Stopped
returns-in-Stopped g c =
    let told = subst (IsListed c.args.protocol.now (template_of (option_copied c.args.breadth)) c.args.workers c.args.budget) c.in-Stopped.is c.in_ok-list.ensures in
    told (template_of (option_copied c.args.finish))
