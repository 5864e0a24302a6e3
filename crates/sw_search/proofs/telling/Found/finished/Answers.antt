use Rattle.std.specs.Prelude.{Option, string_bytes}
use Rattle.std.specs.Option.{option_copied}
use Rattle.std.proofs.Common.{sym, subst}
use Rattle.sw_enumerate.specs.Spaces.{Made}
use Rattle.sw_search.specs.Phases.{IsFinished}
use Rattle.sw_search.specs.Searches.{IsStopped}
use Rattle.sw_search.specs.Spaces.{template_of}
use Rattle.sw_search.proofs.telling.Found.finished.Goals as goal

pub returns-in-Stopped : goal.returns-in-Stopped
returns-in-Stopped g c =
    let found = c.args.self.now in
    let t = template_of (option_copied found.breadth) in
    let told = subst (IsFinished found.protocol.now t c.args.space.now.template found.workers found.budget found.list.now) c.in-Stopped.is c.in_ok-formula.ensures in
    subst (λ (o : Option Made). IsStopped found.protocol.now t (template_of o) found.workers found.budget (string_bytes c.in-Stopped.line)) (sym c.requires.space) told
