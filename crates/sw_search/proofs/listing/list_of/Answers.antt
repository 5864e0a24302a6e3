use Rattle.std.specs.Prelude.{◌≡◌, Option, Some, IfOk}
use Rattle.std.specs.Option.{option_copied}
use Rattle.std.proofs.Common.{sym, ap, subst}
use Rattle.sw_meaning.specs.declared.template.Template.{Template}
use Rattle.sw_search.specs.Phases.{IsListed}
use Rattle.sw_search.specs.Spaces.{template_of}
use Rattle.sw_search.proofs.listing.list_of.Goals as goal

pub returns-in-Some : goal.returns-in-Some
returns-in-Some g c =
    let same : template_of (option_copied c.args.space) ≡ Some c.in-Some.space.now.template = ap (λ b. template_of (option_copied b)) c.in-Some.is in
    subst (λ (t : Option Template). IfOk c.list.result (IsListed c.args.protocol.now t c.args.workers c.args.budget)) (sym same) c.list.ensures
