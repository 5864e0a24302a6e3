use Rattle.std.proofs.Common.{ℕ, List, ap, ◌∙◌}
use Rattle.std.specs.List.{list_any}
use Rattle.std.specs.Str.{bytes_eq}
use Rattle.sw_lists.proofs.Tests.{list_any-map}
use Rattle.sw_text.specs.Names.{bytes_at}
use Rattle.sw_protocol.proofs.declaring.is_among.Goals as goal

pub returns : goal.returns
returns c =
    c.has.ensures
    ∙ ap (λ (ns : List (List ℕ)). list_any (bytes_eq c.args.name.now) ns) c.requires
    ∙ list_any-map (bytes_eq c.args.name.now) (bytes_at c.args.text.now) c.args.words.now
