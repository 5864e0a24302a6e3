use Rattle.std.proofs.Common.{ℕ, List, ap, ◌∙◌}
use Rattle.std.specs.List.{list_any}
use Rattle.std.specs.Str.{bytes_eq}
use Rattle.sw_logic.specs.declared.syntax.Symbol.{Symbol}
use Rattle.sw_lists.proofs.Tests.{list_any-map}
use Rattle.sw_text.proofs.names.Names.is_symbol.Goals as goal

pub returns : goal.returns
returns c =
    c.has.ensures
    ∙ ap (λ (ns : List (List ℕ)). list_any (bytes_eq c.args.name.now) ns) c.args.self.now.of_signature.1
    ∙ list_any-map (bytes_eq c.args.name.now) (λ (s : Symbol). s.name) c.args.self.now.signature.now.symbols
