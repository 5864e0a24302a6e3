use Rattle.std.proofs.Common.{ℕ, List, ap, ◌∙◌}
use Rattle.std.specs.List.{position}
use Rattle.std.specs.Str.{bytes_eq}
use Rattle.sw_logic.specs.declared.syntax.Symbol.{Symbol}
use Rattle.sw_text.proofs.Placing.{position-map}
use Rattle.sw_text.proofs.names.Names.symbol_place.Goals as goal

pub returns : goal.returns
returns c =
    c.find.ensures
    ∙ ap (λ (ns : List (List ℕ)). position (bytes_eq c.args.name.now) ns) c.args.self.now.of_signature.1
    ∙ position-map (bytes_eq c.args.name.now) (λ (s : Symbol). s.name) c.args.self.now.signature.now.symbols
