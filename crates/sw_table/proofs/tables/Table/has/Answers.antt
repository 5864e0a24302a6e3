use Rattle.std.proofs.Common.{ℕ, Option, is_some, ap, ◌∙◌}
use Rattle.std.specs.Str.{bytes_eq}
use Rattle.sw_table.proofs.Firsts.{is_some-position}
use Rattle.sw_table.proofs.tables.Table.has.Goals as goal

pub returns : goal.returns
returns c = c.is_some.ensures ∙ ap (λ (o : Option ℕ). is_some o) c.find.ensures ∙ is_some-position (bytes_eq c.args.name.now) c.args.self.now
