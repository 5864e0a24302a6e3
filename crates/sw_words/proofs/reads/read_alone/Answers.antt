use Rattle.std.specs.Prelude.{◌<◌, length, string_bytes}
use Rattle.std.proofs.Common.{rules, tests}
use Rattle.sw_words.proofs.Drills.{alone_none}
use Rattle.sw_words.proofs.reads.read_alone.Goals as goal

pub returns-then-not-is_empty-clause-usage : goal.returns-then-not-is_empty-clause-usage
returns-then-not-is_empty-clause-usage c =
    let some : 0 < length c.args.words.now = search (rules, tests) in
    λ usage. alone_none (λ w. string_bytes w) c.args.command c.args.words.now c.requires some
