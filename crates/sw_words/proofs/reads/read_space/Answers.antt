use Rattle.std.specs.Prelude.{string_bytes}
use Rattle.sw_words.proofs.Drills.{space_none}
use Rattle.sw_words.proofs.reads.read_space.Goals as goal

pub returns-then-words-ne1-clause-usage : goal.returns-then-words-ne1-clause-usage
returns-then-words-ne1-clause-usage c = λ usage. space_none (λ w. string_bytes w) c.args.words.now c.requires c.if-words-ne1.true
