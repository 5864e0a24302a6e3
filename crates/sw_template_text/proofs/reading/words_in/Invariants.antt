use Rattle.std.proofs.Common.{◌≡◌, take}
use Rattle.sw_template_text.specs.Texts.{words_of}
use Rattle.sw_template_text.proofs.reading.words_in.Given as goal

abbrev pub invariant-loop-token : goal.invariant-loop-token
invariant-loop-token l = l.words.items ≡ words_of l.text (take l.token-index l.tokens)
