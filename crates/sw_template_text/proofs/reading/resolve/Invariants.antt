use Rattle.std.proofs.Common.{take}
use Rattle.sw_template_text.specs.Texts.{AreRuns}
use Rattle.sw_template_text.proofs.reading.resolve.Given as goal

abbrev pub invariant-loop-named : goal.invariant-loop-named
invariant-loop-named l = AreRuns l.sig l.text (take l.named-index l.runs) l.prefix
