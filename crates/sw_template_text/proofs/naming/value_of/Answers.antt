use Rattle.sw_template_text.proofs.Digits.{small}
use Rattle.sw_template_text.proofs.naming.value_of.Goals as goal

pub with_digit-value-requires-clause-value : goal.with_digit-value-requires-clause-value
with_digit-value-requires-clause-value c = small c.args.digits.now c.loop-byte.byte-index c.loop-byte.value c.requires.digits c.requires.few c.loop-byte-test.true c.loop-byte.invariant
