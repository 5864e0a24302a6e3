use Rattle.std.proofs.Common.{◌+◌, ◌-◌, vec_len}
use Rattle.sw_pool.specs.Cursors.{ReadsSame}
use Rattle.sw_pool.proofs.cursor.Cursor.reach.Given as goal

abbrev pub invariant-loop-self : goal.invariant-loop-self
invariant-loop-self l = ReadsSame l.initial.self-inside.marks.items l.self-inside.marks.items

abbrev pub decreases-loop-self : goal.decreases-loop-self
decreases-loop-self l = (l.index + 1) - vec_len l.self-inside.marks
