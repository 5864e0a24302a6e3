use Rattle.std.proofs.Common.{sym, ◌∙◌}
use Rattle.sw_table.proofs.Firsts.{is_this, is_other, taken, left}
use Rattle.sw_table.proofs.places.take.Goals as goal

pub returns-then-eq : goal.returns-then-eq
returns-then-eq c = λ names h last.
    let same = is_this c.copied.result c.args.place (sym c.eq.ensures ∙ c.if-eq.true) in
    let found = rw (c.copied.ensures, c.get.ensures.value, last) at same in
    taken c.args.places.now c.args.name.now names c.remove.new.self found c.remove.ensures.updates h

pub returns-else-eq : goal.returns-else-eq
returns-else-eq c = λ names h last.
    let other = is_other c.copied.result c.args.place (sym c.eq.ensures ∙ c.if-eq.false) in
    let differs = rw (c.copied.ensures, c.get.ensures.value, last) at other in
    left c.args.places.now c.args.name.now names differs h
