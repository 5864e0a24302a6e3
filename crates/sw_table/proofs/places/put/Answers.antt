use Rattle.std.proofs.Common.{Some, ℕ, subst, sym, ◌∙◌}
use Rattle.sw_table.proofs.Firsts.{Changes, again, added}
use Rattle.sw_table.proofs.places.put.Goals.{in-Ok, in-Err}
use Rattle.sw_table.proofs.places.put.Goals as goal

pub returns-then-contains_key-clause-added : goal.returns-then-contains_key-clause-added
returns-then-contains_key-clause-added c = λ names h last.
    let found = rw c.as_slice.ensures.value at c.contains_key.ensures in
    again c.args.places.now c.args.name.items names (sym found ∙ c.if-contains_key.true) h

pub returns-clause-added : goal.returns-clause-added
returns-clause-added c = λ names h last.
    let found = rw c.as_slice.ensures.value at c.contains_key.ensures in
    elim c.match-insert.branch [
      | in-Ok w ↦ rw w.result-is (added c.args.places.now c.args.name.items names c.insert.new.self (sym found ∙ c.if-contains_key.false) (subst (λ (n : ℕ). Changes c.args.places.now c.args.name.items c.insert.new.self (Some n)) last w.in-Ok.ensures.updates) h)
      | in-Err w ↦ rw w.result-is tt
    ]
