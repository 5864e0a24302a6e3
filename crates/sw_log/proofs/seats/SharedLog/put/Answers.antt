use Rattle.std.proofs.Common.{◌≡◌, ℕ, List, [], ◌∷◌, refl, sym, ap, ◌∙◌, rules}
use Rattle.atomic_table.specs.Table.{rest}
use Rattle.sw_log.specs.LogRule.{Held}
use Rattle.sw_log.specs.LogSteps.{Knows, HasSlot}
use Rattle.sw_log.proofs.seats.SharedLog.put.Goals as goal

no_rest : (slots : List (ℕ × Held)) → HasSlot slots → rest slots ≡ []
no_rest slots has = ap (λ (l : List (ℕ × Held)). rest l) has.1

pub exchange-requires : goal.exchange-requires
exchange-requires c = let has = c.requires.slot in (search rules, (has.0, has.1 ∙ ap (λ (l : List (ℕ × Held)). (0, has.0) ∷ l) (sym (no_rest c.args.seat.now.me.1 has))))

pub returns-clause-list : goal.returns-clause-list
returns-clause-list c = let gone = c.exchange.ensures.3 in (c.args.list, ap (λ (m : Knows). m.1) gone ∙ ap (λ (l : List (ℕ × Held)). (0, c.args.list) ∷ l) (no_rest c.args.seat.now.me.1 c.requires.slot), refl)
