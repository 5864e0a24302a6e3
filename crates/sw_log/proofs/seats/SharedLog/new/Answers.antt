use Rattle.std.proofs.Common.{rules, ◌≡◌, ◌-◌, List, [], ◌∷◌, sym, subst, length}
use Rattle.atomic_table.specs.Table.{opening}
use Rattle.sw_log.specs.LogRule.{Held, opened, Kept}
use Rattle.sw_log.proofs.LogKeeps.{opens}
use Rattle.sw_log.proofs.seats.SharedLog.new.Goals as goal

pub new-requires : goal.new-requires
new-requires c = let slots : c.push.new.self.items ≡ c.args.entries ∷ [] = search rules in let value : c.of-opening.result.value ≡ c.args.entries = search rules in let n : c.in-Ok.length ≡ length c.args.entries.items = search rules in
    subst (λ (p : List Held × Held). Kept (opening (0 ∷ c.in-Ok.length ∷ []) p.0 (opened p.1.items (c.args.seats - 1)))) (λ i. (sym slots i, sym value i)) (opens c.args.entries c.in-Ok.length (c.args.seats - 1) c.requires.placed n (search rules))
