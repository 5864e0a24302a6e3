use Rattle.std.proofs.Common.{rules, List, [], ◌∷◌, ◌++◌, length, refl, sym, ap, ◌∙◌}
use Rattle.sw_log.specs.declared.entry.Entry.{Entry}
use Rattle.sw_log.specs.declared.rule.LogView.{LogView}
use Rattle.sw_log.specs.LogSteps.{Knows, held}
use Rattle.sw_log.proofs.LogKeeps.{stores_entry}
use Rattle.sw_log.proofs.seats.SharedLog.append_last.Goals as goal

pub store-requires : goal.store-requires
store-requires c = let view = c.put.ensures.view in let seen = c.requires.list ∙ sym (ap (λ (v : LogView). v.seen) view) in let has = c.put.ensures.list in (
  search rules,
  search rules,
  stores_entry _ _ _ c.args.entry _ (ap (λ (v : LogView). v.holds) view ∙ c.requires.holds) (has.0, has.1, has.2 ∙ (c.in_default.ensures.items ∙ ap (λ (xs : List Entry). xs ++ c.args.entry ∷ []) seen))
      (sym c.requires.last ∙ ap (λ (xs : List Entry). length xs) seen) refl (search rules),
)

pub free-requires-clause-list : goal.free-requires-clause-list
free-requires-clause-list c = let has = c.put.ensures.list in let stored = c.store.ensures.2 in (has.0, ap (λ (m : Knows). m.1) stored ∙ has.1, sym (ap (λ (m : Knows). m.0.seen) stored ∙ ap held has.1))
