use Rattle.std.proofs.Common.{rules, ◌≡◌, ℕ, List, [], ◌∷◌, sym, ap, ◌∙◌, subst}
use Rattle.atomic_table.specs.Table.{rest}
use Rattle.sw_log.specs.declared.entry.Entry.{Entry}
use Rattle.sw_log.specs.LogRule.{Held}
use Rattle.sw_log.specs.LogSteps.{Knows, IsIdle, Finds, Takes, holding, held}
use Rattle.sw_log.proofs.LogKeeps.{takes_turn}
use Rattle.sw_log.proofs.seats.SharedLog.take.Goals as goal

-- the turn was taken from an idle seat
record Taken (m m' : Knows) : Type 0 where
  list : Held
  view : m'.0 ≡ holding m.0 list.items
  slot : m'.1 ≡ (0, list) ∷ []
  finds : Finds m.0 list.items

taken_from : (m k m' : Knows) → k ≡ m → IsIdle m → (list : Held) × (m' ≡ (holding k.0 list.items, (0, list) ∷ k.1)) × Finds k.0 list.items → Taken m m'
taken_from m k m' same idle t = record {
  list = t.0;
  view = ap (λ (x : Knows). x.0) t.1 ∙ ap (λ (x : Knows). holding x.0 t.0.items) same;
  slot = ap (λ (x : Knows). x.1) t.1 ∙ ap (λ (l : List (ℕ × Held)). (0, t.0) ∷ l) (ap (λ (x : Knows). x.1) same ∙ idle.bare);
  finds = subst (λ (x : Knows). Finds x.0 t.0.items) same t.2;
}

carried : (m m' : Knows) (t : Taken m m') → m'.1 ≡ (0, t.list) ∷ rest m'.1
carried m m' t = t.slot ∙ ap (λ (l : List (ℕ × Held)). (0, t.list) ∷ rest l) (sym t.slot)

takes_list : (m k l : Knows) (t : Taken m k) (list new : Held) → k.1 ≡ (0, list) ∷ rest k.1 → l ≡ (k.0, (0, new) ∷ rest k.1) → Takes m.0 list.items l
takes_list m k l t list new read is = let same : t.list.items ≡ list.items = sym (ap held t.slot) ∙ ap held read in record {
  view = ap (λ (x : Knows). x.0) is ∙ (t.view ∙ ap (holding m.0) same);
  slot = (new, ap (λ (x : Knows). x.1) is ∙ ap (λ (c : List (ℕ × Held)). (0, new) ∷ rest c) t.slot);
  finds = subst (λ (xs : List Entry). Finds m.0 xs) same t.finds;
}

pub compare_exchange-requires : goal.compare_exchange-requires
compare_exchange-requires g c = (search rules, search rules, takes_turn _ _ _ (subst IsIdle (sym c.loop.invariant.1) c.requires.idle))

pub exchange-requires : goal.exchange-requires
exchange-requires g c = let zero : c.compare_exchange.result ≡ 0 = search rules in let t = taken_from c.args.seat.now.me c.loop.seat.me c.compare_exchange.new.seat.me c.loop.invariant.1 c.requires.idle (c.compare_exchange.ensures.2.taken zero) in
    (search rules, (t.list, carried _ _ t))

pub returns-then-compare_exchange-eq0-clause-took : goal.returns-then-compare_exchange-eq0-clause-took
returns-then-compare_exchange-eq0-clause-took g c = let zero : c.compare_exchange.result ≡ 0 = search rules in
    let t = taken_from c.args.seat.now.me c.loop.seat.me c.compare_exchange.new.seat.me c.loop.invariant.1 c.requires.idle (c.compare_exchange.ensures.2.taken zero) in
    takes_list c.args.seat.now.me c.compare_exchange.new.seat.me c.exchange.new.seat.me t c.exchange.result _ c.exchange.ensures.2 c.exchange.ensures.3
