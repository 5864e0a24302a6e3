-- Each step keeps the rule of the log.
use Rattle.std.proofs.Common.{◌≡◌, ◌≢◌, ℕ, zero, suc, ◌+◌, ◌-◌, ◌^◌, ◌<◌, ◌≤◌, Bool, true, false, eqb, List, [], ◌∷◌, ◌++◌, length, drop, get_or, set, refl, sym, ap, ◌∙◌, subst, ⊎_elim, if◌then◌else◌, nat_lt, arith, eq-eqb, ne_eqb}
use mathlib.Core.Logic.{dite}
use mathlib.Core.Option.{Option, none, some, some-injective, some-ne-none}
use mathlib.Core.List.{IsPrefix}
use native.Mathlib.Decide.{ℕ_discrete}
use lib.ListN.{get_elem?}
use prog.Atomic.{either}
use Rattle.std.proofs.Math.Seq.{drop-append_seam}
use Rattle.std.proofs.lemmas.List.{get_or-set_other, get_or-set_same, length-set, length-append}
use Rattle.std.proofs.lemmas.Bool.Decides.{nat_tests}
use Rattle.sw_log.specs.declared.entry.Entry.{Entry}
use Rattle.sw_log.specs.declared.rule.LogView.{LogView}
use Rattle.sw_log.specs.LogRule.{Held, total, weight, live_count, hold_count, times_at, once_below, Placed, StandIn, HoldsEach, opened, fresh, spent, Fits, CountsOut, Logged, Kept}
use Rattle.sw_log.specs.LogSteps.{Knows, IsAlone, IsIdle, HasList, holding, freed, appended, Finds, Took, Stored, Freed, Measured, compared, given, longer_of, shorter_of, merged}
use Rattle.atomic_table.specs.Table.{State, step, keeps, takes, gives, stepped, opening, Allows, Splits, Joins}
use Rattle.atomic_table.proofs.Lists.{at_set, at_snoc, at_last, set_else, set_here}
use Rattle.sw_log.proofs.Totals.{total-set, total-snoc, part-le, two-le, once-more, lone, each_set, each_snoc}
use Rattle.sw_log.proofs.Prefixes.{begins_itself, begins_longer, nothing_begins, begins_through, prefix_le, prefix_full, shorter_begins, stand_longer, stand_both, times-append, here_at, placed_once, placed_stand, placed_more}

abbrev V : Type 0
V = LogView

abbrev St : Type 0
St = State Held LogView

true_not_false : (b : Bool) → b ≡ true → b ≡ false → ⊥
true_not_false b p q = cc

is_first : (b : Bool) → (b ≡ false → ⊥) → b ≡ true
is_first true isnt = refl
is_first false isnt = absurd (isnt refl)

set_there : (l : List V) (i : ℕ) (v w : V) → get_elem? l i ≡ some v → get_elem? (set l i w) i ≡ some w
set_there [] i v w e = absurd (some-ne-none v (sym e))
set_there (x ∷ xs) zero v w e = refl
set_there (x ∷ xs) (suc i) v w e = set_there xs i v w e

-- a view with no turn, where the log has grown
fits_longer : (log log' : List Entry) (u : V) → IsPrefix log log' → u.holds ≡ false → Fits log u → Fits log' u
fits_longer log log' u more idle f = record {
  gone = f.gone;
  seen = begins_through u.seen log log' f.seen more;
  shorter = f.shorter;
  owns = f.owns;
  holder = λ h. absurd (true_not_false u.holds h idle);
  splitter = f.splitter;
}

-- how the view of one seat, the log and the turn word change together
record Changes (log log' : List Entry) (turn turn' : ℕ) (v w : V) : Type 0 where
  live : w.live ≡ v.live
  first : w.first ≡ v.first
  out : w.out ≡ v.out
  more : IsPrefix log log'
  still : v.holds ≡ false → log ≡ log'
  placed : Placed log'
  few : length log' < 2 ^ 32
  turns : turn' ≤ 1
  holders : weight w.holds + turn ≡ turn' + weight v.holds
  once : (i : ℕ) → times_at i w.own + once_below i (length log) ≡ times_at i v.own + once_below i (length log')
  fits : Fits log' w

other_fits : (b c : Bool) (log log' : List Entry) (v u : V) → v.holds ≡ b → u.holds ≡ c → weight v.holds + weight u.holds ≤ 1 → IsPrefix log log' → (v.holds ≡ false → log ≡ log') → Fits log u → Fits log' u
other_fits true true log log' v u p q few more still f = let a : weight v.holds ≡ 1 = ap weight p in let b : weight u.holds ≡ 1 = ap weight q in absurd (omega (arith, a, b, few))
other_fits true false log log' v u p q few more still f = fits_longer log log' u more q f
other_fits false c log log' v u p q few more still f = subst (λ (l : List Entry). Fits l u) (still p) f

out_stays : (vs : List V) (id : ℕ) (v w : V) → get_elem? vs id ≡ some v → w.live ≡ v.live → w.first ≡ v.first → w.out ≡ v.out → CountsOut vs → CountsOut (set vs id w)
out_stays vs id v w at live first out counts j u e is_first = let l : live_count (set vs id w) + weight v.live ≡ live_count vs + weight w.live = total-set (λ u. weight u.live) vs id v w at in let same : weight w.live ≡ weight v.live = ap weight live in
    let all : live_count (set vs id w) ≡ live_count vs = omega (arith, l, same) in
    ⊎_elim (λ (t : (j ≡ id) × (w ≡ u)). let known = counts id v at (sym first ∙ ap (λ (x : V). x.first) t.1 ∙ is_first) in let is : w.out ≡ u.out = ap (λ (x : V). x.out) t.1 in let c : live_count vs ≡ v.out + 1 = known.1 in (t.0 ∙ known.0, omega (arith, c, all, is, out)))
    (λ (t : (j ≢ id) × (get_elem? vs j ≡ some u)). let known = counts j u t.1 is_first in (known.0, all ∙ known.1)) (at_set vs id j w u e)

changed : (log log' : List Entry) (turn turn' : ℕ) (vs : List V) (id : ℕ) (v w : V) → Logged log turn vs → get_elem? vs id ≡ some v → Changes log log' turn turn' v w → Logged log' turn' (set vs id w)
changed log log' turn turn' vs id v w r at c = record {
  placed = c.placed;
  few = c.few;
  turns = c.turns;
  holders = let h : hold_count (set vs id w) + weight v.holds ≡ hold_count vs + weight w.holds = total-set (λ u. weight u.holds) vs id v w at in let k : hold_count vs ≡ turn = r.holders in let e = c.holders in omega (arith, h, k, e);
  once = λ i. let t : total (λ u. times_at i u.own) (set vs id w) + times_at i v.own ≡ total (λ u. times_at i u.own) vs + times_at i w.own = total-set (λ u. times_at i u.own) vs id v w at in let o = r.once i in let e = c.once i in omega (arith, t, o, e);
  each = each_set (Fits log') vs id w
      (λ j u apart there. let both : weight v.holds + weight u.holds ≤ hold_count vs = two-le (λ u. weight u.holds) vs id j v u refl at there apart in let h : hold_count vs ≡ turn = r.holders in let one : turn ≤ 1 = r.turns in
      other_fits v.holds u.holds log log' v u refl refl (omega (arith, both, h, one)) c.more c.still (r.each j u there)) c.fits;
  out = out_stays vs id v w at c.live c.first c.out r.out;
}

-- no other seat is in use: the seat has seen the whole log, and the turn is free or its own
record Alone (log : List Entry) (turn : ℕ) (v : V) : Type 0 where
  seen : log ≡ v.seen
  turn_is : turn ≡ weight v.holds
  once : (i : ℕ) → times_at i v.own ≡ once_below i (length log)

below_here : (m n : ℕ) → n < m → once_below n m ≡ 1
below_here m n lt = grind (arith, nat_tests)

abbrev ifs : Bool → ℕ
ifs b = if b then 1 else 0

-- what is named by an entry is a place of the log
some_times : (i : ℕ) (xs : List Entry) → 1 ≤ times_at i xs → (k : ℕ) × (e : Entry) × (get_elem? xs k ≡ some e) × (e.under ≡ i)
some_times i [] h = absurd (omega arith)
some_times i (x ∷ xs) h = dite (ℕ_discrete x.under i) (λ here. (0, x, refl, here)) (λ not_here. let z : here_at i x.under ≡ 0 = ap (λ (b : Bool). ifs b) (ne_eqb x.under i not_here) in let r = some_times i xs (omega (arith, h, z)) in (suc r.0, r.1, r.2, r.3))

below_length : (xs : List Entry) (i : ℕ) (e : Entry) → get_elem? xs i ≡ some e → i < length xs
below_length [] i e at = absurd (some-ne-none e (sym at))
below_length (x ∷ xs) zero e at = omega arith
below_length (x ∷ xs) (suc i) e at = let r = below_length xs i e at in omega arith

-- a seat that owns all entries has seen them all
seen_all : (log own seen : List Entry) → ((i : ℕ) → times_at i own ≡ once_below i (length log)) → StandIn own seen → length log ≤ length seen
seen_all [] own seen once stand = omega arith
seen_all (x ∷ xs) own seen once stand = let n : ℕ = length xs in let one : times_at n own ≡ 1 = once n ∙ below_here (length (x ∷ xs)) n (omega arith) in let it = some_times n own (omega (arith, one)) in
    let there = stand it.0 it.1 it.2 in let below = below_length seen it.1.under it.1 there in let is = it.3 in omega (arith, below, is)

alone : (log : List Entry) (turn : ℕ) (vs : List V) (id : ℕ) (v : V) → Logged log turn vs → get_elem? vs id ≡ some v → v.live ≡ true → IsAlone v → Alone log turn v
alone log turn vs id v r at live a = let one : live_count vs ≡ 1 = (r.out id v at a.0).1 ∙ ap (λ (m : ℕ). m + 1) a.1 in let gone = λ (i : ℕ) (u : V) (p : get_elem? vs i ≡ some u). (r.each i u p).gone in
    let once = λ (i : ℕ). sym (lone (λ u. times_at i u.own) refl vs id v at live gone one) ∙ r.once i in let f = r.each id v at in
    record {
      seen = prefix_full v.seen log f.seen (seen_all log v.own v.seen once f.owns);
      turn_is = sym r.holders ∙ lone (λ u. weight u.holds) refl vs id v at live gone one;
      once = once;
    }

finds : (log : List Entry) (turn : ℕ) (vs : List V) (id : ℕ) (v : V) → Logged log turn vs → get_elem? vs id ≡ some v → v.live ≡ true → Finds v log
finds log turn vs id v r at live = record { begins = (r.each id v at).seen; placed = r.placed; few = r.few; alone = λ a. (alone log turn vs id v r at live a).seen }

-- the rule after a step on the turn word
turn_stepped : (s : St) (k : Kept s) (n id : ℕ) (w : V) (homes : List (Option Held)) → length homes ≡ 1 → (n ≡ 0 → (list : Held) × (get_elem? homes 0 ≡ some (some list)) × (list.items ≡ k.log)) → Logged k.log n (set s.views id w)
    → Kept record { words = set s.words 0 n; homes = homes; views = set s.views id w }
turn_stepped s k n id w homes one home r = let wide : length s.words ≡ 2 = k.words in let here : get_or (set s.words 0 n) 0 0 ≡ n = get_or-set_same s.words 0 n 0 (omega arith) in record {
  log = k.log;
  words = length-set s.words 0 n ∙ wide;
  homes = one;
  long = get_or-set_other s.words 0 1 n 0 (λ e. omega arith) ∙ k.long;
  home = λ e. home (sym here ∙ e);
  rule = subst (λ (m : ℕ). Logged k.log m (set s.views id w)) (sym here) r;
}

-- the rule after a step on the length word
length_stepped : (s : St) (k : Kept s) (n id : ℕ) (w : V) (log : List Entry) → n ≡ length log → (get_or s.words 0 0 ≡ 0 → (list : Held) × (get_elem? s.homes 0 ≡ some (some list)) × (list.items ≡ log)) → Logged log (get_or s.words 0 0) (set s.views id w)
    → Kept record { words = set s.words 1 n; homes = s.homes; views = set s.views id w }
length_stepped s k n id w log long home r = let wide : length s.words ≡ 2 = k.words in let there : get_or (set s.words 1 n) 0 0 ≡ get_or s.words 0 0 = get_or-set_other s.words 1 0 n 0 (λ e. omega arith) in record {
  log = log;
  words = length-set s.words 1 n ∙ wide;
  homes = k.homes;
  long = get_or-set_same s.words 1 n 0 (omega arith) ∙ long;
  home = λ e. home (sym there ∙ e);
  rule = subst (λ (m : ℕ). Logged log m (set s.views id w)) (sym there) r;
}

-- a view that changes in what it has seen, where the log stays
view_learns : (log : List Entry) (turn turn' : ℕ) (vs : List V) (id : ℕ) (v w : V) → Logged log turn vs → get_elem? vs id ≡ some v → w.live ≡ v.live → w.first ≡ v.first → w.out ≡ v.out → w.own ≡ v.own → turn' ≤ 1 → weight w.holds + turn ≡ turn' + weight v.holds → Fits log w
    → Logged log turn' (set vs id w)
view_learns log turn turn' vs id v w r at live first out own turns holders fits = changed log log turn turn' vs id v w r at record {
  live = live;
  first = first;
  out = out;
  more = begins_itself log;
  still = λ _. refl;
  placed = r.placed;
  few = r.few;
  turns = turns;
  holders = holders;
  once = λ i. ap (λ (xs : List Entry). times_at i xs + once_below i (length log)) own;
  fits = fits;
}

fits_holding : (log xs : List Entry) (v : V) → v.live ≡ true → xs ≡ log → Fits log v → Fits log (holding v xs)
fits_holding log xs v live is f = record {
  gone = λ h. absurd (true_not_false v.live live h);
  seen = subst (λ (ys : List Entry). IsPrefix ys log) (sym is) (begins_itself log);
  shorter = subst (λ (ys : List Entry). IsPrefix v.shorter ys) (sym is) (begins_through v.shorter v.seen log f.shorter f.seen);
  owns = subst (λ (ys : List Entry). StandIn v.own ys) (sym is) (stand_longer v.own v.seen log f.seen f.owns);
  holder = λ _. is;
  splitter = f.splitter;
}

pub takes_turn : (slots id : ℕ) (me : Knows) → IsIdle me → Allows Kept slots id me 0 (λ n. either (eqb n 0) 1 n) (Took (step slots 0 0 1 none) me)
takes_turn slots id me idle s k _ at _ = let x : ℕ = get_or s.words 0 0 in let v : V = me.0 in let r = k.rule in let no_turn : weight v.holds ≡ 0 = ap weight idle.free in dite (ℕ_discrete x 0)
    (λ is_free. let h = k.home is_free in let list : Held = h.0 in let w : V = holding v list.items in (
      w,
      takes 0 list,
      h.1,
      subst (λ (b : Bool). Kept (stepped s 0 (either b 1 x) id me.1 w (takes 0 list))) (sym (eq-eqb x 0 is_free))
          (turn_stepped s k 1 id w (set s.homes 0 none) (length-set s.homes 0 none ∙ k.homes) (λ e. absurd (omega arith))
          (view_learns k.log x 1 s.views id v w r at refl refl refl refl (omega arith) (omega (arith, no_turn, is_free)) (fits_holding k.log list.items v idle.live h.2 (r.each id v at)))),
      record { taken = λ _. (list, refl, subst (λ (xs : List Entry). Finds v xs) (sym h.2) (finds k.log x s.views id v r at idle.live)); busy = λ some_turn. absurd (omega (arith, some_turn, is_free)) },
    ))
    (λ is_taken. (
      v,
      keeps,
      tt,
      subst (λ (b : Bool). Kept (stepped s 0 (either b 1 x) id me.1 v keeps)) (sym (ne_eqb x 0 is_taken))
          (turn_stepped s k x id v s.homes k.homes k.home (view_learns k.log x x s.views id v v r at refl refl refl refl r.turns (omega arith) (r.each id v at))),
      record { taken = λ e. absurd (is_taken e); busy = λ _. refl },
    ))

-- the turn of a view that has it
turn_held : (log : List Entry) (turn : ℕ) (vs : List V) (id : ℕ) (v : V) → Logged log turn vs → get_elem? vs id ≡ some v → v.holds ≡ true → turn ≡ 1
turn_held log turn vs id v r at holds = let p : weight v.holds ≤ hold_count vs = part-le (λ u. weight u.holds) vs id v at in let w : weight v.holds ≡ 1 = ap weight holds in let h = r.holders in let t = r.turns in omega (arith, p, w, h, t)

-- a seat that has the turn is in use
live_holder : (log : List Entry) (v : V) → Fits log v → v.holds ≡ true → v.live ≡ true
live_holder log v f holds = is_first v.live (λ gone. true_not_false v.holds holds (ap (λ (u : V). u.holds) (f.gone gone)))

fits_freed : (log : List Entry) (v : V) → v.live ≡ true → Fits log v → Fits log (freed v)
fits_freed log v live f = record {
  gone = λ h. absurd (true_not_false v.live live h);
  seen = f.seen;
  shorter = f.shorter;
  owns = f.owns;
  holder = λ h. absurd (true_not_false false h refl);
  splitter = f.splitter;
}

frees_held : (slots id : ℕ) (v : V) (list : Held) → v.holds ≡ true → list.items ≡ v.seen → Allows Kept slots id (v, (0, list) ∷ []) 0 (λ _. 0) (λ _. Freed (step slots 0 0 0 none) (v, (0, list) ∷ []) 0)
frees_held slots id v list holds is s k _ at _ = let x : ℕ = get_or s.words 0 0 in let r = k.rule in let f = r.each id v at in let live = live_holder k.log v f holds in let one : x ≡ 1 = turn_held k.log x s.views id v r at holds in let w1 : weight v.holds ≡ 1 = ap weight holds in let home : length s.homes ≡ 1 = k.homes in (
  freed v,
  gives,
  tt,
  turn_stepped s k 0 id (freed v) (set s.homes 0 (some list)) (length-set s.homes 0 (some list) ∙ k.homes) (λ _. (list, set_here s.homes 0 (some list) (omega (arith, home)), is ∙ f.holder holds))
      (view_learns k.log x 0 s.views id v (freed v) r at refl refl refl refl (omega arith) (omega (arith, one, w1)) (fits_freed k.log v live f)),
  refl,
)

pub frees_turn : (slots id : ℕ) (me : Knows) → me.0.holds ≡ true → HasList me.0.seen me.1 → Allows Kept slots id me 0 (λ _. 0) (λ _. Freed (step slots 0 0 0 none) me 0)
frees_turn slots id me holds has = subst (λ (c : List (ℕ × Held)). Allows Kept slots id (me.0, c) 0 (λ _. 0) (λ _. Freed (step slots 0 0 0 none) (me.0, c) 0)) (sym has.1) (frees_held slots id me.0 has.0 holds has.2)

one_stands : (e : Entry) (xs : List Entry) → get_elem? xs e.under ≡ some e → StandIn (e ∷ []) xs
one_stands e xs there zero x at = subst (λ (y : Entry). get_elem? xs y.under ≡ some y) (some-injective e x at) there
one_stands e xs there (suc k) x at = absurd (some-ne-none x (sym at))

fits_appended : (log : List Entry) (v : V) (e : Entry) → v.live ≡ true → v.seen ≡ log → e.under ≡ length v.seen → Fits log v → Fits (log ++ e ∷ []) (appended v e)
fits_appended log v e live here place f = let all : List Entry = v.seen ++ e ∷ [] in record {
  gone = λ h. absurd (true_not_false v.live live h);
  seen = subst (λ (xs : List Entry). IsPrefix all (xs ++ e ∷ [])) here (begins_itself all);
  shorter = begins_through v.shorter v.seen all f.shorter (begins_longer v.seen (e ∷ []));
  owns = stand_both v.own (e ∷ []) all (stand_longer v.own v.seen all (begins_longer v.seen (e ∷ [])) f.owns) (one_stands e all (at_last v.seen e e.under (sym place)));
  holder = λ _. ap (λ (xs : List Entry). xs ++ e ∷ []) here;
  splitter = f.splitter;
}

entry_appended : (log : List Entry) (turn : ℕ) (vs : List V) (id : ℕ) (v : V) (e : Entry) → Logged log turn vs → get_elem? vs id ≡ some v → v.live ≡ true → v.holds ≡ true → e.under ≡ length v.seen → e.under + 1 < 2 ^ 32 → Logged (log ++ e ∷ []) turn (set vs id (appended v e))
entry_appended log turn vs id v e r at live holds place small = let here : v.seen ≡ log = (r.each id v at).holder holds in let last : e.under ≡ length log = place ∙ ap (λ (xs : List Entry). length xs) here in
    let len : length (log ++ e ∷ []) ≡ length log + 1 = length-append log (e ∷ []) in
    changed log (log ++ e ∷ []) turn turn vs id v (appended v e) r at record {
      live = refl;
      first = refl;
      out = refl;
      more = begins_longer log (e ∷ []);
      still = λ idle. absurd (true_not_false v.holds holds idle);
      placed = placed_more log e r.placed last;
      few = omega (arith, len, last, small);
      turns = r.turns;
      holders = omega arith;
      once = λ i. let a = times-append i v.own (e ∷ []) in let m = once-more i (length log) in let n : once_below i (length (log ++ e ∷ [])) ≡ once_below i (length log + 1) = ap (once_below i) len in
          let t : here_at i e.under ≡ here_at i (length log) = ap (here_at i) last in omega (arith, a, m, n, t);
      fits = fits_appended log v e live here place (r.each id v at);
    }

-- the view after the store, by the list of the slot
abbrev stored : V → List Entry → V
stored v xs = record v { seen = xs; own = v.own ++ drop (length v.seen) xs }

stored_is : (v : V) (xs : List Entry) (e : Entry) → xs ≡ v.seen ++ e ∷ [] → stored v xs ≡ appended v e
stored_is v xs e is = let q : drop (length v.seen) xs ≡ e ∷ [] = ap (drop (length v.seen)) is ∙ drop-append_seam v.seen (e ∷ []) in λ i. record v { seen = is i; own = v.own ++ q i }

stores_held : (slots id : ℕ) (v : V) (list : Held) (e : Entry) (n : ℕ) → v.holds ≡ true → list.items ≡ v.seen ++ e ∷ [] → e.under ≡ length v.seen → n ≡ e.under + 1 → n < 2 ^ 32
    → Allows Kept slots id (v, (0, list) ∷ []) 1 (λ _. n) (λ _. Stored (step slots 1 n 0 none) (v, (0, list) ∷ []) n)
stores_held slots id v list e n holds is place n_is small s k _ at _ = let x : ℕ = get_or s.words 0 0 in let r = k.rule in let live = live_holder k.log v (r.each id v at) holds in let one : x ≡ 1 = turn_held k.log x s.views id v r at holds in
    let here : v.seen ≡ k.log = (r.each id v at).holder holds in let last : e.under ≡ length k.log = place ∙ ap (λ (xs : List Entry). length xs) here in let len : length (k.log ++ e ∷ []) ≡ length k.log + 1 = length-append k.log (e ∷ []) in (
      stored v list.items,
      keeps,
      tt,
      subst (λ (w : V). Kept (stepped s 1 n id ((0, list) ∷ []) w keeps)) (sym (stored_is v list.items e is))
          (length_stepped s k n id (appended v e) (k.log ++ e ∷ []) (omega (arith, n_is, last, len)) (λ none. absurd (omega (arith, none, one))) (entry_appended k.log x s.views id v e r at live holds place (omega (arith, n_is, small)))),
      refl,
    )

pub stores_entry : (slots id : ℕ) (me : Knows) (e : Entry) (n : ℕ) → me.0.holds ≡ true → HasList (me.0.seen ++ e ∷ []) me.1 → e.under ≡ length me.0.seen → n ≡ e.under + 1 → n < 2 ^ 32
    → Allows Kept slots id me 1 (λ _. n) (λ _. Stored (step slots 1 n 0 none) me n)
stores_entry slots id me e n holds has place n_is small = subst (λ (c : List (ℕ × Held)). Allows Kept slots id (me.0, c) 1 (λ _. n) (λ _. Stored (step slots 1 n 0 none) (me.0, c) n)) (sym has.1) (stores_held slots id me.0 has.0 e n holds has.2 place n_is small)

fits_compared : (log : List Entry) (v : V) → v.live ≡ true → Fits log v → Fits log (compared v)
fits_compared log v live f = record {
  gone = λ h. absurd (true_not_false v.live live h);
  seen = f.seen;
  shorter = nothing_begins v.seen;
  owns = f.owns;
  holder = f.holder;
  splitter = f.splitter;
}

pub measures : (slots id : ℕ) (me : Knows) → me.0.live ≡ true → Allows Kept slots id me 1 (λ n. n) (Measured (step slots 1 0 0 none) me)
measures slots id me live s k _ at _ = let x : ℕ = get_or s.words 0 0 in let n : ℕ = get_or s.words 1 0 in let v : V = me.0 in let r = k.rule in let f = r.each id v at in let long : n ≡ length k.log = k.long in
    let le : length v.seen ≤ length k.log = prefix_le v.seen k.log f.seen in let few : length k.log < 2 ^ 32 = r.few in (
      compared v,
      keeps,
      tt,
      length_stepped s k n id (compared v) k.log long k.home (view_learns k.log x x s.views id v (compared v) r at refl refl refl refl r.turns (omega arith) (fits_compared k.log v live f)),
      record {
        same = refl;
        length_is = record { least = omega (arith, le, long); few = omega (arith, few, long); alone = λ a. long ∙ ap (λ (xs : List Entry). length xs) (alone k.log x s.views id v r at live a).seen };
        shorter = f.shorter;
      },
    )

-- a split of the first seat
split_made : (log : List Entry) (turn : ℕ) (vs : List V) (id : ℕ) (v : V) → Logged log turn vs → get_elem? vs id ≡ some v → v.live ≡ true → 1 ≤ v.splits → Logged log turn (set vs id (given v) ++ fresh v.seen ∷ [])
split_made log turn vs id v r at live some_left = let w : V = given v in let new : V = fresh v.seen in let us : List V = set vs id w in let all : List V = us ++ new ∷ [] in let f = r.each id v at in
    let first : v.first ≡ true = is_first v.first (λ isnt. let none_left : v.splits ≡ 0 = f.splitter isnt in omega (arith, none_left, some_left)) in
    let l : live_count all ≡ live_count us + 1 = total-snoc (λ u. weight u.live) us new in let l' : live_count us + weight v.live ≡ live_count vs + weight v.live = total-set (λ u. weight u.live) vs id v w at in
    let mine = r.out id v at first in let count : live_count vs ≡ v.out + 1 = mine.1 in
    record {
      placed = r.placed;
      few = r.few;
      turns = r.turns;
      holders = let h : hold_count all ≡ hold_count us + 0 = total-snoc (λ u. weight u.holds) us new in let h' : hold_count us + weight v.holds ≡ hold_count vs + weight v.holds = total-set (λ u. weight u.holds) vs id v w at in let k : hold_count vs ≡ turn = r.holders in
          omega (arith, h, h', k);
      once = λ i. let t : total (λ u. times_at i u.own) all ≡ total (λ u. times_at i u.own) us + 0 = total-snoc (λ u. times_at i u.own) us new in
          let t' : total (λ u. times_at i u.own) us + times_at i v.own ≡ total (λ u. times_at i u.own) vs + times_at i v.own = total-set (λ u. times_at i u.own) vs id v w at in let o = r.once i in omega (arith, t, t', o);
      each = each_snoc (Fits log) us new
          (each_set (Fits log) vs id w (λ j u _ there. r.each j u there) record {
            gone = λ h. absurd (true_not_false v.live live h);
            seen = f.seen;
            shorter = f.shorter;
            owns = f.owns;
            holder = f.holder;
            splitter = λ isnt. absurd (true_not_false v.first first isnt);
          })
          record {
            gone = λ h. absurd (true_not_false true refl h);
            seen = f.seen;
            shorter = nothing_begins v.seen;
            owns = λ k e there. absurd (some-ne-none e (sym there));
            holder = λ h. absurd (true_not_false false h refl);
            splitter = λ _. refl;
          };
      out = λ j u e is_one. ⊎_elim
          (λ (t : get_elem? us j ≡ some u). ⊎_elim
          (λ (q : (j ≡ id) × (w ≡ u)). let o : v.out + 1 ≡ u.out = ap (λ (x : V). x.out) q.1 in (q.0 ∙ mine.0, omega (arith, count, l, l', o)))
          (λ (q : (j ≢ id) × (get_elem? vs j ≡ some u)). absurd (q.0 ((r.out j u q.1 is_one).0 ∙ sym mine.0))) (at_set vs id j w u t))
          (λ (t : new ≡ u). absurd (true_not_false u.first is_one (sym (ap (λ (x : V). x.first) t)))) (at_snoc us new u j e);
    }

pub splits : (id : ℕ) (v : V) → v.live ≡ true → 1 ≤ v.splits → Splits Kept id v (given v) (fresh v.seen)
splits id v live some_left s k at = record { log = k.log; words = k.words; homes = k.homes; long = k.long; home = k.home; rule = split_made k.log (get_or s.words 0 0) s.views id v k.rule at live some_left }

-- of what two seats have seen, the longer begins the log, and the shorter and both lists begin the longer
record Compared (log xs ys : List Entry) : Type 0 where
  longer : IsPrefix (longer_of xs ys) log
  shorter : IsPrefix (shorter_of xs ys) (longer_of xs ys)
  left : IsPrefix xs (longer_of xs ys)
  right : IsPrefix ys (longer_of xs ys)

by_length : (b : Bool) (log xs ys : List Entry) → IsPrefix xs log → IsPrefix ys log → nat_lt (length xs) (length ys) ≡ b → Compared log xs ys
by_length true log xs ys p q is = let le : length xs ≤ length ys = grind (arith, nat_tests, is) in let l : longer_of xs ys ≡ ys = ap (λ (b : Bool). if b then ys else xs) is in let t : shorter_of xs ys ≡ xs = ap (λ (b : Bool). if b then xs else ys) is in
    let one : IsPrefix xs ys = shorter_begins xs ys log p q le in record {
      longer = subst (λ (zs : List Entry). IsPrefix zs log) (sym l) q;
      shorter = subst (λ (zs : List Entry). IsPrefix zs (longer_of xs ys)) (sym t) (subst (λ (zs : List Entry). IsPrefix xs zs) (sym l) one);
      left = subst (λ (zs : List Entry). IsPrefix xs zs) (sym l) one;
      right = subst (λ (zs : List Entry). IsPrefix ys zs) (sym l) (begins_itself ys);
    }
by_length false log xs ys p q is = let le : length ys ≤ length xs = grind (arith, nat_tests, is) in let l : longer_of xs ys ≡ xs = ap (λ (b : Bool). if b then ys else xs) is in let t : shorter_of xs ys ≡ ys = ap (λ (b : Bool). if b then xs else ys) is in
    let one : IsPrefix ys xs = shorter_begins ys xs log q p le in record {
      longer = subst (λ (zs : List Entry). IsPrefix zs log) (sym l) p;
      shorter = subst (λ (zs : List Entry). IsPrefix zs (longer_of xs ys)) (sym t) (subst (λ (zs : List Entry). IsPrefix ys zs) (sym l) one);
      left = subst (λ (zs : List Entry). IsPrefix xs zs) (sym l) (begins_itself xs);
      right = subst (λ (zs : List Entry). IsPrefix ys zs) (sym l) one;
    }

compare : (log xs ys : List Entry) → IsPrefix xs log → IsPrefix ys log → Compared log xs ys
compare log xs ys p q = by_length (nat_lt (length xs) (length ys)) log xs ys p q refl

fits_merged : (log : List Entry) (v w : V) → v.live ≡ true → v.first ≡ true → v.holds ≡ false → Fits log v → Fits log w → Fits log (merged v w)
fits_merged log v w live first idle f g = let c = compare log v.seen w.seen f.seen g.seen in record {
  gone = λ h. absurd (true_not_false v.live live h);
  seen = c.longer;
  shorter = c.shorter;
  owns = stand_both v.own w.own (longer_of v.seen w.seen) (stand_longer v.own v.seen (longer_of v.seen w.seen) c.left f.owns) (stand_longer w.own w.seen (longer_of v.seen w.seen) c.right g.owns);
  holder = λ h. absurd (true_not_false v.holds h idle);
  splitter = λ isnt. absurd (true_not_false v.first first isnt);
}

fits_spent : (log : List Entry) → Fits log spent
fits_spent log = record {
  gone = λ _. refl;
  seen = nothing_begins log;
  shorter = nothing_begins [];
  owns = λ k e there. absurd (some-ne-none e (sym there));
  holder = λ h. absurd (true_not_false false h refl);
  splitter = λ _. refl;
}

-- a sum in which one view takes in another
sum_joined : (f : V → ℕ) (vs : List V) (id other : ℕ) (v w both : V) → get_elem? vs id ≡ some v → get_elem? (set vs id both) other ≡ some w → total f (set (set vs id both) other spent) + f v + f w ≡ total f vs + f both + f spent
sum_joined f vs id other v w both at there = let a = total-set f vs id v both at in let b = total-set f (set vs id both) other w spent there in omega (arith, a, b)

-- the first seat takes in another, and neither has the turn
seats_joined : (log : List Entry) (turn : ℕ) (vs : List V) (id other : ℕ) (v w : V) → Logged log turn vs → get_elem? vs id ≡ some v → other ≢ id → get_elem? (set vs id (merged v w)) other ≡ some w → v.live ≡ true → v.first ≡ true → w.live ≡ true → v.holds ≡ false → w.holds ≡ false
    → Logged log turn (set (set vs id (merged v w)) other spent)
seats_joined log turn vs id other v w r at apart there live first used idle idle' = let both : V = merged v w in let us : List V = set vs id both in let all : List V = set us other spent in
    let was : get_elem? vs other ≡ some w = sym (set_else vs id other both apart) ∙ there in
    let l : live_count all + weight v.live + weight w.live ≡ live_count vs + weight v.live + 0 = sum_joined (λ u. weight u.live) vs id other v w both at there in
    let w1 : weight w.live ≡ 1 = ap weight used in let v1 : weight v.live ≡ 1 = ap weight live in
    let here : get_elem? all id ≡ some both = set_else us other id spent (λ e. apart (sym e)) ∙ set_there vs id v both at in
    let some_live : weight v.live ≤ live_count all = part-le (λ u. weight u.live) all id both here in
    let mine = r.out id v at first in let count : live_count vs ≡ v.out + 1 = mine.1 in
    let h : hold_count all + weight v.holds + weight w.holds ≡ hold_count vs + weight v.holds + 0 = sum_joined (λ u. weight u.holds) vs id other v w both at there in let w0 : weight w.holds ≡ 0 = ap weight idle' in let k : hold_count vs ≡ turn = r.holders in
    record {
      placed = r.placed;
      few = r.few;
      turns = r.turns;
      holders = omega (arith, h, w0, k);
      once = λ i. let t : total (λ u. times_at i u.own) all + times_at i v.own + times_at i w.own ≡ total (λ u. times_at i u.own) vs + times_at i (v.own ++ w.own) + 0 = sum_joined (λ u. times_at i u.own) vs id other v w both at there in
          let q = times-append i v.own w.own in let o = r.once i in omega (arith, t, q, o);
      each = each_set (Fits log) us other spent (λ j u _ p. each_set (Fits log) vs id both (λ m x _ q. r.each m x q) (fits_merged log v w live first idle (r.each id v at) (r.each other w was)) j u p) (fits_spent log);
      out = λ j u e is_one. ⊎_elim
          (λ (t : (j ≡ other) × (spent ≡ u)). absurd (true_not_false u.first is_one (sym (ap (λ (x : V). x.first) t.1))))
          (λ (t : (j ≢ other) × (get_elem? us j ≡ some u)). ⊎_elim
          (λ (q : (j ≡ id) × (both ≡ u)). let o : v.out - 1 ≡ u.out = ap (λ (x : V). x.out) q.1 in (q.0 ∙ mine.0, omega (arith, count, l, w1, v1, some_live, o)))
          (λ (q : (j ≢ id) × (get_elem? vs j ≡ some u)). absurd (q.0 ((r.out j u q.1 is_one).0 ∙ sym mine.0))) (at_set vs id j both u t.1)) (at_set us other j spent u e);
    }

pub joins : (id : ℕ) (v : V) (other : ℕ) (w : V) → v.live ≡ true → v.first ≡ true → w.live ≡ true → v.holds ≡ false → w.holds ≡ false → Joins Kept id v other w (merged v w) spent
joins id v other w live first used idle idle' s k at apart there = record { log = k.log; words = k.words; homes = k.homes; long = k.long; home = k.home; rule = seats_joined k.log (get_or s.words 0 0) s.views id other v w k.rule at apart there live first used idle idle' }

-- the rule at the start
pub opens : (list : Held) (n splits : ℕ) → Placed list.items → n ≡ length list.items → n < 2 ^ 32 → Kept (opening (0 ∷ n ∷ []) (list ∷ []) (opened list.items splits))
opens list n splits placed n_is few = let log : List Entry = list.items in record {
  log = log;
  words = refl;
  homes = refl;
  long = n_is;
  home = λ _. (list, refl, refl);
  rule = record {
    placed = placed;
    few = omega (arith, n_is, few);
    turns = omega arith;
    holders = refl;
    once = λ i. let o = placed_once i log placed in omega (arith, o);
    each = λ id v at. only_first log splits placed id v at;
    out = λ id v at first. only_out log splits id v at;
  };
}
  where
    fits_opened : (log : List Entry) (splits : ℕ) → Placed log → Fits log (opened log splits)
    fits_opened log splits placed = record {
      gone = λ h. absurd (true_not_false true refl h);
      seen = begins_itself log;
      shorter = nothing_begins log;
      owns = placed_stand log placed;
      holder = λ _. refl;
      splitter = λ isnt. absurd (true_not_false true refl isnt);
    }

    only_first : (log : List Entry) (splits : ℕ) → Placed log → (id : ℕ) (v : V) → get_elem? (opened log splits ∷ []) id ≡ some v → Fits log v
    only_first log splits placed zero v at = subst (Fits log) (some-injective (opened log splits) v at) (fits_opened log splits placed)
    only_first log splits placed (suc id) v at = absurd (some-ne-none v (sym at))

    only_out : (log : List Entry) (splits id : ℕ) (v : V) → get_elem? (opened log splits ∷ []) id ≡ some v → (id ≡ 0) × (live_count (opened log splits ∷ []) ≡ v.out + 1)
    only_out log splits zero v at = (refl, ap (λ (u : V). u.out + 1) (some-injective (opened log splits) v at))
    only_out log splits (suc id) v at = absurd (some-ne-none v (sym at))

-- what the first seat knows once no other is in use
pub record Ends (v : V) (log : List Entry) : Type 0 where
  pub list : log ≡ v.seen
  pub placed : Placed log
  pub each : HoldsEach v.own log

-- the slot at the end has the log
pub closes : (s : St) (id : ℕ) (v : V) (xs : List Held) (list : Held) → Kept s → get_elem? s.views id ≡ some v → ((k : ℕ) (y : Held) → get_elem? s.homes k ≡ some (some y) → get_elem? xs k ≡ some y) → get_elem? xs 0 ≡ some list → v.live ≡ true → v.holds ≡ false → IsAlone v → Ends v list.items
closes s id v xs list k at values taken live idle a = let x : ℕ = get_or s.words 0 0 in let r = k.rule in let one = alone k.log x s.views id v r at live a in let home = k.home (one.turn_is ∙ ap weight idle) in
    let same : home.0 ≡ list = some-injective home.0 list (sym (values 0 home.0 home.1) ∙ taken) in let is : k.log ≡ list.items = sym home.2 ∙ ap (λ (l : Held). l.items) same in let f = r.each id v at in
    subst (Ends v) is record {
      list = one.seen;
      placed = r.placed;
      each = record { once = one.once; stand = stand_longer v.own v.seen k.log f.seen f.owns };
    }
