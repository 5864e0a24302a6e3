-- Each step keeps the rule of the claims.
use Rattle.std.proofs.Common.{◌≡◌, ℕ, zero, suc, ◌+◌, ◌-◌, ◌%◌, ◌^◌, ◌<◌, ◌≤◌, min, max, Bool, true, false, eqb, List, [], ◌∷◌, ◌++◌, length, get_or, set, refl, sym, ap, ◌∙◌, subst, ⊎_elim, inl, inr, ◌⊎◌, ◌==◌, if◌then◌else◌, arith, eq-eqb, ne_eqb, lt_of_not-le}
use mathlib.Core.Logic.{dite}
use mathlib.Core.Option.{none, some, some-injective, some-ne-none}
use native.Mathlib.Decide.{dec_le, ℕ_discrete}
use lib.ListN.{get_elem?}
use prog.Atomic.{either}
use Rattle.std.proofs.lemmas.List.{get_or-set_other, get_or-set_same, length-set, length-append}
use Rattle.std.proofs.lemmas.Bool.Decides.{nat_tests}
use Rattle.sw_claims.specs.declared.rule.ClaimView.{ClaimView}
use Rattle.sw_claims.specs.ClaimsRule.{total, Each, times, once_below, weight, live_count, may_end, fresh, spent, DrawnOnce, DrawsCounted, OneReason, CountsOut, Limited, Claimed, Kept}
use Rattle.sw_claims.specs.ClaimsSteps.{Knows, IsAlone, Finds, Drew, Looked, TriedStop, looked, given, taken}
use Rattle.sw_claims.specs.ClaimsAnswers.{IsEachBelow}
use Rattle.atomic_table.specs.Table.{State, step, keeps, stepped, Allows, Splits, Joins}
use Rattle.atomic_table.proofs.Lists.{at_set, at_snoc, set_else}
use Rattle.sw_claims.proofs.Totals.{total-set, total-same, total-snoc, part-le, times-append, once-more, once-here, lone, each_set, each_snoc}

abbrev V : Type 0
V = ClaimView

abbrev St : Type 0
St = State (Unit {0}) ClaimView

abbrev length_of : V → ℕ
length_of v = length v.drawn

abbrev ends_of : V → ℕ
ends_of v = v.ends

true_not_false : (b : Bool) → b ≡ true → b ≡ false → ⊥
true_not_false b p q = cc

is_first : (b : Bool) → (b ≡ false → ⊥) → b ≡ true
is_first true isnt = refl
is_first false isnt = absurd (isnt refl)

add_zero : (n : ℕ) → n + 0 ≡ n
add_zero n = omega arith

set_there : (l : List V) (i : ℕ) (v w : V) → get_elem? l i ≡ some v → get_elem? (set l i w) i ≡ some w
set_there [] i v w e = absurd (some-ne-none v (sym e))
set_there (x ∷ xs) zero v w e = refl
set_there (x ∷ xs) (suc i) v w e = set_there xs i v w e

may_end_less : (live : Bool) (m n : ℕ) → (if live then (if (m + n) == 0 then 1 else 0) else 0) ≤ (if live then (if m == 0 then 1 else 0) else 0)
may_end_less true m n = grind (arith, nat_tests)
may_end_less false m n = omega arith

add_reasons : (m n s : ℕ) → (m ≡ 0) ⊎ (m ≡ s) → (n ≡ 0) ⊎ (n ≡ s) → m + n ≤ s → (m + n ≡ 0) ⊎ (m + n ≡ s)
add_reasons m n s p q few = ⊎_elim (λ (a : m ≡ 0). ⊎_elim (λ (b : n ≡ 0). inl (omega arith)) (λ (b : n ≡ s). inr (omega arith)) q) (λ (a : m ≡ s). inr (omega arith)) p

max_reasons : (m n s : ℕ) → (m ≡ 0) ⊎ (m ≡ s) → (n ≡ 0) ⊎ (n ≡ s) → (max m n ≡ 0) ⊎ (max m n ≡ s)
max_reasons m n s p q = ⊎_elim (λ (a : m ≡ 0). ⊎_elim (λ (b : n ≡ 0). inl (omega arith)) (λ (b : n ≡ s). inr (omega arith)) q) (λ (a : m ≡ s). ⊎_elim (λ (b : n ≡ 0). inr (omega arith)) (λ (b : n ≡ s). inr (omega arith)) q) p

-- the seat is the same one, in use, with the same number of parts, splits and seats out
record SameSeat (v w : V) : Type 0 where
  live : v.live ≡ true
  still : w.live ≡ true
  first : w.first ≡ v.first
  parts : w.parts ≡ v.parts
  splits : w.splits ≡ v.splits
  out : w.out ≡ v.out

same_live : (v w : V) → SameSeat v w → weight w.live ≡ weight v.live
same_live v w same = ap weight (same.still ∙ sym same.live)

joined_stays : (vs : List V) (id : ℕ) (v w : V) → SameSeat v w → Each (λ u. u.live ≡ false → u ≡ spent) vs → Each (λ u. u.live ≡ false → u ≡ spent) (set vs id w)
joined_stays vs id v w same each = each_set (λ u. u.live ≡ false → u ≡ spent) (λ u. u.live ≡ false → u ≡ spent) vs id w each (λ u p. p) (λ gone. absurd (true_not_false w.live same.still gone))

out_stays : (vs : List V) (id : ℕ) (v w : V) → get_elem? vs id ≡ some v → SameSeat v w → CountsOut vs → CountsOut (set vs id w)
out_stays vs id v w at same counts j u e first = let all : live_count (set vs id w) ≡ live_count vs = total-same (λ u. weight u.live) vs id v w at (same_live v w same) in
    ⊎_elim (λ (t : (j ≡ id) × (w ≡ u)). let known = counts id v at (sym same.first ∙ ap (λ (x : V). x.first) t.1 ∙ first) in let is : w.out ≡ u.out = ap (λ (x : V). x.out) t.1 in let o = same.out in (t.0 ∙ known.0, omega (arith, known.1, all, is, o)))
    (λ (t : (j ≡ id → ⊥) × (get_elem? vs j ≡ some u)). let known = counts j u t.1 first in (known.0, all ∙ known.1)) (at_set vs id j w u e)

limits_stay : (parts : ℕ) (vs : List V) (id : ℕ) (v w : V) → get_elem? vs id ≡ some v → SameSeat v w → Limited parts vs → Limited parts (set vs id w)
limits_stay parts vs id v w at same r = record {
  same_parts = each_set (λ u. u.live ≡ true → u.parts ≡ parts) (λ u. u.live ≡ true → u.parts ≡ parts) vs id w r.same_parts (λ u p. p) (λ _. same.parts ∙ r.same_parts id v at same.live);
  splitters = each_set (λ u. u.first ≡ false → u.splits ≡ 0) (λ u. u.first ≡ false → u.splits ≡ 0) vs id w r.splitters (λ u p. p) (λ p. same.splits ∙ r.splitters id v at (sym same.first ∙ p));
  few_parts = r.few_parts;
  few_seats = let a : total (λ u. u.splits) (set vs id w) ≡ total (λ u. u.splits) vs = total-same (λ u. u.splits) vs id v w at same.splits in let b : length (set vs id w) ≡ length vs = length-set vs id w in let few = r.few_seats in omega arith;
}

-- the sums of numbers and ends where the draws of one seat change
draws_stay : (d : ℕ) (vs : List V) (id : ℕ) (v w : V) → get_elem? vs id ≡ some v → w.drawn ≡ v.drawn → w.ends ≡ v.ends → w.live ≡ v.live → DrawsCounted d vs → DrawsCounted d (set vs id w)
draws_stay d vs id v w at drawn ends live r = let a : total length_of (set vs id w) ≡ total length_of vs = total-same length_of vs id v w at (ap (λ (l : List ℕ). length l) drawn) in
    let b : total ends_of (set vs id w) ≡ total ends_of vs = total-same ends_of vs id v w at ends in
    let m : total may_end (set vs id w) ≡ total may_end vs = total-same may_end vs id v w at (λ i. if live i then (if ends i == 0 then 1 else 0) else 0) in
    let n : length (set vs id w) ≡ length vs = length-set vs id w in let sum = r.sum in let few = r.ends in record { sum = omega (arith, sum, a, b); ends = omega (arith, few, b, m, n) }

numbers_stay : (n : ℕ) (vs : List V) (id : ℕ) (v w : V) → get_elem? vs id ≡ some v → w.drawn ≡ v.drawn → DrawnOnce n vs → DrawnOnce n (set vs id w)
numbers_stay n vs id v w at drawn r = record {
  once = λ x. total-same (λ u. times x u.drawn) vs id v w at (ap (times x) drawn) ∙ r.once x;
  count = total-same length_of vs id v w at (ap (λ (l : List ℕ). length l) drawn) ∙ r.count;
}

reason_stays : (s : ℕ) (vs : List V) (id : ℕ) (v w : V) → get_elem? vs id ≡ some v → w.wrote ≡ v.wrote → w.seen ≡ v.seen → OneReason s vs → OneReason s (set vs id w)
reason_stays s vs id v w at wrote seen r = record {
  writer = total-same (λ u. u.wrote) vs id v w at wrote ∙ r.writer;
  written = each_set (λ u. (u.wrote ≡ 0) ⊎ (u.wrote ≡ s)) (λ u. (u.wrote ≡ 0) ⊎ (u.wrote ≡ s)) vs id w r.written (λ u p. p) (subst (λ (n : ℕ). (n ≡ 0) ⊎ (n ≡ s)) (sym wrote) (r.written id v at));
  seen = each_set (λ u. (u.seen ≡ 0) ⊎ (u.seen ≡ s)) (λ u. (u.seen ≡ 0) ⊎ (u.seen ≡ s)) vs id w r.seen (λ u p. p) (subst (λ (n : ℕ). (n ≡ 0) ⊎ (n ≡ s)) (sym seen) (r.seen id v at));
}

abbrev with_number : V → ℕ → V
with_number v n = record v { drawn = v.drawn ++ n ∷ []; looks_at_draw = v.looks }

abbrev with_end : V → V
with_end v = record v { ends = 1; looks_at_draw = v.looks }

abbrev with_seen : V → ℕ → V
with_seen v n = record v { seen = n }

abbrev with_written : V → ℕ → V
with_written v n = record v { wrote = n; seen = n }

same : (v w : V) → v.live ≡ true → w.live ≡ v.live → w.first ≡ v.first → w.parts ≡ v.parts → w.splits ≡ v.splits → w.out ≡ v.out → SameSeat v w
same v w live still first parts splits out = record { live = live; still = still ∙ live; first = first; parts = parts; splits = splits; out = out }

-- a draw below the parts
number_drawn : (parts d s : ℕ) (vs : List V) (id : ℕ) (v : V) → Claimed parts d s vs → get_elem? vs id ≡ some v → v.live ≡ true → d < parts → Claimed parts (d + 1) s (set vs id (with_number v d))
number_drawn parts d s vs id v r at live below = let w : V = with_number v d in let seat = same v w live refl refl refl refl refl in
    let len : length (v.drawn ++ d ∷ []) ≡ length v.drawn + 1 = length-append v.drawn (d ∷ []) in
    let a : total length_of (set vs id w) + length v.drawn ≡ total length_of vs + length (v.drawn ++ d ∷ []) = total-set length_of vs id v w at in
    let count : total length_of vs ≡ min d parts = r.numbers.count in
    let b : total ends_of (set vs id w) ≡ total ends_of vs = total-same ends_of vs id v w at refl in
    let m : total may_end (set vs id w) ≡ total may_end vs = total-same may_end vs id v w at refl in
    let n : length (set vs id w) ≡ length vs = length-set vs id w in
    let sum : d ≡ total length_of vs + total ends_of vs = r.draws.sum in let few : total ends_of vs + total may_end vs ≤ length vs = r.draws.ends in
    let least : min d parts ≡ d = omega arith in let more : min (d + 1) parts ≡ d + 1 = omega arith in
    record {
      numbers = subst (λ (k : ℕ). DrawnOnce k (set vs id w)) (sym more) record {
        once = λ x. let t : total (λ u. times x u.drawn) (set vs id w) + times x v.drawn ≡ total (λ u. times x u.drawn) vs + times x (v.drawn ++ d ∷ []) = total-set (λ u. times x u.drawn) vs id v w at in
            let o : total (λ u. times x u.drawn) vs ≡ once_below x d = r.numbers.once x ∙ ap (once_below x) least in let p = times-append x v.drawn (d ∷ []) in let q = once-more x d in omega (arith, t, o, p, q);
        count = omega (arith, a, len, count, least);
      };
      draws = record { sum = omega (arith, a, len, b, sum); ends = omega (arith, b, m, n, few) };
      reason = reason_stays s vs id v w at refl refl r.reason;
      joined = joined_stays vs id v w seat r.joined;
      out = out_stays vs id v w at seat r.out;
      limits = limits_stay parts vs id v w at seat r.limits;
    }

-- a draw that meets the end, by a seat that has not met it
end_met : (parts d s : ℕ) (vs : List V) (id : ℕ) (v : V) → Claimed parts d s vs → get_elem? vs id ≡ some v → v.live ≡ true → v.ends ≡ 0 → parts ≤ d → Claimed parts (d + 1) s (set vs id (with_end v))
end_met parts d s vs id v r at live unmet above = let w : V = with_end v in let seat = same v w live refl refl refl refl refl in
    let a : total length_of (set vs id w) ≡ total length_of vs = total-same length_of vs id v w at refl in
    let b : total ends_of (set vs id w) + v.ends ≡ total ends_of vs + 1 = total-set ends_of vs id v w at in
    let before : may_end v ≡ 1 = λ i. if live i then (if unmet i == 0 then 1 else 0) else 0 in
    let after : may_end w ≡ 0 = λ i. if live i then 0 else 0 in
    let m : total may_end (set vs id w) + may_end v ≡ total may_end vs + may_end w = total-set may_end vs id v w at in
    let n : length (set vs id w) ≡ length vs = length-set vs id w in
    let sum : d ≡ total length_of vs + total ends_of vs = r.draws.sum in let few : total ends_of vs + total may_end vs ≤ length vs = r.draws.ends in
    let more : min (d + 1) parts ≡ min d parts = omega arith in
    record {
      numbers = subst (λ (k : ℕ). DrawnOnce k (set vs id w)) (sym more) (numbers_stay (min d parts) vs id v w at refl r.numbers);
      draws = record { sum = omega (arith, a, b, unmet, sum); ends = omega (arith, b, m, n, few, unmet, before, after) };
      reason = reason_stays s vs id v w at refl refl r.reason;
      joined = joined_stays vs id v w seat r.joined;
      out = out_stays vs id v w at seat r.out;
      limits = limits_stay parts vs id v w at seat r.limits;
    }

-- a view that learns of the stop word alone
view_learns : (parts d s : ℕ) (vs : List V) (id : ℕ) (v w : V) → Claimed parts d s vs → get_elem? vs id ≡ some v → SameSeat v w → w.drawn ≡ v.drawn → w.ends ≡ v.ends → w.wrote ≡ v.wrote → (w.seen ≡ 0) ⊎ (w.seen ≡ s)
    → Claimed parts d s (set vs id w)
view_learns parts d s vs id v w r at seat drawn ends wrote seen = record {
  numbers = numbers_stay (min d parts) vs id v w at drawn r.numbers;
  draws = draws_stay d vs id v w at drawn ends (seat.still ∙ sym seat.live) r.draws;
  reason = record {
    writer = total-same (λ u. u.wrote) vs id v w at wrote ∙ r.reason.writer;
    written = each_set (λ u. (u.wrote ≡ 0) ⊎ (u.wrote ≡ s)) (λ u. (u.wrote ≡ 0) ⊎ (u.wrote ≡ s)) vs id w r.reason.written (λ u p. p) (subst (λ (n : ℕ). (n ≡ 0) ⊎ (n ≡ s)) (sym wrote) (r.reason.written id v at));
    seen = each_set (λ u. (u.seen ≡ 0) ⊎ (u.seen ≡ s)) (λ u. (u.seen ≡ 0) ⊎ (u.seen ≡ s)) vs id w r.reason.seen (λ u p. p) seen;
  };
  joined = joined_stays vs id v w seat r.joined;
  out = out_stays vs id v w at seat r.out;
  limits = limits_stay parts vs id v w at seat r.limits;
}

-- a look that finds no reason
look_made : (parts d s : ℕ) (vs : List V) (id : ℕ) (v : V) → Claimed parts d s vs → get_elem? vs id ≡ some v → v.live ≡ true → Claimed parts d s (set vs id (looked v))
look_made parts d s vs id v r at live = view_learns parts d s vs id v (looked v) r at (same v (looked v) live refl refl refl refl refl) refl refl refl (r.reason.seen id v at)

-- the reason that stands is read, by a look or by a stop
reason_looked : (parts d s : ℕ) (vs : List V) (id : ℕ) (v : V) → Claimed parts d s vs → get_elem? vs id ≡ some v → v.live ≡ true → Claimed parts d s (set vs id (with_seen (looked v) s))
reason_looked parts d s vs id v r at live = let w : V = with_seen (looked v) s in view_learns parts d s vs id v w r at (same v w live refl refl refl refl refl) refl refl refl (inr refl)

reason_read : (parts d s : ℕ) (vs : List V) (id : ℕ) (v : V) → Claimed parts d s vs → get_elem? vs id ≡ some v → v.live ≡ true → Claimed parts d s (set vs id (with_seen v s))
reason_read parts d s vs id v r at live = let w : V = with_seen v s in view_learns parts d s vs id v w r at (same v w live refl refl refl refl refl) refl refl refl (inr refl)

-- the first reason is written
reason_written : (parts d s : ℕ) (vs : List V) (id : ℕ) (v : V) → Claimed parts d 0 vs → get_elem? vs id ≡ some v → v.live ≡ true → Claimed parts d s (set vs id (with_written v s))
reason_written parts d s vs id v r at live = let w : V = with_written v s in let seat = same v w live refl refl refl refl refl in
    let part : v.wrote ≤ total (λ u. u.wrote) vs = part-le (λ u. u.wrote) vs id v at in
    let all : total (λ u. u.wrote) vs ≡ 0 = r.reason.writer in
    let now : total (λ u. u.wrote) (set vs id w) + v.wrote ≡ total (λ u. u.wrote) vs + s = total-set (λ u. u.wrote) vs id v w at in record {
      numbers = numbers_stay (min d parts) vs id v w at refl r.numbers;
      draws = draws_stay d vs id v w at refl refl refl r.draws;
      reason = record {
        writer = omega (arith, part, all, now);
        written = each_set (λ u. (u.wrote ≡ 0) ⊎ (u.wrote ≡ 0)) (λ u. (u.wrote ≡ 0) ⊎ (u.wrote ≡ s)) vs id w r.reason.written (λ u p. inl (⊎_elim (λ (q : u.wrote ≡ 0). q) (λ (q : u.wrote ≡ 0). q) p)) (inr refl);
        seen = each_set (λ u. (u.seen ≡ 0) ⊎ (u.seen ≡ 0)) (λ u. (u.seen ≡ 0) ⊎ (u.seen ≡ s)) vs id w r.reason.seen (λ u p. inl (⊎_elim (λ (q : u.seen ≡ 0). q) (λ (q : u.seen ≡ 0). q) p)) (inr refl);
      };
      joined = joined_stays vs id v w seat r.joined;
      out = out_stays vs id v w at seat r.out;
      limits = limits_stay parts vs id v w at seat r.limits;
    }

-- what a seat finds in the stop word
finds : (parts d s : ℕ) (vs : List V) (id : ℕ) (v : V) → Claimed parts d s vs → get_elem? vs id ≡ some v → v.live ≡ true → Finds v s
finds parts d s vs id v r at live = record {
  seen = λ some_seen. ⊎_elim (λ (q : v.seen ≡ 0). let isnt : s ≡ v.seen = omega arith in isnt) (λ (q : v.seen ≡ s). sym q) (r.reason.seen id v at);
  wrote = λ some_wrote. ⊎_elim (λ (q : v.wrote ≡ 0). let isnt : s ≡ v.wrote = omega arith in isnt) (λ (q : v.wrote ≡ s). sym q) (r.reason.written id v at);
  alone = λ a. let one : live_count vs ≡ 1 = (r.out id v at a.0).1 ∙ ap (λ (n : ℕ). n + 1) a.1 in sym r.reason.writer ∙ lone (λ u. u.wrote) refl vs id v at live r.joined one;
}

-- what a lone seat finds in the draw word
draws_in_order : (parts d s : ℕ) (vs : List V) (id : ℕ) (v : V) → Claimed parts d s vs → get_elem? vs id ≡ some v → v.live ≡ true → IsAlone v → d ≡ length v.drawn + v.ends
draws_in_order parts d s vs id v r at live a = let one : live_count vs ≡ 1 = (r.out id v at a.0).1 ∙ ap (λ (n : ℕ). n + 1) a.1 in
    let p : total length_of vs ≡ length v.drawn = lone length_of refl vs id v at live r.joined one in let q : total ends_of vs ≡ v.ends = lone ends_of refl vs id v at live r.joined one in
    let sum : d ≡ total length_of vs + total ends_of vs = r.draws.sum in omega (arith, p, q, sum)

-- a split of the first seat
split_made : (parts d s : ℕ) (vs : List V) (id : ℕ) (v : V) → Claimed parts d s vs → get_elem? vs id ≡ some v → v.live ≡ true → 1 ≤ v.splits → Claimed parts d s (set vs id (given v) ++ fresh v.parts ∷ [])
split_made parts d s vs id v r at live some_left = let w : V = given v in let new : V = fresh v.parts in let us : List V = set vs id w in let all : List V = us ++ new ∷ [] in
    let first : v.first ≡ true = is_first v.first (λ isnt. let none_left : v.splits ≡ 0 = r.limits.splitters id v at isnt in omega arith) in
    let a : total length_of all ≡ total length_of vs = total-snoc length_of us new ∙ (add_zero (total length_of us) ∙ total-same length_of vs id v w at refl) in
    let b : total ends_of all ≡ total ends_of vs = total-snoc ends_of us new ∙ (add_zero (total ends_of us) ∙ total-same ends_of vs id v w at refl) in
    let m : total may_end all ≡ total may_end us + 1 = total-snoc may_end us new in let m' : total may_end us ≡ total may_end vs = total-same may_end vs id v w at refl in
    let l : live_count all ≡ live_count us + 1 = total-snoc (λ u. weight u.live) us new in let l' : live_count us ≡ live_count vs = total-same (λ u. weight u.live) vs id v w at refl in
    let n : length all ≡ length us + 1 = length-append us (new ∷ []) in let n' : length us ≡ length vs = length-set vs id w in
    let p : total (λ u. u.splits) all ≡ total (λ u. u.splits) us + 0 = total-snoc (λ u. u.splits) us new in
    let p' : total (λ u. u.splits) us + v.splits ≡ total (λ u. u.splits) vs + (v.splits - 1) = total-set (λ u. u.splits) vs id v w at in
    let mine = r.out id v at first in
    record {
      numbers = record {
        once = λ x. (total-snoc (λ u. times x u.drawn) us new ∙ (add_zero (total (λ u. times x u.drawn) us) ∙ total-same (λ u. times x u.drawn) vs id v w at refl)) ∙ r.numbers.once x;
        count = a ∙ r.numbers.count;
      };
      draws = let sum : d ≡ total length_of vs + total ends_of vs = r.draws.sum in let few : total ends_of vs + total may_end vs ≤ length vs = r.draws.ends in record { sum = omega (arith, a, b, sum); ends = omega (arith, b, m, m', n, n', few) };
      reason = record {
        writer = (total-snoc (λ u. u.wrote) us new ∙ (add_zero (total (λ u. u.wrote) us) ∙ total-same (λ u. u.wrote) vs id v w at refl)) ∙ r.reason.writer;
        written = each_snoc (λ u. (u.wrote ≡ 0) ⊎ (u.wrote ≡ s)) us new (each_set (λ u. (u.wrote ≡ 0) ⊎ (u.wrote ≡ s)) (λ u. (u.wrote ≡ 0) ⊎ (u.wrote ≡ s)) vs id w r.reason.written (λ u q. q) (r.reason.written id v at)) (inl refl);
        seen = each_snoc (λ u. (u.seen ≡ 0) ⊎ (u.seen ≡ s)) us new (each_set (λ u. (u.seen ≡ 0) ⊎ (u.seen ≡ s)) (λ u. (u.seen ≡ 0) ⊎ (u.seen ≡ s)) vs id w r.reason.seen (λ u q. q) (r.reason.seen id v at)) (inl refl);
      };
      joined = each_snoc (λ u. u.live ≡ false → u ≡ spent) us new (each_set (λ u. u.live ≡ false → u ≡ spent) (λ u. u.live ≡ false → u ≡ spent) vs id w r.joined (λ u q. q) (λ gone. absurd (true_not_false v.live live gone))) (λ gone. absurd (true_not_false true refl gone));
      out = λ j u e is_one. ⊎_elim
          (λ (t : get_elem? us j ≡ some u). ⊎_elim
          (λ (q : (j ≡ id) × (w ≡ u)). let o : v.out + 1 ≡ u.out = ap (λ (x : V). x.out) q.1 in (q.0 ∙ mine.0, omega (arith, mine.1, l, l', o)))
          (λ (q : (j ≡ id → ⊥) × (get_elem? vs j ≡ some u)). absurd (q.0 ((r.out j u q.1 is_one).0 ∙ sym mine.0))) (at_set vs id j w u t))
          (λ (t : new ≡ u). absurd (true_not_false u.first is_one (sym (ap (λ (x : V). x.first) t)))) (at_snoc us new u j e);
      limits = record {
        same_parts = each_snoc (λ u. u.live ≡ true → u.parts ≡ parts) us new (each_set (λ u. u.live ≡ true → u.parts ≡ parts) (λ u. u.live ≡ true → u.parts ≡ parts) vs id w r.limits.same_parts (λ u q. q) (r.limits.same_parts id v at)) (λ _. r.limits.same_parts id v at live);
        splitters = each_snoc (λ u. u.first ≡ false → u.splits ≡ 0) us new (each_set (λ u. u.first ≡ false → u.splits ≡ 0) (λ u. u.first ≡ false → u.splits ≡ 0) vs id w r.limits.splitters (λ u q. q) (λ isnt. absurd (true_not_false v.first first isnt))) (λ _. refl);
        few_parts = r.limits.few_parts;
        few_seats = let few : length vs + total (λ u. u.splits) vs ≤ 65 = r.limits.few_seats in omega (arith, n, n', p, p', few, some_left);
      };
    }

-- a sum in which one view takes in another
sum_joined : (f : V → ℕ) (vs : List V) (id other : ℕ) (v w both : V) → get_elem? vs id ≡ some v → get_elem? (set vs id both) other ≡ some w → total f (set (set vs id both) other spent) + f v + f w ≡ total f vs + f both + f spent
sum_joined f vs id other v w both at there = let a = total-set f vs id v both at in let b = total-set f (set vs id both) other w spent there in omega (arith, a, b)

each_joined : (P : V → Type 0) (vs : List V) (id other : ℕ) (both : V) → Each P vs → P both → P spent → Each P (set (set vs id both) other spent)
each_joined P vs id other both each here gone = each_set P P (set vs id both) other spent (each_set P P vs id both each (λ u p. p) here) (λ u p. p) gone

-- the first seat takes in another, which is in use
seats_joined : (parts d s : ℕ) (vs : List V) (id other : ℕ) (v w : V) → Claimed parts d s vs → get_elem? vs id ≡ some v → (other ≡ id → ⊥) → get_elem? (set vs id (taken v w)) other ≡ some w
    → v.live ≡ true → v.first ≡ true → w.live ≡ true → Claimed parts d s (set (set vs id (taken v w)) other spent)
seats_joined parts d s vs id other v w r at apart there live first used = let both : V = taken v w in let us : List V = set vs id both in let all : List V = set us other spent in
    let was : get_elem? vs other ≡ some w = sym (set_else vs id other both apart) ∙ there in
    let len : length (v.drawn ++ w.drawn) ≡ length v.drawn + length w.drawn = length-append v.drawn w.drawn in
    let a : total length_of all + length v.drawn + length w.drawn ≡ total length_of vs + length (v.drawn ++ w.drawn) + 0 = sum_joined length_of vs id other v w both at there in
    let b : total ends_of all + v.ends + w.ends ≡ total ends_of vs + (v.ends + w.ends) + 0 = sum_joined ends_of vs id other v w both at there in
    let m : total may_end all + may_end v + may_end w ≡ total may_end vs + may_end both + 0 = sum_joined may_end vs id other v w both at there in
    let m' : may_end both ≤ may_end v = may_end_less v.live v.ends w.ends in
    let l : live_count all + weight v.live + weight w.live ≡ live_count vs + weight v.live + 0 = sum_joined (λ u. weight u.live) vs id other v w both at there in
    let w1 : weight w.live ≡ 1 = ap weight used in let v1 : weight v.live ≡ 1 = ap weight live in
    let here : get_elem? all id ≡ some both = set_else us other id spent (λ e. apart (sym e)) ∙ set_there vs id v both at in
    let some_live : weight v.live ≤ live_count all = part-le (λ u. weight u.live) all id both here in
    let mine = r.out id v at first in let count : live_count vs ≡ v.out + 1 = mine.1 in
    let n : length all ≡ length vs = length-set us other spent ∙ length-set vs id both in
    let p : total (λ u. u.splits) all + v.splits + w.splits ≡ total (λ u. u.splits) vs + v.splits + 0 = sum_joined (λ u. u.splits) vs id other v w both at there in
    let k : total (λ u. u.wrote) all + v.wrote + w.wrote ≡ total (λ u. u.wrote) vs + (v.wrote + w.wrote) + 0 = sum_joined (λ u. u.wrote) vs id other v w both at there in
    let stop : total (λ u. u.wrote) vs ≡ s = r.reason.writer in let stop' : total (λ u. u.wrote) all ≡ s = omega (arith, k, stop) in
    let at_most : v.wrote + w.wrote ≤ total (λ u. u.wrote) all = part-le (λ u. u.wrote) all id both here in
    record {
      numbers = record {
        once = λ x. let t : total (λ u. times x u.drawn) all + times x v.drawn + times x w.drawn ≡ total (λ u. times x u.drawn) vs + times x (v.drawn ++ w.drawn) + 0 = sum_joined (λ u. times x u.drawn) vs id other v w both at there in
            let q = times-append x v.drawn w.drawn in let o = r.numbers.once x in omega (arith, t, q, o);
        count = let c : total length_of vs ≡ min d parts = r.numbers.count in omega (arith, a, len, c);
      };
      draws = let sum : d ≡ total length_of vs + total ends_of vs = r.draws.sum in let few : total ends_of vs + total may_end vs ≤ length vs = r.draws.ends in record { sum = omega (arith, a, len, b, sum); ends = omega (arith, b, m, m', n, few) };
      reason = record {
        writer = stop';
        written = each_joined (λ u. (u.wrote ≡ 0) ⊎ (u.wrote ≡ s)) vs id other both r.reason.written (add_reasons v.wrote w.wrote s (r.reason.written id v at) (r.reason.written other w was) (omega (arith, at_most, stop'))) (inl refl);
        seen = each_joined (λ u. (u.seen ≡ 0) ⊎ (u.seen ≡ s)) vs id other both r.reason.seen (max_reasons v.seen w.seen s (r.reason.seen id v at) (r.reason.seen other w was)) (inl refl);
      };
      joined = each_joined (λ u. u.live ≡ false → u ≡ spent) vs id other both r.joined (λ gone. absurd (true_not_false v.live live gone)) (λ _. refl);
      out = λ j u e is_one. ⊎_elim
          (λ (t : (j ≡ other) × (spent ≡ u)). absurd (true_not_false u.first is_one (sym (ap (λ (x : V). x.first) t.1))))
          (λ (t : (j ≡ other → ⊥) × (get_elem? us j ≡ some u)). ⊎_elim
          (λ (q : (j ≡ id) × (both ≡ u)). let o : v.out - 1 ≡ u.out = ap (λ (x : V). x.out) q.1 in (q.0 ∙ mine.0, omega (arith, count, l, w1, v1, some_live, o)))
          (λ (q : (j ≡ id → ⊥) × (get_elem? vs j ≡ some u)). absurd (q.0 ((r.out j u q.1 is_one).0 ∙ sym mine.0))) (at_set vs id j both u t.1)) (at_set us other j spent u e);
      limits = record {
        same_parts = each_joined (λ u. u.live ≡ true → u.parts ≡ parts) vs id other both r.limits.same_parts (r.limits.same_parts id v at) (λ isnt. absurd (true_not_false false isnt refl));
        splitters = each_joined (λ u. u.first ≡ false → u.splits ≡ 0) vs id other both r.limits.splitters (r.limits.splitters id v at) (λ _. refl);
        few_parts = r.limits.few_parts;
        few_seats = let few : length vs + total (λ u. u.splits) vs ≤ 65 = r.limits.few_seats in omega (arith, n, p, few);
      };
    }

-- the rule after a step on the draw word
draw_word_stepped : (parts : ℕ) (s : St) (k : Kept parts s) (n id : ℕ) (me : Knows) (w : V) → Claimed parts n (get_or s.words 1 0) (set s.views id w) → Kept parts (stepped s 0 n id me.1 w keeps)
draw_word_stepped parts s k n id me w r = let wide : length s.words ≡ 2 = k.words in record {
  words = length-set s.words 0 n ∙ wide;
  rule = subst (λ (z : ℕ × ℕ). Claimed parts z.0 z.1 (set s.views id w)) (λ i. (sym (get_or-set_same s.words 0 n 0 (omega arith)) i, sym (get_or-set_other s.words 0 1 n 0 (λ e. omega arith)) i)) r;
}

-- the rule after a step on the stop word
stop_word_stepped : (parts : ℕ) (s : St) (k : Kept parts s) (n id : ℕ) (me : Knows) (w : V) → Claimed parts (get_or s.words 0 0) n (set s.views id w) → Kept parts (stepped s 1 n id me.1 w keeps)
stop_word_stepped parts s k n id me w r = let wide : length s.words ≡ 2 = k.words in record {
  words = length-set s.words 1 n ∙ wide;
  rule = subst (λ (z : ℕ × ℕ). Claimed parts z.0 z.1 (set s.views id w)) (λ i. (sym (get_or-set_other s.words 1 0 n 0 (λ e. omega arith)) i, sym (get_or-set_same s.words 1 n 0 (omega arith)) i)) r;
}

-- the draw word does not wrap
no_wrap : (parts d s : ℕ) (vs : List V) → Claimed parts d s vs → d + 1 ≡ (d + 1) % 2 ^ 64
no_wrap parts d s vs r = let sum : d ≡ total length_of vs + total ends_of vs = r.draws.sum in let few : total ends_of vs + total may_end vs ≤ length vs = r.draws.ends in
    let seats : length vs + total (λ u. u.splits) vs ≤ 65 = r.limits.few_seats in let count : total length_of vs ≡ min d parts = r.numbers.count in let most : parts ≤ 8589934592 = r.limits.few_parts in omega arith

-- the number that the draw word holds was not drawn yet
not_drawn : (parts d s : ℕ) (vs : List V) (id : ℕ) (v : V) → Claimed parts d s vs → get_elem? vs id ≡ some v → d < parts → times d v.drawn ≡ 0
not_drawn parts d s vs id v r at below = let part : times d v.drawn ≤ total (λ u. times d u.drawn) vs = part-le (λ u. times d u.drawn) vs id v at in let least : min d parts ≡ d = omega arith in
    let all : total (λ u. times d u.drawn) vs ≡ once_below d d = r.numbers.once d ∙ ap (once_below d) least in let none_yet = once-here d in omega (arith, part, all, none_yet)

-- a seat has drawn at most as many numbers as the draw word counts
drawn_before : (parts d s : ℕ) (vs : List V) (id : ℕ) (v : V) → Claimed parts d s vs → get_elem? vs id ≡ some v → length v.drawn ≤ d
drawn_before parts d s vs id v r at = let part : length v.drawn ≤ total length_of vs = part-le length_of vs id v at in let sum : d ≡ total length_of vs + total ends_of vs = r.draws.sum in omega arith

pub draws : (parts slots id : ℕ) (me : Knows) → me.0.live ≡ true → me.0.ends ≡ 0 → Allows (Kept parts) slots id me 0 (λ n. (n + 1) % 2 ^ 64) (Drew (step slots 0 1 0 none) me)
draws parts slots id me live unmet s k _ at _ = let d : ℕ = get_or s.words 0 0 in let v : V = me.0 in let r = k.rule in let p : v.parts ≡ parts = r.limits.same_parts id v at live in let up = no_wrap parts d (get_or s.words 1 0) s.views r in
    let order = draws_in_order parts d (get_or s.words 1 0) s.views id v r at live in
    dite (dec_le parts d)
    (λ above. (
      with_end v,
      keeps,
      tt,
      draw_word_stepped parts s k ((d + 1) % 2 ^ 64) id me (with_end v) (subst (λ (n : ℕ). Claimed parts n (get_or s.words 1 0) (set s.views id (with_end v))) up (end_met parts d (get_or s.words 1 0) s.views id v r at live unmet above)),
      record { gained = λ below. absurd (omega arith); ended = λ _. refl; new = λ below. absurd (omega arith); after = λ below. absurd (omega arith); alone = order },
    ))
    (λ below. let under : d < parts = lt_of_not-le below in (
      with_number v d,
      keeps,
      tt,
      draw_word_stepped parts s k ((d + 1) % 2 ^ 64) id me (with_number v d) (subst (λ (n : ℕ). Claimed parts n (get_or s.words 1 0) (set s.views id (with_number v d))) up (number_drawn parts d (get_or s.words 1 0) s.views id v r at live under)),
      record { gained = λ _. refl; ended = λ above. absurd (omega arith); new = λ _. not_drawn parts d (get_or s.words 1 0) s.views id v r at under; after = λ _. drawn_before parts d (get_or s.words 1 0) s.views id v r at; alone = order },
    ))

pub looks : (parts slots id : ℕ) (me : Knows) → me.0.live ≡ true → Allows (Kept parts) slots id me 1 (λ n. n) (Looked (step slots 1 0 0 none) me)
looks parts slots id me live s k _ at _ = let x : ℕ = get_or s.words 1 0 in let v : V = me.0 in let known = finds parts (get_or s.words 0 0) x s.views id v k.rule at live in dite (ℕ_discrete x 0)
    (λ runs. (
      looked v,
      keeps,
      tt,
      stop_word_stepped parts s k x id me (looked v) (look_made parts (get_or s.words 0 0) x s.views id v k.rule at live),
      record { found = known; running = λ _. refl; stopped = λ some_reason. absurd (omega arith) },
    ))
    (λ stands. (
      with_seen (looked v) x,
      keeps,
      tt,
      stop_word_stepped parts s k x id me (with_seen (looked v) x) (reason_looked parts (get_or s.words 0 0) x s.views id v k.rule at live),
      record { found = known; running = λ e. absurd (stands e); stopped = λ _. refl },
    ))

pub stops : (parts slots id : ℕ) (me : Knows) (reason : ℕ) → me.0.live ≡ true → Allows (Kept parts) slots id me 1 (λ n. either (eqb n 0) reason n) (TriedStop (step slots 1 0 reason none) me)
stops parts slots id me reason live s k _ at _ = let x : ℕ = get_or s.words 1 0 in let v : V = me.0 in let d : ℕ = get_or s.words 0 0 in let known = finds parts d x s.views id v k.rule at live in dite (ℕ_discrete x 0)
    (λ runs. (
      with_written v reason,
      keeps,
      tt,
      subst (λ b. Kept parts (stepped s 1 (either b reason x) id me.1 (with_written v reason) keeps)) (sym (eq-eqb x 0 runs))
          (stop_word_stepped parts s k reason id me (with_written v reason) (reason_written parts d reason s.views id v (subst (λ (n : ℕ). Claimed parts d n s.views) runs k.rule) at live)),
      record { found = known; written = λ _. refl; stopped = λ some_reason. absurd (omega arith) },
    ))
    (λ stands. (
      with_seen v x,
      keeps,
      tt,
      subst (λ b. Kept parts (stepped s 1 (either b reason x) id me.1 (with_seen v x) keeps)) (sym (ne_eqb x 0 stands))
          (stop_word_stepped parts s k x id me (with_seen v x) (reason_read parts d x s.views id v k.rule at live)),
      record { found = known; written = λ e. absurd (stands e); stopped = λ _. refl },
    ))

pub splits : (parts id : ℕ) (v : V) → v.live ≡ true → 1 ≤ v.splits → Splits (Kept parts) id v (given v) (fresh v.parts)
splits parts id v live some_left s k at = record { words = k.words; rule = split_made parts (get_or s.words 0 0) (get_or s.words 1 0) s.views id v k.rule at live some_left }

pub joins : (parts id : ℕ) (v : V) (other : ℕ) (w : V) → v.live ≡ true → v.first ≡ true → w.live ≡ true → Joins (Kept parts) id v other w (taken v w) spent
joins parts id v other w live first used s k at apart there = record { words = k.words; rule = seats_joined parts (get_or s.words 0 0) (get_or s.words 1 0) s.views id other v w k.rule at apart there live first used }

pub read_first : (l : List ℕ) (n : ℕ) → get_elem? l 0 ≡ some n → get_or l 0 0 ≡ n
read_first [] n e = absurd (some-ne-none n (sym e))
read_first (x ∷ xs) n e = some-injective x n e

-- what the first seat knows once no other is in use
pub record Ends (v : V) (n : ℕ) : Type 0 where
  pub numbers : IsEachBelow n v.drawn
  pub whole : 1 ≤ v.ends → n ≡ v.parts
  pub reason : 1 ≤ v.seen → v.wrote ≡ v.seen

pub closes : (parts : ℕ) (s : St) (id : ℕ) (v : V) → Kept parts s → get_elem? s.views id ≡ some v → v.live ≡ true → IsAlone v → (n : ℕ) → n ≡ min (get_or s.words 0 0) v.parts → Ends v n
closes parts s id v k at live a n is = let r = k.rule in let d : ℕ = get_or s.words 0 0 in let vs : List V = s.views in let one : live_count vs ≡ 1 = (r.out id v at a.0).1 ∙ ap (λ (m : ℕ). m + 1) a.1 in
    let same_parts : v.parts ≡ parts = r.limits.same_parts id v at live in let n' : n ≡ min d parts = is ∙ ap (min d) same_parts in
    let p : total length_of vs ≡ length v.drawn = lone length_of refl vs id v at live r.joined one in let q : total ends_of vs ≡ v.ends = lone ends_of refl vs id v at live r.joined one in
    let sum : d ≡ total length_of vs + total ends_of vs = r.draws.sum in let count : total length_of vs ≡ min d parts = r.numbers.count in
    let found = finds parts d (get_or s.words 1 0) vs id v r at live in
    record {
      numbers = record {
        once = λ x. sym (lone (λ u. times x u.drawn) refl vs id v at live r.joined one) ∙ (r.numbers.once x ∙ ap (once_below x) (sym n'));
        count = sym p ∙ (count ∙ sym n');
      };
      whole = λ met. omega (arith, sum, count, p, q, n', same_parts);
      reason = λ some_seen. sym (found.alone a) ∙ found.seen some_seen;
    }

-- the same, of the words that the table had at its end
pub closed_with : (parts : ℕ) (s : St) (id : ℕ) (v v' : V) (ws : List ℕ) (word least own : ℕ) → Kept parts s × (get_elem? s.views id ≡ some v) → s.words ≡ ws → get_elem? ws 0 ≡ some word → least ≡ min word own → own ≡ v.parts → v.live ≡ true → v ≡ v' → IsAlone v' → Ends v' least
closed_with parts s id v v' ws word least own seen same read is parts_are live e alone = let held : get_or s.words 0 0 ≡ word = ap (λ (l : List ℕ). get_or l 0 0) same ∙ read_first ws word read in
    subst (λ (u : V). Ends u least) e (closes parts s id v seen.0 seen.1 live (subst IsAlone (sym e) alone) least (is ∙ λ i. min (sym held i) (parts_are i)))
