-- The shares of a round together.
use Rattle.std.specs.Prelude.{◌≡◌, ℕ, ◌≤◌, List, [], ◌∷◌, ◌++◌, map, length, take}
use Rattle.std.specs.List.{AllByRecursion, AllZip}
use Rattle.std.proofs.Common.{refl, arith, sym, ap, subst, ◌∙◌, length-append}
use Rattle.std.proofs.lemmas.List.{length-map}
use Rattle.std.proofs.Math.Seq.{take-append_seam}
use Rattle.sw_filter.specs.declared.filter.Filter.{Filter}
use Rattle.sw_pool.specs.declared.pool.Pool.{Pool}
use Rattle.sw_pool.specs.declared.pool.Seen.{Seen}
use Rattle.sw_pool.specs.Pools.{IsShown, filter_of}
use Rattle.sw_core.specs.declared.record.Kept.{Kept}
use Rattle.sw_core.specs.declared.record.Round.{Round}
use Rattle.sw_core.specs.declared.record.Settled.{Settled}
use Rattle.sw_core.specs.Gathered.{Share, chosen, drawn_of, filters_of, kept_of, settled_of, IsMerged}
use Rattle.sw_hand.specs.declared.hand.Handed.{Handed}
use Rattle.sw_hand.specs.Hands.{share_of}
use Rattle.sw_gather.specs.Gathers.{AreKeptOf, AreSettledOf, HasTokens, IsRoundOf, shown_by}
use Rattle.sw_gather.proofs.Moving.{all_names}

-- a worker's tokens are of the pool, and show its filters
pub tokens_shown : (pool : Pool) (tokens : List Seen) (kept : List Kept) → AllZip (λ token (k : Kept). IsShown pool token × (filter_of token ≡ k.filter)) tokens kept → AllByRecursion (IsShown pool) tokens
tokens_shown pool [] [] z = tt
tokens_shown pool [] (k ∷ kept) z = absurd z
tokens_shown pool (t ∷ tokens) [] z = absurd z
tokens_shown pool (t ∷ tokens) (k ∷ kept) z = (z.0.0, tokens_shown pool tokens kept z.1)

pub tokens_show : (pool : Pool) (tokens : List Seen) (kept : List Kept) → AllZip (λ token (k : Kept). IsShown pool token × (filter_of token ≡ k.filter)) tokens kept → shown_by tokens ≡ filters_of kept
tokens_show pool [] [] z = refl
tokens_show pool [] (k ∷ kept) z = absurd z
tokens_show pool (t ∷ tokens) [] z = absurd z
tokens_show pool (t ∷ tokens) (k ∷ kept) z = ap (λ f. f ∷ shown_by tokens) z.0.1 ∙ ap (λ l. k.filter ∷ l) (tokens_show pool tokens kept z.1)

-- the shares of which the lists were made
pub record AreMerged (before : List Filter) (all : List Filter) (hs : List Handed) (ks : List Kept) (xs : List Settled) : Type 0 where
  pub merged : List Share
  pub each : AllZip (λ (h : Handed) s. IsMerged (before ++ filters_of h.kept) all (share_of h) s) hs merged
  pub drawn : drawn_of merged ≡ map (λ (h : Handed). h.drawn) hs
  pub kept : kept_of merged ≡ ks
  pub settled : settled_of merged ≡ xs

are_merged : (n : ℕ) (all : List Filter) → n ≤ length all → (hs : List Handed) (ks : List Kept) (xs : List Settled) → AreKeptOf hs ks → AreSettledOf n all hs xs → AreMerged (take n all) all hs ks xs
are_merged n all le [] ks xs k s = record { merged = []; each = tt; drawn = refl; kept = sym k; settled = sym s }
are_merged n all le (h ∷ hs) ks xs (marks, rest, e, more) (places, own, later, at, zip, f, others) =
    let r = are_merged n all le hs rest later more others in
    record {
      merged = record { drawn = h.drawn; kept = chosen marks h.kept; settled = own } ∷ r.merged;
      each = (record { drawn = refl; marks = marks; kept = refl; settled = all_names n all (filters_of h.kept) places le at h.settled own zip }, r.each);
      drawn = ap (λ l. h.drawn ∷ l) r.drawn;
      kept = ap (λ l. chosen marks h.kept ++ l) r.kept ∙ sym e;
      settled = ap (λ l. own ++ l) r.settled ∙ sym f;
    }

same_round : (d d' : List (List ℕ)) (k k' : List Kept) (s s' : List Settled) (log : ℕ) → d ≡ d' → k ≡ k' → s ≡ s'
    → (let r : Round = record { drawn = d; kept = k; settled = s; log = log } in r) ≡ (let r : Round = record { drawn = d'; kept = k'; settled = s'; log = log } in r)
same_round d d' k k' s s' log a b c = λ i. record { drawn = a i; kept = b i; settled = c i; log = log }

pub round_is : (before : List Filter) (log : ℕ) (hs : List Handed) (all : List Filter) (ks : List Kept) (xs : List Settled) → all ≡ before ++ filters_of ks → AreKeptOf hs ks → AreSettledOf (length before) all hs xs
    → IsRoundOf before log hs all (record { drawn = map (λ (h : Handed). h.drawn) hs; kept = ks; settled = xs; log = log })
round_is before log hs all ks xs e k s =
    let le : length before ≤ length all = omega (arith, ap length e, length-append before (filters_of ks)) in
    let front : take (length before) all ≡ before = ap (take (length before)) e ∙ take-append_seam before (filters_of ks) in
    let r = are_merged (length before) all le hs ks xs k s in
    record {
      merged = r.merged;
      each = subst (λ b. AllZip (λ (h : Handed) s. IsMerged (b ++ filters_of h.kept) all (share_of h) s) hs r.merged) front r.each;
      round = same_round _ _ _ _ _ _ log (sym r.drawn) (sym r.kept) (sym r.settled);
      all_are = e ∙ ap (λ l. before ++ filters_of l) (sym r.kept);
    }
