-- What the shares of all workers leave: a whole round, in which no class joins.
use Rattle.std.specs.Prelude.{◌≡◌, ℕ, suc, ◌+◌, ◌<◌, ◌≤◌, ◌==◌, if◌then◌else◌, List, [], ◌∷◌, ◌++◌, length, take, Some, slice_get, unwrap_or, Contains}
use Rattle.std.specs.List.{AllByRecursion}
use Rattle.std.proofs.Common.{arith, refl, sym, ap, subst, ◌∙◌, inl, inr}
use Rattle.std.proofs.lemmas.Bool.{cases_lt, cases_eq, ne_eqb, lt-ltb}
use Rattle.std.proofs.lemmas.List.{append-nil, take_all}
use Rattle.std.proofs.lemmas.Option.{slice_get_within}
use Rattle.std.proofs.lemmas.Slice.Zip.{AllZip-long}
use Rattle.sw_lists.proofs.Each.{each-flat_map, each-weaker, of_contained}
use Rattle.sw_lists.proofs.Members.{contains_head, contains_tail, contains_unmap}
use Rattle.sw_logic.specs.declared.syntax.Formula.{Formula}
use Rattle.sw_meaning.specs.Verdict.{Joins}
use Rattle.sw_filter.specs.declared.filter.Filter.{Filter}
use Rattle.sw_filter.specs.declared.filter.Mode.TheVariants.{Finish}
use Rattle.sw_filter.specs.Good.{Good}
use Rattle.sw_filter.proofs.Good.{good_does_not_join}
use Rattle.sw_claims.specs.declared.rule.ClaimView.{ClaimView}
use Rattle.sw_claims.specs.ClaimsRule.{times as claim_times}
use Rattle.sw_claims.specs.ClaimsAnswers.{IsEachBelow}
use Rattle.sw_pool.specs.declared.pool.Pool.{Pool}
use Rattle.sw_core.specs.declared.record.Record.{Record}
use Rattle.sw_core.specs.declared.record.Round.{Round}
use Rattle.sw_core.specs.declared.record.Settled.{Settled}
use Rattle.sw_core.specs.Machine.{Search, filters_at, formula_in, parts_in}
use Rattle.sw_core.specs.Gathered.{Outcome, Share, AreOutcomes, IsLiveBy, IsSettledBy, IsShareAmong, IsTimely, filters_of, kept_of, once_below, round_of, settled_of}
use Rattle.sw_core.specs.Records.{times}
use Rattle.sw_core.proofs.Drawing.{times-append}
use Rattle.sw_core.proofs.Lists.{each_got}
use Rattle.sw_core.proofs.Merging.{timely_is_live}
use Rattle.sw_hand.specs.declared.hand.Handed.{Handed}
use Rattle.sw_gather.specs.Gathers.{HasTokens, IsRoundOf}
use Rattle.sw_gather.proofs.Shares.{AreMergedShares, drawn_same, live_same, shares_among}
use Rattle.sw_walk.specs.Parts.{all_classes, part_at}
use Rattle.sw_seek.specs.Seeking.{NoneJoins}
use Rattle.sw_finish.specs.Finished.{IsGathered}
use Rattle.sw_finish.specs.Joins.{AreWhole, IsShareUnder}
use Rattle.sw_finish.specs.Shares.{all_drawn, IsOneRound}

-- ---- numbers that were drawn
same_times : (x : ℕ) (xs : List ℕ) → claim_times x xs ≡ times x xs
same_times x [] = refl
same_times x (y ∷ ys) = ap (λ n. (if y == x then 1 else 0) + n) (same_times x ys)

among_times : (x : ℕ) (xs : List ℕ) → 1 ≤ times x xs → Contains xs x
among_times x [] h = absurd (omega arith)
among_times x (y ∷ ys) h = elim (cases_eq y x) [
  | inl same ↦ subst (Contains (y ∷ ys)) same (contains_head y ys)
  | inr other ↦ let none : ◌≡◌ {A = ℕ} (if y == x then 1 else 0) 0 = ap (λ b. if b then 1 else 0) (ne_eqb y x other) in
      contains_tail y ys x (among_times x ys (omega (arith, h, none)))
]

-- the share of the worker that drew a number
record Drew (hs : List Handed) (x : ℕ) : Type 0 where
  worker : ℕ
  share : Handed
  at : slice_get hs worker ≡ Some share
  among : Contains share.drawn x

drew : (x : ℕ) (hs : List Handed) → 1 ≤ times x (all_drawn hs) → Drew hs x
drew x [] h = absurd (omega arith)
drew x (s ∷ ss) h =
    let both : times x (s.drawn ++ all_drawn ss) ≡ times x s.drawn + times x (all_drawn ss) = times-append x s.drawn (all_drawn ss) in
    elim (cases_lt 0 (times x s.drawn)) [
      | inl here ↦ record { worker = 0; share = s; at = refl; among = among_times x s.drawn (omega (arith, here)) }
      | inr none ↦ let d = drew x ss (omega (arith, h, both, none)) in record { worker = suc d.worker; share = d.share; at = d.at; among = d.among }
    ]

module _ (m : Search) (pool : Pool) (g : List Formula) where
  -- ---- no class joins
  abbrev Never : List ℕ → Type 0
  Never class = Joins m.protocol g (formula_in m class) → ⊥

  settled_none : (finish : m.mode ≡ Finish) (worker : ℕ) (fs : List Filter) (x : Settled) → IsSettledBy m worker g fs x → IsTimely m (length g) g fs x
      → AllByRecursion Never (part_at (parts_in m) x.part)
  settled_none finish worker fs x s t =
      each-weaker (λ class. Good m.protocol m.mode (take x.under g) (formula_in m class) (filters_at fs x.by)) Never
      (λ class good. good_does_not_join m.protocol g (formula_in m class) (filters_at fs x.by)
      (subst (λ l. Good m.protocol Finish l (formula_in m class) (filters_at fs x.by)) (take_all x.under g t.since)
      (subst (λ mode. Good m.protocol mode (take x.under g) (formula_in m class) (filters_at fs x.by)) finish good)))
      (part_at (parts_in m) x.part) s.good

  drawn_none : (finish : m.mode ≡ Finish) (hs : List Handed) → ((i : ℕ) (h : Handed) → slice_get hs i ≡ Some h → IsShareUnder m pool g i h) → (x : ℕ)
      → 1 ≤ times x (all_drawn hs)
      → AllByRecursion Never (part_at (parts_in m) x)
  drawn_none finish hs each x h =
      let d = drew x hs h in
      let own : IsShareUnder m pool g d.worker d.share = each d.worker d.share d.at in
      let found = contains_unmap (λ (y : Settled). y.part) d.share.settled x (subst (λ l. Contains l x) (sym own.share.in_order) d.among) in
      let s = of_contained (IsSettledBy m d.worker g (filters_of d.share.kept)) d.share.settled found.0 own.share.settled found.1 in
      let t = of_contained (IsTimely m (length g) g (filters_of d.share.kept)) d.share.settled found.0 own.timely found.1 in
      subst (λ n. AllByRecursion Never (part_at (parts_in m) n)) found.2 (settled_none finish d.worker (filters_of d.share.kept) found.0 s t)

  pub none_joins : (finish : m.mode ≡ Finish) (hs : List Handed) → ((i : ℕ) (h : Handed) → slice_get hs i ≡ Some h → IsShareUnder m pool g i h)
      → ((x : ℕ) → times x (all_drawn hs) ≡ once_below x (length (parts_in m))) → NoneJoins m.protocol m.template g (all_classes (parts_in m))
  none_joins finish hs each once class among =
      of_contained Never (all_classes (parts_in m)) class
      (each-flat_map Never (λ part. part) (parts_in m) (each_got (AllByRecursion Never) (parts_in m) (λ k part at.
      let within : k < length (parts_in m) = slice_get_within (parts_in m) k part at in
      let one : once_below k (length (parts_in m)) ≡ 1 = ap (λ b. if b then 1 else 0) (lt-ltb k (length (parts_in m)) within) in
      let drawn = once k in
      subst (λ o. AllByRecursion Never (unwrap_or o [])) at (drawn_none finish hs each k (omega (arith, drawn, one)))))) among

  -- ---- a whole round
  abbrev Quiet : List Share → Outcome
  Quiet shares = record { shares = shares; entries = [] }

  whole_round : (hs : List Handed) (all : List Filter) (round : Round) → length hs ≡ m.workers → ((i : ℕ) (h : Handed) → slice_get hs i ≡ Some h → IsShareUnder m pool g i h)
      → ((x : ℕ) → times x (all_drawn hs) ≡ once_below x (length (parts_in m))) → (r : IsRoundOf [] (length g) hs all round) → AreOutcomes m g [] (Quiet r.merged ∷ [])
  whole_round hs all round count each once r =
      let same : g ++ [] ≡ g = append-nil g in
      let zip : AreMergedShares [] (filters_of (kept_of r.merged)) hs r.merged = subst (λ l. AreMergedShares [] l hs r.merged) r.all_are r.each in (
        record {
          workers = AllZip-long _ hs r.merged zip ∙ count;
          once = λ x. ap (times x) (drawn_same [] (filters_of (kept_of r.merged)) hs r.merged zip) ∙ once x;
          entries = tt;
          shares = subst (λ l. (i : ℕ) (s : Share) → slice_get r.merged i ≡ Some s → IsShareAmong m (filters_of (kept_of r.merged)) l i s) (sym same)
              (shares_among m g [] (filters_of (kept_of r.merged)) hs r.merged zip (λ i h at. (each i h at).share));
        },
        subst (λ l. AllByRecursion (IsLiveBy m l (filters_of (kept_of r.merged))) (settled_of r.merged)) (sym same)
            (live_same m g [] (filters_of (kept_of r.merged)) hs r.merged zip
            (each_got (λ (h : Handed). AllByRecursion (IsLiveBy m g (filters_of h.kept)) h.settled) hs (λ i h at.
            each-weaker (IsTimely m (length g) g (filters_of h.kept)) (IsLiveBy m g (filters_of h.kept)) (λ x t. timely_is_live m g (filters_of h.kept) x t) h.settled (each i h at).timely))),
      )

  pub once_of : (c : ClaimView) (n : ℕ) (hs : List Handed) → c.drawn ≡ all_drawn hs → IsEachBelow n c.drawn → (x : ℕ)
      → times x (all_drawn hs) ≡ once_below x n
  once_of c n hs e below x = ap (times x) (sym e) ∙ (sym (same_times x c.drawn) ∙ below.once x)

  pub have_tokens : (hs : List Handed) → ((i : ℕ) (h : Handed) → slice_get hs i ≡ Some h → IsShareUnder m pool g i h) → AllByRecursion (HasTokens pool) hs
  have_tokens hs each = each_got (HasTokens pool) hs (λ i h at. (each i h at).tokens)

  pub whole_is : (finish : m.mode ≡ Finish) (c : ClaimView) (n : ℕ) (hs : List Handed) (r : Record) → AreWhole m pool g m.workers c hs
      → IsEachBelow n c.drawn → n ≡ length (parts_in m) → IsOneRound (length g) hs r
      → IsGathered m g r × NoneJoins m.protocol m.template g (all_classes (parts_in m))
  whole_is finish c n hs r w below all one =
      let once = λ (x : ℕ). once_of c n hs w.drawn_are below x ∙ ap (once_below x) all in
      let long : length g ≡ length g + 0 = omega arith in (
        record {
          outcome = Quiet one.gathered.merged;
          is = one.is ∙ (ap (λ x. (let k : Record = record { entries = []; rounds = x ∷ [] } in k)) one.gathered.round ∙ ap (λ k. (let y : Record = record { entries = []; rounds = round_of k (Quiet one.gathered.merged) ∷ [] } in y)) long);
          whole = whole_round hs one.all one.round w.count w.each once one.gathered;
        },
        none_joins finish hs w.each once,
      )
