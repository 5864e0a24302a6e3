-- The settlements of the workers' shares, with their places in the list of all filters.
use Rattle.std.specs.Prelude.{◌≡◌, ℕ, zero, suc, ◌+◌, ◌-◌, ◌<◌, ◌≤◌, nat_lt, cond, List, [], ◌∷◌, ◌++◌, map, length, take, Some, slice_get, unwrap_or}
use Rattle.std.specs.List.{AllByRecursion, flat_map, cons_option}
use Rattle.std.proofs.Common.{refl, arith, sym, ap, subst, ◌∙◌, append_assoc, length-append, inl, inr}
use Rattle.std.proofs.lemmas.Bool.{cases_lt, eq-eqb, cond-true, cond-false, lt-ltb, le-ltb}
use Rattle.std.proofs.lemmas.List.{map-append, length-map, take-append-le}
use Rattle.sw_logic.specs.declared.syntax.Formula.{Formula}
use Rattle.sw_lists.proofs.Each.{each-append, each-map, each-weaker, each-both}
use Rattle.sw_filter.specs.declared.filter.Filter.{Filter}
use Rattle.sw_filter.specs.Filters.{IsLive, Refutes}
use Rattle.sw_filter.specs.Good.{Good}
use Rattle.sw_core.specs.declared.record.Kept.{Kept}
use Rattle.sw_core.specs.declared.record.Settled.{Settled}
use Rattle.sw_core.specs.Machine.{Search, AreBelow, filters_at, formula_in, parts_in}
use Rattle.sw_core.specs.Founded.{Gains}
use Rattle.sw_core.specs.Records.{times}
use Rattle.sw_core.specs.Gathered.{Share, filters_of, formulas_of, kept_of, IsSettledBy, IsKeptBy, IsShareAmong, AreFresh, settled_of, ShareStays, EachGained}
use Rattle.sw_core.proofs.Leads.{IsPublished}
use Rattle.sw_core.proofs.Settling.{Settles, parts_of}

-- each settlement's part is among the parts
each_counted : (xs : List Settled) → AllByRecursion (λ (x : Settled). 1 ≤ times x.part (parts_of xs)) xs
each_counted [] = tt
each_counted (x ∷ xs) = (
  subst (λ b. 1 ≤ cond b 1 0 + times x.part (parts_of xs)) (sym (eq-eqb x.part x.part refl)) (omega arith),
  each-weaker (λ (y : Settled). 1 ≤ times y.part (parts_of xs)) (λ (y : Settled). 1 ≤ times y.part (parts_of (x ∷ xs))) (λ y h. omega arith) xs (each_counted xs),
)

module _ (m : Search) (g : List Formula) (fs : List Filter) (own : ℕ → ℕ) where
  -- what makes a settlement one of the machine's, but for the fact Q
  abbrev pub Fits : Settled → Type 0
  Fits x = Settles m g fs own (λ _. Unit {0}) x

  fits : (worker : ℕ) (x : Settled) → worker < m.workers → IsSettledBy m worker g fs x → (own x.part ≡ worker) × (x.part < length (parts_in m)) → Fits x
  fits worker x lt h o = record {
    within = o.1;
    worker = omega (arith, lt, h.by_worker);
    owned = o.0 ∙ sym h.by_worker;
    under = h.under;
    places = h.places;
    good = h.good;
    fact = tt;
  }

  -- the numbers that each worker drew are its own
  abbrev pub Owns : ℕ → List Share → Type 0
  Owns i shares = (j : ℕ) (share : Share) → slice_get shares j ≡ Some share → (x : ℕ) → 1 ≤ times x share.drawn → (own x ≡ i + j) × (x < length (parts_in m))

  abbrev pub AreShares : ℕ → List Share → Type 0
  AreShares i shares = (j : ℕ) (share : Share) → slice_get shares j ≡ Some share → IsShareAmong m fs g (i + j) share

  share_settles : (i : ℕ) (share : Share) → i < m.workers → IsShareAmong m fs g i share → ((x : ℕ) → 1 ≤ times x share.drawn → (own x ≡ i) × (x < length (parts_in m)))
      → AllByRecursion Fits share.settled
  share_settles i share lt h o =
      each-weaker (λ (x : Settled). IsSettledBy m i g fs x × (1 ≤ times x.part (parts_of share.settled))) Fits
      (λ x a. fits i x lt a.0 (o x.part (subst (λ l. 1 ≤ times x.part l) h.in_order a.1))) share.settled
      (each-both (IsSettledBy m i g fs) (λ (x : Settled). 1 ≤ times x.part (parts_of share.settled)) share.settled h.settled (each_counted share.settled))

  pub shares_settle : (i : ℕ) (shares : List Share) → i + length shares ≡ m.workers → AreShares i shares → Owns i shares → AllByRecursion Fits (settled_of shares)
  shares_settle i [] e a o = tt
  shares_settle i (share ∷ shares) e a o =
      let zero_more : i + 0 ≡ i = omega arith in
      each-append Fits share.settled (settled_of shares)
      (share_settles i share (omega (arith, e)) (subst (λ w. IsShareAmong m fs g w share) zero_more (a zero share refl))
      (λ x h. subst (λ w. (own x ≡ w) × (x < length (parts_in m))) zero_more (o zero share refl x h)))
      (shares_settle (i + 1) shares (omega (arith, e))
      (λ j s at. let k : i + suc j ≡ (i + 1) + j = omega arith in subst (λ w. IsShareAmong m fs g w s) k (a (suc j) s at))
      (λ j s at x h. let k : i + suc j ≡ (i + 1) + j = omega arith in subst (λ w. (own x ≡ w) × (x < length (parts_in m))) k (o (suc j) s at x h)))

-- all kept filters are published ones
pub shares_publish : (m : Search) (g : List Formula) (fs : List Filter) (i : ℕ) (shares : List Share) → i + length shares ≡ m.workers → ((j : ℕ) (share : Share) → slice_get shares j ≡ Some share → IsShareAmong m fs g (i + j) share) → AllByRecursion (IsPublished m g) (kept_of shares)
shares_publish m g fs i [] e a = tt
shares_publish m g fs i (share ∷ shares) e a =
    each-append (IsPublished m g) share.kept (kept_of shares)
    (each-weaker (IsKeptBy m (i + 0) g) (IsPublished m g) (λ k h. record { worker = omega (arith, h.by_worker); under = h.under; live = h.live }) share.kept (a zero share refl).kept)
    (shares_publish m g fs (i + 1) shares (omega arith) (λ j s at. let k : i + suc j ≡ (i + 1) + j = omega arith in subst (λ w. IsShareAmong m fs g w s) k (a (suc j) s at)))

-- the settled parts are those drawn
pub settled_parts : (shares : List Share) → ((j : ℕ) (share : Share) → slice_get shares j ≡ Some share → parts_of share.settled ≡ share.drawn) → parts_of (settled_of shares) ≡ flat_map (λ (s : Share). s.drawn) shares
settled_parts [] h = refl
settled_parts (share ∷ shares) h =
    map-append (λ (x : Settled). x.part) share.settled (settled_of shares)
    ∙ (ap (λ l. l ++ parts_of (settled_of shares)) (h zero share refl) ∙ ap (λ l. share.drawn ++ l) (settled_parts shares (λ j s at. h (suc j) s at)))

settled_by_stays : (m : Search) (worker : ℕ) (seen more : List Formula) (fs : List Filter) (x : Settled) → IsSettledBy m worker seen fs x → IsSettledBy m worker (seen ++ more) fs x
settled_by_stays m worker seen more fs x h =
    let le : x.under ≤ length seen = h.under in
    record {
      by_worker = h.by_worker;
      under = omega (arith, length-append seen more);
      places = h.places;
      good = subst (λ g. AllByRecursion (λ class. Good m.protocol m.mode g (formula_in m class) (filters_at fs x.by)) (unwrap_or (slice_get (parts_in m) x.part) [])) (sym (take-append-le x.under seen more le)) h.good;
    }

kept_by_stays : (m : Search) (worker : ℕ) (seen more : List Formula) (k : Kept) → IsKeptBy m worker seen k → IsKeptBy m worker (seen ++ more) k
kept_by_stays m worker seen more k h =
    let le : k.under ≤ length seen = h.under in
    record {
      by_worker = h.by_worker;
      under = omega (arith, length-append seen more);
      live = subst (λ g. IsLive m.protocol m.mode g k.filter) (sym (take-append-le k.under seen more le)) h.live;
    }

fresh_stays : (m : Search) (worker : ℕ) (seen more : List Formula) (before ks : List Kept) → AllByRecursion (IsKeptBy m worker seen) ks → AreFresh m seen before ks → AreFresh m (seen ++ more) before ks
fresh_stays m worker seen more before [] a f = tt
fresh_stays m worker seen more before (k ∷ ks) a f = (
  record {
    refutes = f.0.refutes;
    first =
        let same : take k.under (seen ++ more) ≡ take k.under seen = take-append-le k.under seen more a.0.under in
        subst (λ g. AllByRecursion (λ (e : Kept). e.worker ≡ k.worker → IsLive m.protocol m.mode g e.filter → Refutes m.protocol e.filter (formula_in m k.body.cubes) → ⊥) before) (sym same) f.0.first;
  },
  fresh_stays m worker seen more (before ++ k ∷ []) ks a.1 f.1,
)

pub share_stays : ShareStays
share_stays m fs seen more worker share h = record {
  in_order = h.in_order;
  settled = each-weaker (IsSettledBy m worker seen (fs ++ filters_of share.kept)) (IsSettledBy m worker (seen ++ more) (fs ++ filters_of share.kept)) (λ x a. settled_by_stays m worker seen more (fs ++ filters_of share.kept) x a) share.settled h.settled;
  kept = each-weaker (IsKeptBy m worker seen) (IsKeptBy m worker (seen ++ more)) (λ k a. kept_by_stays m worker seen more k a) share.kept h.kept;
  fresh = fresh_stays m worker seen more [] share.kept h.kept h.fresh;
}

pub each_gained : EachGained
each_gained m log [] h = tt
each_gained m log (e ∷ es) h =
    let f : Formula = formula_in m e.body.cubes in
    let le : length log + 0 ≤ length log = omega arith in
    let none : length log + 0 ≡ length log = omega arith in
    let first : take (length log + 0) (log ++ (f ∷ formulas_of m es)) ≡ log = ap (λ n. take n (log ++ (f ∷ formulas_of m es))) none ∙ take_front log (f ∷ formulas_of m es) in
    let regrouped : log ++ (f ∷ formulas_of m es) ≡ (log ++ f ∷ []) ++ formulas_of m es = sym (append_assoc log (f ∷ []) (formulas_of m es)) in (
      (h zero e refl).0,
      subst (λ l. Gains m l f) first (h zero e refl).1,
      each_gained m (log ++ f ∷ []) es
          (λ k x at. (
            (h (suc k) x at).0,
            let size : length log + suc k ≡ length (log ++ f ∷ []) + k = omega (arith, length-append log (f ∷ [])) in
                subst (λ l. Gains m (take (length (log ++ f ∷ []) + k) l) (formula_in m x.body.cubes)) regrouped
                (subst (λ n. Gains m (take n (log ++ (f ∷ formulas_of m es))) (formula_in m x.body.cubes)) size (h (suc k) x at).1),
          )),
    )
  where
    take_front : (xs ys : List Formula) → take (length xs) (xs ++ ys) ≡ xs
    take_front [] ys = refl
    take_front (x ∷ xs) ys = ap (λ l. x ∷ l) (take_front xs ys)
