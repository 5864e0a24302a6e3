-- The filters that are kept in a round are fresh.
use Rattle.std.specs.Prelude.{◌≡◌, ℕ, zero, suc, ◌+◌, ◌<◌, List, [], ◌∷◌, ◌++◌, take, Some, slice_get}
use Rattle.std.specs.List.{AllByRecursion}
use Rattle.std.proofs.Common.{refl, arith, sym, subst, append_assoc, append-nil}
use Rattle.sw_lists.proofs.Each.{each-append, each-weaker}
use Rattle.sw_logic.specs.declared.syntax.Formula.{Formula}
use Rattle.sw_filter.specs.declared.filter.Filter.{Filter}
use Rattle.sw_filter.specs.Filters.{IsLive, Refutes}
use Rattle.sw_core.specs.declared.record.Kept.{Kept}
use Rattle.sw_core.specs.Machine.{Search, formula_in}
use Rattle.sw_core.specs.Gathered.{Share, kept_of, filters_after, log_after, IsKeptBy, IsShareAmong, AreFresh, KeptAreFresh}

module _ (m : Search) (log : List Formula) where
  abbrev Fresh : List Kept → List Kept → Type 0
  Fresh before ks = AreFresh m log before ks

  abbrev AreOf : ℕ → List Kept → Type 0
  AreOf w ks = AllByRecursion (λ (e : Kept). e.worker < w) ks

  fresh_append : (before xs ys : List Kept) → Fresh before xs → Fresh (before ++ xs) ys → Fresh before (xs ++ ys)
  fresh_append before [] ys f g = subst (λ l. Fresh l ys) (append-nil before) g
  fresh_append before (k ∷ xs) ys f g = (f.0, fresh_append (before ++ k ∷ []) xs ys f.1 (subst (λ l. Fresh l ys) (sym (append_assoc before (k ∷ []) xs)) g))

  -- filters of earlier workers change nothing
  fresh_on : (w : ℕ) (before mine ks : List Kept) → AreOf w before → AllByRecursion (IsKeptBy m w log) ks → Fresh mine ks → Fresh (before ++ mine) ks
  fresh_on w before mine [] b a f = tt
  fresh_on w before mine (k ∷ ks) b a f = (
    record {
      refutes = f.0.refutes;
      first =
          each-append (λ (e : Kept). e.worker ≡ k.worker → IsLive m.protocol m.mode (take k.under log) e.filter → Refutes m.protocol e.filter (formula_in m k.body.cubes) → ⊥) before mine
          (each-weaker (λ (e : Kept). e.worker < w) (λ (e : Kept). e.worker ≡ k.worker → IsLive m.protocol m.mode (take k.under log) e.filter → Refutes m.protocol e.filter (formula_in m k.body.cubes) → ⊥)
          (λ e lt same live refutes. absurd (omega (arith, lt, same, a.0.by_worker))) before b) f.0.first;
    },
    subst (λ l. Fresh l ks) (sym (append_assoc before mine (k ∷ []))) (fresh_on w before (mine ++ k ∷ []) ks b a.1 f.1),
  )

  shares_fresh : (fs : List Filter) (w : ℕ) (before : List Kept) (shares : List Share) → AreOf w before → ((i : ℕ) (share : Share) → slice_get shares i ≡ Some share → IsShareAmong m fs log (w + i) share) → Fresh before (kept_of shares)
  shares_fresh fs w before [] b h = tt
  shares_fresh fs w before (s ∷ shares) b h =
      let here : w + 0 ≡ w = omega arith in
      let share : IsShareAmong m fs log w s = subst (λ n. IsShareAmong m fs log n s) here (h zero s refl) in
      let mine : Fresh before s.kept = subst (λ l. Fresh l s.kept) (append-nil before) (fresh_on w before [] s.kept b share.kept share.fresh) in
      let earlier : AreOf (w + 1) (before ++ s.kept) =
      each-append (λ (e : Kept). e.worker < w + 1) before s.kept (each-weaker (λ (e : Kept). e.worker < w) (λ (e : Kept). e.worker < w + 1) (λ e lt. omega (arith, lt)) before b)
      (each-weaker (IsKeptBy m w log) (λ (e : Kept). e.worker < w + 1) (λ e a. omega (arith, a.by_worker)) s.kept share.kept) in
      fresh_append before s.kept (kept_of shares) mine
      (shares_fresh fs (w + 1) (before ++ s.kept) shares earlier (λ i x at. let next : w + suc i ≡ (w + 1) + i = omega arith in subst (λ n. IsShareAmong m fs log n x) next (h (suc i) x at)))

pub kept_are_fresh : KeptAreFresh
kept_are_fresh m log fs o h =
    shares_fresh m (log_after m log o) (filters_after fs o) 0 [] o.shares tt
    (λ i share at. let same : i ≡ 0 + i = omega arith in subst (λ n. IsShareAmong m (filters_after fs o) (log_after m log o) n share) same (h.shares i share at))
