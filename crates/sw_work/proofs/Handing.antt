-- What a worker hands back of a round, and how a round fails.
use Rattle.std.specs.Prelude.{◌≡◌, ℕ, ◌≤◌, Bool, List, [], ◌∷◌, ◌++◌, map, length, Option, IfSome}
use Rattle.std.specs.List.{AllByRecursion, AllZip}
use Rattle.std.proofs.Common.{arith, sym, subst}
use Rattle.sw_lists.proofs.Each.{each-map, each-unmap, each-weaker}
use Rattle.sw_logic.specs.declared.syntax.Formula.{Formula}
use Rattle.sw_filter.specs.declared.view.Shown.{Shown}
use Rattle.sw_filter.specs.Filters.{IsAdmitted}
use Rattle.sw_filter.specs.Views.{AreAdmitted}
use Rattle.sw_pool.specs.declared.pool.Pool.{Pool}
use Rattle.sw_pool.specs.Pools.{IsShown, filter_of}
use Rattle.sw_claims.specs.declared.rule.ClaimView.{ClaimView}
use Rattle.sw_log.specs.declared.rule.LogView.{LogView}
use Rattle.sw_core.specs.declared.record.Kept.{Kept}
use Rattle.sw_core.specs.declared.record.Settled.{Settled}
use Rattle.sw_core.specs.Machine.{Search, parts_in}
use Rattle.sw_core.specs.Gathered.{IsSettledBy, IsTimely, filters_of}
use Rattle.sw_walk.specs.Parts.{classes_of}
use Rattle.sw_hand.specs.declared.hand.Handed.{Handed}
use Rattle.sw_hand.specs.Hands.{IsHand, IsHanded}
use Rattle.sw_work.specs.declared.bench.Bench.{Bench}
use Rattle.sw_work.specs.declared.drawing.Progress.{Progress}
use Rattle.sw_work.specs.declared.errors.BreadthError.{BreadthError}
use Rattle.sw_work.specs.declared.working.Worked.TheVariants.{Done}
use Rattle.sw_hand.specs.Seats.{HasDrawn}
use Rattle.sw_work.specs.Works.{IsWorked, Settles, BeginsWith, bodies_of, carried, seen_formulas}
use Rattle.sw_work.specs.Steps.{FailsRound, HasSettled, IsLone, IsPromised, Looks}
use Rattle.sw_work.proofs.Seen.{lone_looks}

zip_map : {A B C : Type 0} (P : A → C → Type 0) (f : B → C) (xs : List A) (ys : List B) → AllZip (λ a b. P a (f b)) xs ys → AllZip P xs (map f ys)
zip_map P f [] [] h = h
zip_map P f [] (y ∷ ys) h = h
zip_map P f (x ∷ xs) [] h = h
zip_map P f (x ∷ xs) (y ∷ ys) h = (h.0, zip_map P f xs ys h.1)

zip_unmap : {A B C : Type 0} (P : A → C → Type 0) (f : B → C) (xs : List A) (ys : List B) → AllZip P xs (map f ys) → AllZip (λ a b. P a (f b)) xs ys
zip_unmap P f [] [] h = h
zip_unmap P f [] (y ∷ ys) h = h
zip_unmap P f (x ∷ xs) [] h = h
zip_unmap P f (x ∷ xs) (y ∷ ys) h = (h.0, zip_unmap P f xs ys h.1)

module _ (m : Search) (pool : Pool) (worker before : ℕ) where
  pub handed_of : (since : ℕ) (formulas : List Formula) (shown : List Shown) (used : List Bool) (h : Handed) → IsHand m pool worker formulas shown h.kept h.tokens.items used → AreAdmitted m.protocol shown
      → map (λ (x : Settled). x.part) h.settled ≡ h.drawn → AllByRecursion (IsPromised m worker before since formulas h.kept) h.settled → IsHanded m pool worker before since formulas h
  handed_of since formulas shown used h hand admitted order promised = record {
    share = λ filters e. record {
      in_order = order;
      settled = each-weaker (IsPromised m worker before since formulas h.kept) (IsSettledBy m worker formulas (filters ++ filters_of h.kept)) (λ x p. p.settled filters e) h.settled promised;
      kept = hand.each;
      fresh = hand.fresh;
    };
    timely = λ filters e. each-weaker (IsPromised m worker before since formulas h.kept) (IsTimely m since formulas (filters ++ filters_of h.kept)) (λ x p. p.timely filters e) h.settled promised;
    admitted = each-unmap (IsAdmitted m.protocol) (λ (k : Kept). k.filter) h.kept
        (subst (AllByRecursion (IsAdmitted m.protocol)) (sym hand.same) (each-map (IsAdmitted m.protocol) (λ (e : Shown). e.filter.now) shown admitted));
    tokens = zip_unmap (λ token x. IsShown pool token × (filter_of token ≡ x)) (λ (k : Kept). k.filter) h.tokens.items h.kept
        (subst (AllZip (λ token x. IsShown pool token × (filter_of token ≡ x)) h.tokens.items) (sym hand.same)
        (zip_map (λ token x. IsShown pool token × (filter_of token ≡ x)) (λ (e : Shown). e.filter.now) h.tokens.items shown hand.shows));
  }

  pub earlier : (since from : ℕ) (formulas : List Formula) (kept : List Kept) (xs : List Settled) → from ≤ since → AllByRecursion (IsPromised m worker before since formulas kept) xs → AllByRecursion (IsPromised m worker before from formulas kept) xs
  earlier since from formulas kept xs le all = each-weaker (IsPromised m worker before since formulas kept) (IsPromised m worker before from formulas kept)
      (λ x p. record { settled = p.settled; timely = λ filters e. let t = p.timely filters e in let later = t.since in record { since = omega (arith, le, later); places = t.places; live = t.live } }) xs all

  pub worked_done : {S : Type 0} (c d : ClaimView) (v u w : LogView) (b : Bench S) (p : Progress) (h : Handed) → Looks v u → HasSettled m worker before c d u w b p → b.formulas ≡ seen_formulas m w.seen → h.drawn ≡ p.drawn
      → IsHanded m pool worker before (length v.seen) b.formulas h → IsWorked m pool worker before c d v w (Done h)
  worked_done c d v u w b p h looks settled are same handed = (
    subst (λ l. HasDrawn c d l) (sym same) settled.drew,
    subst (λ fs. IsHanded m pool worker before (length v.seen) fs h) are handed,
    λ alone.
        let lone : IsLone m v = record { alone = alone.log; classes = alone.classes } in
        subst (λ l. Settles m.protocol m.template (parts_in m) (classes_of (bodies_of l)) (classes_of (bodies_of w.seen))) (looks.alone alone.log) (settled.leads alone.claims (lone_looks m v u looks lone)).1,
  )

-- a round that fails after a look at the log
pub fails_look : (m : Search) (budget : Option ℕ) (c : ClaimView) (v u w : LogView) (e : BreadthError) → Looks v u → FailsRound m budget c u w e → FailsRound m budget c v w e
fails_look m budget c v u w e looks f = record {
  cause = f.cause;
  on_the_way = λ only lone.
      subst (λ l. IfSome (carried e) (λ g. (h : List (List ℕ)) → Settles m.protocol m.template (parts_in m) (classes_of (bodies_of l)) h → BeginsWith (classes_of g) h)) (looks.alone lone.alone) (f.on_the_way only (lone_looks m v u looks lone));
}
