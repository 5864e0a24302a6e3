-- A filter is kept.
use Rattle.std.proofs.Common.{◌≡◌, ◌<◌, ◌∙◌, sym, subst, ap, refl, arith, ℕ, zero, suc, Bool, true, Option, Some, None, option_map, List, [], ◌∷◌, ◌++◌, map, length, take, get_or, append-nil, append_assoc}
use Rattle.std.specs.List.{AllByRecursion, AllZip, Contains, slice_get}
use Rattle.std.specs.Prelude.{slice_set}
use Rattle.std.proofs.lemmas.List.{map-append, length-append, length-map, length-set}
use Rattle.std.proofs.Math.Seq.{take-length}
use Rattle.std.proofs.lemmas.Option.{slice_get_within, slice_get-map, none-some, same_Some}
use Rattle.sw_lists.proofs.Each.{each-at, each-push, each-weaker}
use Rattle.sw_logic.specs.declared.syntax.Formula.{Formula}
use Rattle.sw_meaning.specs.declared.protocol.Protocol.{Protocol}
use Rattle.sw_template.specs.Bodies.{Class}
use Rattle.sw_filter.specs.declared.filter.Filter.{Filter}
use Rattle.sw_filter.specs.declared.filter.Filter.TheVariants as filter
use Rattle.sw_filter.specs.declared.filter.Mode.{Mode}
use Rattle.sw_filter.specs.declared.filter.Mode.TheVariants.{Breadth, Finish}
use Rattle.sw_filter.specs.declared.view.Mark.{Mark}
use Rattle.sw_filter.specs.declared.view.Mark.TheVariants as mark
use Rattle.sw_filter.specs.declared.view.Shown.{Shown}
use Rattle.sw_filter.specs.Filters.{IsAdmitted, IsLive, Refutes}
use Rattle.sw_filter.specs.Good.{IsCounterexample, refuted}
use Rattle.sw_filter.specs.Views.{AreAdmitted, AreMarked, IsMarked, FirstRejects, NoneRejects}
use Rattle.sw_pool.specs.declared.pool.Pool.{Pool}
use Rattle.sw_pool.specs.declared.pool.Seen.{Seen}
use Rattle.sw_pool.specs.Pools.{IsShown, filter_of}
use Rattle.sw_core.specs.declared.record.Kept.{Kept}
use Rattle.sw_core.specs.Machine.{Search, filters_at, formula_in}
use Rattle.sw_core.specs.Gathered.{IsKeptBy, IsFresh, AreFresh, filters_of}
use Rattle.sw_walk.specs.Parts.{IsClass, class_of}
use Rattle.sw_hand.specs.Hands.{Serves, IsHand, AreTokens, Grows, IsGoodBy, Rejects, used_from}
use Rattle.sw_hand.proofs.Used.{use_still, use_one, use_each, push_still, push_one, push_each}

-- a live filter of the protocol that refutes a formula is a counterexample to it
counters : (p : Protocol) (mode : Mode) (g : List Formula) (f : Formula) (x : Filter) → IsAdmitted p x → IsLive p mode g x → Refutes p x f →
    IsCounterexample p mode g f x
counters p mode g f (filter.Start s) a l r = (a, r)
counters p Breadth g f (filter.Move pair n args u) a l r = record { step = a; before = l; formula = r.0; after = r.1 }
counters p Finish g f (filter.Move pair n args u) a l r = record { step = a; before = l; formula = r.0; after = λ k. r.1 k.0 }
counters p Breadth g f (filter.Bad pair n args u) a l r = absurd l
counters p Finish g f (filter.Bad pair n args u) a l r = record { step = a.0; before = l; formula = r; after = λ k. a.1 k.1 }

class_is : (b : Class) → b.template ≡ 0 → b ≡ class_of b.cubes
class_is b e = ap (λ n. record { template = n; cubes = b.cubes }) e

-- a class of the space can be read, and its formula is that of what is searched
module _ (m : Search) (ps : List (List (List ℕ))) (Has : Class → Type 0) (formula : Class → Formula) (serves : Serves m ps Has formula) (b : Class) (is : IsClass ps b) where
  pub has_it : Has b
  has_it = subst Has (sym (class_is b is.single)) (serves.has b.cubes is.among)

  pub formula_is : formula b ≡ formula_in m b.cubes
  formula_is = ap formula (class_is b is.single) ∙ serves.formulas b.cubes is.among

live_of : (p : Protocol) (mode : Mode) (g : List Formula) (x : Filter) (k : Mark) → IsMarked p mode g x k → IsLive p mode g x → k ≡ mark.Live
live_of p mode g x mark.New h l = absurd h
live_of p mode g x mark.Live h l = refl
live_of p mode g x mark.Dead h l = absurd (h l)

-- what a shown filter that rejects is
pub rejecting : (m : Search) (g : List Formula) (c : List ℕ) (f : Formula) (shown : List Shown) (place : ℕ) (e : Shown) → f ≡ formula_in m c →
    AreAdmitted m.protocol shown → AreMarked m.protocol m.mode g shown →
    slice_get shown place ≡ Some e → e.mark ≡ mark.Live → Refutes m.protocol e.filter.now f → Rejects m g c e.filter.now
rejecting m g c f shown place e is admitted marked at live refutes = record {
  admitted = each-at (λ (s : Shown). IsAdmitted m.protocol s.filter.now) shown place e at admitted;
  live = subst (IsMarked m.protocol m.mode g e.filter.now) live (each-at (λ (s : Shown). IsMarked m.protocol m.mode g s.filter.now s.mark) shown place e at marked);
  refutes = subst (Refutes m.protocol e.filter.now) is refutes;
}

zip_push : {A B : Type 0} (R : A → B → Type 0) (xs : List A) (ys : List B) (x : A) (y : B) → AllZip R xs ys → R x y → AllZip R (xs ++ x ∷ []) (ys ++ y ∷ [])
zip_push R [] [] x y z r = (r, tt)
zip_push R [] (b ∷ bs) x y z r = absurd z
zip_push R (a ∷ xs) [] x y z r = absurd z
zip_push R (a ∷ xs) (b ∷ bs) x y z r = (z.0, zip_push R xs bs x y z.1 r)

fresh_push : (m : Search) (g : List Formula) (before ks : List Kept) (k : Kept) → AreFresh m g before ks → IsFresh m g (before ++ ks) k →
    AreFresh m g before (ks ++ k ∷ [])
fresh_push m g before [] k h f = (subst (λ x. IsFresh m g x k) (append-nil before) f, tt)
fresh_push m g before (x ∷ ks) k h f = (h.0, fresh_push m g (before ++ x ∷ []) ks k h.1 (subst (λ y. IsFresh m g y k) (sym (append_assoc before (x ∷ []) ks)) f))

got_filter : (kept : List Kept) (shown : List Shown) (place : ℕ) (e : Shown) → filters_of kept ≡ map (λ (s : Shown). s.filter.now) shown →
    slice_get shown place ≡ Some e → slice_get (filters_of kept) place ≡ Some e.filter.now
got_filter kept shown place e same at =
    ap (λ fs. slice_get fs place) same ∙ (slice_get-map (λ (s : Shown). s.filter.now) shown place ∙ ap (λ (o : Option Shown). option_map (λ (s : Shown). s.filter.now) o) at)

-- no kept filter that is live rejects the class
none_kept : (m : Search) (g : List Formula) (c : List ℕ) (f : Formula) (kept : List Kept) (shown : List Shown) → f ≡ formula_in m c →
    filters_of kept ≡ map (λ (s : Shown). s.filter.now) shown → AreMarked m.protocol m.mode g shown →
    NoneRejects m.protocol f shown (length shown) → AllByRecursion (λ (k : Kept). IsLive m.protocol m.mode g k.filter → Refutes m.protocol k.filter (formula_in m c) → ⊥) kept
none_kept m g c f [] shown is same marked none = tt
none_kept m g c f (k ∷ kept) [] is same marked none = absurd (let e : length (filters_of (k ∷ kept)) ≡ 0 = ap length same in omega arith)
none_kept m g c f (k ∷ kept) (s ∷ shown) is same marked none =
    let here : k.filter ≡ s.filter.now = (cc) in
    let rest : filters_of kept ≡ map (λ (s : Shown). s.filter.now) shown = (cc) in (
      λ live refutes. none 0 s (omega arith) refl record {
        live = live_of m.protocol m.mode g s.filter.now s.mark marked.0 (subst (IsLive m.protocol m.mode g) here live);
        refutes = subst (Refutes m.protocol s.filter.now) (sym is) (subst (λ x. Refutes m.protocol x (formula_in m c)) here refutes);
      },
      none_kept m g c f kept shown is rest marked.1 (λ place e h at r. none (suc place) e (omega arith) at r),
    )

-- a kept filter counts as used
module _ (m : Search) (pool : Pool) (worker : ℕ) (g : List Formula) (c : List ℕ) (f : Formula) (shown : List Shown) (kept : List Kept) (tokens : List Seen) (used : List Bool)
    (hand : IsHand m pool worker g shown kept tokens used) (is : f ≡ formula_in m c) (admitted : AreAdmitted m.protocol shown) (marked : AreMarked m.protocol m.mode g shown) where
  module _ (place : ℕ) (first : FirstRejects m.protocol f shown (Some place)) where
    abbrev here : Shown
    here = first.0.0

    pub within : place < length used
    within = let a : place < length shown = slice_get_within shown place here first.0.1 in let b : length (filters_of kept) ≡ length (map (λ (s : Shown). s.filter.now) shown) = ap length hand.same in
        omega (arith, hand.marks, length-map kept (λ (k : Kept). k.filter), length-map shown (λ (s : Shown). s.filter.now))

    there : slice_get (filters_of kept) place ≡ Some here.filter.now
    there = got_filter kept shown place here hand.same first.0.1

    rejects : Rejects m g c here.filter.now
    rejects = rejecting m g c f shown place here is admitted marked first.0.1 first.0.2.live first.0.2.refutes

    pub hand_used : IsHand m pool worker g shown kept tokens (slice_set used place true)
    hand_used = record {
      same = hand.same;
      each = hand.each;
      fresh = hand.fresh;
      shows = hand.shows;
      marks = length-set used place true ∙ hand.marks;
      live = use_each (filters_of kept) used place here.filter.now within there (IsLive m.protocol m.mode g) hand.live rejects.live;
    }

    pub grows_used : Grows kept used kept (slice_set used place true)
    grows_used = record { more = []; is = sym (append-nil kept); still = use_still (filters_of kept) used place here.filter.now within there }

    pub good_used : IsGoodBy m g kept (slice_set used place true) c
    good_used = refuted here.filter.now (use_one (filters_of kept) used place here.filter.now within there)
        (counters m.protocol m.mode g (formula_in m c) here.filter.now rejects.admitted rejects.live rejects.refutes)

  -- a filter is kept, where none that is kept rejects the class
  module _ (none : FirstRejects m.protocol f shown None) (s : Shown) (t : Seen) (k : Kept) (rejects : Rejects m g c s.filter.now) (token : IsShown pool t × (filter_of t ≡ s.filter.now))
      (ef : k.filter ≡ s.filter.now) (ew : k.worker ≡ worker) (ec : k.body.cubes ≡ c) (eu : k.under ≡ length g) where
    long : length used ≡ length (filters_of kept)
    long = hand.marks ∙ sym (length-map kept (λ (x : Kept). x.filter))

    whole : take k.under g ≡ g
    whole = ap (λ n. take n g) eu ∙ take-length g

    live_now : IsLive m.protocol m.mode g k.filter
    live_now = subst (IsLive m.protocol m.mode g) (sym ef) rejects.live

    same_filters : filters_of (kept ++ k ∷ []) ≡ filters_of kept ++ k.filter ∷ []
    same_filters = map-append (λ (x : Kept). x.filter) kept (k ∷ [])

    is_fresh : IsFresh m g ([] ++ kept) k
    is_fresh = record {
      refutes = subst (λ x. Refutes m.protocol k.filter (formula_in m x)) (sym ec) (subst (λ x. Refutes m.protocol x (formula_in m c)) (sym ef) rejects.refutes);
      first = each-weaker (λ (x : Kept). IsLive m.protocol m.mode g x.filter → Refutes m.protocol x.filter (formula_in m c) → ⊥)
          (λ (x : Kept). x.worker ≡ k.worker → IsLive m.protocol m.mode (take k.under g) x.filter → Refutes m.protocol x.filter (formula_in m k.body.cubes) → ⊥)
          (λ x h w live refutes. h (subst (λ y. IsLive m.protocol m.mode y x.filter) whole live) (subst (λ y. Refutes m.protocol x.filter (formula_in m y)) ec refutes))
          kept (none_kept m g c f kept shown is hand.same marked none);
    }

    is_kept : IsKeptBy m worker g k
    is_kept = record { by_worker = ew; under = omega (arith, eu); live = subst (λ y. IsLive m.protocol m.mode y k.filter) (sym whole) live_now }

    pub hand_kept : IsHand m pool worker g (shown ++ s ∷ []) (kept ++ k ∷ []) (tokens ++ t ∷ []) (used ++ true ∷ [])
    hand_kept = record {
      same = same_filters ∙ (ap (λ fs. fs ++ k.filter ∷ []) hand.same ∙ (ap (λ x. map (λ (e : Shown). e.filter.now) shown ++ x ∷ []) ef ∙ sym (map-append (λ (e : Shown). e.filter.now) shown (s ∷ []))));
      each = each-push (IsKeptBy m worker g) kept k hand.each is_kept;
      fresh = fresh_push m g [] kept k hand.fresh is_fresh;
      shows = zip_push (λ token e. IsShown pool token × (filter_of token ≡ e.filter.now)) tokens shown t s hand.shows token;
      marks = omega (arith, hand.marks, length-append used (true ∷ []), length-append kept (k ∷ []));
      live = subst (λ fs. AllByRecursion (IsLive m.protocol m.mode g) (filters_at fs (used_from 0 (used ++ true ∷ [])))) (sym same_filters)
          (push_each (filters_of kept) used k.filter long (IsLive m.protocol m.mode g) hand.live live_now);
    }

    pub grows_kept : Grows kept used (kept ++ k ∷ []) (used ++ true ∷ [])
    grows_kept = record {
      more = k ∷ [];
      is = refl;
      still = λ x h. subst (λ fs. Contains (filters_at fs (used_from 0 (used ++ true ∷ []))) x) (sym same_filters) (push_still (filters_of kept) used k.filter long x h);
    }

    pub good_kept : IsGoodBy m g (kept ++ k ∷ []) (used ++ true ∷ []) c
    good_kept = refuted k.filter (subst (λ fs. Contains (filters_at fs (used_from 0 (used ++ true ∷ []))) k.filter) (sym same_filters) (push_one (filters_of kept) used k.filter long))
        (counters m.protocol m.mode g (formula_in m c) k.filter (subst (IsAdmitted m.protocol) (sym ef) rejects.admitted) live_now (subst (λ x. Refutes m.protocol x (formula_in m c)) (sym ef) rejects.refutes))

    -- the same, where the lists were pushed to
    module _ (shown' : List Shown) (kept' : List Kept) (tokens' : List Seen) (used' : List Bool) (a : shown' ≡ shown ++ s ∷ []) (b : kept' ≡ kept ++ k ∷ []) (d : tokens' ≡ tokens ++ t ∷ []) (e : used' ≡ used ++ true ∷ []) where
      pub hand_pushed : IsHand m pool worker g shown' kept' tokens' used'
      hand_pushed =
          subst (λ x. IsHand m pool worker g x kept' tokens' used') (sym a) (subst (λ x. IsHand m pool worker g (shown ++ s ∷ []) x tokens' used') (sym b)
          (subst (λ x. IsHand m pool worker g (shown ++ s ∷ []) (kept ++ k ∷ []) x used') (sym d) (subst (λ x. IsHand m pool worker g (shown ++ s ∷ []) (kept ++ k ∷ []) (tokens ++ t ∷ []) x) (sym e) hand_kept)))

      pub grows_pushed : Grows kept used kept' used'
      grows_pushed = subst (λ x. Grows kept used x used') (sym b) (subst (λ x. Grows kept used (kept ++ k ∷ []) x) (sym e) grows_kept)

      pub good_pushed : IsGoodBy m g kept' used' c
      good_pushed = subst (λ x. IsGoodBy m g x used' c) (sym b) (subst (λ x. IsGoodBy m g (kept ++ k ∷ []) x c) (sym e) good_kept)

-- the place of a filter that was found is one of its tokens
pub token_place : (pool : Pool) (tokens : List Seen) (shown : List Shown) (place : ℕ) (e : Shown) → AreTokens pool tokens shown →
    slice_get shown place ≡ Some e → place < length tokens
token_place pool [] [] place e h got = absurd (none-some e got)
token_place pool [] (y ∷ ys) place e h got = absurd h
token_place pool (t ∷ ts) [] place e h got = absurd h
token_place pool (t ∷ ts) (y ∷ ys) zero e h got = omega arith
token_place pool (t ∷ ts) (y ∷ ys) (suc place) e h got = let r = token_place pool ts ys place e h.1 got in omega arith

-- and the token there shows it
pub token_at : (pool : Pool) (tokens : List Seen) (shown : List Shown) (place : ℕ) (d : Seen) (e : Shown) → AreTokens pool tokens shown →
    slice_get shown place ≡ Some e → IsShown pool (get_or tokens place d) × (filter_of (get_or tokens place d) ≡ e.filter.now)
token_at pool [] [] place d e h got = absurd (none-some e got)
token_at pool [] (y ∷ ys) place d e h got = absurd h
token_at pool (t ∷ ts) [] place d e h got = absurd h
token_at pool (t ∷ ts) (y ∷ ys) zero d e h got = (h.0.0, h.0.1 ∙ ap (λ (s : Shown). s.filter.now) (same_Some y e got))
token_at pool (t ∷ ts) (y ∷ ys) (suc place) d e h got = token_at pool ts ys place d e h.1 got
