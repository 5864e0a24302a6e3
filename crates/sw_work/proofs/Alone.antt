-- What a worker that has the log by itself comes to.
use Rattle.std.specs.Prelude.{◌≡◌, ◌≢◌, ℕ, ◌+◌, ◌<◌, Bool, true, false, List, [], ◌∷◌, ◌++◌, length, take, slice_get, Option, Some, None, IfSome}
use Rattle.std.specs.List.{AllByRecursion}
use Rattle.std.proofs.Common.{refl, arith, sym, ap, ◌∙◌, subst}
use Rattle.std.proofs.lemmas.Bool.{false≢true}
use Rattle.std.proofs.lemmas.List.{map-append, length-append, length-map}
use Rattle.sw_lists.proofs.Each.{each-push, each-weaker}
use Rattle.sw_logic.specs.declared.syntax.Formula.{Formula}
use Rattle.sw_meaning.specs.Inductive.{Inductive, Follows}
use Rattle.sw_meaning.specs.Plain.{After, Passage, Until, formulas_of}
use Rattle.sw_template.specs.Bodies.{Class}
use Rattle.sw_filter.specs.declared.filter.Mode.TheVariants.{Breadth}
use Rattle.sw_filter.specs.Good.{Good}
use Rattle.sw_filter.proofs.Good.{good_is_not_missed}
use Rattle.sw_claims.specs.declared.rule.ClaimView.{ClaimView}
use Rattle.sw_claims.specs.ClaimsRule.{opened}
use Rattle.sw_log.specs.declared.entry.Entry.{Entry}
use Rattle.sw_log.specs.declared.rule.LogView.{LogView}
use Rattle.sw_log.specs.LogSteps.{IsAlone}
use Rattle.sw_core.specs.declared.record.Kept.{Kept}
use Rattle.sw_core.specs.Machine.{Search, formula_in, parts_in}
use Rattle.sw_walk.specs.Parts.{classes_of, IsClass}
use Rattle.sw_hand.specs.Hands.{Grows, IsGoodBy, used_filters}
use Rattle.sw_work.specs.declared.bench.Bench.{Bench}
use Rattle.sw_work.specs.declared.errors.BreadthError.{BreadthError}
use Rattle.sw_work.specs.Works.{Gained, Settles, BeginsWith, bodies_of, carried, seen_formulas}
use Rattle.sw_work.specs.Steps.{Classes, IsLone, IsLast, IsGoodNow, IsCauseAt, Fails, FailsRound, Leads, Moves, seen_classes}
use Rattle.sw_work.proofs.Rows.{take_one, folds_push, after_begins, after_one, passage_begins, way_within, way_until, way_settles}
use Rattle.sw_work.proofs.Seen.{alone_gained, formulas_lone}

-- what was good by some filters is good by more
pub good_more : (m : Search) (fs gs : List Formula) (kept : List Kept) (used : List Bool) (kept_now : List Kept) (used_now : List Bool) (c : List ℕ) → gs ≡ fs → Grows kept used kept_now used_now
    → IsGoodBy m fs kept used c → IsGoodBy m gs kept_now used_now c
good_more m fs gs kept used kept_now used_now c e grows good = subst (λ g. IsGoodBy m g kept_now used_now c) (sym e) (more good)
  where
    more : Good m.protocol m.mode fs (formula_in m c) (used_filters kept used) → Good m.protocol m.mode fs (formula_in m c) (used_filters kept_now used_now)
    more (Good.refuted x among counters) = Good.refuted x (grows.still x among) counters
    more (Good.follows breadth follows) = Good.follows breadth follows

-- one more class of a part is good
pub passed_more : {S : Type 0} (m : Search) (old new : Bench S) (part : Classes) (i : ℕ) (class : List ℕ) → slice_get part i ≡ Some class → new.formulas ≡ old.formulas → IsGoodNow m old new class
    → AllByRecursion (IsGoodBy m old.formulas old.hand.kept old.hand.used.items) (take i part) → AllByRecursion (IsGoodBy m new.formulas new.hand.kept new.hand.used.items) (take (i + 1) part)
passed_more m old new part i class at e now each =
    subst (AllByRecursion (IsGoodBy m new.formulas new.hand.kept new.hand.used.items)) (sym (take_one part i class at))
    (each-push (IsGoodBy m new.formulas new.hand.kept new.hand.used.items) (take i part) class
    (each-weaker (IsGoodBy m old.formulas old.hand.kept old.hand.used.items) (IsGoodBy m new.formulas new.hand.kept new.hand.used.items)
    (λ c good. good_more m old.formulas new.formulas old.hand.kept old.hand.used.items new.hand.kept new.hand.used.items c e now.grows good) (take i part) each)
    now.good)

-- one more class of a part was gone through
pub leads_more : (m : Search) (v u w : LogView) (part : Classes) (i : ℕ) (class : List ℕ) → slice_get part i ≡ Some class → Leads m (Passage m.protocol m.template (take i part)) v u
    → Leads m (λ g h. After m.protocol m.template g class h) u w → Leads m (Passage m.protocol m.template (take (i + 1) part)) v w
leads_more m v u w part i class at a b lone =
    let here = a lone in
    let then = b here.0 in (
      then.0,
      subst (λ xs. Passage m.protocol m.template xs (seen_classes v) (seen_classes w)) (sym (take_one part i class at))
          (folds_push (After m.protocol m.template) (take i part) class (seen_classes v) (seen_classes u) (seen_classes w) here.1 then.1),
    )

-- one more part was settled
pub leads_part : (m : Search) (v u w : LogView) (i : ℕ) (part : Classes) → slice_get (parts_in m) i ≡ Some part → Leads m (Settles m.protocol m.template (take i (parts_in m))) v u
    → Leads m (Until (Passage m.protocol m.template part)) u w → Leads m (Settles m.protocol m.template (take (i + 1) (parts_in m))) v w
leads_part m v u w i part at a b lone =
    let here = a lone in
    let then = b here.0 in (
      then.0,
      subst (λ ps. Settles m.protocol m.template ps (seen_classes v) (seen_classes w)) (sym (take_one (parts_in m) i part at))
          (folds_push (λ from x to. Until (Passage m.protocol m.template x) from to) (take i (parts_in m)) part (seen_classes v) (seen_classes u) (seen_classes w) here.1 then.1),
    )

seen_length : (v : LogView) → length (seen_classes v) ≡ length v.seen
seen_length v = length-map (bodies_of v.seen) (λ (x : Class). x.cubes) ∙ length-map v.seen (λ (x : Entry). x.body)

pub moves_away : (u w : LogView) → length u.seen < length w.seen → seen_classes u ≢ seen_classes w
moves_away u w lt e = let same : length (seen_classes u) ≡ length (seen_classes w) = ap length e in omega (arith, same, lt, seen_length u, seen_length w)

-- ---- whether the list has grown
pub moves_none : (v : LogView) → Moves v v false
moves_none v = record { longer = λ e. absurd (false≢true e); stays = λ e. refl }

pub moves_longer : (v u w : LogView) (b : Bool) → Moves v u b → length u.seen < length w.seen → Moves v w true
moves_longer v u w true m lt = record { longer = λ e. let le = m.longer refl in omega (arith, lt, le); stays = λ e. absurd (false≢true (sym e)) }
moves_longer v u w false m lt = record { longer = λ e. let same : length u.seen ≡ length v.seen = ap length (m.stays refl) in omega (arith, lt, same); stays = λ e. absurd (false≢true (sym e)) }

pub moves_same : (v u w : LogView) (b : Bool) → Moves v u b → w.seen ≡ u.seen → Moves v w b
moves_same v u w b m e = record {
  longer = λ t. let le = m.longer t in let same : length w.seen ≡ length u.seen = ap length e in omega (arith, le, same);
  stays = λ t. e ∙ m.stays t;
}

pub moves_on : (v u w : LogView) (a b : Bool) → Moves v u a → Moves u w b → b ≡ true → Moves v w true
moves_on v u w a b m n e = moves_longer v u w a m (n.longer e)

-- alone, what was not appended is not there
pub alone_same : (v u : LogView) (b : Bool) → Moves v u b → (b ≡ true → IsAlone v → ⊥) → IsAlone v → u.seen ≡ v.seen
alone_same v u true m never alone = absurd (never refl alone)
alone_same v u false m never alone = m.stays refl

on_some : (o : Option (List Class)) (P Q : List Class → Type 0) → ((g : List Class) → P g → Q g) → IfSome o P → IfSome o Q
on_some None P Q f h = tt
on_some (Some g) P Q f h = f g h

pub last_longer : (m : Search) (u w : LogView) (b : Class) → IsLast m u w b → length u.seen < length w.seen
last_longer m u w b l = let size : length w.seen ≡ length u.seen + 1 = ap length l.pushed ∙ length-append u.seen (l.entry ∷ []) in omega (arith, size)

module _ (m : Search) where
  lone_same : (worker : ℕ) (v w : LogView) → Gained m worker v w → w.seen ≡ v.seen → IsLone m v → IsLone m w
  lone_same worker v w g e a = record {
    alone = alone_gained m worker v w g a.alone;
    classes = subst (AllByRecursion (λ (x : Entry). IsClass (parts_in m) x.body)) (sym e) a.classes;
  }

  -- a class that is good is left
  pub leads_left : (worker : ℕ) (v w : LogView) (fs : List Formula) (kept : List Kept) (used : List Bool) (c : List ℕ) → m.mode ≡ Breadth → Gained m worker v w → w.seen ≡ v.seen → fs ≡ seen_formulas m w.seen → IsGoodBy m fs kept used c
      → Leads m (λ g h. After m.protocol m.template g c h) v w
  leads_left worker v w fs kept used c breadth g e are good lone =
      let here = lone_same worker v w g e lone in
      let list : fs ≡ formulas_of m.protocol m.template (seen_classes w) = are ∙ formulas_lone m w.seen here.classes in
      let same : seen_classes w ≡ seen_classes v = ap (λ s. classes_of (bodies_of s)) e in
      let by = subst (λ x. Good m.protocol x (formulas_of m.protocol m.template (seen_classes v)) (formula_in m c) (used_filters kept used)) breadth
      (subst (λ x. Good m.protocol m.mode x (formula_in m c) (used_filters kept used)) (list ∙ ap (formulas_of m.protocol m.template) same) good) in
      (here, After.left (λ adds. adds.novel (good_is_not_missed m.protocol (formulas_of m.protocol m.template (seen_classes v)) (formula_in m c) (used_filters kept used) by adds.inductive)) same)

  -- a class that was gained is the last one
  pub leads_added : (worker : ℕ) (v u w : LogView) (b : Class) → Gained m worker v w → u.seen ≡ v.seen → IsClass (parts_in m) b → IsLast m u w b → Leads m (λ g h. After m.protocol m.template g b.cubes h) v w
  leads_added worker v u w b g e k last lone =
      let pushed : w.seen ≡ v.seen ++ last.entry ∷ [] = last.pushed ∙ ap (λ s. s ++ last.entry ∷ []) e in
      let class : IsClass (parts_in m) last.entry.body = subst (IsClass (parts_in m)) (sym last.named) k in
      let list : seen_formulas m u.seen ≡ formulas_of m.protocol m.template (seen_classes v) = ap (seen_formulas m) e ∙ formulas_lone m v.seen lone.classes in
      let gains = last.gains in (
        record {
          alone = alone_gained m worker v w g lone.alone;
          classes = subst (AllByRecursion (λ (x : Entry). IsClass (parts_in m) x.body)) (sym pushed) (each-push (λ (x : Entry). IsClass (parts_in m) x.body) v.seen last.entry lone.classes class);
        },
        After.added
            (record { inductive = subst (λ x. Inductive m.protocol x (formula_in m b.cubes)) list gains.inductive; novel = subst (λ x. Follows m.protocol x (formula_in m b.cubes) → ⊥) list gains.novel })
            (ap (λ s. classes_of (bodies_of s)) pushed ∙ (ap classes_of (map-append (λ (x : Entry). x.body) v.seen (last.entry ∷ []))
            ∙ (map-append (λ (x : Class). x.cubes) (bodies_of v.seen) (last.entry.body ∷ []) ∙ ap (λ (x : Class). seen_classes v ++ x.cubes ∷ []) last.named))),
      )

  -- a passage that failed at a class
  pub fails_within : (budget : Option ℕ) (part : Classes) (i : ℕ) (class : List ℕ) (v u w : LogView) (e : BreadthError) → slice_get part i ≡ Some class → Leads m (Passage m.protocol m.template (take i part)) v u
      → Fails m budget (λ g h. After m.protocol m.template g class h) u w e → Fails m budget (Passage m.protocol m.template part) v w e
  fails_within budget part i class v u w e at leads f = record {
    cause = f.cause;
    on_the_way = λ lone.
        let here = leads lone in
        on_some (carried e) (λ g. (h : Classes) → After m.protocol m.template (seen_classes u) class h → BeginsWith (classes_of g) h) (λ g. (h : Classes) → Passage m.protocol m.template part (seen_classes v) h → BeginsWith (classes_of g) h)
        (λ g begins h passage. way_within (After m.protocol m.template) (after_begins m.protocol m.template) (after_one m.protocol m.template) part i class at (classes_of g) (seen_classes v) (seen_classes u) here.1 begins h passage)
        (f.on_the_way here.0);
  }

  -- a part that failed at a passage
  pub fails_part : (budget : Option ℕ) (part : Classes) (v u w : LogView) (e : BreadthError) → (IsLone m v → IsLone m u × ((h : Classes) → Until (Passage m.protocol m.template part) (seen_classes v) h → Until (Passage m.protocol m.template part) (seen_classes u) h))
      → Fails m budget (Passage m.protocol m.template part) u w e → Fails m budget (Until (Passage m.protocol m.template part)) v w e
  fails_part budget part v u w e back f = record {
    cause = f.cause;
    on_the_way = λ lone.
        let here = back lone in
        on_some (carried e) (λ g. (h : Classes) → Passage m.protocol m.template part (seen_classes u) h → BeginsWith (classes_of g) h) (λ g. (h : Classes) → Until (Passage m.protocol m.template part) (seen_classes v) h → BeginsWith (classes_of g) h)
        (λ g begins h until. way_until (Passage m.protocol m.template part) (passage_begins m.protocol m.template part) (classes_of g) begins (here.1 h until))
        (f.on_the_way here.0);
  }

  -- a round that failed at a part
  pub fails_round : (budget : Option ℕ) (i : ℕ) (part : Classes) (c : ClaimView) (v u w : LogView) (e : BreadthError) → slice_get (parts_in m) i ≡ Some part
      → (c ≡ opened (length (parts_in m)) 0 → Leads m (Settles m.protocol m.template (take i (parts_in m))) v u)
      → Fails m budget (Until (Passage m.protocol m.template part)) u w e → FailsRound m budget c v w e
  fails_round budget i part c v u w e at leads f = record {
    cause = f.cause;
    on_the_way = λ only lone.
        let here = leads only lone in
        on_some (carried e) (λ g. (h : Classes) → Until (Passage m.protocol m.template part) (seen_classes u) h → BeginsWith (classes_of g) h) (λ g. (h : Classes) → Settles m.protocol m.template (parts_in m) (seen_classes v) h → BeginsWith (classes_of g) h)
        (λ g begins h settles. way_settles m.protocol m.template (parts_in m) i part at (classes_of g) (seen_classes v) (seen_classes u) here.1 begins h settles)
        (f.on_the_way here.0);
  }

  -- a cause under the list that stood at first
  pub fails_at : (budget : Option ℕ) (v u w : LogView) (c : List ℕ) (e : BreadthError) → (IsAlone v → u.seen ≡ v.seen) → IsCauseAt m budget u w e → Fails m budget (λ g h. After m.protocol m.template g c h) v w e
  fails_at budget v u w c e same cause = record {
    cause = cause.cause;
    on_the_way = λ lone. on (carried e) cause.listed (same lone.alone);
  }
    where
      on : (o : Option (List Class)) → IfSome o (λ g. (g ≡ bodies_of u.seen) × (w.seen ≡ u.seen)) → u.seen ≡ v.seen
          → IfSome o (λ g. (h : Classes) → After m.protocol m.template (seen_classes v) c h → BeginsWith (classes_of g) h)
      on None i s = tt
      on (Some g) i s = λ h after. subst (λ x. BeginsWith x h) (sym (ap classes_of i.0 ∙ ap (λ x. classes_of (bodies_of x)) s)) (after_begins m.protocol m.template (seen_classes v) h c after)
