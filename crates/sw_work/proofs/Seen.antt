-- The list of a log: its formulas, and what a worker gained of it.
use Rattle.std.specs.Prelude.{◌≡◌, ℕ, zero, suc, ◌-◌, ◌≤◌, ◌==◌, Bool, true, false, List, [], ◌∷◌, ◌++◌, length, take, drop, Some, slice_get, Contains}
use Rattle.std.specs.List.{AllByRecursion, list_any}
use Rattle.std.proofs.Common.{refl, arith, sym, ap, ◌∙◌, subst, eq-eqb, append_assoc}
use Rattle.std.proofs.lemmas.Bool.{false≢true, and_parts, and_from, eqb-true, cond-true, cond-false}
use Rattle.std.proofs.lemmas.List.{map-append, length-map, append-nil, take-append-le, take_at, length-drop}
use Rattle.std.proofs.lemmas.Option.{none-some}
use mathlib.Core.List.{IsPrefix}
use Rattle.sw_lists.proofs.Each.{each-append, each-weaker}
use Rattle.sw_lists.proofs.Places.{get_append_left, get_append_at}
use Rattle.sw_lists.proofs.Tests.{some_true, any_true}
use Rattle.sw_logic.specs.declared.syntax.Formula.{Formula}
use Rattle.sw_logic.specs.declared.syntax.Formula.TheVariants.{True}
use Rattle.sw_meaning.specs.Plain.{formulas_of}
use Rattle.sw_template.specs.Bodies.{Class}
use Rattle.sw_log.specs.declared.entry.Entry.{Entry}
use Rattle.sw_log.specs.declared.rule.LogView.{LogView}
use Rattle.sw_log.specs.LogAnswers.{AppendsLast}
use Rattle.sw_log.specs.LogSteps.{IsAlone}
use Rattle.sw_work.proofs.Rows.{take_whole}
use Rattle.sw_work.proofs.Begins.{begins_itself, begins_through, prefix_full}
use Rattle.sw_core.specs.Machine.{Search, formula_in, parts_in}
use Rattle.sw_core.specs.Founded.{Gains}
use Rattle.sw_walk.specs.Parts.{all_classes, classes_of, IsClass}
use Rattle.sw_work.specs.Works.{same_class, is_listed, entry_formula, seen_formulas, bodies_of, IsOwnEntry, Gained}
use Rattle.sw_work.specs.Steps.{IsLone, Looks, seen_classes}

same_itself : (c : List ℕ) → same_class c c ≡ true
same_itself [] = refl
same_itself (x ∷ c) = and_from (x == x) (same_class c c) (eq-eqb x x refl) (same_itself c)

same_is : (c d : List ℕ) → same_class c d ≡ true → c ≡ d
same_is [] [] e = refl
same_is [] (y ∷ d) e = absurd (false≢true e)
same_is (x ∷ c) [] e = absurd (false≢true e)
same_is (x ∷ c) (y ∷ d) e =
    let both = and_parts (x == y) (same_class c d) e in
    ap (λ n. n ∷ c) (eqb-true x y both.0) ∙ ap (λ ns. y ∷ ns) (same_is c d both.1)

pub rest_whole : (n : ℕ) (es : List Entry) → take (length es - n) (drop n es) ≡ drop n es
rest_whole n es = let size : length (drop n es) ≡ length es - n = length-drop n es in take_whole (drop n es) (length es - n) (omega (arith, size))

-- the log was as long as what was seen
pub last_log : (v w : LogView) (e : Entry) (b : Class) (worker : ℕ) → e ≡ record { body = b; worker = worker; under = length v.seen } → (a : AppendsLast v e w) → a.log ≡ v.seen
last_log v w e b worker is a =
    let under : e.under ≡ length v.seen = ap (λ (x : Entry). x.under) is in
    prefix_full v.seen a.log a.finds.begins (omega (arith, a.place, under))

module _ (m : Search) where
  listed_class : (b : Class) → IsClass (parts_in m) b → is_listed m b ≡ true
  listed_class b k = and_from (b.template == 0) (list_any (same_class b.cubes) (all_classes (parts_in m))) (eq-eqb b.template 0 k.single)
      (any_true (same_class b.cubes) (all_classes (parts_in m)) b.cubes k.among (same_itself b.cubes))

  class_listed : (b : Class) → is_listed m b ≡ true → IsClass (parts_in m) b
  class_listed b e =
      let both = and_parts (b.template == 0) (list_any (same_class b.cubes) (all_classes (parts_in m))) e in
      let found = some_true (same_class b.cubes) (all_classes (parts_in m)) both.1 in
      record { single = eqb-true b.template 0 both.0; among = subst (Contains (all_classes (parts_in m))) (sym (same_is b.cubes found.0 found.2)) found.1 }

  not_listed : (b : Class) → (IsClass (parts_in m) b → ⊥) → (t : Bool) → is_listed m b ≡ t → t ≡ false
  not_listed b n true e = absurd (n (class_listed b e))
  not_listed b n false e = refl

  pub formula_of_class : (e : Entry) → IsClass (parts_in m) e.body → entry_formula m e ≡ formula_in m e.body.cubes
  formula_of_class e k = cond-true (is_listed m e.body) (formula_in m e.body.cubes) True (listed_class e.body k)

  pub formula_of_none : (e : Entry) → (IsClass (parts_in m) e.body → ⊥) → entry_formula m e ≡ True
  formula_of_none e n = cond-false (is_listed m e.body) (formula_in m e.body.cubes) True (not_listed e.body n (is_listed m e.body) refl)

  -- what each formula of a class has, and what `true` has, each entry's formula has
  pub each_formula : (P : Formula → Type 0) → P True → ((c : List ℕ) → Contains (all_classes (parts_in m)) c → P (formula_in m c)) → (seen : List Entry) → AllByRecursion P (seen_formulas m seen)
  each_formula P t each [] = tt
  each_formula P t each (e ∷ es) = (here (is_listed m e.body) refl, each_formula P t each es)
    where
      here : (b : Bool) → is_listed m e.body ≡ b → P (entry_formula m e)
      here true l = subst P (sym (cond-true (is_listed m e.body) (formula_in m e.body.cubes) True l)) (each e.body.cubes (class_listed e.body l).among)
      here false l = subst P (sym (cond-false (is_listed m e.body) (formula_in m e.body.cubes) True l)) t

  -- the formulas of a list of classes
  pub formulas_lone : (seen : List Entry) → AllByRecursion (λ (e : Entry). IsClass (parts_in m) e.body) seen → seen_formulas m seen ≡ formulas_of m.protocol m.template (classes_of (bodies_of seen))
  formulas_lone [] k = refl
  formulas_lone (e ∷ es) k = ap (λ f. f ∷ seen_formulas m es) (formula_of_class e k.0) ∙ ap (λ fs. formula_in m e.body.cubes ∷ fs) (formulas_lone es k.1)

  pub seen_append : (xs ys : List Entry) → seen_formulas m (xs ++ ys) ≡ seen_formulas m xs ++ seen_formulas m ys
  seen_append xs ys = map-append (entry_formula m) xs ys

  pub length_seen : (xs : List Entry) → length (seen_formulas m xs) ≡ length xs
  length_seen xs = length-map xs (entry_formula m)

  -- ---- what a worker gained
  own_stays : (worker : ℕ) (xs ys : List Entry) → IsPrefix xs ys → (e : Entry) → IsOwnEntry m worker xs e → IsOwnEntry m worker ys e
  own_stays worker xs ys b e o =
      let lt : e.under ≤ length xs = got_below xs e.under e o.at in
      record {
        by_worker = o.by_worker;
        class = o.class;
        at = subst (λ l. slice_get l e.under ≡ Some e) b.1 (get_append_left xs b.0 e.under e o.at);
        gains = subst (λ l. Gains m (seen_formulas m l) (formula_in m e.body.cubes)) (sym (take-append-le e.under xs b.0 lt) ∙ ap (take e.under) b.1) o.gains;
      }
    where
      got_below : (xs : List Entry) (i : ℕ) (x : Entry) → slice_get xs i ≡ Some x → i ≤ length xs
      got_below [] zero x e = omega arith
      got_below [] (suc i) x e = absurd (none-some x e)
      got_below (y ∷ xs) zero x e = omega arith
      got_below (y ∷ xs) (suc i) x e = let r = got_below xs i x e in omega arith

  pub gained_looks : (worker : ℕ) (v w : LogView) → IsPrefix v.seen w.seen → w ≡ record v { seen = w.seen } → Gained m worker v w
  gained_looks worker v w b e = record {
    begins = b;
    entries = [];
    is = e ∙ ap (λ l. record v { seen = w.seen; own = l }) (sym (append-nil v.own));
    each = tt;
  }

  pub gained_more : (worker : ℕ) (v w x : LogView) → Gained m worker v w → Gained m worker w x → Gained m worker v x
  gained_more worker v w x a b = record {
    begins = begins_through v.seen w.seen x.seen a.begins b.begins;
    entries = a.entries ++ b.entries;
    is = b.is ∙ (ap (λ (y : LogView). record y { seen = x.seen; own = y.own ++ b.entries }) a.is ∙ ap (λ l. record v { seen = x.seen; own = l }) (append_assoc v.own a.entries b.entries));
    each = each-append (IsOwnEntry m worker x.seen) a.entries b.entries (each-weaker (IsOwnEntry m worker w.seen) (IsOwnEntry m worker x.seen) (own_stays worker w.seen x.seen b.begins) a.entries a.each) b.each;
  }

  -- an entry that was appended under all that was seen is the worker's own
  pub gained_last : (worker : ℕ) (v w : LogView) (e : Entry) (b : Class) → IsClass (parts_in m) b → e ≡ record { body = b; worker = worker; under = length v.seen }
      → Gains m (seen_formulas m v.seen) (formula_in m b.cubes) → AppendsLast v e w → Gained m worker v w
  gained_last worker v w e b k is gains a =
      let same : a.log ≡ v.seen = last_log v w e b worker is a in
      let seen : w.seen ≡ v.seen ++ e ∷ [] = ap (λ (x : LogView). x.seen) a.last ∙ ap (λ l. l ++ e ∷ []) same in
      let under : e.under ≡ length v.seen = ap (λ (x : Entry). x.under) is in
      let front : take e.under w.seen ≡ v.seen = ap (take e.under) seen ∙ take_at v.seen (e ∷ []) e.under (sym under) in
      record {
        begins = (e ∷ [], sym seen);
        entries = e ∷ [];
        is = a.last ∙ ap (λ l. record v { seen = l; own = v.own ++ e ∷ [] }) (sym (ap (λ (x : LogView). x.seen) a.last));
        each = (
          record {
            by_worker = ap (λ (x : Entry). x.worker) is;
            class = subst (IsClass (parts_in m)) (sym (ap (λ (x : Entry). x.body) is)) k;
            at = ap (λ l. slice_get l e.under) seen ∙ (ap (slice_get (v.seen ++ e ∷ [])) under ∙ get_append_at v.seen e []);
            gains = subst (λ l. Gains m (seen_formulas m l) (formula_in m e.body.cubes)) (sym front) (subst (λ (x : Class). Gains m (seen_formulas m v.seen) (formula_in m x.cubes)) (sym (ap (λ (x : Entry). x.body) is)) gains);
          },
          tt,
        );
      }

  pub alone_gained : (worker : ℕ) (v w : LogView) → Gained m worker v w → IsAlone v → IsAlone w
  alone_gained worker v w g a = subst IsAlone (sym g.is) a

  pub lone_looks : (v w : LogView) → Looks v w → IsLone m v → IsLone m w
  lone_looks v w l a = record {
    alone = subst IsAlone (sym l.is) a.alone;
    classes = subst (AllByRecursion (λ (e : Entry). IsClass (parts_in m) e.body)) (sym (l.alone a.alone)) a.classes;
  }

pub looks_same : (v w : LogView) → Looks v w → IsAlone v → seen_classes w ≡ seen_classes v
looks_same v w l a = ap (λ s. classes_of (bodies_of s)) (l.alone a)

pub looks_none : (v : LogView) → Looks v v
looks_none v = record { begins = begins_itself v.seen; is = refl; alone = λ a. refl }
