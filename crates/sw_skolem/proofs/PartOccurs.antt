-- The variables that occur in a formula, as the Skolem form tells them.
use Rattle.std.specs.Prelude.{◌≡◌, ℕ, suc, ◌+◌, ◌<◌, ◌≤◌, Bool, true, false, ◌&&◌, ◌||◌, cond, List, [], ◌∷◌, ◌++◌, length, map, take, drop, get_or}
use Rattle.std.specs.List.{list_any, filter, range_with_len, enumerate_from, AllByRecursion}
use Rattle.std.proofs.Common.{rules, arith, refl, sym, ap, subst, ◌∙◌}
use Rattle.std.proofs.lemmas.List.{append-nil, take-append-drop, drop_more, take_more, length-take-le}
use Rattle.std.proofs.lemmas.Bool.{and_parts}
use Rattle.sw_logic.specs.declared.syntax.Term.{Term}
use Rattle.sw_logic.specs.declared.syntax.Formula.{Formula, roll-Formula, map-Formula, the_lemmas}
use Rattle.sw_logic.specs.declared.syntax.Formula.TheOpen.{Formula-F}
use Rattle.sw_logic.specs.declared.syntax.Formula.TheFolds.{ind-Formula}
use Rattle.sw_logic.specs.declared.syntax.Formula.TheVariants.{True, False, Holds, Equal, Not, All, Any, Implies, Iff, ForAll, Exists}
use Rattle.sw_logic.specs.declared.syntax.Formula.TheVariants.{rolls-True, rolls-False, rolls-Holds, rolls-Equal, rolls-Not, rolls-All, rolls-Any, rolls-Implies, rolls-Iff, rolls-ForAll, rolls-Exists}
use Rattle.sw_logic.specs.Terms.{has, occurs}
use Rattle.sw_skolem.specs.Skolem.{Part, part_of, part_step, universals}
use Rattle.sw_skolem.specs.Forming.{is_read, universals_of}
use Rattle.sw_lists.proofs.Made.{range_push}
use Rattle.sw_lists.proofs.Each.{each-pairs}
use Rattle.sw_truth.proofs.Occurring.{occurs-All, occurs-Any}
use Rattle.std.proofs.lemmas.List.Elements.{filter-append}

module _ (base : ℕ) where
  abbrev OccursSame : Formula → Type 0
  OccursSame f = (x : ℕ) → (part_of base f).occurs x ≡ occurs x f

  by : (f : Formula) (t : Part) → part_of base f ≡ t → ((x : ℕ) → t.occurs x ≡ occurs x f) → OccursSame f
  by f t e h x = ap (λ (p : Part). p.occurs x) e ∙ h x

  any_same : (x : ℕ) (ps : List Formula) → AllByRecursion OccursSame ps → list_any (λ (p : Part). p.occurs x) (map (part_of base) ps) ≡ list_any (occurs x) ps
  any_same x [] h = refl
  any_same x (p ∷ ps) h = let rest = any_same x ps h.1 in let here = h.0 x in cc (rest, here)

  layer : (y : Formula-F ((f : Formula) × OccursSame f)) → OccursSame (roll-Formula (map-Formula ((f : Formula) × OccursSame f) Formula (λ e. e.0) y))
  layer Formula-F.True = subst OccursSame (sym rolls-True) (by True (part_step base Formula-F.True) (search (rules, the_lemmas)) (λ x. search (rules, the_lemmas)))
  layer Formula-F.False = subst OccursSame (sym rolls-False) (by False (part_step base Formula-F.False) (search (rules, the_lemmas)) (λ x. search (rules, the_lemmas)))
  layer (Formula-F.Holds k post args) = subst OccursSame (sym (rolls-Holds k post args))
      (by (Holds k post args) (part_step base (Formula-F.Holds k post args)) (search (rules, the_lemmas)) (λ x. search (rules, the_lemmas)))
  layer (Formula-F.Equal t u) = subst OccursSame (sym (rolls-Equal t u)) (by (Equal t u) (part_step base (Formula-F.Equal t u)) (search (rules, the_lemmas)) (λ x. search (rules, the_lemmas)))
  layer (Formula-F.Not p) = subst OccursSame (sym (rolls-Not p.0)) (by (Not p.0) (part_step base (Formula-F.Not (part_of base p.0))) (search (rules, the_lemmas))
      (λ x. let down : occurs x (Not p.0) ≡ occurs x p.0 = search (rules, the_lemmas) in p.1 x ∙ sym down))
  layer (Formula-F.All ps) = let qs = map (λ (e : (f : Formula) × OccursSame f). e.0) ps in subst OccursSame (sym (rolls-All qs))
      (by (All qs) (part_step base (Formula-F.All (map (part_of base) qs))) (search (rules, the_lemmas)) (λ x. any_same x qs (each-pairs OccursSame ps) ∙ sym (occurs-All x qs)))
  layer (Formula-F.Any ps) = let qs = map (λ (e : (f : Formula) × OccursSame f). e.0) ps in subst OccursSame (sym (rolls-Any qs))
      (by (Any qs) (part_step base (Formula-F.Any (map (part_of base) qs))) (search (rules, the_lemmas)) (λ x. any_same x qs (each-pairs OccursSame ps) ∙ sym (occurs-Any x qs)))
  layer (Formula-F.Implies p q) = subst OccursSame (sym (rolls-Implies p.0 q.0))
      (by (Implies p.0 q.0) (part_step base (Formula-F.Implies (part_of base p.0) (part_of base q.0))) (search (rules, the_lemmas))
      (λ x. let down : occurs x (Implies p.0 q.0) ≡ (occurs x p.0 || occurs x q.0) = search (rules, the_lemmas) in let a = p.1 x in let b = q.1 x in cc (down, a, b)))
  layer (Formula-F.Iff p q) = subst OccursSame (sym (rolls-Iff p.0 q.0))
      (by (Iff p.0 q.0) (part_step base (Formula-F.Iff (part_of base p.0) (part_of base q.0))) (search (rules, the_lemmas))
      (λ x. let down : occurs x (Iff p.0 q.0) ≡ (occurs x p.0 || occurs x q.0) = search (rules, the_lemmas) in let a = p.1 x in let b = q.1 x in cc (down, a, b)))
  layer (Formula-F.ForAll bs p) = subst OccursSame (sym (rolls-ForAll bs p.0)) (by (ForAll bs p.0) (part_step base (Formula-F.ForAll bs (part_of base p.0))) (search (rules, the_lemmas))
      (λ x. let down : occurs x (ForAll bs p.0) ≡ occurs x p.0 = search (rules, the_lemmas) in p.1 x ∙ sym down))
  layer (Formula-F.Exists bs p) = subst OccursSame (sym (rolls-Exists bs p.0)) (by (Exists bs p.0) (part_step base (Formula-F.Exists bs (part_of base p.0))) (search (rules, the_lemmas))
      (λ x. let down : occurs x (Exists bs p.0) ≡ occurs x p.0 = search (rules, the_lemmas) in p.1 x ∙ sym down))

  pub occurs_same : (f : Formula) → OccursSame f
  occurs_same = ind-Formula OccursSame (λ x y is. subst (λ z. OccursSame (roll-Formula z)) is (layer y))

-- universal variables by two tests that agree
read_by : (one other : ℕ → Bool) → ((x : ℕ) → one x ≡ other x) → (u from : ℕ) (terms : List Term)
    → list_any (λ t. one t.0 && has u t.1) (enumerate_from from terms) ≡ list_any (λ t. other t.0 && has u t.1) (enumerate_from from terms)
read_by one other e u from [] = refl
read_by one other e u from (t ∷ terms) = let rest = read_by one other e u (from + 1) terms in let here = e from in cc (rest, here)

filter_by : (p q : ℕ → Bool) → ((x : ℕ) → p x ≡ q x) → (xs : List ℕ) → filter p xs ≡ filter q xs
filter_by p q e [] = refl
filter_by p q e (x ∷ xs) =
    let rest = filter_by p q e xs in
    ap (λ (ys : List ℕ). cond (p x) (x ∷ ys) ys) rest ∙ ap (λ (b : Bool). cond b (x ∷ filter q xs) (filter q xs)) (e x)

pub universals_same : (base : ℕ) (p : Formula) (terms : List Term) (count : ℕ) → universals (part_of base p).occurs terms count ≡ universals_of terms count p
universals_same base p terms count =
    filter_by (λ u. list_any (λ t. (part_of base p).occurs t.0 && has u t.1) (enumerate_from 0 terms)) (is_read terms p)
    (λ u. read_by (part_of base p).occurs (λ x. occurs x p) (occurs_same base p) u 0 terms) (range_with_len 0 count)

-- one universal variable more
universals_more : (terms : List Term) (p : Formula) (k : ℕ) → universals_of terms (k + 1) p ≡ universals_of terms k p ++ cond (is_read terms p k) (k ∷ []) []
universals_more terms p k =
    let at : 0 + k ≡ k = omega arith in
    ap (filter (is_read terms p)) (range_push 0 k ∙ ap (λ (n : ℕ). range_with_len 0 k ++ n ∷ []) at) ∙ filter-append (is_read terms p) (range_with_len 0 k) (k ∷ [])

pub universals_yes : (terms : List Term) (p : Formula) (k : ℕ) → is_read terms p k ≡ true → universals_of terms (k + 1) p ≡ universals_of terms k p ++ k ∷ []
universals_yes terms p k t = universals_more terms p k ∙ ap (λ (b : Bool). universals_of terms k p ++ cond b (k ∷ []) []) t

pub universals_no : (terms : List Term) (p : Formula) (k : ℕ) → is_read terms p k ≡ false → universals_of terms (k + 1) p ≡ universals_of terms k p
universals_no terms p k f =
    universals_more terms p k ∙ (ap (λ (b : Bool). universals_of terms k p ++ cond b (k ∷ []) []) f ∙ append-nil (universals_of terms k p))

-- one term more
or_assoc : (b c d : Bool) → (b || (c || d)) ≡ ((b || c) || d)
or_assoc true c d = refl
or_assoc false c d = refl

settled : (b c d e : Bool) → c ≡ true → d ≡ true → (b || ((c && d) || e)) ≡ true
settled b c d e g h = grind (arith, g, h)

unsettled : (b c d : Bool) → b ≡ false → (d && c) ≡ false → (b || ((c && d) || false)) ≡ false
unsettled b c d g h = grind (arith, g, h)

read_append : (p : ℕ × Term → Bool) (from : ℕ) (xs ys : List Term)
    → list_any p (enumerate_from from (xs ++ ys)) ≡ (list_any p (enumerate_from from xs) || list_any p (enumerate_from (from + length xs) ys))
read_append p from [] ys = let e : from ≡ from + 0 = omega arith in ap (λ (n : ℕ). list_any p (enumerate_from n ys)) e
read_append p from (x ∷ xs) ys =
    let e : from + 1 + length xs ≡ from + suc (length xs) = omega arith in
    let rest = read_append p (from + 1) xs ys ∙ ap (λ (n : ℕ). list_any p (enumerate_from (from + 1) xs) || list_any p (enumerate_from n ys)) e in
    ap (λ (b : Bool). p (from, x) || b) rest ∙ or_assoc (p (from, x)) (list_any p (enumerate_from (from + 1) xs)) (list_any p (enumerate_from (from + suc (length xs)) ys))

read_split : (terms rest : List Term) (f : Formula) (u i : ℕ) → i ≤ length terms
    → is_read (take i terms ++ rest) f u ≡ (is_read (take i terms) f u || list_any (λ t. occurs t.0 f && has u t.1) (enumerate_from i rest))
read_split terms rest f u i l =
    let count : length (take i terms) ≡ i = length-take-le i terms l in
    let e : 0 + length (take i terms) ≡ i = omega arith in
    read_append (λ t. occurs t.0 f && has u t.1) 0 (take i terms) rest ∙ ap (λ (n : ℕ). is_read (take i terms) f u || list_any (λ t. occurs t.0 f && has u t.1) (enumerate_from n rest)) e

-- a term that reads it settles it
pub read_yes : (terms : List Term) (f : Formula) (u i : ℕ) (d : Term) → i < length terms → (has u (get_or terms i d) && occurs i f) ≡ true → true ≡ is_read terms f u
read_yes terms f u i d l here =
    let split : take i terms ++ (get_or terms i d ∷ drop (i + 1) terms) ≡ terms = ap (λ (ts : List Term). take i terms ++ ts) (sym (drop_more terms i d l)) ∙ take-append-drop i terms in
    let parts = read_split terms (get_or terms i d ∷ drop (i + 1) terms) f u i (omega arith) in
    let both = and_parts (has u (get_or terms i d)) (occurs i f) here in
    sym (sym (ap (λ (ts : List Term). is_read ts f u) split) ∙ (parts
    ∙ settled (is_read (take i terms) f u) (occurs i f) (has u (get_or terms i d)) (list_any (λ t. occurs t.0 f && has u t.1) (enumerate_from (i + 1) (drop (i + 1) terms))) both.1 both.0))

pub read_more : (terms : List Term) (f : Formula) (u i : ℕ) (d : Term) → i < length terms → is_read (take i terms) f u ≡ false → (has u (get_or terms i d) && occurs i f) ≡ false
    → is_read (take (i + 1) terms) f u ≡ false
read_more terms f u i d l none here =
    let parts = read_split terms (get_or terms i d ∷ []) f u i (omega arith) in
    ap (λ (ts : List Term). is_read ts f u) (take_more terms i d l) ∙ (parts ∙ unsettled (is_read (take i terms) f u) (occurs i f) (has u (get_or terms i d)) none here)
