-- A formula that is well sorted in a signature is so in one that begins with it, and where primes may stand; symbols that pass a test pass each weaker one.
use Rattle.std.specs.Prelude.{◌≡◌, ℕ, ◌==◌, ◌&&◌, ◌||◌, not, Bool, true, false, ◌≤◌, nat_lt, List, [], ◌∷◌, map, length, Option, Some, None, slice_get, if◌then◌else◌}
use Rattle.std.specs.List.{AllByRecursion, list_all}
use Rattle.std.specs.Cmp.Derive.{both_true}
use Rattle.std.proofs.Common.{rules, arith, refl, sym, subst, ap, ◌∙◌}
use Rattle.std.proofs.lemmas.Bool.{and_parts}
use Rattle.sw_logic.specs.declared.syntax.Symbol.{Symbol}
use Rattle.sw_logic.specs.declared.syntax.Signature.{Signature}
use Rattle.sw_logic.specs.declared.syntax.Binder.{Binder}
use Rattle.sw_logic.specs.declared.syntax.Term as terms
use Rattle.sw_logic.specs.declared.syntax.Term.{Term, roll-Term}
use Rattle.sw_logic.specs.declared.syntax.Term.TheOpen.{Term-F}
use Rattle.sw_logic.specs.declared.syntax.Term.TheFolds.{ind-Term}
use Rattle.sw_logic.specs.declared.syntax.Term.TheVariants as term
use Rattle.sw_logic.specs.declared.syntax.Term.TheVariants.{rolls-Variable, rolls-Apply}
use Rattle.sw_logic.specs.declared.syntax.Formula as formulas
use Rattle.sw_logic.specs.declared.syntax.Formula.{Formula, roll-Formula}
use Rattle.sw_logic.specs.declared.syntax.Formula.TheOpen.{Formula-F}
use Rattle.sw_logic.specs.declared.syntax.Formula.TheFolds.{ind-Formula}
use Rattle.sw_logic.specs.declared.syntax.Formula.TheVariants as formula
use Rattle.sw_logic.specs.declared.syntax.Formula.TheVariants.{rolls-True, rolls-False, rolls-Holds, rolls-Equal, rolls-Not, rolls-All, rolls-Any, rolls-Implies, rolls-Iff, rolls-ForAll, rolls-Exists}
use Rattle.sw_logic.specs.Sorted.{well_sorted, sort_of, sorts_of, same_sort, sorts_match, value_sort, is_atom, gives_value, are_sorts, extended}
use Rattle.sw_logic.specs.Terms.{reads, term_reads}
use Rattle.sw_lists.proofs.Each.{each-pairs}
use Rattle.sw_logic.proofs.Steps.{sorted-All, sorted-Any}

-- the one signature has what the other has, under the same numbers
pub record IsFront (small big : Signature) : Type 0 where
  pub sorts : length small.sorts ≤ length big.sorts
  pub symbols : (k : ℕ) (s : Symbol) → slice_get small.symbols k ≡ Some s → slice_get big.symbols k ≡ Some s

same_more : (s : ℕ) (o p : Option ℕ) → ((n : ℕ) → o ≡ Some n → p ≡ Some n) → same_sort (Some s) o ≡ true → same_sort (Some s) p ≡ true
same_more s None p h e = cc
same_more s (Some n) p h e = ap (same_sort (Some s)) (h n refl) ∙ e

module _ (small big : Signature) (begins : IsFront small big) (post late : Bool) (later : post ≡ true → late ≡ true) (scope : List ℕ) where
  abbrev here : Term → Option ℕ
  here = sort_of small post scope

  abbrev there : Term → Option ℕ
  there = sort_of big late scope

  abbrev Stays : Term → Type 0
  Stays t = (sort : ℕ) → here t ≡ Some sort → there t ≡ Some sort

  match_more : (ts : List Term) → AllByRecursion Stays ts → (ss : List ℕ) → sorts_match ss (map here ts) ≡ true → sorts_match ss (map there ts) ≡ true
  match_more [] h [] e = refl
  match_more [] h (s ∷ ss) e = cc
  match_more (t ∷ ts) h [] e = cc
  match_more (t ∷ ts) h (s ∷ ss) e =
      let both = and_parts (same_sort (Some s) (here t)) (sorts_match ss (map here ts)) e in
      both_true (same_more s (here t) (there t) (λ n f. h.0 n f) both.0) (match_more ts h.1 ss both.1)

  -- what may be read stays so
  readable : (primed : Bool) → (post || not primed) ≡ true → (late || not primed) ≡ true
  readable false e = by late
    where
      by : (b : Bool) → (b || true) ≡ true
      by true = refl
      by false = refl
  readable true e = by post late later e
    where
      by : (b c : Bool) → (b ≡ true → c ≡ true) → (b || false) ≡ true → (c || false) ≡ true
      by true c f e = ap (λ (x : Bool). x || false) (f refl)
      by false c f e = cc

  value_more : (o : Option Symbol) (k : ℕ) (primed : Bool) (ts : List Term) → AllByRecursion Stays ts → slice_get small.symbols k ≡ o → (sort : ℕ) → value_sort o (post || not primed) (map here ts) ≡ Some sort → value_sort (slice_get big.symbols k) (late || not primed) (map there ts) ≡ Some sort
  value_more None k primed ts h is sort e = cc
  value_more (Some s) k primed ts h is sort e =
      ap (λ (o : Option Symbol). value_sort o (late || not primed) (map there ts)) (begins.symbols k s is)
      ∙ by (post || not primed) (late || not primed) (gives_value s.kind) (sorts_match s.args (map here ts)) (sorts_match s.args (map there ts)) (readable primed) (match_more ts h s.args) e
    where
      by : (r q g m n : Bool) → (r ≡ true → q ≡ true) → (m ≡ true → n ≡ true) → (if r && (g && m) then Some s.gives else None) ≡ Some sort → (if q && (g && n) then Some s.gives else None) ≡ Some sort
      by true q true true n f h e = ap (λ (b : Bool). if b && (true && n) then Some s.gives else None) (f refl) ∙ (ap (λ (b : Bool). if b then Some s.gives else None) (h refl) ∙ e)
      by true q true false n f h e = cc
      by true q false m n f h e = cc
      by false q g m n f h e = cc

  sort_Apply : (sig : Signature) (p : Bool) (k : ℕ) (primed : Bool) (ts : List Term) → sort_of sig p scope (term.Apply k primed ts) ≡ value_sort (slice_get sig.symbols k) (p || not primed) (map (sort_of sig p scope) ts)
  sort_Apply sig p k primed ts = search (rules, terms.the_lemmas)

  applied : (k : ℕ) (primed : Bool) (ts : List Term) → AllByRecursion Stays ts → Stays (term.Apply k primed ts)
  applied k primed ts h sort e = sort_Apply big late k primed ts ∙ value_more (slice_get small.symbols k) k primed ts h refl sort (sym (sort_Apply small post k primed ts) ∙ e)

  variable : (v : ℕ) → Stays (term.Variable v)
  variable v sort e =
      let a : here (term.Variable v) ≡ slice_get scope v = search (rules, terms.the_lemmas) in
      let b : there (term.Variable v) ≡ slice_get scope v = search (rules, terms.the_lemmas) in
      b ∙ (sym a ∙ e)

  term_layer : (y : Term-F ((t : Term) × Stays t)) → Stays (roll-Term (terms.map-Term ((t : Term) × Stays t) Term (λ e. e.0) y))
  term_layer (Term-F.Variable v) = subst Stays (sym (rolls-Variable v)) (variable v)
  term_layer (Term-F.Apply k primed ts) = subst Stays (sym (rolls-Apply k primed (map (λ e. e.0) ts))) (applied k primed (map (λ e. e.0) ts) (each-pairs Stays ts))

  pub stays : (t : Term) → Stays t
  stays = ind-Term Stays (λ x y is. subst (λ z. Stays (roll-Term z)) is (term_layer y))

  all_stay : (ts : List Term) → AllByRecursion Stays ts
  all_stay [] = tt
  all_stay (t ∷ ts) = (stays t, all_stay ts)

  atom_more : (o : Option Symbol) (k : ℕ) (primed : Bool) (ts : List Term) → slice_get small.symbols k ≡ o → is_atom o (post || not primed) (map here ts) ≡ true → is_atom (slice_get big.symbols k) (late || not primed) (map there ts) ≡ true
  atom_more None k primed ts is e = cc
  atom_more (Some s) k primed ts is e =
      let outer = and_parts (post || not primed) (not (gives_value s.kind) && sorts_match s.args (map here ts)) e in
      let inner = and_parts (not (gives_value s.kind)) (sorts_match s.args (map here ts)) outer.1 in
      ap (λ (o : Option Symbol). is_atom o (late || not primed) (map there ts)) (begins.symbols k s is) ∙ both_true (readable primed outer.0) (both_true inner.0 (match_more ts (all_stay ts) s.args inner.1))

  equal_more : (o p : Option ℕ) (b : Term) → Stays b → here b ≡ p → (a : Term) → Stays a → here a ≡ o → same_sort o p ≡ true → same_sort (there a) (there b) ≡ true
  equal_more None p b hb eb a ha ea e = cc
  equal_more (Some m) None b hb eb a ha ea e = cc
  equal_more (Some m) (Some n) b hb eb a ha ea e = ap (λ (o : Option ℕ). same_sort o (there b)) (ha m ea) ∙ (ap (same_sort (Some m)) (hb n eb) ∙ e)

module _ (small big : Signature) (begins : IsFront small big) (post late : Bool) (later : post ≡ true → late ≡ true) where
  abbrev in_small : Formula → List ℕ → Bool
  in_small = well_sorted small post

  abbrev in_big : Formula → List ℕ → Bool
  in_big = well_sorted big late

  abbrev Still : Formula → Type 0
  Still f = (scope : List ℕ) → in_small f scope ≡ true → in_big f scope ≡ true

  always : (f : Formula) → ((scope : List ℕ) → in_big f scope ≡ true) → Still f
  always f h scope e = h scope

  truth_still : Still formula.True
  truth_still = always formula.True (λ scope. let step : in_big formula.True scope ≡ true = search (rules, formulas.the_lemmas) in step)

  falsity_still : Still formula.False
  falsity_still = always formula.False (λ scope. let step : in_big formula.False scope ≡ true = search (rules, formulas.the_lemmas) in step)

  sorted_Holds : (sig : Signature) (p : Bool) (k : ℕ) (primed : Bool) (ts : List Term) (scope : List ℕ) → well_sorted sig p (formula.Holds k primed ts) scope ≡ is_atom (slice_get sig.symbols k) (p || not primed) (map (sort_of sig p scope) ts)
  sorted_Holds sig p k primed ts scope = search (rules, formulas.the_lemmas)

  holds_still : (k : ℕ) (primed : Bool) (ts : List Term) → Still (formula.Holds k primed ts)
  holds_still k primed ts scope e =
      sorted_Holds big late k primed ts scope ∙ atom_more small big begins post late later scope (slice_get small.symbols k) k primed ts refl (sym (sorted_Holds small post k primed ts scope) ∙ e)

  sorted_Equal : (sig : Signature) (p : Bool) (a b : Term) (scope : List ℕ) → well_sorted sig p (formula.Equal a b) scope ≡ same_sort (sort_of sig p scope a) (sort_of sig p scope b)
  sorted_Equal sig p a b scope = search (rules, formulas.the_lemmas)

  equal_still : (a b : Term) → Still (formula.Equal a b)
  equal_still a b scope e =
      sorted_Equal big late a b scope ∙ equal_more small big begins post late later scope (sort_of small post scope a) (sort_of small post scope b) b (stays small big begins post late later scope b) refl a (stays small big begins post late later scope a) refl (sym (sorted_Equal small post a b scope) ∙ e)

  sorted_Not : (sig : Signature) (b : Bool) (p : Formula) (scope : List ℕ) → well_sorted sig b (formula.Not p) scope ≡ well_sorted sig b p scope
  sorted_Not sig b p scope = search (rules, formulas.the_lemmas)

  not_still : (p : Formula) → Still p → Still (formula.Not p)
  not_still p h scope e = sorted_Not big late p scope ∙ h scope (sym (sorted_Not small post p scope) ∙ e)

  each_still : (ps : List Formula) → AllByRecursion Still ps → (scope : List ℕ) → list_all (λ p. in_small p scope) ps ≡ true → list_all (λ p. in_big p scope) ps ≡ true
  each_still [] h scope e = refl
  each_still (p ∷ ps) h scope e =
      let both = and_parts (in_small p scope) (list_all (λ p. in_small p scope) ps) e in
      both_true (h.0 scope both.0) (each_still ps h.1 scope both.1)

  all_still : (ps : List Formula) → AllByRecursion Still ps → Still (formula.All ps)
  all_still ps h scope e = sorted-All big late ps scope ∙ each_still ps h scope (sym (sorted-All small post ps scope) ∙ e)

  any_still : (ps : List Formula) → AllByRecursion Still ps → Still (formula.Any ps)
  any_still ps h scope e = sorted-Any big late ps scope ∙ each_still ps h scope (sym (sorted-Any small post ps scope) ∙ e)

  sorted_Implies : (sig : Signature) (b : Bool) (p q : Formula) (scope : List ℕ) → well_sorted sig b (formula.Implies p q) scope ≡ (well_sorted sig b p scope && well_sorted sig b q scope)
  sorted_Implies sig b p q scope = search (rules, formulas.the_lemmas)

  sorted_Iff : (sig : Signature) (b : Bool) (p q : Formula) (scope : List ℕ) → well_sorted sig b (formula.Iff p q) scope ≡ (well_sorted sig b p scope && well_sorted sig b q scope)
  sorted_Iff sig b p q scope = search (rules, formulas.the_lemmas)

  two_still : (p q : Formula) → Still p → Still q → (scope : List ℕ) → (in_small p scope && in_small q scope) ≡ true → (in_big p scope && in_big q scope) ≡ true
  two_still p q h g scope e = let both = and_parts (in_small p scope) (in_small q scope) e in both_true (h scope both.0) (g scope both.1)

  implies_still : (p q : Formula) → Still p → Still q → Still (formula.Implies p q)
  implies_still p q h g scope e = sorted_Implies big late p q scope ∙ two_still p q h g scope (sym (sorted_Implies small post p q scope) ∙ e)

  iff_still : (p q : Formula) → Still p → Still q → Still (formula.Iff p q)
  iff_still p q h g scope e = sorted_Iff big late p q scope ∙ two_still p q h g scope (sym (sorted_Iff small post p q scope) ∙ e)

  below : (m n k : ℕ) → n ≤ k → nat_lt m n ≡ true → nat_lt m k ≡ true
  below m n k h e = grind (arith, h, e)

  pub binders_still : (bs : List Binder) → are_sorts small bs ≡ true → are_sorts big bs ≡ true
  binders_still [] e = refl
  binders_still (b ∷ bs) e =
      let both = and_parts (nat_lt b.sort (length small.sorts)) (are_sorts small bs) e in
      both_true (below b.sort (length small.sorts) (length big.sorts) begins.sorts both.0) (binders_still bs both.1)

  sorted_ForAll : (sig : Signature) (b : Bool) (bs : List Binder) (p : Formula) (scope : List ℕ) → well_sorted sig b (formula.ForAll bs p) scope ≡ (are_sorts sig bs && well_sorted sig b p (extended scope bs))
  sorted_ForAll sig b bs p scope = search (rules, formulas.the_lemmas)

  sorted_Exists : (sig : Signature) (b : Bool) (bs : List Binder) (p : Formula) (scope : List ℕ) → well_sorted sig b (formula.Exists bs p) scope ≡ (are_sorts sig bs && well_sorted sig b p (extended scope bs))
  sorted_Exists sig b bs p scope = search (rules, formulas.the_lemmas)

  body_still : (bs : List Binder) (p : Formula) → Still p → (scope : List ℕ) → (are_sorts small bs && in_small p (extended scope bs)) ≡ true → (are_sorts big bs && in_big p (extended scope bs)) ≡ true
  body_still bs p h scope e = let both = and_parts (are_sorts small bs) (in_small p (extended scope bs)) e in both_true (binders_still bs both.0) (h (extended scope bs) both.1)

  for_all_still : (bs : List Binder) (p : Formula) → Still p → Still (formula.ForAll bs p)
  for_all_still bs p h scope e = sorted_ForAll big late bs p scope ∙ body_still bs p h scope (sym (sorted_ForAll small post bs p scope) ∙ e)

  exists_still : (bs : List Binder) (p : Formula) → Still p → Still (formula.Exists bs p)
  exists_still bs p h scope e = sorted_Exists big late bs p scope ∙ body_still bs p h scope (sym (sorted_Exists small post bs p scope) ∙ e)

  layer : (y : Formula-F ((f : Formula) × Still f)) → Still (roll-Formula (formulas.map-Formula ((f : Formula) × Still f) Formula (λ e. e.0) y))
  layer Formula-F.True = subst Still (sym rolls-True) truth_still
  layer Formula-F.False = subst Still (sym rolls-False) falsity_still
  layer (Formula-F.Holds k primed ts) = subst Still (sym (rolls-Holds k primed ts)) (holds_still k primed ts)
  layer (Formula-F.Equal a b) = subst Still (sym (rolls-Equal a b)) (equal_still a b)
  layer (Formula-F.Not p) = subst Still (sym (rolls-Not p.0)) (not_still p.0 p.1)
  layer (Formula-F.All ps) = subst Still (sym (rolls-All (map (λ e. e.0) ps))) (all_still (map (λ e. e.0) ps) (each-pairs Still ps))
  layer (Formula-F.Any ps) = subst Still (sym (rolls-Any (map (λ e. e.0) ps))) (any_still (map (λ e. e.0) ps) (each-pairs Still ps))
  layer (Formula-F.Implies p q) = subst Still (sym (rolls-Implies p.0 q.0)) (implies_still p.0 q.0 p.1 q.1)
  layer (Formula-F.Iff p q) = subst Still (sym (rolls-Iff p.0 q.0)) (iff_still p.0 q.0 p.1 q.1)
  layer (Formula-F.ForAll bs p) = subst Still (sym (rolls-ForAll bs p.0)) (for_all_still bs p.0 p.1)
  layer (Formula-F.Exists bs p) = subst Still (sym (rolls-Exists bs p.0)) (exists_still bs p.0 p.1)

  pub sorted_still : (f : Formula) → Still f
  sorted_still = ind-Formula Still (λ x y is. subst (λ z. Still (roll-Formula z)) is (layer y))

-- symbols that pass a test pass each weaker one
module _ (p q : ℕ → Bool → Bool) (weaker : (k : ℕ) (post : Bool) → p k post ≡ true → q k post ≡ true) where
  abbrev Weakens : Term → Type 0
  Weakens t = term_reads p t ≡ true → term_reads q t ≡ true

  reads_Apply : (r : ℕ → Bool → Bool) (k : ℕ) (post : Bool) (ts : List Term) → term_reads r (term.Apply k post ts) ≡ (r k post && list_all (λ b. b) (map (term_reads r) ts))
  reads_Apply r k post ts = search (rules, terms.the_lemmas)

  each_weakens : (ts : List Term) → AllByRecursion Weakens ts → list_all (λ b. b) (map (term_reads p) ts) ≡ true → list_all (λ b. b) (map (term_reads q) ts) ≡ true
  each_weakens [] h e = refl
  each_weakens (t ∷ ts) h e =
      let both = and_parts (term_reads p t) (list_all (λ b. b) (map (term_reads p) ts)) e in
      both_true (h.0 both.0) (each_weakens ts h.1 both.1)

  applied_weakens : (k : ℕ) (post : Bool) (ts : List Term) → AllByRecursion Weakens ts → Weakens (term.Apply k post ts)
  applied_weakens k post ts h e =
      let both = and_parts (p k post) (list_all (λ b. b) (map (term_reads p) ts)) (sym (reads_Apply p k post ts) ∙ e) in
      reads_Apply q k post ts ∙ both_true (weaker k post both.0) (each_weakens ts h both.1)

  variable_weakens : (v : ℕ) → Weakens (term.Variable v)
  variable_weakens v e = let step : term_reads q (term.Variable v) ≡ true = search (rules, terms.the_lemmas) in step

  term_layer_weakens : (y : Term-F ((t : Term) × Weakens t)) → Weakens (roll-Term (terms.map-Term ((t : Term) × Weakens t) Term (λ e. e.0) y))
  term_layer_weakens (Term-F.Variable v) = subst Weakens (sym (rolls-Variable v)) (variable_weakens v)
  term_layer_weakens (Term-F.Apply k post ts) = subst Weakens (sym (rolls-Apply k post (map (λ e. e.0) ts))) (applied_weakens k post (map (λ e. e.0) ts) (each-pairs Weakens ts))

  term_weakens : (t : Term) → Weakens t
  term_weakens = ind-Term Weakens (λ x y is. subst (λ z. Weakens (roll-Term z)) is (term_layer_weakens y))

  terms_weaken : (ts : List Term) → list_all (term_reads p) ts ≡ true → list_all (term_reads q) ts ≡ true
  terms_weaken [] e = refl
  terms_weaken (t ∷ ts) e = let both = and_parts (term_reads p t) (list_all (term_reads p) ts) e in both_true (term_weakens t both.0) (terms_weaken ts both.1)

  abbrev Weaker : Formula → Type 0
  Weaker f = reads p f ≡ true → reads q f ≡ true

  -- what a formula's symbols pass, by its parts
  reads_Holds : (r : ℕ → Bool → Bool) (k : ℕ) (post : Bool) (ts : List Term) → reads r (formula.Holds k post ts) ≡ (r k post && list_all (term_reads r) ts)
  reads_Holds r k post ts = search (rules, formulas.the_lemmas)

  reads_Equal : (r : ℕ → Bool → Bool) (a b : Term) → reads r (formula.Equal a b) ≡ (term_reads r a && term_reads r b)
  reads_Equal r a b = search (rules, formulas.the_lemmas)

  reads_Not : (r : ℕ → Bool → Bool) (f : Formula) → reads r (formula.Not f) ≡ reads r f
  reads_Not r f = search (rules, formulas.the_lemmas)

  reads_All : (r : ℕ → Bool → Bool) (fs : List Formula) → reads r (formula.All fs) ≡ list_all (λ b. b) (map (reads r) fs)
  reads_All r fs = search (rules, formulas.the_lemmas)

  reads_Any : (r : ℕ → Bool → Bool) (fs : List Formula) → reads r (formula.Any fs) ≡ list_all (λ b. b) (map (reads r) fs)
  reads_Any r fs = search (rules, formulas.the_lemmas)

  reads_Implies : (r : ℕ → Bool → Bool) (f g : Formula) → reads r (formula.Implies f g) ≡ (reads r f && reads r g)
  reads_Implies r f g = search (rules, formulas.the_lemmas)

  reads_Iff : (r : ℕ → Bool → Bool) (f g : Formula) → reads r (formula.Iff f g) ≡ (reads r f && reads r g)
  reads_Iff r f g = search (rules, formulas.the_lemmas)

  reads_ForAll : (r : ℕ → Bool → Bool) (bs : List Binder) (f : Formula) → reads r (formula.ForAll bs f) ≡ reads r f
  reads_ForAll r bs f = search (rules, formulas.the_lemmas)

  reads_Exists : (r : ℕ → Bool → Bool) (bs : List Binder) (f : Formula) → reads r (formula.Exists bs f) ≡ reads r f
  reads_Exists r bs f = search (rules, formulas.the_lemmas)

  each_weaker : (fs : List Formula) → AllByRecursion Weaker fs → list_all (λ b. b) (map (reads p) fs) ≡ true → list_all (λ b. b) (map (reads q) fs) ≡ true
  each_weaker [] h e = refl
  each_weaker (f ∷ fs) h e =
      let both = and_parts (reads p f) (list_all (λ b. b) (map (reads p) fs)) e in
      both_true (h.0 both.0) (each_weaker fs h.1 both.1)

  two_weaker : (f g : Formula) → Weaker f → Weaker g → (reads p f && reads p g) ≡ true → (reads q f && reads q g) ≡ true
  two_weaker f g h i e = let both = and_parts (reads p f) (reads p g) e in both_true (h both.0) (i both.1)

  holds_weaker : (k : ℕ) (post : Bool) (ts : List Term) → Weaker (formula.Holds k post ts)
  holds_weaker k post ts e =
      let both = and_parts (p k post) (list_all (term_reads p) ts) (sym (reads_Holds p k post ts) ∙ e) in
      reads_Holds q k post ts ∙ both_true (weaker k post both.0) (terms_weaken ts both.1)

  equal_weaker : (a b : Term) → Weaker (formula.Equal a b)
  equal_weaker a b e =
      let both = and_parts (term_reads p a) (term_reads p b) (sym (reads_Equal p a b) ∙ e) in
      reads_Equal q a b ∙ both_true (term_weakens a both.0) (term_weakens b both.1)

  true_weaker : Weaker formula.True
  true_weaker e = let step : reads q formula.True ≡ true = search (rules, formulas.the_lemmas) in step

  false_weaker : Weaker formula.False
  false_weaker e = let step : reads q formula.False ≡ true = search (rules, formulas.the_lemmas) in step

  layer_weaker : (y : Formula-F ((f : Formula) × Weaker f)) → Weaker (roll-Formula (formulas.map-Formula ((f : Formula) × Weaker f) Formula (λ e. e.0) y))
  layer_weaker Formula-F.True = subst Weaker (sym rolls-True) true_weaker
  layer_weaker Formula-F.False = subst Weaker (sym rolls-False) false_weaker
  layer_weaker (Formula-F.Holds k post ts) = subst Weaker (sym (rolls-Holds k post ts)) (holds_weaker k post ts)
  layer_weaker (Formula-F.Equal a b) = subst Weaker (sym (rolls-Equal a b)) (equal_weaker a b)
  layer_weaker (Formula-F.Not f) = subst Weaker (sym (rolls-Not f.0)) (λ e. reads_Not q f.0 ∙ f.1 (sym (reads_Not p f.0) ∙ e))
  layer_weaker (Formula-F.All fs) = subst Weaker (sym (rolls-All (map (λ e. e.0) fs))) (λ e. reads_All q (map (λ e. e.0) fs) ∙ each_weaker (map (λ e. e.0) fs) (each-pairs Weaker fs) (sym (reads_All p (map (λ e. e.0) fs)) ∙ e))
  layer_weaker (Formula-F.Any fs) = subst Weaker (sym (rolls-Any (map (λ e. e.0) fs))) (λ e. reads_Any q (map (λ e. e.0) fs) ∙ each_weaker (map (λ e. e.0) fs) (each-pairs Weaker fs) (sym (reads_Any p (map (λ e. e.0) fs)) ∙ e))
  layer_weaker (Formula-F.Implies f g) = subst Weaker (sym (rolls-Implies f.0 g.0)) (λ e. reads_Implies q f.0 g.0 ∙ two_weaker f.0 g.0 f.1 g.1 (sym (reads_Implies p f.0 g.0) ∙ e))
  layer_weaker (Formula-F.Iff f g) = subst Weaker (sym (rolls-Iff f.0 g.0)) (λ e. reads_Iff q f.0 g.0 ∙ two_weaker f.0 g.0 f.1 g.1 (sym (reads_Iff p f.0 g.0) ∙ e))
  layer_weaker (Formula-F.ForAll bs f) = subst Weaker (sym (rolls-ForAll bs f.0)) (λ e. reads_ForAll q bs f.0 ∙ f.1 (sym (reads_ForAll p bs f.0) ∙ e))
  layer_weaker (Formula-F.Exists bs f) = subst Weaker (sym (rolls-Exists bs f.0)) (λ e. reads_Exists q bs f.0 ∙ f.1 (sym (reads_Exists p bs f.0) ∙ e))

  pub reads_weaker : (f : Formula) → Weaker f
  reads_weaker = ind-Formula Weaker (λ x y is. subst (λ z. Weaker (roll-Formula z)) is (layer_weaker y))
