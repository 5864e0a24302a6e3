-- Terms and formulas without the numbers of their functions.
use Rattle.std.specs.Prelude.{◌≡◌, ℕ, zero, suc, ◌||◌, Bool, List, [], ◌∷◌, map, unwrap_or, slice_get}
use Rattle.std.specs.List.{AllByRecursion, list_any}
use Rattle.std.proofs.Common.{rules, refl, sym, subst, ap, ◌∙◌}
use Rattle.sw_lists.proofs.Each.{each-pairs}
use Rattle.sw_logic.specs.declared.syntax.Binder.{Binder}
use Rattle.sw_logic.specs.declared.syntax.Term as terms
use Rattle.sw_logic.specs.declared.syntax.Term.{Term, roll-Term}
use Rattle.sw_logic.specs.declared.syntax.Term.TheOpen.{Term-F}
use Rattle.sw_logic.specs.declared.syntax.Term.TheFolds.{fold-Term, ind-Term}
use Rattle.sw_logic.specs.declared.syntax.Term.TheVariants.{Variable, Apply, rolls-Variable, rolls-Apply}
use Rattle.sw_logic.specs.declared.syntax.Formula as formulas
use Rattle.sw_logic.specs.declared.syntax.Formula.{Formula, roll-Formula}
use Rattle.sw_logic.specs.declared.syntax.Formula.TheOpen.{Formula-F}
use Rattle.sw_logic.specs.declared.syntax.Formula.TheFolds.{fold-Formula, ind-Formula}
use Rattle.sw_logic.specs.declared.syntax.Formula.TheVariants.{True, False, Holds, Equal, Not, All, Any, Implies, Iff, ForAll, Exists}
use Rattle.sw_logic.specs.declared.syntax.Formula.TheVariants.{rolls-True, rolls-False, rolls-Holds, rolls-Equal, rolls-Not, rolls-All, rolls-Any, rolls-Implies, rolls-Iff, rolls-ForAll, rolls-Exists}
use Rattle.sw_logic.specs.Terms.{has, occurs, put, with_terms}
use Rattle.sw_truth.proofs.Ranging.{has-args}
use Rattle.sw_truth.proofs.Occurring.{occurs-Holds, occurs-Equal, occurs-Not, occurs-All, occurs-Any, occurs-ForAll, occurs-Exists}

-- a term whose functions have the number 0
abbrev pub erased_step : Term-F Term → Term
erased_step (Term-F.Variable v) = Variable v
erased_step (Term-F.Apply symbol post args) = Apply 0 post args

abbrev pub erased : Term → Term
erased = fold-Term Term erased_step

-- a formula of such terms
abbrev pub shape_step : Formula-F Formula → Formula
shape_step Formula-F.True = True
shape_step Formula-F.False = False
shape_step (Formula-F.Holds symbol post args) = Holds symbol post (map erased args)
shape_step (Formula-F.Equal a b) = Equal (erased a) (erased b)
shape_step (Formula-F.Not p) = Not p
shape_step (Formula-F.All ps) = All ps
shape_step (Formula-F.Any ps) = Any ps
shape_step (Formula-F.Implies p q) = Implies p q
shape_step (Formula-F.Iff p q) = Iff p q
shape_step (Formula-F.ForAll binders p) = ForAll binders p
shape_step (Formula-F.Exists binders p) = Exists binders p

abbrev pub shape : Formula → Formula
shape = fold-Formula Formula shape_step

pub erased-Variable : (v : ℕ) → erased (Variable v) ≡ Variable v
erased-Variable v = search (rules, terms.the_lemmas)

pub erased-Apply : (k : ℕ) (post : Bool) (args : List Term) → erased (Apply k post args) ≡ Apply 0 post (map erased args)
erased-Apply k post args = search (rules, terms.the_lemmas)

put-Variable : (ts : List Term) (v : ℕ) → put ts (Variable v) ≡ unwrap_or (slice_get ts v) (Variable v)
put-Variable ts v = search (rules, terms.the_lemmas)

put-Apply : (ts : List Term) (k : ℕ) (post : Bool) (args : List Term) → put ts (Apply k post args) ≡ Apply k post (map (put ts) args)
put-Apply ts k post args = search (rules, terms.the_lemmas)

-- the same variables occur, and terms are put in the same places
record IsSame (t : Term) : Type 0 where
  occurs : (x : ℕ) → has x (erased t) ≡ has x t
  puts : (ts : List Term) → erased (put ts t) ≡ put (map erased ts) (erased t)

erased_at : (ts : List Term) (v : ℕ) (d : Term) → erased d ≡ d → erased (unwrap_or (slice_get ts v) d) ≡ unwrap_or (slice_get (map erased ts) v) d
erased_at [] v d e = e
erased_at (t ∷ ts) zero d e = refl
erased_at (t ∷ ts) (suc v) d e = erased_at ts v d e

any_has : (x : ℕ) (ts : List Term) → AllByRecursion IsSame ts → list_any (has x) (map erased ts) ≡ list_any (has x) ts
any_has x [] h = refl
any_has x (t ∷ ts) h = ap (λ b. b || list_any (has x) (map erased ts)) (h.0.occurs x) ∙ ap (λ b. has x t || b) (any_has x ts h.1)

each_put : (us ts : List Term) → AllByRecursion IsSame ts → map erased (map (put us) ts) ≡ map (put (map erased us)) (map erased ts)
each_put us [] h = refl
each_put us (t ∷ ts) h = ap (λ (y : Term). y ∷ map erased (map (put us) ts)) (h.0.puts us)
    ∙ ap (λ (ys : List Term). put (map erased us) (erased t) ∷ ys) (each_put us ts h.1)

variable_same : (v : ℕ) → IsSame (Variable v)
variable_same v = record {
  occurs = λ x. ap (has x) (erased-Variable v);
  puts = λ ts.
      ap erased (put-Variable ts v) ∙ erased_at ts v (Variable v) (erased-Variable v)
      ∙ sym (ap (put (map erased ts)) (erased-Variable v) ∙ put-Variable (map erased ts) v);
}

apply_same : (k : ℕ) (post : Bool) (args : List Term) → AllByRecursion IsSame args → IsSame (Apply k post args)
apply_same k post args h = record {
  occurs = λ x. ap (has x) (erased-Apply k post args) ∙ has-args x 0 post (map erased args) ∙ any_has x args h ∙ sym (has-args x k post args);
  puts = λ ts.
      ap erased (put-Apply ts k post args) ∙ erased-Apply k post (map (put ts) args) ∙ ap (Apply 0 post) (each_put ts args h)
      ∙ sym (ap (put (map erased ts)) (erased-Apply k post args) ∙ put-Apply (map erased ts) 0 post (map erased args));
}

term_layer : (y : Term-F ((t : Term) × IsSame t)) → IsSame (roll-Term (terms.map-Term ((t : Term) × IsSame t) Term (λ e. e.0) y))
term_layer (Term-F.Variable v) = subst IsSame (sym (rolls-Variable v)) (variable_same v)
term_layer (Term-F.Apply k post args) = subst IsSame (sym (rolls-Apply k post (map (λ e. e.0) args))) (apply_same k post (map (λ e. e.0) args) (each-pairs IsSame args))

is_same : (t : Term) → IsSame t
is_same = ind-Term IsSame (λ x y is. subst (λ z. IsSame (roll-Term z)) is (term_layer y))

all_same : (ts : List Term) → AllByRecursion IsSame ts
all_same [] = tt
all_same (t ∷ ts) = (is_same t, all_same ts)

pub has_erased : (x : ℕ) (t : Term) → has x (erased t) ≡ has x t
has_erased x t = (is_same t).occurs x

pub put_erased : (ts : List Term) (t : Term) → erased (put ts t) ≡ put (map erased ts) (erased t)
put_erased ts t = (is_same t).puts ts

pub puts_erased : (us ts : List Term) → map erased (map (put us) ts) ≡ map (put (map erased us)) (map erased ts)
puts_erased us ts = each_put us ts (all_same ts)

-- ---- formulas
pub shape-True : shape True ≡ True
shape-True = search (rules, formulas.the_lemmas)

pub shape-False : shape False ≡ False
shape-False = search (rules, formulas.the_lemmas)

pub shape-Holds : (k : ℕ) (post : Bool) (args : List Term) → shape (Holds k post args) ≡ Holds k post (map erased args)
shape-Holds k post args = search (rules, formulas.the_lemmas)

pub shape-Equal : (a b : Term) → shape (Equal a b) ≡ Equal (erased a) (erased b)
shape-Equal a b = search (rules, formulas.the_lemmas)

pub shape-Not : (p : Formula) → shape (Not p) ≡ Not (shape p)
shape-Not p = search (rules, formulas.the_lemmas)

pub shape-All : (ps : List Formula) → shape (All ps) ≡ All (map shape ps)
shape-All ps = search (rules, formulas.the_lemmas)

pub shape-Any : (ps : List Formula) → shape (Any ps) ≡ Any (map shape ps)
shape-Any ps = search (rules, formulas.the_lemmas)

pub shape-Implies : (p q : Formula) → shape (Implies p q) ≡ Implies (shape p) (shape q)
shape-Implies p q = search (rules, formulas.the_lemmas)

pub shape-Iff : (p q : Formula) → shape (Iff p q) ≡ Iff (shape p) (shape q)
shape-Iff p q = search (rules, formulas.the_lemmas)

pub shape-ForAll : (bs : List Binder) (p : Formula) → shape (ForAll bs p) ≡ ForAll bs (shape p)
shape-ForAll bs p = search (rules, formulas.the_lemmas)

pub shape-Exists : (bs : List Binder) (p : Formula) → shape (Exists bs p) ≡ Exists bs (shape p)
shape-Exists bs p = search (rules, formulas.the_lemmas)

-- the same variables occur in a formula and in its shape
abbrev Occurs : Formula → Type 0
Occurs f = (x : ℕ) → occurs x (shape f) ≡ occurs x f

any_occurs : (x : ℕ) (ps : List Formula) → AllByRecursion Occurs ps → list_any (occurs x) (map shape ps) ≡ list_any (occurs x) ps
any_occurs x [] h = refl
any_occurs x (p ∷ ps) h = ap (λ b. b || list_any (occurs x) (map shape ps)) (h.0 x) ∙ ap (λ b. occurs x p || b) (any_occurs x ps h.1)

occurs-Implies : (x : ℕ) (p q : Formula) → occurs x (Implies p q) ≡ (occurs x p || occurs x q)
occurs-Implies x p q = search (rules, formulas.the_lemmas)

occurs-Iff : (x : ℕ) (p q : Formula) → occurs x (Iff p q) ≡ (occurs x p || occurs x q)
occurs-Iff x p q = search (rules, formulas.the_lemmas)

either : (p q : Formula) → Occurs p → Occurs q → (x : ℕ) → (occurs x (shape p) || occurs x (shape q)) ≡ (occurs x p || occurs x q)
either p q h k x = ap (λ b. b || occurs x (shape q)) (h x) ∙ ap (λ b. occurs x p || b) (k x)

occurs_layer : (y : Formula-F ((f : Formula) × Occurs f)) → Occurs (roll-Formula (formulas.map-Formula ((f : Formula) × Occurs f) Formula (λ e. e.0) y))
occurs_layer Formula-F.True = subst Occurs (sym rolls-True) (λ x. ap (occurs x) shape-True)
occurs_layer Formula-F.False = subst Occurs (sym rolls-False) (λ x. ap (occurs x) shape-False)
occurs_layer (Formula-F.Holds k post args) = subst Occurs (sym (rolls-Holds k post args))
    (λ x. ap (occurs x) (shape-Holds k post args) ∙ occurs-Holds x k post (map erased args) ∙ any_has x args (all_same args) ∙ sym (occurs-Holds x k post args))
occurs_layer (Formula-F.Equal a b) = subst Occurs (sym (rolls-Equal a b))
    (λ x. ap (occurs x) (shape-Equal a b) ∙ occurs-Equal x (erased a) (erased b) ∙ ap (λ c. c || has x (erased b)) (has_erased x a) ∙ ap (λ c. has x a || c) (has_erased x b)
    ∙ sym (occurs-Equal x a b))
occurs_layer (Formula-F.Not p) = subst Occurs (sym (rolls-Not p.0)) (λ x. ap (occurs x) (shape-Not p.0) ∙ occurs-Not x (shape p.0) ∙ p.1 x ∙ sym (occurs-Not x p.0))
occurs_layer (Formula-F.All ps) = let qs = map (λ (e : (f : Formula) × Occurs f). e.0) ps in subst Occurs (sym (rolls-All qs))
    (λ x. ap (occurs x) (shape-All qs) ∙ occurs-All x (map shape qs) ∙ any_occurs x qs (each-pairs Occurs ps) ∙ sym (occurs-All x qs))
occurs_layer (Formula-F.Any ps) = let qs = map (λ (e : (f : Formula) × Occurs f). e.0) ps in subst Occurs (sym (rolls-Any qs))
    (λ x. ap (occurs x) (shape-Any qs) ∙ occurs-Any x (map shape qs) ∙ any_occurs x qs (each-pairs Occurs ps) ∙ sym (occurs-Any x qs))
occurs_layer (Formula-F.Implies p q) = subst Occurs (sym (rolls-Implies p.0 q.0))
    (λ x. ap (occurs x) (shape-Implies p.0 q.0) ∙ occurs-Implies x (shape p.0) (shape q.0) ∙ either p.0 q.0 p.1 q.1 x ∙ sym (occurs-Implies x p.0 q.0))
occurs_layer (Formula-F.Iff p q) = subst Occurs (sym (rolls-Iff p.0 q.0))
    (λ x. ap (occurs x) (shape-Iff p.0 q.0) ∙ occurs-Iff x (shape p.0) (shape q.0) ∙ either p.0 q.0 p.1 q.1 x ∙ sym (occurs-Iff x p.0 q.0))
occurs_layer (Formula-F.ForAll bs p) = subst Occurs (sym (rolls-ForAll bs p.0))
    (λ x. ap (occurs x) (shape-ForAll bs p.0) ∙ occurs-ForAll x bs (shape p.0) ∙ p.1 x ∙ sym (occurs-ForAll x bs p.0))
occurs_layer (Formula-F.Exists bs p) = subst Occurs (sym (rolls-Exists bs p.0))
    (λ x. ap (occurs x) (shape-Exists bs p.0) ∙ occurs-Exists x bs (shape p.0) ∙ p.1 x ∙ sym (occurs-Exists x bs p.0))

pub occurs_shape : (f : Formula) → Occurs f
occurs_shape = ind-Formula Occurs (λ x y is. subst (λ z. Occurs (roll-Formula z)) is (occurs_layer y))

-- terms are put in the same places of a formula and of its shape
abbrev Puts : Formula → Type 0
Puts f = (ts : List Term) → shape (with_terms ts f) ≡ with_terms (map erased ts) (shape f)

each_puts : (ts : List Term) (ps : List Formula) → AllByRecursion Puts ps → map shape (map (with_terms ts) ps) ≡ map (with_terms (map erased ts)) (map shape ps)
each_puts ts [] h = refl
each_puts ts (p ∷ ps) h =
    ap (λ (y : Formula). y ∷ map shape (map (with_terms ts) ps)) (h.0 ts)
    ∙ ap (λ (ys : List Formula). with_terms (map erased ts) (shape p) ∷ ys) (each_puts ts ps h.1)

-- what a formula with terms in the place of its variables is, one step down
with-True : (ts : List Term) → with_terms ts True ≡ True
with-True ts = search (rules, formulas.the_lemmas)

with-False : (ts : List Term) → with_terms ts False ≡ False
with-False ts = search (rules, formulas.the_lemmas)

with-Holds : (ts : List Term) (k : ℕ) (post : Bool) (args : List Term) → with_terms ts (Holds k post args) ≡ Holds k post (map (put ts) args)
with-Holds ts k post args = search (rules, formulas.the_lemmas)

with-Equal : (ts : List Term) (a b : Term) → with_terms ts (Equal a b) ≡ Equal (put ts a) (put ts b)
with-Equal ts a b = search (rules, formulas.the_lemmas)

with-Not : (ts : List Term) (p : Formula) → with_terms ts (Not p) ≡ Not (with_terms ts p)
with-Not ts p = search (rules, formulas.the_lemmas)

with-All : (ts : List Term) (ps : List Formula) → with_terms ts (All ps) ≡ All (map (with_terms ts) ps)
with-All ts ps = search (rules, formulas.the_lemmas)

with-Any : (ts : List Term) (ps : List Formula) → with_terms ts (Any ps) ≡ Any (map (with_terms ts) ps)
with-Any ts ps = search (rules, formulas.the_lemmas)

with-Implies : (ts : List Term) (p q : Formula) → with_terms ts (Implies p q) ≡ Implies (with_terms ts p) (with_terms ts q)
with-Implies ts p q = search (rules, formulas.the_lemmas)

with-Iff : (ts : List Term) (p q : Formula) → with_terms ts (Iff p q) ≡ Iff (with_terms ts p) (with_terms ts q)
with-Iff ts p q = search (rules, formulas.the_lemmas)

with-ForAll : (ts : List Term) (bs : List Binder) (p : Formula) → with_terms ts (ForAll bs p) ≡ ForAll bs (with_terms ts p)
with-ForAll ts bs p = search (rules, formulas.the_lemmas)

with-Exists : (ts : List Term) (bs : List Binder) (p : Formula) → with_terms ts (Exists bs p) ≡ Exists bs (with_terms ts p)
with-Exists ts bs p = search (rules, formulas.the_lemmas)

-- from a step on each side
met : (ts : List Term) (f g h : Formula) → with_terms ts f ≡ g → shape f ≡ h → shape g ≡ with_terms (map erased ts) h
    → shape (with_terms ts f) ≡ with_terms (map erased ts) (shape f)
met ts f g h d e k = ap shape d ∙ k ∙ sym (ap (with_terms (map erased ts)) e)

puts_layer : (y : Formula-F ((f : Formula) × Puts f)) → Puts (roll-Formula (formulas.map-Formula ((f : Formula) × Puts f) Formula (λ e. e.0) y))
puts_layer Formula-F.True = subst Puts (sym rolls-True) (λ ts. met ts True True True (with-True ts) shape-True (shape-True ∙ sym (with-True (map erased ts))))
puts_layer Formula-F.False = subst Puts (sym rolls-False) (λ ts. met ts False False False (with-False ts) shape-False (shape-False ∙ sym (with-False (map erased ts))))
puts_layer (Formula-F.Holds k post args) = subst Puts (sym (rolls-Holds k post args))
    (λ ts. met ts (Holds k post args) (Holds k post (map (put ts) args)) (Holds k post (map erased args)) (with-Holds ts k post args) (shape-Holds k post args)
    (shape-Holds k post (map (put ts) args) ∙ ap (Holds k post) (puts_erased ts args) ∙ sym (with-Holds (map erased ts) k post (map erased args))))
puts_layer (Formula-F.Equal a b) = subst Puts (sym (rolls-Equal a b))
    (λ ts. met ts (Equal a b) (Equal (put ts a) (put ts b)) (Equal (erased a) (erased b)) (with-Equal ts a b) (shape-Equal a b)
    (shape-Equal (put ts a) (put ts b) ∙ ap (λ (c : Term). Equal c (erased (put ts b))) (put_erased ts a) ∙ ap (Equal (put (map erased ts) (erased a))) (put_erased ts b)
    ∙ sym (with-Equal (map erased ts) (erased a) (erased b))))
puts_layer (Formula-F.Not p) = subst Puts (sym (rolls-Not p.0))
    (λ ts. met ts (Not p.0) (Not (with_terms ts p.0)) (Not (shape p.0)) (with-Not ts p.0) (shape-Not p.0)
    (shape-Not (with_terms ts p.0) ∙ ap Not (p.1 ts) ∙ sym (with-Not (map erased ts) (shape p.0))))
puts_layer (Formula-F.All ps) = let qs = map (λ (e : (f : Formula) × Puts f). e.0) ps in subst Puts (sym (rolls-All qs))
    (λ ts. met ts (All qs) (All (map (with_terms ts) qs)) (All (map shape qs)) (with-All ts qs) (shape-All qs)
    (shape-All (map (with_terms ts) qs) ∙ ap All (each_puts ts qs (each-pairs Puts ps)) ∙ sym (with-All (map erased ts) (map shape qs))))
puts_layer (Formula-F.Any ps) = let qs = map (λ (e : (f : Formula) × Puts f). e.0) ps in subst Puts (sym (rolls-Any qs))
    (λ ts. met ts (Any qs) (Any (map (with_terms ts) qs)) (Any (map shape qs)) (with-Any ts qs) (shape-Any qs)
    (shape-Any (map (with_terms ts) qs) ∙ ap Any (each_puts ts qs (each-pairs Puts ps)) ∙ sym (with-Any (map erased ts) (map shape qs))))
puts_layer (Formula-F.Implies p q) = subst Puts (sym (rolls-Implies p.0 q.0))
    (λ ts. met ts (Implies p.0 q.0) (Implies (with_terms ts p.0) (with_terms ts q.0)) (Implies (shape p.0) (shape q.0)) (with-Implies ts p.0 q.0) (shape-Implies p.0 q.0)
    (shape-Implies (with_terms ts p.0) (with_terms ts q.0) ∙ ap (λ (f : Formula). Implies f (shape (with_terms ts q.0))) (p.1 ts)
    ∙ ap (Implies (with_terms (map erased ts) (shape p.0))) (q.1 ts)
    ∙ sym (with-Implies (map erased ts) (shape p.0) (shape q.0))))
puts_layer (Formula-F.Iff p q) = subst Puts (sym (rolls-Iff p.0 q.0))
    (λ ts. met ts (Iff p.0 q.0) (Iff (with_terms ts p.0) (with_terms ts q.0)) (Iff (shape p.0) (shape q.0)) (with-Iff ts p.0 q.0) (shape-Iff p.0 q.0)
    (shape-Iff (with_terms ts p.0) (with_terms ts q.0) ∙ ap (λ (f : Formula). Iff f (shape (with_terms ts q.0))) (p.1 ts)
    ∙ ap (Iff (with_terms (map erased ts) (shape p.0))) (q.1 ts)
    ∙ sym (with-Iff (map erased ts) (shape p.0) (shape q.0))))
puts_layer (Formula-F.ForAll bs p) = subst Puts (sym (rolls-ForAll bs p.0))
    (λ ts. met ts (ForAll bs p.0) (ForAll bs (with_terms ts p.0)) (ForAll bs (shape p.0)) (with-ForAll ts bs p.0) (shape-ForAll bs p.0)
    (shape-ForAll bs (with_terms ts p.0) ∙ ap (ForAll bs) (p.1 ts) ∙ sym (with-ForAll (map erased ts) bs (shape p.0))))
puts_layer (Formula-F.Exists bs p) = subst Puts (sym (rolls-Exists bs p.0))
    (λ ts. met ts (Exists bs p.0) (Exists bs (with_terms ts p.0)) (Exists bs (shape p.0)) (with-Exists ts bs p.0) (shape-Exists bs p.0)
    (shape-Exists bs (with_terms ts p.0) ∙ ap (Exists bs) (p.1 ts) ∙ sym (with-Exists (map erased ts) bs (shape p.0))))

pub with_shape : (f : Formula) → Puts f
with_shape = ind-Formula Puts (λ x y is. subst (λ z. Puts (roll-Formula z)) is (puts_layer y))
