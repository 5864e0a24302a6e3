-- The Skolem form of each kind of formula, as the code makes it.
use Rattle.std.specs.Prelude.{◌≡◌, ℕ, ◌+◌, ◌<◌, ◌≤◌, Bool, List, [], ◌∷◌, ◌++◌, length, map, drop, get_or}
use Rattle.std.proofs.Common.{rules, refl, sym, ap, subst, ◌∙◌}
use Rattle.std.proofs.lemmas.List.{append-nil, append_assoc, drop_more, drop_all}
use Rattle.sw_logic.specs.declared.syntax.Binder.{Binder}
use Rattle.sw_logic.specs.declared.syntax.Symbol.{Symbol}
use Rattle.sw_logic.specs.declared.syntax.Term.{Term}
use Rattle.sw_logic.specs.declared.syntax.Formula.{Formula, the_lemmas}
use Rattle.sw_logic.specs.declared.syntax.Formula.TheVariants.{True, False, Holds, Equal, Not, All, Any, Implies, Iff, ForAll, Exists}
use Rattle.sw_logic.specs.declared.syntax.Formula.TheOpen.{Formula-F}
use Rattle.sw_logic.specs.Terms.{put, variables}
use Rattle.sw_skolem.specs.Skolem.{Part, Form, Forms, part_of, part_step, form, quantified, conjoined, disjoined, negated, before, below, universals, skolem_terms}
use Rattle.sw_skolem.specs.Forming.{form_in, forms_in, IsForm, AreForms, IsReplaced, universals_of}
use Rattle.sw_skolem.proofs.Parts.{part-True, part-False, part-Holds, part-Equal, part-Not, part-All, part-Any, part-ForAll, part-Exists}
use Rattle.sw_skolem.proofs.PartOccurs.{universals_same}

part-Implies : (base : ℕ) (p q : Formula) → part_of base (Implies p q) ≡ part_step base (Formula-F.Implies (part_of base p) (part_of base q))
part-Implies base p q = search (rules, the_lemmas)

part-Iff : (base : ℕ) (p q : Formula) → part_of base (Iff p q) ≡ part_step base (Formula-F.Iff (part_of base p) (part_of base q))
part-Iff base p q = search (rules, the_lemmas)

module _ (base : ℕ) (terms : List Term) (sorts : List ℕ) (made : List Symbol) where
  abbrev at : Part → Form
  at p = p.form terms sorts made

  -- from one formula, and one step, to the other
  stepped : (f g : Formula) (x : Formula) (after : List Symbol) (r : Form) → f ≡ g → at (part_of base g) ≡ r → x ≡ r.formula → after ≡ r.made → IsForm base f terms sorts made x after
  stepped f g x after r e step here there =
      let whole : form_in base f terms sorts made ≡ r = ap (λ (h : Formula). at (part_of base h)) e ∙ step in
      record { formula = here ∙ ap (λ (k : Form). k.formula) (sym whole); symbols = there ∙ ap (λ (k : Form). k.made) (sym whole) }

  pub true_formed : (f : Formula) → f ≡ True → IsForm base f terms sorts made True made
  true_formed f e = stepped f True True made (form True made) e (ap at (part-True base)) refl refl

  pub false_formed : (f : Formula) → f ≡ False → IsForm base f terms sorts made False made
  false_formed f e = stepped f False False made (form False made) e (ap at (part-False base)) refl refl

  pub implies_formed : (f p q : Formula) → f ≡ Implies p q → IsForm base f terms sorts made True made
  implies_formed f p q e = stepped f (Implies p q) True made (form True made) e (ap at (part-Implies base p q)) refl refl

  pub iff_formed : (f p q : Formula) → f ≡ Iff p q → IsForm base f terms sorts made True made
  iff_formed f p q e = stepped f (Iff p q) True made (form True made) e (ap at (part-Iff base p q)) refl refl

  pub holds_formed : (f : Formula) (k : ℕ) (post : Bool) (args given result : List Term) → f ≡ Holds k post args → given ≡ args → result ≡ map (put terms) given
      → IsForm base f terms sorts made (Holds k post result) made
  holds_formed f k post args given result e g r =
      stepped f (Holds k post args) (Holds k post result) made (form (Holds k post (map (put terms) args)) made) e (ap at (part-Holds base k post args))
      (ap (Holds k post) (r ∙ ap (map (put terms)) g)) refl

  pub equal_formed : (f : Formula) (a b x y : Term) → f ≡ Equal a b → x ≡ put terms a → y ≡ put terms b → IsForm base f terms sorts made (Equal x y) made
  equal_formed f a b x y e g h =
      stepped f (Equal a b) (Equal x y) made (form (Equal (put terms a) (put terms b)) made) e (ap at (part-Equal base a b))
      (ap (λ (t : Term). Equal t y) g ∙ ap (Equal (put terms a)) h) refl

  pub not_formed : (f p given r boxed : Formula) (after : List Symbol) → f ≡ Not p → given ≡ p → IsForm base given terms sorts made r after → boxed ≡ r
      → IsForm base f terms sorts made (Not boxed) after
  not_formed f p given r boxed after e g h b =
      let same : form_in base given terms sorts made ≡ form_in base p terms sorts made = ap (λ (q : Formula). at (part_of base q)) g in
      stepped f (Not p) (Not boxed) after (negated (form_in base p terms sorts made)) e (ap at (part-Not base p))
      (ap Not (b ∙ (h.formula ∙ ap (λ (k : Form). k.formula) same))) (h.symbols ∙ ap (λ (k : Form). k.made) same)

  pub all_formed : (f : Formula) (ps given rs : List Formula) (after : List Symbol) → f ≡ All ps → given ≡ ps → AreForms base given terms sorts made rs after
      → IsForm base f terms sorts made (All rs) after
  all_formed f ps given rs after e g h =
      let same : forms_in base given terms sorts made ≡ forms_in base ps terms sorts made = ap (λ (qs : List Formula). forms_in base qs terms sorts made) g in
      stepped f (All ps) (All rs) after (conjoined (forms_in base ps terms sorts made)) e (ap at (part-All base ps))
      (ap All (h.formulas ∙ ap (λ (k : Forms). k.formulas) same)) (h.symbols ∙ ap (λ (k : Forms). k.made) same)

  pub any_formed : (f : Formula) (ps given rs : List Formula) (after : List Symbol) → f ≡ Any ps → given ≡ ps → AreForms base given terms sorts made rs after
      → IsForm base f terms sorts made (Any rs) after
  any_formed f ps given rs after e g h =
      let same : forms_in base given terms sorts made ≡ forms_in base ps terms sorts made = ap (λ (qs : List Formula). forms_in base qs terms sorts made) g in
      stepped f (Any ps) (Any rs) after (disjoined (forms_in base ps terms sorts made)) e (ap at (part-Any base ps))
      (ap Any (h.formulas ∙ ap (λ (k : Forms). k.formulas) same)) (h.symbols ∙ ap (λ (k : Forms). k.made) same)

  pub for_all_formed : (f p given r boxed : Formula) (bs bound copied : List Binder) (number : ℕ) (inner : List Term) (wider : List ℕ) (after : List Symbol)
      → f ≡ ForAll bs p → given ≡ p → bound ≡ bs → copied ≡ bs → number ≡ base → wider ≡ sorts ++ map (λ (b : Binder). b.sort) bound → inner ≡ terms ++ variables (length sorts) (length bound)
      → IsForm number given inner wider made r after → boxed ≡ r → IsForm base f terms sorts made (ForAll copied boxed) after
  for_all_formed f p given r boxed bs bound copied number inner wider after e g b c n w i h x =
      let i2 : inner ≡ terms ++ variables (length sorts) (length bs) = i ∙ ap (λ (l : List Binder). terms ++ variables (length sorts) (length l)) b in
      let w2 : wider ≡ sorts ++ map (λ (b : Binder). b.sort) bs = w ∙ ap (λ (l : List Binder). sorts ++ map (λ (b : Binder). b.sort) l) b in
      let same : form_in number given inner wider made ≡ form_in base p (terms ++ variables (length sorts) (length bs)) (sorts ++ map (λ (b : Binder). b.sort) bs) made =
      ap (λ (k : ℕ). form_in k given inner wider made) n ∙ (ap (λ (q : Formula). form_in base q inner wider made) g
      ∙ (ap (λ (ts : List Term). form_in base p ts wider made) i2 ∙ ap (λ (ss : List ℕ). form_in base p (terms ++ variables (length sorts) (length bs)) ss made) w2)) in
      let inside = form_in base p (terms ++ variables (length sorts) (length bs)) (sorts ++ map (λ (b : Binder). b.sort) bs) made in
      stepped f (ForAll bs p) (ForAll copied boxed) after (quantified bs inside) e (ap at (part-ForAll base bs p))
      (ap (λ (l : List Binder). ForAll l boxed) c ∙ ap (ForAll bs) (x ∙ (h.formula ∙ ap (λ (k : Form). k.formula) same))) (h.symbols ∙ ap (λ (k : Form). k.made) same)

  pub exists_formed : (f p first given r : Formula) (bs bound : List Binder) (number : ℕ) (inner : List Term) (same_sorts : List ℕ) (more after : List Symbol)
      → f ≡ Exists bs p → first ≡ p → given ≡ p → bound ≡ bs → number ≡ base → same_sorts ≡ sorts → IsReplaced base bound first terms sorts made inner more
      → IsForm number given inner same_sorts more r after → IsForm base f terms sorts made r after
  exists_formed f p first given r bs bound number inner same_sorts more after e k g b n s i h =
      let us = universals (part_of base p).occurs terms (length sorts) in
      let below_is = below base bs (part_of base p) us terms sorts made in
      let replaced : IsReplaced base bs p terms sorts made inner more =
      subst (λ (q : Formula). IsReplaced base bs q terms sorts made inner more) k (subst (λ (l : List Binder). IsReplaced base l first terms sorts made inner more) b i) in
      let moved : IsForm base p inner sorts more r after =
      subst (λ (q : Formula). IsForm base q inner sorts more r after) g
      (subst (λ (ss : List ℕ). IsForm base given inner ss more r after) s (subst (λ (m : ℕ). IsForm m given inner same_sorts more r after) n h)) in
      let same : form_in base p inner sorts more ≡ below base bs (part_of base p) (universals_of terms (length sorts) p) terms sorts made =
      ap (λ (ts : List Term). form_in base p ts sorts more) replaced.terms_below
      ∙ ap (λ (ss : List Symbol). form_in base p (terms ++ skolem_terms (universals_of terms (length sorts) p) (base + length made) (length bs)) sorts ss) replaced.symbols in
      let whole : form_in base p inner sorts more ≡ below_is = same ∙ ap (λ (l : List ℕ). below base bs (part_of base p) l terms sorts made) (sym (universals_same base p terms (length sorts))) in
      stepped f (Exists bs p) r after below_is e (ap at (part-Exists base bs p)) (moved.formula ∙ ap (λ (k : Form). k.formula) whole) (moved.symbols ∙ ap (λ (k : Form). k.made) whole)

-- from the part on that comes next, the forms are those that are left
pub record AreFormedTo (base : ℕ) (parts : List Formula) (terms : List Term) (sorts : List ℕ) (first : List Symbol) (next : ℕ) (done : List Formula) (made : List Symbol) : Type 0 where
  pub formulas : (forms_in base parts terms sorts first).formulas ≡ done ++ (forms_in base (drop next parts) terms sorts made).formulas
  pub symbols : (forms_in base parts terms sorts first).made ≡ (forms_in base (drop next parts) terms sorts made).made

module _ (base : ℕ) (parts : List Formula) (terms : List Term) (sorts : List ℕ) (first : List Symbol) where
  pub begins : AreFormedTo base parts terms sorts first 0 [] first
  begins = record { formulas = refl; symbols = refl }

  pub goes_on : (next : ℕ) (done : List Formula) (made : List Symbol) (part : Formula) (r : Formula) (after : List Symbol) → next < length parts → part ≡ get_or parts next part
      → AreFormedTo base parts terms sorts first next done made → IsForm base part terms sorts made r after → AreFormedTo base parts terms sorts first (next + 1) (done ++ r ∷ []) after
  goes_on next done made part r after l is so_far here =
      let rest = drop (next + 1) parts in
      let more : drop next parts ≡ part ∷ rest = drop_more parts next part l ∙ ap (λ (p : Formula). p ∷ rest) (sym is) in
      let opened : forms_in base (drop next parts) terms sorts made ≡ before (form_in base part terms sorts made) (forms_in base rest terms sorts (form_in base part terms sorts made).made) =
      ap (λ (ps : List Formula). forms_in base ps terms sorts made) more in
      let behind = forms_in base rest terms sorts after in
      let moved : forms_in base rest terms sorts (form_in base part terms sorts made).made ≡ behind = ap (λ (ss : List Symbol). forms_in base rest terms sorts ss) (sym here.symbols) in
      let whole : forms_in base (drop next parts) terms sorts made ≡ before (form_in base part terms sorts made) behind = opened ∙ ap (before (form_in base part terms sorts made)) moved in
      record {
        formulas = so_far.formulas ∙ (ap (λ (k : Forms). done ++ k.formulas) whole ∙ (ap (λ (g : Formula). done ++ g ∷ behind.formulas) (sym here.formula) ∙ sym (append_assoc done (r ∷ []) behind.formulas)));
        symbols = so_far.symbols ∙ ap (λ (k : Forms). k.made) whole;
      }

  pub ends : (next : ℕ) (done : List Formula) (made : List Symbol) → length parts ≤ next → AreFormedTo base parts terms sorts first next done made → AreForms base parts terms sorts first done made
  ends next done made l so_far =
      let none : forms_in base (drop next parts) terms sorts made ≡ record { formulas = []; made = made } = ap (λ (ps : List Formula). forms_in base ps terms sorts made) (drop_all next parts l) in
      record {
        formulas = sym (so_far.formulas ∙ (ap (λ (k : Forms). done ++ k.formulas) none ∙ append-nil done));
        symbols = sym (so_far.symbols ∙ ap (λ (k : Forms). k.made) none);
      }
