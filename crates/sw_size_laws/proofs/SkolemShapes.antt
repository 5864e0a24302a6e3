-- The Skolem symbols that a sentence adds do not depend on those that were made before.
use Rattle.std.specs.Prelude.{◌≡◌, ℕ, zero, suc, ◌+◌, ◌&&◌, ◌||◌, Bool, false, cond, List, [], ◌∷◌, ◌++◌, map, length}
use Rattle.std.specs.List.{AllByRecursion, flat_map, filter, list_any, range_with_len, enumerate_from}
use Rattle.std.proofs.Common.{rules, refl, sym, subst, ap, ◌∙◌}
use Rattle.std.proofs.lemmas.List.{append-nil, append_assoc, map-append}
use Rattle.sw_lists.proofs.Each.{each-pairs}
use Rattle.sw_logic.specs.declared.syntax.Binder.{Binder}
use Rattle.sw_logic.specs.declared.syntax.Symbol.{Symbol}
use Rattle.sw_logic.specs.declared.syntax.Term.{Term}
use Rattle.sw_logic.specs.declared.syntax.Term.TheVariants.{Variable, Apply}
use Rattle.sw_logic.specs.declared.syntax.Formula.{Formula, roll-Formula, map-Formula, the_lemmas}
use Rattle.sw_logic.specs.declared.syntax.Formula.TheOpen.{Formula-F}
use Rattle.sw_logic.specs.declared.syntax.Formula.TheFolds.{ind-Formula}
use Rattle.sw_logic.specs.declared.syntax.Formula.TheVariants.{True, False, Holds, Equal, Not, All, Any, Implies, Iff, ForAll, Exists}
use Rattle.sw_logic.specs.declared.syntax.Formula.TheVariants.{rolls-True, rolls-False, rolls-Holds, rolls-Equal, rolls-Not, rolls-All, rolls-Any, rolls-Implies, rolls-Iff, rolls-ForAll, rolls-Exists}
use Rattle.sw_logic.specs.Terms.{has, put, variables}
use Rattle.sw_truth.specs.declared.sets.Piece.{Piece}
use Rattle.sw_skolem.specs.Pieces.{pieces_of}
use Rattle.sw_skolem.specs.Skolem.{Form, Forms, Part, form, forms, part_of, part_step, universals, skolem_symbol, skolem_terms, below}
use Rattle.sw_size_laws.proofs.Erased.{erased, erased-Apply, shape, has_erased, put_erased, puts_erased}
use Rattle.sw_size_laws.proofs.Erased.{shape-Holds, shape-Equal, shape-Not, shape-All, shape-Any, shape-ForAll}
use Rattle.sw_size_laws.proofs.PieceShapes.{vars_of, vars_alike}

-- terms that differ in the numbers of their functions alone
abbrev pub AreAlike : List Term → List Term → Type 0
AreAlike ts us = map erased ts ≡ map erased us

read_erased : (occurs : ℕ → Bool) (u from : ℕ) (ts : List Term) → list_any (λ t. occurs t.0 && has u t.1) (enumerate_from from (map erased ts))
    ≡ list_any (λ t. occurs t.0 && has u t.1) (enumerate_from from ts)
read_erased occurs u from [] = refl
read_erased occurs u from (t ∷ ts) =
    ap (λ (b : Bool). (occurs from && b) || list_any (λ x. occurs x.0 && has u x.1) (enumerate_from (from + 1) (map erased ts))) (has_erased u t)
    ∙ ap (λ (b : Bool). (occurs from && has u t) || b) (read_erased occurs u (from + 1) ts)

filter_by : (p q : ℕ → Bool) → ((x : ℕ) → p x ≡ q x) → (xs : List ℕ) → filter p xs ≡ filter q xs
filter_by p q e [] = refl
filter_by p q e (x ∷ xs) = ap (λ (ys : List ℕ). cond (p x) (x ∷ ys) ys) (filter_by p q e xs) ∙ ap (λ (b : Bool). cond b (x ∷ filter q xs) (filter q xs)) (e x)

-- the same universal variables are read
universals_erased : (occurs : ℕ → Bool) (ts : List Term) (count : ℕ) → universals occurs (map erased ts) count ≡ universals occurs ts count
universals_erased occurs ts count =
    filter_by (λ u. list_any (λ t. occurs t.0 && has u t.1) (enumerate_from 0 (map erased ts))) (λ u. list_any (λ t. occurs t.0 && has u t.1) (enumerate_from 0 ts))
    (λ u. read_erased occurs u 0 ts) (range_with_len 0 count)

universals_alike : (occurs : ℕ → Bool) (ts us : List Term) (count : ℕ) → AreAlike ts us → universals occurs ts count ≡ universals occurs us count
universals_alike occurs ts us count e = sym (universals_erased occurs ts count) ∙ ap (λ (xs : List Term). universals occurs xs count) e
    ∙ universals_erased occurs us count

skolem_alike : (us : List ℕ) (a b count : ℕ) → AreAlike (skolem_terms us a count) (skolem_terms us b count)
skolem_alike us a b zero = refl
skolem_alike us a b (suc count) =
    let vs = map Variable us in
    ap (λ (t : Term). t ∷ map erased (skolem_terms us (a + 1) count)) (erased-Apply a false vs ∙ sym (erased-Apply b false vs))
    ∙ ap (λ (ts : List Term). erased (Apply b false vs) ∷ ts) (skolem_alike us (a + 1) (b + 1) count)

both_alike : (ts us more others : List Term) → AreAlike ts us → AreAlike more others → AreAlike (ts ++ more) (us ++ others)
both_alike ts us more others e h =
    map-append erased ts more ∙ ap (λ (xs : List Term). xs ++ map erased more) e ∙ ap (λ (xs : List Term). map erased us ++ xs) h ∙ sym (map-append erased us others)

puts_alike : (ts us args : List Term) → AreAlike ts us → map erased (map (put ts) args) ≡ map erased (map (put us) args)
puts_alike ts us args e = puts_erased ts args ∙ ap (λ (xs : List Term). map (put xs) (map erased args)) e ∙ sym (puts_erased us args)

put_alike : (ts us : List Term) (t : Term) → AreAlike ts us → erased (put ts t) ≡ erased (put us t)
put_alike ts us t e = put_erased ts t ∙ ap (λ (xs : List Term). put xs (erased t)) e ∙ sym (put_erased us t)

-- one form is another but for numbers, and the symbols of the one are these and those of the other
record Grows (made : List Symbol) (a b : Form) : Type 0 where
  symbols : a.made ≡ made ++ b.made
  formula : shape a.formula ≡ shape b.formula

record AllGrow (made : List Symbol) (a b : Forms) : Type 0 where
  symbols : a.made ≡ made ++ b.made
  formulas : map shape a.formulas ≡ map shape b.formulas

-- what a part adds does not depend on what was made before
abbrev AddsSame : Part → Type 0
AddsSame p = (ts us : List Term) (sorts : List ℕ) (made : List Symbol) → AreAlike ts us → Grows made (p.form ts sorts made) (p.form us sorts [])

kept_same : (made : List Symbol) (f g : Formula) → shape f ≡ shape g → Grows made (form f made) (form g [])
kept_same made f g e = record { symbols = sym (append-nil made); formula = e }

forms_same : (ps : List Part) → AllByRecursion AddsSame ps → (ts us : List Term) (sorts : List ℕ) (made : List Symbol) → AreAlike ts us
    → AllGrow made (forms ps ts sorts made) (forms ps us sorts [])
forms_same [] h ts us sorts made e = record { symbols = sym (append-nil made); formulas = refl }
forms_same (p ∷ ps) h ts us sorts made e =
    let here = h.0 ts us sorts made e in
    let first = (p.form us sorts []).made in
    let one = forms_same ps h.1 ts us sorts (p.form ts sorts made).made e in
    let other = forms_same ps h.1 us us sorts first refl in
    let rest = (forms ps us sorts []).made in
    record {
      symbols = one.symbols ∙ ap (λ (xs : List Symbol). xs ++ rest) here.symbols ∙ append_assoc made first rest
          ∙ ap (λ (xs : List Symbol). made ++ xs) (sym other.symbols);
      formulas =
          ap (λ (f : Formula). f ∷ map shape (forms ps ts sorts (p.form ts sorts made).made).formulas) here.formula
          ∙ ap (λ (fs : List Formula). shape (p.form us sorts []).formula ∷ fs) (one.formulas ∙ sym other.formulas);
    }

module _ (base : ℕ) where
  abbrev IsSame : Formula → Type 0
  IsSame f = AddsSame (part_of base f)

  constant_same : (f g : Formula) (occurs : ℕ → Bool) → part_of base f ≡ record { occurs = occurs; form = λ ts sorts made. form g made } → IsSame f
  constant_same f g occurs e = subst AddsSame (sym e) (λ ts us sorts made h. kept_same made g g refl)

  holds_same : (k : ℕ) (post : Bool) (args : List Term) → IsSame (Holds k post args)
  holds_same k post args =
      let is : part_of base (Holds k post args) ≡ part_step base (Formula-F.Holds k post args) = search (rules, the_lemmas) in
      subst AddsSame (sym is) (λ ts us sorts made h. kept_same made (Holds k post (map (put ts) args)) (Holds k post (map (put us) args))
      (shape-Holds k post (map (put ts) args) ∙ ap (Holds k post) (puts_alike ts us args h) ∙ sym (shape-Holds k post (map (put us) args))))

  equal_same : (a b : Term) → IsSame (Equal a b)
  equal_same a b =
      let is : part_of base (Equal a b) ≡ part_step base (Formula-F.Equal a b) = search (rules, the_lemmas) in
      subst AddsSame (sym is) (λ ts us sorts made h. kept_same made (Equal (put ts a) (put ts b)) (Equal (put us a) (put us b))
      (shape-Equal (put ts a) (put ts b) ∙ ap (λ (c : Term). Equal c (erased (put ts b))) (put_alike ts us a h)
      ∙ ap (Equal (erased (put us a))) (put_alike ts us b h) ∙ sym (shape-Equal (put us a) (put us b))))

  not_same : (p : Formula) → IsSame p → IsSame (Not p)
  not_same p k =
      let is : part_of base (Not p) ≡ part_step base (Formula-F.Not (part_of base p)) = search (rules, the_lemmas) in
      subst AddsSame (sym is) (λ ts us sorts made h.
      let g = k ts us sorts made h in
      let a = (part_of base p).form ts sorts made in
      let b = (part_of base p).form us sorts [] in
      record { symbols = g.symbols; formula = shape-Not a.formula ∙ ap Not g.formula ∙ sym (shape-Not b.formula) })

  each_part : (ps : List Formula) → AllByRecursion IsSame ps → AllByRecursion AddsSame (map (part_of base) ps)
  each_part [] h = tt
  each_part (p ∷ ps) h = (h.0, each_part ps h.1)

  all_same : (ps : List Formula) → AllByRecursion IsSame ps → IsSame (All ps)
  all_same ps k =
      let is : part_of base (All ps) ≡ part_step base (Formula-F.All (map (part_of base) ps)) = search (rules, the_lemmas) in
      subst AddsSame (sym is) (λ ts us sorts made h.
      let qs = map (part_of base) ps in
      let g = forms_same qs (each_part ps k) ts us sorts made h in
      record { symbols = g.symbols; formula = shape-All (forms qs ts sorts made).formulas ∙ ap All g.formulas ∙ sym (shape-All (forms qs us sorts []).formulas) })

  any_same : (ps : List Formula) → AllByRecursion IsSame ps → IsSame (Any ps)
  any_same ps k =
      let is : part_of base (Any ps) ≡ part_step base (Formula-F.Any (map (part_of base) ps)) = search (rules, the_lemmas) in
      subst AddsSame (sym is) (λ ts us sorts made h.
      let qs = map (part_of base) ps in
      let g = forms_same qs (each_part ps k) ts us sorts made h in
      record { symbols = g.symbols; formula = shape-Any (forms qs ts sorts made).formulas ∙ ap Any g.formulas ∙ sym (shape-Any (forms qs us sorts []).formulas) })

  for_all_same : (bs : List Binder) (p : Formula) → IsSame p → IsSame (ForAll bs p)
  for_all_same bs p k =
      let is : part_of base (ForAll bs p) ≡ part_step base (Formula-F.ForAll bs (part_of base p)) = search (rules, the_lemmas) in
      subst AddsSame (sym is) (λ ts us sorts made h.
      let vs = variables (length sorts) (length bs) in
      let wider = sorts ++ map (λ (b : Binder). b.sort) bs in
      let g = k (ts ++ vs) (us ++ vs) wider made (both_alike ts us vs vs h refl) in
      let a = (part_of base p).form (ts ++ vs) wider made in
      let b = (part_of base p).form (us ++ vs) wider [] in
      record { symbols = g.symbols; formula = shape-ForAll bs a.formula ∙ ap (ForAll bs) g.formula ∙ sym (shape-ForAll bs b.formula) })

  exists_same : (bs : List Binder) (p : Formula) → IsSame p → IsSame (Exists bs p)
  exists_same bs p k =
      let is : part_of base (Exists bs p) ≡ part_step base (Formula-F.Exists bs (part_of base p)) = search (rules, the_lemmas) in
      let q = part_of base p in
      subst AddsSame (sym is) (λ ts us sorts made h.
      let vs = universals q.occurs ts (length sorts) in
      let ws = universals q.occurs us (length sorts) in
      let same : vs ≡ ws = universals_alike q.occurs ts us (length sorts) h in
      let more = map (skolem_symbol sorts ws) bs in
      let fresh : ℕ → List Term = λ n. skolem_terms ws (base + n) (length bs) in
      let one = k (ts ++ fresh (length made)) (us ++ fresh 0) sorts (made ++ more)
      (both_alike ts us (fresh (length made)) (fresh 0) h (skolem_alike ws (base + length made) (base + 0) (length bs))) in
      let other = k (us ++ fresh 0) (us ++ fresh 0) sorts more refl in
      let rest = (q.form (us ++ fresh 0) sorts []).made in
      let grown : Grows made (below base bs q ws ts sorts made) (below base bs q ws us sorts []) = record {
        symbols = one.symbols ∙ append_assoc made more rest ∙ ap (λ (xs : List Symbol). made ++ xs) (sym other.symbols);
        formula = one.formula ∙ sym other.formula;
      } in
      subst (λ (xs : List ℕ). Grows made (below base bs q xs ts sorts made) (below base bs q ws us sorts [])) (sym same) grown)

  layer : (y : Formula-F ((f : Formula) × IsSame f)) → IsSame (roll-Formula (map-Formula ((f : Formula) × IsSame f) Formula (λ e. e.0) y))
  layer Formula-F.True = subst IsSame (sym rolls-True) (constant_same True True (λ x. false) (search (rules, the_lemmas)))
  layer Formula-F.False = subst IsSame (sym rolls-False) (constant_same False False (λ x. false) (search (rules, the_lemmas)))
  layer (Formula-F.Holds k post args) = subst IsSame (sym (rolls-Holds k post args)) (holds_same k post args)
  layer (Formula-F.Equal a b) = subst IsSame (sym (rolls-Equal a b)) (equal_same a b)
  layer (Formula-F.Not p) = subst IsSame (sym (rolls-Not p.0)) (not_same p.0 p.1)
  layer (Formula-F.All ps) = subst IsSame (sym (rolls-All (map (λ e. e.0) ps))) (all_same (map (λ e. e.0) ps) (each-pairs IsSame ps))
  layer (Formula-F.Any ps) = subst IsSame (sym (rolls-Any (map (λ e. e.0) ps))) (any_same (map (λ e. e.0) ps) (each-pairs IsSame ps))
  layer (Formula-F.Implies p q) = subst IsSame (sym (rolls-Implies p.0 q.0))
      (constant_same (Implies p.0 q.0) True (λ x. (part_of base p.0).occurs x || (part_of base q.0).occurs x) (search (rules, the_lemmas)))
  layer (Formula-F.Iff p q) = subst IsSame (sym (rolls-Iff p.0 q.0))
      (constant_same (Iff p.0 q.0) True (λ x. (part_of base p.0).occurs x || (part_of base q.0).occurs x) (search (rules, the_lemmas)))
  layer (Formula-F.ForAll bs p) = subst IsSame (sym (rolls-ForAll bs p.0)) (for_all_same bs p.0 p.1)
  layer (Formula-F.Exists bs p) = subst IsSame (sym (rolls-Exists bs p.0)) (exists_same bs p.0 p.1)

  is_same : (f : Formula) → IsSame f
  is_same = ind-Formula IsSame (λ x y is. subst (λ z. IsSame (roll-Formula z)) is (layer y))

  -- the Skolem form of a sentence by itself: its symbols, and the sorts of its pieces' variables
  abbrev pub alone : Formula → Form
  alone f = (part_of base f).form [] [] []

  abbrev pub symbols_of : Formula → List Symbol
  symbols_of f = (alone f).made

  abbrev pub shapes_of : Formula → List (List ℕ)
  shapes_of f = vars_of (alone f).formula

  vars_append : (xs ys : List Piece) → map (λ (p : Piece). p.vars) (xs ++ ys) ≡ map (λ (p : Piece). p.vars) xs ++ map (λ (p : Piece). p.vars) ys
  vars_append xs ys = map-append (λ (p : Piece). p.vars) xs ys

  pub made_apart : (fs : List Formula) (made : List Symbol) → (forms (map (part_of base) fs) [] [] made).made ≡ made ++ flat_map symbols_of fs
  made_apart [] made = sym (append-nil made)
  made_apart (f ∷ fs) made =
      let after = ((part_of base f).form [] [] made).made in
      made_apart fs after ∙ ap (λ (xs : List Symbol). xs ++ flat_map symbols_of fs) (is_same f [] [] [] made refl).symbols
      ∙ append_assoc made (symbols_of f) (flat_map symbols_of fs)

  pub vars_apart : (fs : List Formula) (made : List Symbol)
      → map (λ (p : Piece). p.vars) (flat_map (pieces_of 0) (forms (map (part_of base) fs) [] [] made).formulas) ≡ flat_map shapes_of fs
  vars_apart [] made = refl
  vars_apart (f ∷ fs) made =
      let here = (part_of base f).form [] [] made in
      let rest = flat_map (pieces_of 0) (forms (map (part_of base) fs) [] [] here.made).formulas in
      vars_append (pieces_of 0 here.formula) rest
      ∙ ap (λ (xs : List (List ℕ)). xs ++ map (λ (p : Piece). p.vars) rest) (vars_alike here.formula (alone f).formula (is_same f [] [] [] made refl).formula)
      ∙ ap (λ (xs : List (List ℕ)). shapes_of f ++ xs) (vars_apart fs here.made)
