-- Trees of the same names, each in its text, stand for the same formula, and break rules or none alike.
use Rattle.std.specs.Prelude.{◌≡◌, ℕ, suc, Bool, true, false, ◌||◌, List, [], ◌∷◌, ◌++◌, length, map, drop, Option}
use Rattle.std.proofs.Common.{refl, sym, ap, subst, ◌∙◌, rules}
use Rattle.std.proofs.lemmas.List.{length-map}
use Rattle.sw_logic.specs.declared.syntax.Binder as logic
use Rattle.sw_logic.specs.declared.syntax.Term.{Term}
use Rattle.sw_logic.specs.declared.syntax.Formula.{Formula}
use Rattle.sw_logic.specs.declared.syntax.Formula.TheVariants as formula
use Rattle.sw_trees.specs.declared.words.Word.{Word}
use Rattle.sw_trees.specs.declared.tree.Binder.{Binder}
use Rattle.sw_trees.specs.declared.tree.TermTree as term_trees
use Rattle.sw_trees.specs.declared.tree.TermTree.{TermTree}
use Rattle.sw_trees.specs.declared.tree.TermTree.TheVariants as term
use Rattle.sw_trees.specs.declared.tree.Tree as trees
use Rattle.sw_trees.specs.declared.tree.Tree.{Tree}
use Rattle.sw_trees.specs.declared.tree.Tree.TheVariants as tree
use Rattle.sw_text.specs.declared.names.Rule.{Rule}
use Rattle.sw_text.specs.declared.names.Violation.{Violation}
use Rattle.sw_text.specs.declared.names.Wanted.{Wanted}
use Rattle.sw_text.specs.declared.names.Head.{Head}
use Rattle.sw_text.specs.Names.{Around, Scope, head_of, head_by, head_tests, head_faults, head_sorts, head_gives, args_faults, term_faults, term_read, term_by, first_word, right_wanted, atom_by, atom_read, faults, formula_read, binder_faults, binders_faults, bound, bytes_at, sort_number, symbol_number, number_or_0, is_none, is_declared, is_some_number, variable_number, broken, quantified, next_wanted}
use Rattle.sw_readback.specs.Formulas.{with_text}
use Rattle.sw_text.specs.Resolving.{equal_faults, all_faults, all_read, body_faults, body_read}
use Rattle.sw_text.proofs.Breaking.{term_faults_of, term_read_of}
use Rattle.sw_text.proofs.Folding.{faults_Atom, read_Atom, faults_Equal, read_Equal, faults_Implies, faults_Iff}
use Rattle.sw_text.proofs.SortedTerms.{apart}
use Rattle.sw_readback.proofs.Tidy.{SameBytes, SameTerm, SameTerms, SameBinder, SameBinders, Same, SameRun}
use Rattle.sw_readback.proofs.Measured.{two}

pub broken_anywhere : (at to : ℕ) (tests : List (Bool × Rule)) → broken at tests ≡ [] → broken to tests ≡ []
broken_anywhere at to [] e = refl
broken_anywhere at to ((true, rule) ∷ rest) e = cc
broken_anywhere at to ((false, rule) ∷ rest) e = broken_anywhere at to rest e

pub none : (xs ys : List Violation) → xs ≡ [] → ys ≡ [] → xs ++ ys ≡ []
none xs ys d e = ap (λ zs. zs ++ ys) d ∙ e

module _ (a : Around) (T : List ℕ) where
  abbrev b : Around
  b = with_text a T

  abbrev head_named : Scope → List ℕ → Option Head
  head_named scope name = head_by (variable_number scope name) (symbol_number a name)

  head_same : (scope : Scope) (w u : Word) → SameBytes a.text T w u → head_of b scope u ≡ head_of a scope w
  head_same scope w u e = ap (head_named scope) (sym e)

  head_fine : (scope : Scope) (w u : Word) (primed : Bool) (n m : ℕ) (wanted : Wanted) → SameBytes a.text T w u → n ≡ m → head_faults a scope w primed n wanted ≡ [] → head_faults b scope u primed m wanted ≡ []
  head_fine scope w u primed n m wanted e k h =
      let moved = broken_anywhere w.token.at u.token.at (head_tests a scope (head_of a scope w) primed n wanted) h in
      let counted : broken u.token.at (head_tests a scope (head_of a scope w) primed m wanted) ≡ [] = subst (λ l. broken u.token.at (head_tests a scope (head_of a scope w) primed l wanted) ≡ []) k moved in
      subst (λ name. broken u.token.at (head_tests a scope (head_named scope name) primed m wanted) ≡ []) e counted

  module _ (scope : Scope) where
    pub named_faults : (d : Around) (w : Word) (primed : Bool) (wanted : Wanted) → term_faults d scope (term.Named w primed) wanted ≡ head_faults d scope w primed 0 wanted
    named_faults d w primed wanted = search (rules, term_trees.the_lemmas)

    pub named_read : (d : Around) (w : Word) (primed : Bool) → term_read d scope (term.Named w primed) ≡ term_by (head_of d scope w) primed []
    named_read d w primed = search (rules, term_trees.the_lemmas)

    pub named_atom : (d : Around) (w : Word) (primed : Bool) → atom_read d scope (term.Named w primed) ≡ atom_by (head_of d scope w) primed []
    named_atom d w primed = search (rules, term_trees.the_lemmas)

    pub applied_atom : (d : Around) (w : Word) (primed : Bool) (args : List TermTree) → atom_read d scope (term.Applied w primed args) ≡ atom_by (head_of d scope w) primed (map (term_read d scope) args)
    applied_atom d w primed args = search (rules, term_trees.the_lemmas)

    first_of_named : (w : Word) (primed : Bool) → first_word (term.Named w primed) ≡ w
    first_of_named w primed = search (rules, term_trees.the_lemmas)

    first_of_applied : (w : Word) (primed : Bool) (args : List TermTree) → first_word (term.Applied w primed args) ≡ w
    first_of_applied w primed args = search (rules, term_trees.the_lemmas)

    same_counts : {ts us : List TermTree} → SameTerms a.text T ts us → length ts ≡ length us
    same_counts SameTerms.no_terms = refl
    same_counts (SameTerms.more_terms h k) = ap (λ n. suc n) (same_counts k)

    mutual
      term_same : {t u : TermTree} → SameTerm a.text T t u → term_read b scope u ≡ term_read a scope t
      term_same (SameTerm.named {w = w} {u = u} primed e) =
          named_read b u primed ∙ ap (λ h. term_by h primed []) (head_same scope w u e) ∙ sym (named_read a w primed)
      term_same (SameTerm.applied {w = w} {u = u} {ts = ts} {us = us} primed e h) =
          term_read_of b scope u primed us ∙ two (λ g xs. term_by g primed xs) _ _ _ _ (head_same scope w u e) (terms_same h) ∙ sym (term_read_of a scope w primed ts)

      terms_same : {ts us : List TermTree} → SameTerms a.text T ts us → map (term_read b scope) us ≡ map (term_read a scope) ts
      terms_same SameTerms.no_terms = refl
      terms_same (SameTerms.more_terms h k) = two (λ (x : Term) (xs : List Term). x ∷ xs) _ _ _ _ (term_same h) (terms_same k)

    atom_same : {t u : TermTree} → SameTerm a.text T t u → atom_read b scope u ≡ atom_read a scope t
    atom_same (SameTerm.named {w = w} {u = u} primed e) =
        named_atom b u primed ∙ ap (λ h. atom_by h primed []) (head_same scope w u e) ∙ sym (named_atom a w primed)
    atom_same (SameTerm.applied {w = w} {u = u} {ts = ts} {us = us} primed e h) =
        applied_atom b u primed us ∙ two (λ g xs. atom_by g primed xs) _ _ _ _ (head_same scope w u e) (terms_same h) ∙ sym (applied_atom a w primed ts)

    wanted_same : {t u : TermTree} → SameTerm a.text T t u → right_wanted b scope u ≡ right_wanted a scope t
    wanted_same (SameTerm.named {w = w} {u = u} primed e) =
        ap (λ x. head_gives a scope (head_of b scope x)) (first_of_named u primed) ∙ ap (head_gives a scope) (head_same scope w u e) ∙ ap (λ x. head_gives a scope (head_of a scope x)) (sym (first_of_named w primed))
    wanted_same (SameTerm.applied {w = w} {u = u} {ts = ts} {us = us} primed e h) =
        ap (λ x. head_gives a scope (head_of b scope x)) (first_of_applied u primed us) ∙ ap (head_gives a scope) (head_same scope w u e) ∙ ap (λ x. head_gives a scope (head_of a scope x)) (sym (first_of_applied w primed ts))

    mutual
      term_fine : {t u : TermTree} → SameTerm a.text T t u → (wanted : Wanted) → term_faults a scope t wanted ≡ [] → term_faults b scope u wanted ≡ []
      term_fine (SameTerm.named {w = w} {u = u} primed e) wanted h =
          named_faults b u primed wanted ∙ head_fine scope w u primed 0 0 wanted e refl (sym (named_faults a w primed wanted) ∙ h)
      term_fine (SameTerm.applied {w = w} {u = u} {ts = ts} {us = us} primed e k) wanted h =
          let fs = map (term_faults a scope) ts in
          let gs = map (term_faults b scope) us in
          let both = apart (head_faults a scope w primed (length fs) wanted) (args_faults fs (head_sorts a (head_of a scope w))) (sym (term_faults_of a scope w primed ts wanted) ∙ h) in
          let count : length fs ≡ length gs = length-map ts (term_faults a scope) ∙ same_counts k ∙ sym (length-map us (term_faults b scope)) in
          let args = terms_fine k (head_sorts a (head_of a scope w)) both.1 in
          let args_here : args_faults gs (head_sorts b (head_of b scope u)) ≡ [] = subst (λ g. args_faults gs (head_sorts a g) ≡ []) (sym (head_same scope w u e)) args in
          term_faults_of b scope u primed us wanted ∙ none _ _ (head_fine scope w u primed (length fs) (length gs) wanted e count both.0) args_here

      terms_fine : {ts us : List TermTree} → SameTerms a.text T ts us → (sorts : List ℕ) → args_faults (map (term_faults a scope) ts) sorts ≡ [] → args_faults (map (term_faults b scope) us) sorts ≡ []
      terms_fine SameTerms.no_terms sorts h = refl
      terms_fine (SameTerms.more_terms {t = t} {u = u} {ts = ts} {us = us} e k) sorts h =
          let both = apart (term_faults a scope t (next_wanted sorts)) (args_faults (map (term_faults a scope) ts) (drop 1 sorts)) h in
          none (term_faults b scope u (next_wanted sorts)) (args_faults (map (term_faults b scope) us) (drop 1 sorts)) (term_fine e (next_wanted sorts) both.0) (terms_fine k (drop 1 sorts) both.1)

    equation_fine : {t u t' u' : TermTree} → SameTerm a.text T t t' → SameTerm a.text T u u' → equal_faults a scope t u ≡ [] → equal_faults b scope t' u' ≡ []
    equation_fine {t = t} {u = u} {t' = t'} {u' = u'} h k e =
        let both = apart (term_faults a scope t Wanted.Value) (term_faults a scope u (right_wanted a scope t)) e in
        none _ _ (term_fine h Wanted.Value both.0) (ap (term_faults b scope u') (wanted_same h) ∙ term_fine k (right_wanted a scope t) both.1)

  bound_same : (x y : Binder) → SameBinder a.text T x y → bound b y ≡ bound a x
  bound_same x y h = two (λ (name sort : List ℕ). let v : logic.Binder = record { name = name; sort = number_or_0 (sort_number a sort) } in v) _ _ _ _ (sym h.name) (sym h.sort)

  pub all_bound_same : {bs cs : List Binder} → SameBinders a.text T bs cs → map (bound b) cs ≡ map (bound a) bs
  all_bound_same SameBinders.no_binders = refl
  all_bound_same (SameBinders.more_binders {b = x} {c = y} h k) = two (λ (z : logic.Binder) (zs : List logic.Binder). z ∷ zs) _ _ _ _ (bound_same x y h) (all_bound_same k)

  abbrev name_tests : Scope → List ℕ → List (Bool × Rule)
  name_tests scope name = (is_declared a name || is_some_number (variable_number scope name), Rule.Twice) ∷ []

  abbrev sort_tests : List ℕ → List (Bool × Rule)
  sort_tests sort = (is_none (sort_number a sort), Rule.Unknown) ∷ []

  binder_fine : (scope : Scope) (x y : Binder) → SameBinder a.text T x y → binder_faults a scope x ≡ [] → binder_faults b scope y ≡ []
  binder_fine scope x y h e =
      let both = apart (broken x.name.token.at (name_tests scope (bytes_at a.text x.name))) (broken x.sort.token.at (sort_tests (bytes_at a.text x.sort))) e in
      none (broken y.name.token.at (name_tests scope (bytes_at T y.name))) (broken y.sort.token.at (sort_tests (bytes_at T y.sort)))
      (subst (λ name. broken y.name.token.at (name_tests scope name) ≡ []) h.name (broken_anywhere x.name.token.at y.name.token.at (name_tests scope (bytes_at a.text x.name)) both.0))
      (subst (λ sort. broken y.sort.token.at (sort_tests sort) ≡ []) h.sort (broken_anywhere x.sort.token.at y.sort.token.at (sort_tests (bytes_at a.text x.sort)) both.1))

  pub binders_fine : {bs cs : List Binder} → (scope : Scope) → SameBinders a.text T bs cs → binders_faults a scope bs ≡ [] → binders_faults b scope cs ≡ []
  binders_fine scope SameBinders.no_binders e = refl
  binders_fine scope (SameBinders.more_binders {b = x} {c = y} {bs = bs} {cs = cs} h k) e =
      let both = apart (binder_faults a scope x) (binders_faults a (scope ++ bound a x ∷ []) bs) e in
      none (binder_faults b scope y) (binders_faults b (scope ++ bound b y ∷ []) cs) (binder_fine scope x y h both.0)
      (subst (λ z. binders_faults b (scope ++ z ∷ []) cs ≡ []) (sym (bound_same x y h)) (binders_fine (scope ++ bound a x ∷ []) k both.1))

  read_constant : (d : Around) (value : Bool) (scope : Scope) → formula_read d (tree.Constant value) scope ≡ formula_read a (tree.Constant value) scope
  read_constant d true scope = let f : formula_read d (tree.Constant true) scope ≡ formula.True = search (rules, trees.the_lemmas) in let g : formula_read a (tree.Constant true) scope ≡ formula.True = search (rules, trees.the_lemmas) in f ∙ sym g
  read_constant d false scope = let f : formula_read d (tree.Constant false) scope ≡ formula.False = search (rules, trees.the_lemmas) in let g : formula_read a (tree.Constant false) scope ≡ formula.False = search (rules, trees.the_lemmas) in f ∙ sym g

  faults_Constant : (d : Around) (value : Bool) (scope : Scope) → faults d (tree.Constant value) scope ≡ []
  faults_Constant d value scope = search (rules, trees.the_lemmas)

  pub faults_Not : (d : Around) (p : Tree) (scope : Scope) → faults d (tree.Not p) scope ≡ faults d p scope
  faults_Not d p scope = search (rules, trees.the_lemmas)

  pub read_Not : (d : Around) (p : Tree) (scope : Scope) → formula_read d (tree.Not p) scope ≡ formula.Not (formula_read d p scope)
  read_Not d p scope = search (rules, trees.the_lemmas)

  pub faults_All : (d : Around) (ps : List Tree) (scope : Scope) → faults d (tree.All ps) scope ≡ all_faults d ps scope
  faults_All d ps scope = search (rules, trees.the_lemmas)

  pub read_All : (d : Around) (ps : List Tree) (scope : Scope) → formula_read d (tree.All ps) scope ≡ formula.All (all_read d ps scope)
  read_All d ps scope = search (rules, trees.the_lemmas)

  pub faults_Any : (d : Around) (ps : List Tree) (scope : Scope) → faults d (tree.Any ps) scope ≡ all_faults d ps scope
  faults_Any d ps scope = search (rules, trees.the_lemmas)

  pub read_Any : (d : Around) (ps : List Tree) (scope : Scope) → formula_read d (tree.Any ps) scope ≡ formula.Any (all_read d ps scope)
  read_Any d ps scope = search (rules, trees.the_lemmas)

  pub read_Implies : (d : Around) (p q : Tree) (scope : Scope) → formula_read d (tree.Implies p q) scope ≡ formula.Implies (formula_read d p scope) (formula_read d q scope)
  read_Implies d p q scope = search (rules, trees.the_lemmas)

  pub read_Iff : (d : Around) (p q : Tree) (scope : Scope) → formula_read d (tree.Iff p q) scope ≡ formula.Iff (formula_read d p scope) (formula_read d q scope)
  read_Iff d p q scope = search (rules, trees.the_lemmas)

  pub faults_Quantified : (d : Around) (universal : Bool) (bs : List Binder) (p : Tree) (scope : Scope) → faults d (tree.Quantified universal bs p) scope ≡ body_faults d bs p scope
  faults_Quantified d universal bs p scope = search (rules, trees.the_lemmas)

  pub read_Quantified : (d : Around) (universal : Bool) (bs : List Binder) (p : Tree) (scope : Scope) → formula_read d (tree.Quantified universal bs p) scope ≡ body_read d universal bs p scope
  read_Quantified d universal bs p scope = search (rules, trees.the_lemmas)

  mutual
    pub formula_same : {p q : Tree} → Same a.text T p q → (scope : Scope) → formula_read b q scope ≡ formula_read a p scope
    formula_same (Same.constant value) scope = read_constant b value scope
    formula_same (Same.atom {t = t} {u = u} h) scope = read_Atom b scope u ∙ atom_same scope h ∙ sym (read_Atom a scope t)
    formula_same (Same.equal {t = t} {u = u} {t' = t'} {u' = u'} h k) scope = read_Equal b scope t' u' ∙ two formula.Equal _ _ _ _ (term_same scope h) (term_same scope k) ∙ sym (read_Equal a scope t u)
    formula_same (Same.negated {p = p} {q = q} h) scope = read_Not b q scope ∙ ap formula.Not (formula_same h scope) ∙ sym (read_Not a p scope)
    formula_same (Same.all {ps = ps} {qs = qs} h) scope = read_All b qs scope ∙ ap formula.All (run_same h scope) ∙ sym (read_All a ps scope)
    formula_same (Same.any {ps = ps} {qs = qs} h) scope = read_Any b qs scope ∙ ap formula.Any (run_same h scope) ∙ sym (read_Any a ps scope)
    formula_same (Same.implies {p = p} {q = q} {p' = p'} {q' = q'} h k) scope = read_Implies b p' q' scope ∙ two formula.Implies _ _ _ _ (formula_same h scope) (formula_same k scope) ∙ sym (read_Implies a p q scope)
    formula_same (Same.iff {p = p} {q = q} {p' = p'} {q' = q'} h k) scope = read_Iff b p' q' scope ∙ two formula.Iff _ _ _ _ (formula_same h scope) (formula_same k scope) ∙ sym (read_Iff a p q scope)
    formula_same (Same.quantified {bs = bs} {cs = cs} {p = p} {q = q} universal h k) scope =
        read_Quantified b universal cs q scope
        ∙ ap (λ (vs : List logic.Binder). quantified universal vs (formula_read b q (scope ++ vs))) (all_bound_same h)
        ∙ ap (quantified universal (map (bound a) bs)) (formula_same k (scope ++ map (bound a) bs))
        ∙ sym (read_Quantified a universal bs p scope)

    run_same : {ps qs : List Tree} → SameRun a.text T ps qs → (scope : Scope) → all_read b qs scope ≡ all_read a ps scope
    run_same SameRun.no_more scope = refl
    run_same (SameRun.one_more h k) scope = two (λ (x : Formula) (xs : List Formula). x ∷ xs) _ _ _ _ (formula_same h scope) (run_same k scope)

  mutual
    pub formula_fine : {p q : Tree} → Same a.text T p q → (scope : Scope) → faults a p scope ≡ [] → faults b q scope ≡ []
    formula_fine (Same.constant value) scope e = faults_Constant b value scope
    formula_fine (Same.atom {t = t} {u = u} h) scope e = faults_Atom b scope u ∙ term_fine scope h Wanted.Atom (sym (faults_Atom a scope t) ∙ e)
    formula_fine (Same.equal {t = t} {u = u} {t' = t'} {u' = u'} h k) scope e = faults_Equal b scope t' u' ∙ equation_fine scope h k (sym (faults_Equal a scope t u) ∙ e)
    formula_fine (Same.negated {p = p} {q = q} h) scope e = faults_Not b q scope ∙ formula_fine h scope (sym (faults_Not a p scope) ∙ e)
    formula_fine (Same.all {ps = ps} {qs = qs} h) scope e = faults_All b qs scope ∙ run_fine h scope (sym (faults_All a ps scope) ∙ e)
    formula_fine (Same.any {ps = ps} {qs = qs} h) scope e = faults_Any b qs scope ∙ run_fine h scope (sym (faults_Any a ps scope) ∙ e)
    formula_fine (Same.implies {p = p} {q = q} {p' = p'} {q' = q'} h k) scope e =
        let both = apart (faults a p scope) (faults a q scope) (sym (faults_Implies a scope p q) ∙ e) in
        faults_Implies b scope p' q' ∙ none _ _ (formula_fine h scope both.0) (formula_fine k scope both.1)
    formula_fine (Same.iff {p = p} {q = q} {p' = p'} {q' = q'} h k) scope e =
        let both = apart (faults a p scope) (faults a q scope) (sym (faults_Iff a scope p q) ∙ e) in
        faults_Iff b scope p' q' ∙ none _ _ (formula_fine h scope both.0) (formula_fine k scope both.1)
    formula_fine (Same.quantified {bs = bs} {cs = cs} {p = p} {q = q} universal h k) scope e =
        let both = apart (binders_faults a scope bs) (faults a p (scope ++ map (bound a) bs)) (sym (faults_Quantified a universal bs p scope) ∙ e) in
        faults_Quantified b universal cs q scope
        ∙ none _ _ (binders_fine scope h both.0) (ap (λ (vs : List logic.Binder). faults b q (scope ++ vs)) (all_bound_same h) ∙ formula_fine k (scope ++ map (bound a) bs) both.1)

    run_fine : {ps qs : List Tree} → SameRun a.text T ps qs → (scope : Scope) → all_faults a ps scope ≡ [] → all_faults b qs scope ≡ []
    run_fine SameRun.no_more scope e = refl
    run_fine (SameRun.one_more {p = p} {q = q} {ps = ps} {qs = qs} h k) scope e =
        let both = apart (faults a p scope) (all_faults a ps scope) e in
        none (faults b q scope) (all_faults b qs scope) (formula_fine h scope both.0) (run_fine k scope both.1)
