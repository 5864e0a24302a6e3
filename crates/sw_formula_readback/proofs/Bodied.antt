-- The tree of a template's body, over a text that has the names.
use Rattle.std.specs.Prelude.{◌≡◌, ◌+◌, ◌<◌, ◌≤◌, max, ℕ, Bool, true, false, not, List, [], ◌∷◌, ◌++◌, length, map, slice_get, Option, Some, None, codes}
use Rattle.std.specs.List.{AllByRecursion}
use Rattle.std.proofs.Common.{rules, refl, sym, ap, subst, ◌∙◌, arith}
use Rattle.std.proofs.lemmas.Bool.{and_parts, eqb-true, false≢true}
use Rattle.sw_logic.specs.declared.syntax.Symbol.{Symbol}
use Rattle.sw_logic.specs.declared.syntax.Signature.{Signature}
use Rattle.sw_logic.specs.declared.syntax.Binder as logic
use Rattle.sw_logic.specs.declared.syntax.Term.{Term}
use Rattle.sw_logic.specs.declared.syntax.Formula.{Formula}
use Rattle.sw_logic.specs.declared.syntax.Formula.TheVariants.{Holds, Equal, Not, All, Any}
use Rattle.sw_logic.specs.Canonical.{Shown, bare, in_brackets, equation}
use Rattle.sw_logic.specs.Sorted.{gives_value, well_sorted, is_atom, sorts_match, same_sort, sort_of, sorts_of}
use Rattle.sw_logic.specs.Truth.{greatest}
use Rattle.sw_meaning.specs.Space.{depth_of, all_of, any_of}
use Rattle.sw_meaning.specs.Space as space
use Rattle.sw_meaning.proofs.Equations.{sorted-Not, sorted-Holds, sorted-Equal}
use Rattle.sw_truth.specs.Sorting.{HasSort, HaveSorts}
use Rattle.sw_truth.proofs.Deriving.{terms_sorted, term_sorted}
use Rattle.sw_trees.specs.declared.tree.TermTree as term_trees
use Rattle.sw_trees.specs.declared.tree.TermTree.{TermTree}
use Rattle.sw_trees.specs.declared.tree.TermTree.TheVariants as term
use Rattle.sw_trees.specs.declared.tree.Tree as trees
use Rattle.sw_trees.specs.declared.tree.Tree.{Tree}
use Rattle.sw_trees.specs.declared.tree.Tree.TheVariants as tree
use Rattle.sw_trees.specs.Measures.{Nestings, bare as bare_count, bracketed}
use Rattle.sw_trees.specs.declared.words.Word.{Word}
use Rattle.sw_text.specs.declared.names.Wanted.{Wanted}
use Rattle.sw_text.specs.Names.{Around, Scope, head_of, head_sorts, args_faults, term_faults, term_read, atom_by, atom_read, faults, formula_read, symbol_sorts, right_wanted}
use Rattle.sw_text.specs.Resolving.{all_faults, all_read}
use Rattle.sw_text.proofs.Breaking.{term_faults_of}
use Rattle.sw_readback.proofs.Tidy.{TidyTerm, TidyTerms, Tidy, TidyRun, head_text, level}
use Rattle.sw_formula_readback.proofs.Trees.{AreWritten, ScopeWritten, around, term_tree, terms_tree, symbol_head, symbol_fine, atom_fits, named_name, named_faults}

greatest_least : (d : ℕ) (ts : List Term) → AllByRecursion (λ t. depth_of t ≤ d) ts → greatest (map depth_of ts) ≤ d
greatest_least d [] h = omega arith
greatest_least d (t ∷ ts) h = let one = h.0 in let more = greatest_least d ts h.1 in omega (arith, one, more)

-- a symbol that an atom may have
symbol_of : (o : Option Symbol) (found : List (Option ℕ)) → is_atom o true found ≡ true → (s : Symbol) × (o ≡ Some s) × (gives_value s.kind ≡ false) × (sorts_match s.args found ≡ true)
symbol_of None found e = absurd (false≢true e)
symbol_of (Some s) found e = let parts = and_parts (not (gives_value s.kind)) (sorts_match s.args found) e in (s, refl, by (gives_value s.kind) parts.0, parts.1)
  where
    by : (b : Bool) → not b ≡ true → b ≡ false
    by true e = sym e
    by false e = refl

same_sorts : (o p : Option ℕ) → same_sort o p ≡ true → (sort : ℕ) × (o ≡ Some sort) × (p ≡ Some sort)
same_sorts None p e = absurd (false≢true e)
same_sorts (Some sort) None e = absurd (false≢true e)
same_sorts (Some sort) (Some found) e = (sort, refl, ap Some (sym (eqb-true sort found e)))

module _ (sig : Signature) (A : List ℕ) where
  abbrev a : Around
  a = around sig A

  -- a tree of the formula in a scope, whose text opens at most so many nestings
  pub record FormulaOf (most : ℕ) (scope : Scope) (f : Formula) : Type 0 where
    pub tree : Tree
    pub shown : Shown
    pub count : Nestings
    pub tidy : Tidy A 0 (length scope) tree shown count
    pub fine : faults a tree scope ≡ []
    pub is : formula_read a tree scope ≡ f
    pub alone : count.alone ≤ most
    pub operand : count.operand ≤ most
    pub negated : count.negated ≤ most

  pub wider : (n m : ℕ) (scope : Scope) (f : Formula) → n ≤ m → FormulaOf n scope f → FormulaOf m scope f
  wider n m scope f h x =
      let one = x.alone in
      let two = x.operand in
      let three = x.negated in
      record { tree = x.tree; shown = x.shown; count = x.count; tidy = x.tidy; fine = x.fine; is = x.is; alone = omega (arith, h, one); operand = omega (arith, h, two); negated = omega (arith, h, three) }

  module _ (scope : Scope) where
    faults_Atom : (t : TermTree) → faults a (tree.Atom t) scope ≡ term_faults a scope t Wanted.Atom
    faults_Atom t = search (rules, trees.the_lemmas)

    read_Atom : (t : TermTree) → formula_read a (tree.Atom t) scope ≡ atom_read a scope t
    read_Atom t = search (rules, trees.the_lemmas)

    faults_Equal : (t u : TermTree) → faults a (tree.Equal t u) scope ≡ term_faults a scope t Wanted.Value ++ term_faults a scope u (right_wanted a scope t)
    faults_Equal t u = search (rules, trees.the_lemmas)

    read_Equal : (t u : TermTree) → formula_read a (tree.Equal t u) scope ≡ Equal (term_read a scope t) (term_read a scope u)
    read_Equal t u = search (rules, trees.the_lemmas)

    faults_Not : (p : Tree) → faults a (tree.Not p) scope ≡ faults a p scope
    faults_Not p = search (rules, trees.the_lemmas)

    read_Not : (p : Tree) → formula_read a (tree.Not p) scope ≡ Not (formula_read a p scope)
    read_Not p = search (rules, trees.the_lemmas)

    faults_All : (ps : List Tree) → faults a (tree.All ps) scope ≡ all_faults a ps scope
    faults_All ps = search (rules, trees.the_lemmas)

    read_All : (ps : List Tree) → formula_read a (tree.All ps) scope ≡ All (all_read a ps scope)
    read_All ps = search (rules, trees.the_lemmas)

    faults_Any : (ps : List Tree) → faults a (tree.Any ps) scope ≡ all_faults a ps scope
    faults_Any ps = search (rules, trees.the_lemmas)

    read_Any : (ps : List Tree) → formula_read a (tree.Any ps) scope ≡ Any (all_read a ps scope)
    read_Any ps = search (rules, trees.the_lemmas)

    named_atom : (w : Word) → atom_read a scope (term.Named w false) ≡ atom_by (head_of a scope w) false []
    named_atom w = search (rules, term_trees.the_lemmas)

    applied_atom : (w : Word) (args : List TermTree) → atom_read a scope (term.Applied w false args) ≡ atom_by (head_of a scope w) false (map (term_read a scope) args)
    applied_atom w args = search (rules, term_trees.the_lemmas)

    not_tree : (n : ℕ) (f : Formula) → FormulaOf n scope f → FormulaOf (n + 1) scope (Not f)
    not_tree n f x =
        let three = x.negated in
        record {
          tree = tree.Not x.tree;
          shown = bare x.shown.negated;
          count = bare_count x.count.negated;
          tidy = Tidy.negated x.tidy;
          fine = faults_Not x.tree ∙ x.fine;
          is = read_Not x.tree ∙ ap Not x.is;
          alone = omega (arith, three);
          operand = omega (arith, three);
          negated = omega (arith, three);
        }

    -- several, each with a sign before it
    record RunOf (most : ℕ) (sign : List ℕ) (fs : List Formula) : Type 0 where
      pub trees : List Tree
      pub text : List ℕ
      pub count : ℕ
      pub run : TidyRun A sign 0 (length scope) trees text count
      pub fine : all_faults a trees scope ≡ []
      pub are : all_read a trees scope ≡ fs
      pub few : count ≤ most

    run_tree : (n : ℕ) (sign : List ℕ) (fs : List Formula) → AllByRecursion (FormulaOf n scope) fs → RunOf n sign fs
    run_tree n sign [] h = record { trees = []; text = []; count = 0; run = TidyRun.no_more; fine = refl; are = refl; few = omega arith }
    run_tree n sign (f ∷ fs) h =
        let x = h.0 in
        let rest = run_tree n sign fs h.1 in
        let one = x.operand in
        let two = rest.few in
        record {
          trees = x.tree ∷ rest.trees;
          text = sign ++ (x.shown.operand ++ rest.text);
          count = max x.count.operand rest.count;
          run = TidyRun.one_more x.tidy rest.run;
          fine = ap (λ vs. vs ++ all_faults a rest.trees scope) x.fine ∙ rest.fine;
          are = ap (λ g. g ∷ all_read a rest.trees scope) x.is ∙ ap (λ gs. f ∷ gs) rest.are;
          few = omega (arith, one, two);
        }

    pub all_tree : (n : ℕ) (fs : List Formula) → 0 < length fs → AllByRecursion (FormulaOf n scope) fs → FormulaOf (n + 2) scope (all_of fs)
    all_tree n [] some h = absurd (omega (arith, some))
    all_tree n (f ∷ []) some h = wider n (n + 2) scope f (omega arith) h.0
    all_tree n (f ∷ g ∷ fs) some h =
        let x = h.0 in
        let y = h.1.0 in
        let rest = run_tree n (codes " & ") fs h.1.1 in
        let one = x.operand in
        let two = y.operand in
        let three = rest.few in
        record {
          tree = tree.All (x.tree ∷ y.tree ∷ rest.trees);
          shown = in_brackets (x.shown.operand ++ (codes " & " ++ (y.shown.operand ++ rest.text)));
          count = bracketed (max x.count.operand (max y.count.operand rest.count));
          tidy = Tidy.all x.tidy (TidyRun.one_more y.tidy rest.run);
          fine = faults_All (x.tree ∷ y.tree ∷ rest.trees) ∙ (ap (λ vs. vs ++ all_faults a (y.tree ∷ rest.trees) scope) x.fine ∙ (ap (λ vs. vs ++ all_faults a rest.trees scope) y.fine ∙ rest.fine));
          is = read_All (x.tree ∷ y.tree ∷ rest.trees)
              ∙ (ap (λ g. All (g ∷ all_read a (y.tree ∷ rest.trees) scope)) x.is ∙ (ap (λ h. All (f ∷ h ∷ all_read a rest.trees scope)) y.is ∙ ap (λ hs. All (f ∷ g ∷ hs)) rest.are));
          alone = omega (arith, one, two, three);
          operand = omega (arith, one, two, three);
          negated = omega (arith, one, two, three);
        }

    pub any_tree : (n : ℕ) (fs : List Formula) → 0 < length fs → AllByRecursion (FormulaOf n scope) fs → FormulaOf (n + 2) scope (any_of fs)
    any_tree n [] some h = absurd (omega (arith, some))
    any_tree n (f ∷ []) some h = wider n (n + 2) scope f (omega arith) h.0
    any_tree n (f ∷ g ∷ fs) some h =
        let x = h.0 in
        let y = h.1.0 in
        let rest = run_tree n (codes " | ") fs h.1.1 in
        let one = x.operand in
        let two = y.operand in
        let three = rest.few in
        record {
          tree = tree.Any (x.tree ∷ y.tree ∷ rest.trees);
          shown = in_brackets (x.shown.operand ++ (codes " | " ++ (y.shown.operand ++ rest.text)));
          count = bracketed (max x.count.operand (max y.count.operand rest.count));
          tidy = Tidy.any x.tidy (TidyRun.one_more y.tidy rest.run);
          fine = faults_Any (x.tree ∷ y.tree ∷ rest.trees) ∙ (ap (λ vs. vs ++ all_faults a (y.tree ∷ rest.trees) scope) x.fine ∙ (ap (λ vs. vs ++ all_faults a rest.trees scope) y.fine ∙ rest.fine));
          is = read_Any (x.tree ∷ y.tree ∷ rest.trees)
              ∙ (ap (λ g. Any (g ∷ all_read a (y.tree ∷ rest.trees) scope)) x.is ∙ (ap (λ h. Any (f ∷ h ∷ all_read a rest.trees scope)) y.is ∙ ap (λ hs. Any (f ∷ g ∷ hs)) rest.are));
          alone = omega (arith, one, two, three);
          operand = omega (arith, one, two, three);
          negated = omega (arith, one, two, three);
        }

    -- ---- atoms and literals

    module _ (symbols : AreWritten sig A) (variables : ScopeWritten sig A scope) where
      abbrev sorts : List ℕ
      sorts = map (λ (b : logic.Binder). b.sort) scope

      atom_tree : (d k : ℕ) (s : Symbol) → slice_get sig.symbols k ≡ Some s → gives_value s.kind ≡ false → (us : List TermTree) (x : List ℕ) (n : ℕ) → TidyTerms A us x n → args_faults (map (term_faults a scope) us) s.args ≡ []
          → length (map (term_faults a scope) us) ≡ length s.args → n ≤ d → FormulaOf (d + 2) scope (Holds k false (map (term_read a scope) us))
      atom_tree d k s e g us x n TidyTerms.no_terms fine number deep =
          let w = symbols.symbol k s e in
          let head = symbol_head sig A symbols scope variables k s e w.word w.is in
          record {
            tree = tree.Atom (term.Named w.word false);
            shown = bare (head_text A w.word false);
            count = bare_count 0;
            tidy = Tidy.atom (TidyTerm.named false (named_name sig A symbols scope variables w));
            fine = faults_Atom (term.Named w.word false) ∙ (named_faults sig A symbols scope variables w.word Wanted.Atom ∙ symbol_fine sig A symbols scope variables k s e w.word head 0 number Wanted.Atom (atom_fits sig A symbols scope variables s.kind s.gives g));
            is = read_Atom (term.Named w.word false) ∙ (named_atom w.word ∙ ap (λ h. atom_by h false []) head);
            alone = omega arith;
            operand = omega arith;
            negated = omega arith;
          }
      atom_tree d k s e g us x n (TidyTerms.more_terms {t = t} {ts = ts} {x = y} {more = more} {n = i} {m = j} p q) fine number deep =
          let w = symbols.symbol k s e in
          let head = symbol_head sig A symbols scope variables k s e w.word w.is in
          let read : List Term = map (term_read a scope) (t ∷ ts) in
          record {
            tree = tree.Atom (term.Applied w.word false (t ∷ ts));
            shown = bare (head_text A w.word false ++ (codes "(" ++ (y ++ (more ++ codes ")"))));
            count = bare_count (max i j + 1);
            tidy = Tidy.atom (TidyTerm.applied false (named_name sig A symbols scope variables w) p q);
            fine = faults_Atom (term.Applied w.word false (t ∷ ts))
                ∙ (term_faults_of a scope w.word false (t ∷ ts) Wanted.Atom
                ∙ (ap (λ vs. vs ++ args_faults (map (term_faults a scope) (t ∷ ts)) (head_sorts a (head_of a scope w.word)))
                (symbol_fine sig A symbols scope variables k s e w.word head (length (map (term_faults a scope) (t ∷ ts))) number Wanted.Atom (atom_fits sig A symbols scope variables s.kind s.gives g))
                ∙ (ap (λ o. args_faults (map (term_faults a scope) (t ∷ ts)) (head_sorts a o)) head ∙ (ap (λ o. args_faults (map (term_faults a scope) (t ∷ ts)) (symbol_sorts o)) e ∙ fine))));
            is = read_Atom (term.Applied w.word false (t ∷ ts)) ∙ (applied_atom w.word (t ∷ ts) ∙ ap (λ h. atom_by h false read) head);
            alone = omega (arith, deep);
            operand = omega (arith, deep);
            negated = omega (arith, deep);
          }

      holds_tree : (d k : ℕ) (s : Symbol) (args : List Term) → slice_get sig.symbols k ≡ Some s → gives_value s.kind ≡ false → HaveSorts sig sorts args s.args → AllByRecursion (λ t. depth_of t ≤ d) args → FormulaOf (d + 2) scope (Holds k false args)
      holds_tree d k s args e g h deep =
          let all = terms_tree sig A symbols scope variables args s.args h in
          let one = all.deep in
          let two = greatest_least d args deep in
          subst (λ us. FormulaOf (d + 2) scope (Holds k false us)) all.are (atom_tree d k s e g all.trees all.text all.count all.tidy all.fine all.number (omega (arith, one, two)))

      equal_tree : (d : ℕ) (t u : Term) (sort : ℕ) → HasSort sig sorts t sort → HasSort sig sorts u sort → depth_of t ≤ d → depth_of u ≤ d → FormulaOf (d + 2) scope (Equal t u)
      equal_tree d t u sort h i low deep =
          let x = term_tree sig A symbols scope variables t sort h in
          let y = term_tree sig A symbols scope variables u sort i in
          let one = x.deep in
          let two = y.deep in
          record {
            tree = tree.Equal x.tree y.tree;
            shown = equation x.text y.text;
            count = level (max x.count y.count);
            tidy = Tidy.equal x.tidy y.tidy;
            fine = faults_Equal x.tree y.tree ∙ (ap (λ vs. vs ++ term_faults a scope y.tree (right_wanted a scope x.tree)) (x.fine Wanted.Value tt) ∙ (ap (λ o. term_faults a scope y.tree o) x.gives ∙ y.fine (Wanted.Sort sort) refl));
            is = read_Equal x.tree y.tree ∙ (ap (λ z. Equal z (term_read a scope y.tree)) x.is ∙ ap (Equal t) y.is);
            alone = omega (arith, one, two, low, deep);
            operand = omega (arith, one, two, low, deep);
            negated = omega (arith, one, two, low, deep);
          }

      atom_formula : (d : ℕ) (f : Formula) → space.IsAtom d f → well_sorted sig false f sorts ≡ true → FormulaOf (d + 2) scope f
      atom_formula d f (space.IsAtom.holds k args e deep) w =
          let s = symbol_of (slice_get sig.symbols k) (sorts_of sig false sorts args) (sym (sorted-Holds sig false sorts k false args) ∙ subst (λ g. well_sorted sig false g sorts ≡ true) e w) in
          subst (FormulaOf (d + 2) scope) (sym e) (holds_tree d k s.0 args s.1 s.2 (terms_sorted sig sorts args s.0.args s.3) deep)
      atom_formula d f (space.IsAtom.equal t u e n low deep) w =
          let s = same_sorts (sort_of sig false sorts t) (sort_of sig false sorts u) (sym (sorted-Equal sig false sorts t u) ∙ subst (λ g. well_sorted sig false g sorts ≡ true) e w) in
          subst (FormulaOf (d + 2) scope) (sym e) (equal_tree d t u s.0 (term_sorted sig sorts t s.0 s.1) (term_sorted sig sorts u s.0 s.2) low deep)

      pub literal_formula : (d : ℕ) (f : Formula) → space.IsLiteral d f → well_sorted sig false f sorts ≡ true → FormulaOf (d + 3) scope f
      literal_formula d f (space.IsLiteral.plain i) w = wider (d + 2) (d + 3) scope f (omega arith) (atom_formula d f i w)
      literal_formula d f (space.IsLiteral.negated g e i) w =
          let x = atom_formula d g i (sym (sorted-Not sig false sorts g) ∙ subst (λ h. well_sorted sig false h sorts ≡ true) e w) in
          subst (FormulaOf (d + 3) scope) (sym e) (wider ((d + 2) + 1) (d + 3) scope (Not g) (omega arith) (not_tree (d + 2) g x))
