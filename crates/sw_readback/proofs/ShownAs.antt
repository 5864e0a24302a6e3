-- A formula that a tidy tree is, where it breaks no rule, is shown as the tree's canonical text, also by a signature with
-- more symbols and sorts than it was read by.
use Rattle.std.specs.Prelude.{◌≡◌, ℕ, zero, suc, ◌==◌, ◌||◌, Bool, true, false, not, List, [], ◌∷◌, ◌++◌, length, map, drop, get_or, Option, Some, None, unwrap_or, slice_get, option_map, if◌then◌else◌, codes}
use Rattle.std.specs.List.{flat_map, position}
use Rattle.std.specs.Str.{bytes_eq}
use Rattle.std.proofs.Common.{refl, sym, ap, subst, ◌∙◌, arith, append_assoc, append-nil, rules}
use Rattle.std.proofs.lemmas.List.{length-map, map-append}
use Rattle.std.proofs.lemmas.List.Quantifiers.{position-Some}
use Rattle.std.proofs.lemmas.Option.{slice_get-map, slice_get-get_or}
use Rattle.std.proofs.lemmas.Bool.{false≢true}
use Rattle.std.proofs.lemmas.Slice.Eq.{bytes_eq-Decides}
use Rattle.sw_logic.specs.declared.syntax.Symbol.{Symbol}
use Rattle.sw_logic.specs.declared.syntax.Signature.{Signature}
use Rattle.sw_logic.specs.declared.syntax.Binder as logic
use Rattle.sw_logic.specs.declared.syntax.Term as terms
use Rattle.sw_logic.specs.declared.syntax.Term.{Term}
use Rattle.sw_logic.specs.declared.syntax.Term.TheVariants as logic_term
use Rattle.sw_logic.specs.declared.syntax.Formula as formulas
use Rattle.sw_logic.specs.declared.syntax.Formula.{Formula}
use Rattle.sw_logic.specs.declared.syntax.Formula.TheVariants as formula
use Rattle.sw_logic.specs.Canonical.{Shown, joined, symbol_text, name_or_none, arguments_text, applied, term_text, bare, in_brackets, equation, binder_text, quantifier_text, names_of, shown}
use Rattle.sw_trees.specs.declared.words.Word.{Word}
use Rattle.sw_trees.specs.declared.tree.Binder.{Binder}
use Rattle.sw_trees.specs.declared.tree.TermTree.{TermTree}
use Rattle.sw_trees.specs.declared.tree.Tree as trees
use Rattle.sw_trees.specs.declared.tree.Tree.{Tree}
use Rattle.sw_trees.specs.declared.tree.Tree.TheVariants as tree
use Rattle.sw_text.specs.declared.names.Rule.{Rule}
use Rattle.sw_text.specs.declared.names.Wanted.{Wanted}
use Rattle.sw_text.specs.declared.names.Head.{Head}
use Rattle.sw_trees.specs.Measures.{Nestings}
use Rattle.sw_text.specs.Names.{Around, Scope, head_of, head_by, head_tests, head_faults, head_sorts, variable_tests, args_faults, term_faults, term_read, term_by, right_wanted, atom_by, atom_read, faults, formula_read, binder_faults, binders_faults, bound, bytes_at, sort_number, symbol_number, variable_number, number_or_0, is_none, is_declared, is_some_number, broken, quantified, next_wanted}
use Rattle.sw_text.specs.Resolving.{all_faults, all_read}
use Rattle.sw_text.proofs.Breaking.{term_faults_of, term_read_of}
use Rattle.sw_text.proofs.Folding.{faults_Atom, read_Atom, faults_Equal, read_Equal, faults_Implies, faults_Iff}
use Rattle.sw_text.proofs.SortedTerms.{apart, passed, Passed}
use Rattle.sw_print.proofs.Joined.{shown-All, shown-Any}
use Rattle.sw_readback.proofs.Tidy.{prime_text, head_text, binder_piece, constant_text, quantifier_word, TidyTerm, TidyTerms, TidyBinders, Tidy, TidyRun}
use Rattle.sw_readback.proofs.Measured.{two}
use Rattle.sw_readback.proofs.SameMeaning.{named_faults, named_read, named_atom, applied_atom, faults_Not, read_Not, faults_All, read_All, faults_Any, read_Any, read_Implies, read_Iff, faults_Quantified, read_Quantified}

-- the one of this name
pub found : {X : Type 0} (name : X → List ℕ) (xs : List X) (bytes : List ℕ) (i : ℕ) → position (λ x. bytes_eq bytes (name x)) xs ≡ Some i → (x : X) × (slice_get xs i ≡ Some x) × (name x ≡ bytes)
found name [] bytes i e = cc
found name (x ∷ xs) bytes i e =
    let h = position-Some (λ x. bytes_eq bytes (name x)) (x ∷ xs) i x e in
    let y = get_or (x ∷ xs) i x in
    (y, slice_get-get_or (x ∷ xs) i x h.0, sym ((bytes_eq-Decides bytes (name y)).0 h.1))

primed_text : (primed : Bool) → (if primed then codes "'" else []) ≡ prime_text primed
primed_text true = refl
primed_text false = refl

none_is : {X : Type 0} (xs : List X) (n : ℕ) → n ≡ length xs → not (n == 0) ≡ false → xs ≡ []
none_is [] n e h = refl
none_is (x ∷ xs) n e h = let zero_is : n ≡ 0 = grind (arith, h) in absurd (omega (arith, zero_is, e))

-- what the one signature has the other has too, under the same number
pub record Extends (small big : Signature) : Type 0 where
  pub sorts : (k : ℕ) (name : List ℕ) → slice_get small.sorts k ≡ Some name → slice_get big.sorts k ≡ Some name
  pub symbols : (k : ℕ) (s : Symbol) → slice_get small.symbols k ≡ Some s → slice_get big.symbols k ≡ Some s

pub extends_itself : (sig : Signature) → Extends sig sig
extends_itself sig = record { sorts = λ k name e. e; symbols = λ k s e. e }

-- what is in front stays under its number
pub front_stays : {X : Type 0} (xs ys : List X) (k : ℕ) (x : X) → slice_get xs k ≡ Some x → slice_get (xs ++ ys) k ≡ Some x
front_stays [] ys k x e = cc
front_stays (y ∷ xs) ys zero x e = e
front_stays (y ∷ xs) ys (suc k) x e = front_stays xs ys k x e

module _ (a : Around) (sig : Signature) (later : Extends a.signature sig) (scope : Scope) where
  abbrev term_here : Term → List ℕ
  term_here = term_text sig (names_of scope)

  text_Apply : (k : ℕ) (primed : Bool) (args : List Term) → term_here (logic_term.Apply k primed args) ≡ applied sig k primed (map term_here args)
  text_Apply k primed args = search (rules, terms.the_lemmas)

  text_Variable : (v : ℕ) → term_here (logic_term.Variable v) ≡ unwrap_or (slice_get (names_of scope) v) []
  text_Variable v = search (rules, terms.the_lemmas)

  -- what a name is found to be
  data Finds (name : List ℕ) : Option Head → Type 0 where
    variable : (v : ℕ) (x : logic.Binder) → slice_get scope v ≡ Some x → x.name ≡ name → Finds name (Some (Head.Variable v))
    symbol : (k : ℕ) (s : Symbol) → slice_get sig.symbols k ≡ Some s → s.name ≡ name → Finds name (Some (Head.Symbol k))
    nothing : Finds name None

  finds_by : (name : List ℕ) (v k : Option ℕ) → variable_number scope name ≡ v → symbol_number a name ≡ k → Finds name (head_by v k)
  finds_by name (Some v) k e f = let h = found (λ (x : logic.Binder). x.name) scope name v e in Finds.variable v h.0 h.1 h.2
  finds_by name None (Some k) e f = let h = found (λ (s : Symbol). s.name) a.signature.symbols name k f in Finds.symbol k h.0 (later.symbols k h.0 h.1) h.2
  finds_by name None None e f = Finds.nothing

  finds : (w : Word) → Finds (bytes_at a.text w) (head_of a scope w)
  finds w = finds_by (bytes_at a.text w) (variable_number scope (bytes_at a.text w)) (symbol_number a (bytes_at a.text w)) refl refl

  symbol_shown : (name : List ℕ) (k : ℕ) (s : Symbol) (primed : Bool) → slice_get sig.symbols k ≡ Some s → s.name ≡ name → symbol_text sig k primed ≡ name ++ prime_text primed
  symbol_shown name k s primed e n = two (λ (x y : List ℕ). x ++ y) _ _ _ _ (ap name_or_none e ∙ n) (primed_text primed)

  -- a name before arguments is shown as it stands
  term_shown : (name : List ℕ) (h : Option Head) (primed : Bool) (n : ℕ) (wanted : Wanted) (args : List Term) → Finds name h → Passed (head_tests a scope h primed n wanted) → n ≡ length args
      → term_here (term_by h primed args) ≡ (name ++ prime_text primed) ++ arguments_text (map term_here args)
  term_shown name _ primed n wanted args (Finds.variable v x e is) p count =
      let q : Passed (variable_tests (Some x) primed n wanted) = subst (λ (o : Option logic.Binder). Passed (variable_tests o primed n wanted)) e p in
      let no_args = none_is args n count q.1.0 in
      let name_is : unwrap_or (slice_get (names_of scope) v) [] ≡ name = ap (λ o. unwrap_or o []) (slice_get-map (λ (b : logic.Binder). b.name) scope v ∙ ap (option_map (λ (b : logic.Binder). b.name)) e) ∙ is in
      let right : (name ++ prime_text primed) ++ arguments_text (map term_here args) ≡ name =
      ap (λ xs. (name ++ prime_text primed) ++ arguments_text (map term_here xs)) no_args ∙ append-nil (name ++ prime_text primed) ∙ ap (λ b. name ++ prime_text b) q.0 ∙ append-nil name in
      text_Variable v ∙ name_is ∙ sym right
  term_shown name _ primed n wanted args (Finds.symbol k s e is) p count =
      text_Apply k primed args ∙ ap (λ x. x ++ arguments_text (map term_here args)) (symbol_shown name k s primed e is)
  term_shown name _ primed n wanted args Finds.nothing p count = absurd (false≢true (sym p.0))

  text_Holds : (k : ℕ) (primed : Bool) (args : List Term) → shown sig (names_of scope) (formula.Holds k primed args) ≡ bare (applied sig k primed (map term_here args))
  text_Holds k primed args = search (rules, formulas.the_lemmas)

  atom_shown : (name : List ℕ) (h : Option Head) (primed : Bool) (n : ℕ) (args : List Term) → Finds name h → Passed (head_tests a scope h primed n Wanted.Atom)
      → shown sig (names_of scope) (atom_by h primed args) ≡ bare ((name ++ prime_text primed) ++ arguments_text (map term_here args))
  atom_shown name _ primed n args (Finds.variable v x e is) p =
      let q : Passed (variable_tests (Some x) primed n Wanted.Atom) = subst (λ (o : Option logic.Binder). Passed (variable_tests o primed n Wanted.Atom)) e p in
      absurd (false≢true (sym q.1.1.0))
  atom_shown name _ primed n args (Finds.symbol k s e is) p =
      text_Holds k primed args ∙ ap (λ x. bare (x ++ arguments_text (map term_here args))) (symbol_shown name k s primed e is)
  atom_shown name _ primed n args Finds.nothing p = absurd (false≢true (sym p.0))

  -- arguments, the first and the others
  arguments_are : (x more : List ℕ) (xs : List (List ℕ)) → flat_map (λ y. codes ", " ++ y) xs ≡ more → arguments_text (x ∷ xs) ≡ codes "(" ++ (x ++ (more ++ codes ")"))
  arguments_are x more xs e = ap (λ l. (codes "(" ++ (x ++ l)) ++ codes ")") e ∙ simp append_assoc

  mutual
    term_is : {t : TermTree} {x : List ℕ} {n : ℕ} → TidyTerm a.text t x n → (wanted : Wanted) → term_faults a scope t wanted ≡ [] → term_here (term_read a scope t) ≡ x
    term_is (TidyTerm.named {w = w} primed name) wanted e =
        ap term_here (named_read a [] scope a w primed)
        ∙ term_shown (bytes_at a.text w) (head_of a scope w) primed 0 wanted [] (finds w) (passed w.token.at _ (sym (named_faults a [] scope a w primed wanted) ∙ e)) refl
        ∙ append-nil (head_text a.text w primed)
    term_is (TidyTerm.applied {w = w} {t = t} {ts = ts} {x = x} {more = more} primed name h k) wanted e =
        let fs = map (term_faults a scope) (t ∷ ts) in
        let args = map (term_read a scope) (t ∷ ts) in
        let sorts = head_sorts a (head_of a scope w) in
        let both = apart (head_faults a scope w primed (length fs) wanted) (args_faults fs sorts) (sym (term_faults_of a scope w primed (t ∷ ts) wanted) ∙ e) in
        let each = apart (term_faults a scope t (next_wanted sorts)) (args_faults (map (term_faults a scope) ts) (drop 1 sorts)) both.1 in
        let count : length fs ≡ length args = length-map (t ∷ ts) (term_faults a scope) ∙ sym (length-map (t ∷ ts) (term_read a scope)) in
        let first = term_is h (next_wanted sorts) each.0 in
        let others = terms_are k (drop 1 sorts) each.1 in
        ap term_here (term_read_of a scope w primed (t ∷ ts))
        ∙ term_shown (bytes_at a.text w) (head_of a scope w) primed (length fs) wanted args (finds w) (passed w.token.at _ both.0) count
        ∙ ap (λ l. head_text a.text w primed ++ l) (arguments_are (term_here (term_read a scope t)) more (map term_here (map (term_read a scope) ts)) others ∙ ap (λ z. codes "(" ++ (z ++ (more ++ codes ")"))) first)

    terms_are : {ts : List TermTree} {x : List ℕ} {n : ℕ} → TidyTerms a.text ts x n → (sorts : List ℕ) → args_faults (map (term_faults a scope) ts) sorts ≡ [] → flat_map (λ y. codes ", " ++ y) (map term_here (map (term_read a scope) ts)) ≡ x
    terms_are TidyTerms.no_terms sorts e = refl
    terms_are (TidyTerms.more_terms {t = t} {ts = ts} {x = x} {more = more} h k) sorts e =
        let each = apart (term_faults a scope t (next_wanted sorts)) (args_faults (map (term_faults a scope) ts) (drop 1 sorts)) e in
        two (λ y l. (codes ", " ++ y) ++ l) _ _ _ _ (term_is h (next_wanted sorts) each.0) (terms_are k (drop 1 sorts) each.1) ∙ append_assoc (codes ", ") x more

  atom_is : {t : TermTree} {x : List ℕ} {n : ℕ} → TidyTerm a.text t x n → term_faults a scope t Wanted.Atom ≡ [] → shown sig (names_of scope) (atom_read a scope t) ≡ bare x
  atom_is (TidyTerm.named {w = w} primed name) e =
      ap (shown sig (names_of scope)) (named_atom a [] scope a w primed)
      ∙ atom_shown (bytes_at a.text w) (head_of a scope w) primed 0 [] (finds w) (passed w.token.at _ (sym (named_faults a [] scope a w primed Wanted.Atom) ∙ e))
      ∙ ap bare (append-nil (head_text a.text w primed))
  atom_is (TidyTerm.applied {w = w} {t = t} {ts = ts} {x = x} {more = more} primed name h k) e =
      let fs = map (term_faults a scope) (t ∷ ts) in
      let args = map (term_read a scope) (t ∷ ts) in
      let sorts = head_sorts a (head_of a scope w) in
      let both = apart (head_faults a scope w primed (length fs) Wanted.Atom) (args_faults fs sorts) (sym (term_faults_of a scope w primed (t ∷ ts) Wanted.Atom) ∙ e) in
      let each = apart (term_faults a scope t (next_wanted sorts)) (args_faults (map (term_faults a scope) ts) (drop 1 sorts)) both.1 in
      ap (shown sig (names_of scope)) (applied_atom a [] scope a w primed (t ∷ ts))
      ∙ atom_shown (bytes_at a.text w) (head_of a scope w) primed (length fs) args (finds w) (passed w.token.at _ both.0)
      ∙ ap (λ l. bare (head_text a.text w primed ++ l))
      (arguments_are (term_here (term_read a scope t)) more (map term_here (map (term_read a scope) ts)) (terms_are k (drop 1 sorts) each.1) ∙ ap (λ z. codes "(" ++ (z ++ (more ++ codes ")"))) (term_is h (next_wanted sorts) each.0))

module _ (a : Around) (sig : Signature) (later : Extends a.signature sig) where
  abbrev here : Scope → Formula → Shown
  here scope f = shown sig (names_of scope) f

  pub sort_found : (o : Option ℕ) (name : List ℕ) → sort_number a name ≡ o → is_none o ≡ false → unwrap_or (slice_get sig.sorts (number_or_0 o)) [] ≡ name
  sort_found None name e h = cc
  sort_found (Some k) name e h = let f = found (λ (x : List ℕ). x) a.signature.sorts name k e in ap (λ o. unwrap_or o []) (later.sorts k f.0 f.1) ∙ f.2

  pub binder_is : (scope : Scope) (x : Binder) → binder_faults a scope x ≡ [] → binder_text sig (bound a x) ≡ binder_piece a.text x
  binder_is scope x e =
      let name = bytes_at a.text x.name in
      let sort = bytes_at a.text x.sort in
      let sort_tests : List (Bool × Rule) = (is_none (sort_number a sort), Rule.Unknown) ∷ [] in
      let both = apart (broken x.name.token.at ((is_declared a name || is_some_number (variable_number scope name), Rule.Twice) ∷ [])) (broken x.sort.token.at sort_tests) e in
      let known = passed x.sort.token.at sort_tests both.1 in
      ap (λ s. (name ++ codes ": ") ++ s) (sort_found (sort_number a sort) sort refl known.0) ∙ append_assoc name (codes ": ") sort

  binders_are : {bs : List Binder} {x : List ℕ} → (scope : Scope) → TidyBinders a.text bs x → binders_faults a scope bs ≡ [] → flat_map (λ y. codes ", " ++ y) (map (binder_text sig) (map (bound a) bs)) ≡ x
  binders_are scope TidyBinders.no_binders e = refl
  binders_are scope (TidyBinders.more_binders {b = b} {bs = bs} {more = more} h k) e =
      let both = apart (binder_faults a scope b) (binders_faults a (scope ++ bound a b ∷ []) bs) e in
      two (λ y l. (codes ", " ++ y) ++ l) _ _ _ _ (binder_is scope b both.0) (binders_are (scope ++ bound a b ∷ []) k both.1) ∙ append_assoc (codes ", ") (binder_piece a.text b) more

  shown_Equal : (names : List (List ℕ)) (t u : Term) → shown sig names (formula.Equal t u) ≡ equation (term_text sig names t) (term_text sig names u)
  shown_Equal names t u = search (rules, formulas.the_lemmas)

  shown_Not : (names : List (List ℕ)) (f : Formula) → shown sig names (formula.Not f) ≡ bare (shown sig names f).negated
  shown_Not names f = search (rules, formulas.the_lemmas)

  shown_Implies : (names : List (List ℕ)) (f g : Formula) → shown sig names (formula.Implies f g) ≡ in_brackets ((shown sig names f).operand ++ codes " -> " ++ (shown sig names g).operand)
  shown_Implies names f g = search (rules, formulas.the_lemmas)

  shown_Iff : (names : List (List ℕ)) (f g : Formula) → shown sig names (formula.Iff f g) ≡ in_brackets ((shown sig names f).operand ++ codes " <-> " ++ (shown sig names g).operand)
  shown_Iff names f g = search (rules, formulas.the_lemmas)

  shown_quantified : (names : List (List ℕ)) (universal : Bool) (vs : List logic.Binder) (f : Formula)
      → shown sig names (quantified universal vs f) ≡ quantifier_text sig (quantifier_word universal) vs (shown sig (names ++ names_of vs) f).text
  shown_quantified names true vs f = search (rules, formulas.the_lemmas)
  shown_quantified names false vs f = search (rules, formulas.the_lemmas)

  constant_is : (value : Bool) (scope : Scope) → here scope (formula_read a (tree.Constant value) scope) ≡ bare (constant_text value)
  constant_is true scope =
      let step : formula_read a (tree.Constant true) scope ≡ formula.True = search (rules, trees.the_lemmas) in
      let whole : here scope formula.True ≡ bare (codes "true") = search (rules, formulas.the_lemmas) in
      ap (here scope) step ∙ whole
  constant_is false scope =
      let step : formula_read a (tree.Constant false) scope ≡ formula.False = search (rules, trees.the_lemmas) in
      let whole : here scope formula.False ≡ bare (codes "false") = search (rules, formulas.the_lemmas) in
      ap (here scope) step ∙ whole

  mutual
    -- canonical text of what was read is the text of the tree
    pub shown_is : {i v : ℕ} {p : Tree} {s : Shown} {n : Nestings} → Tidy a.text i v p s n → (scope : Scope) → faults a p scope ≡ [] → shown sig (names_of scope) (formula_read a p scope) ≡ s
    shown_is (Tidy.constant value) scope e = constant_is value scope
    shown_is (Tidy.atom {t = t} h) scope e = ap (here scope) (read_Atom a scope t) ∙ atom_is a sig later scope h (sym (faults_Atom a scope t) ∙ e)
    shown_is (Tidy.equal {t = t} {u = u} h k) scope e =
        let both = apart (term_faults a scope t Wanted.Value) (term_faults a scope u (right_wanted a scope t)) (sym (faults_Equal a scope t u) ∙ e) in
        ap (here scope) (read_Equal a scope t u)
        ∙ shown_Equal (names_of scope) (term_read a scope t) (term_read a scope u)
        ∙ two equation _ _ _ _ (term_is a sig later scope h Wanted.Value both.0) (term_is a sig later scope k (right_wanted a scope t) both.1)
    shown_is (Tidy.negated {p = p} h) scope e =
        ap (here scope) (read_Not a [] a p scope) ∙ shown_Not (names_of scope) (formula_read a p scope) ∙ ap (λ (z : Shown). bare z.negated) (shown_is h scope (sym (faults_Not a [] a p scope) ∙ e))
    shown_is (Tidy.all {p = p} {q = q} {ps = ps} {s = s} {more = more} h k) scope e =
        let both = apart (faults a p scope) (all_faults a (q ∷ ps) scope) (sym (faults_All a [] a (p ∷ q ∷ ps) scope) ∙ e) in
        ap (here scope) (read_All a [] a (p ∷ q ∷ ps) scope)
        ∙ shown-All sig (names_of scope) (all_read a (p ∷ q ∷ ps) scope)
        ∙ two (λ (z : Shown) (l : List ℕ). in_brackets (z.operand ++ l)) _ _ _ _ (shown_is h scope both.0) (run_is k scope both.1)
    shown_is (Tidy.any {p = p} {q = q} {ps = ps} {s = s} {more = more} h k) scope e =
        let both = apart (faults a p scope) (all_faults a (q ∷ ps) scope) (sym (faults_Any a [] a (p ∷ q ∷ ps) scope) ∙ e) in
        ap (here scope) (read_Any a [] a (p ∷ q ∷ ps) scope)
        ∙ shown-Any sig (names_of scope) (all_read a (p ∷ q ∷ ps) scope)
        ∙ two (λ (z : Shown) (l : List ℕ). in_brackets (z.operand ++ l)) _ _ _ _ (shown_is h scope both.0) (run_is k scope both.1)
    shown_is (Tidy.implies {p = p} {q = q} {s = s} {t = t} h k) scope e =
        let both = apart (faults a p scope) (faults a q scope) (sym (faults_Implies a scope p q) ∙ e) in
        ap (here scope) (read_Implies a [] a p q scope)
        ∙ shown_Implies (names_of scope) (formula_read a p scope) (formula_read a q scope)
        ∙ two (λ (y z : Shown). in_brackets (y.operand ++ codes " -> " ++ z.operand)) _ _ _ _ (shown_is h scope both.0) (shown_is k scope both.1)
        ∙ ap in_brackets (append_assoc s.operand (codes " -> ") t.operand)
    shown_is (Tidy.iff {p = p} {q = q} {s = s} {t = t} l h k) scope e =
        let both = apart (faults a p scope) (faults a q scope) (sym (faults_Iff a scope p q) ∙ e) in
        ap (here scope) (read_Iff a [] a p q scope)
        ∙ shown_Iff (names_of scope) (formula_read a p scope) (formula_read a q scope)
        ∙ two (λ (y z : Shown). in_brackets (y.operand ++ codes " <-> " ++ z.operand)) _ _ _ _ (shown_is h scope both.0) (shown_is k scope both.1)
        ∙ ap in_brackets (append_assoc s.operand (codes " <-> ") t.operand)
    shown_is (Tidy.quantified {b = b} {bs = bs} {more = more} {p = p} {s = s} universal first others limit h) scope e =
        let vs = map (bound a) (b ∷ bs) in
        let both = apart (binders_faults a scope (b ∷ bs)) (faults a p (scope ++ vs)) (sym (faults_Quantified a [] a universal (b ∷ bs) p scope) ∙ e) in
        let each = apart (binder_faults a scope b) (binders_faults a (scope ++ bound a b ∷ []) bs) both.0 in
        let f = formula_read a p (scope ++ vs) in
        let inner : shown sig (names_of scope ++ names_of vs) f ≡ s = ap (λ names. shown sig names f) (sym (map-append (λ (x : logic.Binder). x.name) scope vs)) ∙ shown_is h (scope ++ vs) both.1 in
        let list : joined (codes ", ") (map (binder_text sig) vs) ≡ binder_piece a.text b ++ more = two (λ (x y : List ℕ). x ++ y) _ _ _ _ (binder_is scope b each.0) (binders_are (scope ++ bound a b ∷ []) others each.1) in
        ap (here scope) (read_Quantified a [] a universal (b ∷ bs) p scope)
        ∙ shown_quantified (names_of scope) universal vs f
        ∙ two (λ (l : List ℕ) (z : Shown). in_brackets (quantifier_word universal ++ codes " " ++ l ++ codes ". " ++ z.text)) _ _ _ _ list inner
        ∙ ap in_brackets (simp append_assoc)

    run_is : {i v : ℕ} {sign : List ℕ} {ps : List Tree} {x : List ℕ} {k : ℕ} → TidyRun a.text sign i v ps x k → (scope : Scope) → all_faults a ps scope ≡ []
        → flat_map (λ y. sign ++ y) (map (λ (f : Formula). (shown sig (names_of scope) f).operand) (all_read a ps scope)) ≡ x
    run_is TidyRun.no_more scope e = refl
    run_is (TidyRun.one_more {sign = sign} {p = p} {ps = ps} {s = s} {more = more} h k) scope e =
        let both = apart (faults a p scope) (all_faults a ps scope) e in
        two (λ (z : Shown) (l : List ℕ). (sign ++ z.operand) ++ l) _ _ _ _ (shown_is h scope both.0) (run_is k scope both.1) ∙ append_assoc sign s.operand more
