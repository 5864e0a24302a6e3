-- Where a text has the canonical text of a formula, its marks spell a formula of the same names.
use Rattle.std.specs.Prelude.{◌≡◌, ℕ, suc, ◌+◌, ◌≤◌, max, Bool, true, false, List, [], ◌∷◌, ◌++◌, length, codes}
use Rattle.std.proofs.Common.{refl, sym, ap, subst, ◌∙◌, arith, append_assoc, append-nil, lit≤, length-append}
use Rattle.sw_logic.specs.Canonical.{Shown, bare, in_brackets, equation}
use Rattle.sw_logic.specs.declared.variables.TheConstants.{VARIABLES}
use Rattle.sw_trees.specs.declared.limits.TheConstants.{NESTINGS, PATH}
use Rattle.sw_trees.specs.declared.words.Sign.{Sign}
use Rattle.sw_trees.specs.declared.words.Word.{Word}
use Rattle.sw_trees.specs.declared.tree.Binder.{Binder}
use Rattle.sw_trees.specs.declared.tree.TermTree.{TermTree}
use Rattle.sw_trees.specs.declared.tree.Tree.{Tree}
use Rattle.sw_trees.specs.declared.tree.Tree.TheVariants as tree
use Rattle.sw_text.specs.Names.{bytes_at}
use Rattle.sw_trees.specs.Measures.{Nestings, longest_path, bare as bare_count, bracketed}
use Rattle.sw_trees.specs.Grammar.{Mark, Loads, Context, End, Is, no_loads, opening, joining, binding, deeper, beside, inside, all_of, any_of, end_of, quantifier, constant, equality, equation as equation_tree, IsBinder, AreBinders, IsAtom, IsSingle, AreSingles, AreBoths, IsImplied, IsFormula}
use Rattle.sw_trees.specs.Limits.{IsWithin}
use Rattle.sw_readback.proofs.Spacing.{Goes, Here, goes_none, goes_on, goes_blank, blank_later, breaks, step_name, step_left, step_right, step_comma, step_colon, step_dot, step_equal, step_unequal, step_and, step_or, step_arrow, step_double, step_not, no_equal, no_equal_more, name_no_equal}
use Rattle.sw_readback.proofs.Tidy.{IsNameIn, prime_text, head_text, binder_piece, constant_text, quantifier_word, level, TidyTerm, TidyBinder, TidyBinders, Tidy, TidyRun, SameTerm, SameBinder, SameBinders, Same, SameRun}
use Rattle.sw_readback.proofs.Measured.{same_path}
use Rattle.sw_readback.proofs.SpeltTerms.{within_none, within_opening, within_binding, here_as, Between, before_blank, after_blank, term_at}

-- the context of a formula to the right of so many <->, with so many variables in scope
pub record IsAt (c : Context) (i v : ℕ) : Type 0 where
  pub iffs : c.iffs ≡ i
  pub variables : c.variables ≡ v

at_deeper : (c : Context) (i v : ℕ) → IsAt c i v → IsAt (deeper c) i v
at_deeper c i v h = record { iffs = h.iffs; variables = h.variables }

at_beside : (c : Context) (i v : ℕ) → IsAt c i v → IsAt (beside c) (i + 1) v
at_beside c i v h = record { iffs = ap (λ n. n + 1) h.iffs; variables = h.variables }

at_inside : (c : Context) (i v n m : ℕ) → n ≡ m → IsAt c i v → IsAt (inside n c) i (v + m)
at_inside c i v n m e h = record { iffs = h.iffs; variables = ap (λ k. c.variables + k) e ∙ ap (λ k. k + m) h.variables }

abbrev single_in : Context → Tree → List Mark → List Mark → Type 0
single_in c x ms rest = IsSingle c End.Closed ms x rest

-- the marks spell the formula, however they end
abbrev pub formula_in : Context → Tree → List Mark → List Mark → Type 0
formula_in c x ms rest = (e : End) × ((i : Bool) × IsFormula c e i ms x rest)

abbrev singles_in : Context → List Mark → List Tree → List Mark → Type 0
singles_in c ms xs rest = AreSingles c End.Closed ms xs rest

abbrev boths_in : Context → List Mark → List Tree → List Mark → Type 0
boths_in c ms xs rest = AreBoths c End.Closed ms xs rest

implied_of : {c : Context} {x : Tree} {ms rest : List Mark} → IsSingle c End.Closed ms x rest → IsImplied c End.Closed ms x rest
implied_of h = IsImplied.last_implied (AreBoths.one_both (AreSingles.one_single h))

formula_of : {c : Context} {x : Tree} {ms rest : List Mark} → IsSingle c End.Closed ms x rest → formula_in c x ms rest
formula_of h = (End.Closed, (false, IsFormula.implied (implied_of h)))

-- from a place on the marks spell a formula of the same names, and this is left
pub record Spelt (A T : List ℕ) (at : ℕ) (post : List ℕ) (p : Tree) (G : Tree → List Mark → List Mark → Type 0) : Type 0 where
  pub next : ℕ
  pub marks : List Mark
  pub tree : Tree
  pub later : Here T next post
  pub goes : Goes T at next marks
  pub spelled : (rest : List Mark) → G tree (marks ++ rest) rest
  pub same : Same A T p tree

-- wherever this text stands it spells the formula
abbrev pub Way : List ℕ → ℕ → ℕ → Tree → List ℕ → ℕ → (Context → Tree → List Mark → List Mark → Type 0) → Type 0
Way A i v p x n G =
    (T : List ℕ) (at : ℕ) (post : List ℕ) (c : Context) → IsAt c i v → c.nestings + n ≤ NESTINGS → Here T at (x ++ post) → breaks post ≡ true → Spelt A T at post p (G c)

-- the ways in which a formula stands in canonical text
pub record Ways (A : List ℕ) (i v : ℕ) (p : Tree) (s : Shown) (n : Nestings) : Type 0 where
  pub alone : Way A i v p s.text n.alone formula_in
  pub operand : Way A i v p s.operand n.operand single_in
  pub negated : Way A i v (tree.Not p) s.negated n.negated single_in
  pub first : no_equal s.operand ≡ true
  pub first_negated : no_equal s.negated ≡ true

module _ (A : List ℕ) (i v : ℕ) (p : Tree) where
  by_itself : (x : List ℕ) (n : ℕ) → Way A i v p x n single_in → Way A i v p x n formula_in
  by_itself x n way T at post c k w h e =
      let q = way T at post c k w h e in
      record { next = q.next; marks = q.marks; tree = q.tree; later = q.later; goes = q.goes; spelled = λ rest. formula_of (q.spelled rest); same = q.same }

  negation : (x : List ℕ) (n m : ℕ) → n + 1 ≡ m → Way A i v p x n single_in → no_equal x ≡ true → Way A i v (tree.Not p) (33 ∷ x) m single_in
  negation x n m j way first T at post c k w h e =
      let s = step_not T (x ++ post) at (opening (c.nestings + 1)) h (no_equal_more x post first) (within_opening (c.nestings + 1) (omega arith)) in
      let q = way T s.next post (deeper c) (at_deeper c i v k) (omega arith) s.later e in
      record {
        next = q.next;
        marks = s.mark ∷ q.marks;
        tree = tree.Not q.tree;
        later = q.later;
        goes = goes_on T at s.next q.next (s.mark ∷ []) q.marks s.goes q.goes;
        spelled = λ rest. IsSingle.negated s.mark s.is (q.spelled rest);
        same = Same.negated q.same;
      }

  in_round : (x : List ℕ) (n : ℕ) → Way A i v p x n formula_in → Way A i v p (codes "(" ++ x ++ codes ")") (n + 1) single_in
  in_round x n way T at post c k w h e =
      let h' : Here T at (codes "(" ++ (x ++ (codes ")" ++ post))) = here_as T _ _ at (simp append_assoc) h in
      let l = step_left T (x ++ (codes ")" ++ post)) at (opening (c.nestings + 1)) h' (within_opening (c.nestings + 1) (omega arith)) in
      let q = way T l.next (codes ")" ++ post) (deeper c) (at_deeper c i v k) (omega arith) l.later refl in
      let r = step_right T post q.next no_loads q.later within_none in
      record {
        next = r.next;
        marks = l.mark ∷ (q.marks ++ (r.mark ∷ []));
        tree = q.tree;
        later = r.later;
        goes = goes_on T at l.next r.next (l.mark ∷ []) (q.marks ++ (r.mark ∷ [])) l.goes (goes_on T l.next q.next r.next q.marks (r.mark ∷ []) q.goes r.goes);
        spelled = λ rest.
            subst (λ ms. IsSingle c End.Closed (l.mark ∷ ms) q.tree rest) (sym (append_assoc q.marks (r.mark ∷ []) rest))
            (IsSingle.bracketed l.mark r.mark l.is (q.spelled (r.mark ∷ rest)).1.1 r.is);
        same = q.same;
      }

  bare_ways : (x : List ℕ) (n : ℕ) → Way A i v p x n single_in → no_equal x ≡ true → Ways A i v p (bare x) (bare_count n)
  bare_ways x n way first =
      record { alone = by_itself x n way; operand = way; negated = negation x n (n + 1) refl way first; first = first; first_negated = refl }

  bracket_ways : (x : List ℕ) (n : ℕ) → Way A i v p x n formula_in → Ways A i v p (in_brackets x) (bracketed n)
  bracket_ways x n way =
      record { alone = way; operand = in_round x n way; negated = negation (codes "(" ++ x ++ codes ")") (n + 1) (n + 2) (omega arith) (in_round x n way) refl; first = refl; first_negated = refl }

-- a constant

constant_way : (A : List ℕ) (i v : ℕ) (value : Bool) → Way A i v (tree.Constant value) (constant_text value) 0 single_in
constant_way A i v true T at post c k w h e =
    let s = step_name T (codes "true") post at Sign.True no_loads h refl refl e within_none in
    record { next = s.next; marks = s.mark ∷ []; tree = tree.Constant true; later = s.later; goes = s.goes; spelled = λ rest. IsSingle.fixed true s.mark s.is; same = Same.constant true }
constant_way A i v false T at post c k w h e =
    let s = step_name T (codes "false") post at Sign.False no_loads h refl refl e within_none in
    record { next = s.next; marks = s.mark ∷ []; tree = tree.Constant false; later = s.later; goes = s.goes; spelled = λ rest. IsSingle.fixed false s.mark s.is; same = Same.constant false }

constant_first : (value : Bool) → no_equal (constant_text value) ≡ true
constant_first true = refl
constant_first false = refl

head_first : (A : List ℕ) (w : Word) (primed : Bool) → IsNameIn A w → no_equal (head_text A w primed) ≡ true
head_first A w primed name = no_equal_more (bytes_at A w) (prime_text primed) (name_no_equal (bytes_at A w) name.name)

term_first : {A : List ℕ} {t : TermTree} {x : List ℕ} {n : ℕ} → TidyTerm A t x n → no_equal x ≡ true
term_first {A = A} (TidyTerm.named {w = w} primed name) = head_first A w primed name
term_first {A = A} (TidyTerm.applied {w = w} {x = x} {more = more} primed name t ts) = no_equal_more (head_text A w primed) (codes "(" ++ (x ++ (more ++ codes ")"))) (head_first A w primed name)

atom_way : (A : List ℕ) (i v : ℕ) (t : TermTree) (x : List ℕ) (n : ℕ) → TidyTerm A t x n → Way A i v (tree.Atom t) x n single_in
atom_way A i v t x n tidy T at post c k w h e =
    let q = term_at A T at c.nestings post tidy h e w in
    record { next = q.next; marks = q.marks; tree = tree.Atom q.tree; later = q.later; goes = q.goes; spelled = λ rest. IsSingle.atom (IsAtom.holds (q.spelled rest)); same = Same.atom q.same }

-- an equation
abbrev sign_text : Bool → List ℕ
sign_text true = codes "!="
sign_text false = codes "="

equality_at : (T post : List ℕ) (at : ℕ) (negated : Bool) → Here T at (32 ∷ (sign_text negated ++ (32 ∷ post))) → Between T at (Is (equality negated) no_loads) post
equality_at T post at true h =
    let s = step_unequal T (32 ∷ post) (at + 1) no_loads (blank_later T _ at h) within_none in
    after_blank T post _ at _ h (before_blank T post (at + 1) s.next _ s.mark s.is s.goes s.later)
equality_at T post at false h =
    let s = step_equal T (32 ∷ post) (at + 1) no_loads (blank_later T _ at h) within_none in
    after_blank T post _ at _ h (before_blank T post (at + 1) s.next _ s.mark s.is s.goes s.later)

same_equation : (A T : List ℕ) (t u t' u' : TermTree) (negated : Bool) → SameTerm A T t t' → SameTerm A T u u' → Same A T (equation_tree t negated u) (equation_tree t' negated u')
same_equation A T t u t' u' true h k = Same.negated (Same.equal h k)
same_equation A T t u t' u' false h k = Same.equal h k

compared_way : (A : List ℕ) (i v : ℕ) (negated : Bool) (t u : TermTree) (x y z : List ℕ) (n m : ℕ) → TidyTerm A t x n → TidyTerm A u y m
    → z ≡ x ++ (32 ∷ (sign_text negated ++ (32 ∷ y))) → Way A i v (equation_tree t negated u) z (max n m) single_in
compared_way A i v negated t u x y z n m left right text T at post c k w h e =
    let h' : Here T at (x ++ (32 ∷ (sign_text negated ++ (32 ∷ (y ++ post))))) = here_as T _ _ at (ap (λ l. l ++ post) text ∙ simp append_assoc) h in
    let p = term_at A T at c.nestings (32 ∷ (sign_text negated ++ (32 ∷ (y ++ post)))) left h' refl (omega arith) in
    let b = equality_at T (y ++ post) p.next negated p.later in
    let q = term_at A T b.next c.nestings post right b.later e (omega arith) in
    record {
      next = q.next;
      marks = p.marks ++ (b.mark ∷ q.marks);
      tree = equation_tree p.tree negated q.tree;
      later = q.later;
      goes = goes_on T at p.next q.next p.marks (b.mark ∷ q.marks) p.goes (goes_on T p.next b.next q.next (b.mark ∷ []) q.marks b.goes q.goes);
      spelled = λ rest.
          subst (λ ms. IsSingle c End.Closed ms (equation_tree p.tree negated q.tree) rest) (sym (append_assoc p.marks (b.mark ∷ q.marks) rest))
          (IsSingle.atom (IsAtom.compared negated b.mark (p.spelled (b.mark ∷ (q.marks ++ rest))) b.is (q.spelled rest)));
      same = same_equation A T t u p.tree q.tree negated p.same q.same;
    }

equal_ways : (A : List ℕ) (i v : ℕ) (t u : TermTree) (x y : List ℕ) (n m : ℕ) → TidyTerm A t x n → TidyTerm A u y m → Ways A i v (tree.Equal t u) (equation x y) (level (max n m))
equal_ways A i v t u x y n m left right =
    let plain = compared_way A i v false t u x y (equation x y).text n m left right (simp append_assoc) in
    record {
      alone = by_itself A i v (tree.Equal t u) (equation x y).text (max n m) plain;
      operand = plain;
      negated = compared_way A i v true t u x y (equation x y).negated n m left right (simp append_assoc);
      first = no_equal_more (x ++ codes " = ") y (no_equal_more x (codes " = ") (term_first left));
      first_negated = no_equal_more (x ++ codes " != ") y (no_equal_more x (codes " != ") (term_first left));
    }

-- further operands: operands that end here go on with them
pub record RunAt (A T : List ℕ) (at : ℕ) (post : List ℕ) (ps : List Tree) (R : List Mark → List Tree → List Mark → Type 0) : Type 0 where
  pub next : ℕ
  pub marks : List Mark
  pub trees : List Tree
  pub later : Here T next post
  pub goes : Goes T at next marks
  pub extends : (xs : List Tree) (ms : List Mark) → ((rest : List Mark) → R (ms ++ rest) xs rest) → (rest : List Mark) → R ((ms ++ marks) ++ rest) (xs ++ trees) rest
  pub same : SameRun A T ps trees

-- operands of one run: of & where `both`, or else of |
abbrev run_in : Bool → Context → List Mark → List Tree → List Mark → Type 0
run_in true c ms xs rest = singles_in c ms xs rest
run_in false c ms xs rest = boths_in c ms xs rest

abbrev joint : Bool → Sign
joint true = Sign.And
joint false = Sign.Or

-- how operands go on with a sign and one more
pub record Joins (sign : List ℕ) (S : Sign) (R : Context → List Mark → List Tree → List Mark → Type 0) : Type 0 where
  pub breaks_before : (post : List ℕ) → breaks (sign ++ post) ≡ true
  pub sign_at : (T post : List ℕ) (at : ℕ) → Here T at (sign ++ post) → Between T at (Is S no_loads) post
  pub adds : (c : Context) (ms us rest : List Mark) (xs : List Tree) (y : Tree) (m : Mark) → R c ms xs (m ∷ us) → Is S no_loads m → IsSingle c End.Closed us y rest → R c ms (xs ++ y ∷ []) rest

and_joins : Joins (codes " & ") Sign.And singles_in
and_joins =
    record {
      breaks_before = λ post. refl;
      sign_at = λ T post at h.
          let s = step_and T (32 ∷ post) (at + 1) no_loads (blank_later T _ at h) within_none in
          after_blank T post _ at _ h (before_blank T post (at + 1) s.next _ s.mark s.is s.goes s.later);
      adds = λ c ms us rest xs y m k is h. AreSingles.more_singles m k is h;
    }

or_joins : Joins (codes " | ") Sign.Or boths_in
or_joins =
    record {
      breaks_before = λ post. refl;
      sign_at = λ T post at h.
          let s = step_or T (32 ∷ post) (at + 1) no_loads (blank_later T _ at h) within_none in
          after_blank T post _ at _ h (before_blank T post (at + 1) s.next _ s.mark s.is s.goes s.later);
      adds = λ c ms us rest xs y m k is h. AreBoths.more_boths m k is (AreSingles.one_single h);
    }

run_breaks : {A sign : List ℕ} {i v : ℕ} {ps : List Tree} {x : List ℕ} {k : ℕ} (post : List ℕ) → ((more : List ℕ) → breaks (sign ++ more) ≡ true) → TidyRun A sign i v ps x k → breaks post ≡ true → breaks (x ++ post) ≡ true
run_breaks post b TidyRun.no_more e = e
run_breaks post b (TidyRun.one_more {sign = sign} {s = s} {more = more} h k) e = subst (λ x. breaks x ≡ true) (sym (append_assoc sign (s.operand ++ more) post)) (b ((s.operand ++ more) ++ post))

all_is : {A T : List ℕ} {q : Tree} {ps ys : List Tree} (x : Tree) → SameRun A T (q ∷ ps) ys → all_of (x ∷ ys) ≡ tree.All (x ∷ ys)
all_is x (SameRun.one_more h k) = refl

any_is : {A T : List ℕ} {q : Tree} {ps ys : List Tree} (x : Tree) → SameRun A T (q ∷ ps) ys → any_of (x ∷ ys) ≡ tree.Any (x ∷ ys)
any_is x (SameRun.one_more h k) = refl

-- a variable, a colon and its sort, and what they count
pub record BinderMarks (A T : List ℕ) (at : ℕ) (post : List ℕ) (v : ℕ) (b : Binder) : Type 0 where
  pub next : ℕ
  pub name : Mark
  pub colon : Mark
  pub sort : Mark
  pub later : Here T next post
  pub goes : Goes T at next (name ∷ colon ∷ sort ∷ [])
  pub name_is : Is Sign.Name (binding (v + 1)) name
  pub colon_is : Is Sign.Colon no_loads colon
  pub sort_is : Is Sign.Name no_loads sort
  pub same : SameBinder A T b (record { name = name.word; sort = sort.word })

pub binder_marks : (A T : List ℕ) (at : ℕ) (post : List ℕ) (v : ℕ) (b : Binder) → TidyBinder A b → Here T at (binder_piece A b ++ post) → breaks post ≡ true → v + 1 ≤ VARIABLES → BinderMarks A T at post v b
binder_marks A T at post v b tidy h e limit =
    let h' : Here T at (bytes_at A b.name ++ (codes ":" ++ (32 ∷ (bytes_at A b.sort ++ post)))) = here_as T _ _ at (simp append_assoc) h in
    let n = step_name T (bytes_at A b.name) (codes ":" ++ (32 ∷ (bytes_at A b.sort ++ post))) at Sign.Name (binding (v + 1)) h' tidy.name.name tidy.name.sign refl (within_binding (v + 1) limit) in
    let c = step_colon T (32 ∷ (bytes_at A b.sort ++ post)) n.next no_loads n.later within_none in
    let s = step_name T (bytes_at A b.sort) post (c.next + 1) Sign.Name no_loads (blank_later T _ c.next c.later) tidy.sort.name tidy.sort.sign e within_none in
    record {
      next = s.next;
      name = n.mark;
      colon = c.mark;
      sort = s.mark;
      later = s.later;
      goes =
          goes_on T at n.next s.next (n.mark ∷ []) (c.mark ∷ s.mark ∷ []) n.goes
          (goes_on T n.next c.next s.next (c.mark ∷ []) (s.mark ∷ []) c.goes
          (goes_on T c.next (c.next + 1) s.next [] (s.mark ∷ []) (goes_blank T _ c.next c.later) s.goes));
      name_is = n.is;
      colon_is = c.is;
      sort_is = s.is;
      same = record { name = sym n.spelled; sort = sym s.spelled };
    }

pub record BinderAt (A T : List ℕ) (at : ℕ) (post : List ℕ) (v : ℕ) (b : Binder) : Type 0 where
  pub next : ℕ
  pub marks : List Mark
  pub tree : Binder
  pub later : Here T next post
  pub goes : Goes T at next marks
  pub spelled : (rest : List Mark) → IsBinder v (marks ++ rest) tree rest
  pub same : SameBinder A T b tree

binder_at : (A T : List ℕ) (at : ℕ) (post : List ℕ) (v : ℕ) (b : Binder) → TidyBinder A b → Here T at (binder_piece A b ++ post) → breaks post ≡ true → v + 1 ≤ VARIABLES → BinderAt A T at post v b
binder_at A T at post v b tidy h e limit =
    let m = binder_marks A T at post v b tidy h e limit in
    record {
      next = m.next;
      marks = m.name ∷ m.colon ∷ m.sort ∷ [];
      tree = record { name = m.name.word; sort = m.sort.word };
      later = m.later;
      goes = m.goes;
      spelled = λ rest. IsBinder.binder m.name m.colon m.sort m.name_is m.colon_is m.sort_is;
      same = m.same;
    }

-- further binders: binders that end here go on with them
pub record BindersAt (A T : List ℕ) (at : ℕ) (post : List ℕ) (v j : ℕ) (bs : List Binder) : Type 0 where
  pub next : ℕ
  pub marks : List Mark
  pub trees : List Binder
  pub later : Here T next post
  pub goes : Goes T at next marks
  pub extends : (xs : List Binder) (ms : List Mark) → length xs ≡ j → ((rest : List Mark) → AreBinders v (ms ++ rest) xs rest) → (rest : List Mark) → AreBinders v ((ms ++ marks) ++ rest) (xs ++ trees) rest
  pub same : SameBinders A T bs trees

binders_break : {A : List ℕ} {bs : List Binder} {x : List ℕ} (post : List ℕ) → TidyBinders A bs x → breaks post ≡ true → breaks (x ++ post) ≡ true
binders_break post TidyBinders.no_binders e = e
binders_break post (TidyBinders.more_binders b bs) e = refl

binders_at : (A T : List ℕ) {bs : List Binder} {x : List ℕ} (at : ℕ) (post : List ℕ) (v j : ℕ) → TidyBinders A bs x → Here T at (x ++ post) → breaks post ≡ true → v + (j + length bs) ≤ VARIABLES → BindersAt A T at post v j bs
binders_at A T at post v j TidyBinders.no_binders h e limit =
    record {
      next = at;
      marks = [];
      trees = [];
      later = h;
      goes = goes_none T at;
      extends = λ xs ms n k rest. subst (λ ns. AreBinders v (ns ++ rest) (xs ++ []) rest) (sym (append-nil ms)) (subst (λ ys. AreBinders v (ms ++ rest) ys rest) (sym (append-nil xs)) (k rest));
      same = SameBinders.no_binders;
    }
binders_at A T at post v j (TidyBinders.more_binders {b = b} {more = more} first others) h e limit =
    let h' : Here T at (codes "," ++ (32 ∷ (binder_piece A b ++ (more ++ post)))) = here_as T _ _ at (simp append_assoc) h in
    let m = step_comma T (32 ∷ (binder_piece A b ++ (more ++ post))) at no_loads h' within_none in
    let f = binder_at A T (m.next + 1) (more ++ post) (v + j) b first (blank_later T _ m.next m.later) (binders_break post others e) (omega arith) in
    let g = binders_at A T f.next post v (j + 1) others f.later e (omega arith) in
    record {
      next = g.next;
      marks = m.mark ∷ (f.marks ++ g.marks);
      trees = f.tree ∷ g.trees;
      later = g.later;
      goes =
          goes_on T at m.next g.next (m.mark ∷ []) (f.marks ++ g.marks) m.goes
          (goes_on T m.next (m.next + 1) g.next [] (f.marks ++ g.marks) (goes_blank T _ m.next m.later)
          (goes_on T (m.next + 1) f.next g.next f.marks g.marks f.goes g.goes));
      extends = λ xs ms n k rest.
          subst (λ ns. AreBinders v (ns ++ rest) (xs ++ (f.tree ∷ g.trees)) rest) (append_assoc ms (m.mark ∷ f.marks) g.marks)
          (subst (λ ys. AreBinders v (((ms ++ (m.mark ∷ f.marks)) ++ g.marks) ++ rest) ys rest) (append_assoc xs (f.tree ∷ []) g.trees)
          (g.extends (xs ++ (f.tree ∷ [])) (ms ++ (m.mark ∷ f.marks)) (length-append xs (f.tree ∷ []) ∙ ap (λ l. l + 1) n)
          (λ q. subst (λ ns. AreBinders v ns (xs ++ (f.tree ∷ [])) q) (sym (append_assoc ms (m.mark ∷ f.marks) q))
          (AreBinders.more_binders m.mark (k (m.mark ∷ (f.marks ++ q))) m.is (subst (λ l. IsBinder (v + l) (f.marks ++ q) f.tree q) (sym n) (f.spelled q))))
          rest));
      same = SameBinders.more_binders f.same g.same;
    }

same_length : {A T : List ℕ} {bs cs : List Binder} → SameBinders A T bs cs → length cs ≡ length bs
same_length SameBinders.no_binders = refl
same_length (SameBinders.more_binders h k) = ap (λ n. suc n) (same_length k)

-- a quantifier's keyword and the blank after it
keyword_at : (T post : List ℕ) (at : ℕ) (universal : Bool) (l : Loads) → IsWithin l → Here T at (quantifier_word universal ++ (32 ∷ post)) → Between T at (Is (quantifier universal) l) post
keyword_at T post at true l w h =
    let s = step_name T (codes "forall") (32 ∷ post) at Sign.ForAll l h refl refl refl w in
    before_blank T post at s.next _ s.mark s.is s.goes s.later
keyword_at T post at false l w h =
    let s = step_name T (codes "exists") (32 ∷ post) at Sign.Exists l h refl refl refl w in
    before_blank T post at s.next _ s.mark s.is s.goes s.later

dot_at : (T post : List ℕ) (at : ℕ) → Here T at (codes ". " ++ post) → Between T at (Is Sign.Dot no_loads) post
dot_at T post at h =
    let s = step_dot T (32 ∷ post) at no_loads h within_none in
    before_blank T post at s.next _ s.mark s.is s.goes s.later

arrow_at : (T post : List ℕ) (at : ℕ) (l : Loads) → IsWithin l → Here T at (codes " -> " ++ post) → Between T at (Is Sign.Arrow l) post
arrow_at T post at l w h =
    let s = step_arrow T (32 ∷ post) (at + 1) l (blank_later T _ at h) w in
    after_blank T post _ at _ h (before_blank T post (at + 1) s.next _ s.mark s.is s.goes s.later)

double_at : (T post : List ℕ) (at : ℕ) (l : Loads) → IsWithin l → Here T at (codes " <-> " ++ post) → Between T at (Is Sign.DoubleArrow l) post
double_at T post at l w h =
    let s = step_double T (32 ∷ post) (at + 1) l (blank_later T _ at h) w in
    after_blank T post _ at _ h (before_blank T post (at + 1) s.next _ s.mark s.is s.goes s.later)

within_joining : (n p : ℕ) → n ≤ NESTINGS → p ≤ PATH → IsWithin (joining n p)
within_joining n p h k = record { nestings = h; path = k; variables = lit≤ tt }

implies_way : (A : List ℕ) (i v : ℕ) (p q : Tree) (x y : List ℕ) (n m : ℕ) → Way A i v p x n single_in → Way A i v q y m single_in → Way A i v (tree.Implies p q) (x ++ (codes " -> " ++ y)) (max n (m + 1)) formula_in
implies_way A i v p q x y n m left right T at post c k w h e =
    let h' : Here T at (x ++ (codes " -> " ++ (y ++ post))) = here_as T _ _ at (simp append_assoc) h in
    let f = left T at (codes " -> " ++ (y ++ post)) c k (omega arith) h' refl in
    let b = arrow_at T (y ++ post) f.next (opening (c.nestings + 1)) (within_opening (c.nestings + 1) (omega arith)) f.later in
    let g = right T b.next post (deeper c) (at_deeper c i v k) (omega arith) b.later e in
    record {
      next = g.next;
      marks = f.marks ++ (b.mark ∷ g.marks);
      tree = tree.Implies f.tree g.tree;
      later = g.later;
      goes = goes_on T at f.next g.next f.marks (b.mark ∷ g.marks) f.goes (goes_on T f.next b.next g.next (b.mark ∷ []) g.marks b.goes g.goes);
      spelled = λ rest.
          subst (λ ms. formula_in c (tree.Implies f.tree g.tree) ms rest) (sym (append_assoc f.marks (b.mark ∷ g.marks) rest))
          (End.Closed, (false, IsFormula.implied (IsImplied.more_implied b.mark (AreBoths.one_both (AreSingles.one_single (f.spelled (b.mark ∷ (g.marks ++ rest))))) b.is (implied_of (g.spelled rest)))));
      same = Same.implies f.same g.same;
    }

iff_way : (A : List ℕ) (i v : ℕ) (p q : Tree) (x y : List ℕ) (n m : ℕ) → i + 1 + longest_path p ≤ PATH → Way A i v p x n single_in → Way A (i + 1) v q y m single_in
    → Way A i v (tree.Iff p q) (x ++ (codes " <-> " ++ y)) (max n (m + 1)) formula_in
iff_way A i v p q x y n m limit left right T at post c k w h e =
    let h' : Here T at (x ++ (codes " <-> " ++ (y ++ post))) = here_as T _ _ at (simp append_assoc) h in
    let f = left T at (codes " <-> " ++ (y ++ post)) c k (omega arith) h' refl in
    let long = same_path f.same in
    let l : Loads = joining (c.nestings + 1) (c.iffs + 1 + longest_path f.tree) in
    let b = double_at T (y ++ post) f.next l (within_joining (c.nestings + 1) (c.iffs + 1 + longest_path f.tree) (omega arith) (omega (arith, long, k.iffs))) f.later in
    let g = right T b.next post (beside c) (at_beside c i v k) (omega arith) b.later e in
    record {
      next = g.next;
      marks = f.marks ++ (b.mark ∷ g.marks);
      tree = tree.Iff f.tree g.tree;
      later = g.later;
      goes = goes_on T at f.next g.next f.marks (b.mark ∷ g.marks) f.goes (goes_on T f.next b.next g.next (b.mark ∷ []) g.marks b.goes g.goes);
      spelled = λ rest.
          subst (λ ms. formula_in c (tree.Iff f.tree g.tree) ms rest) (sym (append_assoc f.marks (b.mark ∷ g.marks) rest))
          (End.Closed, (true, IsFormula.joined b.mark (implied_of (f.spelled (b.mark ∷ (g.marks ++ rest)))) tt b.is (implied_of (g.spelled rest))));
      same = Same.iff f.same g.same;
    }

quantified_way : (A : List ℕ) (i v : ℕ) (universal : Bool) (b : Binder) (bs : List Binder) (p : Tree) (more x : List ℕ) (n : ℕ) → TidyBinder A b → TidyBinders A bs more → v + length (b ∷ bs) ≤ VARIABLES
    → Way A i (v + length (b ∷ bs)) p x n formula_in → Way A i v (tree.Quantified universal (b ∷ bs) p) (quantifier_word universal ++ (codes " " ++ (binder_piece A b ++ (more ++ (codes ". " ++ x))))) (n + 1) formula_in
quantified_way A i v universal b bs p more x n first others limit body T at post c k w h e =
    let last : List ℕ = codes ". " ++ (x ++ post) in
    let h' : Here T at (quantifier_word universal ++ (32 ∷ (binder_piece A b ++ (more ++ last)))) = here_as T _ _ at (simp append_assoc) h in
    let q = keyword_at T (binder_piece A b ++ (more ++ last)) at universal (opening (c.nestings + 1)) (within_opening (c.nestings + 1) (omega arith)) h' in
    let f = binder_at A T q.next (more ++ last) c.variables b first q.later (binders_break last others refl) (omega (arith, k.variables)) in
    let g = binders_at A T f.next last c.variables 1 others f.later refl (omega (arith, k.variables)) in
    let d = dot_at T (x ++ post) g.next g.later in
    let cs : List Binder = f.tree ∷ g.trees in
    let long : length cs ≡ length (b ∷ bs) = same_length (SameBinders.more_binders f.same g.same) in
    let z = body T d.next post (inside (length cs) c) (at_inside c i v (length cs) (length (b ∷ bs)) long k) (omega arith) d.later e in
    let inner : List Mark = f.marks ++ g.marks in
    record {
      next = z.next;
      marks = q.mark ∷ (inner ++ (d.mark ∷ z.marks));
      tree = tree.Quantified universal cs z.tree;
      later = z.later;
      goes =
          goes_on T at q.next z.next (q.mark ∷ []) (inner ++ (d.mark ∷ z.marks)) q.goes
          (goes_on T q.next g.next z.next inner (d.mark ∷ z.marks) (goes_on T q.next f.next g.next f.marks g.marks f.goes g.goes)
          (goes_on T g.next d.next z.next (d.mark ∷ []) z.marks d.goes z.goes));
      spelled = λ rest.
          subst (λ ms. formula_in c (tree.Quantified universal cs z.tree) (q.mark ∷ ms) rest) (sym (append_assoc inner (d.mark ∷ z.marks) rest))
          (let y = z.spelled rest in (
            end_of y.1.0 y.0,
            (
              false,
              IsFormula.implied
                  (IsImplied.last_implied
                  (AreBoths.one_both
                  (AreSingles.one_single
                  (IsSingle.quantified universal q.mark d.mark q.is (g.extends (f.tree ∷ []) f.marks refl (λ r. AreBinders.one_binder (f.spelled r)) (d.mark ∷ (z.marks ++ rest))) d.is y.1.1)))),
            ),
          ));
      same = Same.quantified universal (SameBinders.more_binders f.same g.same) z.same;
    }

mutual
  -- a tidy formula is spelled wherever its canonical text stands
  pub ways : {A : List ℕ} {i v : ℕ} {p : Tree} {s : Shown} {n : Nestings} → Tidy A i v p s n → Ways A i v p s n
  ways {A = A} {i = i} {v = v} (Tidy.constant value) = bare_ways A i v (tree.Constant value) (constant_text value) 0 (constant_way A i v value) (constant_first value)
  ways {A = A} {i = i} {v = v} (Tidy.atom {t = t} {x = x} {n = n} h) = bare_ways A i v (tree.Atom t) x n (atom_way A i v t x n h) (term_first h)
  ways {A = A} {i = i} {v = v} (Tidy.equal {t = t} {u = u} {x = x} {y = y} {n = n} {m = m} h k) = equal_ways A i v t u x y n m h k
  ways {A = A} {i = i} {v = v} (Tidy.negated {p = p} {s = s} {n = n} h) = let inner = ways h in bare_ways A i v (tree.Not p) s.negated n.negated inner.negated inner.first_negated
  ways {A = A} {i = i} {v = v} (Tidy.all {p = p} {q = q} {ps = ps} {s = s} {more = more} {n = n} {k = k} h hs) =
      bracket_ways A i v (tree.All (p ∷ q ∷ ps)) (s.operand ++ more) (max n.operand k)
      (λ T at post c l w z e.
      let f = (ways h).operand T at (more ++ post) c l (omega arith) (here_as T _ _ at (append_assoc s.operand more post) z) (run_breaks post and_joins.breaks_before hs e) in
      let g = run_at true and_joins T f.next post c l hs f.later e (omega arith) in
      record {
        next = g.next;
        marks = f.marks ++ g.marks;
        tree = tree.All (f.tree ∷ g.trees);
        later = g.later;
        goes = goes_on T at f.next g.next f.marks g.marks f.goes g.goes;
        spelled = λ rest. (
          End.Closed,
          (
            false,
            IsFormula.implied
                (subst (λ x. IsImplied c End.Closed ((f.marks ++ g.marks) ++ rest) x rest) (all_is f.tree g.same)
                (IsImplied.last_implied (AreBoths.one_both (g.extends (f.tree ∷ []) f.marks (λ r. AreSingles.one_single (f.spelled r)) rest)))),
          ),
        );
        same = Same.all (SameRun.one_more f.same g.same);
      })
  ways {A = A} {i = i} {v = v} (Tidy.any {p = p} {q = q} {ps = ps} {s = s} {more = more} {n = n} {k = k} h hs) =
      bracket_ways A i v (tree.Any (p ∷ q ∷ ps)) (s.operand ++ more) (max n.operand k)
      (λ T at post c l w z e.
      let f = (ways h).operand T at (more ++ post) c l (omega arith) (here_as T _ _ at (append_assoc s.operand more post) z) (run_breaks post or_joins.breaks_before hs e) in
      let g = run_at false or_joins T f.next post c l hs f.later e (omega arith) in
      record {
        next = g.next;
        marks = f.marks ++ g.marks;
        tree = tree.Any (f.tree ∷ g.trees);
        later = g.later;
        goes = goes_on T at f.next g.next f.marks g.marks f.goes g.goes;
        spelled = λ rest. (
          End.Closed,
          (
            false,
            IsFormula.implied
                (subst (λ x. IsImplied c End.Closed ((f.marks ++ g.marks) ++ rest) x rest) (any_is f.tree g.same)
                (IsImplied.last_implied (g.extends (f.tree ∷ []) f.marks (λ r. AreBoths.one_both (AreSingles.one_single (f.spelled r))) rest))),
          ),
        );
        same = Same.any (SameRun.one_more f.same g.same);
      })
  ways {A = A} {i = i} {v = v} (Tidy.implies {p = p} {q = q} {s = s} {t = t} {n = n} {m = m} h k) =
      bracket_ways A i v (tree.Implies p q) (s.operand ++ (codes " -> " ++ t.operand)) (max n.operand (m.operand + 1)) (implies_way A i v p q s.operand t.operand n.operand m.operand (ways h).operand (ways k).operand)
  ways {A = A} {i = i} {v = v} (Tidy.iff {p = p} {q = q} {s = s} {t = t} {n = n} {m = m} l h k) =
      bracket_ways A i v (tree.Iff p q) (s.operand ++ (codes " <-> " ++ t.operand)) (max n.operand (m.operand + 1)) (iff_way A i v p q s.operand t.operand n.operand m.operand l (ways h).operand (ways k).operand)
  ways {A = A} {i = i} {v = v} (Tidy.quantified {b = b} {bs = bs} {more = more} {p = p} {s = s} {n = n} universal first others limit h) =
      bracket_ways A i v (tree.Quantified universal (b ∷ bs) p) (quantifier_word universal ++ (codes " " ++ (binder_piece A b ++ (more ++ (codes ". " ++ s.text))))) (n.alone + 1)
      (quantified_way A i v universal b bs p more s.text n.alone first others limit (ways h).alone)

  run_at : {A sign : List ℕ} {i v : ℕ} {ps : List Tree} {x : List ℕ} {k : ℕ} (both : Bool) → Joins sign (joint both) (run_in both) → (T : List ℕ) (at : ℕ) (post : List ℕ) (c : Context)
      → IsAt c i v → TidyRun A sign i v ps x k → Here T at (x ++ post) → breaks post ≡ true → c.nestings + k ≤ NESTINGS → RunAt A T at post ps (run_in both c)
  run_at both joins T at post c l TidyRun.no_more h e limit =
      record {
        next = at;
        marks = [];
        trees = [];
        later = h;
        goes = goes_none T at;
        extends = λ xs ms k rest. subst (λ ns. run_in both c (ns ++ rest) (xs ++ []) rest) (sym (append-nil ms)) (subst (λ ys. run_in both c (ms ++ rest) ys rest) (sym (append-nil xs)) (k rest));
        same = SameRun.no_more;
      }
  run_at both joins T at post c l (TidyRun.one_more {sign = sign} {s = s} {more = more} first others) h e limit =
      let h' : Here T at (sign ++ (s.operand ++ (more ++ post))) = here_as T _ _ at (simp append_assoc) h in
      let b = joins.sign_at T (s.operand ++ (more ++ post)) at h' in
      let f = (ways first).operand T b.next (more ++ post) c l (omega arith) b.later (run_breaks post joins.breaks_before others e) in
      let g = run_at both joins T f.next post c l others f.later e (omega arith) in
      record {
        next = g.next;
        marks = b.mark ∷ (f.marks ++ g.marks);
        trees = f.tree ∷ g.trees;
        later = g.later;
        goes = goes_on T at b.next g.next (b.mark ∷ []) (f.marks ++ g.marks) b.goes (goes_on T b.next f.next g.next f.marks g.marks f.goes g.goes);
        extends = λ xs ms k rest.
            subst (λ ns. run_in both c (ns ++ rest) (xs ++ (f.tree ∷ g.trees)) rest) (append_assoc ms (b.mark ∷ f.marks) g.marks)
            (subst (λ ys. run_in both c (((ms ++ (b.mark ∷ f.marks)) ++ g.marks) ++ rest) ys rest) (append_assoc xs (f.tree ∷ []) g.trees)
            (g.extends (xs ++ (f.tree ∷ [])) (ms ++ (b.mark ∷ f.marks))
            (λ q. subst (λ ns. run_in both c ns (xs ++ (f.tree ∷ [])) q) (sym (append_assoc ms (b.mark ∷ f.marks) q)) (joins.adds c (ms ++ (b.mark ∷ (f.marks ++ q))) (f.marks ++ q) q xs f.tree b.mark (k (b.mark ∷ (f.marks ++ q))) b.is (f.spelled q)))
            rest));
        same = SameRun.one_more f.same g.same;
      }
