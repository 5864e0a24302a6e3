-- Where a text has the canonical text of a term, its marks spell a term of the same names.
use Rattle.std.specs.Prelude.{◌≡◌, ℕ, ◌+◌, ◌≤◌, Bool, true, false, List, [], ◌∷◌, ◌++◌, codes}
use Rattle.std.proofs.Common.{refl, sym, ap, subst, ◌∙◌, arith, append_assoc, append-nil, lit≤}
use Rattle.sw_trees.specs.declared.limits.TheConstants.{NESTINGS}
use Rattle.sw_logic.specs.declared.variables.TheConstants.{VARIABLES}
use Rattle.sw_trees.specs.declared.words.Sign.{Sign}
use Rattle.sw_trees.specs.declared.words.Word.{Word}
use Rattle.sw_trees.specs.declared.tree.TermTree.{TermTree}
use Rattle.sw_trees.specs.declared.tree.TermTree.TheVariants as term
use Rattle.sw_text.specs.Names.{bytes_at}
use Rattle.sw_trees.specs.Grammar.{Mark, no_loads, opening, binding, IsHead, IsTerm, AreTerms}
use Rattle.sw_trees.specs.Limits.{IsWithin}
use Rattle.sw_readback.proofs.Spacing.{Goes, Here, goes_none, goes_on, goes_blank, blank_later, breaks, step_name, step_prime, step_left, step_right, step_comma}
use Rattle.sw_readback.proofs.Tidy.{IsNameIn, head_text, TidyTerm, TidyTerms, SameBytes, SameTerm, SameTerms}

pub within_none : IsWithin no_loads
within_none = record { nestings = lit≤ tt; path = lit≤ tt; variables = lit≤ tt }

pub within_opening : (n : ℕ) → n ≤ NESTINGS → IsWithin (opening n)
within_opening n h = record { nestings = h; path = lit≤ tt; variables = lit≤ tt }

pub within_binding : (n : ℕ) → n ≤ VARIABLES → IsWithin (binding n)
within_binding n h = record { nestings = lit≤ tt; path = lit≤ tt; variables = h }

pub here_as : (T xs ys : List ℕ) (at : ℕ) → xs ≡ ys → Here T at xs → Here T at ys
here_as T xs ys at e h = subst (Here T at) e h

-- a mark after a blank and before another
pub record Between (T : List ℕ) (at : ℕ) (P : Mark → Type 0) (post : List ℕ) : Type 0 where
  pub next : ℕ
  pub mark : Mark
  pub is : P mark
  pub goes : Goes T at next (mark ∷ [])
  pub later : Here T next post

-- a mark before a blank
pub before_blank : (T post : List ℕ) (at mid : ℕ) (P : Mark → Type 0) (m : Mark) → P m → Goes T at mid (m ∷ []) → Here T mid (32 ∷ post) → Between T at P post
before_blank T post at mid P m is g h =
    record { next = mid + 1; mark = m; is = is; goes = goes_on T at mid (mid + 1) (m ∷ []) [] g (goes_blank T post mid h); later = blank_later T post mid h }

pub after_blank : (T post more : List ℕ) (at : ℕ) (P : Mark → Type 0) → Here T at (32 ∷ more) → Between T (at + 1) P post → Between T at P post
after_blank T post more at P h b =
    record { next = b.next; mark = b.mark; is = b.is; goes = goes_on T at (at + 1) b.next [] (b.mark ∷ []) (goes_blank T more at h) b.goes; later = b.later }

module _ (A T : List ℕ) where
  pub record HeadAt (at : ℕ) (post : List ℕ) (w : Word) (primed : Bool) : Type 0 where
    pub next : ℕ
    pub marks : List Mark
    pub word : Word
    pub later : Here T next post
    pub goes : Goes T at next marks
    pub spelled : (rest : List Mark) → IsHead (marks ++ rest) word primed rest
    pub same : SameBytes A T w word

  pub head_at : (w : Word) (primed : Bool) (post : List ℕ) (at : ℕ) → IsNameIn A w → Here T at (head_text A w primed ++ post) → breaks post ≡ true → HeadAt at post w primed
  head_at w false post at name h e =
      let s = step_name T (bytes_at A w) post at Sign.Name no_loads (here_as T _ _ at (ap (λ x. x ++ post) (append-nil (bytes_at A w))) h) name.name name.sign e within_none in
      record { next = s.next; marks = s.mark ∷ []; word = s.mark.word; later = s.later; goes = s.goes; spelled = λ rest. IsHead.plain s.mark s.is; same = sym s.spelled }
  head_at w true post at name h e =
      let s = step_name T (bytes_at A w) (codes "'" ++ post) at Sign.Name no_loads (here_as T _ _ at (append_assoc (bytes_at A w) (codes "'") post) h) name.name name.sign refl within_none in
      let q = step_prime T post s.next no_loads s.later within_none in
      record {
        next = q.next;
        marks = s.mark ∷ q.mark ∷ [];
        word = s.mark.word;
        later = q.later;
        goes = goes_on T at s.next q.next (s.mark ∷ []) (q.mark ∷ []) s.goes q.goes;
        spelled = λ rest. IsHead.primed s.mark q.mark s.is q.is;
        same = sym s.spelled;
      }

  pub record TermAt (at : ℕ) (post : List ℕ) (d : ℕ) (t : TermTree) : Type 0 where
    pub next : ℕ
    pub marks : List Mark
    pub tree : TermTree
    pub later : Here T next post
    pub goes : Goes T at next marks
    pub spelled : (rest : List Mark) → IsTerm d (marks ++ rest) tree rest
    pub same : SameTerm A T t tree

  -- further terms: terms that end here go on with them
  pub record TermsAt (at : ℕ) (post : List ℕ) (d : ℕ) (ts : List TermTree) : Type 0 where
    pub next : ℕ
    pub marks : List Mark
    pub trees : List TermTree
    pub later : Here T next post
    pub goes : Goes T at next marks
    pub extends : (xs : List TermTree) (ms : List Mark) → ((rest : List Mark) → AreTerms d (ms ++ rest) xs rest) → (rest : List Mark) → AreTerms d ((ms ++ marks) ++ rest) (xs ++ trees) rest
    pub same : SameTerms A T ts trees

  pub terms_break : {ts : List TermTree} {x : List ℕ} {n : ℕ} (post : List ℕ) → TidyTerms A ts x n → breaks post ≡ true → breaks (x ++ post) ≡ true
  terms_break post TidyTerms.no_terms e = e
  terms_break post (TidyTerms.more_terms t ts) e = refl

  term_marks : (front inner : List Mark) (l r : Mark) (rest : List Mark) → (front ++ (l ∷ (inner ++ (r ∷ [])))) ++ rest ≡ front ++ (l ∷ (inner ++ (r ∷ rest)))
  term_marks front inner l r rest = append_assoc front (l ∷ (inner ++ (r ∷ []))) rest ∙ ap (λ q. front ++ (l ∷ q)) (append_assoc inner (r ∷ []) rest)

  mutual
    pub term_at : {t : TermTree} {x : List ℕ} {n : ℕ} (at d : ℕ) (post : List ℕ) → TidyTerm A t x n → Here T at (x ++ post) → breaks post ≡ true → d + n ≤ NESTINGS → TermAt at post d t
    term_at at d post (TidyTerm.named {w = w} primed name) h e limit =
        let k = head_at w primed post at name h e in
        record { next = k.next; marks = k.marks; tree = term.Named k.word primed; later = k.later; goes = k.goes; spelled = λ rest. IsTerm.bare (k.spelled rest); same = SameTerm.named primed k.same }
    term_at at d post (TidyTerm.applied {w = w} {x = x} {more = more} primed name first others) h e limit =
        let post' : List ℕ = codes ")" ++ post in
        let h' : Here T at (head_text A w primed ++ (codes "(" ++ (x ++ (more ++ post')))) = here_as T _ _ at (simp append_assoc) h in
        let k = head_at w primed (codes "(" ++ (x ++ (more ++ post'))) at name h' refl in
        let l = step_left T (x ++ (more ++ post')) k.next (opening (d + 1)) k.later (within_opening (d + 1) (omega arith)) in
        let f = term_at l.next (d + 1) (more ++ post') first l.later (terms_break post' others refl) (omega arith) in
        let g = terms_at f.next (d + 1) post' others f.later refl (omega arith) in
        let r = step_right T post g.next no_loads g.later within_none in
        let inner : List Mark = f.marks ++ g.marks in
        record {
          next = r.next;
          marks = k.marks ++ (l.mark ∷ (inner ++ (r.mark ∷ [])));
          tree = term.Applied k.word primed (f.tree ∷ g.trees);
          later = r.later;
          goes =
              goes_on T at k.next r.next k.marks (l.mark ∷ (inner ++ (r.mark ∷ []))) k.goes
              (goes_on T k.next l.next r.next (l.mark ∷ []) (inner ++ (r.mark ∷ [])) l.goes
              (goes_on T l.next g.next r.next inner (r.mark ∷ []) (goes_on T l.next f.next g.next f.marks g.marks f.goes g.goes) r.goes));
          spelled = λ rest.
              subst (λ ms. IsTerm d ms (term.Applied k.word primed (f.tree ∷ g.trees)) rest) (sym (term_marks k.marks inner l.mark r.mark rest))
              (IsTerm.applied l.mark r.mark (k.spelled (l.mark ∷ (inner ++ (r.mark ∷ rest)))) l.is (g.extends (f.tree ∷ []) f.marks (λ q. AreTerms.one_term (f.spelled q)) (r.mark ∷ rest)) r.is);
          same = SameTerm.applied primed k.same (SameTerms.more_terms f.same g.same);
        }

    pub terms_at : {ts : List TermTree} {x : List ℕ} {n : ℕ} (at d : ℕ) (post : List ℕ) → TidyTerms A ts x n → Here T at (x ++ post) → breaks post ≡ true → d + n ≤ NESTINGS → TermsAt at post d ts
    terms_at at d post TidyTerms.no_terms h e limit =
        record {
          next = at;
          marks = [];
          trees = [];
          later = h;
          goes = goes_none T at;
          extends = λ xs ms k rest. subst (λ ns. AreTerms d (ns ++ rest) (xs ++ []) rest) (sym (append-nil ms)) (subst (λ ys. AreTerms d (ms ++ rest) ys rest) (sym (append-nil xs)) (k rest));
          same = SameTerms.no_terms;
        }
    terms_at at d post (TidyTerms.more_terms {x = x} {more = more} first others) h e limit =
        let h' : Here T at (codes "," ++ (32 ∷ (x ++ (more ++ post)))) = here_as T _ _ at (simp append_assoc) h in
        let m = step_comma T (32 ∷ (x ++ (more ++ post))) at no_loads h' within_none in
        let f = term_at (m.next + 1) d (more ++ post) first (blank_later T (x ++ (more ++ post)) m.next m.later) (terms_break post others e) (omega arith) in
        let g = terms_at f.next d post others f.later e (omega arith) in
        record {
          next = g.next;
          marks = m.mark ∷ (f.marks ++ g.marks);
          trees = f.tree ∷ g.trees;
          later = g.later;
          goes =
              goes_on T at m.next g.next (m.mark ∷ []) (f.marks ++ g.marks) m.goes
              (goes_on T m.next (m.next + 1) g.next [] (f.marks ++ g.marks) (goes_blank T (x ++ (more ++ post)) m.next m.later)
              (goes_on T (m.next + 1) f.next g.next f.marks g.marks f.goes g.goes));
          extends = λ xs ms k rest.
              subst (λ ns. AreTerms d (ns ++ rest) (xs ++ (f.tree ∷ g.trees)) rest) (append_assoc ms (m.mark ∷ f.marks) g.marks)
              (subst (λ ys. AreTerms d (((ms ++ (m.mark ∷ f.marks)) ++ g.marks) ++ rest) ys rest) (append_assoc xs (f.tree ∷ []) g.trees)
              (g.extends (xs ++ (f.tree ∷ [])) (ms ++ (m.mark ∷ f.marks))
              (λ q. subst (λ ns. AreTerms d ns (xs ++ (f.tree ∷ [])) q) (sym (append_assoc ms (m.mark ∷ f.marks) q)) (AreTerms.more_terms m.mark (k (m.mark ∷ (f.marks ++ q))) m.is (f.spelled q)))
              rest));
          same = SameTerms.more_terms f.same g.same;
        }
