-- Where a text has a transition as canonical text has it, its marks spell one that declares the same.
use Rattle.std.specs.Prelude.{◌≡◌, ℕ, suc, ◌+◌, ◌≤◌, Bool, true, false, List, [], ◌∷◌, ◌++◌, length, map, Option, Some, None, slice_get, codes}
use Rattle.std.specs.List.{AllByRecursion}
use Rattle.std.proofs.Common.{refl, sym, ap, subst, ◌∙◌, arith, append_assoc, append-nil}
use Rattle.std.proofs.lemmas.List.{length-map}
use Rattle.sw_logic.specs.declared.syntax.Binder as logic
use Rattle.sw_logic.specs.declared.syntax.Formula.{Formula}
use Rattle.sw_logic.specs.declared.variables.TheConstants.{VARIABLES}
use Rattle.sw_logic.specs.Canonical.{names_of, text_of}
use Rattle.sw_meaning.specs.declared.protocol.Protocol.{Protocol}
use Rattle.sw_meaning.specs.declared.protocol.Transition.{Transition}
use Rattle.sw_meaning.specs.declared.protocol.Decl.{Decl}
use Rattle.sw_meaning.specs.ProtocolText.{name_text, listed, params_text, modifies_text, heading_text, transition_text, declaration_text}
use Rattle.sw_trees.specs.declared.limits.TheConstants.{NESTINGS}
use Rattle.sw_trees.specs.declared.words.Keyword.{Keyword}
use Rattle.sw_trees.specs.declared.words.Sign.{Sign}
use Rattle.sw_trees.specs.declared.words.Word.{Word}
use Rattle.sw_trees.specs.declared.tree.Binder.{Binder}
use Rattle.sw_trees.specs.declared.tree.Tree.{Tree}
use Rattle.sw_text.specs.declared.names.Place.{Place}
use Rattle.sw_trees.specs.Measures.{nestings_of, Nestings}
use Rattle.sw_text.specs.Names.{Around, bytes_at, faults, formula_read, binders_faults, bound}
use Rattle.sw_trees.specs.Grammar.{Loads, Mark, Is, no_loads, opening, End, IsFormula}
use Rattle.sw_readback.specs.Formulas.{with_text}
use Rattle.sw_readback.proofs.Spacing.{Goes, Here, goes_none, goes_on, blank_later, breaks}
use Rattle.sw_readback.proofs.SpeltTerms.{within_opening, here_as, Between, after_blank}
use Rattle.sw_readback.proofs.SpeltForms.{IsAt}
use Rattle.sw_text.proofs.SortedTerms.{apart}
use Rattle.sw_readback.proofs.SameMeaning.{none, all_bound_same, binders_fine}
use Rattle.sw_readback.proofs.Tidy.{IsNameIn, binder_piece, SameBinders}
use Rattle.sw_readback.proofs.Tidied.{AllGood}
use Rattle.sw_readback.proofs.ShownAs.{Extends}
use Rattle.sw_readback.proofs.Formulas.{Stands, spelled_stands}
use Rattle.sw_protocol.specs.declared.tree.Heading.{Heading}
use Rattle.sw_protocol.specs.declared.tree.Declaration.{Declaration}
use Rattle.sw_protocol.specs.declared.tree.Declaration.TheVariants as declaration
use Rattle.sw_protocol.specs.declared.draft.Item.{Item}
use Rattle.sw_protocol.specs.declared.draft.Item.TheVariants as item
use Rattle.sw_protocol.specs.Grammar.{IsKeyword, with_params, AreNames, MayTake, MayModify, IsHeading, IsDeclaration}
use Rattle.sw_protocol.specs.Declaring.{after, knowing, standing, with_own_name, params_of, in_step, symbol_of, symbols_of, name_faults, modified_faults, named_faults, named_transition, declaration_faults, item_of, with_item}
use Rattle.sw_readback.proofs.Growing.{Grows, grows_on, grows_item, extends_of, last_is}
use Rattle.sw_readback.proofs.WrittenLists.{IsFine, names_piece, bytes_of, names_at, other_params, all_params_at}
use Rattle.sw_readback.proofs.WrittenNames.{names_listed, symbols_shown, params_shown, name_fine, modified_fine, symbols_same}
use Rattle.sw_readback.proofs.WrittenDeclarations.{IsNewIn, keyword_at, colon_at, end_at, DeclaredAt, new_at, text_at}

module _ (A T : List ℕ) where
  -- parameters as canonical text has them
  abbrev pub params_piece : List Binder → List ℕ
  params_piece [] = []
  params_piece (b ∷ bs) = codes "(" ++ ((binder_piece A b ++ other_params A T bs) ++ codes ")")

  params_break : (bs : List Binder) (post : List ℕ) → breaks post ≡ true → breaks (params_piece bs ++ post) ≡ true
  params_break [] post e = e
  params_break (b ∷ bs) post e = refl

  pub record TakesAt (at : ℕ) (post : List ℕ) (bs : List Binder) : Type 0 where
    pub next : ℕ
    pub marks : List Mark
    pub trees : List Binder
    pub later : Here T next post
    pub goes : Goes T at next marks
    pub spelled : (rest : List Mark) → MayTake T (marks ++ rest) trees rest
    pub same : SameBinders A T bs trees

  takes_at : (bs : List Binder) (at : ℕ) (post : List ℕ) → AllByRecursion (IsFine A) bs → length bs ≤ VARIABLES → Here T at (params_piece bs ++ post) → TakesAt at post bs
  takes_at [] at post fine limit h = record { next = at; marks = []; trees = []; later = h; goes = goes_none T at; spelled = λ rest. MayTake.no_params; same = SameBinders.no_binders }
  takes_at (b ∷ bs) at post fine limit h =
      let r = all_params_at A T b bs at post fine limit (here_as T _ _ at (params_apart (binder_piece A b) (other_params A T bs) post) h) in
      record { next = r.next; marks = r.marks; trees = r.trees; later = r.later; goes = r.goes; spelled = r.spelled; same = r.same }
    where
      params_apart : (x y post : List ℕ) → (codes "(" ++ ((x ++ y) ++ codes ")")) ++ post ≡ codes "(" ++ (x ++ (y ++ (codes ")" ++ post)))
      params_apart x y post = simp append_assoc

  -- what is modified as canonical text has it
  abbrev pub modifies_piece : List Word → List ℕ
  modifies_piece [] = []
  modifies_piece (w ∷ ws) = codes " modifies " ++ names_piece A (w ∷ ws)

  modifies_break : (ws : List Word) (post : List ℕ) → breaks post ≡ true → breaks (modifies_piece ws ++ post) ≡ true
  modifies_break [] post e = e
  modifies_break (w ∷ ws) post e = refl

  pub record ModifiesAt (at : ℕ) (post : List ℕ) (ws : List Word) : Type 0 where
    pub next : ℕ
    pub marks : List Mark
    pub words : List Word
    pub later : Here T next post
    pub goes : Goes T at next marks
    pub spelled : (rest : List Mark) → MayModify (marks ++ rest) words rest
    pub same : bytes_of A ws ≡ bytes_of T words

  modifies_at : (ws : List Word) (at : ℕ) (post : List ℕ) → AllByRecursion (IsNameIn A) ws → Here T at (modifies_piece ws ++ post) → breaks post ≡ true → ModifiesAt at post ws
  modifies_at [] at post names h e = record { next = at; marks = []; words = []; later = h; goes = goes_none T at; spelled = λ rest. MayModify.modifies_none; same = refl }
  modifies_at (w ∷ ws) at post names h e =
      let xs = names_piece A (w ∷ ws) ++ post in
      let h' : Here T at (32 ∷ (codes "modifies" ++ (32 ∷ xs))) = here_as T _ _ at (append_assoc (codes " modifies ") (names_piece A (w ∷ ws)) post) h in
      let blank = blank_later T (codes "modifies" ++ (32 ∷ xs)) at h' in
      let k = after_blank T xs (codes "modifies" ++ (32 ∷ xs)) at (IsKeyword Keyword.Modifies) h' (keyword_at T Keyword.Modifies (codes "modifies") (at + 1) xs refl refl blank) in
      let n = names_at A T w ws k.next post names k.later e in
      record {
        next = n.next;
        marks = k.mark ∷ n.marks;
        words = n.words;
        later = n.later;
        goes = goes_on T at k.next n.next (k.mark ∷ []) n.marks k.goes n.goes;
        spelled = λ rest. MayModify.modifies k.mark k.is (n.spelled rest);
        same = n.same;
      }

-- what is read is the same where the same names are read by
module _ (A T : List ℕ) (q p : Protocol) where
  abbrev own : Heading → Around
  own h = with_own_name (after A q) h

  abbrev here : Heading → Around
  here h = with_own_name (after T q) h

  -- a heading of the same names
  pub record SameHeading (h k : Heading) : Type 0 where
    pub name : bytes_at A h.name ≡ bytes_at T k.name
    pub params : SameBinders A T h.params k.params
    pub modifies : bytes_of A h.modifies ≡ bytes_of T k.modifies

  around_same : (h k : Heading) → SameHeading h k → here k ≡ with_text (own h) T
  around_same h k s = ap (λ (name : List ℕ). knowing name (after T q)) (sym s.name)

  step_same : (h k : Heading) → SameHeading h k → in_step (here k) k ≡ with_text (in_step (own h) h) T
  step_same h k s =
      ap (λ (d : Around). in_step d k) (around_same h k s)
      ∙ ap (λ (ks : List ℕ). standing (Place.Step ks) (with_text (own h) T)) (symbols_same (own h) T h.modifies k.modifies s.modifies)

  params_same : (h k : Heading) → SameHeading h k → params_of (here k) k ≡ params_of (own h) h
  params_same h k s = ap (λ (d : Around). params_of d k) (around_same h k s) ∙ all_bound_same (own h) T s.params

  -- the text of a transition
  heading_shown : (h : Heading) → Extends q.signature p.signature → (t : Transition) → t.name ≡ bytes_at A h.name → t.params ≡ params_of (own h) h → t.modifies ≡ symbols_of (own h) h.modifies
      → binders_faults (own h) [] h.params ≡ [] → modified_faults (own h) [] h.modifies ≡ []
      → heading_text p.signature t ≡ ((codes "transition " ++ bytes_at A h.name) ++ params_piece A T h.params) ++ modifies_piece A T h.modifies
  heading_shown h x t n b m fine changed =
      ap (λ (y : List ℕ). ((codes "transition " ++ y) ++ params_text p.signature t.params) ++ modifies_text p.signature t.modifies) n
      ∙ ap (λ (bs : List logic.Binder). ((codes "transition " ++ bytes_at A h.name) ++ params_text p.signature bs) ++ modifies_text p.signature t.modifies) b
      ∙ ap (λ (y : List ℕ). ((codes "transition " ++ bytes_at A h.name) ++ y) ++ modifies_text p.signature t.modifies) (params_are h.params fine)
      ∙ ap (λ (ks : List ℕ). ((codes "transition " ++ bytes_at A h.name) ++ params_piece A T h.params) ++ modifies_text p.signature ks) m
      ∙ ap (λ (y : List ℕ). ((codes "transition " ++ bytes_at A h.name) ++ params_piece A T h.params) ++ y) (modifies_are h.modifies changed)
    where
      params_are : (bs : List Binder) → binders_faults (own h) [] bs ≡ [] → params_text p.signature (map (bound (own h)) bs) ≡ params_piece A T bs
      params_are [] e = refl
      params_are (b ∷ bs) e = params_shown (own h) p.signature x b bs e

      modifies_are : (ws : List Word) → modified_faults (own h) [] ws ≡ [] → modifies_text p.signature (symbols_of (own h) ws) ≡ modifies_piece A T ws
      modifies_are [] e = refl
      modifies_are (w ∷ ws) e = ap (λ (y : List ℕ). codes " modifies " ++ y) (names_listed A (name_text p.signature) (symbol_of (own h)) (w ∷ ws) (symbols_shown (own h) p.signature x [] (w ∷ ws) e))

  whole_text : (x ps ms f post : List ℕ) → (((((((codes "transition " ++ x) ++ ps) ++ ms) ++ codes ": ") ++ f) ++ codes ";") ++ 10 ∷ []) ++ post ≡ codes "transition" ++ (32 ∷ (x ++ (ps ++ (ms ++ (codes ":" ++ (32 ∷ (f ++ (codes ";" ++ (10 ∷ post)))))))))
  whole_text x ps ms f post = simp append_assoc

  pub transition_at : (h : Heading) (end_is : End) (has_iff : Bool) (ms rest : List Mark) (x : Tree) → IsFormula (with_params (length h.params)) end_is has_iff ms x rest → AllGood A ms → (nestings_of x).alone ≤ NESTINGS
      → (at : ℕ) (post : List ℕ) → IsNewIn A h.name → AllByRecursion (IsFine A) h.params → length h.params ≤ VARIABLES → AllByRecursion (IsNameIn A) h.modifies
      → name_faults (after A q) h.name ++ named_faults (own h) h x ≡ []
      → Grows (with_item q (item.Transition (named_transition (own h) h x))) p
      → Here T at (text_at A T q p (item.Transition (named_transition (own h) h x)) post)
      → DeclaredAt T q (item.Transition (named_transition (own h) h x)) at post
  transition_at h end_is has_iff ms rest x spelled good nests at post new params limit names fine g here_is =
      let t = named_transition (own h) h x in
      let a = in_step (own h) h in
      let scope = params_of (own h) h in
      let sig = p.signature in
      let both = apart (name_faults (after A q) h.name) (named_faults (own h) h x) fine in
      let bind = apart (binders_faults (own h) [] h.params) (modified_faults (own h) [] h.modifies ++ faults a x scope) both.1 in
      let change = apart (modified_faults (own h) [] h.modifies) (faults a x scope) bind.1 in
      let ext = extends_of q p (grows_on q (with_item q (item.Transition t)) p (grows_item q (item.Transition t)) g) in
      let name = bytes_at A h.name in
      let f = text_of sig (names_of scope) t.formula in
      let last : List ℕ = codes ";" ++ (10 ∷ post) in
      let back : List ℕ = codes ":" ++ (32 ∷ (f ++ last)) in
      let there : declaration_text p (Decl.Transition (length q.transitions)) ≡ (heading_text sig t ++ codes ": ") ++ f = ap (transition_text sig) (g.transitions (length q.transitions) t (last_is q.transitions t)) in
      let piece : text_at A T q p (item.Transition t) post ≡ codes "transition" ++ (32 ∷ (name ++ (params_piece A T h.params ++ (modifies_piece A T h.modifies ++ back)))) =
      ap (λ (z : List ℕ). ((z ++ codes ";") ++ 10 ∷ []) ++ post) there
      ∙ ap (λ (z : List ℕ). ((((z ++ codes ": ") ++ f) ++ codes ";") ++ 10 ∷ []) ++ post) (heading_shown h ext t refl refl refl bind.0 change.0)
      ∙ whole_text name (params_piece A T h.params) (modifies_piece A T h.modifies) f post in
      let k = keyword_at T Keyword.Transition (codes "transition") at (name ++ (params_piece A T h.params ++ (modifies_piece A T h.modifies ++ back))) refl refl (here_as T _ _ at piece here_is) in
      let w = new_at A T q p h.name k.next (params_piece A T h.params ++ (modifies_piece A T h.modifies ++ back)) new k.later (params_break A T h.params (modifies_piece A T h.modifies ++ back) (modifies_break A T h.modifies back refl)) in
      let b = takes_at A T h.params w.next (modifies_piece A T h.modifies ++ back) params limit w.later in
      let m = modifies_at A T h.modifies b.next back names b.later refl in
      let d = colon_at T m.next (f ++ last) m.later in
      let tree_heading : Heading = record { name = w.mark.word; params = b.trees; modifies = m.words } in
      let same : SameHeading h tree_heading = record { name = w.same; params = b.same; modifies = m.same } in
      let many : length h.params ≡ length b.trees = same_length b.same in
      let s = spelled_stands a sig ext scope (with_params (length h.params)) end_is has_iff ms rest x spelled good change.1 T d.next last (with_params (length h.params)) (record { iffs = refl; variables = refl }) (omega (arith, nests)) d.later refl in
      let count : (nestings_of s.tree).alone ≡ (nestings_of x).alone = ap (λ (n : Nestings). n.alone) s.nestings in
      let e = end_at T (opening (nestings_of s.tree).alone) s.next post s.later (within_opening (nestings_of s.tree).alone (omega (arith, count, nests))) in
      let read_fine : faults (in_step (here tree_heading) tree_heading) s.tree (params_of (here tree_heading) tree_heading) ≡ [] =
      subst (λ (d : Around). faults d s.tree (params_of (here tree_heading) tree_heading) ≡ []) (sym (step_same h tree_heading same))
      (subst (λ (vs : List logic.Binder). faults (with_text a T) s.tree vs ≡ []) (sym (params_same h tree_heading same)) s.fine) in
      let bound_fine : binders_faults (here tree_heading) [] b.trees ≡ [] =
      subst (λ (d : Around). binders_faults d [] b.trees ≡ []) (sym (around_same h tree_heading same)) (binders_fine (own h) T [] b.same bind.0) in
      let changed_fine : modified_faults (here tree_heading) [] m.words ≡ [] =
      subst (λ (d : Around). modified_faults d [] m.words ≡ []) (sym (around_same h tree_heading same)) (modified_fine (own h) T [] [] h.modifies m.words refl m.same change.0) in
      let formula_is : formula_read (in_step (here tree_heading) tree_heading) s.tree (params_of (here tree_heading) tree_heading) ≡ t.formula =
      ap (λ (d : Around). formula_read d s.tree (params_of (here tree_heading) tree_heading)) (step_same h tree_heading same)
      ∙ ap (λ (vs : List logic.Binder). formula_read (with_text a T) s.tree vs) (params_same h tree_heading same)
      ∙ s.is in
      let symbols_is : symbols_of (here tree_heading) m.words ≡ t.modifies = ap (λ (d : Around). symbols_of d m.words) (around_same h tree_heading same) ∙ symbols_same (own h) T h.modifies m.words m.same in
      record {
        next = e.next;
        marks = k.mark ∷ w.mark ∷ (b.marks ++ (m.marks ++ (d.mark ∷ (s.marks ++ (e.mark ∷ [])))));
        tree = declaration.Transition tree_heading s.tree;
        later = e.later;
        goes =
            goes_on T at k.next e.next (k.mark ∷ []) _ k.goes
            (goes_on T k.next w.next e.next (w.mark ∷ []) _ w.goes
            (goes_on T w.next b.next e.next b.marks _ b.goes
            (goes_on T b.next m.next e.next m.marks _ m.goes
            (goes_on T m.next d.next e.next (d.mark ∷ []) _ d.goes
            (goes_on T d.next s.next e.next s.marks (e.mark ∷ []) s.goes e.goes)))));
        spelled = λ after_it.
            let i = s.spelled (e.mark ∷ after_it) in
            let form : IsFormula (with_params (length b.trees)) i.0 i.1.0 (s.marks ++ (e.mark ∷ after_it)) s.tree (e.mark ∷ after_it) = subst (λ n. IsFormula (with_params n) i.0 i.1.0 (s.marks ++ (e.mark ∷ after_it)) s.tree (e.mark ∷ after_it)) many i.1.1 in
            let body : List Mark = s.marks ++ (e.mark ∷ after_it) in
            let head : IsHeading T (w.mark ∷ (b.marks ++ (m.marks ++ (d.mark ∷ body)))) tree_heading body = IsHeading.heading w.mark d.mark w.new (b.spelled (m.marks ++ (d.mark ∷ body))) (m.spelled (d.mark ∷ body)) d.is in
            subst (λ ns. IsDeclaration T (k.mark ∷ w.mark ∷ ns) (declaration.Transition tree_heading s.tree) after_it) (sym (marks_apart b.marks m.marks s.marks d.mark e.mark after_it))
            (IsDeclaration.transition k.mark e.mark k.is head form e.is);
        fine = none _ _ (name_fine (after A q) T h.name w.mark.word w.same both.0) (none _ _ bound_fine (none _ _ changed_fine read_fine));
        is =
            ap (λ (z : List ℕ). item.Transition (record { name = z; params = params_of (here tree_heading) tree_heading; modifies = symbols_of (here tree_heading) m.words; formula = formula_read (in_step (here tree_heading) tree_heading) s.tree (params_of (here tree_heading) tree_heading) })) (sym w.same)
            ∙ ap (λ (z : Formula). item.Transition (record { name = name; params = params_of (here tree_heading) tree_heading; modifies = symbols_of (here tree_heading) m.words; formula = z })) formula_is
            ∙ ap (λ (z : List logic.Binder). item.Transition (record { name = name; params = z; modifies = symbols_of (here tree_heading) m.words; formula = t.formula })) (params_same h tree_heading same)
            ∙ ap (λ (z : List ℕ). item.Transition (record { name = name; params = scope; modifies = z; formula = t.formula })) symbols_is;
      }
    where
      same_length : {bs cs : List Binder} → SameBinders A T bs cs → length bs ≡ length cs
      same_length SameBinders.no_binders = refl
      same_length (SameBinders.more_binders i k) = ap (λ n. suc n) (same_length k)

      marks_apart : (bs ms ss : List Mark) (d e : Mark) (rest : List Mark) → (bs ++ (ms ++ (d ∷ (ss ++ (e ∷ []))))) ++ rest ≡ bs ++ (ms ++ (d ∷ (ss ++ (e ∷ rest))))
      marks_apart bs ms ss d e rest = simp append_assoc
