-- Where a text has names or parameters as canonical text has them, its marks spell them.
use Rattle.std.specs.Prelude.{◌≡◌, ℕ, ◌+◌, ◌≤◌, Bool, true, false, List, [], ◌∷◌, ◌++◌, length, map, codes}
use Rattle.std.specs.List.{AllByRecursion, flat_map}
use Rattle.std.proofs.Common.{refl, sym, ap, subst, ◌∙◌, arith, append_assoc, append-nil}
use Rattle.std.proofs.lemmas.List.{length-append}
use Rattle.sw_logic.specs.declared.variables.TheConstants.{VARIABLES}
use Rattle.sw_trees.specs.declared.words.Sign.{Sign}
use Rattle.sw_trees.specs.declared.words.Word.{Word}
use Rattle.sw_trees.specs.declared.tree.Binder.{Binder}
use Rattle.sw_text.specs.Names.{bytes_at}
use Rattle.sw_trees.specs.Grammar.{Loads, Mark, Is, no_loads, binding}
use Rattle.sw_readback.proofs.Spacing.{Goes, Here, goes_none, goes_on, goes_blank, blank_later, breaks, step_name, step_comma, step_left, step_right}
use Rattle.sw_readback.proofs.SpeltTerms.{within_none, here_as}
use Rattle.sw_readback.proofs.SpeltForms.{binder_marks}
use Rattle.sw_readback.proofs.Tidy.{IsNameIn, binder_piece, TidyBinder, SameBinder, SameBinders}
use Rattle.sw_readback.proofs.Tidied.{IsGood, AllGood}
use Rattle.sw_protocol.specs.Grammar.{is_hidden, IsNew, AreNames, AreBracketed, AreSorts, IsParam, AreParams, MayTake, MayModify}

-- names after the first, each with a comma before it
abbrev pub others_piece : List ℕ → List Word → List ℕ
others_piece A ws = flat_map (λ w. codes ", " ++ bytes_at A w) ws

abbrev pub names_piece : List ℕ → List Word → List ℕ
names_piece A [] = []
names_piece A (w ∷ ws) = bytes_at A w ++ others_piece A ws

abbrev pub bytes_of : List ℕ → List Word → List (List ℕ)
bytes_of A ws = map (bytes_at A) ws

-- ---- what was spelled has good names

module _ (A : List ℕ) where
  pub good_names : {ms rest : List Mark} {ns : List Word} → AreNames ms ns rest → AllGood A ms → AllByRecursion (IsNameIn A) ns × AllGood A rest
  good_names (AreNames.one_name n i) h = ((h.0.named i.sign_is, tt), h.1)
  good_names (AreNames.more_names {ns = ns} m n are i j) h =
      let front = good_names are h in
      (all_last (IsNameIn A) ns n.word front.0 (front.1.1.0.named j.sign_is), front.1.1.1)
    where
      all_last : {X : Type 0} (P : X → Type 0) (xs : List X) (x : X) → AllByRecursion P xs → P x → AllByRecursion P (xs ++ x ∷ [])
      all_last P [] x h k = (k, tt)
      all_last P (y ∷ xs) x h k = (h.0, all_last P xs x h.1 k)

  -- a parameter with a name that may be declared
  pub record IsFine (b : Binder) : Type 0 where
    pub tidy : TidyBinder A b
    pub shown : is_hidden (bytes_at A b.name) ≡ false

  good_param : {v : ℕ} {ms rest : List Mark} {b : Binder} → IsParam A v ms b rest → AllGood A ms → (IsFine b × (v + 1 ≤ VARIABLES)) × AllGood A rest
  good_param (IsParam.param n c s i j k) h =
      ((record { tidy = record { name = h.0.named i.name.sign_is; sort = h.1.1.0.named k.sign_is }; shown = i.shown }, subst (λ (l : Loads). l.variables ≤ VARIABLES) i.name.loads_are h.0.within.variables), h.1.1.1)

  pub good_params : {ms rest : List Mark} {bs : List Binder} → AreParams A ms bs rest → AllGood A ms → (AllByRecursion IsFine bs × (length bs ≤ VARIABLES)) × AllGood A rest
  good_params (AreParams.one_param p) h = let one = good_param p h in (((one.0.0, tt), omega (arith, one.0.1)), one.1)
  good_params (AreParams.more_params {bs = bs} {b = b} m are i p) h =
      let front = good_params are h in
      let last = good_param p front.1.1 in
      let count : length (bs ++ b ∷ []) ≡ length bs + 1 = length-append bs (b ∷ []) in
      ((all_last IsFine bs b front.0.0 last.0.0, omega (arith, count, last.0.1)), last.1)
    where
      all_last : {X : Type 0} (P : X → Type 0) (xs : List X) (x : X) → AllByRecursion P xs → P x → AllByRecursion P (xs ++ x ∷ [])
      all_last P [] x h k = (k, tt)
      all_last P (y ∷ xs) x h k = (h.0, all_last P xs x h.1 k)

-- ---- what is written is spelled

module _ (A T : List ℕ) where
  -- a list of names that ends here goes on with these
  pub record OthersAt (at : ℕ) (post : List ℕ) (ws : List Word) : Type 0 where
    pub next : ℕ
    pub marks : List Mark
    pub words : List Word
    pub later : Here T next post
    pub goes : Goes T at next marks
    pub extends : (xs : List Word) (ms : List Mark) → ((rest : List Mark) → AreNames (ms ++ rest) xs rest) → (rest : List Mark) → AreNames ((ms ++ marks) ++ rest) (xs ++ words) rest
    pub same : bytes_of A ws ≡ bytes_of T words

  others_break : (ws : List Word) (post : List ℕ) → breaks post ≡ true → breaks (others_piece A ws ++ post) ≡ true
  others_break [] post e = e
  others_break (w ∷ ws) post e = refl

  others_at : (ws : List Word) (at : ℕ) (post : List ℕ) → AllByRecursion (IsNameIn A) ws → Here T at (others_piece A ws ++ post) → breaks post ≡ true → OthersAt at post ws
  others_at [] at post names h e =
      record {
        next = at;
        marks = [];
        words = [];
        later = h;
        goes = goes_none T at;
        extends = λ xs ms k rest. subst (λ ns. AreNames (ns ++ rest) (xs ++ []) rest) (sym (append-nil ms)) (subst (λ ys. AreNames (ms ++ rest) ys rest) (sym (append-nil xs)) (k rest));
        same = refl;
      }
  others_at (w ∷ ws) at post names h e =
      let more = others_piece A ws in
      let h' : Here T at (codes "," ++ (32 ∷ (bytes_at A w ++ (more ++ post)))) = here_as T _ _ at (simp append_assoc) h in
      let m = step_comma T (32 ∷ (bytes_at A w ++ (more ++ post))) at no_loads h' within_none in
      let n = step_name T (bytes_at A w) (more ++ post) (m.next + 1) Sign.Name no_loads (blank_later T _ m.next m.later) names.0.name names.0.sign (others_break ws post e) within_none in
      let g = others_at ws n.next post names.1 n.later e in
      record {
        next = g.next;
        marks = m.mark ∷ n.mark ∷ g.marks;
        words = n.mark.word ∷ g.words;
        later = g.later;
        goes =
            goes_on T at m.next g.next (m.mark ∷ []) (n.mark ∷ g.marks) m.goes
            (goes_on T m.next (m.next + 1) g.next [] (n.mark ∷ g.marks) (goes_blank T _ m.next m.later)
            (goes_on T (m.next + 1) n.next g.next (n.mark ∷ []) g.marks n.goes g.goes));
        extends = λ xs ms k rest.
            subst (λ ns. AreNames (ns ++ rest) (xs ++ (n.mark.word ∷ g.words)) rest) (append_assoc ms (m.mark ∷ n.mark ∷ []) g.marks)
            (subst (λ ys. AreNames (((ms ++ (m.mark ∷ n.mark ∷ [])) ++ g.marks) ++ rest) ys rest) (append_assoc xs (n.mark.word ∷ []) g.words)
            (g.extends (xs ++ (n.mark.word ∷ [])) (ms ++ (m.mark ∷ n.mark ∷ []))
            (λ q. subst (λ ns. AreNames ns (xs ++ (n.mark.word ∷ [])) q) (sym (append_assoc ms (m.mark ∷ n.mark ∷ []) q)) (AreNames.more_names m.mark n.mark (k (m.mark ∷ n.mark ∷ q)) m.is n.is))
            rest));
        same = ap (λ (x : List ℕ). x ∷ bytes_of A ws) (sym n.spelled) ∙ ap (λ (xs : List (List ℕ)). bytes_at T n.mark.word ∷ xs) g.same;
      }

  pub record NamesAt (at : ℕ) (post : List ℕ) (ws : List Word) : Type 0 where
    pub next : ℕ
    pub marks : List Mark
    pub words : List Word
    pub later : Here T next post
    pub goes : Goes T at next marks
    pub spelled : (rest : List Mark) → AreNames (marks ++ rest) words rest
    pub same : bytes_of A ws ≡ bytes_of T words

  pub names_at : (w : Word) (ws : List Word) (at : ℕ) (post : List ℕ) → AllByRecursion (IsNameIn A) (w ∷ ws) → Here T at (names_piece A (w ∷ ws) ++ post) → breaks post ≡ true → NamesAt at post (w ∷ ws)
  names_at w ws at post names h e =
      let more = others_piece A ws in
      let h' : Here T at (bytes_at A w ++ (more ++ post)) = here_as T _ _ at (append_assoc (bytes_at A w) more post) h in
      let n = step_name T (bytes_at A w) (more ++ post) at Sign.Name no_loads h' names.0.name names.0.sign (others_break ws post e) within_none in
      let g = others_at ws n.next post names.1 n.later e in
      record {
        next = g.next;
        marks = n.mark ∷ g.marks;
        words = n.mark.word ∷ g.words;
        later = g.later;
        goes = goes_on T at n.next g.next (n.mark ∷ []) g.marks n.goes g.goes;
        spelled = λ rest. g.extends (n.mark.word ∷ []) (n.mark ∷ []) (λ q. AreNames.one_name n.mark n.is) rest;
        same = ap (λ (x : List ℕ). x ∷ bytes_of A ws) (sym n.spelled) ∙ ap (λ (xs : List (List ℕ)). bytes_at T n.mark.word ∷ xs) g.same;
      }

  -- names in brackets
  pub record BracketedAt (at : ℕ) (post : List ℕ) (ws : List Word) : Type 0 where
    pub next : ℕ
    pub marks : List Mark
    pub words : List Word
    pub later : Here T next post
    pub goes : Goes T at next marks
    pub spelled : (rest : List Mark) → AreBracketed (marks ++ rest) words rest
    pub same : bytes_of A ws ≡ bytes_of T words

  pub bracketed_at : (w : Word) (ws : List Word) (at : ℕ) (post : List ℕ) → AllByRecursion (IsNameIn A) (w ∷ ws) → Here T at (codes "(" ++ (names_piece A (w ∷ ws) ++ (codes ")" ++ post))) → BracketedAt at post (w ∷ ws)
  bracketed_at w ws at post names h =
      let l = step_left T (names_piece A (w ∷ ws) ++ (codes ")" ++ post)) at no_loads h within_none in
      let n = names_at w ws l.next (codes ")" ++ post) names l.later refl in
      let r = step_right T post n.next no_loads n.later within_none in
      record {
        next = r.next;
        marks = l.mark ∷ (n.marks ++ (r.mark ∷ []));
        words = n.words;
        later = r.later;
        goes = goes_on T at l.next r.next (l.mark ∷ []) (n.marks ++ (r.mark ∷ [])) l.goes (goes_on T l.next n.next r.next n.marks (r.mark ∷ []) n.goes r.goes);
        spelled = λ rest. AreBracketed.bracketed l.mark r.mark l.is (subst (λ ns. AreNames ns n.words (r.mark ∷ rest)) (sym (append_assoc n.marks (r.mark ∷ []) rest)) (n.spelled (r.mark ∷ rest))) r.is;
        same = n.same;
      }

  -- ---- parameters

  abbrev pub other_params : List Binder → List ℕ
  other_params bs = flat_map (λ b. codes ", " ++ binder_piece A b) bs

  others_params_break : (bs : List Binder) (post : List ℕ) → breaks post ≡ true → breaks (other_params bs ++ post) ≡ true
  others_params_break [] post e = e
  others_params_break (b ∷ bs) post e = refl

  pub record ParamsAt (at : ℕ) (post : List ℕ) (j : ℕ) (bs : List Binder) : Type 0 where
    pub next : ℕ
    pub marks : List Mark
    pub trees : List Binder
    pub later : Here T next post
    pub goes : Goes T at next marks
    pub extends : (xs : List Binder) (ms : List Mark) → length xs ≡ j → ((rest : List Mark) → AreParams T (ms ++ rest) xs rest) → (rest : List Mark) → AreParams T ((ms ++ marks) ++ rest) (xs ++ trees) rest
    pub same : SameBinders A T bs trees

  params_at : (bs : List Binder) (at : ℕ) (post : List ℕ) (j : ℕ) → AllByRecursion (IsFine A) bs → Here T at (other_params bs ++ post) → breaks post ≡ true → j + length bs ≤ VARIABLES → ParamsAt at post j bs
  params_at [] at post j fine h e limit =
      record {
        next = at;
        marks = [];
        trees = [];
        later = h;
        goes = goes_none T at;
        extends = λ xs ms c k rest. subst (λ ns. AreParams T (ns ++ rest) (xs ++ []) rest) (sym (append-nil ms)) (subst (λ ys. AreParams T (ms ++ rest) ys rest) (sym (append-nil xs)) (k rest));
        same = SameBinders.no_binders;
      }
  params_at (b ∷ bs) at post j fine h e limit =
      let more = other_params bs in
      let h' : Here T at (codes "," ++ (32 ∷ (binder_piece A b ++ (more ++ post)))) = here_as T _ _ at (simp append_assoc) h in
      let m = step_comma T (32 ∷ (binder_piece A b ++ (more ++ post))) at no_loads h' within_none in
      let n = binder_marks A T (m.next + 1) (more ++ post) j b fine.0.tidy (blank_later T _ m.next m.later) (others_params_break bs post e) (omega (arith, limit)) in
      let g = params_at bs n.next post (j + 1) fine.1 n.later e (omega (arith, limit)) in
      let tree : Binder = record { name = n.name.word; sort = n.sort.word } in
      let three : List Mark = n.name ∷ n.colon ∷ n.sort ∷ [] in
      let new : IsNew T (binding (j + 1)) n.name = record { name = n.name_is; shown = ap is_hidden (sym n.same.name) ∙ fine.0.shown } in
      record {
        next = g.next;
        marks = m.mark ∷ (three ++ g.marks);
        trees = tree ∷ g.trees;
        later = g.later;
        goes =
            goes_on T at m.next g.next (m.mark ∷ []) (three ++ g.marks) m.goes
            (goes_on T m.next (m.next + 1) g.next [] (three ++ g.marks) (goes_blank T _ m.next m.later)
            (goes_on T (m.next + 1) n.next g.next three g.marks n.goes g.goes));
        extends = λ xs ms c k rest.
            let longer : length (xs ++ (tree ∷ [])) ≡ j + 1 = length-append xs (tree ∷ []) ∙ ap (λ l. l + 1) c in
            subst (λ ns. AreParams T (ns ++ rest) (xs ++ (tree ∷ g.trees)) rest) (append_assoc ms (m.mark ∷ three) g.marks)
            (subst (λ ys. AreParams T (((ms ++ (m.mark ∷ three)) ++ g.marks) ++ rest) ys rest) (append_assoc xs (tree ∷ []) g.trees)
            (g.extends (xs ++ (tree ∷ [])) (ms ++ (m.mark ∷ three)) longer
            (λ q. subst (λ ns. AreParams T ns (xs ++ (tree ∷ [])) q) (sym (append_assoc ms (m.mark ∷ three) q))
            (AreParams.more_params m.mark (k (m.mark ∷ (three ++ q))) m.is (subst (λ l. IsParam T l (three ++ q) tree q) (sym c) (IsParam.param n.name n.colon n.sort new n.colon_is n.sort_is))))
            rest));
        same = SameBinders.more_binders n.same g.same;
      }

  pub record AllParamsAt (at : ℕ) (post : List ℕ) (bs : List Binder) : Type 0 where
    pub next : ℕ
    pub marks : List Mark
    pub trees : List Binder
    pub later : Here T next post
    pub goes : Goes T at next marks
    pub spelled : (rest : List Mark) → MayTake T (marks ++ rest) trees rest
    pub same : SameBinders A T bs trees

  -- parameters in brackets
  pub all_params_at : (b : Binder) (bs : List Binder) (at : ℕ) (post : List ℕ) → AllByRecursion (IsFine A) (b ∷ bs) → length (b ∷ bs) ≤ VARIABLES
      → Here T at (codes "(" ++ (binder_piece A b ++ (other_params bs ++ (codes ")" ++ post)))) → AllParamsAt at post (b ∷ bs)
  all_params_at b bs at post fine limit h =
      let last : List ℕ = codes ")" ++ post in
      let l = step_left T (binder_piece A b ++ (other_params bs ++ last)) at no_loads h within_none in
      let n = binder_marks A T l.next (other_params bs ++ last) 0 b fine.0.tidy l.later (others_params_break bs last refl) (omega (arith, limit)) in
      let g = params_at bs n.next last 1 fine.1 n.later refl (omega (arith, limit)) in
      let r = step_right T post g.next no_loads g.later within_none in
      let tree : Binder = record { name = n.name.word; sort = n.sort.word } in
      let three : List Mark = n.name ∷ n.colon ∷ n.sort ∷ [] in
      let new : IsNew T (binding 1) n.name = record { name = n.name_is; shown = ap is_hidden (sym n.same.name) ∙ fine.0.shown } in
      record {
        next = r.next;
        marks = l.mark ∷ ((three ++ g.marks) ++ (r.mark ∷ []));
        trees = tree ∷ g.trees;
        later = r.later;
        goes =
            goes_on T at l.next r.next (l.mark ∷ []) ((three ++ g.marks) ++ (r.mark ∷ [])) l.goes
            (goes_on T l.next g.next r.next (three ++ g.marks) (r.mark ∷ []) (goes_on T l.next n.next g.next three g.marks n.goes g.goes) r.goes);
        spelled = λ rest.
            MayTake.some_params l.mark r.mark l.is
            (subst (λ ns. AreParams T ns (tree ∷ g.trees) (r.mark ∷ rest)) (sym (append_assoc (three ++ g.marks) (r.mark ∷ []) rest))
            (g.extends (tree ∷ []) three refl (λ q. AreParams.one_param (IsParam.param n.name n.colon n.sort new n.colon_is n.sort_is)) (r.mark ∷ rest)))
            r.is;
        same = SameBinders.more_binders n.same g.same;
      }
