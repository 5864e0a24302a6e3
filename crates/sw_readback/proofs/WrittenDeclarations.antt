-- Where a text has a declaration as canonical text has it, its marks spell one that declares the same.
use Rattle.std.specs.Prelude.{◌≡◌, ℕ, ◌+◌, ◌≤◌, Bool, true, false, List, [], ◌∷◌, ◌++◌, length, map, Option, Some, None, unwrap_or, slice_get, codes}
use Rattle.std.specs.List.{AllByRecursion}
use Rattle.std.proofs.Common.{refl, sym, ap, subst, ◌∙◌, arith, append_assoc, append-nil}
use Rattle.sw_logic.specs.declared.syntax.Binder as logic
use Rattle.sw_logic.specs.declared.syntax.Symbol.{Symbol}
use Rattle.sw_logic.specs.declared.syntax.SymbolKind.{SymbolKind}
use Rattle.sw_logic.specs.declared.syntax.Formula.{Formula}
use Rattle.sw_logic.specs.Canonical.{names_of, text_of}
use Rattle.sw_scan.specs.Spelling.{is_name}
use Rattle.sw_meaning.specs.declared.protocol.Protocol.{Protocol}
use Rattle.sw_meaning.specs.declared.protocol.Transition.{Transition}
use Rattle.sw_meaning.specs.declared.protocol.Decl.{Decl}
use Rattle.sw_meaning.specs.ProtocolText.{change_text, sort_text, name_text, listed, arguments_text, kind_text, symbol_text, statement_text, params_text, modifies_text, heading_text, transition_text, declaration_text}
use Rattle.sw_trees.specs.declared.limits.TheConstants.{NESTINGS}
use Rattle.sw_logic.specs.declared.variables.TheConstants.{VARIABLES}
use Rattle.sw_trees.specs.declared.words.Keyword.{Keyword}
use Rattle.sw_trees.specs.declared.words.Sign.{Sign}
use Rattle.sw_trees.specs.declared.words.Word.{Word}
use Rattle.sw_trees.specs.declared.tree.Binder.{Binder}
use Rattle.sw_trees.specs.declared.tree.Tree.{Tree}
use Rattle.sw_text.specs.declared.names.Place.{Place}
use Rattle.sw_trees.specs.Words.{name_sign}
use Rattle.sw_trees.specs.Measures.{nestings_of, Nestings}
use Rattle.sw_text.specs.Names.{Around, bytes_at, faults, formula_read, binders_faults, bound}
use Rattle.sw_trees.specs.Grammar.{Loads, Mark, Is, no_loads, opening, End, IsFormula}
use Rattle.sw_trees.specs.Limits.{IsWithin}
use Rattle.sw_readback.specs.Formulas.{with_text}
use Rattle.sw_readback.proofs.Spacing.{Goes, Here, goes_none, goes_on, goes_blank, blank_later, goes_line, line_later, breaks, step_name, step_comma, step_colon, step_semicolon}
use Rattle.sw_readback.proofs.SpeltTerms.{within_none, within_opening, here_as, Between, before_blank, after_blank}
use Rattle.sw_readback.proofs.SpeltForms.{IsAt}
use Rattle.sw_text.proofs.SortedTerms.{apart}
use Rattle.sw_readback.proofs.SameMeaning.{none}
use Rattle.sw_readback.proofs.Tidy.{IsNameIn}
use Rattle.sw_readback.proofs.Tidied.{IsGood, AllGood}
use Rattle.sw_readback.proofs.ShownAs.{Extends}
use Rattle.sw_readback.proofs.Formulas.{Stands, spelled_stands}
use Rattle.sw_protocol.specs.declared.tree.Statement.{Statement}
use Rattle.sw_protocol.specs.declared.tree.Declaration.{Declaration}
use Rattle.sw_protocol.specs.declared.tree.Declaration.TheVariants as declaration
use Rattle.sw_protocol.specs.declared.draft.Item.{Item}
use Rattle.sw_protocol.specs.declared.draft.Item.TheVariants as item
use Rattle.sw_protocol.specs.Grammar.{is_hidden, IsNew, IsKeyword, IsEnd, EndsFormula, change, statement, with_params, AreNames, AreBracketed, AreSorts, IsDeclaration}
use Rattle.sw_protocol.specs.Declaring.{after, standing, place_of, name_faults, sort_faults, sorts_faults, sort_of, sorts_of, relation_of, constant_of, function_of, declaration_faults, item_of, with_item}
use Rattle.sw_protocol.specs.Printing.{declaration_line}
use Rattle.sw_readback.proofs.Growing.{Grows, grows_on, grows_item, extends_of, last_is, decl_of, statement_decl}
use Rattle.sw_readback.proofs.WrittenLists.{names_piece, bytes_of, NamesAt, names_at, BracketedAt, bracketed_at}
use Rattle.sw_readback.proofs.WrittenNames.{names_listed, sort_shown, sorts_shown, name_fine, sort_fine, sorts_fine, sort_same, sorts_same}

-- a name that may be declared, in the first text
pub record IsNewIn (A : List ℕ) (w : Word) : Type 0 where
  pub name : IsNameIn A w
  pub shown : is_hidden (bytes_at A w) ≡ false

pub new_in : (A : List ℕ) (loads : Loads) (m : Mark) → IsNew A loads m → IsGood A m → IsNewIn A m.word
new_in A loads m i g = record { name = g.named i.name.sign_is; shown = i.shown }

module _ (T : List ℕ) where
  -- a keyword and the blank behind it
  pub keyword_at : (k : Keyword) (x : List ℕ) (at : ℕ) (post : List ℕ) → is_name x ≡ true → name_sign x ≡ Sign.Keyword k → Here T at (x ++ (32 ∷ post)) → Between T at (IsKeyword k) post
  keyword_at k x at post name sign h =
      let s = step_name T x (32 ∷ post) at (Sign.Keyword k) no_loads h name sign refl within_none in
      before_blank T post at s.next (IsKeyword k) s.mark s.is s.goes s.later

  -- a colon and the blank behind it
  pub colon_at : (at : ℕ) (post : List ℕ) → Here T at (codes ":" ++ (32 ∷ post)) → Between T at (Is Sign.Colon no_loads) post
  colon_at at post h =
      let s = step_colon T (32 ∷ post) at no_loads h within_none in
      before_blank T post at s.next (Is Sign.Colon no_loads) s.mark s.is s.goes s.later

  -- the semicolon and the end of the line
  pub end_at : (loads : Loads) (at : ℕ) (post : List ℕ) → Here T at (codes ";" ++ (10 ∷ post)) → IsWithin loads → Between T at (Is Sign.Semicolon loads) post
  end_at loads at post h w =
      let s = step_semicolon T (10 ∷ post) at loads h w in
      record {
        next = s.next + 1;
        mark = s.mark;
        is = s.is;
        goes = goes_on T at s.next (s.next + 1) (s.mark ∷ []) [] s.goes (goes_line T post s.next s.later);
        later = line_later T post s.next s.later;
      }

-- the marks from a place on spell a declaration that adds this item and breaks no rule
pub record DeclaredAt (T : List ℕ) (q : Protocol) (added : Item) (at : ℕ) (post : List ℕ) : Type 0 where
  pub next : ℕ
  pub marks : List Mark
  pub tree : Declaration
  pub later : Here T next post
  pub goes : Goes T at next marks
  pub spelled : (rest : List Mark) → IsDeclaration T (marks ++ rest) tree rest
  pub fine : declaration_faults (after T q) tree ≡ []
  pub is : item_of (after T q) tree ≡ added

module _ (A T : List ℕ) (q p : Protocol) where
  -- a name that may be declared, at a place of the second text
  pub record NewAt (at : ℕ) (post : List ℕ) (w : Word) : Type 0 where
    pub next : ℕ
    pub mark : Mark
    pub new : IsNew T no_loads mark
    pub later : Here T next post
    pub goes : Goes T at next (mark ∷ [])
    pub same : bytes_at A w ≡ bytes_at T mark.word

  pub new_at : (w : Word) (at : ℕ) (post : List ℕ) → IsNewIn A w → Here T at (bytes_at A w ++ post) → breaks post ≡ true → NewAt at post w
  new_at w at post n h e =
      let s = step_name T (bytes_at A w) post at Sign.Name no_loads h n.name.name n.name.sign e within_none in
      record { next = s.next; mark = s.mark; new = record { name = s.is; shown = ap is_hidden s.spelled ∙ n.shown }; later = s.later; goes = s.goes; same = sym s.spelled }

  abbrev pub text_at : Item → List ℕ → List ℕ
  text_at added post = declaration_line p (decl_of q added) ++ post

  pub sort_at : (n : Word) (at : ℕ) (post : List ℕ) → IsNewIn A n → name_faults (after A q) n ≡ [] → Grows (with_item q (item.Sort (bytes_at A n))) p → Here T at (text_at (item.Sort (bytes_at A n)) post)
      → DeclaredAt T q (item.Sort (bytes_at A n)) at post
  sort_at n at post new fine g h =
      let x = bytes_at A n in
      let shown : sort_text p.signature (length q.signature.sorts) ≡ x = ap (λ (o : Option (List ℕ)). unwrap_or o []) (g.sorts (length q.signature.sorts) x (last_is q.signature.sorts x)) in
      let piece : text_at (item.Sort x) post ≡ codes "sort" ++ (32 ∷ (x ++ (codes ";" ++ (10 ∷ post)))) =
      ap (λ (y : List ℕ). (((codes "sort " ++ y) ++ codes ";") ++ 10 ∷ []) ++ post) shown ∙ simp append_assoc in
      let k = keyword_at T Keyword.Sort (codes "sort") at (x ++ (codes ";" ++ (10 ∷ post))) refl refl (here_as T _ _ at piece h) in
      let w = new_at n k.next (codes ";" ++ (10 ∷ post)) new k.later refl in
      let e = end_at T no_loads w.next post w.later within_none in
      record {
        next = e.next;
        marks = k.mark ∷ w.mark ∷ e.mark ∷ [];
        tree = declaration.Sort w.mark.word;
        later = e.later;
        goes = goes_on T at k.next e.next (k.mark ∷ []) (w.mark ∷ e.mark ∷ []) k.goes (goes_on T k.next w.next e.next (w.mark ∷ []) (e.mark ∷ []) w.goes e.goes);
        spelled = λ rest. IsDeclaration.sort k.mark w.mark e.mark k.is w.new e.is;
        fine = name_fine (after A q) T n w.mark.word w.same fine;
        is = ap item.Sort (sym w.same);
      }

  -- `mutable` or `immutable` and the blank behind it
  change_at : (mutable : Bool) (at : ℕ) (post : List ℕ) → Here T at (change_text mutable ++ post) → Between T at (IsKeyword (change mutable)) post
  change_at true at post h = keyword_at T Keyword.Mutable (codes "mutable") at post refl refl h
  change_at false at post h = keyword_at T Keyword.Immutable (codes "immutable") at post refl refl h

  -- the sorts of arguments, or none
  pub record SortsAt (at : ℕ) (post : List ℕ) (ws : List Word) : Type 0 where
    pub next : ℕ
    pub marks : List Mark
    pub words : List Word
    pub later : Here T next post
    pub goes : Goes T at next marks
    pub spelled : (rest : List Mark) → AreSorts (marks ++ rest) words rest
    pub same : bytes_of A ws ≡ bytes_of T words

  -- arguments as canonical text has them
  abbrev pub arguments_piece : List Word → List ℕ
  arguments_piece [] = []
  arguments_piece (w ∷ ws) = codes "(" ++ (names_piece A (w ∷ ws) ++ codes ")")

  pub sorts_at : (ws : List Word) (at : ℕ) (post : List ℕ) → AllByRecursion (IsNameIn A) ws → Here T at (arguments_piece ws ++ post) → SortsAt at post ws
  sorts_at [] at post names h = record { next = at; marks = []; words = []; later = h; goes = goes_none T at; spelled = λ rest. AreSorts.no_sorts; same = refl }
  sorts_at (w ∷ ws) at post names h =
      let b = bracketed_at A T w ws at post names (here_as T _ _ at (ap (λ (y : List ℕ). codes "(" ++ y) (append_assoc (names_piece A (w ∷ ws)) (codes ")") post)) h) in
      record { next = b.next; marks = b.marks; words = b.words; later = b.later; goes = b.goes; spelled = λ rest. AreSorts.some_sorts (b.spelled rest); same = b.same }

  arguments_break : (ws : List Word) (post : List ℕ) → breaks post ≡ true → breaks (arguments_piece ws ++ post) ≡ true
  arguments_break [] post e = e
  arguments_break (w ∷ ws) post e = refl

  pub arguments_are : (ws : List Word) → Extends q.signature p.signature → sorts_faults (after A q) ws ≡ [] → arguments_text p.signature (sorts_of (after A q) ws) ≡ arguments_piece ws
  arguments_are [] x e = refl
  arguments_are (w ∷ ws) x e =
      ap (λ (y : List ℕ). codes "(" ++ (y ++ codes ")")) (names_listed A (sort_text p.signature) (sort_of (after A q)) (w ∷ ws) (sorts_shown (after A q) p.signature x (w ∷ ws) e))

  symbol_there : (s : Symbol) → Grows (with_item q (item.Symbol s)) p → declaration_text p (Decl.Symbol (length q.signature.symbols)) ≡ change_text s.mutable ++ kind_text p.signature s s.kind
  symbol_there s g = ap (symbol_text p.signature) (g.symbols (length q.signature.symbols) s (last_is q.signature.symbols s))

  abbrev extends : (added : Item) → Grows (with_item q added) p → Extends q.signature p.signature
  extends added g = extends_of q p (grows_on q (with_item q added) p (grows_item q added) g)

  pub relation_at : (mutable : Bool) (n : Word) (ss : List Word) (at : ℕ) (post : List ℕ) → IsNewIn A n → AllByRecursion (IsNameIn A) ss → name_faults (after A q) n ++ sorts_faults (after A q) ss ≡ []
      → Grows (with_item q (item.Symbol (relation_of (after A q) mutable n ss))) p → Here T at (text_at (item.Symbol (relation_of (after A q) mutable n ss)) post)
      → DeclaredAt T q (item.Symbol (relation_of (after A q) mutable n ss)) at post
  relation_at mutable n ss at post new names fine g h =
      let s = relation_of (after A q) mutable n ss in
      let x = bytes_at A n in
      let both = apart (name_faults (after A q) n) (sorts_faults (after A q) ss) fine in
      let args = arguments_are ss (extends (item.Symbol s) g) both.1 in
      let last : List ℕ = codes ";" ++ (10 ∷ post) in
      let piece : text_at (item.Symbol s) post ≡ change_text mutable ++ (codes "relation" ++ (32 ∷ (x ++ (arguments_piece ss ++ last)))) =
      ap (λ (y : List ℕ). ((y ++ codes ";") ++ 10 ∷ []) ++ post) (symbol_there s g)
      ∙ ap (λ (y : List ℕ). (((change_text mutable ++ ((codes "relation " ++ x) ++ y)) ++ codes ";") ++ 10 ∷ []) ++ post) args
      ∙ simp append_assoc in
      let c = change_at mutable at (codes "relation" ++ (32 ∷ (x ++ (arguments_piece ss ++ last)))) (here_as T _ _ at piece h) in
      let k = keyword_at T Keyword.Relation (codes "relation") c.next (x ++ (arguments_piece ss ++ last)) refl refl c.later in
      let w = new_at n k.next (arguments_piece ss ++ last) new k.later (arguments_break ss last refl) in
      let l = sorts_at ss w.next last names w.later in
      let e = end_at T no_loads l.next post l.later within_none in
      record {
        next = e.next;
        marks = c.mark ∷ k.mark ∷ w.mark ∷ (l.marks ++ (e.mark ∷ []));
        tree = declaration.Relation mutable w.mark.word l.words;
        later = e.later;
        goes =
            goes_on T at c.next e.next (c.mark ∷ []) (k.mark ∷ w.mark ∷ (l.marks ++ (e.mark ∷ []))) c.goes
            (goes_on T c.next k.next e.next (k.mark ∷ []) (w.mark ∷ (l.marks ++ (e.mark ∷ []))) k.goes
            (goes_on T k.next w.next e.next (w.mark ∷ []) (l.marks ++ (e.mark ∷ [])) w.goes
            (goes_on T w.next l.next e.next l.marks (e.mark ∷ []) l.goes e.goes)));
        spelled = λ rest.
            IsDeclaration.relation mutable c.mark k.mark w.mark e.mark c.is k.is w.new
            (subst (λ ms. AreSorts ms l.words (e.mark ∷ rest)) (sym (append_assoc l.marks (e.mark ∷ []) rest)) (l.spelled (e.mark ∷ rest))) e.is;
        fine = none _ _ (name_fine (after A q) T n w.mark.word w.same both.0) (sorts_fine (after A q) T ss l.words l.same both.1);
        is =
            ap (λ (y : List ℕ). item.Symbol (record { name = y; kind = SymbolKind.Relation; args = sorts_of (after T q) l.words; gives = 0; mutable = mutable })) (sym w.same)
            ∙ ap (λ (y : List ℕ). item.Symbol (record { name = x; kind = SymbolKind.Relation; args = y; gives = 0; mutable = mutable })) (sorts_same (after A q) T ss l.words l.same);
      }

  pub constant_at : (mutable : Bool) (n s : Word) (at : ℕ) (post : List ℕ) → IsNewIn A n → IsNameIn A s → name_faults (after A q) n ++ sort_faults (after A q) s ≡ []
      → Grows (with_item q (item.Symbol (constant_of (after A q) mutable n s))) p → Here T at (text_at (item.Symbol (constant_of (after A q) mutable n s)) post)
      → DeclaredAt T q (item.Symbol (constant_of (after A q) mutable n s)) at post
  constant_at mutable n s at post new name fine g h =
      let added = constant_of (after A q) mutable n s in
      let x = bytes_at A n in
      let y = bytes_at A s in
      let both = apart (name_faults (after A q) n) (sort_faults (after A q) s) fine in
      let gives = sort_shown (after A q) p.signature (extends (item.Symbol added) g) s both.1 in
      let last : List ℕ = codes ";" ++ (10 ∷ post) in
      let piece : text_at (item.Symbol added) post ≡ change_text mutable ++ (codes "constant" ++ (32 ∷ (x ++ (codes ":" ++ (32 ∷ (y ++ last)))))) =
      ap (λ (z : List ℕ). ((z ++ codes ";") ++ 10 ∷ []) ++ post) (symbol_there added g)
      ∙ ap (λ (z : List ℕ). (((change_text mutable ++ (((codes "constant " ++ x) ++ codes ": ") ++ z)) ++ codes ";") ++ 10 ∷ []) ++ post) gives
      ∙ simp append_assoc in
      let c = change_at mutable at (codes "constant" ++ (32 ∷ (x ++ (codes ":" ++ (32 ∷ (y ++ last)))))) (here_as T _ _ at piece h) in
      let k = keyword_at T Keyword.Constant (codes "constant") c.next (x ++ (codes ":" ++ (32 ∷ (y ++ last)))) refl refl c.later in
      let w = new_at n k.next (codes ":" ++ (32 ∷ (y ++ last))) new k.later refl in
      let d = colon_at T w.next (y ++ last) w.later in
      let t = step_name T y last d.next Sign.Name no_loads d.later name.name name.sign refl within_none in
      let e = end_at T no_loads t.next post t.later within_none in
      record {
        next = e.next;
        marks = c.mark ∷ k.mark ∷ w.mark ∷ d.mark ∷ t.mark ∷ e.mark ∷ [];
        tree = declaration.Constant mutable w.mark.word t.mark.word;
        later = e.later;
        goes =
            goes_on T at c.next e.next (c.mark ∷ []) (k.mark ∷ w.mark ∷ d.mark ∷ t.mark ∷ e.mark ∷ []) c.goes
            (goes_on T c.next k.next e.next (k.mark ∷ []) (w.mark ∷ d.mark ∷ t.mark ∷ e.mark ∷ []) k.goes
            (goes_on T k.next w.next e.next (w.mark ∷ []) (d.mark ∷ t.mark ∷ e.mark ∷ []) w.goes
            (goes_on T w.next d.next e.next (d.mark ∷ []) (t.mark ∷ e.mark ∷ []) d.goes
            (goes_on T d.next t.next e.next (t.mark ∷ []) (e.mark ∷ []) t.goes e.goes))));
        spelled = λ rest. IsDeclaration.constant mutable c.mark k.mark w.mark d.mark t.mark e.mark c.is k.is w.new d.is t.is e.is;
        fine = none _ _ (name_fine (after A q) T n w.mark.word w.same both.0) (sort_fine (after A q) T s t.mark.word (sym t.spelled) both.1);
        is =
            ap (λ (z : List ℕ). item.Symbol (record { name = z; kind = SymbolKind.Constant; args = []; gives = sort_of (after T q) t.mark.word; mutable = mutable })) (sym w.same)
            ∙ ap (λ (z : ℕ). item.Symbol (record { name = x; kind = SymbolKind.Constant; args = []; gives = z; mutable = mutable })) (sort_same (after A q) T s t.mark.word (sym t.spelled));
      }

  function_text : (x ns y post : List ℕ) → (((codes "immutable " ++ ((((codes "function " ++ x) ++ (codes "(" ++ (ns ++ codes ")"))) ++ codes ": ") ++ y)) ++ codes ";") ++ 10 ∷ []) ++ post
      ≡ codes "immutable" ++ (32 ∷ (codes "function" ++ (32 ∷ (x ++ (codes "(" ++ (ns ++ (codes ")" ++ (codes ":" ++ (32 ∷ (y ++ (codes ";" ++ (10 ∷ post))))))))))))
  function_text x ns y post = simp append_assoc

  pub function_at : (n w : Word) (ws : List Word) (s : Word) (at : ℕ) (post : List ℕ) → IsNewIn A n → AllByRecursion (IsNameIn A) (w ∷ ws) → IsNameIn A s
      → name_faults (after A q) n ++ (sorts_faults (after A q) (w ∷ ws) ++ sort_faults (after A q) s) ≡ []
      → Grows (with_item q (item.Symbol (function_of (after A q) n (w ∷ ws) s))) p → Here T at (text_at (item.Symbol (function_of (after A q) n (w ∷ ws) s)) post)
      → DeclaredAt T q (item.Symbol (function_of (after A q) n (w ∷ ws) s)) at post
  function_at n v vs s at post new names name fine g h =
      let ss = v ∷ vs in
      let added = function_of (after A q) n ss s in
      let x = bytes_at A n in
      let y = bytes_at A s in
      let both = apart (name_faults (after A q) n) (sorts_faults (after A q) ss ++ sort_faults (after A q) s) fine in
      let sorts = apart (sorts_faults (after A q) ss) (sort_faults (after A q) s) both.1 in
      let ext = extends (item.Symbol added) g in
      let args : arguments_text p.signature (sorts_of (after A q) ss) ≡ codes "(" ++ (names_piece A ss ++ codes ")") = arguments_are ss ext sorts.0 in
      let gives = sort_shown (after A q) p.signature ext s sorts.1 in
      let last : List ℕ = codes ";" ++ (10 ∷ post) in
      let back : List ℕ = codes ":" ++ (32 ∷ (y ++ last)) in
      let piece : text_at (item.Symbol added) post ≡ codes "immutable" ++ (32 ∷ (codes "function" ++ (32 ∷ (x ++ (codes "(" ++ (names_piece A ss ++ (codes ")" ++ back))))))) =
      ap (λ (z : List ℕ). ((z ++ codes ";") ++ 10 ∷ []) ++ post) (symbol_there added g)
      ∙ ap (λ (z : List ℕ). (((codes "immutable " ++ ((((codes "function " ++ x) ++ z) ++ codes ": ") ++ sort_text p.signature (sort_of (after A q) s))) ++ codes ";") ++ 10 ∷ []) ++ post) args
      ∙ ap (λ (z : List ℕ). (((codes "immutable " ++ ((((codes "function " ++ x) ++ (codes "(" ++ (names_piece A ss ++ codes ")"))) ++ codes ": ") ++ z)) ++ codes ";") ++ 10 ∷ []) ++ post) gives
      ∙ function_text x (names_piece A ss) y post in
      let c = keyword_at T Keyword.Immutable (codes "immutable") at (codes "function" ++ (32 ∷ (x ++ (codes "(" ++ (names_piece A ss ++ (codes ")" ++ back)))))) refl refl (here_as T _ _ at piece h) in
      let k = keyword_at T Keyword.Function (codes "function") c.next (x ++ (codes "(" ++ (names_piece A ss ++ (codes ")" ++ back)))) refl refl c.later in
      let w = new_at n k.next (codes "(" ++ (names_piece A ss ++ (codes ")" ++ back))) new k.later refl in
      let l = bracketed_at A T v vs w.next back names w.later in
      let d = colon_at T l.next (y ++ last) l.later in
      let t = step_name T y last d.next Sign.Name no_loads d.later name.name name.sign refl within_none in
      let e = end_at T no_loads t.next post t.later within_none in
      let three : List Mark = d.mark ∷ t.mark ∷ e.mark ∷ [] in
      record {
        next = e.next;
        marks = c.mark ∷ k.mark ∷ w.mark ∷ (l.marks ++ three);
        tree = declaration.Function w.mark.word l.words t.mark.word;
        later = e.later;
        goes =
            goes_on T at c.next e.next (c.mark ∷ []) (k.mark ∷ w.mark ∷ (l.marks ++ three)) c.goes
            (goes_on T c.next k.next e.next (k.mark ∷ []) (w.mark ∷ (l.marks ++ three)) k.goes
            (goes_on T k.next w.next e.next (w.mark ∷ []) (l.marks ++ three) w.goes
            (goes_on T w.next l.next e.next l.marks three l.goes
            (goes_on T l.next d.next e.next (d.mark ∷ []) (t.mark ∷ e.mark ∷ []) d.goes
            (goes_on T d.next t.next e.next (t.mark ∷ []) (e.mark ∷ []) t.goes e.goes)))));
        spelled = λ rest.
            IsDeclaration.function c.mark k.mark w.mark d.mark t.mark e.mark c.is k.is w.new
            (subst (λ ms. AreBracketed ms l.words (d.mark ∷ t.mark ∷ e.mark ∷ rest)) (sym (append_assoc l.marks three rest)) (l.spelled (d.mark ∷ t.mark ∷ e.mark ∷ rest))) d.is t.is e.is;
        fine =
            none _ _ (name_fine (after A q) T n w.mark.word w.same both.0)
            (none _ _ (sorts_fine (after A q) T ss l.words l.same sorts.0) (sort_fine (after A q) T s t.mark.word (sym t.spelled) sorts.1));
        is =
            ap (λ (z : List ℕ). item.Symbol (record { name = z; kind = SymbolKind.Function; args = sorts_of (after T q) l.words; gives = sort_of (after T q) t.mark.word; mutable = false })) (sym w.same)
            ∙ ap (λ (z : List ℕ). item.Symbol (record { name = x; kind = SymbolKind.Function; args = z; gives = sort_of (after T q) t.mark.word; mutable = false })) (sorts_same (after A q) T ss l.words l.same)
            ∙ ap (λ (z : ℕ). item.Symbol (record { name = x; kind = SymbolKind.Function; args = sorts_of (after A q) ss; gives = z; mutable = false })) (sort_same (after A q) T s t.mark.word (sym t.spelled));
      }

  abbrev statement_word : Statement → List ℕ
  statement_word Statement.Axiom = codes "axiom"
  statement_word Statement.Init = codes "init"
  statement_word Statement.Safety = codes "safety"

  statement_at : (kind : Statement) (at : ℕ) (post : List ℕ) → Here T at (statement_word kind ++ (32 ∷ post)) → Between T at (IsKeyword (statement kind)) post
  statement_at Statement.Axiom at post h = keyword_at T Keyword.Axiom (codes "axiom") at post refl refl h
  statement_at Statement.Init at post h = keyword_at T Keyword.Init (codes "init") at post refl refl h
  statement_at Statement.Safety at post h = keyword_at T Keyword.Safety (codes "safety") at post refl refl h

  statement_there : (kind : Statement) (f : Formula) → Grows (with_item q (item.Formula kind f)) p → declaration_text p (statement_decl q kind) ≡ statement_word kind ++ (32 ∷ text_of p.signature [] f)
  statement_there Statement.Axiom f g = ap (statement_text p.signature (codes "axiom ")) (g.axioms (length q.axioms) f (last_is q.axioms f))
  statement_there Statement.Init f g = ap (statement_text p.signature (codes "init ")) (g.inits (length q.inits) f (last_is q.inits f))
  statement_there Statement.Safety f g = ap (statement_text p.signature (codes "safety ")) (g.safeties (length q.safeties) f (last_is q.safeties f))

  pub stated_at : (kind : Statement) (end_is : End) (has_iff : Bool) (ms rest : List Mark) (x : Tree) → IsFormula (with_params 0) end_is has_iff ms x rest → AllGood A ms → (nestings_of x).alone ≤ NESTINGS
      → (at : ℕ) (post : List ℕ) → faults (standing (place_of kind) (after A q)) x [] ≡ []
      → Grows (with_item q (item.Formula kind (formula_read (standing (place_of kind) (after A q)) x []))) p
      → Here T at (text_at (item.Formula kind (formula_read (standing (place_of kind) (after A q)) x [])) post)
      → DeclaredAt T q (item.Formula kind (formula_read (standing (place_of kind) (after A q)) x [])) at post
  stated_at kind end_is has_iff ms rest x spelled good nests at post fine g h =
      let a = standing (place_of kind) (after A q) in
      let f = formula_read a x [] in
      let last : List ℕ = codes ";" ++ (10 ∷ post) in
      let piece : text_at (item.Formula kind f) post ≡ statement_word kind ++ (32 ∷ (text_of p.signature [] f ++ last)) =
      ap (λ (z : List ℕ). ((z ++ codes ";") ++ 10 ∷ []) ++ post) (statement_there kind f g) ∙ simp append_assoc in
      let k = statement_at kind at (text_of p.signature [] f ++ last) (here_as T _ _ at piece h) in
      let s = spelled_stands a p.signature (extends (item.Formula kind f) g) [] (with_params 0) end_is has_iff ms rest x spelled good fine T k.next last (with_params 0) (record { iffs = refl; variables = refl }) (omega (arith, nests)) k.later refl in
      let count : (nestings_of s.tree).alone ≡ (nestings_of x).alone = ap (λ (n : Nestings). n.alone) s.nestings in
      let e = end_at T (opening (nestings_of s.tree).alone) s.next post s.later (within_opening (nestings_of s.tree).alone (omega (arith, count, nests))) in
      record {
        next = e.next;
        marks = k.mark ∷ (s.marks ++ (e.mark ∷ []));
        tree = declaration.Stated kind s.tree;
        later = e.later;
        goes = goes_on T at k.next e.next (k.mark ∷ []) (s.marks ++ (e.mark ∷ [])) k.goes (goes_on T k.next s.next e.next s.marks (e.mark ∷ []) s.goes e.goes);
        spelled = λ after_it.
            let i = s.spelled (e.mark ∷ after_it) in
            IsDeclaration.stated kind k.mark e.mark k.is (subst (λ ns. IsFormula (with_params 0) i.0 i.1.0 ns s.tree (e.mark ∷ after_it)) (sym (append_assoc s.marks (e.mark ∷ []) after_it)) i.1.1) e.is;
        fine = s.fine;
        is = ap (item.Formula kind) s.is;
      }
