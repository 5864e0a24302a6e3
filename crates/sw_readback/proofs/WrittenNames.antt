-- The text of declared names is that of their words, and words of the same names break no rule where those did not.
use Rattle.std.specs.Prelude.{◌≡◌, ℕ, ◌||◌, Bool, true, false, not, List, [], ◌∷◌, ◌++◌, length, map, Option, Some, None, unwrap_or, slice_get, codes}
use Rattle.std.specs.List.{AllByRecursion, flat_map, list_any}
use Rattle.std.specs.Str.{bytes_eq}
use Rattle.std.proofs.Common.{refl, sym, ap, subst, ◌∙◌, append_assoc, append-nil}
use Rattle.sw_logic.specs.declared.syntax.Signature.{Signature}
use Rattle.sw_logic.specs.declared.syntax.Symbol.{Symbol}
use Rattle.sw_logic.specs.declared.syntax.Binder as logic
use Rattle.sw_logic.specs.Canonical.{joined, binder_text, name_or_none}
use Rattle.sw_meaning.specs.ProtocolText.{sort_text, name_text, listed, params_text}
use Rattle.sw_trees.specs.declared.words.Word.{Word}
use Rattle.sw_trees.specs.declared.tree.Binder.{Binder}
use Rattle.sw_text.specs.declared.names.Rule.{Rule}
use Rattle.sw_text.specs.declared.names.Violation.{Violation}
use Rattle.sw_text.specs.Names.{Around, bytes_at, sort_number, symbol_number, is_none, number_or_0, is_declared, broken, binders_faults, binder_faults, bound}
use Rattle.sw_text.proofs.SortedTerms.{apart, passed}
use Rattle.sw_readback.proofs.SameMeaning.{broken_anywhere, none}
use Rattle.sw_readback.proofs.ShownAs.{Extends, found, sort_found, binder_is}
use Rattle.sw_readback.proofs.Tidy.{binder_piece}
use Rattle.sw_readback.specs.Formulas.{with_text}
use Rattle.sw_protocol.specs.Declaring.{name_faults, sort_faults, sorts_faults, sort_of, sorts_of, symbol_of, symbols_of, is_among, fixed_by, modified_tests, one_modified_faults, modified_faults}
use Rattle.sw_readback.proofs.WrittenLists.{others_piece, names_piece, bytes_of, other_params}

-- ---- the text of what was declared

others_listed : (A : List ℕ) (name : ℕ → List ℕ) (number : Word → ℕ) (ws : List Word) → AllByRecursion (λ w. name (number w) ≡ bytes_at A w) ws
    → flat_map (λ k. codes ", " ++ name k) (map number ws) ≡ others_piece A ws
others_listed A name number [] h = refl
others_listed A name number (w ∷ ws) h =
    ap (λ (x : List ℕ). (codes ", " ++ x) ++ flat_map (λ k. codes ", " ++ name k) (map number ws)) h.0
    ∙ ap (λ (x : List ℕ). (codes ", " ++ bytes_at A w) ++ x) (others_listed A name number ws h.1)

pub names_listed : (A : List ℕ) (name : ℕ → List ℕ) (number : Word → ℕ) (ws : List Word) → AllByRecursion (λ w. name (number w) ≡ bytes_at A w) ws
    → listed name (map number ws) ≡ names_piece A ws
names_listed A name number [] h = refl
names_listed A name number (w ∷ ws) h =
    ap (λ (x : List ℕ). x ++ flat_map (λ k. codes ", " ++ name k) (map number ws)) h.0
    ∙ ap (λ (x : List ℕ). bytes_at A w ++ x) (others_listed A name number ws h.1)

module _ (a : Around) (sig : Signature) (later : Extends a.signature sig) where
  pub sort_shown : (w : Word) → sort_faults a w ≡ [] → sort_text sig (sort_of a w) ≡ bytes_at a.text w
  sort_shown w e =
      let sort = bytes_at a.text w in
      let known = passed w.token.at ((is_none (sort_number a sort), Rule.Unknown) ∷ []) e in
      sort_found a sig later (sort_number a sort) sort refl known.0

  pub sorts_shown : (ws : List Word) → sorts_faults a ws ≡ [] → AllByRecursion (λ w. sort_text sig (sort_of a w) ≡ bytes_at a.text w) ws
  sorts_shown [] e = tt
  sorts_shown (w ∷ ws) e = let both = apart (sort_faults a w) (sorts_faults a ws) e in (sort_shown w both.0, sorts_shown ws both.1)

  symbol_found : (o : Option ℕ) (name : List ℕ) → symbol_number a name ≡ o → is_none o ≡ false → name_text sig (number_or_0 o) ≡ name
  symbol_found None name e h = cc
  symbol_found (Some k) name e h = let f = found (λ (s : Symbol). s.name) a.signature.symbols name k e in ap name_or_none (later.symbols k f.0 f.1) ∙ f.2

  pub symbols_shown : (before ws : List Word) → modified_faults a before ws ≡ [] → AllByRecursion (λ w. name_text sig (symbol_of a w) ≡ bytes_at a.text w) ws
  symbols_shown before [] e = tt
  symbols_shown before (w ∷ ws) e =
      let name = bytes_at a.text w in
      let both = apart (one_modified_faults a before w) (modified_faults a (before ++ w ∷ []) ws) e in
      let known = passed w.token.at (modified_tests a before name (symbol_number a name)) both.0 in
      (symbol_found (symbol_number a name) name refl known.1.0, symbols_shown (before ++ w ∷ []) ws both.1)

  others_shown : (scope : List logic.Binder) (bs : List Binder) → binders_faults a scope bs ≡ [] → flat_map (λ y. codes ", " ++ y) (map (binder_text sig) (map (bound a) bs)) ≡ other_params a.text [] bs
  others_shown scope [] e = refl
  others_shown scope (b ∷ bs) e =
      let both = apart (binder_faults a scope b) (binders_faults a (scope ++ bound a b ∷ []) bs) e in
      ap (λ (x : List ℕ). (codes ", " ++ x) ++ flat_map (λ y. codes ", " ++ y) (map (binder_text sig) (map (bound a) bs))) (binder_is a sig later scope b both.0)
      ∙ ap (λ (x : List ℕ). (codes ", " ++ binder_piece a.text b) ++ x) (others_shown (scope ++ bound a b ∷ []) bs both.1)

  pub params_shown : (b : Binder) (bs : List Binder) → binders_faults a [] (b ∷ bs) ≡ []
      → params_text sig (map (bound a) (b ∷ bs)) ≡ codes "(" ++ ((binder_piece a.text b ++ other_params a.text [] bs) ++ codes ")")
  params_shown b bs e =
      let both = apart (binder_faults a [] b) (binders_faults a (bound a b ∷ []) bs) e in
      ap (λ (x : List ℕ). codes "(" ++ ((x ++ flat_map (λ y. codes ", " ++ y) (map (binder_text sig) (map (bound a) bs))) ++ codes ")")) (binder_is a sig later [] b both.0)
      ∙ ap (λ (x : List ℕ). codes "(" ++ ((binder_piece a.text b ++ x) ++ codes ")")) (others_shown (bound a b ∷ []) bs both.1)

-- ---- the same names break no rule

module _ (a : Around) (T : List ℕ) where
  abbrev b : Around
  b = with_text a T

  pub name_fine : (w v : Word) → bytes_at a.text w ≡ bytes_at T v → name_faults a w ≡ [] → name_faults b v ≡ []
  name_fine w v s e = subst (λ name. broken v.token.at ((is_declared a name, Rule.Twice) ∷ []) ≡ []) s (broken_anywhere w.token.at v.token.at ((is_declared a (bytes_at a.text w), Rule.Twice) ∷ []) e)

  pub sort_fine : (w v : Word) → bytes_at a.text w ≡ bytes_at T v → sort_faults a w ≡ [] → sort_faults b v ≡ []
  sort_fine w v s e = subst (λ name. broken v.token.at ((is_none (sort_number a name), Rule.Unknown) ∷ []) ≡ []) s (broken_anywhere w.token.at v.token.at ((is_none (sort_number a (bytes_at a.text w)), Rule.Unknown) ∷ []) e)

  pub sorts_fine : (ws vs : List Word) → bytes_of a.text ws ≡ bytes_of T vs → sorts_faults a ws ≡ [] → sorts_faults b vs ≡ []
  sorts_fine [] [] s e = refl
  sorts_fine [] (v ∷ vs) s e = cc
  sorts_fine (w ∷ ws) [] s e = cc
  sorts_fine (w ∷ ws) (v ∷ vs) s e =
      let both = apart (sort_faults a w) (sorts_faults a ws) e in
      let first : bytes_at a.text w ≡ bytes_at T v = cc in
      let rest : bytes_of a.text ws ≡ bytes_of T vs = cc in
      none (sort_faults b v) (sorts_faults b vs) (sort_fine w v first both.0) (sorts_fine ws vs rest both.1)

  pub sort_same : (w v : Word) → bytes_at a.text w ≡ bytes_at T v → sort_of b v ≡ sort_of a w
  sort_same w v s = ap (λ name. number_or_0 (sort_number a name)) (sym s)

  pub sorts_same : (ws vs : List Word) → bytes_of a.text ws ≡ bytes_of T vs → sorts_of b vs ≡ sorts_of a ws
  sorts_same [] [] s = refl
  sorts_same [] (v ∷ vs) s = cc
  sorts_same (w ∷ ws) [] s = cc
  sorts_same (w ∷ ws) (v ∷ vs) s =
      let first : bytes_at a.text w ≡ bytes_at T v = cc in
      let rest : bytes_of a.text ws ≡ bytes_of T vs = cc in
      ap (λ k. k ∷ sorts_of b vs) (sort_same w v first) ∙ ap (λ ks. sort_of a w ∷ ks) (sorts_same ws vs rest)

  pub symbols_same : (ws vs : List Word) → bytes_of a.text ws ≡ bytes_of T vs → symbols_of b vs ≡ symbols_of a ws
  symbols_same [] [] s = refl
  symbols_same [] (v ∷ vs) s = cc
  symbols_same (w ∷ ws) [] s = cc
  symbols_same (w ∷ ws) (v ∷ vs) s =
      let first : bytes_at a.text w ≡ bytes_at T v = cc in
      let rest : bytes_of a.text ws ≡ bytes_of T vs = cc in
      let same : symbol_of b v ≡ symbol_of a w = ap (λ name. number_or_0 (symbol_number a name)) (sym first) in
      ap (λ k. k ∷ symbols_of b vs) same ∙ ap (λ ks. symbol_of a w ∷ ks) (symbols_same ws vs rest)

  among_same : (name : List ℕ) (ws vs : List Word) → bytes_of a.text ws ≡ bytes_of T vs → is_among a.text ws name ≡ is_among T vs name
  among_same name [] [] s = refl
  among_same name [] (v ∷ vs) s = cc
  among_same name (w ∷ ws) [] s = cc
  among_same name (w ∷ ws) (v ∷ vs) s =
      let first : bytes_at a.text w ≡ bytes_at T v = cc in
      let rest : bytes_of a.text ws ≡ bytes_of T vs = cc in
      ap (λ x. bytes_eq name x || is_among a.text ws name) first ∙ ap (λ t. bytes_eq name (bytes_at T v) || t) (among_same name ws vs rest)

  one_modified_fine : (before after : List Word) (w v : Word) → bytes_of a.text before ≡ bytes_of T after → bytes_at a.text w ≡ bytes_at T v → one_modified_faults a before w ≡ [] → one_modified_faults b after v ≡ []
  one_modified_fine before after w v s t e =
      let name = bytes_at a.text w in
      let here = broken_anywhere w.token.at v.token.at (modified_tests a before name (symbol_number a name)) e in
      let moved = subst (λ t. broken v.token.at ((t, Rule.Twice) ∷ (is_none (symbol_number a name), Rule.Unknown) ∷ (fixed_by a (symbol_number a name), Rule.PostState) ∷ []) ≡ []) (among_same name before after s) here in
      subst (λ x. broken v.token.at ((is_among T after x, Rule.Twice) ∷ (is_none (symbol_number a x), Rule.Unknown) ∷ (fixed_by a (symbol_number a x), Rule.PostState) ∷ []) ≡ []) t moved

  last_same : (ws vs : List Word) (w v : Word) → bytes_of a.text ws ≡ bytes_of T vs → bytes_at a.text w ≡ bytes_at T v → bytes_of a.text (ws ++ w ∷ []) ≡ bytes_of T (vs ++ v ∷ [])
  last_same [] [] w v s t = ap (λ x. x ∷ []) t
  last_same [] (v' ∷ vs) w v s t = cc
  last_same (w' ∷ ws) [] w v s t = cc
  last_same (w' ∷ ws) (v' ∷ vs) w v s t =
      let first : bytes_at a.text w' ≡ bytes_at T v' = cc in
      let rest : bytes_of a.text ws ≡ bytes_of T vs = cc in
      ap (λ x. x ∷ bytes_of a.text (ws ++ w ∷ [])) first ∙ ap (λ xs. bytes_at T v' ∷ xs) (last_same ws vs w v rest t)

  pub modified_fine : (before after ws vs : List Word) → bytes_of a.text before ≡ bytes_of T after → bytes_of a.text ws ≡ bytes_of T vs → modified_faults a before ws ≡ [] → modified_faults b after vs ≡ []
  modified_fine before after [] [] s t e = refl
  modified_fine before after [] (v ∷ vs) s t e = cc
  modified_fine before after (w ∷ ws) [] s t e = cc
  modified_fine before after (w ∷ ws) (v ∷ vs) s t e =
      let both = apart (one_modified_faults a before w) (modified_faults a (before ++ w ∷ []) ws) e in
      let first : bytes_at a.text w ≡ bytes_at T v = cc in
      let rest : bytes_of a.text ws ≡ bytes_of T vs = cc in
      none (one_modified_faults b after v) (modified_faults b (after ++ v ∷ []) vs) (one_modified_fine before after w v s first both.0)
      (modified_fine (before ++ w ∷ []) (after ++ v ∷ []) ws vs (last_same before after w v s first) rest both.1)
