-- One more part of a row.
use Rattle.std.proofs.Common.{◌≡◌, ℕ, zero, suc, ◌+◌, ◌<◌, ◌≤◌, true, false, List, [], ◌∷◌, ◌++◌, length, map, take, get_or, Some, arith, sym, ap, ◌∙◌, subst, inl, inr}
use Rattle.std.specs.Prelude.{slice_get, slice_index_or}
use Rattle.std.specs.List.{AllByRecursion}
use Rattle.std.proofs.lemmas.List.{map-append, length-map, take_more}
use Rattle.sw_lists.proofs.Places.{get_append_left}
use Rattle.sw_logic.specs.declared.syntax.Signature.{Signature}
use Rattle.sw_logic.specs.declared.syntax.Term.{Term}
use Rattle.sw_logic.specs.declared.syntax.Formula.{Formula}
use Rattle.sw_logic.specs.Sorted.{well_sorted}
use Rattle.sw_refute.specs.declared.clauses.Lit.{Lit}
use Rattle.sw_refute.specs.Satisfaction.{variable}
use Rattle.sw_truth.specs.declared.sets.SkolemSet.{SkolemSet}
use Rattle.sw_universe.specs.declared.universe.Universe.{Universe}
use Rattle.sw_truth.specs.declared.instances.Atom.{Atom}
use Rattle.sw_ground.specs.declared.table.Table.{Table}
use Rattle.sw_universe.specs.ByNumber.{terms_at}
use Rattle.sw_instances.specs.Named.{Name, related, equated, inner, Literal}
use Rattle.sw_instances.specs.Matrix.{Encoded, encoded, parts_at}
use Rattle.sw_instances.specs.Numbered.{Beside, InOrder, done, known, first, IsLiteral}
use Rattle.sw_ground.specs.Indexed.{IsNumbering, Numbers}
use Rattle.sw_ground.specs.Building.{IsAround, IsFree, NumbersAll, AreLiterals}
use Rattle.sw_ground.proofs.Looking.{beside_more}
use Rattle.sw_ground.proofs.Within.{IsWithin, is_within, contained, in_order}

pub parts_more : (path : List ℕ) (a : ℕ) (fs : List (List ℕ → Encoded)) (f : List ℕ → Encoded) → parts_at path a (fs ++ f ∷ []) ≡ parts_at path a fs ++ f (path ++ (a + length fs) ∷ []) ∷ []
parts_more path a [] f = let e : a ≡ a + 0 = omega arith in ap (λ (n : ℕ). f (path ++ n ∷ []) ∷ []) e
parts_more path a (g ∷ fs) f =
    let e : a + 1 + length fs ≡ a + suc (length fs) = omega arith in
    ap (λ (es : List Encoded). g (path ++ a ∷ []) ∷ es) (parts_more path (a + 1) fs f ∙ ap (λ (n : ℕ). parts_at path (a + 1) fs ++ f (path ++ n ∷ []) ∷ []) e)

-- an inner name is of an earlier part
abbrev pub IsEarlier : List ℕ → ℕ → Name → Type 0
IsEarlier path m (related symbol ts) = Unit {0}
IsEarlier path m (equated t u) = Unit {0}
IsEarlier path m (inner x) = (j : ℕ) × (j < m) × (r : List ℕ) × (x ≡ (path ++ j ∷ []) ++ r)

pub earlier : (path : List ℕ) (j m : ℕ) (n : Name) → j < m → IsWithin (path ++ j ∷ []) n → IsEarlier path m n
earlier path j m (related symbol ts) h w = tt
earlier path j m (equated t u) h w = tt
earlier path j m (inner x) h w = (j, h, w.0, w.1)

abbrev names_of : List Encoded → List Name
names_of es = map (λ (l : Literal). l.name) (map (λ (e : Encoded). e.literal) es)

module _ (terms : List Term) (path : List ℕ) where
  abbrev row : ℕ → List Formula → List Encoded
  row a ps = parts_at path a (map (encoded terms) ps)

  all_earlier : (a : ℕ) (ps : List Formula) (m : ℕ) → a + length ps ≤ m → AllByRecursion (IsEarlier path m) (names_of (row a ps))
  all_earlier a [] m h = tt
  all_earlier a (p ∷ ps) m h =
      (earlier path a m (encoded terms p (path ++ a ∷ [])).literal.name (omega arith) (is_within terms p (path ++ a ∷ [])).literal, all_earlier (a + 1) ps m (omega arith))

  pub at_element : {X : Type 0} (P : X → Type 0) (xs : List X) (k : ℕ) (x : X) → AllByRecursion P xs → k < length xs → slice_index_or xs k x ≡ x → P x
  at_element P [] k x h l e = absurd (omega arith)
  at_element P (y ∷ xs) zero x h l e = subst P e h.0
  at_element P (y ∷ xs) (suc k) x h l e = at_element P xs k x h.1 (omega arith) e

  pub same_number : (p : List ℕ) (k j : ℕ) (q r : List ℕ) → (p ++ k ∷ []) ++ q ≡ (p ++ j ∷ []) ++ r → k ≡ j
  same_number [] k j q r e = cc
  same_number (x ∷ p) k j q r e = let f : (p ++ k ∷ []) ++ q ≡ (p ++ j ∷ []) ++ r = cc in same_number p k j q r f

  -- after the literals of the parts before it, the next part is still free
  free_next : (names after : List Name) (ps : List Formula) → ((k : ℕ) → IsFree names (path ++ k ∷ [])) → InOrder names (names_of (row 0 ps)) after → IsFree after (path ++ length ps ∷ [])
  free_next names after ps free o q c = elim (contained o (inner ((path ++ length ps ∷ []) ++ q)) c) [
    | inl x ↦ free (length ps) q x
    | inr y ↦
        let w = at_element (IsEarlier path (length ps)) (names_of (row 0 ps)) y.0 (inner ((path ++ length ps ∷ []) ++ q)) (all_earlier 0 ps (length ps) (omega arith)) y.1 y.2 in
        let same = same_number path (length ps) w.0 q w.2 w.3 in
        let low : w.0 < length ps = w.1 in
        absurd (omega arith)
  ]

pub kept : {before xs after : List Name} → InOrder before xs after → (v : ℕ) (n : Name) → slice_get before v ≡ Some n → slice_get after v ≡ Some n
kept done v n e = e
kept (known c o) v n e = kept o v n e
kept (first {before} {after} {rest} {n = m} c o) v n e = kept o v n (get_append_left before (m ∷ []) v n e)

pub all_kept : {before xs after : List Name} → InOrder before xs after → (ls : List Literal) (lits : List Lit) → Beside (IsLiteral before) ls lits → Beside (IsLiteral after) ls lits
all_kept o [] [] h = tt
all_kept o [] (m ∷ lits) h = absurd h
all_kept o (l ∷ ls) [] h = absurd h
all_kept o (l ∷ ls) (m ∷ lits) h = (record { variable = kept o (variable m) l.name h.0.variable; sign = h.0.sign }, all_kept o ls lits h.1)

pub all_of_front : {X : Type 0} (P : X → Type 0) (xs : List X) (x : X) → AllByRecursion P (xs ++ x ∷ []) → AllByRecursion P xs × P x
all_of_front P [] x h = (tt, h.0)
all_of_front P (y ∷ xs) x h = let r = all_of_front P xs x h.1 in ((h.0, r.0), r.1)

module _ (sig : Signature) (sizes firsts vars ns : List ℕ) (table : Table) (atoms : List Atom) where
  pub no_literals : AreLiterals sig sizes firsts vars ns table atoms table atoms [] []
  no_literals set u names path a w n free = record { after = names; order = done; numbering = n; literals = tt }

  -- one more literal
  pub one_more : (t1 t2 : Table) (a1 a2 : List Atom) (ps : List Formula) (p : Formula) (lits : List Lit) (lit : Lit)
      → AreLiterals sig sizes firsts vars ns table atoms t1 a1 ps lits
      → ((set : SkolemSet) (u : Universe) (names : List Name) (path : List ℕ) → IsAround set u sig sizes firsts vars ns → well_sorted sig false p vars ≡ true
      → IsNumbering set u t1 a1 names → IsFree names path → Numbers set u t2 a2 names (encoded (terms_at u vars ns) p path).literal lit)
      → AreLiterals sig sizes firsts vars ns table atoms t2 a2 (ps ++ p ∷ []) (lits ++ lit ∷ [])
  one_more t1 t2 a1 a2 ps p lits lit rows h set u names path a w n free =
      let terms = terms_at u vars ns in
      let both = all_of_front (λ (f : Formula). well_sorted sig false f vars ≡ true) ps p w in
      let r = rows set u names path a both.0 n free in
      let enc : Formula → List ℕ → Encoded = encoded terms in
      let es = parts_at path 0 (map enc ps) in
      let e = enc p (path ++ length ps ∷ []) in
      let g = h set u r.after (path ++ length ps ∷ []) a both.1 r.numbering (free_next terms path names r.after ps free r.order) in
      let count : 0 + length (map enc ps) ≡ length ps = omega (arith, length-map ps enc) in
      let split : parts_at path 0 (map enc (ps ++ p ∷ [])) ≡ es ++ e ∷ [] =
      ap (parts_at path 0) (map-append enc ps (p ∷ [])) ∙ parts_more path 0 (map enc ps) (enc p) ∙ ap (λ (k : ℕ). es ++ enc p (path ++ k ∷ []) ∷ []) count in
      let here : NumbersAll set u t2 a2 names (map (λ (x : Encoded). x.literal) (es ++ e ∷ [])) (lits ++ lit ∷ []) =
      let ls = map (λ (x : Encoded). x.literal) es in
      let lasts : map (λ (x : Encoded). x.literal) (es ++ e ∷ []) ≡ ls ++ e.literal ∷ [] = map-append (λ (x : Encoded). x.literal) es (e ∷ []) in
      let name_of : Literal → Name = λ l. l.name in
      let ordered : InOrder names (map name_of (ls ++ e.literal ∷ [])) g.after =
      subst (λ (xs : List Name). InOrder names xs g.after) (sym (map-append name_of ls (e.literal ∷ []))) (in_order r.order g.order) in
      subst (λ (xs : List Literal). NumbersAll set u t2 a2 names xs (lits ++ lit ∷ [])) (sym lasts)
      (record {
        after = g.after;
        order = ordered;
        numbering = g.numbering;
        literals = beside_more (IsLiteral g.after) ls lits e.literal lit (all_kept g.order ls lits r.literals) g.literal;
      }) in
      subst (λ (xs : List Encoded). NumbersAll set u t2 a2 names (map (λ (x : Encoded). x.literal) xs) (lits ++ lit ∷ [])) (sym split) here

-- what a front of the parts is, one part further
pub front_more : (sig : Signature) (sizes firsts vars ns : List ℕ) (table : Table) (atoms : List Atom) (t1 t2 : Table) (a1 a2 : List Atom) (parts : List Formula) (k : ℕ) (p : Formula) (lits more : List Lit) (lit : Lit)
    → k < length parts → p ≡ get_or parts k p → more ≡ lits ++ lit ∷ []
    → AreLiterals sig sizes firsts vars ns table atoms t1 a1 (take k parts) lits
    → ((set : SkolemSet) (u : Universe) (names : List Name) (path : List ℕ) → IsAround set u sig sizes firsts vars ns → well_sorted sig false p vars ≡ true
    → IsNumbering set u t1 a1 names → IsFree names path → Numbers set u t2 a2 names (encoded (terms_at u vars ns) p path).literal lit)
    → AreLiterals sig sizes firsts vars ns table atoms t2 a2 (take (k + 1) parts) more
front_more sig sizes firsts vars ns table atoms t1 t2 a1 a2 parts k p lits more lit low is grown rows h =
    let split : take (k + 1) parts ≡ take k parts ++ p ∷ [] = take_more parts k p low ∙ ap (λ (x : Formula). take k parts ++ x ∷ []) (sym is) in
    subst (λ (ps : List Formula). AreLiterals sig sizes firsts vars ns table atoms t2 a2 ps more) (sym split)
    (subst (AreLiterals sig sizes firsts vars ns table atoms t2 a2 (take k parts ++ p ∷ [])) (sym grown)
    (one_more sig sizes firsts vars ns table atoms t1 t2 a1 a2 (take k parts) p lits lit rows h))
