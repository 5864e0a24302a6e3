-- What a matrix emits at the top.
use Rattle.std.proofs.Common.{◌≡◌, ℕ, zero, suc, ◌+◌, ◌<◌, ◌≤◌, Bool, true, false, List, [], ◌∷◌, ◌++◌, length, map, take, get_or, rules, arith, refl, sym, ap, ◌∙◌, subst, inl, inr, append-nil, append_assoc}
use Rattle.std.proofs.lemmas.Grind.{flat_map-append}
use Rattle.std.specs.Prelude.{Contains}
use Rattle.std.specs.List.{AllByRecursion, flat_map, list_all}
use Rattle.std.proofs.lemmas.List.{map-append, length-map, take_more}
use Rattle.sw_lists.proofs.Each.{each-append}
use Rattle.sw_logic.specs.declared.syntax.Signature.{Signature}
use Rattle.sw_logic.specs.declared.syntax.Binder.{Binder}
use Rattle.sw_logic.specs.declared.syntax.Term.{Term}
use Rattle.sw_logic.specs.declared.syntax.Formula as formulas
use Rattle.sw_logic.specs.declared.syntax.Formula.{Formula}
use Rattle.sw_logic.specs.declared.syntax.Formula.TheVariants as formula
use Rattle.sw_logic.specs.Sorted.{well_sorted}
use Rattle.sw_refute.specs.declared.clauses.Lit.{Lit}
use Rattle.sw_refute.specs.declared.clauses.Clause.{Clause}
use Rattle.sw_truth.specs.declared.sets.SkolemSet.{SkolemSet}
use Rattle.sw_universe.specs.declared.universe.Universe.{Universe}
use Rattle.sw_truth.specs.declared.instances.Atom.{Atom}
use Rattle.sw_ground.specs.declared.table.Table.{Table}
use Rattle.sw_universe.specs.ByNumber.{terms_at}
use Rattle.sw_instances.specs.Named.{Name, inner, Literal}
use Rattle.sw_instances.specs.Matrix.{Encoded, encoded, parts_at}
use Rattle.sw_instances.specs.Numbered.{Beside, InOrder, done, IsClause, names_in}
use Rattle.sw_ground.specs.Indexed.{IsNumbering, Numbers}
use Rattle.sw_ground.specs.Building.{IsAround, IsFree, IsFreeBut, AreLiterals, IsBuilt, Emits, EmitsInside, EmitsInsides, EmitsTop, EmitsTops, EmitsSingle, clause_of}
use Rattle.sw_ground.proofs.Within.{is_within, contained, in_order}
use Rattle.sw_ground.proofs.Rows.{parts_more, IsEarlier, at_element, same_number, all_of_front}
use Rattle.sw_ground.proofs.Emitting.{insides, clauses_earlier}
use Rattle.sw_ground.proofs.Joining.{beside_append, clauses_kept, all_sorted, joined}
use Rattle.sw_ground.proofs.Parts.{free_inward}

abbrev tops : List Encoded → List (List Literal)
tops es = flat_map (λ (e : Encoded). e.top) es

module _ (terms : List Term) (path : List ℕ) where
  abbrev row : ℕ → List Formula → List Encoded
  row a ps = parts_at path a (map (encoded terms) ps)

  tops_earlier : (a : ℕ) (ps : List Formula) (m : ℕ) → a + length ps ≤ m → AllByRecursion (IsEarlier path m) (names_in (tops (row a ps)))
  tops_earlier a [] m h = tt
  tops_earlier a (p ∷ ps) m h =
      let e = encoded terms p (path ++ a ∷ []) in
      let P : List Name → Type 0 = AllByRecursion (IsEarlier path m) in
      subst P (sym (flat_map-append (map (λ (l : Literal). l.name)) e.top (tops (row (a + 1) ps))))
      (each-append (IsEarlier path m) (names_in e.top) (names_in (tops (row (a + 1) ps)))
      (clauses_earlier terms path a m e.top (omega arith) (is_within terms p (path ++ a ∷ [])).top) (tops_earlier (a + 1) ps m (omega arith)))

  free_after : (names after : List Name) (ps : List Formula) → ((k : ℕ) → IsFree names (path ++ k ∷ [])) → InOrder names (names_in (tops (row 0 ps))) after → IsFree after (path ++ length ps ∷ [])
  free_after names after ps free o q c = elim (contained o (inner ((path ++ length ps ∷ []) ++ q)) c) [
    | inl x ↦ free (length ps) q x
    | inr y ↦
        let w = at_element terms path (IsEarlier path (length ps)) (names_in (tops (row 0 ps))) y.0 (inner ((path ++ length ps ∷ []) ++ q)) (tops_earlier 0 ps (length ps) (omega arith)) y.1 y.2 in
        let same = same_number terms path path (length ps) w.0 q w.2 w.3 in
        let low : w.0 < length ps = w.1 in
        absurd (omega arith)
  ]

module _ (sig : Signature) (sizes firsts vars ns : List ℕ) (table : Table) (atoms : List Atom) (clauses : List Clause) where
  pub no_top : EmitsTops sig sizes firsts vars ns table atoms clauses table atoms clauses []
  no_top set u names named path a w built free = record { after = names; order = done; built = subst (IsBuilt set u table atoms clauses names) (sym (append-nil named)) built }

  pub one_top : (t1 t2 : Table) (a1 a2 : List Atom) (c1 c2 : List Clause) (ps : List Formula) (p : Formula)
      → EmitsTops sig sizes firsts vars ns table atoms clauses t1 a1 c1 ps → EmitsTop sig sizes firsts vars ns t1 a1 c1 t2 a2 c2 p
      → EmitsTops sig sizes firsts vars ns table atoms clauses t2 a2 c2 (ps ++ p ∷ [])
  one_top t1 t2 a1 a2 c1 c2 ps p rows h set u names named path a w built free =
      let terms = terms_at u vars ns in
      let enc : Formula → List ℕ → Encoded = encoded terms in
      let es = parts_at path 0 (map enc ps) in
      let e = enc p (path ++ length ps ∷ []) in
      let count : 0 + length (map enc ps) ≡ length ps = omega (arith, length-map ps enc) in
      let split : parts_at path 0 (map enc (ps ++ p ∷ [])) ≡ es ++ e ∷ [] =
      ap (parts_at path 0) (map-append enc ps (p ∷ [])) ∙ parts_more path 0 (map enc ps) (enc p) ∙ ap (λ (k : ℕ). es ++ enc p (path ++ k ∷ []) ∷ []) count in
      let both = all_of_front (λ (f : Formula). well_sorted sig false f vars ≡ true) ps p w in
      let r = rows set u names named path a both.0 built free in
      let g = h set u r.after (named ++ tops es) (path ++ length ps ∷ []) a both.1 r.built (free_after terms path names r.after ps free r.order) in
      let tops_split : tops (es ++ e ∷ []) ≡ tops es ++ e.top = flat_map-append (λ (x : Encoded). x.top) es (e ∷ []) ∙ ap (λ (cs : List (List Literal)). tops es ++ cs) (append-nil e.top) in
      let here : Emits set u t2 a2 c2 names named (tops es ++ e.top) = record {
        after = g.after;
        order = subst (λ (xs : List Name). InOrder names xs g.after) (sym (flat_map-append (map (λ (l : Literal). l.name)) (tops es) e.top)) (in_order r.order g.order);
        built = subst (IsBuilt set u t2 a2 c2 g.after) (append_assoc named (tops es) e.top) g.built;
      } in
      subst (λ (xs : List Encoded). Emits set u t2 a2 c2 names named (tops xs)) (sym split)
      (subst (Emits set u t2 a2 c2 names named) (sym tops_split) here)

  pub true_top : (part : Formula) → part ≡ formula.True → EmitsTop sig sizes firsts vars ns table atoms clauses table atoms clauses part
  true_top part is set u names named path a w built free =
      let e : (encoded (terms_at u vars ns) formula.True path).top ≡ [] = search (rules, formulas.the_lemmas) in
      let none : (encoded (terms_at u vars ns) part path).top ≡ [] = ap (λ g. (encoded (terms_at u vars ns) g path).top) is ∙ e in
      subst (Emits set u table atoms clauses names named) (sym none)
      (record { after = names; order = done; built = subst (IsBuilt set u table atoms clauses names) (sym (append-nil named)) built })

  pub false_top : (t2 : Table) (a2 : List Atom) (c2 : List Clause) (part : Formula) → part ≡ formula.False → t2 ≡ table → a2 ≡ atoms → c2 ≡ clauses ++ clause_of [] ∷ []
      → EmitsTop sig sizes firsts vars ns table atoms clauses t2 a2 c2 part
  false_top t2 a2 c2 part is same_table same_atoms grown set u names named path a w built free =
      let e : (encoded (terms_at u vars ns) formula.False path).top ≡ [] ∷ [] = search (rules, formulas.the_lemmas) in
      let whole : (encoded (terms_at u vars ns) part path).top ≡ [] ∷ [] = ap (λ g. (encoded (terms_at u vars ns) g path).top) is ∙ e in
      let one : IsClause names [] (clause_of []) = record { numbered = []; beside = tt; once = refl } in
      let emits : Emits set u t2 a2 c2 names named ([] ∷ []) = record {
        after = names;
        order = done;
        built = record {
          numbering = subst (λ (x : Table). IsNumbering set u x a2 names) (sym same_table) (subst (λ (xs : List Atom). IsNumbering set u table xs names) (sym same_atoms) built.numbering);
          made = subst (Beside (IsClause names) (named ++ [] ∷ [])) (sym grown) (beside_append (IsClause names) named ([] ∷ []) clauses (clause_of [] ∷ []) built.made (one, tt));
        };
      } in
      subst (Emits set u t2 a2 c2 names named) (sym whole) emits

  -- a part that is a literal, or has one
  pub single_top : (t1 t2 : Table) (a1 a2 : List Atom) (c1 c2 : List Clause) (part : Formula) (lit : Lit)
      → ((set : SkolemSet) (u : Universe) (names : List Name) (path : List ℕ) → IsAround set u sig sizes firsts vars ns → well_sorted sig false part vars ≡ true
      → IsNumbering set u table atoms names → IsFree names path → Numbers set u t1 a1 names (encoded (terms_at u vars ns) part path).literal lit)
      → c1 ≡ clauses ++ clause_of (lit ∷ []) ∷ [] → EmitsInside sig sizes firsts vars ns t1 a1 c1 t2 a2 c2 part lit
      → EmitsSingle sig sizes firsts vars ns table atoms clauses t2 a2 c2 part
  single_top t1 t2 a1 a2 c1 c2 part lit number grown rest set u names named path a w built free =
      let e = encoded (terms_at u vars ns) part path in
      let r = number set u names path a w built.numbering free in
      let one : IsClause r.after (e.literal ∷ []) (clause_of (lit ∷ [])) = record { numbered = lit ∷ []; beside = (r.literal, tt); once = refl } in
      let now : IsBuilt set u t1 a1 c1 r.after (named ++ (e.literal ∷ []) ∷ []) = record {
        numbering = r.numbering;
        made = subst (Beside (IsClause r.after) (named ++ (e.literal ∷ []) ∷ [])) (sym grown)
            (beside_append (IsClause r.after) named ((e.literal ∷ []) ∷ []) clauses (clause_of (lit ∷ []) ∷ []) (clauses_kept r.order named clauses built.made) (one, tt));
      } in
      let free_but : IsFreeBut r.after path e.literal.name = λ q c. elim (contained r.order (inner (path ++ q)) c) [
        | inl x ↦ absurd (free q x)
        | inr y ↦ only e.literal.name (inner (path ++ q)) y
      ] in
      let g = rest set u r.after (named ++ (e.literal ∷ []) ∷ []) path a w now free_but r.literal in
      record {
        after = g.after;
        order = in_order r.order g.order;
        built = subst (IsBuilt set u t2 a2 c2 g.after) (append_assoc named ((e.literal ∷ []) ∷ []) e.inside) g.built;
      }
    where
      only : (n m : Name) → Contains (n ∷ []) m → m ≡ n
      only n m (zero, h, e) = sym e
      only n m (suc k, h, e) = absurd (omega arith)

  pub by_single : (t2 : Table) (a2 : List Atom) (c2 : List Clause) (part f : Formula) → part ≡ f
      → ((terms : List Term) (path : List ℕ) → (encoded terms f path).top ≡ ((encoded terms f path).literal ∷ []) ∷ (encoded terms f path).inside)
      → EmitsSingle sig sizes firsts vars ns table atoms clauses t2 a2 c2 part → EmitsTop sig sizes firsts vars ns table atoms clauses t2 a2 c2 part
  by_single t2 a2 c2 part f is e h set u names named path a w built free =
      let terms = terms_at u vars ns in
      let P : Formula → Type 0 = λ g. (encoded terms g path).top ≡ ((encoded terms g path).literal ∷ []) ∷ (encoded terms g path).inside in
      let whole : P part = subst P (sym is) (e terms path) in
      subst (Emits set u t2 a2 c2 names named) (sym whole) (h set u names named path a w built free)

  pub all_top : (t2 : Table) (a2 : List Atom) (c2 : List Clause) (part : Formula) (ps : List Formula) → part ≡ formula.All ps
      → EmitsTops sig sizes firsts vars ns table atoms clauses t2 a2 c2 ps → EmitsTop sig sizes firsts vars ns table atoms clauses t2 a2 c2 part
  all_top t2 a2 c2 part ps is h set u names named path a w built free =
      let terms = terms_at u vars ns in
      let es = parts_at path 0 (map (encoded terms) ps) in
      let e : (encoded terms (formula.All ps) path).top ≡ tops es = search (rules, formulas.the_lemmas) in
      let whole : (encoded terms part path).top ≡ tops es = ap (λ f. (encoded terms f path).top) is ∙ e in
      let s : well_sorted sig false (formula.All ps) vars ≡ list_all (λ (p : List ℕ → Bool). p vars) (map (well_sorted sig false) ps) = search (rules, formulas.the_lemmas) in
      let sorted = all_sorted sig vars ps (sym s ∙ ap (λ f. well_sorted sig false f vars) (sym is) ∙ w) in
      subst (Emits set u t2 a2 c2 names named) (sym whole) (h set u names named path a sorted built (λ k. free_inward names path k free))

  pub any_top : (t1 t2 : Table) (a1 a2 : List Atom) (c1 c2 : List Clause) (ps : List Formula) (lits : List Lit)
      → AreLiterals sig sizes firsts vars ns table atoms t1 a1 ps lits → c1 ≡ clauses ++ clause_of lits ∷ []
      → EmitsInsides sig sizes firsts vars ns t1 a1 c1 t2 a2 c2 ps lits → (part : Formula) → part ≡ formula.Any ps → EmitsTop sig sizes firsts vars ns table atoms clauses t2 a2 c2 part
  any_top t1 t2 a1 a2 c1 c2 ps lits rows grown rest part is set u names named path a w built free =
      let terms = terms_at u vars ns in
      let es = parts_at path 0 (map (encoded terms) ps) in
      let ls = map (λ (x : Encoded). x.literal) es in
      let e : (encoded terms (formula.Any ps) path).top ≡ ls ∷ insides es = search (rules, formulas.the_lemmas) in
      let whole : (encoded terms part path).top ≡ ls ∷ insides es = ap (λ f. (encoded terms f path).top) is ∙ e in
      let s : well_sorted sig false (formula.Any ps) vars ≡ list_all (λ (p : List ℕ → Bool). p vars) (map (well_sorted sig false) ps) = search (rules, formulas.the_lemmas) in
      let sorted = all_sorted sig vars ps (sym s ∙ ap (λ f. well_sorted sig false f vars) (sym is) ∙ w) in
      let apart = λ (k : ℕ). free_inward names path k free in
      let r = rows set u names path a sorted built.numbering apart in
      let name_of : Literal → Name = λ k. k.name in
      let ordered : InOrder names (names_in (ls ∷ [])) r.after = subst (λ (xs : List Name). InOrder names xs r.after) (sym (append-nil (map name_of ls))) r.order in
      let emits = joined sig sizes firsts vars ns table t1 t2 atoms a1 a2 clauses c1 c2 set u names r.after named (ls ∷ []) (clause_of lits ∷ []) path ps lits a sorted built apart r grown
      (record { numbered = lits; beside = r.literals; once = refl }, tt) ordered rest in
      subst (Emits set u t2 a2 c2 names named) (sym whole) emits

module _ (terms : List Term) (path : List ℕ) where
  abbrev IsSingle : Formula → Type 0
  IsSingle f = (encoded terms f path).top ≡ ((encoded terms f path).literal ∷ []) ∷ (encoded terms f path).inside

  pub holds_single : (symbol : ℕ) (post : Bool) (args : List Term) → IsSingle (formula.Holds symbol post args)
  holds_single symbol post args = search (rules, formulas.the_lemmas)

  pub equal_single : (a b : Term) → IsSingle (formula.Equal a b)
  equal_single a b = search (rules, formulas.the_lemmas)

  pub not_single : (p : Formula) → IsSingle (formula.Not p)
  not_single p = search (rules, formulas.the_lemmas)

  pub implies_single : (p q : Formula) → IsSingle (formula.Implies p q)
  implies_single p q = search (rules, formulas.the_lemmas)

  pub iff_single : (p q : Formula) → IsSingle (formula.Iff p q)
  iff_single p q = search (rules, formulas.the_lemmas)

  pub for_all_single : (bs : List Binder) (p : Formula) → IsSingle (formula.ForAll bs p)
  for_all_single bs p = search (rules, formulas.the_lemmas)

  pub exists_single : (bs : List Binder) (p : Formula) → IsSingle (formula.Exists bs p)
  exists_single bs p = search (rules, formulas.the_lemmas)

pub front_top : (sig : Signature) (sizes firsts vars ns : List ℕ) (table t1 t2 : Table) (atoms a1 a2 : List Atom) (clauses c1 c2 : List Clause) (parts : List Formula) (k : ℕ) (p : Formula)
    → k < length parts → p ≡ get_or parts k p
    → EmitsTops sig sizes firsts vars ns table atoms clauses t1 a1 c1 (take k parts) → EmitsTop sig sizes firsts vars ns t1 a1 c1 t2 a2 c2 p
    → EmitsTops sig sizes firsts vars ns table atoms clauses t2 a2 c2 (take (k + 1) parts)
front_top sig sizes firsts vars ns table t1 t2 atoms a1 a2 clauses c1 c2 parts k p low is rows h =
    let one : take (k + 1) parts ≡ take k parts ++ p ∷ [] = take_more parts k p low ∙ ap (λ (x : Formula). take k parts ++ x ∷ []) (sym is) in
    subst (EmitsTops sig sizes firsts vars ns table atoms clauses t2 a2 c2) (sym one)
    (one_top sig sizes firsts vars ns table atoms clauses t1 t2 a1 a2 c1 c2 (take k parts) p rows h)
