-- What the inner parts of a row emit.
use Rattle.std.proofs.Common.{add-one, ◌≡◌, ℕ, zero, suc, ◌+◌, ◌<◌, ◌≤◌, Bool, true, false, List, [], ◌∷◌, ◌++◌, length, map, take, get_or, Some, rules, arith, refl, sym, ap, ◌∙◌, subst, inl, inr, append-nil, append_assoc}
use Rattle.std.proofs.lemmas.Grind.{flat_map-append}
use Rattle.std.specs.Prelude.{slice_get}
use Rattle.std.specs.List.{AllByRecursion, flat_map}
use Rattle.std.proofs.lemmas.List.{map-append, length-map, take_more}
use Rattle.std.proofs.lemmas.Option.{none-some, same_Some}
use Rattle.sw_lists.proofs.Each.{each-append}
use Rattle.sw_lists.proofs.Places.{get_append_left}
use Rattle.sw_logic.specs.declared.syntax.Signature.{Signature}
use Rattle.sw_logic.specs.declared.syntax.Binder.{Binder}
use Rattle.sw_logic.specs.declared.syntax.Term.{Term}
use Rattle.sw_logic.specs.declared.syntax.Formula as formulas
use Rattle.sw_logic.specs.declared.syntax.Formula.{Formula}
use Rattle.sw_logic.specs.declared.syntax.Formula.TheVariants as formula
use Rattle.sw_logic.specs.Sorted.{well_sorted}
use Rattle.sw_refute.specs.declared.clauses.Lit.{Lit}
use Rattle.sw_refute.specs.declared.clauses.Clause.{Clause}
use Rattle.sw_refute.specs.Satisfaction.{variable}
use Rattle.sw_truth.specs.declared.instances.Atom.{Atom}
use Rattle.sw_ground.specs.declared.table.Table.{Table}
use Rattle.sw_universe.specs.ByNumber.{terms_at}
use Rattle.sw_instances.specs.Named.{Name, inner, Literal}
use Rattle.sw_instances.specs.Matrix.{Encoded, encoded, parts_at}
use Rattle.sw_instances.specs.Numbered.{Beside, InOrder, done, IsLiteral, names_in}
use Rattle.sw_ground.specs.Building.{IsFreeBut, IsBuilt, Emits, EmitsInside, EmitsInsides}
use Rattle.sw_ground.proofs.Within.{IsWithin, is_within, contained, in_order}
use Rattle.sw_ground.proofs.Rows.{parts_more, IsEarlier, earlier, at_element, same_number, kept, all_of_front}

beside_split : {X Y : Type 0} (R : X → Y → Type 0) (xs : List X) (x : X) (ys : List Y) (y : Y) → Beside R (xs ++ x ∷ []) (ys ++ y ∷ []) → Beside R xs ys × R x y
beside_split R [] x [] y b = (tt, b.0)
beside_split R [] x (z ∷ []) y b = absurd b.1
beside_split R [] x (z ∷ w ∷ ys) y b = absurd b.1
beside_split R (v ∷ []) x [] y b = absurd b.1
beside_split R (v ∷ w ∷ xs) x [] y b = absurd b.1
beside_split R (v ∷ xs) x (z ∷ ys) y b = let r = beside_split R xs x ys y b.1 in ((b.0, r.0), r.1)

abbrev pub insides : List Encoded → List (List Literal)
insides es = flat_map (λ (e : Encoded). e.inside) es

each_names : (P : Name → Type 0) (c : List Literal) → AllByRecursion (λ (l : Literal). P l.name) c → AllByRecursion P (map (λ (l : Literal). l.name) c)
each_names P [] h = tt
each_names P (l ∷ c) h = (h.0, each_names P c h.1)

module _ (terms : List Term) (path : List ℕ) where
  abbrev row : ℕ → List Formula → List Encoded
  row a ps = parts_at path a (map (encoded terms) ps)

  clause_earlier : (j m : ℕ) (c : List Literal) → j < m → AllByRecursion (λ (l : Literal). IsWithin (path ++ j ∷ []) l.name) c → AllByRecursion (IsEarlier path m) (map (λ (l : Literal). l.name) c)
  clause_earlier j m [] h w = tt
  clause_earlier j m (l ∷ c) h w = (earlier path j m l.name h w.0, clause_earlier j m c h w.1)

  pub clauses_earlier : (j m : ℕ) (cs : List (List Literal)) → j < m → AllByRecursion (AllByRecursion (λ (l : Literal). IsWithin (path ++ j ∷ []) l.name)) cs → AllByRecursion (IsEarlier path m) (names_in cs)
  clauses_earlier j m [] h w = tt
  clauses_earlier j m (c ∷ cs) h w = each-append (IsEarlier path m) (map (λ (l : Literal). l.name) c) (names_in cs) (clause_earlier j m c h w.0) (clauses_earlier j m cs h w.1)

  insides_earlier : (a : ℕ) (ps : List Formula) (m : ℕ) → a + length ps ≤ m → AllByRecursion (IsEarlier path m) (names_in (insides (row a ps)))
  insides_earlier a [] m h = tt
  insides_earlier a (p ∷ ps) m h =
      let e = encoded terms p (path ++ a ∷ []) in
      let P : List Name → Type 0 = AllByRecursion (IsEarlier path m) in
      subst P (sym (flat_map-append (map (λ (l : Literal). l.name)) e.inside (insides (row (a + 1) ps))))
      (each-append (IsEarlier path m) (names_in e.inside) (names_in (insides (row (a + 1) ps)))
      (clauses_earlier a m e.inside (omega arith) (is_within terms p (path ++ a ∷ [])).inside) (insides_earlier (a + 1) ps m (omega arith)))

  -- after what the parts before it emit, the next part is still free but for its name
  free_but_next : (names after : List Name) (ps : List Formula) (n : Name) → IsFreeBut names (path ++ length ps ∷ []) n → InOrder names (names_in (insides (row 0 ps))) after
      → IsFreeBut after (path ++ length ps ∷ []) n
  free_but_next names after ps n free o q c = elim (contained o (inner ((path ++ length ps ∷ []) ++ q)) c) [
    | inl x ↦ free q x
    | inr y ↦
        let w = at_element terms path (IsEarlier path (length ps)) (names_in (insides (row 0 ps))) y.0 (inner ((path ++ length ps ∷ []) ++ q)) (insides_earlier 0 ps (length ps) (omega arith)) y.1 y.2 in
        let same = same_number terms path path (length ps) w.0 q w.2 w.3 in
        let low : w.0 < length ps = w.1 in
        absurd (omega arith)
  ]

at_last : {X : Type 0} (xs : List X) (x : X) → slice_get (xs ++ x ∷ []) (length xs) ≡ Some x
at_last [] x = refl
at_last (y ∷ xs) x = at_last xs x

module _ (sig : Signature) (sizes firsts vars ns : List ℕ) (table : Table) (atoms : List Atom) (clauses : List Clause) where
  pub no_inside : EmitsInsides sig sizes firsts vars ns table atoms clauses table atoms clauses [] []
  no_inside set u names named path a w built free lits =
      record { after = names; order = done; built = subst (IsBuilt set u table atoms clauses names) (sym (append-nil named)) built }

  pub one_inside : (t1 t2 : Table) (a1 a2 : List Atom) (c1 c2 : List Clause) (ps : List Formula) (p : Formula) (lits : List Lit) (lit : Lit)
      → EmitsInsides sig sizes firsts vars ns table atoms clauses t1 a1 c1 ps lits → EmitsInside sig sizes firsts vars ns t1 a1 c1 t2 a2 c2 p lit
      → EmitsInsides sig sizes firsts vars ns table atoms clauses t2 a2 c2 (ps ++ p ∷ []) (lits ++ lit ∷ [])
  one_inside t1 t2 a1 a2 c1 c2 ps p lits lit rows h set u names named path a w built free are =
      let terms = terms_at u vars ns in
      let enc : Formula → List ℕ → Encoded = encoded terms in
      let es = parts_at path 0 (map enc ps) in
      let e = enc p (path ++ length ps ∷ []) in
      let count : 0 + length (map enc ps) ≡ length ps = omega (arith, length-map ps enc) in
      let split : parts_at path 0 (map enc (ps ++ p ∷ [])) ≡ es ++ e ∷ [] =
      ap (parts_at path 0) (map-append enc ps (p ∷ [])) ∙ parts_more path 0 (map enc ps) (enc p) ∙ ap (λ (k : ℕ). es ++ enc p (path ++ k ∷ []) ∷ []) count in
      let literal_of : Encoded → Literal = λ x. x.literal in
      let are_split : Beside (IsLiteral names) (map literal_of es ++ e.literal ∷ []) (lits ++ lit ∷ []) =
      subst (λ (ls : List Literal). Beside (IsLiteral names) ls (lits ++ lit ∷ [])) (ap (map literal_of) split ∙ map-append literal_of es (e ∷ [])) are in
      let two = beside_split (IsLiteral names) (map literal_of es) e.literal lits lit are_split in
      let both = all_of_front (λ (f : Formula). well_sorted sig false f vars ≡ true) ps p w in
      let r = rows set u names named path a both.0 built (λ k q is. free k q (get_append_left ps (p ∷ []) k q is)) two.0 in
      let last : IsLiteral r.after e.literal lit = record { variable = kept r.order (variable lit) e.literal.name two.1.variable; sign = two.1.sign } in
      let g = h set u r.after (named ++ insides es) (path ++ length ps ∷ []) a both.1 r.built
      (free_but_next terms path names r.after ps e.literal.name (free (length ps) p (at_last ps p)) r.order) last in
      let names_split : names_in (insides (es ++ e ∷ [])) ≡ names_in (insides es) ++ names_in e.inside =
      ap names_in (flat_map-append (λ (x : Encoded). x.inside) es (e ∷ []) ∙ ap (λ (cs : List (List Literal)). insides es ++ cs) (append-nil e.inside)) ∙ flat_map-append (map (λ (l : Literal). l.name)) (insides es) e.inside in
      let named_split : (named ++ insides es) ++ e.inside ≡ named ++ insides (es ++ e ∷ []) =
      append_assoc named (insides es) e.inside ∙ ap (λ (cs : List (List Literal)). named ++ cs)
      (sym (flat_map-append (λ (x : Encoded). x.inside) es (e ∷ []) ∙ ap (λ (cs : List (List Literal)). insides es ++ cs) (append-nil e.inside))) in
      let here : Emits set u t2 a2 c2 names named (insides (es ++ e ∷ [])) = record {
        after = g.after;
        order = subst (λ (xs : List Name). InOrder names xs g.after) (sym names_split) (in_order r.order g.order);
        built = subst (IsBuilt set u t2 a2 c2 g.after) named_split g.built;
      } in
      subst (λ (xs : List Encoded). Emits set u t2 a2 c2 names named (insides xs)) (sym split) here

  -- a part without inner parts emits nothing
  pub none_inside : (part f : Formula) (lit : Lit) → part ≡ f → ((terms : List Term) (path : List ℕ) → (encoded terms f path).inside ≡ []) → EmitsInside sig sizes firsts vars ns table atoms clauses table atoms clauses part lit
  none_inside part f lit is e set u names named path a w built free l =
      let none : (encoded (terms_at u vars ns) part path).inside ≡ [] = ap (λ g. (encoded (terms_at u vars ns) g path).inside) is ∙ e (terms_at u vars ns) path in
      subst (Emits set u table atoms clauses names named) (sym none)
      (record { after = names; order = done; built = subst (IsBuilt set u table atoms clauses names) (sym (append-nil named)) built })

pub front_inside : (sig : Signature) (sizes firsts vars ns : List ℕ) (table t1 t2 : Table) (atoms a1 a2 : List Atom) (clauses c1 c2 : List Clause) (parts : List Formula) (lits : List Lit) (k : ℕ) (p : Formula) (lit : Lit)
    → k < length parts → p ≡ get_or parts k p → slice_get lits k ≡ Some lit
    → EmitsInsides sig sizes firsts vars ns table atoms clauses t1 a1 c1 (take k parts) (take k lits) → EmitsInside sig sizes firsts vars ns t1 a1 c1 t2 a2 c2 p lit
    → EmitsInsides sig sizes firsts vars ns table atoms clauses t2 a2 c2 (take (k + 1) parts) (take (k + 1) lits)
front_inside sig sizes firsts vars ns table t1 t2 atoms a1 a2 clauses c1 c2 parts lits k p lit low is got rows h =
    let one : take (k + 1) parts ≡ take k parts ++ p ∷ [] = take_more parts k p low ∙ ap (λ (x : Formula). take k parts ++ x ∷ []) (sym is) in
    let two : take (k + 1) lits ≡ take k lits ++ lit ∷ [] = taken lits k lit got in
    subst (λ (x : List Formula). EmitsInsides sig sizes firsts vars ns table atoms clauses t2 a2 c2 x (take (k + 1) lits)) (sym one)
    (subst (EmitsInsides sig sizes firsts vars ns table atoms clauses t2 a2 c2 (take k parts ++ p ∷ [])) (sym two)
    (one_inside sig sizes firsts vars ns table atoms clauses t1 t2 a1 a2 c1 c2 (take k parts) p (take k lits) lit rows h))
  where
    taken_suc : (xs : List Lit) (k : ℕ) (x : Lit) → slice_get xs k ≡ Some x → take (suc k) xs ≡ take k xs ++ x ∷ []
    taken_suc [] k x e = absurd (none-some x e)
    taken_suc (y ∷ xs) zero x e = ap (λ (z : Lit). z ∷ []) (same_Some y x e)
    taken_suc (y ∷ xs) (suc k) x e = ap (λ (zs : List Lit). y ∷ zs) (taken_suc xs k x e)

    taken : (xs : List Lit) (k : ℕ) (x : Lit) → slice_get xs k ≡ Some x → take (k + 1) xs ≡ take k xs ++ x ∷ []
    taken xs k x e = rw add-one (taken_suc xs k x e)

module _ (terms : List Term) (path : List ℕ) where
  pub true_none : (encoded terms formula.True path).inside ≡ []
  true_none = search (rules, formulas.the_lemmas)

  pub holds_none : (symbol : ℕ) (post : Bool) (args : List Term) → (encoded terms (formula.Holds symbol post args) path).inside ≡ []
  holds_none symbol post args = search (rules, formulas.the_lemmas)

  pub equal_none : (a b : Term) → (encoded terms (formula.Equal a b) path).inside ≡ []
  equal_none a b = search (rules, formulas.the_lemmas)

  pub implies_none : (p q : Formula) → (encoded terms (formula.Implies p q) path).inside ≡ []
  implies_none p q = search (rules, formulas.the_lemmas)

  pub iff_none : (p q : Formula) → (encoded terms (formula.Iff p q) path).inside ≡ []
  iff_none p q = search (rules, formulas.the_lemmas)

  pub for_all_none : (bs : List Binder) (p : Formula) → (encoded terms (formula.ForAll bs p) path).inside ≡ []
  for_all_none bs p = search (rules, formulas.the_lemmas)

  pub exists_none : (bs : List Binder) (p : Formula) → (encoded terms (formula.Exists bs p) path).inside ≡ []
  exists_none bs p = search (rules, formulas.the_lemmas)
