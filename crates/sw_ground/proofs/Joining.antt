-- What a conjunction or a disjunction emits, from its literals and its parts.
use Rattle.std.proofs.Common.{◌≡◌, ℕ, zero, suc, ◌+◌, Bool, true, false, List, [], ◌∷◌, ◌++◌, map, Some, rules, arith, refl, sym, ap, ◌∙◌, subst, inl, inr, append-nil, append_assoc}
use Rattle.std.proofs.lemmas.Grind.{flat_map-append}
use Rattle.std.specs.Prelude.{not, Contains, slice_get, Result, Ok, Err, OnOk}
use Rattle.std.specs.List.{AllByRecursion, list_all}
use Rattle.std.proofs.lemmas.Bool.{and_parts}
use Rattle.std.proofs.lemmas.Option.{none-some, same_Some}
use Rattle.sw_logic.specs.declared.syntax.Signature.{Signature}
use Rattle.sw_logic.specs.declared.syntax.Term.{Term}
use Rattle.sw_logic.specs.declared.syntax.Formula as formulas
use Rattle.sw_logic.specs.declared.syntax.Formula.{Formula}
use Rattle.sw_logic.specs.declared.syntax.Formula.TheVariants as formula
use Rattle.sw_logic.specs.Sorted.{well_sorted}
use Rattle.sw_refute.specs.declared.clauses.Lit.{Lit}
use Rattle.sw_refute.specs.declared.clauses.Clause.{Clause}
use Rattle.sw_refute.specs.Satisfaction.{variable, negation}
use Rattle.sw_truth.specs.declared.sets.SkolemSet.{SkolemSet}
use Rattle.sw_universe.specs.declared.universe.Universe.{Universe}
use Rattle.sw_truth.specs.declared.instances.Atom.{Atom}
use Rattle.sw_ground.specs.declared.table.Table.{Table}
use Rattle.sw_universe.specs.ByNumber.{terms_at}
use Rattle.sw_instances.specs.Named.{Name, inner, Literal, opposite}
use Rattle.sw_instances.specs.Matrix.{Encoded, encoded, parts_at, new, negated, conjunction, disjunction}
use Rattle.sw_instances.specs.Numbered.{Beside, InOrder, done, known, first, IsLiteral, IsClause, names_in}
use Rattle.sw_ground.specs.Indexed.{IsNumbering}
use Rattle.sw_ground.specs.Building.{IsAround, IsFree, IsFreeBut, NumbersAll, AreLiterals, IsBuilt, Emits, EmitsInside, EmitsInsides, clause_of}
use Rattle.sw_lists.proofs.Members.{get_contains}
use Rattle.sw_ground.proofs.Parts.{opposite_literal}
use Rattle.sw_ground.proofs.Within.{IsWithin, is_within, contained, in_order}
use Rattle.sw_ground.proofs.Looking.{at_contains}
use Rattle.sw_ground.proofs.Rows.{same_number, kept, all_kept}
use Rattle.sw_ground.proofs.Emitting.{insides}

pub beside_append : {X Y : Type 0} (R : X → Y → Type 0) (xs zs : List X) (ys ws : List Y) → Beside R xs ys → Beside R zs ws → Beside R (xs ++ zs) (ys ++ ws)
beside_append R [] zs [] ws b c = c
beside_append R [] zs (y ∷ ys) ws b c = absurd b
beside_append R (x ∷ xs) zs [] ws b c = absurd b
beside_append R (x ∷ xs) zs (y ∷ ys) ws b c = (b.0, beside_append R xs zs ys ws b.1 c)

pub clauses_kept : {before xs after : List Name} → InOrder before xs after → (named : List (List Literal)) (cs : List Clause) → Beside (IsClause before) named cs → Beside (IsClause after) named cs
clauses_kept o [] [] h = tt
clauses_kept o [] (c ∷ cs) h = absurd h
clauses_kept o (l ∷ named) [] h = absurd h
clauses_kept o (l ∷ named) (c ∷ cs) h =
    (record { numbered = h.0.numbered; beside = all_kept o l h.0.numbered h.0.beside; once = h.0.once }, clauses_kept o named cs h.1)

-- the names of more contain those that there were
still_contained : {before xs after : List Name} → InOrder before xs after → (v : ℕ) (n : Name) → slice_get before v ≡ Some n → Contains after n
still_contained {before} {xs} {after} o v n e = get_contains after v n (kept o v n e)

-- a name that is known stands before each of the others
woven : {before after : List Name} (n : Literal) (ls : List Literal) (v : ℕ) → slice_get before v ≡ Some n.name → InOrder before (map (λ (l : Literal). l.name) ls) after
    → InOrder before (names_in (map (λ (l : Literal). opposite n ∷ l ∷ []) ls)) after
woven n [] v e done = done
woven {before} n (l ∷ ls) v e (known c o) = known (get_contains before v n.name e) (known c (woven n ls v e o))
woven {before} n (l ∷ ls) v e (first c o) = known (get_contains before v n.name e) (first c (woven n ls v (kept (first c done) v n.name e) o))

-- each clause of a conjunction is numbered
pairs_made : (names : List Name) (n : Literal) (m : Lit) → IsLiteral names n m → (ls : List Literal) (lits : List Lit) → Beside (IsLiteral names) ls lits
    → Beside (IsClause names) (map (λ (l : Literal). opposite n ∷ l ∷ []) ls) (map (λ (k : Lit). clause_of (negation m ∷ k ∷ [])) lits)
pairs_made names n m h [] [] b = tt
pairs_made names n m h [] (k ∷ lits) b = absurd b
pairs_made names n m h (l ∷ ls) [] b = absurd b
pairs_made names n m h (l ∷ ls) (k ∷ lits) b =
    (record { numbered = negation m ∷ k ∷ []; beside = (opposite_literal names n m h, (b.0, tt)); once = refl }, pairs_made names n m h ls lits b.1)

pub all_sorted : (sig : Signature) (vars : List ℕ) (ps : List Formula) → list_all (λ (p : List ℕ → Bool). p vars) (map (well_sorted sig false) ps) ≡ true → AllByRecursion (λ (p : Formula). well_sorted sig false p vars ≡ true) ps
all_sorted sig vars [] e = tt
all_sorted sig vars (p ∷ ps) e = let both = and_parts (well_sorted sig false p vars) _ e in (both.0, all_sorted sig vars ps both.1)

longer : (path : List ℕ) (k : ℕ) (q : List ℕ) → path ++ k ∷ q ≡ path → ⊥
longer [] k q e = cc
longer (x ∷ path) k q e = let f : path ++ k ∷ q ≡ path = cc in longer path k q f

-- behind the part nothing is numbered, where its own variable alone is
free_parts : (names : List Name) (path : List ℕ) → IsFreeBut names path (inner path) → (k : ℕ) → IsFree names (path ++ k ∷ [])
free_parts names path free k q c =
    let e : (path ++ k ∷ []) ++ q ≡ path ++ k ∷ q = append_assoc path (k ∷ []) q in
    let same : inner (path ++ k ∷ q) ≡ inner path = free (k ∷ q) (subst (λ (x : List ℕ). Contains names (inner x)) e c) in
    let paths : path ++ k ∷ q ≡ path = cc in
    longer path k q paths

module _ (terms : List Term) (path : List ℕ) where
  abbrev row : ℕ → List Formula → List Encoded
  row a ps = parts_at path a (map (encoded terms) ps)

  abbrev literals_of : ℕ → List Formula → List Literal
  literals_of a ps = map (λ (e : Encoded). e.literal) (row a ps)

  -- the part whose literal has a name of the row
  record NamedAt (a : ℕ) (ps : List Formula) (j : ℕ) (n : Name) : Type 0 where
    part : Formula
    at : slice_get ps j ≡ Some part
    is : (encoded terms part (path ++ (a + j) ∷ [])).literal.name ≡ n

  named_at : (a : ℕ) (ps : List Formula) (j : ℕ) (n : Name) → slice_get (map (λ (l : Literal). l.name) (literals_of a ps)) j ≡ Some n → NamedAt a ps j n
  named_at a [] j n e = absurd (none-some n e)
  named_at a (p ∷ ps) zero n e =
      let on : a + 0 ≡ a = omega arith in
      record { part = p; at = refl; is = ap (λ (m : ℕ). (encoded terms p (path ++ m ∷ [])).literal.name) on ∙ same_Some _ n e }
  named_at a (p ∷ ps) (suc j) n e =
      let r = named_at (a + 1) ps j n e in
      let on : a + suc j ≡ a + 1 + j = omega arith in
      record { part = r.part; at = r.at; is = ap (λ (m : ℕ). (encoded terms r.part (path ++ m ∷ [])).literal.name) on ∙ r.is }

  -- the name of an inner part among the literals of a row is that of its part's literal
  own_literal : (ps : List Formula) (k : ℕ) (p : Formula) (q : List ℕ) → slice_get ps k ≡ Some p → (j : ℕ)
      → slice_get (map (λ (l : Literal). l.name) (literals_of 0 ps)) j ≡ Some (inner ((path ++ k ∷ []) ++ q)) → inner ((path ++ k ∷ []) ++ q) ≡ (encoded terms p (path ++ k ∷ [])).literal.name
  own_literal ps k p q e j f =
      let g = named_at 0 ps j (inner ((path ++ k ∷ []) ++ q)) f in
      let w = subst (IsWithin (path ++ (0 + j) ∷ [])) g.is (is_within terms g.part (path ++ (0 + j) ∷ [])).literal in
      let same : k ≡ 0 + j = same_number terms path path k (0 + j) q w.0 w.1 in
      let place : j ≡ k = omega arith in
      let parts : g.part ≡ p = same_Some g.part p (sym g.at ∙ ap (slice_get ps) place ∙ e) in
      sym g.is ∙ ap (λ (x : Formula). (encoded terms x (path ++ (0 + j) ∷ [])).literal.name) parts ∙ ap (λ (m : ℕ). (encoded terms p (path ++ m ∷ [])).literal.name) (sym same)

  -- after the literals of a row, each part is free but for its name
  free_row : (names after : List Name) (ps : List Formula) → ((k : ℕ) → IsFree names (path ++ k ∷ [])) → InOrder names (map (λ (l : Literal). l.name) (literals_of 0 ps)) after
      → (k : ℕ) (p : Formula) → slice_get ps k ≡ Some p → IsFreeBut after (path ++ k ∷ []) (encoded terms p (path ++ k ∷ [])).literal.name
  free_row names after ps free o k p e q c = elim (contained o (inner ((path ++ k ∷ []) ++ q)) c) [
    | inl x ↦ absurd (free k q x)
    | inr y ↦ own_literal ps k p q e y.0 (at_contains (map (λ (l : Literal). l.name) (literals_of 0 ps)) y.0 (inner ((path ++ k ∷ []) ++ q)) y.1 y.2)
  ]

pairs_of : (n : Literal) (es : List Encoded) → map (λ (p : Encoded). opposite n ∷ p.literal ∷ []) es ≡ map (λ (l : Literal). opposite n ∷ l ∷ []) (map (λ (e : Encoded). e.literal) es)
pairs_of n [] = refl
pairs_of n (e ∷ es) = ap (λ (cs : List (List Literal)). (opposite n ∷ e.literal ∷ []) ∷ cs) (pairs_of n es)

module _ (sig : Signature) (sizes firsts vars ns : List ℕ) (table t1 t2 : Table) (atoms a1 a2 : List Atom) (clauses c1 c2 : List Clause) where
  -- from the names of the literals on: what the clauses of the part itself are, and then its parts'
  pub joined : (set : SkolemSet) (u : Universe) (names after : List Name) (named own : List (List Literal)) (made : List Clause) (path : List ℕ) (ps : List Formula) (lits : List Lit)
      → IsAround set u sig sizes firsts vars ns → AllByRecursion (λ (p : Formula). well_sorted sig false p vars ≡ true) ps
      → IsBuilt set u table atoms clauses names named → ((k : ℕ) → IsFree names (path ++ k ∷ []))
      → (r : NumbersAll set u t1 a1 names (map (λ (e : Encoded). e.literal) (parts_at path 0 (map (encoded (terms_at u vars ns)) ps))) lits)
      → c1 ≡ clauses ++ made → Beside (IsClause r.after) own made → InOrder names (names_in own) r.after
      → EmitsInsides sig sizes firsts vars ns t1 a1 c1 t2 a2 c2 ps lits
      → Emits set u t2 a2 c2 names named (own ++ insides (parts_at path 0 (map (encoded (terms_at u vars ns)) ps)))
  joined set u names after named own made path ps lits a w built free r grown are order rest =
      let terms = terms_at u vars ns in
      let es = parts_at path 0 (map (encoded terms) ps) in
      let now : IsBuilt set u t1 a1 c1 r.after (named ++ own) = record {
        numbering = r.numbering;
        made = subst (Beside (IsClause r.after) (named ++ own)) (sym grown) (beside_append (IsClause r.after) named own clauses made (clauses_kept r.order named clauses built.made) are);
      } in
      let g = rest set u r.after (named ++ own) path a w now (free_row terms path names r.after ps free r.order) r.literals in
      record {
        after = g.after;
        order = subst (λ (xs : List Name). InOrder names xs g.after) (sym (flat_map-append (map (λ (l : Literal). l.name)) own (insides es))) (in_order order g.order);
        built = subst (IsBuilt set u t2 a2 c2 g.after) (append_assoc named own (insides es)) g.built;
      }

  pub all_inside : (part : Formula) (ps : List Formula) (lits : List Lit) (lit : Lit) → part ≡ formula.All ps
      → AreLiterals sig sizes firsts vars ns table atoms t1 a1 ps lits → c1 ≡ clauses ++ map (λ (k : Lit). clause_of (negation lit ∷ k ∷ [])) lits
      → EmitsInsides sig sizes firsts vars ns t1 a1 c1 t2 a2 c2 ps lits → EmitsInside sig sizes firsts vars ns table atoms clauses t2 a2 c2 part lit
  all_inside part ps lits lit is rows grown rest set u names named path a w built free l =
      let terms = terms_at u vars ns in
      let es = parts_at path 0 (map (encoded terms) ps) in
      let e : encoded terms (formula.All ps) path ≡ conjunction path es = search (rules, formulas.the_lemmas) in
      let whole : encoded terms part path ≡ conjunction path es = ap (λ f. encoded terms f path) is ∙ e in
      let s : well_sorted sig false (formula.All ps) vars ≡ list_all (λ (p : List ℕ → Bool). p vars) (map (well_sorted sig false) ps) = search (rules, formulas.the_lemmas) in
      let sorted = all_sorted sig vars ps (sym s ∙ ap (λ f. well_sorted sig false f vars) (sym is) ∙ w) in
      let lit_is : IsLiteral names (new path) lit = subst (λ (x : Encoded). IsLiteral names x.literal lit) whole l in
      let free_own : IsFreeBut names path (inner path) = subst (λ (x : Encoded). IsFreeBut names path x.literal.name) whole free in
      let apart = free_parts names path free_own in
      let r = rows set u names path a sorted built.numbering apart in
      let ls = map (λ (x : Encoded). x.literal) es in
      let own = map (λ (k : Literal). opposite (new path) ∷ k ∷ []) ls in
      let kept_lit : IsLiteral r.after (new path) lit = record { variable = kept r.order (variable lit) (inner path) lit_is.variable; sign = lit_is.sign } in
      let emits = joined set u names r.after named own (map (λ (k : Lit). clause_of (negation lit ∷ k ∷ [])) lits) path ps lits a sorted built apart r grown
      (pairs_made r.after (new path) lit kept_lit ls lits r.literals) (woven (new path) ls (variable lit) lit_is.variable r.order) rest in
      subst (λ (x : Encoded). Emits set u t2 a2 c2 names named x.inside) (sym whole)
      (subst (λ (xs : List (List Literal)). Emits set u t2 a2 c2 names named (xs ++ insides es)) (sym (pairs_of (new path) es)) emits)

  pub any_inside : (part : Formula) (ps : List Formula) (lits : List Lit) (lit : Lit) → part ≡ formula.Any ps
      → AreLiterals sig sizes firsts vars ns table atoms t1 a1 ps lits → c1 ≡ clauses ++ clause_of (negation lit ∷ lits) ∷ []
      → EmitsInsides sig sizes firsts vars ns t1 a1 c1 t2 a2 c2 ps lits → EmitsInside sig sizes firsts vars ns table atoms clauses t2 a2 c2 part lit
  any_inside part ps lits lit is rows grown rest set u names named path a w built free l =
      let terms = terms_at u vars ns in
      let es = parts_at path 0 (map (encoded terms) ps) in
      let e : encoded terms (formula.Any ps) path ≡ disjunction path es = search (rules, formulas.the_lemmas) in
      let whole : encoded terms part path ≡ disjunction path es = ap (λ f. encoded terms f path) is ∙ e in
      let s : well_sorted sig false (formula.Any ps) vars ≡ list_all (λ (p : List ℕ → Bool). p vars) (map (well_sorted sig false) ps) = search (rules, formulas.the_lemmas) in
      let sorted = all_sorted sig vars ps (sym s ∙ ap (λ f. well_sorted sig false f vars) (sym is) ∙ w) in
      let lit_is : IsLiteral names (new path) lit = subst (λ (x : Encoded). IsLiteral names x.literal lit) whole l in
      let free_own : IsFreeBut names path (inner path) = subst (λ (x : Encoded). IsFreeBut names path x.literal.name) whole free in
      let apart = free_parts names path free_own in
      let r = rows set u names path a sorted built.numbering apart in
      let ls = map (λ (x : Encoded). x.literal) es in
      let kept_lit : IsLiteral r.after (new path) lit = record { variable = kept r.order (variable lit) (inner path) lit_is.variable; sign = lit_is.sign } in
      let name_of : Literal → Name = λ k. k.name in
      let ordered : InOrder names (names_in ((opposite (new path) ∷ ls) ∷ [])) r.after =
      subst (λ (xs : List Name). InOrder names xs r.after) (sym (append-nil (map name_of (opposite (new path) ∷ ls)))) (known (get_contains names (variable lit) (inner path) lit_is.variable) r.order) in
      let emits = joined set u names r.after named ((opposite (new path) ∷ ls) ∷ []) (clause_of (negation lit ∷ lits) ∷ []) path ps lits a sorted built apart r grown
      (record { numbered = negation lit ∷ lits; beside = (opposite_literal r.after (new path) lit kept_lit, r.literals); once = refl }, tt) ordered rest in
      subst (λ (x : Encoded). Emits set u t2 a2 c2 names named x.inside) (sym whole) emits

pub on_ok_map : {X E : Type 0} (P Q : Type 0) (r : Result X E) → (P → Q) → OnOk r P → OnOk r Q
on_ok_map P Q (Ok x) f h = f h
on_ok_map P Q (Err e) f h = tt

module _ (sig : Signature) (sizes firsts vars ns : List ℕ) (table t2 : Table) (atoms a2 : List Atom) (clauses c2 : List Clause) where
  -- false is implied
  pub false_inside : (part : Formula) (lit : Lit) → part ≡ formula.False → t2 ≡ table → a2 ≡ atoms → c2 ≡ clauses ++ clause_of (negation lit ∷ []) ∷ []
      → EmitsInside sig sizes firsts vars ns table atoms clauses t2 a2 c2 part lit
  false_inside part lit is same_table same_atoms grown set u names named path a w built free l =
      let terms = terms_at u vars ns in
      let e : encoded terms formula.False path ≡ record { literal = new path; inside = (opposite (new path) ∷ []) ∷ []; top = [] ∷ [] } = search (rules, formulas.the_lemmas) in
      let whole : encoded terms part path ≡ record { literal = new path; inside = (opposite (new path) ∷ []) ∷ []; top = [] ∷ [] } = ap (λ f. encoded terms f path) is ∙ e in
      let lit_is : IsLiteral names (new path) lit = subst (λ (x : Encoded). IsLiteral names x.literal lit) whole l in
      let one : IsClause names (opposite (new path) ∷ []) (clause_of (negation lit ∷ [])) = record { numbered = negation lit ∷ []; beside = (opposite_literal names (new path) lit lit_is, tt); once = refl } in
      let emits : Emits set u t2 a2 c2 names named ((opposite (new path) ∷ []) ∷ []) = record {
        after = names;
        order = known (get_contains names (variable lit) (inner path) lit_is.variable) done;
        built = record {
          numbering = subst (λ (x : Table). IsNumbering set u x a2 names) (sym same_table) (subst (λ (xs : List Atom). IsNumbering set u table xs names) (sym same_atoms) built.numbering);
          made = subst (Beside (IsClause names) (named ++ (opposite (new path) ∷ []) ∷ [])) (sym grown) (beside_append (IsClause names) named ((opposite (new path) ∷ []) ∷ []) clauses (clause_of (negation lit ∷ []) ∷ []) built.made (one, tt));
        };
      } in
      subst (λ (x : Encoded). Emits set u t2 a2 c2 names named x.inside) (sym whole) emits

  twice : (l : Literal) → opposite (opposite l) ≡ l
  twice l = let make : Bool → Literal = λ b. record { positive = b; name = l.name } in ap make (not_not l.positive)
    where
      not_not : (b : Bool) → not (not b) ≡ b
      not_not true = refl
      not_not false = refl

  -- a negation emits what its part does
  pub not_inside : (part p : Formula) (lit turned : Lit) → part ≡ formula.Not p → turned ≡ negation lit → EmitsInside sig sizes firsts vars ns table atoms clauses t2 a2 c2 p turned
      → EmitsInside sig sizes firsts vars ns table atoms clauses t2 a2 c2 part lit
  not_inside part p lit turned is turns h set u names named path a w built free l =
      let terms = terms_at u vars ns in
      let inner_path = path ++ 0 ∷ [] in
      let part_encoded = encoded terms p inner_path in
      let e : encoded terms (formula.Not p) path ≡ negated part_encoded = search (rules, formulas.the_lemmas) in
      let whole : encoded terms part path ≡ negated part_encoded = ap (λ f. encoded terms f path) is ∙ e in
      let s : well_sorted sig false (formula.Not p) vars ≡ well_sorted sig false p vars = search (rules, formulas.the_lemmas) in
      let lit_is : IsLiteral names (opposite part_encoded.literal) lit = subst (λ (x : Encoded). IsLiteral names x.literal lit) whole l in
      let part_lit : IsLiteral names part_encoded.literal turned =
      subst (IsLiteral names part_encoded.literal) (sym turns) (subst (λ (x : Literal). IsLiteral names x (negation lit)) (twice part_encoded.literal) (opposite_literal names (opposite part_encoded.literal) lit lit_is)) in
      let free_own : IsFreeBut names path part_encoded.literal.name = subst (λ (x : Encoded). IsFreeBut names path x.literal.name) whole free in
      let free_in : IsFreeBut names inner_path part_encoded.literal.name = λ q c.
      let on : inner_path ++ q ≡ path ++ 0 ∷ q = append_assoc path (0 ∷ []) q in
      ap inner on ∙ free_own (0 ∷ q) (subst (λ (x : List ℕ). Contains names (inner x)) on c) in
      subst (λ (x : Encoded). Emits set u t2 a2 c2 names named x.inside) (sym whole)
      (h set u names named inner_path a (sym s ∙ ap (λ f. well_sorted sig false f vars) (sym is) ∙ w) built free_in part_lit)
