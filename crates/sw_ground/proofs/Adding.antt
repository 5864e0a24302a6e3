-- What an instance emits.
use Rattle.std.proofs.Common.{◌≡◌, ℕ, zero, suc, true, false, List, [], ◌∷◌, ◌++◌, map, Option, Some, unwrap_or, refl, sym, ap, ◌∙◌, subst, append-nil}
use Rattle.std.specs.Prelude.{slice_get, slice_set, slice_index}
use Rattle.std.specs.List.{AllByRecursion}
use Rattle.std.proofs.lemmas.Option.{none-some, same_Some}
use Rattle.std.proofs.lemmas.Bool.{false≢true}
use Rattle.sw_logic.specs.declared.syntax.SymbolKind.{SymbolKind}
use Rattle.sw_logic.specs.declared.syntax.SymbolKind.TheVariants.{Relation, Constant, Function}
use Rattle.sw_logic.specs.declared.syntax.Symbol.{Symbol}
use Rattle.sw_logic.specs.declared.syntax.Signature.{Signature}
use Rattle.sw_logic.specs.declared.syntax.Term.{Term}
use Rattle.sw_logic.specs.declared.syntax.Term.TheVariants.{Apply}
use Rattle.sw_logic.specs.Truth.{args_of, args_or_none}
use Rattle.sw_logic.specs.Sorted.{gives_value, well_sorted}
use Rattle.sw_refute.specs.declared.clauses.Lit.{Lit}
use Rattle.sw_refute.specs.declared.clauses.Clause.{Clause}
use Rattle.sw_refute.specs.Satisfaction.{variable, negation}
use Rattle.sw_truth.specs.declared.sets.Piece.{Piece}
use Rattle.sw_truth.specs.declared.sets.SkolemSet.{SkolemSet}
use Rattle.sw_universe.specs.declared.universe.Universe.{Universe}
use Rattle.sw_truth.specs.declared.instances.Atom.{Atom}
use Rattle.sw_truth.specs.declared.instances.Instance.{Instance}
use Rattle.sw_truth.specs.declared.instances.Instance.TheVariants.{Of, Reflexive, Symmetric, Transitive, Congruent}
use Rattle.sw_truth.specs.Models.{AreOfSorts}
use Rattle.sw_ground.specs.declared.table.Table.{Table}
use Rattle.sw_ground.specs.declared.numbering.Numbering.{Numbering}
use Rattle.sw_ground.specs.declared.builder.Builder.{Builder}
use Rattle.sw_universe.specs.ByNumber.{counts, term_at, terms_at, IsTerm}
use Rattle.sw_numbers.specs.Numbers.{applied_number, Stands}
use Rattle.sw_instances.specs.Named.{Name, related, Literal, plain, opposite}
use Rattle.sw_instances.specs.Instances.{AreTermsOf, AreArgumentsOf, piece_clauses, congruent_clauses, congruence, carried, equal}
use Rattle.sw_instances.specs.Numbered.{Beside, InOrder, done, IsLiteral, IsClause}
use Rattle.sw_ground.specs.Indexed.{IsNumbering, Numbers}
use Rattle.sw_ground.specs.Building.{IsAround, IsBuilt, NumbersAll, Emits, EmitsTop, clause_of}
use Rattle.sw_ground.specs.Adding.{NumbersEqual, NumbersRelated, Implies, EmitsCarried, EmitsInstance}
use Rattle.sw_ground.proofs.Within.{in_order}
use Rattle.sw_ground.proofs.Looking.{beside_more}
use Rattle.sw_ground.proofs.Rows.{kept, all_kept}
use Rattle.sw_ground.proofs.Joining.{beside_append, clauses_kept}
use Rattle.sw_ground.proofs.Parts.{opposite_literal, opposite_part}

module _ (set : SkolemSet) (u : Universe) where
  abbrev pub start : (table : Table) (atoms : List Atom) (names : List Name) → IsNumbering set u table atoms names → NumbersAll set u table atoms names [] []
  start table atoms names n = record { after = names; order = done; numbering = n; literals = tt }

  pub further : (t1 t2 : Table) (a1 a2 : List Atom) (names : List Name) (ls : List Literal) (lits : List Lit) (l : Literal) (lit : Lit)
      → (r : NumbersAll set u t1 a1 names ls lits) → Numbers set u t2 a2 r.after l lit → NumbersAll set u t2 a2 names (ls ++ l ∷ []) (lits ++ lit ∷ [])
  further t1 t2 a1 a2 names ls lits l lit r g = record {
    after = g.after;
    order = subst (λ (xs : List Name). InOrder names xs g.after) (split ls) (in_order r.order g.order);
    numbering = g.numbering;
    literals = beside_more (IsLiteral g.after) ls lits l lit (all_kept g.order ls lits r.literals) g.literal;
  }
    where
      split : (xs : List Literal) → map (λ (k : Literal). k.name) xs ++ l.name ∷ [] ≡ map (λ (k : Literal). k.name) (xs ++ l ∷ [])
      split [] = refl
      split (x ∷ xs) = ap (λ (ns : List Name). x.name ∷ ns) (split xs)

  pub turned : (table : Table) (atoms : List Atom) (names : List Name) (l : Literal) (lit other : Lit) → other ≡ negation lit → Numbers set u table atoms names l lit → Numbers set u table atoms names (opposite l) other
  turned table atoms names l lit other e n = subst (Numbers set u table atoms names (opposite l)) (sym e) (opposite_part set u table atoms names l lit n)

  -- a clause of numbered literals
  pub pushed : (b0 b1 b2 : Builder) (names : List Name) (named : List (List Literal)) (ls : List Literal) (lits : List Lit)
      → Beside (IsClause names) named b0.clauses → NumbersAll set u b1.numbering.table b1.numbering.atoms names ls lits
      → b1.clauses ≡ b0.clauses → b2.numbering ≡ b1.numbering → b2.clauses ≡ b1.clauses ++ clause_of lits ∷ []
      → Emits set u b2.numbering.table b2.numbering.atoms b2.clauses names named (ls ∷ [])
  pushed b0 b1 b2 names named ls lits made r same kept grown = record {
    after = r.after;
    order = subst (λ (xs : List Name). InOrder names xs r.after) (sym (append-nil (map (λ (k : Literal). k.name) ls))) r.order;
    built = record {
      numbering = subst (λ (n : Numbering). IsNumbering set u n.table n.atoms r.after) (sym kept) r.numbering;
      made = subst (Beside (IsClause r.after) (named ++ ls ∷ [])) (sym (grown ∙ ap (λ (cs : List Clause). cs ++ clause_of lits ∷ []) same))
          (beside_append (IsClause r.after) named (ls ∷ []) b0.clauses (clause_of lits ∷ []) (clauses_kept r.order named b0.clauses made) (record { numbered = lits; beside = r.literals; once = refl }, tt));
    };
  }

  -- a literal that is numbered implies others
  pub implied : (b0 b1 b2 : Builder) (names : List Name) (named : List (List Literal)) (l : Literal) (lit other : Lit) (ls : List Literal) (lits : List Lit)
      → IsLiteral names l lit → other ≡ negation lit
      → Beside (IsClause names) named b0.clauses → NumbersAll set u b1.numbering.table b1.numbering.atoms names ls lits
      → b1.clauses ≡ b0.clauses → b2.numbering ≡ b1.numbering → b2.clauses ≡ b1.clauses ++ clause_of (other ∷ lits) ∷ []
      → Implies set u b2.numbering.table b2.numbering.atoms b2.clauses names named l ls
  implied b0 b1 b2 names named l lit other ls lits is turns made r same kept_numbers grown =
      let here : IsLiteral r.after l lit = record { variable = kept r.order (variable lit) l.name is.variable; sign = is.sign } in
      let against : IsLiteral r.after (opposite l) other = subst (IsLiteral r.after (opposite l)) (sym turns) (opposite_literal r.after l lit here) in
      record {
        after = r.after;
        order = r.order;
        built = record {
          numbering = subst (λ (n : Numbering). IsNumbering set u n.table n.atoms r.after) (sym kept_numbers) r.numbering;
          made = subst (Beside (IsClause r.after) (named ++ (opposite l ∷ ls) ∷ [])) (sym (grown ∙ ap (λ (cs : List Clause). cs ++ clause_of (other ∷ lits) ∷ []) same))
              (beside_append (IsClause r.after) named ((opposite l ∷ ls) ∷ []) b0.clauses (clause_of (other ∷ lits) ∷ []) (clauses_kept r.order named b0.clauses made)
              (record { numbered = other ∷ lits; beside = (against, r.literals); once = refl }, tt));
        };
      }

module _ (sig : Signature) (sizes firsts : List ℕ) where
  abbrev Equal : Builder → Builder → ℕ → ℕ → ℕ → Lit → Type 0
  Equal b0 b1 = NumbersEqual sig sizes firsts b0.numbering.table b0.numbering.atoms b1.numbering.table b1.numbering.atoms

  abbrev Related : Builder → Builder → ℕ → List ℕ → Lit → Type 0
  Related b0 b1 = NumbersRelated sig sizes firsts b0.numbering.table b0.numbering.atoms b1.numbering.table b1.numbering.atoms

  abbrev EmitsOf : SkolemSet → Builder → Builder → Instance → Type 0
  EmitsOf set b0 b1 = EmitsInstance set sig sizes firsts b0.numbering.table b0.numbering.atoms b0.clauses b1.numbering.table b1.numbering.atoms b1.clauses

  pub reflexive_emits : (b0 b1 b2 : Builder) (sort t : ℕ) (lit : Lit) → Equal b0 b1 sort t t lit
      → b1.clauses ≡ b0.clauses → b2.numbering ≡ b1.numbering → b2.clauses ≡ b1.clauses ++ clause_of (lit ∷ []) ∷ [] → (set : SkolemSet) → EmitsOf set b0 b2 (Reflexive sort t)
  reflexive_emits b0 b1 b2 sort t lit num same kept grown set u names named path a w i built free =
      let n0 = b0.numbering in
      let n1 = b1.numbering in
      let r0 = start set u n0.table n0.atoms names built.numbering in
      let r1 = further set u n0.table n1.table n0.atoms n1.atoms names [] [] (equal (term_at u sort t) (term_at u sort t)) lit r0 (num set u names a built.numbering i i) in
      pushed set u b0 b1 b2 names named _ _ built.made r1 same kept grown

  pub symmetric_emits : (b0 b1 b2 b3 : Builder) (sort t v : ℕ) (from other to : Lit) → Equal b0 b1 sort t v from → Equal b1 b2 sort v t to → other ≡ negation from
      → b2.clauses ≡ b0.clauses → b3.numbering ≡ b2.numbering → b3.clauses ≡ b2.clauses ++ clause_of (other ∷ to ∷ []) ∷ [] → (set : SkolemSet) → EmitsOf set b0 b3 (Symmetric sort t v)
  symmetric_emits b0 b1 b2 b3 sort t v from other to num1 num2 turns same kept grown set u names named path a w i built free =
      let n0 = b0.numbering in
      let n1 = b1.numbering in
      let n2 = b2.numbering in
      let l1 = equal (term_at u sort t) (term_at u sort v) in
      let l2 = equal (term_at u sort v) (term_at u sort t) in
      let r0 = start set u n0.table n0.atoms names built.numbering in
      let r1 = further set u n0.table n1.table n0.atoms n1.atoms names [] [] (opposite l1) other r0 (turned set u n1.table n1.atoms names l1 from other turns (num1 set u names a built.numbering i.0 i.1)) in
      let r2 = further set u n1.table n2.table n1.atoms n2.atoms names (opposite l1 ∷ []) (other ∷ []) l2 to r1 (num2 set u r1.after a r1.numbering i.1 i.0) in
      pushed set u b0 b2 b3 names named _ _ built.made r2 same kept grown

  pub transitive_emits : (b0 b1 b2 b3 b4 : Builder) (sort t v x : ℕ) (one one_turned two two_turned three : Lit) → Equal b0 b1 sort t v one → Equal b1 b2 sort v x two → Equal b2 b3 sort t x three
      → one_turned ≡ negation one → two_turned ≡ negation two
      → b3.clauses ≡ b0.clauses → b4.numbering ≡ b3.numbering → b4.clauses ≡ b3.clauses ++ clause_of (one_turned ∷ two_turned ∷ three ∷ []) ∷ []
      → (set : SkolemSet) → EmitsOf set b0 b4 (Transitive sort t v x)
  transitive_emits b0 b1 b2 b3 b4 sort t v x one one_turned two two_turned three num1 num2 num3 turn1 turn2 same kept grown set u names named path a w i built free =
      let n0 = b0.numbering in
      let n1 = b1.numbering in
      let n2 = b2.numbering in
      let n3 = b3.numbering in
      let l1 = equal (term_at u sort t) (term_at u sort v) in
      let l2 = equal (term_at u sort v) (term_at u sort x) in
      let l3 = equal (term_at u sort t) (term_at u sort x) in
      let r0 = start set u n0.table n0.atoms names built.numbering in
      let r1 = further set u n0.table n1.table n0.atoms n1.atoms names [] [] (opposite l1) one_turned r0 (turned set u n1.table n1.atoms names l1 one one_turned turn1 (num1 set u names a built.numbering i.0 i.1)) in
      let r2 = further set u n1.table n2.table n1.atoms n2.atoms names (opposite l1 ∷ []) (one_turned ∷ []) (opposite l2) two_turned r1
      (turned set u n2.table n2.atoms r1.after l2 two two_turned turn2 (num2 set u r1.after a r1.numbering i.1 i.2)) in
      let r3 = further set u n2.table n3.table n2.atoms n3.atoms names (opposite l1 ∷ opposite l2 ∷ []) (one_turned ∷ two_turned ∷ []) l3 three r2 (num3 set u r2.after a r2.numbering i.0 i.2) in
      pushed set u b0 b3 b4 names named _ _ built.made r3 same kept grown

  abbrev pub Carried : (SymbolKind → Type 0) → Builder → Builder → ℕ → List ℕ → List ℕ → Lit → Type 0
  Carried K b0 b1 = EmitsCarried K sig sizes firsts b0.numbering.table b0.numbering.atoms b0.clauses b1.numbering.table b1.numbering.atoms b1.clauses

  pub relation_carried : (b0 b1 b2 b3 : Builder) (symbol : ℕ) (ns ms : List ℕ) (same from to same_turned from_turned : Lit) → Related b0 b1 symbol ns from → Related b1 b2 symbol ms to
      → same_turned ≡ negation same → from_turned ≡ negation from
      → b2.clauses ≡ b0.clauses → b3.numbering ≡ b2.numbering → b3.clauses ≡ b2.clauses ++ clause_of (same_turned ∷ from_turned ∷ to ∷ []) ∷ []
      → Carried (λ (k : SymbolKind). k ≡ Relation) b0 b3 symbol ns ms same
  relation_carried b0 b1 b2 b3 symbol ns ms same from to same_turned from_turned num1 num2 turn1 turn2 kept_clauses kept grown set u names named s l a e kind hn hm built is =
      let n0 = b0.numbering in
      let n1 = b1.numbering in
      let n2 = b2.numbering in
      let args : args_of sig symbol ≡ s.args = ap args_or_none e in
      let hn2 : AreOfSorts (counts u) (args_of sig symbol) ns = subst (λ (x : List ℕ). AreOfSorts (counts u) x ns) (sym args) hn in
      let hm2 : AreOfSorts (counts u) (args_of sig symbol) ms = subst (λ (x : List ℕ). AreOfSorts (counts u) x ms) (sym args) hm in
      let l1 = plain (related symbol (terms_at u (args_of sig symbol) ns)) in
      let l2 = plain (related symbol (terms_at u (args_of sig symbol) ms)) in
      let r0 = start set u n0.table n0.atoms names built.numbering in
      let r1 = further set u n0.table n1.table n0.atoms n1.atoms names [] [] (opposite l1) from_turned r0 (turned set u n1.table n1.atoms names l1 from from_turned turn2 (num1 set u names a built.numbering hn2)) in
      let r2 = further set u n1.table n2.table n1.atoms n2.atoms names (opposite l1 ∷ []) (from_turned ∷ []) l2 to r1 (num2 set u r1.after a r1.numbering hm2) in
      let all : Implies set u b3.numbering.table b3.numbering.atoms b3.clauses names named l (carried Relation symbol (terms_at u (args_of sig symbol) ns) (terms_at u (args_of sig symbol) ms)) =
      implied set u b0 b2 b3 names named l same same_turned _ _ is turn1 built.made r2 kept_clauses kept grown in
      subst (λ (k : SymbolKind). Implies set u b3.numbering.table b3.numbering.atoms b3.clauses names named l (carried k symbol (terms_at u s.args ns) (terms_at u s.args ms))) (sym kind)
      (subst (λ (x : List ℕ). Implies set u b3.numbering.table b3.numbering.atoms b3.clauses names named l (carried Relation symbol (terms_at u x ns) (terms_at u x ms))) args all)

  value_clause : (k : SymbolKind) (symbol : ℕ) (ts us : List Term) → gives_value k ≡ true → equal (Apply symbol false ts) (Apply symbol false us) ∷ [] ≡ carried k symbol ts us
  value_clause Relation symbol ts us e = absurd (false≢true e)
  value_clause Constant symbol ts us e = refl
  value_clause Function symbol ts us e = refl

  pub value_carried : (b0 b1 b2 : Builder) (symbol from to : ℕ) (f : Symbol) (ns ms : List ℕ) (same given same_turned : Lit) → slice_get sig.symbols symbol ≡ Some f
      → from ≡ applied_number sig sizes firsts symbol ns → to ≡ applied_number sig sizes firsts symbol ms → Equal b0 b1 f.gives from to given
      → same_turned ≡ negation same
      → b1.clauses ≡ b0.clauses → b2.numbering ≡ b1.numbering → b2.clauses ≡ b1.clauses ++ clause_of (same_turned ∷ given ∷ []) ∷ []
      → Carried (λ (k : SymbolKind). gives_value k ≡ true) b0 b2 symbol ns ms same
  value_carried b0 b1 b2 symbol from to f ns ms same given same_turned at is_from is_to num turn kept_clauses kept grown set u names named s l a e kind hn hm built is =
      let n0 = b0.numbering in
      let n1 = b1.numbering in
      let one_symbol : f ≡ s = same_Some f s (sym at ∙ e) in
      let gives : f.gives ≡ s.gives = ap (λ (x : Symbol). x.gives) one_symbol in
      let from_is : from ≡ applied_number sig (counts u) firsts symbol ns = is_from ∙ ap (λ (x : List ℕ). applied_number sig x firsts symbol ns) a.counted in
      let to_is : to ≡ applied_number sig (counts u) firsts symbol ms = is_to ∙ ap (λ (x : List ℕ). applied_number sig x firsts symbol ms) a.counted in
      let st : Stands u f.gives from (Apply symbol false (terms_at u s.args ns)) =
      subst (λ (k : ℕ). Stands u k from (Apply symbol false (terms_at u s.args ns))) (sym gives) (subst (λ (n : ℕ). Stands u s.gives n (Apply symbol false (terms_at u s.args ns))) (sym from_is) (a.indexed symbol s ns e kind hn)) in
      let su : Stands u f.gives to (Apply symbol false (terms_at u s.args ms)) =
      subst (λ (k : ℕ). Stands u k to (Apply symbol false (terms_at u s.args ms))) (sym gives) (subst (λ (n : ℕ). Stands u s.gives n (Apply symbol false (terms_at u s.args ms))) (sym to_is) (a.indexed symbol s ms e kind hm)) in
      let l1 = equal (term_at u f.gives from) (term_at u f.gives to) in
      let r0 = start set u n0.table n0.atoms names built.numbering in
      let r1 = further set u n0.table n1.table n0.atoms n1.atoms names [] [] l1 given r0 (num set u names a built.numbering st.within su.within) in
      let all = implied set u b0 b1 b2 names named l same same_turned (l1 ∷ []) (given ∷ []) is turn built.made r1 kept_clauses kept grown in
      let whole : l1 ∷ [] ≡ carried s.kind symbol (terms_at u s.args ns) (terms_at u s.args ms) =
      ap (λ (x : Term). equal x (term_at u f.gives to) ∷ []) st.is ∙ ap (λ (x : Term). equal (Apply symbol false (terms_at u s.args ns)) x ∷ []) su.is
      ∙ value_clause s.kind symbol (terms_at u s.args ns) (terms_at u s.args ms) kind in
      subst (Implies set u b2.numbering.table b2.numbering.atoms b2.clauses names named l) whole all

  set_sorted : (sorts ns : List ℕ) (place v : ℕ) (u : Universe) → AreOfSorts (counts u) sorts ns → IsTerm u (slice_index sorts place) v → AreOfSorts (counts u) sorts (slice_set ns place v)
  set_sorted [] [] place v u h t = tt
  set_sorted [] (n ∷ ns) place v u h t = absurd h
  set_sorted (s ∷ sorts) [] place v u h t = absurd h
  set_sorted (s ∷ sorts) (n ∷ ns) zero v u h t = (t, h.1)
  set_sorted (s ∷ sorts) (n ∷ ns) (suc place) v u h t = (h.0, set_sorted sorts ns place v u h.1 t)

  set_terms : (sorts ns : List ℕ) (place v : ℕ) (u : Universe) → AreOfSorts (counts u) sorts ns → terms_at u sorts (slice_set ns place v) ≡ slice_set (terms_at u sorts ns) place (term_at u (slice_index sorts place) v)
  set_terms [] [] place v u h = refl
  set_terms [] (n ∷ ns) place v u h = absurd h
  set_terms (s ∷ sorts) [] place v u h = absurd h
  set_terms (s ∷ sorts) (n ∷ ns) zero v u h = refl
  set_terms (s ∷ sorts) (n ∷ ns) (suc place) v u h = ap (λ (ts : List Term). term_at u s n ∷ ts) (set_terms sorts ns place v u h.1)

  record Got (u : Universe) (sorts ns : List ℕ) (place sort t : ℕ) : Type 0 where
    within : IsTerm u sort t
    index : slice_index sorts place ≡ sort
    term : (d : Term) → unwrap_or (slice_get (terms_at u sorts ns) place) d ≡ term_at u sort t

  got : (sorts ns : List ℕ) (place sort t : ℕ) (u : Universe) → AreOfSorts (counts u) sorts ns → slice_get sorts place ≡ Some sort → slice_get ns place ≡ Some t → Got u sorts ns place sort t
  got [] ns place sort t u h e f = absurd (none-some sort e)
  got (s ∷ sorts) [] place sort t u h e f = absurd (none-some t f)
  got (s ∷ sorts) (n ∷ ns) zero sort t u h e f =
      let es : s ≡ sort = same_Some s sort e in
      let et : n ≡ t = same_Some n t f in
      record {
        within = subst (λ (x : ℕ). IsTerm u x t) es (subst (IsTerm u s) et h.0);
        index = es;
        term = λ d. ap (λ (x : ℕ). term_at u x n) es ∙ ap (term_at u sort) et;
      }
  got (s ∷ sorts) (n ∷ ns) (suc place) sort t u h e f =
      let g = got sorts ns place sort t u h.1 e f in
      record { within = g.within; index = g.index; term = g.term }

  pub congruent_emits : (K : SymbolKind → Type 0) (b0 b1 b2 : Builder) (symbol place v sort t : ℕ) (f : Symbol) (ns ms : List ℕ) (same : Lit) → slice_get sig.symbols symbol ≡ Some f
      → slice_get f.args place ≡ Some sort → slice_get ns place ≡ Some t → ms ≡ slice_set ns place v → Equal b0 b1 sort t v same → b1.clauses ≡ b0.clauses
      → K f.kind → Carried K b1 b2 symbol ns ms same → (set : SkolemSet) → EmitsOf set b0 b2 (Congruent symbol place ns v)
  congruent_emits K b0 b1 b2 symbol place v sort t f ns ms same at sort_at t_at is_set num kept_clauses kind carry set u names named path a w i built free =
      let at_set : slice_get set.signature.symbols symbol ≡ Some f = ap (λ (x : Signature). slice_get x.symbols symbol) a.signature ∙ at in
      let arguments : AreArgumentsOf u (Some f) place ns v = subst (λ (o : Option Symbol). AreArgumentsOf u o place ns v) at_set i in
      let hn : AreOfSorts (counts u) f.args ns = arguments.1 in
      let hv : IsTerm u (slice_index f.args place) v = arguments.2 in
      let hm : AreOfSorts (counts u) f.args ms = subst (AreOfSorts (counts u) f.args) (sym is_set) (set_sorted f.args ns place v u hn hv) in
      let g = got f.args ns place sort t u hn sort_at t_at in
      let hv2 : IsTerm u sort v = subst (λ (x : ℕ). IsTerm u x v) g.index hv in
      let x = term_at u sort v in
      let l1 = equal (term_at u sort t) x in
      let r1 = num set u names a built.numbering g.within hv2 in
      let now : IsBuilt set u b1.numbering.table b1.numbering.atoms b1.clauses r1.after named = record {
        numbering = r1.numbering;
        made = subst (Beside (IsClause r1.after) named) (sym kept_clauses) (clauses_kept r1.order named b0.clauses built.made);
      } in
      let c = carry set u r1.after named f l1 a at kind hn hm now r1.literal in
      let ts = terms_at u f.args ns in
      let rest = carried f.kind symbol ts (terms_at u f.args ms) in
      let emits : Emits set u b2.numbering.table b2.numbering.atoms b2.clauses names named ((opposite l1 ∷ rest) ∷ []) = record {
        after = c.after;
        order = subst (λ (xs : List Name). InOrder names xs c.after) (sym (append-nil (map (λ (k : Literal). k.name) (opposite l1 ∷ rest)))) (in_order r1.order c.order);
        built = c.built;
      } in
      let set_is : terms_at u f.args ms ≡ slice_set ts place (term_at u (slice_index f.args place) v) = ap (terms_at u f.args) is_set ∙ set_terms f.args ns place v u hn in
      let x_is : x ≡ term_at u (slice_index f.args place) v = ap (λ (k : ℕ). term_at u k v) (sym g.index) in
      let y = term_at u (slice_index f.args place) v in
      let whole : (opposite l1 ∷ rest) ∷ [] ≡ congruence symbol f.kind place ts y ∷ [] =
      ap (λ (z : List Term). (opposite l1 ∷ carried f.kind symbol ts z) ∷ []) set_is
      ∙ ap (λ (z : Term). (opposite (equal z x) ∷ carried f.kind symbol ts (slice_set ts place y)) ∷ []) (sym (g.term y))
      ∙ ap (λ (z : Term). (opposite (equal (unwrap_or (slice_get ts place) y) z) ∷ carried f.kind symbol ts (slice_set ts place y)) ∷ []) x_is in
      subst (λ (o : Option Symbol). Emits set u b2.numbering.table b2.numbering.atoms b2.clauses names named (congruent_clauses u o symbol place ns v)) (sym at_set)
      (subst (Emits set u b2.numbering.table b2.numbering.atoms b2.clauses names named) whole emits)

  one_sorted : (P : Piece → Type 0) (ps : List Piece) (k : ℕ) (p : Piece) → AllByRecursion P ps → slice_get ps k ≡ Some p → P p
  one_sorted P [] k p h e = absurd (none-some p e)
  one_sorted P (q ∷ ps) zero p h e = subst P (same_Some q p e) h.0
  one_sorted P (q ∷ ps) (suc k) p h e = one_sorted P ps k p h.1 e

  pub piece_emits : (b0 b1 : Builder) (set : SkolemSet) (piece : ℕ) (p : Piece) (ns : List ℕ) → slice_get set.pieces piece ≡ Some p
      → EmitsTop sig sizes firsts p.vars ns b0.numbering.table b0.numbering.atoms b0.clauses b1.numbering.table b1.numbering.atoms b1.clauses p.matrix
      → EmitsOf set b0 b1 (Of piece ns)
  piece_emits b0 b1 set piece p ns at top u names named path a w i built free =
      let values : AreTermsOf u (Some p) ns = subst (λ (o : Option Piece). AreTermsOf u o ns) at i in
      let sorted : well_sorted set.signature false p.matrix p.vars ≡ true = one_sorted (λ (q : Piece). well_sorted set.signature false q.matrix q.vars ≡ true) set.pieces piece p w at in
      let around : IsAround set u sig sizes firsts p.vars ns = record { signature = a.signature; counted = a.counted; indexed = a.indexed; distinct = a.distinct; apart = a.apart; values = values } in
      subst (λ (o : Option Piece). Emits set u b1.numbering.table b1.numbering.atoms b1.clauses names named (piece_clauses u o ns path)) (sym at)
      (top set u names named path around (subst (λ (x : Signature). well_sorted x false p.matrix p.vars ≡ true) a.signature sorted) built free)

  -- an instance that is this one
  pub emits_as : (b0 b1 : Builder) (set : SkolemSet) (i j : Instance) → j ≡ i → EmitsOf set b0 b1 i → EmitsOf set b0 b1 j
  emits_as b0 b1 set i j e h = subst (EmitsOf set b0 b1) (sym e) h
