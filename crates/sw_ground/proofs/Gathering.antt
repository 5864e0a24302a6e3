-- The clauses of instances in order.
use Rattle.std.proofs.Common.{◌≡◌, ℕ, suc, ◌+◌, ◌<◌, ◌≤◌, List, [], ◌∷◌, ◌++◌, length, map, take, get_or, Option, Some, None, arith, refl, sym, ap, ◌∙◌, subst, inl, inr, append-nil, append_assoc}
use Rattle.std.proofs.lemmas.Grind.{flat_map-append}
use Rattle.std.specs.Prelude.{slice_get}
use Rattle.std.specs.List.{AllByRecursion}
use Rattle.std.proofs.lemmas.List.{take_more}
use Rattle.sw_lists.proofs.Each.{each-append}
use Rattle.sw_logic.specs.declared.syntax.SymbolKind.{SymbolKind}
use Rattle.sw_logic.specs.declared.syntax.SymbolKind.TheVariants.{Relation, Constant, Function}
use Rattle.sw_logic.specs.declared.syntax.Symbol.{Symbol}
use Rattle.sw_logic.specs.declared.syntax.Signature.{Signature}
use Rattle.sw_logic.specs.declared.syntax.Term.{Term}
use Rattle.sw_refute.specs.declared.clauses.Clause.{Clause}
use Rattle.sw_truth.specs.declared.sets.Piece.{Piece}
use Rattle.sw_truth.specs.declared.sets.SkolemSet.{SkolemSet}
use Rattle.sw_universe.specs.declared.universe.Universe.{Universe}
use Rattle.sw_truth.specs.declared.instances.Atom.{Atom}
use Rattle.sw_truth.specs.declared.instances.Ground.{Ground}
use Rattle.sw_truth.specs.declared.instances.Instance.{Instance}
use Rattle.sw_truth.specs.declared.instances.Instance.TheVariants.{Of, Reflexive, Symmetric, Transitive, Congruent}
use Rattle.sw_ground.specs.declared.table.Table.{Table}
use Rattle.sw_ground.specs.declared.builder.Builder.{Builder}
use Rattle.sw_universe.specs.ByNumber.{terms_at}
use Rattle.sw_instances.specs.Named.{Name, inner, Literal}
use Rattle.sw_instances.specs.Instances.{IsInstance, AreInstances, instance_clauses, piece_clauses, congruent_clauses, clauses_from, carried}
use Rattle.sw_instances.specs.Numbered.{Beside, InOrder, done, IsClause, IsGround, StandsFor, names_in}
use Rattle.sw_numbers.specs.Numbers.{IsIndexed, HasTerms}
use Rattle.sw_ground.specs.Indexed.{IsNumbering}
use Rattle.sw_ground.specs.Building.{IsAround, IsFree, IsBuilt}
use Rattle.sw_ground.specs.Verdict.{IsPrepared}
use Rattle.sw_ground.specs.Adding.{EmitsInstance, IsSoFar}
use Rattle.sw_ground.proofs.Within.{IsWithin, is_within, contained, in_order}
use Rattle.sw_ground.proofs.Rows.{IsEarlier, at_element, same_number}
use Rattle.sw_ground.proofs.Emitting.{clauses_earlier}
use Rattle.sw_universe.proofs.Distinct.{are_distinct, are_apart}

module _ (set : SkolemSet) (u : Universe) where
  from_more : (k : ℕ) (is : List Instance) (i : Instance) → clauses_from set u k (is ++ i ∷ []) ≡ clauses_from set u k is ++ instance_clauses set u ((k + length is) ∷ []) i
  from_more k [] i = append-nil (instance_clauses set u (k ∷ []) i) ∙ ap (λ (n : ℕ). instance_clauses set u (n ∷ []) i) (let e : k ≡ k + 0 = omega arith in e)
  from_more k (j ∷ is) i =
      let e : k + 1 + length is ≡ k + suc (length is) = omega arith in
      let here = instance_clauses set u (k ∷ []) j in
      ap (λ (cs : List (List Literal)). here ++ cs) (from_more (k + 1) is i ∙ ap (λ (n : ℕ). clauses_from set u (k + 1) is ++ instance_clauses set u (n ∷ []) i) e)
      ∙ sym (append_assoc here (clauses_from set u (k + 1) is) (instance_clauses set u ((k + suc (length is)) ∷ []) i))

  abbrev AreWithin : List ℕ → List (List Literal) → Type 0
  AreWithin path cs = AllByRecursion (AllByRecursion (λ (l : Literal). IsWithin path l.name)) cs

  piece_within : (o : Option Piece) (ns path : List ℕ) → AreWithin path (piece_clauses u o ns path)
  piece_within None ns path = tt
  piece_within (Some p) ns path = (is_within (terms_at u p.vars ns) p.matrix path).top

  carried_within : (k : SymbolKind) (symbol : ℕ) (ts us : List Term) (path : List ℕ) → AllByRecursion (λ (l : Literal). IsWithin path l.name) (carried k symbol ts us)
  carried_within Relation symbol ts us path = (tt, (tt, tt))
  carried_within Constant symbol ts us path = (tt, tt)
  carried_within Function symbol ts us path = (tt, tt)

  congruent_within : (o : Option Symbol) (symbol place : ℕ) (ns : List ℕ) (v : ℕ) (path : List ℕ) → AreWithin path (congruent_clauses u o symbol place ns v)
  congruent_within None symbol place ns v path = tt
  congruent_within (Some s) symbol place ns v path = ((tt, carried_within s.kind symbol _ _ path), tt)

  instance_within : (i : Instance) (path : List ℕ) → AreWithin path (instance_clauses set u path i)
  instance_within (Of piece ns) path = piece_within (slice_get set.pieces piece) ns path
  instance_within (Reflexive sort t) path = ((tt, tt), tt)
  instance_within (Symmetric sort t v) path = ((tt, (tt, tt)), tt)
  instance_within (Transitive sort t v x) path = ((tt, (tt, (tt, tt))), tt)
  instance_within (Congruent symbol place ns v) path = congruent_within (slice_get set.signature.symbols symbol) symbol place ns v path

  all_earlier : (a : ℕ) (is : List Instance) (m : ℕ) → a + length is ≤ m → AllByRecursion (IsEarlier [] m) (names_in (clauses_from set u a is))
  all_earlier a [] m h = tt
  all_earlier a (i ∷ is) m h =
      let here = instance_clauses set u (a ∷ []) i in
      let P : List Name → Type 0 = AllByRecursion (IsEarlier [] m) in
      subst P (sym (flat_map-append (map (λ (l : Literal). l.name)) here (clauses_from set u (a + 1) is)))
      (each-append (IsEarlier [] m) (names_in here) (names_in (clauses_from set u (a + 1) is))
      (clauses_earlier [] [] a m here (omega arith) (instance_within i (a ∷ []))) (all_earlier (a + 1) is m (omega arith)))

  free_next : (after : List Name) (is : List Instance) → InOrder [] (names_in (clauses_from set u 0 is)) after → IsFree after (length is ∷ [])
  free_next after is o q c = elim (contained o (inner ((length is ∷ []) ++ q)) c) [
    | inl x ↦ let low : x.0 < 0 = x.1 in absurd (omega arith)
    | inr y ↦
        let w = at_element [] [] (IsEarlier [] (length is)) (names_in (clauses_from set u 0 is)) y.0 (inner ((length is ∷ []) ++ q)) (all_earlier 0 is (length is) (omega arith)) y.1 y.2 in
        let same = same_number [] [] [] (length is) w.0 q w.2 w.3 in
        let low : w.0 < length is = w.1 in
        absurd (omega arith)
  ]

  -- no instances yet
  pub none_so_far : (table : Table) (atoms : List Atom) (clauses : List Clause) → IsNumbering set u table atoms [] → clauses ≡ [] → IsSoFar set u table atoms clauses []
  none_so_far table atoms clauses n e = record {
    names = [];
    order = done;
    built = record { numbering = n; made = subst (Beside (IsClause []) []) (sym e) tt };
  }

  -- one more
  one_so_far : (sig : Signature) (sizes firsts : List ℕ) (b0 b1 : Builder) (is : List Instance) (i : Instance) → IsPrepared set u → IsAround set u sig sizes firsts [] [] → IsInstance set u i
      → IsSoFar set u b0.numbering.table b0.numbering.atoms b0.clauses is
      → EmitsInstance set sig sizes firsts b0.numbering.table b0.numbering.atoms b0.clauses b1.numbering.table b1.numbering.atoms b1.clauses i
      → IsSoFar set u b1.numbering.table b1.numbering.atoms b1.clauses (is ++ i ∷ [])
  one_so_far sig sizes firsts b0 b1 is i p a there s emits =
      let e = emits u s.names (clauses_from set u 0 is) (length is ∷ []) a p.pieces there s.built (free_next s.names is s.order) in
      let more : clauses_from set u 0 (is ++ i ∷ []) ≡ clauses_from set u 0 is ++ instance_clauses set u (length is ∷ []) i =
      from_more 0 is i ∙ ap (λ (n : ℕ). clauses_from set u 0 is ++ instance_clauses set u (n ∷ []) i) (let z : 0 + length is ≡ length is = omega arith in z) in
      let split : names_in (clauses_from set u 0 is ++ instance_clauses set u (length is ∷ []) i) ≡ names_in (clauses_from set u 0 is) ++ names_in (instance_clauses set u (length is ∷ []) i) =
      flat_map-append (map (λ (l : Literal). l.name)) (clauses_from set u 0 is) (instance_clauses set u (length is ∷ []) i) in
      record {
        names = e.after;
        order = subst (λ (cs : List (List Literal)). InOrder [] (names_in cs) e.after) (sym more) (subst (λ (xs : List Name). InOrder [] xs e.after) (sym split) (in_order s.order e.order));
        built = subst (IsBuilt set u b1.numbering.table b1.numbering.atoms b1.clauses e.after) (sym more) e.built;
      }

  -- the next instance of a list
  pub next_so_far : (sig : Signature) (sizes firsts : List ℕ) (b0 b1 : Builder) (is : List Instance) (k : ℕ) (i : Instance) → IsPrepared set u → IsAround set u sig sizes firsts [] [] → AreInstances set u is
      → k < length is → i ≡ get_or is k i
      → IsSoFar set u b0.numbering.table b0.numbering.atoms b0.clauses (take k is)
      → EmitsInstance set sig sizes firsts b0.numbering.table b0.numbering.atoms b0.clauses b1.numbering.table b1.numbering.atoms b1.clauses i
      → IsSoFar set u b1.numbering.table b1.numbering.atoms b1.clauses (take (k + 1) is)
  next_so_far sig sizes firsts b0 b1 is k i p a all low at s emits =
      let one : take (k + 1) is ≡ take k is ++ i ∷ [] = take_more is k i low ∙ ap (λ (x : Instance). take k is ++ x ∷ []) (sym at) in
      subst (IsSoFar set u b1.numbering.table b1.numbering.atoms b1.clauses) (sym one)
      (one_so_far sig sizes firsts b0 b1 (take k is) i p a (at_element [] [] (IsInstance set u) is k i all low (sym at)) s emits)

  as_long : {X Y : Type 0} (R : X → Y → Type 0) (xs : List X) (ys : List Y) → Beside R xs ys → length xs ≡ length ys
  as_long R [] [] h = refl
  as_long R [] (y ∷ ys) h = absurd h
  as_long R (x ∷ xs) [] h = absurd h
  as_long R (x ∷ xs) (y ∷ ys) h = ap suc (as_long R xs ys h.1)

  pub gathered : (table : Table) (is : List Instance) (g : Ground) → IsSoFar set u table g.atoms g.cnf.clauses is → g.cnf.variables ≡ length g.atoms → IsGround set u is g
  gathered table is g s e = record {
    names = s.names;
    order = s.order;
    variables = e ∙ as_long (StandsFor set u) g.atoms s.names s.built.numbering.stand;
    clauses = s.built.made;
    atoms = s.built.numbering.stand;
  }

-- the ground terms of a set that is prepared
pub around : (set : SkolemSet) (u : Universe) (own : Signature) (sizes firsts : List ℕ) → IsPrepared set u → HasTerms set.signature u own sizes firsts → IsAround set u own sizes firsts [] []
around set u own sizes firsts p h = record {
  signature = sym h.signature;
  counted = h.counted;
  indexed = subst (λ (s : Signature). IsIndexed s u firsts) (sym h.signature) h.indexed;
  distinct = are_distinct set.signature u p.universe;
  apart = are_apart set.signature u p.universe;
  values = tt;
}
