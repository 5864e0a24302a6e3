-- In a model every clause of every instance is true.
use Rattle.std.proofs.Common.{◌≡◌, ℕ, zero, suc, ◌+◌, Bool, true, false, List, [], ◌∷◌, Option, Some, None, unwrap_or, rules, arith, refl, sym, ap, ◌∙◌, subst}
use Rattle.std.specs.Prelude.{◌==◌, ◌&&◌, ◌||◌, not, slice_get, slice_set, slice_index}
use Rattle.std.specs.List.{AllByRecursion, list_all}
use Rattle.std.proofs.lemmas.Option.{none-some, same_Some}
use Rattle.std.proofs.lemmas.Bool.{and_from, eqb-true, eq-eqb}
use Rattle.sw_logic.specs.declared.syntax.SymbolKind.TheVariants.{Relation, Constant, Function}
use Rattle.sw_logic.specs.declared.syntax.SymbolKind.{SymbolKind}
use Rattle.sw_logic.specs.declared.syntax.Symbol.{Symbol}
use Rattle.sw_logic.specs.declared.syntax.Term as terms_of_logic
use Rattle.sw_logic.specs.declared.syntax.Term.{Term}
use Rattle.sw_logic.specs.declared.syntax.Term.TheVariants.{Apply}
use Rattle.sw_logic.specs.declared.syntax.Formula as formulas
use Rattle.sw_logic.specs.declared.structure.Structure.{Structure}
use Rattle.sw_logic.specs.Truth.{World, world, value_of, values_of, value_in, bit_in, table_at, place}
use Rattle.sw_truth.specs.declared.sets.Piece.{Piece}
use Rattle.sw_truth.specs.declared.sets.SkolemSet.{SkolemSet}
use Rattle.sw_universe.specs.declared.universe.Universe.{Universe}
use Rattle.sw_truth.specs.declared.instances.Instance.{Instance}
use Rattle.sw_truth.specs.declared.instances.Instance.TheVariants.{Of, Reflexive, Symmetric, Transitive, Congruent}
use Rattle.sw_truth.specs.Models.{AreOfSorts, IsModel, IsTruePiece}
use Rattle.sw_universe.specs.ByNumber.{counts, term_at, terms_at}
use Rattle.sw_instances.specs.Values.{HaveValues, part_holds, inner_holds, name_holds}
use Rattle.sw_instances.specs.Named.{Name, related, equated, named_holds}
use Rattle.sw_instances.specs.Instances.{AreTermsOf, IsInstance, AreInstances, congruence, congruent_clauses, piece_clauses, instance_clauses, clauses_from}
use Rattle.sw_instances.proofs.Encoding.{AreAtoms, is_encoded, all_append, or_false}

implied : (x y : Bool) → (x ≡ true → y ≡ true) → (not x || y) ≡ true
implied true y f = f refl
implied false y f = refl

implied_both : (x y z : Bool) → (x ≡ true → y ≡ true → z ≡ true) → (not x || (not y || (z || false))) ≡ true
implied_both true true z f = or_false z ∙ f refl refl
implied_both true false z f = refl
implied_both false y z f = refl

one : (b : Bool) → b ≡ true → (b && true) ≡ true
one b e = and_from _ _ e refl

module _ (set : SkolemSet) (u : Universe) (is : List Instance) (s : Structure) where
  abbrev here : World
  here = world set.signature s s

  abbrev val : Term → ℕ
  val = value_of here []

  abbrev v : Name → Bool
  v = name_holds here set u is

  atoms : (terms : List Term) → AreAtoms set.signature s v terms
  atoms terms = record { related = λ symbol ts. refl; equated = λ t x. refl }

  equal_is : (t x : Term) → v (equated t x) ≡ (val t == val x)
  equal_is t x = search (rules, formulas.the_lemmas)

  related_is : (symbol : ℕ) (ts : List Term) → v (related symbol ts) ≡ bit_in (table_at s s symbol false) (place here symbol (values_of here [] ts))
  related_is symbol ts = search (rules, formulas.the_lemmas)

  equals : (t x : Term) → v (equated t x) ≡ true → val t ≡ val x
  equals t x e = eqb-true (val t) (val x) (sym (equal_is t x) ∙ e)

  equal_from : (t x : Term) → val t ≡ val x → v (equated t x) ≡ true
  equal_from t x e = equal_is t x ∙ eq-eqb (val t) (val x) e

  -- an argument is replaced by one of the same value
  replaced : (ts : List Term) (k : ℕ) (x : Term) → val (unwrap_or (slice_get ts k) x) ≡ val x → values_of here [] (slice_set ts k x) ≡ values_of here [] ts
  replaced [] zero x e = refl
  replaced [] (suc k) x e = refl
  replaced (t ∷ ts) zero x e = ap (λ (n : ℕ). n ∷ values_of here [] ts) (sym e)
  replaced (t ∷ ts) (suc k) x e = ap (λ (ns : List ℕ). val t ∷ ns) (replaced ts k x e)

  applied : (symbol : ℕ) (ts xs : List Term) → values_of here [] xs ≡ values_of here [] ts → val (Apply symbol false ts) ≡ val (Apply symbol false xs)
  applied symbol ts xs e =
      let a : val (Apply symbol false ts) ≡ value_in (table_at s s symbol false) (place here symbol (values_of here [] ts)) = search (rules, terms_of_logic.the_lemmas) in
      let b : val (Apply symbol false xs) ≡ value_in (table_at s s symbol false) (place here symbol (values_of here [] xs)) = search (rules, terms_of_logic.the_lemmas) in
      a ∙ ap (λ ns. value_in (table_at s s symbol false) (place here symbol ns)) (sym e) ∙ sym b

  carries : (symbol : ℕ) (ts xs : List Term) → values_of here [] xs ≡ values_of here [] ts → v (related symbol ts) ≡ true → v (related symbol xs) ≡ true
  carries symbol ts xs e h =
      related_is symbol xs ∙ ap (λ ns. bit_in (table_at s s symbol false) (place here symbol ns)) e ∙ sym (related_is symbol ts) ∙ h

  functional : (symbol k : ℕ) (ts : List Term) (x : Term) →
      (not (v (equated (unwrap_or (slice_get ts k) x) x)) || (v (equated (Apply symbol false ts) (Apply symbol false (slice_set ts k x))) || false)) ≡ true
  functional symbol k ts x =
      implied _ _ (λ yes. or_false _ ∙ equal_from _ _ (applied symbol ts (slice_set ts k x) (replaced ts k x (equals _ _ yes))))

  congruence_holds : (symbol : ℕ) (kind : SymbolKind) (k : ℕ) (ts : List Term) (x : Term) → named_holds v (congruence symbol kind k ts x) ≡ true
  congruence_holds symbol Relation k ts x =
      implied_both _ _ _ (λ yes h. carries symbol ts (slice_set ts k x) (replaced ts k x (equals _ _ yes)) h)
  congruence_holds symbol Constant k ts x = functional symbol k ts x
  congruence_holds symbol Function k ts x = functional symbol k ts x

  congruent_holds : (o : Option Symbol) (symbol place : ℕ) (ns : List ℕ) (n : ℕ) → list_all (named_holds v) (congruent_clauses u o symbol place ns n) ≡ true
  congruent_holds None symbol place ns n = refl
  congruent_holds (Some f) symbol place ns n = one _ (congruence_holds symbol f.kind place (terms_at u f.args ns) (term_at u (slice_index f.args place) n))

  symmetric_holds : (t x : Term) → (not (v (equated t x)) || (v (equated x t) || false)) ≡ true
  symmetric_holds t x = implied (v (equated t x)) (v (equated x t) || false) (λ yes. or_false (v (equated x t)) ∙ equal_from x t (sym (equals t x yes)))

  transitive_holds : (t x y : Term) → (not (v (equated t x)) || (not (v (equated x y)) || (v (equated t y) || false))) ≡ true
  transitive_holds t x y =
      implied_both (v (equated t x)) (v (equated x y)) (v (equated t y)) (λ yes also. equal_from t y (equals t x yes ∙ equals x y also))

  module _ (values : HaveValues set.signature u) (model : IsModel set s) where
    piece_is_true : (ps : List Piece) → AllByRecursion (IsTruePiece set.signature s) ps → (k : ℕ) (p : Piece) → slice_get ps k ≡ Some p → IsTruePiece set.signature s p
    piece_is_true [] h k p e = absurd (none-some p e)
    piece_is_true (q ∷ ps) h zero p e = subst (IsTruePiece set.signature s) (same_Some q p e) h.0
    piece_is_true (q ∷ ps) h (suc k) p e = piece_is_true ps h.1 k p e

    are_below : (sorts ns : List ℕ) → AreOfSorts (counts u) sorts ns → AreOfSorts s.sizes sorts (values_of here [] (terms_at u sorts ns))
    are_below [] [] h = tt
    are_below [] (n ∷ ns) h = absurd h
    are_below (sort ∷ sorts) [] h = absurd h
    are_below (sort ∷ sorts) (n ∷ ns) h = (values s model.fits sort n h.0, are_below sorts ns h.1)

    piece_holds : (k piece : ℕ) (ns : List ℕ) (o : Option Piece) → slice_get is k ≡ Some (Of piece ns) → slice_get set.pieces piece ≡ o → AreTermsOf u o ns
        → list_all (named_holds v) (piece_clauses u o ns (k ∷ [])) ≡ true
    piece_holds k piece ns None at e below = refl
    piece_holds k piece ns (Some p) at e below =
        let terms = terms_at u p.vars ns in
        let agrees = λ (q : List ℕ). ap (λ (o : Option Instance). inner_holds here set u o q) at ∙ ap (λ (o : Option Piece). part_holds here u o ns q) e in
        (is_encoded set.signature s v terms (atoms terms) p.matrix (k ∷ []) agrees).top (piece_is_true set.pieces model.pieces piece p e (values_of here [] terms) (are_below p.vars ns below))

    instance_holds : (k : ℕ) (i : Instance) → slice_get is k ≡ Some i → IsInstance set u i → list_all (named_holds v) (instance_clauses set u (k ∷ []) i) ≡ true
    instance_holds k (Of piece ns) at h = piece_holds k piece ns (slice_get set.pieces piece) at refl h
    instance_holds k (Reflexive sort t) at h = one _ (or_false _ ∙ equal_from _ _ refl)
    instance_holds k (Symmetric sort t x) at h = one _ (symmetric_holds (term_at u sort t) (term_at u sort x))
    instance_holds k (Transitive sort t x y) at h = one _ (transitive_holds (term_at u sort t) (term_at u sort x) (term_at u sort y))
    instance_holds k (Congruent symbol at_place ns x) at h = congruent_holds (slice_get set.signature.symbols symbol) symbol at_place ns x

    rest_holds : (k : ℕ) (rest : List Instance) → ((j : ℕ) (i : Instance) → slice_get rest j ≡ Some i → slice_get is (k + j) ≡ Some i) → AreInstances set u rest
        → list_all (named_holds v) (clauses_from set u k rest) ≡ true
    rest_holds k [] g h = refl
    rest_holds k (i ∷ rest) g h =
        let zero_on : k + 0 ≡ k = omega arith in
        let first : slice_get is k ≡ Some i = subst (λ (n : ℕ). slice_get is n ≡ Some i) zero_on (g 0 i refl) in
        all_append v (instance_clauses set u (k ∷ []) i) _ (instance_holds k i first h.0)
        (rest_holds (k + 1) rest (λ j x e. let on : k + suc j ≡ k + 1 + j = omega arith in subst (λ (n : ℕ). slice_get is n ≡ Some x) on (g (suc j) x e)) h.1)

    pub all_instances_hold : AreInstances set u is → list_all (named_holds v) (clauses_from set u 0 is) ≡ true
    all_instances_hold h = rest_holds 0 is (λ j i e. let on : j ≡ 0 + j = omega arith in subst (λ (n : ℕ). slice_get is n ≡ Some i) on e) h
