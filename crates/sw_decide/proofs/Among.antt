-- The list of all instances has the instances and nothing else.
use Rattle.std.specs.Prelude.{◌≡◌, ◌<◌, ◌≤◌, ℕ, zero, suc, ◌+◌, List, [], ◌∷◌, map, length, Option, Some, None, slice_get, slice_index, unwrap_or}
use Rattle.std.specs.List.{AllByRecursion, flat_map, range_with_len, enumerate_from}
use Rattle.std.proofs.Common.{arith, refl, sym, subst, ap, ◌∙◌, zero-add, inl, inr}
use Rattle.std.proofs.lemmas.Bool.{cases_lt}
use Rattle.std.proofs.lemmas.Option.{none-some, slice_get_past, slice_get_within, unwrap_or-slice_get}
use Rattle.std.proofs.lemmas.List.{length-map}
use Rattle.std.proofs.lemmas.List.FromFn.{length-map-range_with_len}
use Rattle.sw_lists.proofs.Each.{each-append, each-any}
use Rattle.sw_logic.specs.declared.syntax.Symbol.{Symbol}
use Rattle.sw_logic.specs.Truth.{size_of}
use Rattle.sw_truth.specs.declared.sets.Piece.{Piece}
use Rattle.sw_truth.specs.declared.sets.SkolemSet.{SkolemSet}
use Rattle.sw_truth.specs.declared.instances.Instance.{Instance}
use Rattle.sw_truth.specs.declared.instances.Instance.TheVariants.{Of, Reflexive, Symmetric, Transitive, Congruent}
use Rattle.sw_truth.specs.Models.{AreOfSorts}
use Rattle.sw_truth.proofs.Lists.{IsIn, in-left, in-right, in-map, in-flat_map, in-enumerate, all-map, all-flat_map, all-enumerate}
use Rattle.sw_universe.specs.declared.universe.Universe.{Universe}
use Rattle.sw_universe.specs.ByNumber.{counts, IsTerm}
use Rattle.sw_universe.specs.GroundTerms.{tuples, terms_of, universe_of}
use Rattle.sw_instances.specs.Instances.{AreTermsOf, AreArgumentsOf, IsInstance, AreInstances}
use Rattle.sw_instances.specs.AllInstances.{numbers, choices, piece_instances, equality_instances, congruence_at, congruence_instances, instances_of}

range_below : (a k : ℕ) → AllByRecursion (λ x. x < a + k) (range_with_len a k)
range_below a zero = tt
range_below a (suc k) = (omega arith, subst (λ n. AllByRecursion (λ x. x < n) (range_with_len (a + 1) k)) (moved a k) (range_below (a + 1) k))
  where
    moved : (a k : ℕ) → a + 1 + k ≡ a + suc k
    moved a k = omega arith

in-range : (a k x : ℕ) → a ≤ x → x < a + k → IsIn x (range_with_len a k)
in-range a zero x h l = absurd (omega arith)
in-range a (suc k) x h l =
    elim (cases_lt a x) [
      | inl past ↦ IsIn.there a (range_with_len (a + 1) k) (in-range (a + 1) k x (omega arith) (omega arith))
      | inr here ↦ let same : a ≡ x = omega arith in subst (λ y. IsIn y (a ∷ range_with_len (a + 1) k)) same (IsIn.here (range_with_len (a + 1) k))
    ]

in-below : (k x : ℕ) → x < k → IsIn x (range_with_len 0 k)
in-below k x h = in-range 0 k x (omega arith) (omega arith)

index_is : (xs : List ℕ) (i x : ℕ) → slice_get xs i ≡ Some x → slice_index xs i ≡ x
index_is xs i x e = sym (unwrap_or-slice_get xs i 0) ∙ ap (λ o. unwrap_or o 0) e

module _ (u : Universe) where
  numbers_terms : (sort : ℕ) → AllByRecursion (IsTerm u sort) (numbers u sort)
  numbers_terms sort = subst (λ n. AllByRecursion (λ x. x < n) (numbers u sort)) (zero-add (size_of (counts u) sort)) (range_below 0 (size_of (counts u) sort))

  choices_terms : (sorts : List ℕ) → AllByRecursion (AreOfSorts (counts u) sorts) (choices u sorts)
  choices_terms [] = (tt, tt)
  choices_terms (sort ∷ sorts) =
      all-flat_map (IsTerm u sort) (AreOfSorts (counts u) (sort ∷ sorts)) (λ (x : ℕ). map (λ (rest : List ℕ). x ∷ rest) (choices u sorts))
      (λ x h. all-map (AreOfSorts (counts u) sorts) (AreOfSorts (counts u) (sort ∷ sorts)) (λ (rest : List ℕ). x ∷ rest) (λ rest g. (h, g)) (choices u sorts) (choices_terms sorts))
      (numbers u sort) (numbers_terms sort)

  in-choices : (sorts ns : List ℕ) → AreOfSorts (counts u) sorts ns → IsIn ns (choices u sorts)
  in-choices [] [] h = IsIn.here []
  in-choices [] (n ∷ ns) h = absurd h
  in-choices (sort ∷ sorts) [] h = absurd h
  in-choices (sort ∷ sorts) (n ∷ ns) h =
      in-flat_map (λ (x : ℕ). map (λ (rest : List ℕ). x ∷ rest) (choices u sorts)) n (n ∷ ns) (numbers u sort) (in-below (size_of (counts u) sort) n h.0)
      (in-map (λ (rest : List ℕ). n ∷ rest) ns (choices u sorts) (in-choices sorts ns h.1))

module _ (set : SkolemSet) (u : Universe) where
  abbrev P : Instance → Type 0
  P = IsInstance set u

  pieces_are : AllByRecursion P (flat_map (piece_instances u) (enumerate_from 0 set.pieces))
  pieces_are =
      let at = λ (p : ℕ × Piece). slice_get set.pieces p.0 ≡ Some p.1 in
      all-flat_map at P (piece_instances u)
      (λ p e. all-map (AreOfSorts (counts u) p.1.vars) P (Of p.0) (λ ns h. subst (λ (o : Option Piece). AreTermsOf u o ns) (sym e) h) (choices u p.1.vars) (choices_terms u p.1.vars))
      (enumerate_from 0 set.pieces) (all-enumerate at 0 set.pieces (λ k p e. ap (slice_get set.pieces) (zero-add k) ∙ e))

  equality_are : (sort : ℕ) → AllByRecursion P (equality_instances u sort)
  equality_are sort =
      let terms = IsTerm u sort in
      let all = numbers u sort in
      let are = numbers_terms u sort in
      each-append P (map (Reflexive sort) all) _ (all-map terms P (Reflexive sort) (λ t h. h) all are)
      (each-append P (flat_map (λ t. map (Symmetric sort t) all) all) _
      (all-flat_map terms P (λ t. map (Symmetric sort t) all) (λ t h. all-map terms P (Symmetric sort t) (λ w g. (h, g)) all are) all are)
      (all-flat_map terms P (λ t. flat_map (λ w. map (Transitive sort t w) all) all)
      (λ t h. all-flat_map terms P (λ w. map (Transitive sort t w) all) (λ w g. all-map terms P (Transitive sort t w) (λ x k. (h, g, k)) all are) all are) all are))

  congruence_are : (s : ℕ × Symbol) → slice_get set.signature.symbols s.0 ≡ Some s.1 → AllByRecursion P (congruence_instances u s)
  congruence_are s e =
      let at = λ (place : ℕ × ℕ). slice_get s.1.args place.0 ≡ Some place.1 in
      all-flat_map at P (congruence_at u s.0 (choices u s.1.args))
      (λ place f. all-flat_map (AreOfSorts (counts u) s.1.args) P (λ (ns : List ℕ). map (Congruent s.0 place.0 ns) (numbers u place.1))
      (λ ns h. all-map (IsTerm u place.1) P (Congruent s.0 place.0 ns)
      (λ w g. subst (λ (o : Option Symbol). AreArgumentsOf u o place.0 ns w) (sym e)
      (slice_get_within s.1.args place.0 place.1 f, h, subst (λ k. IsTerm u k w) (sym (index_is s.1.args place.0 place.1 f)) g)) (numbers u place.1) (numbers_terms u place.1))
      (choices u s.1.args) (choices_terms u s.1.args))
      (enumerate_from 0 s.1.args) (all-enumerate at 0 s.1.args (λ k x f. ap (slice_get s.1.args) (zero-add k) ∙ f))

  -- all of the list are instances
  pub sound : AreInstances set u (instances_of set u)
  sound =
      let at = λ (s : ℕ × Symbol). slice_get set.signature.symbols s.0 ≡ Some s.1 in
      let sorts = range_with_len 0 (length set.signature.sorts) in
      each-append P (flat_map (piece_instances u) (enumerate_from 0 set.pieces)) _ pieces_are
      (each-append P (flat_map (equality_instances u) sorts) _
      (all-flat_map (λ sort. Unit {0}) P (equality_instances u) (λ sort t. equality_are sort) sorts (each-any (λ sort. Unit {0}) (λ sort. tt) sorts))
      (all-flat_map at P (congruence_instances u) congruence_are (enumerate_from 0 set.signature.symbols)
      (all-enumerate at 0 set.signature.symbols (λ k s e. ap (slice_get set.signature.symbols) (zero-add k) ∙ e))))

  in-enumerated : {X : Type 0} (xs : List X) (k : ℕ) (x : X) → slice_get xs k ≡ Some x → IsIn (k, x) (enumerate_from 0 xs)
  in-enumerated xs k x e = subst (λ (n : ℕ). IsIn (n, x) (enumerate_from 0 xs)) (zero-add k) (in-enumerate 0 xs k x e)

  in-pieces : (k : ℕ) (ns : List ℕ) (o : Option Piece) → slice_get set.pieces k ≡ o → AreTermsOf u o ns → IsIn (Of k ns) (instances_of set u)
  in-pieces k ns None e h = absurd h
  in-pieces k ns (Some p) e h =
      in-left _ _ _
      (in-flat_map (piece_instances u) (k, p) (Of k ns) (enumerate_from 0 set.pieces) (in-enumerated set.pieces k p e) (in-map (Of k) ns (choices u p.vars) (in-choices u p.vars ns h)))

  in-congruences : (f place : ℕ) (ns : List ℕ) (w : ℕ) (o : Option Symbol) → slice_get set.signature.symbols f ≡ o → AreArgumentsOf u o place ns w → IsIn (Congruent f place ns w) (instances_of set u)
  in-congruences f place ns w None e h = absurd h
  in-congruences f place ns w (Some s) e h =
      let sort = slice_index s.args place in
      let at : slice_get s.args place ≡ Some sort = got s.args place h.0 in
      in-right _ _ _
      (in-right _ _ _
      (in-flat_map (congruence_instances u) (f, s) (Congruent f place ns w) (enumerate_from 0 set.signature.symbols) (in-enumerated set.signature.symbols f s e)
      (in-flat_map (congruence_at u f (choices u s.args)) (place, sort) (Congruent f place ns w) (enumerate_from 0 s.args) (in-enumerated s.args place sort at)
      (in-flat_map (λ (ms : List ℕ). map (Congruent f place ms) (numbers u sort)) ns (Congruent f place ns w) (choices u s.args) (in-choices u s.args ns h.1)
      (in-map (Congruent f place ns) w (numbers u sort) (in-below (size_of (counts u) sort) w h.2))))))
    where
      got : (xs : List ℕ) (i : ℕ) → i < length xs → slice_get xs i ≡ Some (slice_index xs i)
      got [] i h = absurd (omega arith)
      got (x ∷ xs) zero h = refl
      got (x ∷ xs) (suc i) h = got xs i (omega arith)

  module _ (universe : u.lists ≡ universe_of set.signature) where
    sort_within : (sort t : ℕ) → IsTerm u sort t → sort < length set.signature.sorts
    sort_within sort t h =
        let many : length (counts u) ≡ length set.signature.sorts =
        length-map u.lists length ∙ ap length universe ∙ length-map-range_with_len (terms_of set.signature) 0 (length set.signature.sorts) in
        elim (cases_lt sort (length (counts u))) [
          | inl l ↦ omega (arith, l, many)
          | inr past ↦ let none : size_of (counts u) sort ≡ 0 = ap (λ o. unwrap_or o 0) (slice_get_past (counts u) sort past) in absurd (omega (arith, h, none))
        ]

    of_sort : (sort t : ℕ) (i : Instance) → IsTerm u sort t → IsIn i (equality_instances u sort) → IsIn i (instances_of set u)
    of_sort sort t i h g =
        in-right _ _ _ (in-left _ _ _ (in-flat_map (equality_instances u) sort i (range_with_len 0 (length set.signature.sorts)) (in-below (length set.signature.sorts) sort (sort_within sort t h)) g))

    -- the list has each instance
    pub complete : (i : Instance) → IsInstance set u i → IsIn i (instances_of set u)
    complete (Of k ns) h = in-pieces k ns (slice_get set.pieces k) refl h
    complete (Reflexive sort t) h = of_sort sort t (Reflexive sort t) h (in-left _ _ _ (in-map (Reflexive sort) t (numbers u sort) (in-below (size_of (counts u) sort) t h)))
    complete (Symmetric sort t w) h =
        let all = numbers u sort in
        let count = size_of (counts u) sort in
        of_sort sort t (Symmetric sort t w) h.0
        (in-right _ _ _ (in-left _ _ _ (in-flat_map (λ t. map (Symmetric sort t) all) t (Symmetric sort t w) all (in-below count t h.0) (in-map (Symmetric sort t) w all (in-below count w h.1)))))
    complete (Transitive sort t w x) h =
        let all = numbers u sort in
        let count = size_of (counts u) sort in
        of_sort sort t (Transitive sort t w x) h.0
        (in-right _ _ _ (in-right _ _ _
        (in-flat_map (λ t. flat_map (λ w. map (Transitive sort t w) all) all) t (Transitive sort t w x) all (in-below count t h.0)
        (in-flat_map (λ w. map (Transitive sort t w) all) w (Transitive sort t w x) all (in-below count w h.1) (in-map (Transitive sort t w) x all (in-below count x h.2))))))
    complete (Congruent f place ns w) h = in-congruences f place ns w (slice_get set.signature.symbols f) refl h
