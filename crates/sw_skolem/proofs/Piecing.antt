-- A formula without existential quantifiers is true exactly where its pieces are.
use Rattle.std.specs.Prelude.{◌≡◌, ℕ, zero, suc, ◌+◌, ◌-◌, ◌<◌, ◌≤◌, true, false, List, [], ◌∷◌, ◌++◌, length, map, Option, Some, slice_get, slice_index, unwrap_or}
use Rattle.std.specs.List.{list_all, flat_map, range_with_len, AllByRecursion}
use Rattle.std.proofs.Common.{arith, refl, sym, ap, subst, ◌∙◌, inl, inr}
use Rattle.std.proofs.lemmas.Bool.{and_parts, and_from, cases_order, cases_lt, cond_both, both_ways}
use Rattle.std.proofs.lemmas.List.{append-nil, append_assoc, length-append, length-map, get_or_past}
use Rattle.std.proofs.lemmas.Option.{slice_get_past, slice_get_within}
use Rattle.sw_logic.specs.declared.syntax.Binder.{Binder}
use Rattle.sw_logic.specs.declared.syntax.Term.{Term}
use Rattle.sw_logic.specs.declared.syntax.Term.TheVariants.{Variable}
use Rattle.sw_logic.specs.declared.syntax.Formula.{Formula}
use Rattle.sw_logic.specs.declared.syntax.Formula.TheVariants.{True, False, Holds, Equal, Not, All, Any, ForAll}
use Rattle.sw_logic.specs.declared.syntax.Formula.TheOpen.{Formula-F}
use Rattle.sw_logic.specs.Truth.{size_of, truth, value_of, AreValues}
use Rattle.sw_logic.specs.Sorted.{are_sorts, extended}
use Rattle.sw_logic.proofs.Ranges.{for_all-at, for_all-from}
use Rattle.sw_logic.proofs.Steps as steps
use Rattle.sw_truth.specs.declared.sets.Piece.{Piece}
use Rattle.sw_logic.specs.Terms.{occurs, put, variables, with_terms}
use Rattle.sw_truth.specs.Models.{AreOfSorts}
use Rattle.sw_skolem.specs.Pieces.{Part, part_of, part_step, whole, bound, bound_all}
use Rattle.sw_truth.specs.Sorting.{HasSort, IsAtom, IsUniversal, AreUniversal, IsMatrix}
use Rattle.sw_truth.proofs.Growing.{Stage, at, value_of-Variable, put-Variable}
use Rattle.sw_truth.proofs.Truths.{truth-True}
use Rattle.sw_truth.proofs.Inhabited.{sized, AreSized}
use Rattle.sw_truth.proofs.Scoping.{sorts_of, of_sorts_length, of_sorts-append, values_of_sorts, variables_new, variables_sorted}
use Rattle.sw_truth.proofs.Matrices.{matrix_put, matrix_sorts}
use Rattle.sw_skolem.proofs.Pulling.{none_more, pulls}
use Rattle.sw_skolem.proofs.PieceParts.{piece-True, piece-False, piece-Holds, piece-Equal, piece-Not, piece-All, piece-Any, piece-ForAll}
use Rattle.sw_lists.proofs.Places.{get_append_front, get_append_right}

pub all_appended : {X : Type 0} (P : X → Type 0) (xs ys : List X) → AllByRecursion P xs → AllByRecursion P ys → AllByRecursion P (xs ++ ys)
all_appended P [] ys h g = g
all_appended P (x ∷ xs) ys h g = (h.0, all_appended P xs ys h.1 g)

pub all_front : {X : Type 0} (P : X → Type 0) (xs ys : List X) → AllByRecursion P (xs ++ ys) → AllByRecursion P xs
all_front P [] ys h = tt
all_front P (x ∷ xs) ys h = (h.0, all_front P xs ys h.1)

pub all_back : {X : Type 0} (P : X → Type 0) (xs ys : List X) → AllByRecursion P (xs ++ ys) → AllByRecursion P ys
all_back P [] ys h = h
all_back P (x ∷ xs) ys h = all_back P xs ys h.1

-- the terms that leave a variable out
ranged : (from count k : ℕ) → k < count → slice_get (variables from count) k ≡ Some (Variable (from + k))
ranged from zero k h = absurd (omega arith)
ranged from (suc count) zero h = let e : from + 0 ≡ from = omega arith in ap (λ n. Some (Variable n)) (sym e)
ranged from (suc count) (suc k) h = let e : from + 1 + k ≡ from + suc k = omega arith in ranged (from + 1) count k (omega arith) ∙ ap (λ n. Some (Variable n)) e

range_count : (from count : ℕ) → length (range_with_len from count) ≡ count
range_count from zero = refl
range_count from (suc count) = ap suc (range_count (from + 1) count)

variables_count : (from count : ℕ) → length (variables from count) ≡ count
variables_count from count = length-map (range_with_len from count) Variable ∙ range_count from count

abbrev left_out : ℕ → ℕ → List Term
left_out n k = variables 0 (n + 1) ++ variables n k

put_before : (n k x : ℕ) → x < n → put (left_out n k) (Variable x) ≡ Variable x
put_before n k x h =
    let count = variables_count 0 (n + 1) in
    let got = get_append_front (variables 0 (n + 1)) (variables n k) x (omega arith) ∙ ranged 0 (n + 1) x (omega arith) in
    let zeroth : 0 + x ≡ x = omega arith in
    put-Variable (left_out n k) x ∙ (ap (λ (o : Option Term). unwrap_or o (Variable x)) got ∙ ap Variable zeroth)

put_behind : (n k j : ℕ) → j < k → put (left_out n k) (Variable (n + 1 + j)) ≡ Variable (n + j)
put_behind n k j h =
    let count : length (variables 0 (n + 1)) + j ≡ n + 1 + j = ap (λ m. m + j) (variables_count 0 (n + 1)) in
    let got = ap (slice_get (left_out n k)) (sym count) ∙ (get_append_right (variables 0 (n + 1)) (variables n k) j ∙ ranged n k j h) in
    put-Variable (left_out n k) (n + 1 + j) ∙ ap (λ (o : Option Term). unwrap_or o (Variable (n + 1 + j))) got

index_front : (vs ws : List ℕ) (x : ℕ) → x < length vs → slice_index (vs ++ ws) x ≡ slice_index vs x
index_front [] ws x h = absurd (omega arith)
index_front (v ∷ vs) ws zero h = refl
index_front (v ∷ vs) ws (suc x) h = index_front vs ws x (omega arith)

index_behind : (vs ws : List ℕ) (j : ℕ) → slice_index (vs ++ ws) (length vs + j) ≡ slice_index ws j
index_behind [] ws j = let e : 0 + j ≡ j = omega arith in ap (slice_index ws) e
index_behind (v ∷ vs) ws j = let e : suc (length vs) + j ≡ suc (length vs + j) = omega arith in ap (slice_index (v ∷ vs ++ ws)) e ∙ index_behind vs ws j

put_past : (n k j : ℕ) → k ≤ j → put (left_out n k) (Variable (n + 1 + j)) ≡ Variable (n + 1 + j)
put_past n k j h =
    let count : length (left_out n k) ≡ n + 1 + k = length-append (variables 0 (n + 1)) (variables n k) ∙ cc (variables_count 0 (n + 1), variables_count n k) in
    let none = slice_get_past (left_out n k) (n + 1 + j) (omega arith) in
    put-Variable (left_out n k) (n + 1 + j) ∙ ap (λ (o : Option Term). unwrap_or o (Variable (n + 1 + j))) none

get_front : (vs ws : List ℕ) (x : ℕ) → x < length vs → slice_get (vs ++ ws) x ≡ slice_get vs x
get_front vs ws x h = get_append_front vs ws x h

-- a variable of the scope other than the n-th is before it or behind it
later : (n x : ℕ) → n < x → (j : ℕ) × (x ≡ n + 1 + j)
later n x h = (x - (n + 1), omega arith)

module _ (d : Stage) where
  -- true at all values of its variables, where the outer ones have these
  abbrev pub IsTrueAt : List ℕ → Piece → Type 0
  IsTrueAt vs piece = (ws : List ℕ) → AreOfSorts d.structure.sizes piece.vars ws → truth (at d) piece.matrix (vs ++ ws) ≡ true

  abbrev pub IsPiece : List ℕ → Piece → Type 0
  IsPiece sorts piece = IsMatrix d.signature (sorts ++ piece.vars) piece.matrix

  pub record IsSplit (p : Formula) (sorts : List ℕ) (pieces : List Piece) : Type 0 where
    pub are : AllByRecursion (IsPiece sorts) pieces
    pub down : (vs : List ℕ) → AreOfSorts d.structure.sizes sorts vs → truth (at d) p vs ≡ true → AllByRecursion (IsTrueAt vs) pieces
    pub up : (vs : List ℕ) → AreOfSorts d.structure.sizes sorts vs → AllByRecursion (IsTrueAt vs) pieces → truth (at d) p vs ≡ true

  -- leaving out a variable that does not occur
  module _ (n : ℕ) (sorts more : List ℕ) (sort : ℕ) (m : Formula) (count : length sorts ≡ n) (absent : occurs n m ≡ false) (ok : IsMatrix d.signature (sorts ++ sort ∷ more) m) where
    abbrev without : Formula
    without = with_terms (left_out n (length more)) m

    without_value : (vs ws : List ℕ) (v : ℕ) → AreOfSorts d.structure.sizes sorts vs → AreOfSorts d.structure.sizes more ws → (x : ℕ) → occurs x m ≡ true
        → value_of (at d) (vs ++ ws) (put (left_out n (length more)) (Variable x)) ≡ value_of (at d) (vs ++ v ∷ ws) (Variable x)
    without_value vs ws v h g x o =
        let k = length more in
        let vs_count : length vs ≡ n = sym (of_sorts_length d.structure.sizes sorts vs h) ∙ count in
        let ws_count : length ws ≡ k = sym (of_sorts_length d.structure.sizes more ws g) in
        elim (cases_order x n) [
          | inl same ↦ absurd (both_ways (occurs n m) absent (ap (λ y. occurs y m) (sym same) ∙ o))
          | inr (inl before) ↦
              ap (value_of (at d) (vs ++ ws)) (put_before n k x before)
              ∙ (value_of-Variable (at d) (vs ++ ws) x
              ∙ (index_front vs ws x (omega arith) ∙ (sym (index_front vs (v ∷ ws) x (omega arith)) ∙ sym (value_of-Variable (at d) (vs ++ v ∷ ws) x))))
          | inr (inr after) ↦ behind vs ws v vs_count ws_count x (later n x after)
        ]
      where
        right : (vs ws : List ℕ) (v j : ℕ) → length vs ≡ n → value_of (at d) (vs ++ v ∷ ws) (Variable (n + 1 + j)) ≡ slice_index ws j
        right vs ws v j e =
            let place : n + 1 + j ≡ length vs + suc j = omega arith in
            value_of-Variable (at d) (vs ++ v ∷ ws) (n + 1 + j) ∙ (ap (slice_index (vs ++ v ∷ ws)) place ∙ index_behind vs (v ∷ ws) (suc j))

        inside : (vs ws : List ℕ) (j : ℕ) → length vs ≡ n → j < length more → value_of (at d) (vs ++ ws) (put (left_out n (length more)) (Variable (n + 1 + j))) ≡ slice_index ws j
        inside vs ws j e h =
            let place : n + j ≡ length vs + j = omega arith in
            ap (value_of (at d) (vs ++ ws)) (put_behind n (length more) j h)
            ∙ (value_of-Variable (at d) (vs ++ ws) (n + j) ∙ (ap (slice_index (vs ++ ws)) place ∙ index_behind vs ws j))

        past : (vs ws : List ℕ) (j : ℕ) → length vs ≡ n → length ws ≡ length more → length more ≤ j → value_of (at d) (vs ++ ws) (put (left_out n (length more)) (Variable (n + 1 + j))) ≡ slice_index ws j
        past vs ws j e f h =
            let place : n + 1 + j ≡ length vs + suc j = omega arith in
            ap (value_of (at d) (vs ++ ws)) (put_past n (length more) j h)
            ∙ (value_of-Variable (at d) (vs ++ ws) (n + 1 + j) ∙ (ap (slice_index (vs ++ ws)) place ∙ (index_behind vs ws (suc j) ∙ (get_or_past ws (suc j) 0 (omega arith) ∙ sym (get_or_past ws j 0 (omega arith))))))

        behind : (vs ws : List ℕ) (v : ℕ) → length vs ≡ n → length ws ≡ length more → (x : ℕ) → (j : ℕ) × (x ≡ n + 1 + j)
            → value_of (at d) (vs ++ ws) (put (left_out n (length more)) (Variable x)) ≡ value_of (at d) (vs ++ v ∷ ws) (Variable x)
        behind vs ws v e f x (j, is) =
            let here : value_of (at d) (vs ++ ws) (put (left_out n (length more)) (Variable (n + 1 + j))) ≡ slice_index ws j =
            elim (cases_lt j (length more)) [ inl h ↦ inside vs ws j e h | inr h ↦ past vs ws j e f h ] in
            ap (λ y. value_of (at d) (vs ++ ws) (put (left_out n (length more)) (Variable y))) is ∙ (here ∙ (sym (right vs ws v j e) ∙ ap (λ y. value_of (at d) (vs ++ v ∷ ws) (Variable y)) (sym is)))

    without_sort : (x s : ℕ) → occurs x m ≡ true → slice_get (sorts ++ sort ∷ more) x ≡ Some s → HasSort d.signature (sorts ++ more) (put (left_out n (length more)) (Variable x)) s
    without_sort x s o e =
        let k = length more in
        elim (cases_order x n) [
          | inl same ↦ absurd (both_ways (occurs n m) absent (ap (λ y. occurs y m) (sym same) ∙ o))
          | inr (inl before) ↦
              subst (λ (t : Term). HasSort d.signature (sorts ++ more) t s) (sym (put_before n k x before))
              (HasSort.variable x s (get_front sorts more x (omega arith) ∙ (sym (get_front sorts (sort ∷ more) x (omega arith)) ∙ e)))
          | inr (inr after) ↦ behind x e (later n x after)
        ]
      where
        at_behind : (j : ℕ) → slice_get (sorts ++ sort ∷ more) (n + 1 + j) ≡ slice_get more j
        at_behind j = let place : n + 1 + j ≡ length sorts + suc j = omega arith in ap (slice_get (sorts ++ sort ∷ more)) place ∙ get_append_right sorts (sort ∷ more) (suc j)

        at_place : (j : ℕ) → slice_get (sorts ++ more) (n + j) ≡ slice_get more j
        at_place j = let place : n + j ≡ length sorts + j = omega arith in ap (slice_get (sorts ++ more)) place ∙ get_append_right sorts more j

        behind : (x : ℕ) → slice_get (sorts ++ sort ∷ more) x ≡ Some s → (j : ℕ) × (x ≡ n + 1 + j) → HasSort d.signature (sorts ++ more) (put (left_out n (length more)) (Variable x)) s
        behind x e (j, is) =
            let got : slice_get more j ≡ Some s = sym (at_behind j) ∙ (ap (slice_get (sorts ++ sort ∷ more)) (sym is) ∙ e) in
            let within = slice_get_within more j s got in
            let put_is : put (left_out n (length more)) (Variable x) ≡ Variable (n + j) = ap (λ y. put (left_out n (length more)) (Variable y)) is ∙ put_behind n (length more) j within in
            subst (λ (t : Term). HasSort d.signature (sorts ++ more) t s) (sym put_is) (HasSort.variable (n + j) s (at_place j ∙ got))

    without_truth : (vs ws : List ℕ) (v : ℕ) → AreOfSorts d.structure.sizes sorts vs → AreOfSorts d.structure.sizes more ws → truth (at d) without (vs ++ ws) ≡ truth (at d) m (vs ++ v ∷ ws)
    without_truth vs ws v h g = matrix_put (at d) d.signature (left_out n (length more)) (sorts ++ sort ∷ more) (vs ++ ws) (vs ++ v ∷ ws) m ok (without_value vs ws v h g)

    without_matrix : IsMatrix d.signature (sorts ++ more) without
    without_matrix = matrix_sorts d (none_more d) (left_out n (length more)) (sorts ++ more) (sorts ++ sort ∷ more) m ok without_sort

  assoc_values : (vs : List ℕ) (v : ℕ) (ws : List ℕ) → (vs ++ v ∷ []) ++ ws ≡ vs ++ v ∷ ws
  assoc_values vs v ws = append_assoc vs (v ∷ []) ws

  -- the scope of a part of a piece, with one variable more
  piece_scope : (sorts : List ℕ) (b : Binder) (piece : Piece) → IsPiece (sorts ++ b.sort ∷ []) piece → IsMatrix d.signature (sorts ++ b.sort ∷ piece.vars) piece.matrix
  piece_scope sorts b piece h = subst (λ (ss : List ℕ). IsMatrix d.signature ss piece.matrix) (append_assoc sorts (b.sort ∷ []) piece.vars) h

  abbrev with_bound : Binder → Piece → Piece
  with_bound b piece = record { vars = b.sort ∷ piece.vars; matrix = piece.matrix }

  abbrev without_bound : ℕ → Piece → Piece
  without_bound n piece = record { vars = piece.vars; matrix = with_terms (left_out n (length piece.vars)) piece.matrix }

  module _ (n : ℕ) (sorts : List ℕ) (b : Binder) (piece : Piece) (count : length sorts ≡ n) (ok : IsPiece (sorts ++ b.sort ∷ []) piece) where
    when_bound : (P : Piece → Type 0) → (occurs n piece.matrix ≡ true → P (with_bound b piece)) → (occurs n piece.matrix ≡ false → P (without_bound n piece)) → P (bound n b piece)
    when_bound P yes_case no_case = cond_both (occurs n piece.matrix) (with_bound b piece) (without_bound n piece) P yes_case no_case

    bound_is : IsPiece sorts (bound n b piece)
    bound_is = when_bound (IsPiece sorts) (λ e. piece_scope sorts b piece ok) (λ e. without_matrix n sorts piece.vars b.sort piece.matrix count e (piece_scope sorts b piece ok))

    with_down : (vs : List ℕ) → ((v : ℕ) → v < size_of d.structure.sizes b.sort → IsTrueAt (vs ++ v ∷ []) piece) → IsTrueAt vs (with_bound b piece)
    with_down vs h [] w = absurd w
    with_down vs h (v ∷ ws) w = ap (truth (at d) piece.matrix) (sym (assoc_values vs v ws)) ∙ h v w.0 ws w.1

    bound_down : (vs : List ℕ) → AreOfSorts d.structure.sizes sorts vs → 0 < size_of d.structure.sizes b.sort
        → ((v : ℕ) → v < size_of d.structure.sizes b.sort → IsTrueAt (vs ++ v ∷ []) piece) → IsTrueAt vs (bound n b piece)
    bound_down vs o some h =
        when_bound (IsTrueAt vs) (λ e. with_down vs h)
        (λ e ws w. without_truth n sorts piece.vars b.sort piece.matrix count e (piece_scope sorts b piece ok) vs ws 0 o w
        ∙ (ap (truth (at d) piece.matrix) (sym (assoc_values vs 0 ws)) ∙ h 0 some ws w))

    bound_up : (vs : List ℕ) → AreOfSorts d.structure.sizes sorts vs → IsTrueAt vs (bound n b piece) → (v : ℕ) → v < size_of d.structure.sizes b.sort → IsTrueAt (vs ++ v ∷ []) piece
    bound_up vs o =
        when_bound (λ q. IsTrueAt vs q → (v : ℕ) → v < size_of d.structure.sizes b.sort → IsTrueAt (vs ++ v ∷ []) piece)
        (λ e h v below ws w. ap (truth (at d) piece.matrix) (assoc_values vs v ws) ∙ h (v ∷ ws) (below, w))
        (λ e h v below ws w. ap (truth (at d) piece.matrix) (assoc_values vs v ws)
        ∙ (sym (without_truth n sorts piece.vars b.sort piece.matrix count e (piece_scope sorts b piece ok) vs ws v o w) ∙ h ws w))

  -- the same for lists of pieces
  module _ (n : ℕ) (sorts : List ℕ) (b : Binder) (count : length sorts ≡ n) where
    are_bound : (pieces : List Piece) → AllByRecursion (IsPiece (sorts ++ b.sort ∷ [])) pieces → AllByRecursion (IsPiece sorts) (map (bound n b) pieces)
    are_bound [] h = tt
    are_bound (piece ∷ pieces) h = (bound_is n sorts b piece count h.0, are_bound pieces h.1)

    all_bound_down : (pieces : List Piece) → AllByRecursion (IsPiece (sorts ++ b.sort ∷ [])) pieces → (vs : List ℕ) → AreOfSorts d.structure.sizes sorts vs → 0 < size_of d.structure.sizes b.sort
        → ((v : ℕ) → v < size_of d.structure.sizes b.sort → AllByRecursion (IsTrueAt (vs ++ v ∷ [])) pieces) → AllByRecursion (IsTrueAt vs) (map (bound n b) pieces)
    all_bound_down [] h vs o some t = tt
    all_bound_down (piece ∷ pieces) h vs o some t =
        (bound_down n sorts b piece count h.0 vs o some (λ v below. (t v below).0), all_bound_down pieces h.1 vs o some (λ v below. (t v below).1))

    all_bound_up : (pieces : List Piece) → AllByRecursion (IsPiece (sorts ++ b.sort ∷ [])) pieces → (vs : List ℕ) → AreOfSorts d.structure.sizes sorts vs
        → AllByRecursion (IsTrueAt vs) (map (bound n b) pieces) → (v : ℕ) → v < size_of d.structure.sizes b.sort → AllByRecursion (IsTrueAt (vs ++ v ∷ [])) pieces
    all_bound_up [] h vs o t v below = tt
    all_bound_up (piece ∷ pieces) h vs o t v below =
        (bound_up n sorts b piece count h.0 vs o t.0 v below, all_bound_up pieces h.1 vs o t.1 v below)

  longer : (sorts : List ℕ) (s n : ℕ) → length sorts ≡ n → length (sorts ++ s ∷ []) ≡ n + 1
  longer sorts s n e = simp length-append (omega arith)

  -- and for lists of binders
  binders_are : (bs : List Binder) (n : ℕ) (sorts : List ℕ) (pieces : List Piece) → length sorts ≡ n → AllByRecursion (IsPiece (sorts ++ sorts_of bs)) pieces → AllByRecursion (IsPiece sorts) (bound_all n bs pieces)
  binders_are [] n sorts pieces e h = subst (λ (ss : List ℕ). AllByRecursion (IsPiece ss) pieces) (append-nil sorts) h
  binders_are (b ∷ bs) n sorts pieces e h =
      are_bound n sorts b e (bound_all (n + 1) bs pieces)
      (binders_are bs (n + 1) (sorts ++ b.sort ∷ []) pieces (longer sorts b.sort n e) (subst (λ (ss : List ℕ). AllByRecursion (IsPiece ss) pieces) (sym (append_assoc sorts (b.sort ∷ []) (sorts_of bs))) h))

  inner_are : (b : Binder) (bs : List Binder) (n : ℕ) (sorts : List ℕ) (pieces : List Piece) → length sorts ≡ n → AllByRecursion (IsPiece (sorts ++ sorts_of (b ∷ bs))) pieces
      → AllByRecursion (IsPiece ((sorts ++ b.sort ∷ []) ++ sorts_of bs)) pieces
  inner_are b bs n sorts pieces e h = subst (λ (ss : List ℕ). AllByRecursion (IsPiece ss) pieces) (sym (append_assoc sorts (b.sort ∷ []) (sorts_of bs))) h

  one_value : (b : Binder) (v : ℕ) → v < size_of d.structure.sizes b.sort → AreOfSorts d.structure.sizes (b.sort ∷ []) (v ∷ [])
  one_value b v h = (h, tt)

  binders_down : (bs : List Binder) (n : ℕ) (sorts : List ℕ) (pieces : List Piece) → length sorts ≡ n → AreSized d.structure.sizes bs → AllByRecursion (IsPiece (sorts ++ sorts_of bs)) pieces
      → (vs : List ℕ) → AreOfSorts d.structure.sizes sorts vs → ((us : List ℕ) → AreValues d.structure.sizes bs us → AllByRecursion (IsTrueAt (vs ++ us)) pieces)
      → AllByRecursion (IsTrueAt vs) (bound_all n bs pieces)
  binders_down [] n sorts pieces e some h vs o t = subst (λ (ys : List ℕ). AllByRecursion (IsTrueAt ys) pieces) (append-nil vs) (t [] tt)
  binders_down (b ∷ bs) n sorts pieces e some h vs o t =
      let inner = inner_are b bs n sorts pieces e h in
      all_bound_down n sorts b e (bound_all (n + 1) bs pieces) (binders_are bs (n + 1) (sorts ++ b.sort ∷ []) pieces (longer sorts b.sort n e) inner) vs o some.0
      (λ v below. binders_down bs (n + 1) (sorts ++ b.sort ∷ []) pieces (longer sorts b.sort n e) some.1 inner (vs ++ v ∷ [])
      (of_sorts-append d.structure.sizes sorts (b.sort ∷ []) vs (v ∷ []) o (one_value b v below))
      (λ us u. subst (λ (ys : List ℕ). AllByRecursion (IsTrueAt ys) pieces) (sym (assoc_values vs v us)) (t (v ∷ us) (below, u))))

  binders_up : (bs : List Binder) (n : ℕ) (sorts : List ℕ) (pieces : List Piece) → length sorts ≡ n → AllByRecursion (IsPiece (sorts ++ sorts_of bs)) pieces
      → (vs : List ℕ) → AreOfSorts d.structure.sizes sorts vs → AllByRecursion (IsTrueAt vs) (bound_all n bs pieces)
      → (us : List ℕ) → AreValues d.structure.sizes bs us → AllByRecursion (IsTrueAt (vs ++ us)) pieces
  binders_up [] n sorts pieces e h vs o t [] u = subst (λ (ys : List ℕ). AllByRecursion (IsTrueAt ys) pieces) (sym (append-nil vs)) t
  binders_up [] n sorts pieces e h vs o t (w ∷ us) u = absurd u
  binders_up (b ∷ bs) n sorts pieces e h vs o t [] u = absurd u
  binders_up (b ∷ bs) n sorts pieces e h vs o t (v ∷ us) u =
      let inner = inner_are b bs n sorts pieces e h in
      let here = all_bound_up n sorts b e (bound_all (n + 1) bs pieces) (binders_are bs (n + 1) (sorts ++ b.sort ∷ []) pieces (longer sorts b.sort n e) inner) vs o t v u.0 in
      subst (λ (ys : List ℕ). AllByRecursion (IsTrueAt ys) pieces) (assoc_values vs v us)
      (binders_up bs (n + 1) (sorts ++ b.sort ∷ []) pieces (longer sorts b.sort n e) inner (vs ++ v ∷ []) (of_sorts-append d.structure.sizes sorts (b.sort ∷ []) vs (v ∷ []) o (one_value b v u.0)) here us u.1)

  moved : (p : Formula) (sorts : List ℕ) (n : ℕ) (t : Part) → part_of p ≡ t → IsSplit p sorts (t.pieces n) → IsSplit p sorts ((part_of p).pieces n)
  moved p sorts n t e x = subst (λ (q : Part). IsSplit p sorts (q.pieces n)) (sym e) x

  -- one piece
  whole_splits : (p : Formula) (sorts : List ℕ) (n : ℕ) → length sorts ≡ n → IsUniversal d.signature sorts p → IsSplit p sorts (whole (part_of p).pulled n)
  whole_splits p sorts n e u =
      let terms_are = variables_sorted d.signature [] sorts 0 n refl e in
      let x = pulls d sorts p u (variables 0 n) sorts n e terms_are in
      let f = ((part_of p).pulled (variables 0 n) n).formula in
      let same = λ (vs : List ℕ) (o : AreOfSorts d.structure.sizes sorts vs). variables_new (at d) [] vs 0 n refl (sym (of_sorts_length d.structure.sizes sorts vs o) ∙ e) in
      record {
        are = (x.matrix, tt);
        down = λ vs o t. (λ ws w. ap (truth (at d) f) (sym (append-nil (vs ++ ws))) ∙ x.down vs o (ap (truth (at d) p) (same vs o) ∙ t) ws w [], tt);
        up = λ vs o t. let y = x.up vs o in sym (ap (truth (at d) p) (same vs o)) ∙ y.2 [] (ap (truth (at d) f) (append-nil (vs ++ y.0)) ∙ t.0 y.0 y.1);
      }

  for_all_splits : (bs : List Binder) (p : Formula) (sorts : List ℕ) (n : ℕ) (pieces : List Piece) → length sorts ≡ n → are_sorts d.signature bs ≡ true → IsSplit p (sorts ++ sorts_of bs) pieces
      → IsSplit (ForAll bs p) sorts (bound_all n bs pieces)
  for_all_splits bs p sorts n pieces e k x = record {
    are = binders_are bs n sorts pieces e x.are;
    down = λ vs o t. binders_down bs n sorts pieces e (sized d bs k) x.are vs o (λ us u.
        x.down (vs ++ us) (of_sorts-append d.structure.sizes sorts (sorts_of bs) vs us o (values_of_sorts d.structure.sizes bs us u))
        (for_all-at d.structure.sizes bs (truth (at d) p) vs us (sym (steps.truth-ForAll (at d) bs p vs) ∙ t) u));
    up = λ vs o t. steps.truth-ForAll (at d) bs p vs ∙ for_all-from d.structure.sizes bs (truth (at d) p) vs (λ us u.
        x.up (vs ++ us) (of_sorts-append d.structure.sizes sorts (sorts_of bs) vs us o (values_of_sorts d.structure.sizes bs us u)) (binders_up bs n sorts pieces e x.are vs o t us u));
  }

  true_splits : (sorts : List ℕ) → IsSplit True sorts []
  true_splits sorts = record { are = tt; down = λ vs o t. tt; up = λ vs o t. truth-True (at d) vs }

  -- a conjunction, part by part
  pub record AreSplit (ps : List Formula) (sorts : List ℕ) (pieces : List Piece) : Type 0 where
    pub are : AllByRecursion (IsPiece sorts) pieces
    pub down : (vs : List ℕ) → AreOfSorts d.structure.sizes sorts vs → list_all (λ p. truth (at d) p vs) ps ≡ true → AllByRecursion (IsTrueAt vs) pieces
    pub up : (vs : List ℕ) → AreOfSorts d.structure.sizes sorts vs → AllByRecursion (IsTrueAt vs) pieces → list_all (λ p. truth (at d) p vs) ps ≡ true

  all_splits : (ps : List Formula) (sorts : List ℕ) (pieces : List Piece) → AreSplit ps sorts pieces → IsSplit (All ps) sorts pieces
  all_splits ps sorts pieces x = record {
    are = x.are;
    down = λ vs o t. x.down vs o (sym (steps.truth-All (at d) ps vs) ∙ t);
    up = λ vs o t. steps.truth-All (at d) ps vs ∙ x.up vs o t;
  }

  more_splits : (p : Formula) (ps : List Formula) (sorts : List ℕ) (xs ys : List Piece) → IsSplit p sorts xs → AreSplit ps sorts ys → AreSplit (p ∷ ps) sorts (xs ++ ys)
  more_splits p ps sorts xs ys x y = record {
    are = all_appended (IsPiece sorts) xs ys x.are y.are;
    down = λ vs o t.
        let parts = and_parts (truth (at d) p vs) (list_all (λ p. truth (at d) p vs) ps) t in
        all_appended (IsTrueAt vs) xs ys (x.down vs o parts.0) (y.down vs o parts.1);
    up = λ vs o t. and_from _ _ (x.up vs o (all_front (IsTrueAt vs) xs ys t)) (y.up vs o (all_back (IsTrueAt vs) xs ys t));
  }

  -- a part that is one piece
  alone : (p : Formula) (sorts : List ℕ) (n : ℕ) (t : Part) → part_of p ≡ t → t.pieces n ≡ whole t.pulled n → length sorts ≡ n → IsUniversal d.signature sorts p → IsSplit p sorts ((part_of p).pieces n)
  alone p sorts n t e f count u =
      let pulled_is : whole (part_of p).pulled n ≡ t.pieces n = ap (λ (q : Part). whole q.pulled n) e ∙ sym f in
      moved p sorts n t e (subst (IsSplit p sorts) pulled_is (whole_splits p sorts n count u))

  mutual
    pub splits : (sorts : List ℕ) (p : Formula) → IsUniversal d.signature sorts p → (n : ℕ) → length sorts ≡ n → IsSplit p sorts ((part_of p).pieces n)
    splits sorts p (IsUniversal.truth s) n e = moved True s n (part_step Formula-F.True) piece-True (true_splits s)
    splits sorts p (IsUniversal.falsity s) n e = alone False s n (part_step Formula-F.False) piece-False refl e (IsUniversal.falsity s)
    splits sorts p (IsUniversal.atom s f (IsAtom.holds k t args i r h)) n e =
        alone (Holds k false args) s n (part_step (Formula-F.Holds k false args)) (piece-Holds k false args) refl e (IsUniversal.atom s (Holds k false args) (IsAtom.holds k t args i r h))
    splits sorts p (IsUniversal.atom s f (IsAtom.equal a b t h i)) n e =
        alone (Equal a b) s n (part_step (Formula-F.Equal a b)) (piece-Equal a b) refl e (IsUniversal.atom s (Equal a b) (IsAtom.equal a b t h i))
    splits sorts p (IsUniversal.negated s f i) n e = alone (Not f) s n (part_step (Formula-F.Not (part_of f))) (piece-Not f) refl e (IsUniversal.negated s f i)
    splits sorts p (IsUniversal.all s ps us) n e =
        moved (All ps) s n (part_step (Formula-F.All (map part_of ps))) (piece-All ps) (all_splits ps s (flat_map (λ (q : Part). q.pieces n) (map part_of ps)) (split_all s ps us n e))
    splits sorts p (IsUniversal.any s ps us) n e = alone (Any ps) s n (part_step (Formula-F.Any (map part_of ps))) (piece-Any ps) refl e (IsUniversal.any s ps us)
    splits sorts p (IsUniversal.for_all s bs f k u) n e =
        let count : length (s ++ sorts_of bs) ≡ n + length bs = length-append s (sorts_of bs) ∙ cc (e, length-map bs (λ (b : Binder). b.sort)) in
        moved (ForAll bs f) s n (part_step (Formula-F.ForAll bs (part_of f))) (piece-ForAll bs f)
        (for_all_splits bs f s n ((part_of f).pieces (n + length bs)) e k (splits (extended s bs) f u (n + length bs) count))

    pub split_all : (sorts : List ℕ) (ps : List Formula) → AreUniversal d.signature sorts ps → (n : ℕ) → length sorts ≡ n → AreSplit ps sorts (flat_map (λ (q : Part). q.pieces n) (map part_of ps))
    split_all sorts ps (AreUniversal.none s) n e = record { are = tt; down = λ vs o t. tt; up = λ vs o t. refl }
    split_all sorts ps (AreUniversal.more s q qs u us) n e =
        more_splits q qs s ((part_of q).pieces n) (flat_map (λ (q : Part). q.pieces n) (map part_of qs)) (splits s q u n e) (split_all s qs us n e)
