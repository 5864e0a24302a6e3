-- What the search along edges finds.
use Rattle.std.specs.Prelude.{◌≡◌, ℕ, zero, suc, ◌+◌, ◌<◌, ◌≤◌, Bool, true, false, not, cond, ◌&&◌, ◌||◌, ◌==◌, List, [], ◌∷◌, ◌++◌, length, map, slice_index_or, slice_index, slice_set}
use Rattle.std.specs.List.{list_any, count_by, range_with_len, AllByRecursion, Contains}
use Rattle.std.proofs.Common.{arith, refl, sym, ap, subst, ◌∙◌, inl, inr}
use Rattle.std.proofs.lemmas.Bool.{cases_order, and_parts, or_cases, or_left, or_right, false≢true, cases_Bool}
use Rattle.std.proofs.lemmas.List.Sums.{sum_by-cons, count_by-le-length}
use Rattle.std.proofs.lemmas.List.{length-append}
use Rattle.std.proofs.lemmas.List.FromFn.{length-map-range_with_len, get_or-map-range_with_len}
use Rattle.sw_logic.specs.declared.syntax.Edge.{Edge}
use Rattle.sw_logic.specs.Strata.{Leads, AreWithin, AreRanks, FirstOnCycle}
use Rattle.sw_strata.specs.Reaching.{is_found, is_open, AreReached, rank_in, AreTables}
use Rattle.sw_truth.proofs.Deriving.{number_same}
use Rattle.std.proofs.lemmas.Bool.{eqb-true}

not_true : (b : Bool) → not b ≡ true → b ≡ false
not_true true e = absurd (false≢true e)
not_true false e = refl

or_false : (a b : Bool) → (a || b) ≡ false → (a ≡ false) × (b ≡ false)
or_false true b e = absurd (false≢true (sym e))
or_false false b e = (refl, e)

pub at_all : {X : Type 0} (P : X → Type 0) (xs : List X) (k : ℕ) (d : X) → AllByRecursion P xs → k < length xs → P (slice_index_or xs k d)
at_all P [] k d h l = absurd (omega arith)
at_all P (x ∷ xs) zero d h l = h.0
at_all P (x ∷ xs) (suc k) d h l = at_all P xs k d h.1 (omega arith)

pub contained_all : {X : Type 0} (P : X → Type 0) (xs : List X) (x : X) → AllByRecursion P xs → Contains xs x → P x
contained_all P xs x h c = subst P c.2 (at_all P xs c.0 x h c.1)

at_none : {X : Type 0} (p : X → Bool) (xs : List X) (k : ℕ) (d : X) → list_any p xs ≡ false → k < length xs → p (slice_index_or xs k d) ≡ false
at_none p [] k d h l = absurd (omega arith)
at_none p (x ∷ xs) zero d h l = (or_false (p x) (list_any p xs) h).0
at_none p (x ∷ xs) (suc k) d h l = at_none p xs k d (or_false (p x) (list_any p xs) h).1 (omega arith)

pub contained_none : {X : Type 0} (p : X → Bool) (xs : List X) (x : X) → list_any p xs ≡ false → Contains xs x → p x ≡ false
contained_none p xs x h c = subst (λ y. p y ≡ false) c.2 (at_none p xs c.0 x h c.1)

count-cons : {X : Type 0} (p : X → Bool) (x : X) (xs : List X) → count_by p (x ∷ xs) ≡ cond (p x) 1 0 + count_by p xs
count-cons p x xs = sum_by-cons (λ y. cond (p y) 1 0) x xs

-- a sort that is newly found
pub fewer : (found : List Bool) (k : ℕ) → k < length found → is_found found k ≡ false → count_by not (slice_set found k true) < count_by not found
fewer [] k l e = absurd (omega arith)
fewer (true ∷ found) zero l e = absurd (false≢true (sym e))
fewer (false ∷ found) zero l e = omega (arith, count-cons not false found, count-cons not true found)
fewer (b ∷ found) (suc k) l e = let rest = fewer found k (omega arith) e in omega (arith, count-cons not b found, count-cons not b (slice_set found k true))

pub found_then : (P : ℕ → Type 0) (found : List Bool) (k j : ℕ) → ((i : ℕ) → is_found found i ≡ true → P i) → P k → is_found (slice_set found k true) j ≡ true → P j
found_then P [] k j h p e = absurd (false≢true e)
found_then P (b ∷ found) zero zero h p e = p
found_then P (b ∷ found) zero (suc j) h p e = h (suc j) e
found_then P (b ∷ found) (suc k) zero h p e = h zero e
found_then P (b ∷ found) (suc k) (suc j) h p e = found_then (λ i. P (suc i)) found k j (λ i. h (suc i)) p e

pub none_count : (n : ℕ) → length (map (λ (k : ℕ). false) (range_with_len 0 n)) ≡ n
none_count n = length-map-range_with_len (λ (k : ℕ). false) 0 n

nowhere : (a n k : ℕ) → is_found (map (λ (j : ℕ). false) (range_with_len a n)) k ≡ false
nowhere a zero k = refl
nowhere a (suc n) zero = refl
nowhere a (suc n) (suc k) = nowhere (a + 1) n k

pub none_there : (n k : ℕ) (P : Type 0) → is_found (map (λ (j : ℕ). false) (range_with_len 0 n)) k ≡ true → P
none_there n k P e = absurd (false≢true (sym (nowhere 0 n k) ∙ e))

pub open_new : (start : ℕ) (found : List Bool) (e : Edge) → is_open start found e ≡ true → is_found found e.to ≡ false
open_new start found e h = not_true (is_found found e.to) (and_parts (e.from == start || is_found found e.from) (not (is_found found e.to)) h).1

pub led_on : (edges : List Edge) (start : ℕ) (found : List Bool) (e : Edge) → ((k : ℕ) → is_found found k ≡ true → Leads edges start k) → is_open start found e ≡ true → Contains edges e → Leads edges start e.to
led_on edges start found e led h c =
    let parts = and_parts (e.from == start || is_found found e.from) (not (is_found found e.to)) h in
    elim (or_cases (e.from == start) (is_found found e.from) parts.0) [
      | inl t ↦ subst (λ s. Leads edges s e.to) (eqb-true e.from start t) (Leads.step e c)
      | inr t ↦ Leads.onward start e.from e.to (led e.from t) (Leads.step e c)
    ]

pub closed_on : (start : ℕ) (found : List Bool) (e : Edge) → is_open start found e ≡ false → (e.from == start || is_found found e.from) ≡ true → is_found found e.to ≡ true
closed_on start found e h t =
    elim (cases_Bool (is_found found e.to)) [
      | inl y ↦ y
      | inr n ↦ absurd (false≢true (sym h ∙ (ap (λ b. b && not (is_found found e.to)) t ∙ ap not n)))
    ]

-- whatever is led to from the start is found
pub found_along : (edges : List Edge) (start : ℕ) (found : List Bool) → list_any (is_open start found) edges ≡ false → (a b : ℕ) → Leads edges a b → (a == start || is_found found a) ≡ true → is_found found b ≡ true
found_along edges start found closed a b (Leads.step e c) h = closed_on start found e (contained_none (is_open start found) edges e closed c) h
found_along edges start found closed a c (Leads.onward a' b c' p q) h =
    found_along edges start found closed b c q (or_right (b == start) (is_found found b) (found_along edges start found closed a b p h))

one : (b : Bool) → cond b 1 0 ≤ 1
one true = omega arith
one false = omega arith

no_more : (a b : Bool) → (a ≡ true → b ≡ true) → cond a 1 0 ≤ cond b 1 0
no_more true b h = rw (h refl) (omega arith)
no_more false true h = omega arith
no_more false false h = omega arith

abbrev Implies : {X : Type 0} → (X → Bool) → (X → Bool) → X → List X → Type 0
Implies p q d xs = (t : ℕ) → t < length xs → p (slice_index_or xs t d) ≡ true → q (slice_index_or xs t d) ≡ true

count_le : {X : Type 0} (p q : X → Bool) (d : X) (xs : List X) → Implies p q d xs → count_by p xs ≤ count_by q xs
count_le p q d [] h = omega arith
count_le p q d (x ∷ xs) h =
    let rest = count_le p q d xs (λ t l. h (suc t) (omega arith)) in
    let here = no_more (p x) (q x) (h 0 (omega arith)) in
    omega (arith, count-cons p x xs, count-cons q x xs)

count_less : {X : Type 0} (p q : X → Bool) (d : X) (xs : List X) (k : ℕ) → Implies p q d xs → k < length xs → p (slice_index_or xs k d) ≡ false → q (slice_index_or xs k d) ≡ true → count_by p xs < count_by q xs
count_less p q d [] k h l no_here yes_here = absurd (omega arith)
count_less p q d (x ∷ xs) zero h l no_here yes_here =
    let rest = count_le p q d xs (λ t l. h (suc t) (omega arith)) in
    let a : cond {A = ℕ} (p x) 1 0 ≡ 0 = ap (λ (b : Bool). cond {A = ℕ} b 1 0) no_here in
    let b : cond {A = ℕ} (q x) 1 0 ≡ 1 = ap (λ (b : Bool). cond {A = ℕ} b 1 0) yes_here in
    omega (arith, count-cons p x xs, count-cons q x xs)
count_less p q d (x ∷ xs) (suc k) h l no_here yes_here =
    let rest = count_less p q d xs k (λ t l. h (suc t) (omega arith)) (omega arith) no_here yes_here in
    let here = no_more (p x) (q x) (h 0 (omega arith)) in
    omega (arith, count-cons p x xs, count-cons q x xs)

module _ (sorts : ℕ) (edges : List Edge) (tables : List (List Bool)) (all : AreTables sorts edges tables) (full : length tables ≡ sorts) where
  rank_below : (s : ℕ) → s < sorts → rank_in tables s < sorts
  rank_below s l =
      let less = count_less (λ found. is_found found s) (λ found. true) [] tables s (λ t l e. refl) (omega arith) (all s (omega arith)).1 refl in
      let most = count_by-le-length (λ (found : List Bool). true) tables in
      omega arith

  rank_rises : (e : Edge) → e.from < sorts → ((t : ℕ) → t < length tables → is_open t (slice_index_or tables t []) e ≡ false) → rank_in tables e.from < rank_in tables e.to
  rank_rises e l closed =
      count_less (λ found. is_found found e.from) (λ found. is_found found e.to) [] tables e.from
      (λ t b y. closed_on t (slice_index_or tables t []) e (closed t b) (or_right (e.from == t) (is_found (slice_index_or tables t []) e.from) y))
      (omega arith) (all e.from (omega arith)).1
      (closed_on e.from (slice_index_or tables e.from []) e (closed e.from (omega arith)) (or_left (e.from == e.from) (is_found (slice_index_or tables e.from []) e.from) (number_same e.from)))

  abbrev ranks_of : List ℕ
  ranks_of = map (rank_in tables) (range_with_len 0 (length tables))

  rank_at : (s : ℕ) → s < sorts → slice_index ranks_of s ≡ rank_in tables s
  rank_at s l = get_or-map-range_with_len (rank_in tables) 0 (length tables) s s 0 (omega arith) (omega arith)

  all_rise : (es : List Edge) → AreWithin sorts es → ((t : ℕ) → t < length tables → list_any (is_open t (slice_index_or tables t [])) es ≡ false) → AllByRecursion (λ (e : Edge). slice_index ranks_of e.from < slice_index ranks_of e.to) es
  all_rise [] h closed = tt
  all_rise (e ∷ es) h closed =
      let up = rank_rises e h.0.0 (λ t l. (or_false (is_open t (slice_index_or tables t []) e) (list_any (is_open t (slice_index_or tables t [])) es) (closed t l)).0) in
      let from = rank_at e.from h.0.0 in
      let to = rank_at e.to h.0.1 in
      (omega arith, all_rise es h.1 (λ t l. (or_false (is_open t (slice_index_or tables t []) e) (list_any (is_open t (slice_index_or tables t [])) es) (closed t l)).1))

  all_below : (from n : ℕ) → from + n ≤ sorts → AllByRecursion (λ r. r < sorts) (map (rank_in tables) (range_with_len from n))
  all_below from zero h = tt
  all_below from (suc n) h = (rank_below from (omega arith), all_below (from + 1) n (omega arith))

  pub are_ranks : AreWithin sorts edges → AreRanks sorts edges (map (rank_in tables) (range_with_len 0 (length tables)))
  are_ranks within = record {
    count = length-map-range_with_len (rank_in tables) 0 (length tables) ∙ full;
    below = all_below 0 (length tables) (omega arith);
    rises = all_rise edges within (λ t l. (all t l).0.closed);
  }

-- the sort that is found from itself, after tables of sorts that are not
pub on_cycle : (sorts : ℕ) (edges : List Edge) (tables : List (List Bool)) (found : List Bool) → AreTables sorts edges tables → AreReached sorts edges (length tables) found → is_found found (length tables) ≡ true → FirstOnCycle edges (length tables)
on_cycle sorts edges tables found all here e = record {
  cycle = here.led (length tables) e;
  first = λ other l leads.
      let t = slice_index_or tables other [] in
      false≢true (sym (all other l).1 ∙ found_along edges other t (all other l).0.closed other other leads (or_left (other == other) (is_found t other) (number_same other)));
}

-- a table more
at_more : {X : Type 0} (xs : List X) (x : X) (t : ℕ) (d : X) → t < length xs → slice_index_or (xs ++ x ∷ []) t d ≡ slice_index_or xs t d
at_more [] x t d l = absurd (omega arith)
at_more (y ∷ xs) x zero d l = refl
at_more (y ∷ xs) x (suc t) d l = at_more xs x t d (omega arith)

at_end : {X : Type 0} (xs : List X) (x d : X) → slice_index_or (xs ++ x ∷ []) (length xs) d ≡ x
at_end [] x d = refl
at_end (y ∷ xs) x d = at_end xs x d

pub more_tables : (sorts : ℕ) (edges : List Edge) (tables : List (List Bool)) (found : List Bool) → AreTables sorts edges tables → AreReached sorts edges (length tables) found → is_found found (length tables) ≡ false → AreTables sorts edges (tables ++ found ∷ [])
more_tables sorts edges tables found all here no_cycle t l =
    let count = length-append tables (found ∷ []) in
    elim (cases_order t (length tables)) [
      | inl e ↦ subst (λ (s : ℕ). AreReached sorts edges s (slice_index_or (tables ++ found ∷ []) s []) × (is_found (slice_index_or (tables ++ found ∷ []) s []) s ≡ false)) (sym e)
          (subst (λ (f : List Bool). AreReached sorts edges (length tables) f × (is_found f (length tables) ≡ false)) (sym (at_end tables found [])) (here, no_cycle))
      | inr o ↦ elim o [
        | inl b ↦ subst (λ (f : List Bool). AreReached sorts edges t f × (is_found f t ≡ false)) (sym (at_more tables found t [] b)) (all t b)
        | inr b ↦ absurd (omega arith)
      ]
    ]
