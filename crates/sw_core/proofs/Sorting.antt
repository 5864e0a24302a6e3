-- Two lists of draws in order with the same elements are one, and so the sorted draws are those of the record.
use Rattle.std.specs.Prelude.{◌≡◌, ◌≢◌, length, take, slice_index_or, nat_lt, ℕ, zero, suc, ◌+◌, ◌<◌, ◌≤◌, ◌==◌, Bool, true, false, cond, List, [], ◌∷◌, ◌++◌, map, replicate}
use Rattle.std.specs.List.{AllByRecursion, flat_map, range_with_len, sum_by}
use Rattle.std.specs.List.Sorted.{IsSorted, IsPermutation}
use Rattle.std.specs.declared.cmp.Ordering.{Ordering}
use Rattle.std.specs.declared.cmp.Ordering.TheVariants.{Less, Equal, Greater}
use Rattle.std.specs.Ordering.{nat_cmp, ordering_then, is_lt}
use Rattle.std.proofs.lemmas.List.Sorted.{sum_by-IsPermutation}
use Rattle.std.proofs.lemmas.List.Sums.{sum_by-cons}
use Rattle.std.proofs.Common.{refl, arith, sym, ap, subst, ◌∙◌, inl, inr, append_assoc, append-nil}
use Rattle.std.proofs.lemmas.Bool.{eq-eqb, ne_eqb, cases_lt, cond-true, cond-false, lt-ltb, le-ltb}
use Rattle.std.proofs.lemmas.List.{map-append, take_all}
use Rattle.sw_logic.specs.Truth.{greatest}
use Rattle.sw_lists.proofs.Each.{each-append, each-weaker}
use Rattle.sw_core.specs.declared.steps.Step.TheVariants as step
use Rattle.sw_core.specs.declared.draws.Drawn.{Drawn}
use Rattle.sw_core.specs.Records.{times, draws_at, draws_of}
use Rattle.sw_core.specs.Draws.{pair, draw_step}
use Rattle.sw_core.proofs.Keeps.{Is, is_or_not}
use Rattle.sw_core.proofs.Drawing.{times-append, at_most_greatest}

-- 1 for equal draws
abbrev pub one_if : Drawn → Drawn → ℕ
one_if d e = cond (d.number == e.number) (cond (d.worker == e.worker) 1 0) 0

abbrev pub count : Drawn → List Drawn → ℕ
count d [] = 0
count d (x ∷ xs) = one_if x d + count d xs

-- by number, and those of one number by worker
pub data Le (d e : Drawn) : Type 0 where
  lower : d.number < e.number → Le d e
  level : d.number ≡ e.number → d.worker ≤ e.worker → Le d e

abbrev pub Up : List Drawn → Type 0
Up [] = Unit {0}
Up (x ∷ xs) = AllByRecursion (Le x) xs × Up xs

same_pair : (d e : Drawn) → d.number ≡ e.number → d.worker ≡ e.worker → d ≡ e
same_pair d e n w = λ i. record { number = n i; worker = w i }

one_of_same : (d : Drawn) → one_if d d ≡ 1
one_of_same d = ap (λ b. cond b (cond (d.worker == d.worker) 1 0) 0) (eq-eqb d.number d.number refl) ∙ ap (λ b. cond b 1 0) (eq-eqb d.worker d.worker refl)

-- two draws are equal, or none of the one is the other
data Same (d e : Drawn) : Type 0 where
  equal : d ≡ e → Same d e
  apart : one_if d e ≡ 0 → Same d e

same_or_not : (d e : Drawn) → Same d e
same_or_not d e = elim (is_or_not d.number e.number) [
  | Is.same n ↦ elim (is_or_not d.worker e.worker) [
    | Is.same w ↦ Same.equal (same_pair d e n w)
    | Is.other nw ↦ Same.apart (ap (λ b. cond (d.number == e.number) (cond b 1 0) 0) (ne_eqb d.worker e.worker nw) ∙ none (d.number == e.number))
  ]
  | Is.other nn ↦ Same.apart (ap (λ b. cond b (cond (d.worker == e.worker) 1 0) 0) (ne_eqb d.number e.number nn))
]
  where
    none : (b : Bool) → cond {A = ℕ} b 0 0 ≡ 0
    none true = refl
    none false = refl

le_same : (d e : Drawn) → d ≡ e → Le d e
le_same d e s = Le.level (ap (λ (x : Drawn). x.number) s) (let w : d.worker ≡ e.worker = ap (λ (x : Drawn). x.worker) s in omega arith)

anti : (d e : Drawn) → Le d e → Le e d → d ≡ e
anti d e (Le.lower a) (Le.lower b) = absurd (omega arith)
anti d e (Le.lower a) (Le.level n w) = absurd (omega arith)
anti d e (Le.level n w) (Le.lower b) = absurd (omega arith)
anti d e (Le.level n w) (Le.level m v) = same_pair d e n (omega arith)

-- the least is before each element
le_of_counted : (x d : Drawn) (ys : List Drawn) → AllByRecursion (Le x) ys → 1 ≤ count d ys → Le x d
le_of_counted x d [] a h = absurd (omega arith)
le_of_counted x d (y ∷ ys) a h = elim (same_or_not y d) [
  | Same.equal s ↦ subst (Le x) s a.0
  | Same.apart z ↦ le_of_counted x d ys a.1 (let k : 1 ≤ count d ys = omega (arith, z, h) in k)
]

head_le : (y d : Drawn) (ys : List Drawn) → Up (y ∷ ys) → 1 ≤ count d (y ∷ ys) → Le y d
head_le y d ys u h = elim (same_or_not y d) [
  | Same.equal s ↦ le_same y d s
  | Same.apart z ↦ le_of_counted y d ys u.0 (let k : 1 ≤ count d ys = omega (arith, z, h) in k)
]

pub one_order : (xs ys : List Drawn) → Up xs → Up ys → ((d : Drawn) → count d xs ≡ count d ys) → xs ≡ ys
one_order [] [] u v e = refl
one_order [] (y ∷ ys) u v e = let k : 0 ≡ one_if y y + count y ys = e y in absurd (omega (arith, one_of_same y))
one_order (x ∷ xs) [] u v e = let k : one_if x x + count x xs ≡ 0 = e x in absurd (omega (arith, one_of_same x))
one_order (x ∷ xs) (y ∷ ys) u v e =
    let hx : 1 ≤ count x (y ∷ ys) = omega (arith, e x, one_of_same x) in
    let hy : 1 ≤ count y (x ∷ xs) = omega (arith, e y, one_of_same y) in
    let same : x ≡ y = anti x y (head_le x y xs u hy) (head_le y x ys v hx) in
    let rest : (d : Drawn) → count d xs ≡ count d ys = λ d. let one : one_if x d ≡ one_if y d = ap (λ z. one_if z d) same in omega (arith, e d) in
    ap (λ z. z ∷ xs) same ∙ ap (λ l. y ∷ l) (one_order xs ys u.1 v.1 rest)

-- the draws of one number, as pairs
abbrev pub pairs_at : ℕ → ℕ → List (List ℕ) → List Drawn
pairs_at n w [] = []
pairs_at n w (numbers ∷ rest) = replicate (times n numbers) (pair n w) ++ pairs_at n (w + 1) rest

abbrev pub pairs_of : ℕ → ℕ → List (List ℕ) → List Drawn
pairs_of a c drawn = flat_map (λ n. pairs_at n 0 drawn) (range_with_len a c)

map_replicate : (n : ℕ) (d : Drawn) → map draw_step (replicate n d) ≡ replicate n (draw_step d)
map_replicate zero d = refl
map_replicate (suc n) d = ap (λ l. draw_step d ∷ l) (map_replicate n d)

draws_at_pairs : (n w : ℕ) (drawn : List (List ℕ)) → map draw_step (pairs_at n w drawn) ≡ draws_at n w drawn
draws_at_pairs n w [] = refl
draws_at_pairs n w (ns ∷ rest) =
    map-append draw_step (replicate (times n ns) (pair n w)) (pairs_at n (w + 1) rest)
    ∙ (ap (λ l. l ++ map draw_step (pairs_at n (w + 1) rest)) (map_replicate (times n ns) (pair n w)) ∙ ap (λ l. replicate (times n ns) (step.Draw w) ++ l) (draws_at_pairs n (w + 1) rest))

pub draws_are_pairs : (a c : ℕ) (drawn : List (List ℕ)) → map draw_step (pairs_of a c drawn) ≡ flat_map (λ n. draws_at n 0 drawn) (range_with_len a c)
draws_are_pairs a zero drawn = refl
draws_are_pairs a (suc c) drawn =
    map-append draw_step (pairs_at a 0 drawn) (pairs_of (a + 1) c drawn)
    ∙ (ap (λ l. l ++ map draw_step (pairs_of (a + 1) c drawn)) (draws_at_pairs a 0 drawn) ∙ ap (λ l. draws_at a 0 drawn ++ l) (draws_are_pairs (a + 1) c drawn))

-- lists in order, one after the other
up-append : (xs ys : List Drawn) → Up xs → Up ys → AllByRecursion (λ x. AllByRecursion (Le x) ys) xs → Up (xs ++ ys)
up-append [] ys u v a = v
up-append (x ∷ xs) ys u v a = (each-append (Le x) xs ys u.0 a.0, up-append xs ys u.1 v a.1)

each_replicate : (P : Drawn → Type 0) (n : ℕ) (d : Drawn) → P d → AllByRecursion P (replicate n d)
each_replicate P zero d p = tt
each_replicate P (suc n) d p = (p, each_replicate P n d p)

up_replicate : (n : ℕ) (d : Drawn) → Up (replicate n d)
up_replicate zero d = tt
up_replicate (suc n) d = (each_replicate (Le d) n d (le_same d d refl), up_replicate n d)

-- all of one number, and of workers from one on
abbrev From : ℕ → ℕ → Drawn → Type 0
From n w d = (d.number ≡ n) × (w ≤ d.worker)

pairs_from : (n w : ℕ) (drawn : List (List ℕ)) → AllByRecursion (From n w) (pairs_at n w drawn)
pairs_from n w [] = tt
pairs_from n w (ns ∷ rest) =
    each-append (From n w) (replicate (times n ns) (pair n w)) (pairs_at n (w + 1) rest) (each_replicate (From n w) (times n ns) (pair n w) (refl, omega arith))
    (each-weaker (From n (w + 1)) (From n w) (λ d h. (h.0, omega (arith, h.1))) (pairs_at n (w + 1) rest) (pairs_from n (w + 1) rest))

up_pairs_at : (n w : ℕ) (drawn : List (List ℕ)) → Up (pairs_at n w drawn)
up_pairs_at n w [] = tt
up_pairs_at n w (ns ∷ rest) =
    up-append (replicate (times n ns) (pair n w)) (pairs_at n (w + 1) rest) (up_replicate (times n ns) (pair n w)) (up_pairs_at n (w + 1) rest)
    (each_replicate (λ x. AllByRecursion (Le x) (pairs_at n (w + 1) rest)) (times n ns) (pair n w)
    (each-weaker (From n (w + 1)) (Le (pair n w)) (λ d h. Le.level (sym h.0) (omega (arith, h.1))) (pairs_at n (w + 1) rest) (pairs_from n (w + 1) rest)))

above : (a c : ℕ) (drawn : List (List ℕ)) → AllByRecursion (λ (d : Drawn). a ≤ d.number) (pairs_of a c drawn)
above a zero drawn = tt
above a (suc c) drawn =
    each-append (λ (d : Drawn). a ≤ d.number) (pairs_at a 0 drawn) (pairs_of (a + 1) c drawn)
    (each-weaker (From a 0) (λ (d : Drawn). a ≤ d.number) (λ d h. omega (arith, h.0)) (pairs_at a 0 drawn) (pairs_from a 0 drawn))
    (each-weaker (λ (d : Drawn). a + 1 ≤ d.number) (λ (d : Drawn). a ≤ d.number) (λ d h. omega arith) (pairs_of (a + 1) c drawn) (above (a + 1) c drawn))

pub up_pairs : (a c : ℕ) (drawn : List (List ℕ)) → Up (pairs_of a c drawn)
up_pairs a zero drawn = tt
up_pairs a (suc c) drawn =
    up-append (pairs_at a 0 drawn) (pairs_of (a + 1) c drawn) (up_pairs_at a 0 drawn) (up_pairs (a + 1) c drawn)
    (each-weaker (From a 0) (λ x. AllByRecursion (Le x) (pairs_of (a + 1) c drawn))
    (λ x h. each-weaker (λ (d : Drawn). a + 1 ≤ d.number) (Le x) (λ d k. Le.lower (omega (arith, h.0))) (pairs_of (a + 1) c drawn) (above (a + 1) c drawn)) (pairs_at a 0 drawn) (pairs_from a 0 drawn))

-- how often a draw is in the lists, by worker from one on
abbrev pub drawn_by : Drawn → ℕ → List (List ℕ) → ℕ
drawn_by d w [] = 0
drawn_by d w (ns ∷ rest) = cond (w == d.worker) (times d.number ns) 0 + drawn_by d (w + 1) rest

pub count-append : (d : Drawn) (xs ys : List Drawn) → count d (xs ++ ys) ≡ count d xs + count d ys
count-append d [] ys = omega arith
count-append d (x ∷ xs) ys = let h : count d (xs ++ ys) ≡ count d xs + count d ys = count-append d xs ys in omega arith

count_replicate : (d : Drawn) (k n w : ℕ) → count d (replicate k (pair n w)) ≡ cond (n == d.number) (cond (w == d.worker) k 0) 0
count_replicate d zero n w = none (n == d.number) (w == d.worker)
  where
    none : (a b : Bool) → 0 ≡ cond {A = ℕ} a (cond b 0 0) 0
    none true true = refl
    none true false = refl
    none false b = refl
count_replicate d (suc k) n w = more (n == d.number) (w == d.worker) (count d (replicate k (pair n w))) (count_replicate d k n w)
  where
    more : (a b : Bool) (r : ℕ) → r ≡ cond a (cond b k 0) 0 → cond a (cond b 1 0) 0 + r ≡ cond a (cond b (suc k) 0) 0
    more true true r e = omega arith
    more true false r e = omega arith
    more false b r e = omega arith

count_at : (d : Drawn) (n w : ℕ) (drawn : List (List ℕ)) → count d (pairs_at n w drawn) ≡ cond (n == d.number) (drawn_by d w drawn) 0
count_at d n w [] = none (n == d.number)
  where
    none : (a : Bool) → 0 ≡ cond {A = ℕ} a 0 0
    none true = refl
    none false = refl
count_at d n w (ns ∷ rest) = elim (is_or_not n d.number) [
  | Is.same e ↦
      let yes_is : (n == d.number) ≡ true = eq-eqb n d.number e in
      let first : count d (replicate (times n ns) (pair n w)) ≡ cond (w == d.worker) (times d.number ns) 0 =
      count_replicate d (times n ns) n w ∙ (ap (λ b. cond b (cond (w == d.worker) (times n ns) 0) 0) yes_is ∙ ap (λ k. cond (w == d.worker) (times k ns) 0) e) in
      let later : count d (pairs_at n (w + 1) rest) ≡ drawn_by d (w + 1) rest = count_at d n (w + 1) rest ∙ ap (λ b. cond b (drawn_by d (w + 1) rest) 0) yes_is in
      let sum : count d (pairs_at n w (ns ∷ rest)) ≡ drawn_by d w (ns ∷ rest) = count-append d (replicate (times n ns) (pair n w)) (pairs_at n (w + 1) rest) ∙ (ap (λ k. k + count d (pairs_at n (w + 1) rest)) first ∙ ap (λ k. cond (w == d.worker) (times d.number ns) 0 + k) later) in
      sum ∙ ap (λ b. cond b (drawn_by d w (ns ∷ rest)) 0) (sym yes_is)
  | Is.other ne ↦
      let no_is : (n == d.number) ≡ false = ne_eqb n d.number ne in
      let first : count d (replicate (times n ns) (pair n w)) ≡ 0 = count_replicate d (times n ns) n w ∙ ap (λ b. cond b (cond (w == d.worker) (times n ns) 0) 0) no_is in
      let later : count d (pairs_at n (w + 1) rest) ≡ 0 = count_at d n (w + 1) rest ∙ ap (λ b. cond b (drawn_by d (w + 1) rest) 0) no_is in
      let sum : count d (pairs_at n w (ns ∷ rest)) ≡ 0 = count-append d (replicate (times n ns) (pair n w)) (pairs_at n (w + 1) rest) ∙ omega arith in
      sum ∙ ap (λ b. cond b (drawn_by d w (ns ∷ rest)) 0) (sym no_is)
]

count_below : (d : Drawn) (a c : ℕ) (drawn : List (List ℕ)) → d.number < a → count d (pairs_of a c drawn) ≡ 0
count_below d a zero drawn lt = refl
count_below d a (suc c) drawn lt =
    let ne : a ≢ d.number = λ e. omega arith in
    let here : count d (pairs_at a 0 drawn) ≡ 0 = count_at d a 0 drawn ∙ ap (λ b. cond b (drawn_by d 0 drawn) 0) (ne_eqb a d.number ne) in
    let later : count d (pairs_of (a + 1) c drawn) ≡ 0 = count_below d (a + 1) c drawn (omega arith) in
    count-append d (pairs_at a 0 drawn) (pairs_of (a + 1) c drawn) ∙ omega arith

pub count_pairs : (d : Drawn) (a c : ℕ) (drawn : List (List ℕ)) → a ≤ d.number → (a + c ≤ d.number → drawn_by d 0 drawn ≡ 0) → count d (pairs_of a c drawn) ≡ drawn_by d 0 drawn
count_pairs d a zero drawn le h = sym (h (omega arith))
count_pairs d a (suc c) drawn le h = elim (is_or_not a d.number) [
  | Is.same e ↦
      let here : count d (pairs_at a 0 drawn) ≡ drawn_by d 0 drawn = count_at d a 0 drawn ∙ ap (λ b. cond b (drawn_by d 0 drawn) 0) (eq-eqb a d.number e) in
      let later : count d (pairs_of (a + 1) c drawn) ≡ 0 = count_below d (a + 1) c drawn (omega arith) in
      count-append d (pairs_at a 0 drawn) (pairs_of (a + 1) c drawn) ∙ omega arith
  | Is.other ne ↦
      let here : count d (pairs_at a 0 drawn) ≡ 0 = count_at d a 0 drawn ∙ ap (λ b. cond b (drawn_by d 0 drawn) 0) (ne_eqb a d.number ne) in
      let later : count d (pairs_of (a + 1) c drawn) ≡ drawn_by d 0 drawn = count_pairs d (a + 1) c drawn (omega arith) (λ k. h (omega arith)) in
      count-append d (pairs_at a 0 drawn) (pairs_of (a + 1) c drawn) ∙ omega arith
]

-- past the greatest number nothing is drawn
drawn_by_within : (d : Drawn) (w : ℕ) (drawn : List (List ℕ)) → drawn_by d w drawn ≤ times d.number (flat_map (λ ns. ns) drawn)
drawn_by_within d w [] = omega arith
drawn_by_within d w (ns ∷ rest) =
    let later : drawn_by d (w + 1) rest ≤ times d.number (flat_map (λ ns. ns) rest) = drawn_by_within d (w + 1) rest in
    let sum : times d.number (ns ++ flat_map (λ ns. ns) rest) ≡ times d.number ns + times d.number (flat_map (λ ns. ns) rest) = times-append d.number ns (flat_map (λ ns. ns) rest) in
    let first : cond (w == d.worker) (times d.number ns) 0 ≤ times d.number ns = at_most (w == d.worker) (times d.number ns) in
    omega arith
  where
    at_most : (b : Bool) (n : ℕ) → cond b n 0 ≤ n
    at_most true n = omega arith
    at_most false n = omega arith

none_past : (d : Drawn) (drawn : List (List ℕ)) (k : ℕ) → drawn_by d 0 drawn ≡ k → greatest (flat_map (λ ns. ns) drawn) + 1 ≤ d.number → k ≡ 0
none_past d drawn zero e le = refl
none_past d drawn (suc k) e le =
    let some : 1 ≤ times d.number (flat_map (λ ns. ns) drawn) = omega (arith, drawn_by_within d 0 drawn) in
    let most : d.number ≤ greatest (flat_map (λ ns. ns) drawn) = at_most_greatest d.number (flat_map (λ ns. ns) drawn) some in
    absurd (omega arith)

-- any list in order that has each draw as often as the lists is that of the record
pub sorted_draws : (drawn : List (List ℕ)) (xs : List Drawn) → Up xs → ((d : Drawn) → count d xs ≡ drawn_by d 0 drawn) → map draw_step xs ≡ draws_of drawn
sorted_draws drawn xs u e =
    let c : ℕ = greatest (flat_map (λ ns. ns) drawn) + 1 in
    let same : xs ≡ pairs_of 0 c drawn =
    one_order xs (pairs_of 0 c drawn) u (up_pairs 0 c drawn) (λ d. e d ∙ sym (count_pairs d 0 c drawn (omega arith) (λ le. none_past d drawn (drawn_by d 0 drawn) refl (omega arith)))) in
    ap (map draw_step) same ∙ draws_are_pairs 0 c drawn

-- the draws as the workers' lists have them
abbrev pub raw : ℕ → List (List ℕ) → List Drawn
raw w [] = []
raw w (ns ∷ rest) = map (λ n. pair n w) ns ++ raw (w + 1) rest

pub raw_more : (w i : ℕ) (drawn : List (List ℕ)) (ns : List ℕ) → i < length drawn → ns ≡ slice_index_or drawn i ns → raw w (take i drawn) ++ map (λ n. pair n (w + i)) ns ≡ raw w (take (suc i) drawn)
raw_more w i [] ns lt e = absurd (omega arith)
raw_more w zero (ms ∷ rest) ns lt e =
    let k : w + 0 ≡ w = omega arith in
    ap (λ v. map (λ n. pair n v) ns) k ∙ (ap (map (λ n. pair n w)) e ∙ sym (append-nil (map (λ n. pair n w) ms)))
raw_more w (suc i) (ms ∷ rest) ns lt e =
    let k : w + suc i ≡ (w + 1) + i = omega arith in
    append_assoc (map (λ n. pair n w) ms) (raw (w + 1) (take i rest)) (map (λ n. pair n (w + suc i)) ns)
    ∙ (ap (λ v. map (λ n. pair n w) ms ++ (raw (w + 1) (take i rest) ++ map (λ n. pair n v) ns)) k
    ∙ ap (λ l. map (λ n. pair n w) ms ++ l) (raw_more (w + 1) i rest ns (omega arith) e))

count_map : (d : Drawn) (w : ℕ) (ns : List ℕ) → count d (map (λ n. pair n w) ns) ≡ cond (w == d.worker) (times d.number ns) 0
count_map d w [] = none (w == d.worker)
  where
    none : (a : Bool) → 0 ≡ cond {A = ℕ} a 0 0
    none true = refl
    none false = refl
count_map d w (n ∷ ns) = more (n == d.number) (w == d.worker) (count d (map (λ n. pair n w) ns)) (times d.number ns) (count_map d w ns)
  where
    more : (a b : Bool) (r k : ℕ) → r ≡ cond b k 0 → cond a (cond b 1 0) 0 + r ≡ cond b (cond a 1 0 + k) 0
    more true true r k e = omega arith
    more true false r k e = omega arith
    more false true r k e = omega arith
    more false false r k e = omega arith

count_raw : (d : Drawn) (w : ℕ) (drawn : List (List ℕ)) → count d (raw w drawn) ≡ drawn_by d w drawn
count_raw d w [] = refl
count_raw d w (ns ∷ rest) =
    count-append d (map (λ n. pair n w) ns) (raw (w + 1) rest) ∙ (ap (λ k. k + count d (raw (w + 1) rest)) (count_map d w ns) ∙ ap (λ k. cond (w == d.worker) (times d.number ns) 0 + k) (count_raw d (w + 1) rest))

-- what a sort keeps
count_sum : (d : Drawn) (xs : List Drawn) → count d xs ≡ sum_by (λ x. one_if x d) xs
count_sum d [] = refl
count_sum d (x ∷ xs) = ap (λ k. one_if x d + k) (count_sum d xs) ∙ sym (sum_by-cons (λ x. one_if x d) x xs)

-- what a sort ensures of neighbours
lt_cmp : (x y : ℕ) → x < y → nat_cmp x y ≡ Less
lt_cmp x y lt = cond-true (nat_lt x y) Less (cond (x == y) Equal Greater) (lt-ltb x y lt)

eq_cmp : (x y : ℕ) → x ≡ y → nat_cmp x y ≡ Equal
eq_cmp x y e = cond-false (nat_lt x y) Less (cond (x == y) Equal Greater) (le-ltb x y (omega arith)) ∙ cond-true (x == y) Equal Greater (eq-eqb x y e)

no_true : {P : Type 0} → true ≡ false → P
no_true k = cc

level_of : (x y : ℕ) → is_lt (nat_cmp x y) ≡ false → y ≤ x
level_of x y h = elim (cases_lt x y) [
  | inl lt ↦ no_true (sym (ap is_lt (lt_cmp x y lt)) ∙ h)
  | inr le ↦ le
]

le_of_cmp : (d e : Drawn) → is_lt (ordering_then (nat_cmp e.number d.number) (nat_cmp e.worker d.worker)) ≡ false → Le d e
le_of_cmp d e h = elim (cases_lt d.number e.number) [
  | inl lt ↦ Le.lower lt
  | inr ge ↦ elim (is_or_not d.number e.number) [
    | Is.same n ↦ Le.level n (level_of e.worker d.worker (sym (ap (λ o. is_lt (ordering_then o (nat_cmp e.worker d.worker))) (eq_cmp e.number d.number (sym n))) ∙ h))
    | Is.other ne ↦ let lt : e.number < d.number = omega arith in no_true (sym (ap (λ o. is_lt (ordering_then o (nat_cmp e.worker d.worker))) (lt_cmp e.number d.number lt)) ∙ h)
  ]
]

le_trans : (d e f : Drawn) → Le d e → Le e f → Le d f
le_trans d e f (Le.lower a) (Le.lower b) = Le.lower (omega arith)
le_trans d e f (Le.lower a) (Le.level n w) = Le.lower (omega arith)
le_trans d e f (Le.level n w) (Le.lower b) = Le.lower (omega arith)
le_trans d e f (Le.level n w) (Le.level m v) = Le.level (n ∙ m) (omega arith)

up_of_neighbours : (xs : List Drawn) → ((k : ℕ) (d : Drawn) → k + 1 < length xs → Le (slice_index_or xs k d) (slice_index_or xs (suc k) d)) → Up xs
up_of_neighbours [] h = tt
up_of_neighbours (x ∷ []) h = (tt, tt)
up_of_neighbours (x ∷ y ∷ rest) h =
    let u : Up (y ∷ rest) = up_of_neighbours (y ∷ rest) (λ k d lt. h (suc k) d (omega arith)) in
    let first : Le x y = h zero x (omega arith) in
    ((first, each-weaker (Le y) (Le x) (λ z b. le_trans x y z first b) rest u.0), u)

up_of_sorted : (cmp : Drawn → Drawn → Ordering) → ((d e : Drawn) → cmp d e ≡ ordering_then (nat_cmp d.number e.number) (nat_cmp d.worker e.worker)) → (xs : List Drawn) → IsSorted cmp xs → Up xs
up_of_sorted cmp is xs s =
    up_of_neighbours xs (λ k d lt.
    let next : is_lt (cmp (slice_index_or xs (k + 1) d) (slice_index_or xs k d)) ≡ false = s k d (omega arith) lt in
    let plus : k + 1 ≡ suc k = omega arith in
    le_of_cmp (slice_index_or xs k d) (slice_index_or xs (suc k) d)
    (sym (ap is_lt (is (slice_index_or xs (suc k) d) (slice_index_or xs k d))) ∙ subst (λ j. is_lt (cmp (slice_index_or xs j d) (slice_index_or xs k d)) ≡ false) plus next))

pub draws_sorted : (cmp : Drawn → Drawn → Ordering) → ((d e : Drawn) → cmp d e ≡ ordering_then (nat_cmp d.number e.number) (nat_cmp d.worker e.worker)) → (drawn : List (List ℕ)) (xs ys : List Drawn)
    → xs ≡ raw 0 drawn → IsPermutation xs ys → IsSorted cmp ys → map draw_step ys ≡ draws_of drawn
draws_sorted cmp is drawn xs ys e moved sorted =
    sorted_draws drawn ys (up_of_sorted cmp is ys sorted)
    (λ d. count_sum d ys ∙ (sum_by-IsPermutation (λ x. one_if x d) xs ys moved ∙ (sym (count_sum d xs) ∙ (ap (count d) e ∙ count_raw d 0 drawn))))

-- one worker's numbers more
pub raw_next : (i : ℕ) (drawn : List (List ℕ)) (ns ms : List ℕ) (xs ys : List Drawn) → i < length drawn → ns ≡ slice_index_or drawn i ns → ms ≡ ns → xs ≡ raw 0 (take i drawn) → ys ≡ xs ++ map (λ n. pair n i) ms
    → ys ≡ raw 0 (take (i + 1) drawn)
raw_next i drawn ns ms xs ys lt at same e grown =
    let k : i ≡ 0 + i = omega arith in
    let j : suc i ≡ i + 1 = omega arith in
    grown
    ∙ (ap (λ l. l ++ map (λ n. pair n i) ms) e
    ∙ (ap (λ l. raw 0 (take i drawn) ++ map (λ n. pair n i) l) same
    ∙ (ap (λ v. raw 0 (take i drawn) ++ map (λ n. pair n v) ns) k
    ∙ (raw_more 0 i drawn ns lt at ∙ ap (λ v. raw 0 (take v drawn)) j))))

pub raw_all : (n : ℕ) (drawn : List (List ℕ)) (xs : List Drawn) → length drawn ≤ n → xs ≡ raw 0 (take n drawn) → xs ≡ raw 0 drawn
raw_all n drawn xs le e = e ∙ ap (raw 0) (take_all n drawn le)
