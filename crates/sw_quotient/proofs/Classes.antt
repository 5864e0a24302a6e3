-- Equal terms have one class, and each class is that of a term.
use Rattle.std.specs.Prelude.{◌≡◌, ℕ, zero, suc, ◌+◌, ◌<◌, ◌≤◌, ◌↔◌, ◌⊎◌, not, Bool, true, false, List, [], ◌∷◌, ◌++◌, map, length}
use Rattle.std.specs.List.{filter, range_with_len, position_or_len}
use Rattle.std.proofs.Common.{arith, refl, sym, subst, ap, ◌∙◌, get_or, inl, inr, cond, zero-add}
use Rattle.std.proofs.lemmas.List.FromFn.{filter_of_map_range_with_len_more}
use Rattle.std.proofs.lemmas.Bool.{cases_Bool, cases_lt, false≢true, false_from_ne_true, or_cases, or_right}
use Rattle.sw_logic.specs.Truth.{any_below, size_of}
use Rattle.sw_truth.specs.declared.sets.SkolemSet.{SkolemSet}
use Rattle.sw_truth.specs.declared.instances.Instance.TheVariants.{Reflexive, Symmetric, Transitive}
use Rattle.sw_universe.specs.declared.universe.Universe.{Universe}
use Rattle.sw_universe.specs.ByNumber.{counts}
use Rattle.sw_quotient.specs.Valuations.{Valuation}
use Rattle.sw_quotient.specs.Truths.{AreEqualitiesTrue}
use Rattle.sw_quotient.specs.Classes.{is_least, leasts}

-- the first place that passes, in plain words
position_here : (p : ℕ → Bool) (x : ℕ) (xs : List ℕ) → p x ≡ true → position_or_len p (x ∷ xs) ≡ 0
position_here p x xs e = rw e refl

position_later : (p : ℕ → Bool) (x : ℕ) (xs : List ℕ) → p x ≡ false → position_or_len p (x ∷ xs) ≡ suc (position_or_len p xs)
position_later p x xs e = rw e (omega arith)

-- one that passes and before which none does is the first
pub first_is : (p : ℕ → Bool) (xs : List ℕ) (k : ℕ) → k < length xs → p (get_or xs k 0) ≡ true → ((j : ℕ) → j < k → p (get_or xs j 0) ≡ false) → position_or_len p xs ≡ k
first_is p [] k h e f = absurd (omega arith)
first_is p (x ∷ xs) zero h e f = position_here p x xs e
first_is p (x ∷ xs) (suc k) h e f =
    position_later p x xs (f 0 (omega arith)) ∙ ap suc (first_is p xs k (omega arith) e (λ j g. f (suc j) (omega arith)))

-- where one passes, so does the one at the first place
record IsFirst (p : ℕ → Bool) (xs : List ℕ) : Type 0 where
  within : position_or_len p xs < length xs
  passes : p (get_or xs (position_or_len p xs) 0) ≡ true

here_first : (p : ℕ → Bool) (x : ℕ) (xs : List ℕ) → p x ≡ true → IsFirst p (x ∷ xs)
here_first p x xs e = let at = position_here p x xs e in record { within = rw at (omega arith); passes = rw at e }

later_first : (p : ℕ → Bool) (x : ℕ) (xs : List ℕ) → p x ≡ false → IsFirst p xs → IsFirst p (x ∷ xs)
later_first p x xs e f = let at = position_later p x xs e in record { within = rw at (omega (arith, f.within)); passes = rw at f.passes }

first_passes : (p : ℕ → Bool) (xs : List ℕ) (k : ℕ) → k < length xs → p (get_or xs k 0) ≡ true → IsFirst p xs
first_passes p [] k h e = absurd (omega arith)
first_passes p (x ∷ xs) zero h e = here_first p x xs e
first_passes p (x ∷ xs) (suc k) h e =
    elim (cases_Bool (p x)) [
      | inl passes ↦ here_first p x xs passes
      | inr fails ↦ later_first p x xs fails (first_passes p xs k (omega arith) e)
    ]

position_agrees : (p q : ℕ → Bool) (xs : List ℕ) → ((k : ℕ) → k < length xs → p (get_or xs k 0) ≡ q (get_or xs k 0)) → position_or_len p xs ≡ position_or_len q xs
position_agrees p q [] f = refl
position_agrees p q (x ∷ xs) f =
    let here : p x ≡ q x = f 0 (omega arith) in
    let rest = position_agrees p q xs (λ k h. f (suc k) (omega arith)) in
    elim (cases_Bool (q x)) [
      | inl passes ↦ position_here p x xs (here ∙ passes) ∙ sym (position_here q x xs passes)
      | inr fails ↦ position_later p x xs (here ∙ fails) ∙ ap suc rest ∙ sym (position_later q x xs fails)
    ]

-- the numbers from one on that pass, in order
record IsKept (p : ℕ → Bool) (from to x : ℕ) : Type 0 where
  above : from ≤ x
  below : x < to
  passes : p x ≡ true

wider : (p : ℕ → Bool) (n a x : ℕ) → IsKept p (a + 1) ((a + 1) + n) x → IsKept p a (a + suc n) x
wider p n a x i = record { above = omega (arith, i.above); below = omega (arith, i.below); passes = i.passes }

kept_by : (p : ℕ → Bool) (n a : ℕ) (xs : List ℕ) → ((k : ℕ) → k < length xs → IsKept p (a + 1) ((a + 1) + n) (get_or xs k 0))
    → (b : Bool) → p a ≡ b → (k : ℕ) → k < length (cond b (a ∷ xs) xs) → IsKept p a (a + suc n) (get_or (cond b (a ∷ xs) xs) k 0)
kept_by p n a xs f true e zero h = record { above = omega arith; below = omega arith; passes = e }
kept_by p n a xs f true e (suc k) h = wider p n a (get_or xs k 0) (f k (omega arith))
kept_by p n a xs f false e k h = wider p n a (get_or xs k 0) (f k h)

kept : (p : ℕ → Bool) (n a k : ℕ) → k < length (filter p (range_with_len a n)) → IsKept p a (a + n) (get_or (filter p (range_with_len a n)) k 0)
kept p zero a k h = absurd (omega arith)
kept p (suc n) a k h = kept_by p n a (filter p (range_with_len (a + 1) n)) (kept p n (a + 1)) (p a) refl k h

rising_by : (a : ℕ) (xs : List ℕ) → ((k : ℕ) → k < length xs → a < get_or xs k 0) → ((j k : ℕ) → j < k → k < length xs → get_or xs j 0 < get_or xs k 0)
    → (b : Bool) (j k : ℕ) → j < k → k < length (cond b (a ∷ xs) xs) → get_or (cond b (a ∷ xs) xs) j 0 < get_or (cond b (a ∷ xs) xs) k 0
rising_by a xs f g true j zero h l = absurd (omega arith)
rising_by a xs f g true zero (suc k) h l = f k (omega arith)
rising_by a xs f g true (suc j) (suc k) h l = g j k (omega arith) (omega arith)
rising_by a xs f g false j k h l = g j k h l

rising : (p : ℕ → Bool) (n a j k : ℕ) → j < k → k < length (filter p (range_with_len a n)) → get_or (filter p (range_with_len a n)) j 0 < get_or (filter p (range_with_len a n)) k 0
rising p zero a j k h l = absurd (omega arith)
rising p (suc n) a j k h l =
    let xs = filter p (range_with_len (a + 1) n) in
    rising_by a xs (λ i g. let in_range = kept p n (a + 1) i g in omega (arith, in_range.above)) (rising p n (a + 1)) (p a) j k h l

-- a number that is kept has a place
record IsPlaced (xs : List ℕ) (x : ℕ) : Type 0 where
  place : ℕ
  within : place < length xs
  is : get_or xs place 0 ≡ x

placed_by : (p : ℕ → Bool) (a x : ℕ) (xs : List ℕ) → p x ≡ true → (x ≡ a) ⊎ IsPlaced xs x → (b : Bool) → p a ≡ b → IsPlaced (cond b (a ∷ xs) xs) x
placed_by p a x xs e (inl same) true f = record { place = 0; within = omega arith; is = sym same }
placed_by p a x xs e (inl same) false f = absurd (false≢true (sym f ∙ ap p (sym same) ∙ e))
placed_by p a x xs e (inr i) true f = record { place = suc i.place; within = omega (arith, i.within); is = i.is }
placed_by p a x xs e (inr i) false f = i

placed : (p : ℕ → Bool) (n a x : ℕ) → p x ≡ true → a ≤ x → x < a + n → IsPlaced (filter p (range_with_len a n)) x
placed p zero a x e h l = absurd (omega arith)
placed p (suc n) a x e h l =
    let xs = filter p (range_with_len (a + 1) n) in
    let where_is : (x ≡ a) ⊎ IsPlaced xs x = elim (cases_lt a x) [
      | inl past ↦ inr (placed p n (a + 1) x e (omega arith) (omega arith))
      | inr here ↦ inl (omega arith)
    ] in
    placed_by p a x xs e where_is (p a) refl

-- an equality of the terms below a number
pub record IsEquality (count : ℕ) (equal : ℕ → ℕ → Bool) : Type 0 where
  pub reflexive : (t : ℕ) → t < count → equal t t ≡ true
  pub symmetric : (t u : ℕ) → t < count → u < count → equal t u ≡ true → equal u t ≡ true
  pub transitive : (t u w : ℕ) → t < count → u < count → w < count → equal t u ≡ true → equal u w ≡ true → equal t w ≡ true

some_below : (n : ℕ) (p : ℕ → Bool) → any_below n p ≡ true → (k : ℕ) × (k < n) × (p k ≡ true)
some_below zero p e = absurd (false≢true e)
some_below (suc n) p e =
    elim (or_cases (any_below n p) (p n) e) [ inl h ↦ let s = some_below n p h in (s.0, omega arith, s.2) | inr h ↦ (n, omega arith, h) ]

pub any_below_at : (n : ℕ) (p : ℕ → Bool) (k : ℕ) → k < n → p k ≡ true → any_below n p ≡ true
any_below_at zero p k h e = absurd (omega arith)
any_below_at (suc n) p k h e =
    elim (cases_lt k n) [
      | inl below ↦ rw (any_below_at n p k below e) refl
      | inr past ↦ let same : k ≡ n = omega arith in or_right (any_below n p) (p n) (subst (λ i. p i ≡ true) same e)
    ]

module _ (v : Valuation) (sort count : ℕ) (e : IsEquality count (v.equal sort)) where
  -- a least term that equals this one
  record HasLeast (t : ℕ) : Type 0 where
    least : ℕ
    below : least ≤ t
    is : is_least v sort least ≡ true
    equals : v.equal sort least t ≡ true

  has_least : (fuel t : ℕ) → t < fuel → t < count → HasLeast t
  has_least zero t h l = absurd (omega arith)
  has_least (suc fuel) t h l =
      elim (cases_Bool (any_below t (λ u. v.equal sort u t))) [
        | inl some ↦
            let lesser = some_below t (λ u. v.equal sort u t) some in
            let r = has_least fuel lesser.0 (omega (arith, lesser.1)) (omega (arith, lesser.1)) in
            record {
              least = r.least;
              below = omega (arith, lesser.1, r.below);
              is = r.is;
              equals = e.transitive r.least lesser.0 t (omega (arith, lesser.1, r.below)) (omega (arith, lesser.1)) l r.equals lesser.2;
            }
        | inr none ↦ record { least = t; below = omega arith; is = ap not none; equals = e.reflexive t l }
      ]

  abbrev all : List ℕ
  all = leasts v sort count

  abbrev class : ℕ → ℕ
  class t = position_or_len (λ l. v.equal sort l t) all

  pub below_count : (k : ℕ) → k < length all → get_or all k 0 < count
  below_count k h = let i = kept (is_least v sort) count 0 k h in omega (arith, i.below)

  in_class : (t : ℕ) → t < count → IsFirst (λ l. v.equal sort l t) all
  in_class t h =
      let r = has_least (suc t) t (omega arith) h in
      let at = placed (is_least v sort) count 0 r.least r.is (omega arith) (omega (arith, r.below)) in
      first_passes (λ l. v.equal sort l t) all at.place at.within (subst (λ x. v.equal sort x t ≡ true) (sym at.is) r.equals)

  pub class-below : (t : ℕ) → t < count → class t < length all
  class-below t h = let i = in_class t h in i.within

  same-class : (t u : ℕ) → t < count → u < count → v.equal sort t u ≡ true → class t ≡ class u
  same-class t u h l same =
      position_agrees (λ x. v.equal sort x t) (λ x. v.equal sort x u) all
      (λ k g. let x = get_or all k 0 in
      let low = below_count k g in
      both_or_none (v.equal sort x t) (v.equal sort x u) (λ f. e.transitive x t u low h l f same) (λ f. e.transitive x u t low l h f (e.symmetric t u h l same)))
    where
      both_or_none : (a b : Bool) → (a ≡ true → b ≡ true) → (b ≡ true → a ≡ true) → a ≡ b
      both_or_none true b f g = sym (f refl)
      both_or_none false true f g = g refl
      both_or_none false false f g = refl

  class-same : (t u : ℕ) → t < count → u < count → class t ≡ class u → v.equal sort t u ≡ true
  class-same t u h l same =
      let a = in_class t h in
      let b = in_class u l in
      let x = get_or all (class t) 0 in
      let low = below_count (class t) a.within in
      let other : v.equal sort x u ≡ true = subst (λ k. v.equal sort (get_or all k 0) u ≡ true) (sym same) b.passes in
      e.transitive t x u h low l (e.symmetric x t low h a.passes) other

  pub class-equal : (t u : ℕ) → t < count → u < count → (v.equal sort t u ≡ true) ↔ (class t ≡ class u)
  class-equal t u h l = (same-class t u h l, class-same t u h l)

  -- each class is that of its least term
  pub class-onto : (c : ℕ) → c < length all → class (get_or all c 0) ≡ c
  class-onto c h =
      let x = get_or all c 0 in
      let i = kept (is_least v sort) count 0 c h in
      first_is (λ l. v.equal sort l x) all c h (e.reflexive x (below_count c h))
      (λ j g. false_from_ne_true (v.equal sort (get_or all j 0) x)
      (λ f. let found = any_below_at x (λ u. v.equal sort u x) (get_or all j 0) (rising (is_least v sort) count 0 j c g h) f in
      false≢true (sym (ap not found) ∙ i.passes)))

pub equality_of : (set : SkolemSet) (u : Universe) (firsts : List ℕ) (v : Valuation) → AreEqualitiesTrue set u firsts v → (sort : ℕ) → IsEquality (size_of (counts u) sort) (v.equal sort)
equality_of set u firsts v true_of sort = record {
  reflexive = λ t h. true_of (Reflexive sort t) tt h;
  symmetric = λ t w h l. true_of (Symmetric sort t w) tt (h, l);
  transitive = λ t w x h l g. true_of (Transitive sort t w x) tt (h, l, g);
}

pub none_is : (p : ℕ → Bool) (xs : List ℕ) → ((j : ℕ) → j < length xs → p (get_or xs j 0) ≡ false) → position_or_len p xs ≡ length xs
none_is p [] f = refl
none_is p (x ∷ xs) f = position_later p x xs (f 0 (omega arith)) ∙ ap suc (none_is p xs (λ j h. f (suc j) (omega arith)))

map_itself : (xs : List ℕ) → map (λ (x : ℕ). x) xs ≡ xs
map_itself [] = refl
map_itself (x ∷ xs) = ap (λ ys. x ∷ ys) (map_itself xs)

-- one term more
pub leasts_more : (v : Valuation) (sort t : ℕ) (b : Bool) → is_least v sort t ≡ b → leasts v sort (t + 1) ≡ leasts v sort t ++ cond b (t ∷ []) []
leasts_more v sort t b e =
    let p = is_least v sort in
    let step = filter_of_map_range_with_len_more p (λ (x : ℕ). x) 0 t t (zero-add t) in
    ap (filter p) (sym (map_itself (range_with_len 0 (t + 1)))) ∙ step ∙ ap (λ xs. filter p xs ++ cond (p t) (t ∷ []) []) (map_itself (range_with_len 0 t)) ∙ ap (λ c. filter p (range_with_len 0 t) ++ cond c (t ∷ []) []) e
