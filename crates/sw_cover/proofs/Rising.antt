-- Rising lists of numbers, each number with a weight: every list has one of the same numbers that weighs no more, and the choices and bodies are such lists.
use Rattle.std.specs.Prelude.{◌≡◌, ℕ, zero, suc, ◌+◌, ◌-◌, ◌<◌, ◌≤◌, ◌||◌, ◌&&◌, nat_le, Bool, true, false, cond, List, [], ◌∷◌, map, length, slice_get, unwrap_or}
use Rattle.std.specs.List.{AllByRecursion, list_any, list_all, range_with_len}
use Rattle.std.proofs.Common.{refl, arith, subst, sym, ap, ◌∙◌, inl, inr}
use Rattle.std.proofs.lemmas.Bool.{cases_lt}
use Rattle.sw_meaning.specs.Classes.{choices, bodies_from}
use Rattle.sw_meaning.proofs.Bodies.{Rising, AllBelow}
use Rattle.sw_lists.proofs.Each.{each-append, each-map, each-weaker}
use Rattle.sw_cover.proofs.Members.{Has, has-front, has-back, has-map}

-- what the numbers of a list weigh together
abbrev pub weight : (ℕ → ℕ) → List ℕ → ℕ
weight w [] = 0
weight w (c ∷ cs) = w c + weight w cs

or_swap : (a b c : Bool) → (a || (b || c)) ≡ (b || (a || c))
or_swap true true c = refl
or_swap true false c = refl
or_swap false true c = refl
or_swap false false c = refl

or_same : (a b : Bool) → (a || b) ≡ (a || (a || b))
or_same true b = refl
or_same false b = refl

and_swap : (a b c : Bool) → (a && (b && c)) ≡ (b && (a && c))
and_swap true true c = refl
and_swap true false c = refl
and_swap false true c = refl
and_swap false false c = refl

and_same : (a b : Bool) → (a && b) ≡ (a && (a && b))
and_same true b = refl
and_same false b = refl

-- a rising list of the number and those of the list
record Inserted (a n c : ℕ) (cs : List ℕ) : Type 0 where
  pub list : List ℕ
  pub rising : Rising a list
  pub below : AllBelow n list
  pub some : 0 < length list
  pub weighs : (w : ℕ → ℕ) → weight w list ≤ w c + weight w cs
  pub any : (p : ℕ → Bool) → list_any p list ≡ (p c || list_any p cs)
  pub all : (p : ℕ → Bool) → list_all p list ≡ (p c && list_all p cs)

inserted : (a n c : ℕ) (cs : List ℕ) → a ≤ c → c < n → Rising a cs → AllBelow n cs → Inserted a n c cs
inserted a n c [] low high r b = record { list = c ∷ []; rising = (low, tt); below = (high, tt); some = omega arith; weighs = λ w. omega arith; any = λ p. refl; all = λ p. refl }
inserted a n c (d ∷ cs) low high r b = elim (cases_lt c d) [
  | inl lt ↦ record {
    list = c ∷ d ∷ cs;
    rising = (low, (omega arith, r.1));
    below = (high, b);
    some = omega arith;
    weighs = λ w. omega arith;
    any = λ p. refl;
    all = λ p. refl;
  }
  | inr le ↦ elim (cases_lt d c) [
    | inl gt ↦
        let rest : Inserted (d + 1) n c cs = inserted (d + 1) n c cs (omega arith) high r.1 b.1 in
        record {
          list = d ∷ rest.list;
          rising = (r.0, rest.rising);
          below = (b.0, rest.below);
          some = omega arith;
          weighs = λ w. omega (arith, rest.weighs w);
          any = λ p. ap (λ x. p d || x) (rest.any p) ∙ or_swap (p d) (p c) (list_any p cs);
          all = λ p. ap (λ x. p d && x) (rest.all p) ∙ and_swap (p d) (p c) (list_all p cs);
        }
    | inr ge ↦
        let e : c ≡ d = omega arith in
        record {
          list = d ∷ cs;
          rising = r;
          below = b;
          some = omega arith;
          weighs = λ w. omega arith;
          any = λ p. or_same (p d) (list_any p cs) ∙ ap (λ x. p x || (p d || list_any p cs)) (sym e);
          all = λ p. and_same (p d) (list_all p cs) ∙ ap (λ x. p x && (p d && list_all p cs)) (sym e);
        }
  ]
]

-- a rising list of the numbers of the list
pub record Sorted (n : ℕ) (cs : List ℕ) : Type 0 where
  pub list : List ℕ
  pub rising : Rising 0 list
  pub below : AllBelow n list
  pub some : 0 < length cs → 0 < length list
  pub weighs : (w : ℕ → ℕ) → weight w list ≤ weight w cs
  pub any : (p : ℕ → Bool) → list_any p list ≡ list_any p cs
  pub all : (p : ℕ → Bool) → list_all p list ≡ list_all p cs

pub sorted : (n : ℕ) (cs : List ℕ) → AllBelow n cs → Sorted n cs
sorted n [] b = record { list = []; rising = tt; below = tt; some = λ h. h; weighs = λ w. omega arith; any = λ p. refl; all = λ p. refl }
sorted n (c ∷ cs) b =
    let rest : Sorted n cs = sorted n cs b.1 in
    let put : Inserted 0 n c rest.list = inserted 0 n c rest.list (omega arith) b.0 rest.rising rest.below in
    record {
      list = put.list;
      rising = put.rising;
      below = put.below;
      some = λ h. put.some;
      weighs = λ w. omega (arith, put.weighs w, rest.weighs w);
      any = λ p. put.any p ∙ ap (λ x. p c || x) (rest.any p);
      all = λ p. put.all p ∙ ap (λ x. p c && x) (rest.all p);
    }

-- where each number weighs one, a list weighs its length
pub weight_of_ones : (cs : List ℕ) → weight (λ c. 1) cs ≡ length cs
weight_of_ones [] = refl
weight_of_ones (c ∷ cs) = ap (λ n. 1 + n) (weight_of_ones cs) ∙ omega arith

-- a list of n numbers below m
pub record IsChoice (n m : ℕ) (chosen : List ℕ) : Type 0 where
  pub size : length chosen ≡ n
  pub below : AllBelow m chosen

chosen_more : (n m c : ℕ) (cs : List ℕ) → c < m → IsChoice n m cs → IsChoice (suc n) m (c ∷ cs)
chosen_more n m c cs h i = record { size = ap suc i.size; below = (h, i.below) }

pub each_choice : (n a m : ℕ) → AllByRecursion (IsChoice n (a + m)) (choices n (range_with_len a m))
each_choice zero a m = (record { size = refl; below = tt }, tt)
each_choice (suc n) a zero = tt
each_choice (suc n) a (suc m) =
    let next : (k : ℕ) → AllByRecursion (IsChoice k (a + suc m)) (choices k (range_with_len (a + 1) m)) =
    λ k. subst (λ j. AllByRecursion (IsChoice k j) (choices k (range_with_len (a + 1) m))) (omega arith) (each_choice k (a + 1) m) in
    each-append (IsChoice (suc n) (a + suc m)) (map (λ cs. a ∷ cs) (choices n (range_with_len (a + 1) m))) (choices (suc n) (range_with_len (a + 1) m))
    (each-map (IsChoice (suc n) (a + suc m)) (λ cs. a ∷ cs) (choices n (range_with_len (a + 1) m))
    (each-weaker (IsChoice n (a + suc m)) (λ cs. IsChoice (suc n) (a + suc m) (a ∷ cs)) (λ cs i. chosen_more n (a + suc m) a cs (omega arith) i) (choices n (range_with_len (a + 1) m)) (next n)))
    (next (suc n))

pub has_choice : (n a m : ℕ) (chosen : List ℕ) → Rising a chosen → AllBelow (a + m) chosen → length chosen ≡ n → Has chosen (choices n (range_with_len a m))
has_choice zero a m [] r b e = inl refl
has_choice zero a m (c ∷ cs) r b e = absurd (omega (arith, e))
has_choice (suc n) a m [] r b e = absurd (omega (arith, e))
has_choice (suc n) a zero (c ∷ cs) r b e = absurd (omega (arith, r.0, b.0))
has_choice (suc n) a (suc m) (c ∷ cs) r b e =
    let below : AllBelow ((a + 1) + m) (c ∷ cs) = subst (λ k. AllBelow k (c ∷ cs)) (omega arith) b in
    let with_first : List (List ℕ) = map (λ cs. a ∷ cs) (choices n (range_with_len (a + 1) m)) in
    elim (cases_lt a c) [
      | inl lt ↦ has-back (c ∷ cs) with_first (choices (suc n) (range_with_len (a + 1) m)) (has_choice (suc n) (a + 1) m (c ∷ cs) (omega arith, r.1) below e)
      | inr le ↦
          let same : a ≡ c = omega (arith, r.0) in
          let size : length cs ≡ n = omega (arith, e) in
          has-front (c ∷ cs) with_first (choices (suc n) (range_with_len (a + 1) m))
          (subst (λ x. Has (x ∷ cs) with_first) same (has-map (λ cs. a ∷ cs) cs (choices n (range_with_len (a + 1) m)) (has_choice n (a + 1) m cs (subst (λ x. Rising (x + 1) cs) (sym same) r.1) below.1 size)))
    ]

-- the numbers from a number on weigh as much as the cubes have literals
abbrev pub Weights : (ℕ → ℕ) → ℕ → List (List ℕ) → Type 0
Weights w at [] = Unit {0}
Weights w at (cube ∷ rest) = (length cube ≡ w at) × Weights w (at + 1) rest

-- a cube weighs as much as it has literals
weights_from : (whole : List (List ℕ)) (at : ℕ) (rest : List (List ℕ)) → ((j : ℕ) → slice_get whole (at + j) ≡ slice_get rest j) → Weights (λ c. length (unwrap_or (slice_get whole c) [])) at rest
weights_from whole at [] same = tt
weights_from whole at (cube ∷ rest) same = (
  (let e : at + 0 ≡ at = omega arith in ap (λ o. length {A = ℕ} (unwrap_or o [])) (sym (same 0) ∙ ap (slice_get whole) e)),
  weights_from whole (at + 1) rest (λ j. ap (slice_get whole) (omega arith) ∙ same (suc j)),
)

pub weights_of : (cubes : List (List ℕ)) → Weights (λ c. length (unwrap_or (slice_get cubes c) [])) 0 cubes
weights_of cubes = weights_from cubes 0 cubes (λ j. ap (slice_get cubes) (let e : 0 + j ≡ j = omega arith in e))

-- a list of numbers below m that weigh n together
pub record IsBody (w : ℕ → ℕ) (m n : ℕ) (body : List ℕ) : Type 0 where
  pub weighs : weight w body ≡ n
  pub below : AllBelow m body

le_true : (a b : ℕ) → nat_le a b ≡ true → a ≤ b
le_true a b e = grind arith

true_le : (a b : ℕ) → a ≤ b → nat_le a b ≡ true
true_le a b h = grind arith

heavier : (w : ℕ → ℕ) (m n at k : ℕ) (body : List ℕ) → at < m → k ≡ w at → k ≤ n → IsBody w m (n - k) body → IsBody w m n (at ∷ body)
heavier w m n at k body h e le b = record { weighs = omega (arith, e, le, b.weighs); below = (h, b.below) }

pub each_body : (w : ℕ → ℕ) (at : ℕ) (cubes : List (List ℕ)) (n : ℕ) → Weights w at cubes → AllByRecursion (IsBody w (at + length cubes) n) (bodies_from at cubes n)
each_body w at [] zero s = (record { weighs = refl; below = tt }, tt)
each_body w at [] (suc n) s = tt
each_body w at (cube ∷ rest) zero s = (record { weighs = refl; below = tt }, tt)
each_body w at (cube ∷ rest) (suc n) s =
    each-append (IsBody w (at + length (cube ∷ rest)) (suc n)) _ (bodies_from (at + 1) rest (suc n))
    (taken (nat_le (length cube) (suc n)) refl (next (suc n - length cube) (each_body w (at + 1) rest (suc n - length cube) s.1)))
    (next (suc n) (each_body w (at + 1) rest (suc n) s.1))
  where
    next : (k : ℕ) → AllByRecursion (IsBody w ((at + 1) + length rest) k) (bodies_from (at + 1) rest k) → AllByRecursion (IsBody w (at + length (cube ∷ rest)) k) (bodies_from (at + 1) rest k)
    next k a = subst (λ j. AllByRecursion (IsBody w j k) (bodies_from (at + 1) rest k)) (omega arith) a

    taken : (b : Bool) → nat_le (length cube) (suc n) ≡ b → AllByRecursion (IsBody w (at + length (cube ∷ rest)) (suc n - length cube)) (bodies_from (at + 1) rest (suc n - length cube))
        → AllByRecursion (IsBody w (at + length (cube ∷ rest)) (suc n)) (cond b (map (λ body. at ∷ body) (bodies_from (at + 1) rest (suc n - length cube))) [])
    taken false e a = tt
    taken true e a =
        each-map (IsBody w (at + length (cube ∷ rest)) (suc n)) (λ body. at ∷ body) (bodies_from (at + 1) rest (suc n - length cube))
        (each-weaker (IsBody w (at + length (cube ∷ rest)) (suc n - length cube)) (λ body. IsBody w (at + length (cube ∷ rest)) (suc n) (at ∷ body))
        (λ body b. heavier w (at + length (cube ∷ rest)) (suc n) at (length cube) body (omega arith) s.0 (le_true (length cube) (suc n) e) b) (bodies_from (at + 1) rest (suc n - length cube)) a)

has_taken : (at : ℕ) (cube : List ℕ) (n : ℕ) (body : List ℕ) (rest : List (List ℕ)) → length cube ≤ suc n → Has body (bodies_from (at + 1) rest (suc n - length cube))
    → (b : Bool) → nat_le (length cube) (suc n) ≡ b → Has (at ∷ body) (cond b (map (λ body. at ∷ body) (bodies_from (at + 1) rest (suc n - length cube))) [])
has_taken at cube n body rest le h true e = has-map (λ body. at ∷ body) body (bodies_from (at + 1) rest (suc n - length cube)) h
has_taken at cube n body rest le h false e = let f : true ≡ false = sym (true_le (length cube) (suc n) le) ∙ e in cc

pub has_body : (w : ℕ → ℕ) (at : ℕ) (cubes : List (List ℕ)) (n : ℕ) (body : List ℕ) → Weights w at cubes → ((c : ℕ) → at ≤ c → c < at + length cubes → 0 < w c)
    → Rising at body → AllBelow (at + length cubes) body → weight w body ≡ n → Has body (bodies_from at cubes n)
has_body w at [] zero [] s p r b e = inl refl
has_body w at [] (suc n) [] s p r b e = absurd (omega (arith, e))
has_body w at [] n (c ∷ body) s p r b e = absurd (omega (arith, r.0, b.0))
has_body w at (cube ∷ rest) zero [] s p r b e = inl refl
has_body w at (cube ∷ rest) zero (c ∷ body) s p r b e = absurd (omega (arith, e, p c r.0 b.0))
has_body w at (cube ∷ rest) (suc n) [] s p r b e = absurd (omega (arith, e))
has_body w at (cube ∷ rest) (suc n) (c ∷ body) s p r b e =
    let below : AllBelow ((at + 1) + length rest) (c ∷ body) = subst (λ m. AllBelow m (c ∷ body)) (omega arith) b in
    let positive : (c : ℕ) → at + 1 ≤ c → c < (at + 1) + length rest → 0 < w c = λ c low high. p c (omega arith) (omega arith) in
    elim (cases_lt at c) [
      | inl lt ↦ has-back (c ∷ body) _ (bodies_from (at + 1) rest (suc n)) (has_body w (at + 1) rest (suc n) (c ∷ body) s.1 positive (omega arith, r.1) below e)
      | inr le ↦
          let same : at ≡ c = omega (arith, r.0) in
          let heavy : length cube ≡ w c = s.0 ∙ ap w same in
          let left : weight w body ≡ suc n - length cube = omega (arith, e, heavy) in
          let there : Has body (bodies_from (at + 1) rest (suc n - length cube)) = has_body w (at + 1) rest (suc n - length cube) body s.1 positive (subst (λ x. Rising (x + 1) body) (sym same) r.1) below.1 left in
          let fits : length cube ≤ suc n = omega (arith, e, heavy) in
          has-front (c ∷ body) _ (bodies_from (at + 1) rest (suc n))
          (subst (λ x. Has (x ∷ body) (cond (nat_le (length cube) (suc n)) (map (λ body. at ∷ body) (bodies_from (at + 1) rest (suc n - length cube))) [])) same
          (has_taken at cube n body rest fits there (nat_le (length cube) (suc n)) refl))
    ]
