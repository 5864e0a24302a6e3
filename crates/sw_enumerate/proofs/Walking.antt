-- The laws of walking: after a body stands the next one of the definition's list.
use Rattle.std.specs.Prelude.{◌≡◌, ◌≢◌, ◌⊎◌, ℕ, zero, suc, ◌+◌, ◌-◌, ◌<◌, ◌≤◌, ◌==◌, nat_le, Bool, true, false, cond, Option, Some, None, option_map, List, [], ◌∷◌, ◌++◌, map, length, drop, slice_get, unwrap_or}
use Rattle.std.specs.List.{AllByRecursion, filter}
use Rattle.std.proofs.Common.{refl, arith, sym, ap, ◌∙◌, inl, inr, append-nil, eq-eqb}
use Rattle.std.proofs.lemmas.Bool.{cases_lt, ne_eqb}
use Rattle.std.proofs.lemmas.Option.{none-some, same_Some, slice_get_within, slice_get-map}
use Rattle.sw_meaning.specs.Classes.{bodies_from, part_of}
use Rattle.sw_lists.proofs.Each.{each-append, each-map, each-any}
use Rattle.sw_lists.proofs.Places.{get_append_front, get_append_right}
use Rattle.std.proofs.lemmas.List.Elements.{filter-append}
use Rattle.sw_cover.proofs.TermCounts.{length_map}
use Rattle.sw_enumerate.specs.Walk.{size, rests, after_by, after}

past_end : {X : Type 0} (xs : List X) (i : ℕ) → slice_get xs i ≡ None → length xs ≤ i
past_end [] i e = omega arith
past_end (x ∷ xs) zero e = absurd (none-some x (sym e))
past_end (x ∷ xs) (suc i) e = let h = past_end xs i e in omega (arith, h)

-- what is left from a cube on
pub tail_of : (cubes : List (List ℕ)) (at : ℕ) (cube : List ℕ) (rest : List (List ℕ)) → drop at cubes ≡ cube ∷ rest → (slice_get cubes at ≡ Some cube) × (drop (at + 1) cubes ≡ rest)
tail_of [] zero cube rest e = cc
tail_of [] (suc at) cube rest e = cc
tail_of (c ∷ cubes) zero cube rest e = (let f : c ∷ cubes ≡ cube ∷ rest = e in let g : c ≡ cube = cc in ap Some g, let f : c ∷ cubes ≡ cube ∷ rest = e in let g : cubes ≡ rest = cc in rest_of g)
  where
    rest_of : cubes ≡ rest → drop (0 + 1) (c ∷ cubes) ≡ rest
    rest_of g = g
tail_of (c ∷ cubes) (suc at) cube rest e =
    let h = tail_of cubes at cube rest e in
    (h.0, ap (λ n. drop n (c ∷ cubes)) (let e : suc at + 1 ≡ suc (at + 1) = omega arith in e) ∙ h.1)

module _ (cubes : List (List ℕ)) where
  -- where the bodies that take the first cube stand
  taken : ℕ → List ℕ → List (List ℕ) → ℕ → Bool → List (List ℕ)
  taken at cube rest n b = cond b (map (λ body. at ∷ body) (bodies_from (at + 1) rest (suc n - length cube))) []

  pub size_is : (at : ℕ) (cube : List ℕ) → slice_get cubes at ≡ Some cube → size cubes at ≡ length cube
  size_is at cube e = ap (λ o. length {A = ℕ} (unwrap_or o [])) e

  -- the body after one that takes the cube: the next that does, or the first that does not
  after_taken : (at : ℕ) (body : List ℕ) (n : ℕ) (bodies others : List (List ℕ)) (o : Option (List ℕ)) (i : ℕ)
      → slice_get bodies i ≡ Some body → slice_get bodies (i + 1) ≡ o
      → slice_get (map (λ body. at ∷ body) bodies ++ others) (i + 1) ≡ after_by o at (slice_get others 0)
  after_taken at body n bodies others (Some next) i e f =
      let within : i + 1 < length bodies = slice_get_within bodies (i + 1) next f in
      let same : length (map (λ body. at ∷ body) bodies) ≡ length bodies = length_map (λ body. at ∷ body) bodies in
      get_append_front (map (λ body. at ∷ body) bodies) others (i + 1) (omega (arith, within, same)) ∙ (slice_get-map (λ body. at ∷ body) bodies (i + 1) ∙ ap (option_map (λ body. at ∷ body)) f)
  after_taken at body n bodies others None i e f =
      let within : i < length bodies = slice_get_within bodies i body e in
      let past : length bodies ≤ i + 1 = past_end bodies (i + 1) f in
      let same : length (map (λ body. at ∷ body) bodies) ≡ length bodies = length_map (λ body. at ∷ body) bodies in
      let here : i + 1 ≡ length (map (λ body. at ∷ body) bodies) + 0 = omega (arith, within, past, same) in
      ap (slice_get (map (λ body. at ∷ body) bodies ++ others)) here ∙ get_append_right (map (λ body. at ∷ body) bodies) others 0

  -- the body at a place has the next one after it
  pub after_is : (rest : List (List ℕ)) (at n i : ℕ) (body : List ℕ) → drop at cubes ≡ rest → slice_get (bodies_from at rest n) i ≡ Some body → slice_get (bodies_from at rest n) (i + 1) ≡ after cubes n body
  after_is [] at zero zero body d e = ap (after cubes 0) (same_Some [] body e)
  after_is [] at zero (suc i) body d e = absurd (none-some body e)
  after_is [] at (suc n) i body d e = absurd (none-some body e)
  after_is (cube ∷ rest) at zero zero body d e = ap (after cubes 0) (same_Some [] body e)
  after_is (cube ∷ rest) at zero (suc i) body d e = absurd (none-some body e)
  after_is (cube ∷ rest) at (suc n) i body d e =
      by_test (nat_le (length cube) (suc n)) (after_is rest (at + 1) (suc n - length cube)) (after_is rest (at + 1) (suc n)) e
    where
      here : (slice_get cubes at ≡ Some cube) × (drop (at + 1) cubes ≡ rest)
      here = tail_of cubes at cube rest d

      others : List (List ℕ)
      others = bodies_from (at + 1) rest (suc n)

      in_taken : (bodies : List (List ℕ)) → ((i : ℕ) (body : List ℕ) → slice_get bodies i ≡ Some body → slice_get bodies (i + 1) ≡ after cubes (suc n - length cube) body)
          → slice_get (map (λ body. at ∷ body) bodies ++ others) i ≡ Some body → i < length bodies → slice_get (map (λ body. at ∷ body) bodies ++ others) (i + 1) ≡ after cubes (suc n) body
      in_taken bodies ih f h = by_body (slice_get bodies i) refl
        where
          by_body : (o : Option (List ℕ)) → slice_get bodies i ≡ o → slice_get (map (λ body. at ∷ body) bodies ++ others) (i + 1) ≡ after cubes (suc n) body
          by_body None g = absurd (omega (arith, h, past_end bodies i g))
          by_body (Some tail) g =
              let here_is : slice_get (map (λ body. at ∷ body) bodies ++ others) i ≡ Some (at ∷ tail) =
              get_append_front (map (λ body. at ∷ body) bodies) others i (omega (arith, h, length_map (λ body. at ∷ body) bodies)) ∙ (slice_get-map (λ body. at ∷ body) bodies i ∙ ap (option_map (λ body. at ∷ body)) g) in
              let is : at ∷ tail ≡ body = same_Some (at ∷ tail) body (sym here_is ∙ f) in
              after_taken at tail n bodies others (after cubes (suc n - length cube) tail) i g (ih i tail g)
              ∙ (ap (λ k. after_by (after cubes (suc n - k) tail) at (slice_get others 0)) (sym (size_is at cube here.0))
              ∙ (ap (λ rest. after_by (after cubes (suc n - size cubes at) tail) at (slice_get (bodies_from (at + 1) rest (suc n)) 0)) (sym here.1)
              ∙ ap (after cubes (suc n)) is))

      in_others : (xs : List (List ℕ)) → ((i : ℕ) (body : List ℕ) → slice_get others i ≡ Some body → slice_get others (i + 1) ≡ after cubes (suc n) body)
          → slice_get (xs ++ others) i ≡ Some body → length xs ≤ i → slice_get (xs ++ others) (i + 1) ≡ after cubes (suc n) body
      in_others xs ih f h =
          let j : ℕ = i - length xs in
          let split : i ≡ length xs + j = omega (arith, h) in
          let more : i + 1 ≡ length xs + (j + 1) = omega (arith, h) in
          ap (slice_get (xs ++ others)) more ∙ (get_append_right xs others (j + 1) ∙ ih j body (sym (get_append_right xs others j) ∙ (ap (slice_get (xs ++ others)) (sym split) ∙ f)))

      by_test : (b : Bool)
          → ((i : ℕ) (body : List ℕ) → drop (at + 1) cubes ≡ rest → slice_get (bodies_from (at + 1) rest (suc n - length cube)) i ≡ Some body → slice_get (bodies_from (at + 1) rest (suc n - length cube)) (i + 1) ≡ after cubes (suc n - length cube) body)
          → ((i : ℕ) (body : List ℕ) → drop (at + 1) cubes ≡ rest → slice_get others i ≡ Some body → slice_get others (i + 1) ≡ after cubes (suc n) body)
          → slice_get (cond b (map (λ body. at ∷ body) (bodies_from (at + 1) rest (suc n - length cube))) [] ++ others) i ≡ Some body
          → slice_get (cond b (map (λ body. at ∷ body) (bodies_from (at + 1) rest (suc n - length cube))) [] ++ others) (i + 1) ≡ after cubes (suc n) body
      by_test false first_ih second_ih f = second_ih i body here.1 f
      by_test true first_ih second_ih f =
          let bodies : List (List ℕ) = bodies_from (at + 1) rest (suc n - length cube) in
          elim (cases_lt i (length bodies)) [
            | inl lt ↦ in_taken bodies (λ j tail g. first_ih j tail here.1 g) f lt
            | inr le ↦ in_others (map (λ body. at ∷ body) bodies) (λ j tail g. second_ih j tail here.1 g) f (omega (arith, le, length_map (λ body. at ∷ body) bodies))
          ]

filter_all : {X : Type 0} (test : X → Bool) (xs : List X) → AllByRecursion (λ x. test x ≡ true) xs → filter test xs ≡ xs
filter_all test [] a = refl
filter_all test (x ∷ xs) a = ap (λ b. cond b (x ∷ filter test xs) (filter test xs)) a.0 ∙ ap (λ ys. x ∷ ys) (filter_all test xs a.1)

filter_none : {X : Type 0} (test : X → Bool) (xs : List X) → AllByRecursion (λ x. test x ≡ false) xs → filter test xs ≡ []
filter_none test [] a = refl
filter_none test (x ∷ xs) a = ap (λ b. cond b (x ∷ filter test xs) (filter test xs)) a.0 ∙ filter_none test xs a.1

-- whether the body's least cube is c
abbrev pub begins_with : ℕ → List ℕ → Bool
begins_with c body = unwrap_or (slice_get body 0) 0 == c

-- bodies of later cubes begin later
later_heads : (at : ℕ) (rest : List (List ℕ)) (n c : ℕ) → c < at → AllByRecursion (λ body. begins_with c body ≡ false) (bodies_from at rest (suc n))
later_heads at [] n c h = tt
later_heads at (cube ∷ rest) n c h =
    each-append (λ body. begins_with c body ≡ false) _ (bodies_from (at + 1) rest (suc n))
    (by_test (nat_le (length cube) (suc n))) (later_heads (at + 1) rest n c (omega arith))
  where
    by_test : (b : Bool) → AllByRecursion (λ body. begins_with c body ≡ false) (cond b (map (λ body. at ∷ body) (bodies_from (at + 1) rest (suc n - length cube))) [])
    by_test false = tt
    by_test true =
        each-map (λ body. begins_with c body ≡ false) (λ body. at ∷ body) (bodies_from (at + 1) rest (suc n - length cube))
        (each-any (λ body. (at == c) ≡ false) (λ body. ne_eqb at c (λ e. absurd (omega (arith, h, e)))) (bodies_from (at + 1) rest (suc n - length cube)))

module _ (cubes : List (List ℕ)) where
  abbrev pub part_bodies : ℕ → ℕ → List (List ℕ)
  part_bodies n c = cond (nat_le (size cubes c) n) (map (λ body. c ∷ body) (rests cubes (c + 1) (n - size cubes c))) []

  part_from : (rest : List (List ℕ)) (at n c : ℕ) → drop at cubes ≡ rest → at ≤ c → c < at + length rest → filter (begins_with c) (bodies_from at rest (suc n)) ≡ part_bodies (suc n) c
  part_from [] at n c d low high = absurd (omega (arith, low, high))
  part_from (cube ∷ rest) at n c d low high = filter-append (begins_with c) front (bodies_from (at + 1) rest (suc n)) ∙ by_place (cases_lt at c) (part_from rest (at + 1) n c here.1)
    where
      here : (slice_get cubes at ≡ Some cube) × (drop (at + 1) cubes ≡ rest)
      here = tail_of cubes at cube rest d

      front : List (List ℕ)
      front = cond (nat_le (length cube) (suc n)) (map (λ body. at ∷ body) (bodies_from (at + 1) rest (suc n - length cube))) []

      dropped : at ≢ c → (b : Bool) → filter (begins_with c) (cond b (map (λ body. at ∷ body) (bodies_from (at + 1) rest (suc n - length cube))) []) ≡ []
      dropped ne false = refl
      dropped ne true =
          filter_none (begins_with c) (map (λ body. at ∷ body) (bodies_from (at + 1) rest (suc n - length cube)))
          (each-map (λ body. begins_with c body ≡ false) (λ body. at ∷ body) (bodies_from (at + 1) rest (suc n - length cube))
          (each-any (λ body. (at == c) ≡ false) (λ body. ne_eqb at c ne) (bodies_from (at + 1) rest (suc n - length cube))))

      kept : at ≡ c → (b : Bool) → filter (begins_with c) (cond b (map (λ body. at ∷ body) (bodies_from (at + 1) rest (suc n - length cube))) []) ≡ cond b (map (λ body. at ∷ body) (bodies_from (at + 1) rest (suc n - length cube))) []
      kept e false = refl
      kept e true =
          filter_all (begins_with c) (map (λ body. at ∷ body) (bodies_from (at + 1) rest (suc n - length cube)))
          (each-map (λ body. begins_with c body ≡ true) (λ body. at ∷ body) (bodies_from (at + 1) rest (suc n - length cube))
          (each-any (λ body. (at == c) ≡ true) (λ body. eq-eqb at c e) (bodies_from (at + 1) rest (suc n - length cube))))

      same_part : at ≡ c → front ≡ part_bodies (suc n) c
      same_part e =
          ap (λ k. cond (nat_le k (suc n)) (map (λ body. at ∷ body) (bodies_from (at + 1) rest (suc n - k))) []) (sym (size_is cubes at cube here.0))
          ∙ (ap (λ r. cond (nat_le (size cubes at) (suc n)) (map (λ body. at ∷ body) (bodies_from (at + 1) r (suc n - size cubes at))) []) (sym here.1)
          ∙ ap (part_bodies (suc n)) e)

      by_place : (at < c) ⊎ (c ≤ at) → (at + 1 ≤ c → c < (at + 1) + length rest → filter (begins_with c) (bodies_from (at + 1) rest (suc n)) ≡ part_bodies (suc n) c)
          → filter (begins_with c) front ++ filter (begins_with c) (bodies_from (at + 1) rest (suc n)) ≡ part_bodies (suc n) c
      by_place (inl lt) ih =
          ap (λ xs. xs ++ filter (begins_with c) (bodies_from (at + 1) rest (suc n))) (dropped (λ e. absurd (omega (arith, lt, e))) (nat_le (length cube) (suc n)))
          ∙ ih (omega (arith, lt)) (omega (arith, high))
      by_place (inr le) ih =
          let e : at ≡ c = omega (arith, low, le) in
          ap (λ xs. xs ++ filter (begins_with c) (bodies_from (at + 1) rest (suc n))) (kept e (nat_le (length cube) (suc n)))
          ∙ (ap (λ ys. front ++ ys) (filter_none (begins_with c) (bodies_from (at + 1) rest (suc n)) (later_heads (at + 1) rest n c (omega (arith, le))))
          ∙ (append-nil front ∙ same_part e))

  -- the part of n literals and least cube c: that cube before each body of later cubes with the rest of the literals
  pub part_is : (n c : ℕ) → c < length cubes → part_of cubes (suc n) c ≡ part_bodies (suc n) c
  part_is n c h = part_from cubes 0 n c refl (omega arith) (omega (arith, h))
