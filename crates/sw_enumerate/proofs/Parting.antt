-- The bodies of a part: the least cube, and then a body of later cubes.
use Rattle.std.specs.Prelude.{Contains, ◌≡◌, ℕ, zero, suc, ◌+◌, ◌-◌, ◌<◌, ◌≤◌, nat_le, Bool, true, false, cond, Option, Some, None, option_map, List, [], ◌∷◌, ◌++◌, map, length, drop, take, slice_get}
use Rattle.std.specs.List.{AllByRecursion}
use Rattle.std.specs.Option.{is_some}
use Rattle.std.proofs.Common.{refl, arith, subst, sym, ap, ◌∙◌, length-drop}
use Rattle.std.proofs.lemmas.Bool.{false≢true}
use Rattle.std.proofs.lemmas.Option.{none-some, same_Some, slice_get-map, slice_get-get_or}
use Rattle.sw_meaning.proofs.Bodies.{AllBelow}
use Rattle.sw_cover.proofs.Rising.{weight, Weights, IsBody, each_body}
use Rattle.sw_meaning.specs.Classes.{part_of}
use Rattle.sw_lists.proofs.Each.{each-at}
use Rattle.std.proofs.lemmas.Bool.{leb-true, le-leb}
use Rattle.sw_enumerate.specs.Walk.{size, rests, after, weight_of, Fits, AreSmall, Advanced}
use Rattle.sw_enumerate.proofs.Walking.{tail_of, size_is, part_is, after_is}

mapped : {X Y : Type 0} (f : X → Y) (xs : List X) (i : ℕ) (y : Y) → slice_get (map f xs) i ≡ Some y → (x : X) × ((slice_get xs i ≡ Some x) × (f x ≡ y))
mapped f [] i y e = absurd (none-some y e)
mapped f (x ∷ xs) zero y e = (x, (refl, same_Some (f x) y e))
mapped f (x ∷ xs) (suc i) y e = mapped f xs i y e

pub small_at : (xs : List (List ℕ)) (c : ℕ) → AreSmall xs → c < length xs → 0 < size xs c
small_at [] c a h = absurd (omega (arith, h))
small_at (x ∷ xs) zero a h = a.0.0
small_at (x ∷ xs) (suc c) a h = small_at xs c a.1 (omega arith)

module _ (cubes : List (List ℕ)) where
  pub weights_from : (at : ℕ) (rest : List (List ℕ)) → drop at cubes ≡ rest → Weights (size cubes) at rest
  weights_from at [] d = tt
  weights_from at (cube ∷ rest) d = let h = tail_of cubes at cube rest d in (sym (size_is cubes at cube h.0), weights_from (at + 1) rest h.1)

  pub weight_same : (body : List ℕ) → weight (size cubes) body ≡ weight_of cubes body
  weight_same [] = refl
  weight_same (c ∷ body) = ap (λ n. size cubes c + n) (weight_same body)

  -- a body of later cubes has their numbers and weighs what it should
  rest_fits : (at n i : ℕ) (body : List ℕ) → at ≤ length cubes → slice_get (rests cubes at n) i ≡ Some body → Fits cubes n body
  rest_fits at n i body h e =
      let is : IsBody (size cubes) (at + length (drop at cubes)) n body =
      each-at (IsBody (size cubes) (at + length (drop at cubes)) n) (rests cubes at n) i body e (each_body (size cubes) at (drop at cubes) n (weights_from at (drop at cubes) refl)) in
      let top : at + length (drop at cubes) ≡ length cubes = omega (arith, length-drop at cubes, h) in
      record { below = subst (λ m. AllBelow m body) top is.below; weighs = omega (arith, sym (weight_same body), is.weighs) }

  -- a body of a part
  pub record InPart (n c i : ℕ) (body : List ℕ) : Type 0 where
    pub rest : List ℕ
    pub is : body ≡ c ∷ rest
    pub room : size cubes c ≤ n
    pub place : slice_get (rests cubes (c + 1) (n - size cubes c)) i ≡ Some rest
    pub fits : Fits cubes (n - size cubes c) rest

  pub in_part : (n c i : ℕ) (body : List ℕ) → 0 < n → c < length cubes → slice_get (part_of cubes n c) i ≡ Some body → InPart n c i body
  in_part zero c i body some low e = absurd (omega (arith, some))
  in_part (suc n) c i body some low e = by_test (nat_le (size cubes c) (suc n)) refl (ap (λ xs. slice_get xs i) (sym (part_is cubes n c low)) ∙ e)
    where
      by_test : (b : Bool) → nat_le (size cubes c) (suc n) ≡ b → slice_get (cond b (map (λ body. c ∷ body) (rests cubes (c + 1) (suc n - size cubes c))) []) i ≡ Some body → InPart (suc n) c i body
      by_test false t f = absurd (none-some body f)
      by_test true t f =
          let h = mapped (λ body. c ∷ body) (rests cubes (c + 1) (suc n - size cubes c)) i body f in
          record { rest = h.0; is = sym h.1.1; room = leb-true (size cubes c) (suc n) t; place = h.1.0; fits = rest_fits (c + 1) (suc n - size cubes c) i h.0 (omega (arith, low)) h.1.0 }

  -- where the part has bodies, they are the least cube before the bodies of later cubes
  pub part_where : (n c i : ℕ) → 0 < n → c < length cubes → size cubes c ≤ n → slice_get (part_of cubes n c) i ≡ option_map (λ body. c ∷ body) (slice_get (rests cubes (c + 1) (n - size cubes c)) i)
  part_where zero c i some low le = absurd (omega (arith, some))
  part_where (suc n) c i some low le =
      ap (λ xs. slice_get xs i) (part_is cubes n c low)
      ∙ (ap (λ b. slice_get (cond b (map (λ body. c ∷ body) (rests cubes (c + 1) (suc n - size cubes c))) []) i) (le-leb (size cubes c) (suc n) le)
      ∙ slice_get-map (λ body. c ∷ body) (rests cubes (c + 1) (suc n - size cubes c)) i)

  pub part_empty : (n c i : ℕ) → 0 < n → c < length cubes → n < size cubes c → slice_get (part_of cubes n c) i ≡ None
  part_empty zero c i some low lt = absurd (omega (arith, some))
  part_empty (suc n) c i some low lt =
      ap (λ xs. slice_get xs i) (part_is cubes n c low) ∙ ap (λ b. slice_get (cond b (map (λ body. c ∷ body) (rests cubes (c + 1) (suc n - size cubes c))) []) i) (off (size cubes c) (suc n) lt)
    where
      off : (a b : ℕ) → b < a → nat_le a b ≡ false
      off a b h = grind arith

  -- the body after this one in its part
  pub part_after : (n c i : ℕ) (body : List ℕ) → 0 < n → c < length cubes → (p : InPart n c i body) → slice_get (part_of cubes n c) (i + 1) ≡ option_map (λ rest. c ∷ rest) (after cubes (n - size cubes c) p.rest)
  part_after n c i body some low p =
      part_where n c (i + 1) some low p.room ∙ ap (option_map (λ body. c ∷ body)) (after_is cubes (drop (c + 1) cubes) (c + 1) (n - size cubes c) i p.rest refl p.place)

  -- numbers of cubes are no more than their literals
  pub few : AreSmall cubes → (n : ℕ) (body : List ℕ) → Fits cubes n body → length body ≤ n
  few small n body f = omega (arith, f.weighs, lighter body f.below)
    where
      lighter : (body : List ℕ) → AllByRecursion (λ c. c < length cubes) body → length body ≤ weight_of cubes body
      lighter [] b = omega arith
      lighter (c ∷ body) b = let h : 0 < size cubes c = small_at cubes c small b.0 in omega (arith, h, lighter body b.1)

pub place_of : (xs : List (List ℕ)) (x : List ℕ) → Contains xs x → (i : ℕ) × (slice_get xs i ≡ Some x)
place_of xs x h = (h.0, slice_get-get_or xs h.0 x h.1 ∙ ap Some h.2)

-- what an advance of a body's later cubes is for the whole body
pub advanced_some : (old new : List ℕ) (o : Option (List ℕ)) (c : ℕ) (rest : List ℕ) → Advanced old 1 o new true → old ≡ c ∷ rest → Some new ≡ option_map (λ rest. c ∷ rest) o
advanced_some old new (Some body) c rest a e = ap Some (a.1 ∙ ap (λ xs. take 1 xs ++ body) e)
advanced_some old new None c rest a e = absurd (false≢true (sym a.0))

pub advanced_none : (old new : List ℕ) (o : Option (List ℕ)) (c : ℕ) → Advanced old 1 o new false → None ≡ option_map (λ rest. c ∷ rest) o
advanced_none old new (Some body) c a = absurd (false≢true a.0)
advanced_none old new None c a = refl

pub none_at : (o : Option (List ℕ)) (c : ℕ) → is_some o ≡ false → None ≡ option_map (λ rest. c ∷ rest) o
none_at None c e = refl
none_at (Some body) c e = absurd (false≢true (sym e))
