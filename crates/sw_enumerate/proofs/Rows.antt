-- The rows: of which numbers of literals there are bodies of the last cubes.
use Rattle.std.specs.Prelude.{◌⊎◌, ◌≡◌, ℕ, zero, suc, ◌+◌, ◌-◌, ◌<◌, ◌≤◌, ◌&&◌, ◌||◌, nat_le, Bool, true, false, List, [], ◌∷◌, ◌++◌, length, slice_index_or}
use Rattle.std.specs.Option.{is_some}
use Rattle.std.proofs.Common.{refl, arith, subst, sym, ap, ◌∙◌, inl, inr}
use Rattle.std.proofs.lemmas.Bool.{cases_lt}
use Rattle.sw_enumerate.specs.Walk.{size, first, stepped}
use Rattle.sw_enumerate.proofs.Steps.{first_zero, first_end, some_step}

-- a row that says of which numbers of literals there are bodies with cubes from a number on
abbrev pub RowIs : List (List ℕ) → ℕ → List Bool → Type 0
RowIs cubes at row = (n : ℕ) → n < 7 → slice_index_or row n false ≡ is_some (first cubes at n)

-- no cubes: the empty body alone
pub row_end : (cubes : List (List ℕ)) → RowIs cubes (length cubes) (true ∷ false ∷ false ∷ false ∷ false ∷ false ∷ false ∷ [])
row_end cubes zero h = sym (ap is_some (first_zero cubes (length cubes)))
row_end cubes (suc n) h = off n (omega arith) ∙ sym (ap is_some (first_end cubes (length cubes) n (omega arith)))
  where
    off : (n : ℕ) → n < 6 → slice_index_or (false ∷ false ∷ false ∷ false ∷ false ∷ false ∷ []) n false ≡ false
    off zero h = refl
    off (suc zero) h = refl
    off (suc (suc zero)) h = refl
    off (suc (suc (suc zero))) h = refl
    off (suc (suc (suc (suc zero)))) h = refl
    off (suc (suc (suc (suc (suc zero))))) h = refl
    off (suc (suc (suc (suc (suc (suc n)))))) h = absurd (omega (arith, h))

-- one more cube
pub row_step : (cubes : List (List ℕ)) (at : ℕ) (row next : List Bool) → at < length cubes → 0 < size cubes at → RowIs cubes (at + 1) row
    → ((n : ℕ) → n < 7 → slice_index_or next n false ≡ stepped (size cubes at) row n) → RowIs cubes at next
row_step cubes at row next low some is step zero h = step zero h ∙ (ap (λ b. (b && slice_index_or row (0 - size cubes at) false) || slice_index_or row 0 false) (none (size cubes at) some) ∙ (is zero h ∙ (ap is_some (first_zero cubes (at + 1)) ∙ sym (ap is_some (first_zero cubes at)))))
  where
    none : (a : ℕ) → 0 < a → nat_le a 0 ≡ false
    none a h = grind arith
row_step cubes at row next low some is step (suc n) h =
    step (suc n) h
    ∙ (ap (λ b. (nat_le (size cubes at) (suc n) && b) || slice_index_or row (suc n) false) (is (suc n - size cubes at) (omega (arith, h)))
    ∙ (ap (λ b. (nat_le (size cubes at) (suc n) && is_some (first cubes (at + 1) (suc n - size cubes at))) || b) (is (suc n) h)
    ∙ sym (some_step cubes at n low)))

-- rows from the last cubes on
pub record RowsTo (cubes : List (List ℕ)) (rows : List (List Bool)) (row : List Bool) (total k : ℕ) : Type 0 where
  pub count : length rows ≡ k + 1
  pub all : total ≡ length cubes
  pub last : RowIs cubes (length cubes - k) row
  pub each : (j : ℕ) → j ≤ k → RowIs cubes (length cubes - j) (slice_index_or rows j [])

front_of : (rows : List (List Bool)) (next : List Bool) (j : ℕ) → j < length rows → slice_index_or (rows ++ next ∷ []) j [] ≡ slice_index_or rows j []
front_of [] next j h = absurd (omega (arith, h))
front_of (r ∷ rows) next zero h = refl
front_of (r ∷ rows) next (suc j) h = front_of rows next j (omega arith)

last_of : (rows : List (List Bool)) (next : List Bool) (j : ℕ) → j ≡ length rows → slice_index_or (rows ++ next ∷ []) j [] ≡ next
last_of [] next zero h = refl
last_of [] next (suc j) h = absurd (omega (arith, h))
last_of (r ∷ rows) next zero h = absurd (omega (arith, h))
last_of (r ∷ rows) next (suc j) h = last_of rows next j (omega arith)

length_more : (rows : List (List Bool)) (next : List Bool) → length (rows ++ next ∷ []) ≡ length rows + 1
length_more [] next = refl
length_more (r ∷ rows) next = omega (arith, length_more rows next)

-- one more row
pub rows_more : (cubes : List (List ℕ)) (rows more : List (List Bool)) (row next : List Bool) (total k size' : ℕ) → RowsTo cubes rows row total k → k < total
    → size' ≡ size cubes (total - 1 - k) → 0 < size' → ((n : ℕ) → n < 7 → slice_index_or next n false ≡ stepped size' row n) → more ≡ rows ++ next ∷ [] → RowsTo cubes more next total (k + 1)
rows_more cubes rows more row next total k size' r low same some step e =
    let at : ℕ = total - 1 - k in
    let here : at ≡ length cubes - (k + 1) = omega (arith, r.all, low) in
    let later : length cubes - k ≡ at + 1 = omega (arith, r.all, low) in
    let is : RowIs cubes at next =
    row_step cubes at row next (omega (arith, r.all, low)) (omega (arith, same, some)) (subst (λ n. RowIs cubes n row) later r.last) (λ n h. step n h ∙ ap (λ s. stepped s row n) same) in
    let last : RowIs cubes (length cubes - (k + 1)) next = subst (λ n. RowIs cubes n next) here is in
    record {
      count = ap (length {A = List Bool}) e ∙ (length_more rows next ∙ ap (λ n. n + 1) r.count);
      all = r.all;
      last = last;
      each = λ j h. subst (λ rs. RowIs cubes (length cubes - j) (slice_index_or rs j [])) (sym e) (by_place j h last (cases_lt k j));
    }
  where
    by_place : (j : ℕ) → j ≤ k + 1 → RowIs cubes (length cubes - (k + 1)) next → (k < j) ⊎ (j ≤ k) → RowIs cubes (length cubes - j) (slice_index_or (rows ++ next ∷ []) j [])
    by_place j h last (inl gt) =
        let same : j ≡ k + 1 = omega (arith, h, gt) in
        subst (RowIs cubes (length cubes - j)) (sym (last_of rows next j (omega (arith, same, r.count)))) (subst (λ n. RowIs cubes (length cubes - n) next) (sym same) last)
    by_place j h last (inr le) = subst (RowIs cubes (length cubes - j)) (sym (front_of rows next j (omega (arith, le, r.count)))) (r.each j le)
