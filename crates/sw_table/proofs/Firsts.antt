-- First places: in a list with a further name at its end, and in a map that is changed at one name.
use Rattle.std.proofs.Common.{◌≡◌, ℕ, ◌+◌, ◌≤◌, Bool, true, false, cond, not, ◌||◌, nat_lt, List, [], ◌∷◌, ◌++◌, length, Option, Some, None, Vec, BTreeMap, refl, sym, ap, subst, ◌∙◌, ⊎_elim, is_some, eqb, Result, Ok, Err, OnErr, MatchOption, arith, length-append}
use Rattle.std.specs.Ordering.{is_eq, nat_cmp}
use Rattle.std.specs.Cmp.Lexicographic.{slice_cmp}
use Rattle.std.specs.List.{position, position_or_len, list_any}
use Rattle.std.specs.Option.{option_eq}
use Rattle.std.specs.Result.{is_err}
use Rattle.std.specs.Str.{bytes_eq}
use Rattle.std.specs.Map.{lookup, IsKeyTest, AreApart, KeepsOthers}
use Rattle.std.specs.BTreeMap.{UpdatesBy}
use Rattle.std.proofs.lemmas.Bool.{cases_Bool, cond-true, cond-false, false≢true, eqb-true, eq-eqb}
use Rattle.std.proofs.lemmas.Cmp.{nat_list_cmp_total, nat_list_eq_equiv, eq_by_cmp_equiv}
use Rattle.std.proofs.lemmas.Slice.Eq.{bytes_eq-Decides}
use Rattle.std.proofs.lemmas.Map.Text.{is_eq-slice_cmp}
use Rattle.std.proofs.lemmas.List.Sums.{prefix_len-le-length}
use Rattle.std.proofs.lemmas.List.{same_from_push}
use Rattle.std.proofs.lemmas.List.Quantifiers.{position-Some}
use Rattle.std.proofs.lemmas.List.Folds.{position_or_len_push}
use Rattle.sw_table.specs.Firsts.{place_in, HasFirsts}

module _ {X : Type 0} (p : X → Bool) (xs : List X) (y : X) where
  within : position_or_len p xs ≤ length xs
  within = prefix_len-le-length _ xs

  -- what does not pass changes no first place
  pub position_skips : p y ≡ false → position p (xs ++ y ∷ []) ≡ position p xs
  position_skips n = grind (arith, n, within, position_or_len_push p xs y, length-append xs (y ∷ []))

  -- nor does what comes later
  pub position_keeps : (i : ℕ) → position p xs ≡ Some i → position p (xs ++ y ∷ []) ≡ Some i
  position_keeps i s = grind (arith, s, within, position_or_len_push p xs y, length-append xs (y ∷ []))

  -- the first that passes may be the last
  pub position_last : p y ≡ true → position p xs ≡ None → position p (xs ++ y ∷ []) ≡ Some (length xs)
  position_last t s = grind (arith, t, s, within, position_or_len_push p xs y, length-append xs (y ∷ []))

some : (o : Option ℕ) → is_some o ≡ true → (i : ℕ) × (o ≡ Some i)
some None s = absurd (false≢true s)
some (Some i) s = (i, refl)

none : (o : Option ℕ) → is_some o ≡ false → o ≡ None
none None s = refl
none (Some i) s = absurd (false≢true (sym s))

pub is_this : (o : Option ℕ) (i : ℕ) → option_eq eqb o (Some i) ≡ true → o ≡ Some i
is_this None i e = absurd (false≢true e)
is_this (Some j) i e = ap Some (eqb-true j i e)

pub is_other : (o : Option ℕ) (i : ℕ) → option_eq eqb o (Some i) ≡ false → o ≡ Some i → ⊥
is_other o i e s = false≢true (sym e ∙ ap (λ r. option_eq eqb r (Some i)) s ∙ eq-eqb i i refl)

-- a key of one name is none of another
apart : (bs cs ks : List ℕ) → bytes_eq bs cs ≡ false → is_eq (slice_cmp nat_cmp bs ks) ≡ true → is_eq (slice_cmp nat_cmp cs ks) ≡ false
apart bs cs ks n y =
    subst (λ k. is_eq (slice_cmp nat_cmp cs k) ≡ false) ((bytes_eq-Decides bs ks).0 (sym (is_eq-slice_cmp bs ks) ∙ y)) (is_eq-slice_cmp cs bs ∙ nat_list_eq_equiv.symm cs bs ∙ n)

kept : {K X : Type 0} (eq : K → K → Bool) (test : K → Bool) (old new : List (K × X)) → KeepsOthers eq test old new
    → (other : K → Bool) → IsKeyTest eq other → AreApart test other → lookup other new ≡ lookup other old
unfolding KeepsOthers
kept eq test old new h = h

module _ {A : Type 0} (m : BTreeMap (Vec ℕ A) ℕ) (name : List ℕ) where
  -- this is all that a change at the name does
  abbrev pub Changes : BTreeMap (Vec ℕ A) ℕ → Option ℕ → Type 0
  Changes n w = UpdatesBy (λ x y. slice_cmp nat_cmp x.items y.items) (λ k. slice_cmp nat_cmp name k.items) m n w

  changed : (n : BTreeMap (Vec ℕ A) ℕ) (w : Option ℕ) → Changes n w → (other : List ℕ) → place_in n other ≡ cond (bytes_eq name other) w (place_in m other)
  changed n w h other =
      ⊎_elim
      (λ t. subst (λ o. place_in n o ≡ w) ((bytes_eq-Decides name other).0 t) h.1 ∙ sym (cond-true (bytes_eq name other) w (place_in m other) t))
      (λ f. kept _ _ _ _ h.3 _ (λ x y. (eq_by_cmp_equiv nat_list_cmp_total).congr other x.items y.items) (λ k. apart name other k.items f) ∙ sym (cond-false (bytes_eq name other) w (place_in m other) f))
      (cases_Bool (bytes_eq name other))

  module _ (names : List (List ℕ)) where
    -- a name that is there twice keeps its place
    pub again : is_some (place_in m name) ≡ true → HasFirsts names m → HasFirsts (names ++ name ∷ []) m
    again s h q =
        ⊎_elim
        (λ t. let found = some (place_in m q) (subst (λ n. is_some (place_in m n) ≡ true) (sym ((bytes_eq-Decides q name).0 t)) s) in
        found.1 ∙ sym (position_keeps (bytes_eq q) names name found.0 (sym (h q) ∙ found.1)))
        (λ f. h q ∙ sym (position_skips (bytes_eq q) names name f))
        (cases_Bool (bytes_eq q name))

    -- a new name has the last place
    pub added : (n : BTreeMap (Vec ℕ A) ℕ) → is_some (place_in m name) ≡ false → Changes n (Some (length names)) → HasFirsts names m → HasFirsts (names ++ name ∷ []) n
    added n s u h q =
        ⊎_elim
        (λ t. let lacks : position (bytes_eq q) names ≡ None = sym (h q) ∙ subst (λ r. place_in m r ≡ None) (sym ((bytes_eq-Decides q name).0 t)) (none (place_in m name) s) in
        changed n (Some (length names)) u q ∙ cond-true (bytes_eq name q) _ _ (nat_list_eq_equiv.symm name q ∙ t) ∙ sym (position_last (bytes_eq q) names name t lacks))
        (λ f. changed n (Some (length names)) u q ∙ cond-false (bytes_eq name q) _ _ (nat_list_eq_equiv.symm name q ∙ f) ∙ h q ∙ sym (position_skips (bytes_eq q) names name f))
        (cases_Bool (bytes_eq q name))

    lacks_last : HasFirsts (names ++ name ∷ []) m → place_in m name ≡ Some (length names) → position (bytes_eq name) names ≡ None
    lacks_last h s = is_none (position (bytes_eq name) names) refl
      where
        is_none : (o : Option ℕ) → position (bytes_eq name) names ≡ o → o ≡ None
        is_none None e = refl
        is_none (Some i) e =
            let same : Some i ≡ Some (length names) = sym (position_keeps (bytes_eq name) names name i e) ∙ sym (h name) ∙ s in
            grind (arith, same, (position-Some (bytes_eq name) names i [] e).0)

    -- the last name, which had the last place, has none
    pub taken : (n : BTreeMap (Vec ℕ A) ℕ) → place_in m name ≡ Some (length names) → Changes n None → HasFirsts (names ++ name ∷ []) m → HasFirsts names n
    taken n s u h q =
        ⊎_elim
        (λ t. changed n None u q ∙ cond-true (bytes_eq name q) _ _ (nat_list_eq_equiv.symm name q ∙ t) ∙ subst (λ r. None ≡ position (bytes_eq r) names) (sym ((bytes_eq-Decides q name).0 t)) (sym (lacks_last h s)))
        (λ f. changed n None u q ∙ cond-false (bytes_eq name q) _ _ (nat_list_eq_equiv.symm name q ∙ f) ∙ h q ∙ position_skips (bytes_eq q) names name f)
        (cases_Bool (bytes_eq q name))

    stays : HasFirsts (names ++ name ∷ []) m → (place_in m name ≡ Some (length names) → ⊥) → place_in m name ≡ position (bytes_eq name) names
    stays h s = by (position (bytes_eq name) names) refl
      where
        by : (o : Option ℕ) → position (bytes_eq name) names ≡ o → place_in m name ≡ position (bytes_eq name) names
        by None e = absurd (s (h name ∙ position_last (bytes_eq name) names name (nat_list_eq_equiv.refl name) e))
        by (Some i) e = h name ∙ position_keeps (bytes_eq name) names name i e ∙ sym e

    -- the last name, which stands before too, keeps its place
    pub left : (place_in m name ≡ Some (length names) → ⊥) → HasFirsts (names ++ name ∷ []) m → HasFirsts names m
    left s h q =
        ⊎_elim
        (λ t. subst (λ r. place_in m r ≡ position (bytes_eq r) names) (sym ((bytes_eq-Decides q name).0 t)) (stays h s))
        (λ f. h q ∙ position_skips (bytes_eq q) names name f)
        (cases_Bool (bytes_eq q name))

-- what an error kept
pub at_error : {T E P : Type 0} (r : Result T E) → is_err r ≡ true → OnErr r P → P
at_error (Ok x) e p = absurd (false≢true e)
at_error (Err x) e p = p

-- what was added last is taken away
pub popped : {X : Type 0} (xs ys old : List X) (x : X) (r : Option X) → old ≡ xs ++ x ∷ [] → MatchOption r ((old ≡ []) × (ys ≡ [])) (λ last. old ≡ ys ++ last ∷ []) → ys ≡ xs
popped xs ys old x None e p = absurd (omega (arith, ap length (sym p.0 ∙ e), length-append xs (x ∷ [])))
popped xs ys old x (Some y) e p = (same_from_push ys xs y x (sym p ∙ e)).0

module _ {X : Type 0} (p : X → Bool) where
  stands : (b : Bool) (n m : ℕ) (r : Bool) → nat_lt n m ≡ r → nat_lt (cond (not b) (1 + n) 0) (1 + m) ≡ (b || r)
  stands true n m r e = grind arith
  stands false n m r e = grind (arith, e)

  -- what has a first place is there
  pub is_some-position : (xs : List X) → is_some (position p xs) ≡ list_any p xs
  is_some-position xs = placed (nat_lt (position_or_len p xs) (length xs)) (position_or_len p xs) ∙ within_length xs
    where
      placed : (b : Bool) (i : ℕ) → is_some (cond b (Some i) None) ≡ b
      placed true i = refl
      placed false i = refl

      within_length : (ys : List X) → nat_lt (position_or_len p ys) (length ys) ≡ list_any p ys
      within_length [] = refl
      within_length (y ∷ ys) =
          let more : length (y ∷ ys) ≡ 1 + length ys = omega arith in
          ap (λ n. nat_lt (cond (not (p y)) (1 + position_or_len p ys) 0) n) more ∙ stands (p y) (position_or_len p ys) (length ys) (list_any p ys) (within_length ys)
