-- Equal terms in the places of equal ones: relations stay true, and functions keep their values' class.
use Rattle.std.specs.Prelude.{◌≡◌, ℕ, suc, ◌<◌, true, List, [], ◌∷◌, ◌++◌, length, Option, Some, slice_get, slice_index, slice_set}
use Rattle.std.proofs.Common.{arith, refl, sym, subst, ap, ◌∙◌, append_assoc}
use Rattle.sw_logic.specs.declared.syntax.SymbolKind.{SymbolKind}
use Rattle.sw_logic.specs.declared.syntax.SymbolKind.TheVariants.{Relation, Constant, Function}
use Rattle.sw_logic.specs.declared.syntax.Symbol.{Symbol}
use Rattle.sw_logic.specs.Truth.{size_of}
use Rattle.sw_logic.specs.Sorted.{gives_value}
use Rattle.sw_truth.specs.declared.sets.SkolemSet.{SkolemSet}
use Rattle.sw_truth.specs.declared.instances.Instance.TheVariants.{Congruent}
use Rattle.sw_truth.specs.Models.{AreOfSorts}
use Rattle.sw_universe.specs.declared.universe.Universe.{Universe}
use Rattle.sw_instances.specs.Instances.{AreArgumentsOf}
use Rattle.sw_quotient.specs.Terms.{Numbering, IsClosed, numbering, number}
use Rattle.sw_quotient.specs.Valuations.{Valuation}
use Rattle.sw_quotient.specs.Truths.{AreEqualitiesTrue, IsKept}
use Rattle.sw_quotient.proofs.Classes.{equality_of}

below-append : (sizes ss rs ts us : List ℕ) → AreOfSorts sizes ss ts → AreOfSorts sizes rs us → AreOfSorts sizes (ss ++ rs) (ts ++ us)
below-append sizes [] rs [] us h g = g
below-append sizes [] rs (t ∷ ts) us h g = absurd h
below-append sizes (s ∷ ss) rs [] us h g = absurd h
below-append sizes (s ∷ ss) rs (t ∷ ts) us h g = (h.0, below-append sizes ss rs ts us h.1 g)

below-length : (sizes ss ts : List ℕ) → AreOfSorts sizes ss ts → length ts ≡ length ss
below-length sizes [] [] h = refl
below-length sizes [] (t ∷ ts) h = absurd h
below-length sizes (s ∷ ss) [] h = absurd h
below-length sizes (s ∷ ss) (t ∷ ts) h = ap suc (below-length sizes ss ts h.1)

set-middle : (front : List ℕ) (t u : ℕ) (back : List ℕ) → slice_set (front ++ t ∷ back) (length front) u ≡ front ++ u ∷ back
set-middle [] t u back = refl
set-middle (x ∷ front) t u back = ap (λ xs. x ∷ xs) (set-middle front t u back)

index-middle : (front : List ℕ) (t : ℕ) (back : List ℕ) → slice_index (front ++ t ∷ back) (length front) ≡ t
index-middle [] t back = refl
index-middle (x ∷ front) t back = index-middle front t back

middle-within : (front : List ℕ) (t : ℕ) (back : List ℕ) → length front < length (front ++ t ∷ back)
middle-within [] t back = omega arith
middle-within (x ∷ front) t back = let rest = middle-within front t back in omega arith

below-middle : (sizes sorts front : List ℕ) (u : ℕ) (back : List ℕ) → AreOfSorts sizes sorts (front ++ u ∷ back) → u < size_of sizes (slice_index sorts (length front))
below-middle sizes [] [] u back h = absurd h
below-middle sizes [] (t ∷ front) u back h = absurd h
below-middle sizes (s ∷ sorts) [] u back h = h.0
below-middle sizes (s ∷ sorts) (t ∷ front) u back h = below-middle sizes sorts front u back h.1

one-more : (front : List ℕ) (t : ℕ) (back : List ℕ) → (front ++ t ∷ []) ++ back ≡ front ++ t ∷ back
one-more front t back = append_assoc front (t ∷ []) back

-- each term equals the one in its place
abbrev pub AreEqual : Valuation → List ℕ → List ℕ → List ℕ → Type 0
AreEqual v [] ts us = Unit {0}
AreEqual v (sort ∷ sorts) [] us = Unit {0}
AreEqual v (sort ∷ sorts) (t ∷ ts) [] = Unit {0}
AreEqual v (sort ∷ sorts) (t ∷ ts) (u ∷ us) = (v.equal sort t u ≡ true) × AreEqual v sorts ts us

module _ (n : Numbering) (v : Valuation) (args : List ℕ) (P : List ℕ → Type 0) (step : (front : List ℕ) (t u : ℕ) (back : List ℕ) → AreOfSorts n.counts args (front ++ t ∷ back) → AreOfSorts n.counts args (front ++ u ∷ back) → length front < length args → v.equal (slice_index args (length front)) t u ≡ true → P (front ++ t ∷ back) → P (front ++ u ∷ back)) where
  moved : (before front sorts ts us : List ℕ) → args ≡ before ++ sorts → AreOfSorts n.counts before front → AreOfSorts n.counts sorts ts → AreOfSorts n.counts sorts us
      → AreEqual v sorts ts us → P (front ++ ts) → P (front ++ us)
  moved before front [] [] [] e f h g same p = p
  moved before front [] (t ∷ ts) us e f h g same p = absurd h
  moved before front [] [] (u ∷ us) e f h g same p = absurd g
  moved before front (sort ∷ sorts) [] us e f h g same p = absurd h
  moved before front (sort ∷ sorts) (t ∷ ts) [] e f h g same p = absurd g
  moved before front (sort ∷ sorts) (t ∷ ts) (u ∷ us) e f h g same p =
      let lengths : length front ≡ length before = below-length n.counts before front f in
      let here : slice_index args (length front) ≡ sort = ap (slice_index args) lengths ∙ ap (λ xs. slice_index xs (length before)) e ∙ index-middle before sort sorts in
      let old : AreOfSorts n.counts args (front ++ t ∷ ts) = subst (λ xs. AreOfSorts n.counts xs (front ++ t ∷ ts)) (sym e) (below-append n.counts before (sort ∷ sorts) front (t ∷ ts) f h) in
      let new : AreOfSorts n.counts args (front ++ u ∷ ts) = subst (λ xs. AreOfSorts n.counts xs (front ++ u ∷ ts)) (sym e) (below-append n.counts before (sort ∷ sorts) front (u ∷ ts) f (g.0, h.1)) in
      let within : length front < length args = rw (e, lengths) (middle-within before sort sorts) in
      let first = step front t u ts old new within (subst (λ k. v.equal k t u ≡ true) (sym here) same.0) p in
      let later = moved (before ++ sort ∷ []) (front ++ u ∷ []) sorts ts us (e ∙ sym (one-more before sort sorts)) (below-append n.counts before (sort ∷ []) front (u ∷ []) f (g.0, tt)) h.1 g.1 same.1 (subst P (sym (one-more front u ts)) first) in
      subst P (one-more front u us) later

  pub moves : (ts us : List ℕ) → AreOfSorts n.counts args ts → AreOfSorts n.counts args us → AreEqual v args ts us → P ts → P us
  moves ts us h g same p = moved [] [] args ts us refl tt h g same p

module _ (set : SkolemSet) (u : Universe) (firsts : List ℕ) (v : Valuation) (true_of : AreEqualitiesTrue set u firsts v) (f : ℕ) (x : Symbol) (is : slice_get set.signature.symbols f ≡ Some x) where
  abbrev n : Numbering
  n = numbering u firsts

  kept_at : (front : List ℕ) (t w : ℕ) (back : List ℕ) → AreOfSorts n.counts x.args (front ++ t ∷ back) → AreOfSorts n.counts x.args (front ++ w ∷ back) → length front < length x.args
      → v.equal (slice_index x.args (length front)) t w ≡ true → IsKept set.signature n v f x.kind x.gives (front ++ t ∷ back) (front ++ w ∷ back)
  kept_at front t w back old new within same =
      let other : w < size_of n.counts (slice_index x.args (length front)) = below-middle n.counts x.args front w back new in
      let place : AreArgumentsOf u (slice_get set.signature.symbols f) (length front) (front ++ t ∷ back) w = subst (λ (o : Option Symbol). AreArgumentsOf u o (length front) (front ++ t ∷ back) w) (sym is) (within, old, other) in
      let said = true_of (Congruent f (length front) (front ++ t ∷ back) w) tt place x is (subst (λ k. v.equal (slice_index x.args (length front)) k w ≡ true) (sym (index-middle front t back)) same) in
      subst (IsKept set.signature n v f x.kind x.gives (front ++ t ∷ back)) (set-middle front t w back) said

  -- a relation is true of terms where it is of equal ones
  pub relation-moves : (ts us : List ℕ) → x.kind ≡ Relation → AreOfSorts n.counts x.args ts → AreOfSorts n.counts x.args us → AreEqual v x.args ts us → v.holds f ts ≡ true → v.holds f us ≡ true
  relation-moves ts us k h g same e =
      moves n v x.args (λ ws. v.holds f ws ≡ true)
      (λ front t u back old new within equal p.
      let kept = kept_at front t u back old new within equal in
      let as_relation : IsKept set.signature n v f Relation x.gives (front ++ t ∷ back) (front ++ u ∷ back) = subst (λ (kind : SymbolKind). IsKept set.signature n v f kind x.gives (front ++ t ∷ back) (front ++ u ∷ back)) k kept in
      as_relation p)
      ts us h g same e

  value-kept : (kind : SymbolKind) (ts us : List ℕ) → gives_value kind ≡ true → IsKept set.signature n v f kind x.gives ts us → v.equal x.gives (number set.signature n f ts) (number set.signature n f us) ≡ true
  value-kept Relation ts us k h = cc
  value-kept Constant ts us k h = h
  value-kept Function ts us k h = h

  -- applications to equal terms are equal
  pub values-move : IsClosed set.signature n → (ts us : List ℕ) → gives_value x.kind ≡ true → AreOfSorts n.counts x.args ts → AreOfSorts n.counts x.args us → AreEqual v x.args ts us
      → v.equal x.gives (number set.signature n f ts) (number set.signature n f us) ≡ true
  values-move closed ts us k h g same =
      let e = equality_of set u firsts v true_of x.gives in
      let low : (ws : List ℕ) → AreOfSorts n.counts x.args ws → number set.signature n f ws < size_of n.counts x.gives = λ ws b. closed f x ws is k b in
      moves n v x.args (λ ws. v.equal x.gives (number set.signature n f ts) (number set.signature n f ws) ≡ true)
      (λ front t u back old new within equal p.
      let kept = value-kept x.kind (front ++ t ∷ back) (front ++ u ∷ back) k (kept_at front t u back old new within equal) in
      e.transitive (number set.signature n f ts) (number set.signature n f (front ++ t ∷ back)) (number set.signature n f (front ++ u ∷ back)) (low ts h) (low (front ++ t ∷ back) old) (low (front ++ u ∷ back) new) p kept)
      ts us h g same (e.reflexive (number set.signature n f ts) (low ts h))
