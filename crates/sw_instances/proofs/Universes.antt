-- The ground terms of a signature have values of their sorts.
use Rattle.std.proofs.Common.{◌≡◌, ℕ, zero, suc, ◌+◌, ◌<◌, true, List, [], ◌∷◌, map, length, Option, Some, unwrap_or, refl, sym, ap, ◌∙◌, subst, arith}
use Rattle.std.specs.Prelude.{slice_get, Contains}
use Rattle.std.specs.List.{range_with_len}
use Rattle.std.proofs.lemmas.Option.{none-some, same_Some}
use Rattle.sw_logic.specs.declared.syntax.Signature.{Signature}
use Rattle.sw_logic.specs.declared.syntax.Term.{Term}
use Rattle.sw_logic.specs.declared.syntax.Term.TheVariants.{Variable}
use Rattle.sw_logic.specs.Truth.{size_of, value_of, world}
use Rattle.sw_universe.specs.GroundTerms.{terms_of, universe_of}
use Rattle.sw_logic.specs.Signatures.{is_signature}
use Rattle.sw_universe.specs.Laws.{ValuesAreInRange, UniverseIsSorted}
use Rattle.sw_universe.specs.ByNumber.{term_at}
use Rattle.sw_universe.specs.declared.universe.Universe.{Universe}
use Rattle.sw_instances.specs.Values.{HaveValues}

-- an element of one of several lists
record Found (lists : List (List Term)) (sort n : ℕ) : Type 0 where
  list : List Term
  at : slice_get lists sort ≡ Some list
  among : Contains list (unwrap_or (slice_get list n) (Variable 0))

within : (ts : List Term) (n : ℕ) (d : Term) → n < length ts → Contains ts (unwrap_or (slice_get ts n) d)
within [] n d h = absurd (omega arith)
within (t ∷ ts) zero d h = (0, omega arith, refl)
within (t ∷ ts) (suc n) d h = let c = within ts n d (omega arith) in (suc c.0, omega arith, c.2)

found : (lists : List (List Term)) (sort n : ℕ) → n < size_of (map length lists) sort → Found lists sort n
found [] sort n h = absurd (omega arith)
found (l ∷ lists) zero n h = record { list = l; at = refl; among = within l n (Variable 0) h }
found (l ∷ lists) (suc sort) n h =
    let f = found lists sort n h in
    record { list = f.list; at = f.at; among = f.among }

-- the list of a sort
listed : {X : Type 0} (f : ℕ → X) (a n sort : ℕ) (x : X) → slice_get (map f (range_with_len a n)) sort ≡ Some x → x ≡ f (a + sort)
listed f a zero sort x e = absurd (none-some x e)
listed f a (suc n) zero x e = sym (same_Some (f a) x e) ∙ ap f (omega arith)
listed f a (suc n) (suc sort) x e = listed f (a + 1) n sort x e ∙ ap f (omega arith)

of_lists : ValuesAreInRange → UniverseIsSorted → (sig : Signature) → is_signature sig ≡ true → HaveValues sig (record { lists = universe_of sig })
of_lists in_range sorted sig good s fit sort n h =
    let lists = universe_of sig in
    let f = found lists sort n h in
    let is : f.list ≡ terms_of sig sort = listed (terms_of sig) 0 (length sig.sorts) sort f.list f.at ∙ ap (terms_of sig) (omega arith) in
    let t = unwrap_or (slice_get f.list n) (Variable 0) in
    let same : term_at (record { lists = lists }) sort n ≡ t = ap (λ (o : Option (List Term)). unwrap_or (slice_get (unwrap_or o []) n) (Variable 0)) f.at in
    subst (λ x. value_of (world sig s s) [] x < size_of s.sizes sort) (sym same)
    (in_range sig s t sort fit (sorted sig sort t good (subst (λ l. Contains l t) is f.among)))

pub have_values : ValuesAreInRange → UniverseIsSorted → (sig : Signature) (u : Universe) → is_signature sig ≡ true → u.lists ≡ universe_of sig → HaveValues sig u
have_values in_range sorted sig u good is =
    let made : List (List Term) → Universe = λ ls. record { lists = ls } in
    subst (λ (ls : List (List Term)). HaveValues sig (made ls)) (sym is) (of_lists in_range sorted sig good)
