-- An atom with terms in the place of its variables is true where the atom is at their values.
use Rattle.std.specs.Prelude.{◌≡◌, ℕ, false, List, map, Option, Some, slice_get}
use Rattle.std.proofs.Common.{sym, ap, ◌∙◌}
use Rattle.sw_logic.specs.declared.syntax.Symbol.{Symbol}
use Rattle.sw_logic.specs.declared.syntax.Term.{Term}
use Rattle.sw_logic.specs.declared.syntax.Formula.TheVariants.{Holds, Equal}
use Rattle.sw_logic.specs.declared.structure.Table.{Table}
use Rattle.sw_logic.specs.Truth.{truth, bit_in, place, place_from, args_of, value_of, values_of}
use Rattle.sw_logic.specs.Terms.{put}
use Rattle.sw_truth.specs.Sorting.{HasSort, HaveSorts}
use Rattle.sw_truth.proofs.Growing.{Stage, at, Grows, grows_on, table_stays, args_stay, value_stays, values_stay, value_of-put, values_of-put}
use Rattle.sw_truth.proofs.Truths.{truth-Holds, truth-Equal}

module _ (a b d : Stage) (g : Grows a b) (h : Grows b d) (sorts scope : List ℕ) (terms : List Term) (ok : HaveSorts b.signature sorts terms scope) (vs : List ℕ) where
  pub put_values : (ts : List Term) (ss : List ℕ) → HaveSorts a.signature scope ts ss → values_of (at d) vs (map (put terms) ts) ≡ values_of (at a) (values_of (at b) vs terms) ts
  put_values ts ss n =
      values_of-put (at d) vs terms b.signature a.signature sorts scope ok ts ss n
      ∙ (ap (λ e. values_of (at d) e ts) (values_stay b d h sorts vs terms scope ok)
      ∙ values_stay a d (grows_on a b d g h) scope (values_of (at b) vs terms) ts ss n)

  pub put_value : (t : Term) (s : ℕ) → HasSort a.signature scope t s → value_of (at d) vs (put terms t) ≡ value_of (at a) (values_of (at b) vs terms) t
  put_value t s n =
      value_of-put (at d) vs terms b.signature a.signature sorts scope ok t s n
      ∙ (ap (λ e. value_of (at d) e t) (values_stay b d h sorts vs terms scope ok)
      ∙ value_stays a d (grows_on a b d g h) scope (values_of (at b) vs terms) t s n)

  pub holds_same : (k : ℕ) (s : Symbol) (args : List Term) → slice_get a.signature.symbols k ≡ Some s → HaveSorts a.signature scope args s.args
      → truth (at d) (Holds k false (map (put terms) args)) vs ≡ truth (at a) (Holds k false args) (values_of (at b) vs terms)
  holds_same k s args e n =
      let g' = grows_on a b d g h in
      let same_args = λ (xs : List ℕ). ap (λ sizes. place_from sizes 0 (args_of d.signature k) xs) g'.sizes_are ∙ ap (λ ss. place_from a.structure.sizes 0 ss xs) (args_stay a d g' k s e) in
      truth-Holds (at d) k (map (put terms) args) vs
      ∙ (ap (λ (o : Option Table). bit_in o (place (at d) k (values_of (at d) vs (map (put terms) args)))) (table_stays a d g' k s e)
      ∙ (ap (bit_in (slice_get a.structure.tables k)) (same_args (values_of (at d) vs (map (put terms) args)) ∙ ap (place (at a) k) (put_values args s.args n))
      ∙ sym (truth-Holds (at a) k args (values_of (at b) vs terms))))

  pub equal_same : (t u : Term) (s : ℕ) → HasSort a.signature scope t s → HasSort a.signature scope u s
      → truth (at d) (Equal (put terms t) (put terms u)) vs ≡ truth (at a) (Equal t u) (values_of (at b) vs terms)
  equal_same t u s n m =
      truth-Equal (at d) (put terms t) (put terms u) vs ∙ (cc (put_value t s n, put_value u s m) ∙ sym (truth-Equal (at a) t u (values_of (at b) vs terms)))
