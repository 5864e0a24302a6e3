-- Terms in the place of variables, where each variable that occurs has its term.
use Rattle.std.specs.Prelude.{◌≡◌, ℕ, Bool, true, List, map, Option, Some, slice_get, unwrap_or}
use Rattle.std.specs.List.{list_any}
use Rattle.std.proofs.Common.{refl, sym, ap, subst, ◌∙◌}
use Rattle.std.proofs.lemmas.Bool.{or_left, or_right}
use Rattle.sw_logic.specs.declared.syntax.Signature.{Signature}
use Rattle.sw_logic.specs.declared.syntax.Term.{Term}
use Rattle.sw_logic.specs.declared.syntax.Term.TheVariants.{Variable}
use Rattle.sw_logic.specs.Truth.{World, args_of, place_from, value_in, value_of, values_of}
use Rattle.sw_logic.specs.Terms.{has, put}
use Rattle.sw_truth.specs.Sorting.{HasSort, HaveSorts}
use Rattle.sw_truth.proofs.Growing.{Stage, Grows, symbol_stays, term_at, value_of-Apply, put-Variable, put-Apply}
use Rattle.sw_truth.proofs.Ranging.{has-Variable, has-Apply}
use Rattle.std.proofs.lemmas.Bool.{eq-eqb}

-- sorts of terms put
module _ (a d : Stage) (g : Grows a d) (terms : List Term) (sorts scope : List ℕ) where
  -- each variable that occurs has a term of its sort
  abbrev pub HasTerms : (ℕ → Bool) → Type 0
  HasTerms occurs = (v sort : ℕ) → occurs v ≡ true → slice_get scope v ≡ Some sort → HasSort d.signature sorts (put terms (Variable v)) sort

  mutual
    pub put_sort : (t : Term) (sort : ℕ) → HasSort a.signature scope t sort → HasTerms (λ x. has x t) → HasSort d.signature sorts (put terms t) sort
    put_sort t sort (HasSort.variable v s e) ok = ok v s (has-Variable v v ∙ eq-eqb v v refl) e
    put_sort t sort (HasSort.apply k s args e gives h) ok =
        subst (λ (u : Term). HasSort d.signature sorts u s.gives) (sym (put-Apply terms k args))
        (HasSort.apply k s (map (put terms) args) (symbol_stays a d g k s e) gives (put_sorts args s.args h (λ v r o. ok v r (has-Apply v k args ∙ o))))

    pub put_sorts : (ts : List Term) (ss : List ℕ) → HaveSorts a.signature scope ts ss → HasTerms (λ x. list_any (has x) ts) → HaveSorts d.signature sorts (map (put terms) ts) ss
    put_sorts ts ss HaveSorts.none ok = HaveSorts.none
    put_sorts ts ss (HaveSorts.more t us sort rest h hs) ok =
        HaveSorts.more (put terms t) (map (put terms) us) sort rest (put_sort t sort h (λ v r o. ok v r (or_left (has v t) (list_any (has v) us) o)))
        (put_sorts us rest hs (λ v r o. ok v r (or_right (has v t) (list_any (has v) us) o)))

pub all_terms : (a d : Stage) (g : Grows a d) (terms : List Term) (sorts scope : List ℕ) → HaveSorts d.signature sorts terms scope → (occurs : ℕ → Bool) → HasTerms a d g terms sorts scope occurs
all_terms a d g terms sorts scope ok occurs v sort o e =
    let there = term_at d.signature sorts terms scope v sort ok e in
    subst (λ (t : Term). HasSort d.signature sorts t sort) (sym (put-Variable terms v ∙ ap (λ (o : Option Term). unwrap_or o (Variable v)) there.1)) there.2

-- values of terms put
module _ (w : World) (sig : Signature) (terms : List Term) (scope env other : List ℕ) where
  -- each variable that occurs has the value of its term
  abbrev pub HasValues : (ℕ → Bool) → Type 0
  HasValues occurs = (v : ℕ) → occurs v ≡ true → value_of w env (put terms (Variable v)) ≡ value_of w other (Variable v)

  mutual
    pub put_value : (t : Term) (sort : ℕ) → HasSort sig scope t sort → HasValues (λ x. has x t) → value_of w env (put terms t) ≡ value_of w other t
    put_value t sort (HasSort.variable v s e) ok = ok v (has-Variable v v ∙ eq-eqb v v refl)
    put_value t sort (HasSort.apply k s args e gives h) ok =
        ap (value_of w env) (put-Apply terms k args)
        ∙ (value_of-Apply w env k (map (put terms) args)
        ∙ (ap (λ vs. value_in (slice_get w.before.tables k) (place_from w.before.sizes 0 (args_of w.signature k) vs)) (put_values args s.args h (λ v o. ok v (has-Apply v k args ∙ o)))
        ∙ sym (value_of-Apply w other k args)))

    pub put_values : (ts : List Term) (ss : List ℕ) → HaveSorts sig scope ts ss → HasValues (λ x. list_any (has x) ts) → values_of w env (map (put terms) ts) ≡ values_of w other ts
    put_values ts ss HaveSorts.none ok = refl
    put_values ts ss (HaveSorts.more t us sort rest h hs) ok =
        cc (put_value t sort h (λ v o. ok v (or_left (has v t) (list_any (has v) us) o)), put_values us rest hs (λ v o. ok v (or_right (has v t) (list_any (has v) us) o)))
