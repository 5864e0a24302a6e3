-- Terms and their classes.
use Rattle.std.specs.Prelude.{◌≡◌, ℕ, zero, suc, ◌<◌, false, List, [], ◌∷◌, map, Some, slice_get, slice_index}
use Rattle.std.proofs.Common.{rules, refl, sym, subst, ap, ◌∙◌}
use Rattle.sw_logic.specs.declared.syntax.Symbol.{Symbol}
use Rattle.sw_logic.specs.declared.syntax.Signature.{Signature}
use Rattle.sw_logic.specs.declared.syntax.Term.{Term, the_lemmas}
use Rattle.sw_logic.specs.declared.syntax.Term.TheVariants.{Variable, Apply}
use Rattle.sw_logic.specs.declared.structure.Structure.{Structure}
use Rattle.sw_logic.specs.Truth.{World, world, size_of, args_or_none, place, place_from, value_in, value_of, values_of}
use Rattle.sw_truth.specs.Models.{AreOfSorts}
use Rattle.sw_truth.specs.Sorting.{HasSort, HaveSorts}
use Rattle.sw_quotient.specs.Terms.{Numbering, IsClosed, number, number_of}
use Rattle.sw_quotient.specs.Valuations.{Valuation}
use Rattle.sw_quotient.specs.Classes.{classes}
use Rattle.sw_quotient.specs.Quotient.{IsQuotient}

module _ (sig : Signature) (n : Numbering) (v : Valuation) (class : ℕ → ℕ → ℕ) (s : Structure) (q : IsQuotient sig n v class s) (closed : IsClosed sig n) (scope ts : List ℕ) (within : AreOfSorts n.counts scope ts) where
  abbrev pub here : World
  here = world sig s s

  abbrev pub elements : List ℕ
  elements = classes class scope ts

  -- the value of a term is the class of the term that it stands for
  pub record Agrees (t : Term) (sort : ℕ) : Type 0 where
    pub value : value_of here elements t ≡ class sort (number_of sig n ts t)
    pub below : number_of sig n ts t < size_of n.counts sort

  pub record Tuple (sorts : List ℕ) (args : List Term) : Type 0 where
    pub values : values_of here elements args ≡ classes class sorts (map (number_of sig n ts) args)
    pub below : AreOfSorts n.counts sorts (map (number_of sig n ts) args)

  variable_class : (sorts us : List ℕ) (x sort : ℕ) → AreOfSorts n.counts sorts us → slice_get sorts x ≡ Some sort
      → (slice_index (classes class sorts us) x ≡ class sort (slice_index us x)) × (slice_index us x < size_of n.counts sort)
  variable_class [] [] x sort h e = cc
  variable_class [] (u ∷ us) x sort h e = absurd h
  variable_class (a ∷ sorts) [] x sort h e = absurd h
  variable_class (a ∷ sorts) (u ∷ us) zero sort h e = let same : a ≡ sort = cc in subst (λ b. (class a u ≡ class b u) × (u < size_of n.counts b)) same (refl, h.0)
  variable_class (a ∷ sorts) (u ∷ us) (suc x) sort h e = variable_class sorts us x sort h.1 e

  variable : (x sort : ℕ) → slice_get scope x ≡ Some sort → Agrees (Variable x) sort
  variable x sort e =
      let value : value_of here elements (Variable x) ≡ slice_index elements x = search (rules, the_lemmas) in
      let at : number_of sig n ts (Variable x) ≡ slice_index ts x = search (rules, the_lemmas) in
      let both = variable_class scope ts x sort within e in
      record { value = value ∙ both.0 ∙ ap (class sort) (sym at); below = rw at both.1 }

  place_here : (f : ℕ) (x : Symbol) → slice_get sig.symbols f ≡ Some x → (values : List ℕ) → place here f values ≡ place_from s.sizes 0 x.args values
  place_here f x is values = ap (λ o. place_from s.sizes 0 (args_or_none o) values) is

  mutual
    pub has_class : (t : Term) (sort : ℕ) → HasSort sig scope t sort → Agrees t sort
    has_class t sort (HasSort.variable x k e) = variable x k e
    has_class t sort (HasSort.apply f x args is gives h) =
        let value : value_of here elements (Apply f false args) ≡ value_in (slice_get s.tables f) (place here f (values_of here elements args)) = search (rules, the_lemmas) in
        let at : number_of sig n ts (Apply f false args) ≡ number sig n f (map (number_of sig n ts) args) = search (rules, the_lemmas) in
        let all = tuple_of args x.args h in
        let numbers = map (number_of sig n ts) args in
        let read : value_in (slice_get s.tables f) (place here f (values_of here elements args)) ≡ value_in (slice_get s.tables f) (place_from s.sizes 0 x.args (classes class x.args numbers)) =
        ap (value_in (slice_get s.tables f)) (place_here f x is (values_of here elements args) ∙ ap (place_from s.sizes 0 x.args) all.values) in
        record {
          value = value ∙ read ∙ q.values f x numbers is gives all.below ∙ ap (class x.gives) (sym at);
          below = rw at (closed f x numbers is gives all.below);
        }

    pub tuple_of : (args : List Term) (sorts : List ℕ) → HaveSorts sig scope args sorts → Tuple sorts args
    tuple_of args sorts HaveSorts.none = record { values = refl; below = tt }
    tuple_of args sorts (HaveSorts.more t us sort rest h hs) =
        let first = has_class t sort h in
        let others = tuple_of us rest hs in
        record { values = rw (first.value, others.values) refl; below = (first.below, others.below) }
