use Rattle.std.proofs.Common.{arith, ◌≡◌, ◌+◌, ◌<◌, ◌&&◌, ◌||◌, ◌==◌, ◌∷◌, nat_eq, ℕ, List, length, take, true, false, refl, sym, subst, ap, ◌∙◌}
use Rattle.std.specs.Prelude.{Some, slice_get}
use Rattle.std.specs.Cmp.Lexicographic.{pointwise, same_text}
use Rattle.std.proofs.lemmas.Option.{slice_get-get_or}
use Rattle.sw_truth.specs.declared.instances.Atom.TheVariants.{Holds, Equal, Inner}
use Rattle.sw_quotient.specs.Valuations.{same_terms, same_atom, valuation}
use Rattle.sw_quotient.specs.declared.reading.Equation.{Equation}
use Rattle.sw_quotient.specs.declared.reading.TrueAtoms.{TrueAtoms}
use Rattle.sw_quotient.specs.Told.{told}
use Rattle.sw_quotient.proofs.Told.{told_more, inserted, untold, same_equation}
use Rattle.sw_quotient.proofs.reading.TrueAtoms.new.Goals as goal
use Rattle.sw_quotient.proofs.reading.TrueAtoms.new.Goals.{then-values-i+in-Holds+in_ok-key-in-Holds+in_ok-insert-in-Holds, then-values-i+in-Equal+in_ok-insert-in-Equal, then-values-i+in-Inner, else-values-i}

pub loop-i-preserved : goal.loop-i-preserved
loop-i-preserved c =
    let atoms = c.args.atoms.now in
    let values = c.args.values.now in
    let i = c.loop-i.i in
    let v = told c.loop-i.truths in
    let atom : slice_get atoms i ≡ Some c.index-atoms-i.result = slice_get-get_or atoms i c.index-atoms-i.result c.loop-i-test.true ∙ ap Some (sym c.index-atoms-i.is) in
    let within : i < length values = omega (arith, c.loop-i-test.true, c.requires) in
    let value = slice_get-get_or values i false within in
    let goes = λ (truths : TrueAtoms). told truths ≡ valuation (take (i + 1) atoms) (take (i + 1) values) in
    elim c.if-values-i.branch [
      | then-values-i+in-Holds+in_ok-key-in-Holds+in_ok-insert-in-Holds w ↦
          let g : ℕ = w.in-Holds.symbol in
          let us : List ℕ = w.in-Holds.terms in
          let key = w.in_ok-key-in-Holds.key in
          let key_is : key.items ≡ g ∷ us = w.in_ok-key-in-Holds.ensures ∙ ap (λ xs. g ∷ xs) w.as_slice.ensures in
          let new : TrueAtoms = record { relations = w.insert.new.self; equations = c.loop-i.truths.equations } in
          subst goes (sym w.truths-is)
          (told_more v (told new) atoms values i (Holds g us) true (atom ∙ ap Some w.in-Holds.is) (value ∙ ap Some w.if-values-i.true) c.loop-i.invariant
          (λ f ts.
          inserted (λ k. pointwise nat_eq key.items k.items) (λ k. same_terms k.items (f ∷ ts)) key c.loop-i.truths.relations.keys w.insert.new.self.keys w.in_ok-insert-in-Holds.field-0
          w.in_ok-insert-in-Holds.ensures.added w.in_ok-insert-in-Holds.ensures.keys (λ k h. ap (λ xs. same_terms xs (f ∷ ts)) (sym (same_text key.items k.items (sym h))))
          ∙ ap (λ xs. (same_terms xs (f ∷ ts) && true) || v.holds f ts) key_is)
          (λ sort t u. refl))
      | then-values-i+in-Equal+in_ok-insert-in-Equal w ↦
          let s : ℕ = w.in-Equal.sort in
          let a : ℕ = w.in-Equal.t in
          let b : ℕ = w.in-Equal.u in
          let key : Equation = record { sort = s; t = a; u = b } in
          let new : TrueAtoms = record { relations = c.loop-i.truths.relations; equations = w.insert-in-Equal.new.self } in
          subst goes (sym w.truths-is)
          (told_more v (told new) atoms values i (Equal s a b) true (atom ∙ ap Some w.in-Equal.is) (value ∙ ap Some w.if-values-i.true) c.loop-i.invariant
          (λ f ts. refl)
          (λ sort t u.
          inserted _ (λ (e : Equation). (e.sort == sort) && ((e.t == t) && (e.u == u))) key c.loop-i.truths.equations.keys w.insert-in-Equal.new.self.keys w.in_ok-insert-in-Equal.field-0
          w.in_ok-insert-in-Equal.ensures.added w.in_ok-insert-in-Equal.ensures.keys (λ k h. same_equation key k sort t u h)))
      | then-values-i+in-Inner w ↦
          subst goes (sym w.truths-is)
          (told_more v v atoms values i Inner true (atom ∙ ap Some w.in-Inner.is) (value ∙ ap Some w.if-values-i.true) c.loop-i.invariant (λ f ts. refl) (λ sort t u. refl))
      | else-values-i w ↦
          subst goes (sym w.truths-is)
          (told_more v v atoms values i c.index-atoms-i.result false atom (value ∙ ap Some w.if-values-i.false) c.loop-i.invariant
          (λ f ts. untold (same_atom c.index-atoms-i.result (Holds f ts)) (v.holds f ts)) (λ sort t u. untold (same_atom c.index-atoms-i.result (Equal sort t u)) (v.equal sort t u)))
    ]
