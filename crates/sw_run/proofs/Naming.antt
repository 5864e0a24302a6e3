-- The options fix the templates over a protocol, and a fault of their texts leaves none; the same texts name the same templates.
use Rattle.std.specs.Prelude.{◌≡◌, List, ℕ, Option, Some, None, Result, Ok, Err}
use Rattle.std.proofs.Common.{sym, ap, ◌∙◌, subst}
use Rattle.std.proofs.lemmas.Option.{same_Some}
use Rattle.sw_meaning.specs.declared.protocol.Protocol.{Protocol}
use Rattle.sw_meaning.specs.declared.template.Template.{Template}
use Rattle.sw_words.specs.declared.commands.Options.{Options}
use Rattle.sw_space.specs.declared.faults.SpaceFault.{SpaceFault}
use Rattle.sw_space.specs.Named.{HasSpace}
use Rattle.sw_space.proofs.OneSpace.{one_space}
use Rattle.sw_run.specs.Ending.{Names, NamesFault, NamesBy}
use Rattle.sw_run.specs.Laws.{HaveSameTemplates}

pub same_named : (t u : Template) → ◌≡◌ {A = Result Template SpaceFault} (Ok t) (Ok u) → t ≡ u
same_named t u h = cc

pub same_fault : (e f : SpaceFault) → ◌≡◌ {A = Result Template SpaceFault} (Err e) (Err f) → e ≡ f
same_fault e f h = cc

pub unfaulty : (t : Template) (f : SpaceFault) → ◌≡◌ {A = Result Template SpaceFault} (Ok t) (Err f) → ⊥
unfaulty t f h = cc

module _ (given : Option (List ℕ)) (p : Protocol) (beside : Option Template) where
  -- the text of an option has one answer
  one_answer : (text other : List ℕ) (r s : Result Template SpaceFault) → given ≡ Some text → given ≡ Some other → HasSpace p beside text r → HasSpace p beside other s → r ≡ s
  one_answer text other r s e e' has has' = one_space p beside other r s (subst (λ x. HasSpace p beside x r) (same_Some text other (sym e ∙ e')) has) has'

  pub one_name : (t u : Option Template) → Names given p beside t → Names given p beside u → t ≡ u
  one_name t u (Names.without is none) (Names.without is' none') = none ∙ sym none'
  one_name t u (Names.without is none) (Names.named text v e has some) = absurd cc
  one_name t u (Names.named text v e has some) (Names.without is none) = absurd cc
  one_name t u (Names.named text v e has some) (Names.named text' v' e' has' some') = some ∙ (ap Some (same_named v v' (one_answer text text' (Ok v) (Ok v') e e' has has')) ∙ sym some')

  pub named_not_faulty : (t : Option Template) (f : SpaceFault) → Names given p beside t → NamesFault given p beside f → ⊥
  named_not_faulty t f (Names.without is none) (text, e, has) = absurd cc
  named_not_faulty t f (Names.named text' u e' has' some) (text, e, has) = unfaulty u f (one_answer text' text (Ok u) (Err f) e' e has' has)

  pub one_named_fault : (f g : SpaceFault) → NamesFault given p beside f → NamesFault given p beside g → f ≡ g
  one_named_fault f g (text, e, has) (text', e', has') = same_fault f g (one_answer text text' (Err f) (Err g) e e' has has')

module _ (options : Options) (p : Protocol) where
  one_breadth : (t u : Option Template) → Names options.breadth p None t → Names options.breadth p None u → t ≡ u
  one_breadth = one_name options.breadth p None

  pub one_naming : (t u v w : Option Template) → NamesBy options p t u → NamesBy options p v w → (t ≡ v) × (u ≡ w)
  one_naming t u v w a b =
      let first : t ≡ v = one_breadth t v a.breadth b.breadth in
      (first, one_name options.finish p v u w (subst (λ x. Names options.finish p x u) first a.finish) b.finish)

  finish_faulty_beside : (t v : Option Template) (f : SpaceFault) → Names options.breadth p None t → Names options.breadth p None v → NamesFault options.finish p t f → NamesFault options.finish p v f
  finish_faulty_beside t v f a b = subst (λ x. NamesFault options.finish p x f) (one_breadth t v a b)

  pub named_not_unfinished : (t u v : Option Template) (f : SpaceFault) → NamesBy options p t u → Names options.breadth p None v → NamesFault options.finish p v f → ⊥
  named_not_unfinished t u v f a b fault = named_not_faulty options.finish p t u f a.finish (finish_faulty_beside v t f b a.breadth fault)

  pub one_finish_fault : (t v : Option Template) (f g : SpaceFault) → Names options.breadth p None t → Names options.breadth p None v → NamesFault options.finish p t f → NamesFault options.finish p v g
      → f ≡ g
  one_finish_fault t v f g a b x y = one_named_fault options.finish p v f g (finish_faulty_beside t v f a b x) y

-- what is said of the texts of the one is said of those of the other
module _ (o v : Options) (same : HaveSameTemplates o v) (p : Protocol) where
  pub breadth_by : (P : Option (List ℕ) → Type 0) → P v.breadth → P o.breadth
  breadth_by P = subst P (sym same.breadth)

  pub finish_by : (P : Option (List ℕ) → Type 0) → P v.finish → P o.finish
  finish_by P = subst P (sym same.finish)

  pub named_by : (t u : Option Template) → NamesBy v p t u → NamesBy o p t u
  named_by t u by = record { breadth = breadth_by (λ given. Names given p None t) by.breadth; finish = finish_by (λ given. Names given p t u) by.finish }
