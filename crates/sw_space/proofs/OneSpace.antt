-- A text has one answer over a protocol.
use Rattle.std.specs.Prelude.{◌≡◌, ℕ, ◌<◌, ◌≤◌, ◌++◌, List, length, slice_index, Option, Some, None, Result, Ok, Err, IfSome}
use Rattle.std.proofs.Common.{arith, sym, ap, subst, ◌∙◌}
use Rattle.sw_lists.proofs.Each.{of_contained}
use Rattle.sw_logic.specs.declared.syntax.Edge.{Edge}
use Rattle.sw_logic.specs.declared.syntax.Signature.{Signature}
use Rattle.sw_logic.specs.Strata.{AreRanks, FirstOnCycle, Leads}
use Rattle.sw_meaning.specs.declared.protocol.Protocol.{Protocol}
use Rattle.sw_meaning.specs.declared.template.Template.{Template}
use Rattle.sw_meaning.specs.Classes.{atoms, cubes}
use Rattle.sw_meaning.specs.Edges.{protocol_edges, IsStratifiedWith}
use Rattle.sw_meaning.specs.ProtocolText.{sort_text}
use Rattle.sw_protocol.proofs.OneReading.{same_first}
use Rattle.sw_template.specs.Limits.{IsOver}
use Rattle.sw_template_text.specs.declared.errors.TemplateError.{TemplateError}
use Rattle.sw_template_text.specs.Texts.{}
use Rattle.sw_template_text.proofs.OneTemplate.{one_template}
use Rattle.sw_enumerate.specs.declared.errors.SpaceError.{SpaceError}
use Rattle.sw_enumerate.specs.Refusals.{RefusesSpace}
use Rattle.sw_space.specs.declared.faults.SpaceFault.{SpaceFault}
use Rattle.sw_space.specs.declared.faults.SpaceFault.TheVariants as fault
use Rattle.sw_space.specs.declared.faults.NoSpace.{NoSpace}
use Rattle.sw_space.specs.declared.faults.NoSpace.TheVariants.{Faulty, Memory}
use Rattle.sw_space.specs.Named.{read_fault, size_fault, IsWithinLimits, edges_with, Fits, HasSpace, OneSpace}

-- ---- cycles

rises : (sorts : ℕ) (edges : List Edge) (ranks : List ℕ) → AreRanks sorts edges ranks → (a b : ℕ) → Leads edges a b → slice_index ranks a < slice_index ranks b
rises sorts edges ranks h a b (Leads.step e i) = of_contained (λ (e : Edge). slice_index ranks e.from < slice_index ranks e.to) edges e h.rises i
rises sorts edges ranks h a b (Leads.onward x y z first second) =
    let one = rises sorts edges ranks h x y first in
    let two = rises sorts edges ranks h y z second in
    omega (arith, one, two)

no_cycle : (p : Protocol) (extra : List Edge) (sort : ℕ) → IsStratifiedWith p extra → FirstOnCycle (protocol_edges p ++ extra) sort → ⊥
no_cycle p extra sort s c = below (slice_index s.ranks sort) (rises (length p.signature.sorts) (protocol_edges p ++ extra) s.ranks s.are sort sort c.cycle)
  where
    below : (n : ℕ) → n < n → ⊥
    below n h = omega (arith, h)

-- ---- counts

same_fault : (x y : NoSpace) (f g : SpaceFault) → x ≡ y → x ≡ Faulty f → y ≡ Faulty g → f ≡ g
same_fault x y f g e h k = let both : Faulty f ≡ Faulty g = sym h ∙ (e ∙ k) in cc

over_once : (limit count m n : ℕ) → IsOver limit count m → IsOver limit count n → m ≡ n
over_once limit count m n a b = a.is ∙ sym b.is

not_over : (limit count n : ℕ) → IsOver limit count n → count ≤ limit → ⊥
not_over limit count n a h = omega (arith, a.over, h)

module _ (sig : Signature) (t : Template) where
  one_size : (e d : SpaceError) (f g : SpaceFault) → RefusesSpace sig t e → RefusesSpace sig t d → size_fault e ≡ Faulty f → size_fault d ≡ Faulty g → f ≡ g
  one_size (SpaceError.AtomsOver m) (SpaceError.AtomsOver n) f g a b h k = same_fault _ _ f g (ap (λ x. Faulty (fault.AtomsOver x)) (over_once 512 (length (atoms sig t)) m n a b)) h k
  one_size (SpaceError.AtomsOver m) (SpaceError.CubesOver n) f g a b h k = absurd (not_over 512 (length (atoms sig t)) m a b.0)
  one_size (SpaceError.AtomsOver m) (SpaceError.SpaceTooLarge n) f g a b h k = absurd (not_over 512 (length (atoms sig t)) m a b.0)
  one_size (SpaceError.CubesOver m) (SpaceError.AtomsOver n) f g a b h k = absurd (not_over 512 (length (atoms sig t)) n b a.0)
  one_size (SpaceError.CubesOver m) (SpaceError.CubesOver n) f g a b h k = same_fault _ _ f g (ap (λ x. Faulty (fault.CubesOver x)) (over_once 1048576 (length (cubes sig t)) m n a.1 b.1)) h k
  one_size (SpaceError.CubesOver m) (SpaceError.SpaceTooLarge n) f g a b h k = absurd (not_over 1048576 (length (cubes sig t)) m a.1 b.1)
  one_size (SpaceError.SpaceTooLarge m) (SpaceError.AtomsOver n) f g a b h k = absurd (not_over 512 (length (atoms sig t)) n b a.0)
  one_size (SpaceError.SpaceTooLarge m) (SpaceError.CubesOver n) f g a b h k = absurd (not_over 1048576 (length (cubes sig t)) n b.1 a.1)
  one_size (SpaceError.SpaceTooLarge m) (SpaceError.SpaceTooLarge n) f g a b h k = same_fault _ _ f g (ap (λ x. Faulty (fault.SpaceTooLarge x)) (a.2.is ∙ sym b.2.is)) h k
  one_size SpaceError.Memory d f g a b h k = absurd (unfaulty f h)
    where
      unfaulty : (f : SpaceFault) → Memory ≡ Faulty f → ⊥
      unfaulty f e = cc
  one_size e SpaceError.Memory f g a b h k = absurd (unfaulty g k)
    where
      unfaulty : (f : SpaceFault) → Memory ≡ Faulty f → ⊥
      unfaulty f e = cc

  not_within : (e : SpaceError) (f : SpaceFault) → RefusesSpace sig t e → size_fault e ≡ Faulty f → IsWithinLimits sig t → ⊥
  not_within (SpaceError.AtomsOver n) f a h w = not_over 512 (length (atoms sig t)) n a w.atoms
  not_within (SpaceError.CubesOver n) f a h w = not_over 1048576 (length (cubes sig t)) n a.1 w.cubes
  not_within (SpaceError.SpaceTooLarge n) f a h w = let over = a.2.over in let few = w.classes in omega (arith, over, few)
  not_within SpaceError.Memory f a h w = cc

-- ---- a template over a protocol

module _ (p : Protocol) (o : Option Template) (t : Template) where
  one_fit : (r s : Result Template SpaceFault) → Fits p o t r → Fits p o t s → r ≡ s
  one_fit r s (Fits.cycle a x e) (Fits.cycle b y f) =
      e ∙ (ap (λ n. Err (fault.NotStratified (sort_text p.signature n))) (same_first (protocol_edges p ++ edges_with o t) a b x y) ∙ sym f)
  one_fit r s (Fits.cycle a x e) (Fits.over d g strata over is f) = absurd (no_cycle p (edges_with o t) a strata x)
  one_fit r s (Fits.cycle a x e) (Fits.within strata w f) = absurd (no_cycle p (edges_with o t) a strata x)
  one_fit r s (Fits.over d g strata over is e) (Fits.cycle a x f) = absurd (no_cycle p (edges_with o t) a strata x)
  one_fit r s (Fits.over d g strata over is e) (Fits.over c h other more at f) = e ∙ (ap Err (one_size p.signature t d c g h over more is at) ∙ sym f)
  one_fit r s (Fits.over d g strata over is e) (Fits.within other w f) = absurd (not_within p.signature t d g over is w)
  one_fit r s (Fits.within strata w e) (Fits.cycle a x f) = absurd (no_cycle p (edges_with o t) a strata x)
  one_fit r s (Fits.within strata w e) (Fits.over d g other over is f) = absurd (not_within p.signature t d g over is w)
  one_fit r s (Fits.within strata w e) (Fits.within other v f) = e ∙ sym f

-- ---- texts

same_error : (e d : TemplateError) → ◌≡◌ {A = Result Template TemplateError} (Err e) (Err d) → e ≡ d
same_error e d h = cc

same_template : (t u : Template) → ◌≡◌ {A = Result Template TemplateError} (Ok t) (Ok u) → t ≡ u
same_template t u h = cc

apart : (t : Template) (e : TemplateError) → ◌≡◌ {A = Result Template TemplateError} (Ok t) (Err e) → ⊥
apart t e h = cc

module _ (p : Protocol) (o : Option Template) (text : List ℕ) where
  one_answer : (r s : Result Template SpaceFault) → HasSpace p o text r → HasSpace p o text s → r ≡ s
  one_answer r s (HasSpace.unread e f has is x) (HasSpace.unread d g other at y) =
      x ∙ (ap Err (same_fault (read_fault e) (read_fault d) f g (ap read_fault (same_error e d (one_template p.signature text (Err e) (Err d) has other))) is at) ∙ sym y)
  one_answer r s (HasSpace.unread e f has is x) (HasSpace.read t other fits) = absurd (apart t e (one_template p.signature text (Ok t) (Err e) other has))
  one_answer r s (HasSpace.read t has fits) (HasSpace.unread e f other is x) = absurd (apart t e (one_template p.signature text (Ok t) (Err e) has other))
  one_answer r s (HasSpace.read t has fits) (HasSpace.read u other more) =
      one_fit p o t r s fits (subst (λ x. Fits p o x s) (same_template u t (one_template p.signature text (Ok u) (Ok t) other has)) more)

pub one_space : OneSpace
one_space p o text r s a b = one_answer p o text r s a b

-- ---- the answers of the calls

module _ (p : Protocol) (o : Option Template) (text : List ℕ) where
  pub no_other : OneSpace → (a : Option (Result Template SpaceFault)) → IfSome a (HasSpace p o text) → (r : Result Template SpaceFault) → HasSpace p o text r → IfSome a (λ s. s ≡ r)
  no_other one None has r is = tt
  no_other one (Some s) has r is = one p o text s r has is
