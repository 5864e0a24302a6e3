-- What is earned, and what is safe under it, is true in every reached structure.
use Rattle.std.specs.Prelude.{List, [], ◌∷◌, ◌++◌, Option}
use Rattle.std.proofs.Common.{subst}
use Rattle.sw_logic.specs.declared.syntax.Formula.{Formula}
use Rattle.sw_logic.specs.declared.structure.Structure.{Structure}
use Rattle.sw_logic.specs.Truth.{AreTrueIn, IsTrueIn}
use Rattle.sw_meaning.specs.declared.protocol.Protocol.{Protocol}
use Rattle.sw_meaning.specs.Runs.{Reached}
use Rattle.sw_meaning.specs.Runs.Reached.{start, step}
use Rattle.sw_meaning.specs.declared.template.Template.{Template}
use Rattle.sw_meaning.specs.Inductive.{EarnedAfter, Inductive}
use Rattle.sw_meaning.specs.Verdict.{Word, Verdict, SafeBy, NotSafeBy, Joins}
use Rattle.sw_meaning.specs.Laws.{IsSafe, SafeMeansSafe}
use Rattle.sw_meaning.proofs.Lists.{AreTrueIn-push}

-- the list is true in every reached structure
abbrev AlwaysTrue : Protocol → List Formula → Type 0
AlwaysTrue p g = (s : Structure) → Reached p s → AreTrueIn p.signature s g

always_inductive : (p : Protocol) (g : List Formula) (f : Formula) → Inductive p g f → AlwaysTrue p g → {s : Structure} → Reached p s → IsTrueIn p.signature s f
always_inductive p g f i h (start {s} x) = i.start s x
always_inductive p g f i h (step {s} {t} r x) = i.kept s t x (h s r) (always_inductive p g f i h r)

always_earned : (p : Protocol) (t : Option Template) (before g : List Formula) → EarnedAfter p t before g → AlwaysTrue p before → AlwaysTrue p g
always_earned p t before [] e h s r = tt
always_earned p t before (f ∷ fs) e h s r = (
  always_inductive p before f e.1 h r,
  always_earned p t (before ++ f ∷ []) fs e.3 (λ u q. AreTrueIn-push p.signature u before f (h u q) (always_inductive p before f e.1 h q)) s r,
)

always_safe : (p : Protocol) (g : List Formula) → SafeBy p g → AlwaysTrue p g → {s : Structure} → Reached p s → AreTrueIn p.signature s p.safeties
always_safe p g b h (start {s} x) = b.start s x
always_safe p g b h (step {s} {t} r x) = b.step s t x (h s r) (always_safe p g b h r)

always_joined : (p : Protocol) (g : List Formula) (f : Formula) → NotSafeBy p g → Joins p g f → AlwaysTrue p g → {s : Structure} → Reached p s → AreTrueIn p.signature s p.safeties × IsTrueIn p.signature s f
always_joined p g f n j h (start {s} x) = (n.start s x, j.start s x)
always_joined p g f n j h (step {s} {t} r x) =
    let both = always_joined p g f n j h r in
    (j.safe s t x (h s r) both.0 both.1, j.kept s t x (h s r) both.0 both.1)

safe_by_word : (p : Protocol) (t : Option Template) (g : List Formula) (w : Word) → Verdict p t g w → IsSafe w → AlwaysTrue p g → (s : Structure) → Reached p s → AreTrueIn p.signature s p.safeties
safe_by_word p t g w (Verdict.violated e v) ok h s r = absurd (subst IsSafe e ok)
safe_by_word p t g w (Verdict.safe e b) ok h s r = always_safe p g b h r
safe_by_word p t g w (Verdict.safe_with f e n i j) ok h s r = (always_joined p g f n j h r).0
safe_by_word p t g w (Verdict.exhausted e n i x) ok h s r = absurd (subst IsSafe e ok)
safe_by_word p t g w (Verdict.unsettled e n i) ok h s r = absurd (subst IsSafe e ok)

pub safe_means_safe : SafeMeansSafe
safe_means_safe p breadth finish g w earned verdict ok s r =
    let always : AlwaysTrue p g = always_earned p breadth [] g earned (λ _ _. tt) in
    (always s r, safe_by_word p finish g w verdict ok always s r)
