-- What a report says is true in every reached structure.
use Rattle.std.specs.Prelude.{◌≡◌, List, [], ◌∷◌, ◌++◌, Option}
use Rattle.std.proofs.Common.{sym, subst, ◌∙◌}
use Rattle.sw_logic.specs.declared.syntax.Formula.{Formula}
use Rattle.sw_logic.specs.declared.structure.Structure.{Structure}
use Rattle.sw_logic.specs.Truth.{AreTrueIn, IsTrueIn}
use Rattle.sw_meaning.specs.declared.protocol.Protocol.{Protocol}
use Rattle.sw_meaning.specs.declared.template.Template.{Template}
use Rattle.sw_meaning.specs.Runs.{Reached}
use Rattle.sw_meaning.specs.Runs.Reached.{start, step}
use Rattle.sw_meaning.specs.Inductive.{EarnedAfter, Inductive}
use Rattle.sw_meaning.specs.Verdict.{Word, Verdict, Joins}
use Rattle.sw_meaning.specs.Laws.{IsSafe}
use Rattle.sw_meaning.proofs.Lists.{AreTrueIn-push}
use Rattle.sw_meaning.proofs.Safety as meaning
use Rattle.sw_report.specs.Words.{word_status}
use Rattle.sw_run.specs.Laws.{SafeMeansSafe}

-- the list is true in every reached structure
abbrev AlwaysTrue : Protocol → List Formula → Type 0
AlwaysTrue p g = (s : Structure) → Reached p s → AreTrueIn p.signature s g

inductive_true : (p : Protocol) (g : List Formula) (f : Formula) → Inductive p g f → AlwaysTrue p g → {s : Structure} → Reached p s → IsTrueIn p.signature s f
inductive_true p g f i h (start {s} x) = i.start s x
inductive_true p g f i h (step {s} {t} r x) = i.kept s t x (h s r) (inductive_true p g f i h r)

earned_true : (p : Protocol) (t : Option Template) (before g : List Formula) → EarnedAfter p t before g → AlwaysTrue p before → AlwaysTrue p g
earned_true p t before [] e h s r = tt
earned_true p t before (f ∷ fs) e h s r = (
  inductive_true p before f e.1 h r,
  earned_true p t (before ++ f ∷ []) fs e.3 (λ u q. AreTrueIn-push p.signature u before f (h u q) (inductive_true p before f e.1 h q)) s r,
)

-- with safety in every reached structure, a formula that joins is true there too
joined_true : (p : Protocol) (g : List Formula) (f : Formula) → Joins p g f → AlwaysTrue p g → AlwaysTrue p p.safeties → {s : Structure} → Reached p s → IsTrueIn p.signature s f
joined_true p g f j h safe (start {s} x) = j.start s x
joined_true p g f j h safe (step {s} {t} r x) = j.kept s t x (h s r) (safe s r) (joined_true p g f j h safe r)

zero_is_safe : (w : Word) → word_status w ≡ 0 → IsSafe w
zero_is_safe Word.violated e = absurd cc
zero_is_safe Word.safe e = tt
zero_is_safe (Word.safe_with f) e = tt
zero_is_safe Word.exhausted e = absurd cc
zero_is_safe Word.unsettled e = absurd cc

same_formula : (f h : Formula) → Word.safe_with f ≡ Word.safe_with h → f ≡ h
same_formula f h e = cc

-- the formula of the word joins
word_joins : (p : Protocol) (u : Option Template) (g : List Formula) (w : Word) (f : Formula) → Verdict p u g w → w ≡ Word.safe_with f → Joins p g f
word_joins p u g w f (Verdict.violated e v) is = absurd cc
word_joins p u g w f (Verdict.safe e b) is = absurd cc
word_joins p u g w f (Verdict.safe_with h e n i j) is = subst (Joins p g) (same_formula h f (sym e ∙ is)) j
word_joins p u g w f (Verdict.exhausted e n i x) is = absurd cc
word_joins p u g w f (Verdict.unsettled e n i) is = absurd cc

pub safe_means_safe : SafeMeansSafe
safe_means_safe options p a r s reached = record { list = always s reached; safe = λ zero. safeties (zero_is_safe r.report.word (sym r.report.ends ∙ zero)) s reached; joined = joined }
  where
    always : AlwaysTrue p r.report.list
    always = earned_true p r.breadth [] r.report.list r.report.found.earned (λ _ _. tt)

    safeties : IsSafe r.report.word → AlwaysTrue p p.safeties
    safeties safe t q = (meaning.safe_means_safe p r.breadth r.finish r.report.list r.report.word r.report.found.earned r.report.says.verdict safe t q).1

    joined : (f : Formula) → r.report.word ≡ Word.safe_with f → IsTrueIn p.signature s f
    joined f is = joined_true p r.report.list f (word_joins p r.finish r.report.list r.report.word f r.report.says.verdict is) always (safeties (subst IsSafe (sym is) tt)) reached
