-- There is one answer, but where a budget was spent.
use Rattle.std.specs.Prelude.{◌≡◌, ◌⊎◌, ◌<◌, ℕ, List, Option, Some, length, slice_get}
use Rattle.std.proofs.Common.{arith, refl, sym, ap, subst, ◌∙◌, inl, inr}
use Rattle.std.proofs.lemmas.Bool.{cases_lt}
use Rattle.std.proofs.lemmas.Option.{same_Some, slice_get_within}
use Rattle.sw_logic.specs.declared.syntax.Formula.{Formula}
use Rattle.sw_logic.specs.declared.query.Query.{Query}
use Rattle.sw_meaning.specs.declared.protocol.Protocol.{Protocol}
use Rattle.sw_meaning.specs.declared.protocol.Transition.{Transition}
use Rattle.sw_queries.specs.Queries.{safety_start_query_of}
use Rattle.sw_universe.specs.declared.sizes.Size.{Size}
use Rattle.sw_decide.specs.Decision.{size_of_query, IsPast}
use Rattle.sw_verdict.specs.declared.judging.SafetyQuery.{SafetyQuery}
use Rattle.sw_verdict.specs.declared.judging.SafetyQuery.TheVariants.{Start, Step}
use Rattle.sw_verdict.specs.declared.judging.Judged.{Judged}
use Rattle.sw_verdict.specs.declared.judging.Judged.TheVariants.{Violated, Safe, Open, Spent, TooLarge}
use Rattle.sw_verdict.specs.Judgement.{IsCleared, IsMet, IsTooLargeBy, AreCleared, IsAsked, Ends, IsAnswered, IsSpentAnswer, OneJudgement, step_of}

abbrev IsStart : SafetyQuery → Type 0
IsStart Start = Unit {0}
IsStart (Step n) = ⊥

not_both : (n : ℕ) → Start ≡ Step n → ⊥
not_both n e = subst IsStart e tt

met_open : (q : Query) → IsMet q → IsCleared q → ⊥
met_open q m c = c.none m.some.0 m.some.1

large_open : (q : Query) (size : Size) → IsTooLargeBy q size → IsCleared q → ⊥
large_open q size l c = c.within l.past

module _ (p : Protocol) (g : List Formula) where
  -- the two names are the same, and so are the queries
  record Same (m n : SafetyQuery) (q r : Query) : Type 0 where
    name : m ≡ n
    query : q ≡ r

  one_asked : (m n : SafetyQuery) (q r : Query) → IsAsked p g q m → IsAsked p g r n → (IsCleared q → ⊥) → (IsCleared r → ⊥) → Same m n q r
  one_asked m n q r (IsAsked.start e) (IsAsked.start f) h k = record { name = refl; query = e ∙ sym f }
  one_asked m n q r (IsAsked.start e) (IsAsked.step j u f i start before) h k = absurd (h (subst IsCleared (sym e) start))
  one_asked m n q r (IsAsked.step j u f i start before) (IsAsked.start e) h k = absurd (k (subst IsCleared (sym e) start))
  one_asked m n q r (IsAsked.step i t e d start before) (IsAsked.step j u f c again earlier) h k = elim (cases_lt i j) [
    | inl below ↦ absurd (h (subst IsCleared (sym d) (earlier i below t e)))
    | inr past ↦ elim (cases_lt j i) [
      | inl below ↦ absurd (k (subst IsCleared (sym c) (before j below u f)))
      | inr also ↦
          let same : i ≡ j = omega arith in
          let one : t ≡ u = same_Some t u (sym e ∙ (ap (slice_get p.transitions) same ∙ f)) in
          record { name = ap Step same; query = d ∙ (ap (step_of p g) one ∙ sym c) }
    ]
  ]

  -- where each query is cleared, so is one that is asked
  all_cleared : IsCleared (safety_start_query_of p) → AreCleared p g (length p.transitions) → (n : SafetyQuery) (q : Query) → IsAsked p g q n → IsCleared q
  all_cleared start steps n q (IsAsked.start e) = subst IsCleared (sym e) start
  all_cleared start steps n q (IsAsked.step i t e d _ _) = subst IsCleared (sym d) (steps i (slice_get_within p.transitions i t e) t e)

  met_is : (m n : SafetyQuery) → Ends p g m IsMet → Ends p g n IsMet → m ≡ n
  met_is m n a b = (one_asked m n a.query b.query a.asked b.asked (met_open a.query a.known) (met_open b.query b.known)).name

  met_not_large : (m n : SafetyQuery) (size : Size) → Ends p g m IsMet → Ends p g n (λ q. IsTooLargeBy q size) → ⊥
  met_not_large m n size a b =
      let same = one_asked m n a.query b.query a.asked b.asked (met_open a.query a.known) (large_open b.query size b.known) in
      a.known.within (subst (λ (q : Query). IsPast (size_of_query q)) (sym same.query) b.known.past)

  large_is : (m n : SafetyQuery) (s t : Size) → Ends p g m (λ q. IsTooLargeBy q s) → Ends p g n (λ q. IsTooLargeBy q t) → TooLarge m s ≡ TooLarge n t
  large_is m n s t a b =
      let same = one_asked m n a.query b.query a.asked b.asked (large_open a.query s a.known) (large_open b.query t b.known) in
      ap (λ k. TooLarge k s) same.name ∙ ap (TooLarge n) (a.known.is ∙ (ap size_of_query same.query ∙ sym b.known.is))

  cleared_not_met : (n : SafetyQuery) → IsCleared (safety_start_query_of p) → AreCleared p g (length p.transitions) → Ends p g n IsMet → ⊥
  cleared_not_met n start steps b = met_open b.query b.known (all_cleared start steps n b.query b.asked)

  cleared_not_large : (n : SafetyQuery) (size : Size) → IsCleared (safety_start_query_of p) → AreCleared p g (length p.transitions) → Ends p g n (λ q. IsTooLargeBy q size) → ⊥
  cleared_not_large n size start steps b = large_open b.query size b.known (all_cleared start steps n b.query b.asked)

  one : (m n : Option ℕ) (a b : Judged) → IsAnswered p g m a → IsAnswered p g n b → (IsSpentAnswer a ⊎ IsSpentAnswer b) ⊎ (a ≡ b)
  one m n (Spent k r) b h i = inl (inl tt)
  one m n Violated (Spent k r) h i = inl (inr tt)
  one m n Safe (Spent k r) h i = inl (inr tt)
  one m n Open (Spent k r) h i = inl (inr tt)
  one m n (TooLarge j s) (Spent k r) h i = inl (inr tt)
  one m n Violated Violated h i = inr refl
  one m n Violated Safe h i = absurd (cleared_not_met Start i.0 i.1 h)
  one m n Violated Open h i = absurd (not_both i.0 (met_is Start (Step i.0) h i.1))
  one m n Violated (TooLarge k t) h i = absurd (met_not_large Start k t h i)
  one m n Safe Violated h i = absurd (cleared_not_met Start h.0 h.1 i)
  one m n Safe Safe h i = inr refl
  one m n Safe Open h i = absurd (cleared_not_met (Step i.0) h.0 h.1 i.1)
  one m n Safe (TooLarge k t) h i = absurd (cleared_not_large k t h.0 h.1 i)
  one m n Open Violated h i = absurd (not_both h.0 (met_is Start (Step h.0) i h.1))
  one m n Open Safe h i = absurd (cleared_not_met (Step h.0) i.0 i.1 h.1)
  one m n Open Open h i = inr refl
  one m n Open (TooLarge k t) h i = absurd (met_not_large (Step h.0) k t h.1 i)
  one m n (TooLarge k t) Violated h i = absurd (met_not_large Start k t i h)
  one m n (TooLarge k t) Safe h i = absurd (cleared_not_large k t i.0 i.1 h)
  one m n (TooLarge k t) Open h i = absurd (met_not_large (Step i.0) k t i.1 h)
  one m n (TooLarge j s) (TooLarge k t) h i = inr (large_is j k s t h i)

pub one_judgement : OneJudgement
one_judgement p g = one p g
