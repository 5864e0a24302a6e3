-- A refutation has one verdict.
use Rattle.std.proofs.Common.{◌≡◌, ℕ, suc, ◌+◌, ◌<◌, length, take, arith, refl, ap, ◌∙◌, subst, inl, inr}
use Rattle.std.specs.Prelude.{Bool, true, false}
use Rattle.std.proofs.lemmas.Bool.{cases_lt, false≢true}
use Rattle.std.proofs.lemmas.Option.{slice_get_cases}
use Rattle.sw_lists.proofs.Each.{each-at}
use Rattle.sw_lists.proofs.Places.{get_front}
use Rattle.sw_refute.specs.declared.check.StepsVerdict.{StepsVerdict}
use Rattle.sw_refute.specs.declared.check.StepsVerdict.TheVariants as steps
use Rattle.sw_refute.specs.declared.clauses.Cnf.{Cnf}
use Rattle.sw_refute.specs.Propagation.{AreAccepted, EndsEmpty}
use Rattle.sw_refute.specs.Verdict.{Judges, IsFirstRefused}
use Rattle.sw_refute.specs.Laws.{StepsHaveOneVerdict}
use Rattle.sw_truth.specs.declared.sets.SkolemSet.{SkolemSet}
use Rattle.sw_truth.specs.declared.instances.Refutation.{Refutation}
use Rattle.sw_truth.specs.declared.instances.Ground.{Ground}
use Rattle.sw_universe.specs.declared.universe.Universe.{Universe}
use Rattle.sw_instances.specs.Instances.{IsInstance, AreInstances}
use Rattle.sw_instances.specs.Numbered.{IsGround}
use Rattle.sw_ground.specs.declared.check.RefutationVerdict.{RefutationVerdict}
use Rattle.sw_ground.specs.declared.check.RefutationVerdict.TheVariants.{Accepted, Refused}
use Rattle.sw_ground.specs.Verdict.{IsFirstMissing, Accepts, Refuses, instance, step, end, JudgesOver}
use Rattle.sw_ground_laws.proofs.OneGround.{one_ground}

abbrev told : StepsVerdict → ℕ
told (steps.Accepted b) = 0
told (steps.Refused k) = suc k

module _ (set : SkolemSet) (u : Universe) (r : Refutation) (one : StepsHaveOneVerdict) where
  abbrev Made : Ground → Type 0
  Made g = IsGround set u r.instances g

  none_missing : (k : ℕ) → IsFirstMissing set u r.instances k → AreInstances set u r.instances → ⊥
  none_missing k m h = elim ((slice_get_cases r.instances k).1) [
    | inl x ↦ m.here x.0 x.2 (each-at (IsInstance set u) r.instances k x.0 x.2 h)
    | inr x ↦ let far = x.0 in let within = m.within in omega arith
  ]

  not_before : (k n : ℕ) → IsFirstMissing set u r.instances k → IsFirstMissing set u r.instances n → k < n → ⊥
  not_before k n a b l = elim ((slice_get_cases r.instances k).1) [
    | inl x ↦ a.here x.0 x.2 (each-at (IsInstance set u) (take n r.instances) k x.0 (get_front n r.instances k l ∙ x.2) b.before)
    | inr x ↦ let far = x.0 in let within = a.within in omega arith
  ]

  same_missing : (k n : ℕ) → IsFirstMissing set u r.instances k → IsFirstMissing set u r.instances n → k ≡ n
  same_missing k n a b = elim (cases_lt k n) [
    | inl l ↦ absurd (not_before k n a b l)
    | inr l ↦ elim (cases_lt n k) [ inl m ↦ absurd (not_before n k b a m) | inr m ↦ omega arith ]
  ]

  -- what the steps of a refutation whose instances there are come to
  record Comes (v : StepsVerdict) : Type 0 where
    ground : Ground
    instances : AreInstances set u r.instances
    made : Made ground
    judged : Judges ground.cnf r.steps v

  same_steps : (v w : StepsVerdict) → Comes v → Comes w → v ≡ w
  same_steps v w a b =
      one a.ground.cnf r.steps v w a.judged (subst (λ (c : Cnf). Judges c r.steps w) (one_ground set u r.instances b.ground a.ground b.made a.made) b.judged)

  of_accepts : Accepts set u r → Comes (steps.Accepted true)
  of_accepts a = record { ground = a.ground; instances = a.instances; made = a.made; judged = (a.steps, (λ t. a.empty, λ e. refl)) }

  of_step : (k : ℕ) (g : Ground) → AreInstances set u r.instances → Made g → IsFirstRefused g.cnf r.steps k → Comes (steps.Refused k)
  of_step k g is made f = record { ground = g; instances = is; made = made; judged = f }

  of_end : (g : Ground) → AreInstances set u r.instances → Made g → AreAccepted g.cnf.variables g.cnf.clauses r.steps → (EndsEmpty r.steps → ⊥) → Comes (steps.Accepted false)
  of_end g is made acc none = record { ground = g; instances = is; made = made; judged = (acc, (λ t. absurd (false≢true t), λ e. absurd (none e))) }

  apart : (b : Bool) (k : ℕ) → Comes (steps.Accepted b) → Comes (steps.Refused k) → ⊥
  apart b k x y = let e : 0 ≡ suc k = ap told (same_steps (steps.Accepted b) (steps.Refused k) x y) in omega arith

  not_ended : Comes (steps.Accepted true) → Comes (steps.Accepted false) → ⊥
  not_ended x y = let e : steps.Accepted true ≡ steps.Accepted false = same_steps (steps.Accepted true) (steps.Accepted false) x y in cc

  not_both : (k : ℕ) → Accepts set u r → Refuses set u r k → ⊥
  not_both k a (instance n m) = none_missing n m a.instances
  not_both k a (step n g is made f) = apart true n (of_accepts a) (of_step n g is made f)
  not_both k a (end g is made acc none) = not_ended (of_accepts a) (of_end g is made acc none)

  one_place : (k n : ℕ) → Refuses set u r k → Refuses set u r n → k ≡ n
  one_place k n (instance x m) (instance y l) = same_missing x y m l
  one_place k n (instance x m) (step y g is made f) = absurd (none_missing x m is)
  one_place k n (instance x m) (end g is made acc none) = absurd (none_missing x m is)
  one_place k n (step x g is made f) (instance y l) = absurd (none_missing y l is)
  one_place k n (step x g is made f) (step y h js also e) =
      ap (λ (j : ℕ). length r.instances + j) (let s : suc x ≡ suc y = ap told (same_steps (steps.Refused x) (steps.Refused y) (of_step x g is made f) (of_step y h js also e)) in omega arith)
  one_place k n (step x g is made f) (end h js also acc none) = absurd (apart false x (of_end h js also acc none) (of_step x g is made f))
  one_place k n (end g is made acc none) (instance y l) = absurd (none_missing y l is)
  one_place k n (end g is made acc none) (step y h js also e) = absurd (apart false y (of_end g is made acc none) (of_step y h js also e))
  one_place k n (end g is made acc none) (end h js also more nor) = refl

  pub one_verdict : (v w : RefutationVerdict) → JudgesOver set u r v → JudgesOver set u r w → v ≡ w
  one_verdict Accepted Accepted a b = refl
  one_verdict Accepted (Refused k) a b = absurd (not_both k a b)
  one_verdict (Refused k) Accepted a b = absurd (not_both k b a)
  one_verdict (Refused k) (Refused n) a b = ap Refused (one_place k n a b)
