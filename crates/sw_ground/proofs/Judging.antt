-- A verdict over a set and a universe that equal those of a query is one on the query's refutation.
use Rattle.std.specs.Prelude.{◌≡◌, ◌<◌, ◌+◌, ◌-◌, ◌^◌, ℕ, Bool, true, false, List, length, min, IfOk, OnOk, IsTrue, Result, Ok, Err}
use Rattle.std.specs.List.{AllByRecursion}
use Rattle.std.proofs.Common.{refl, sym, ap, subst, arith, ◌∙◌}
use Rattle.sw_refute.specs.declared.check.StepsVerdict.{StepsVerdict}
use Rattle.sw_refute.specs.declared.check.StepsVerdict.TheVariants as steps
use Rattle.sw_refute.specs.Verdict.{Judges}
use Rattle.sw_logic.specs.declared.syntax.Term.{Term}
use Rattle.sw_logic.specs.declared.query.Query.{Query}
use Rattle.sw_logic.specs.Sorted.{well_sorted}
use Rattle.sw_truth.specs.declared.sets.Piece.{Piece}
use Rattle.sw_truth.specs.declared.sets.SkolemSet.{SkolemSet}
use Rattle.sw_universe.specs.declared.universe.Universe.{Universe}
use Rattle.sw_truth.specs.declared.instances.Refutation.{Refutation}
use Rattle.sw_truth.specs.declared.instances.Ground.{Ground}
use Rattle.sw_skolem.specs.Skolem.{skolem_of}
use Rattle.sw_universe.specs.GroundTerms.{universe_of}
use Rattle.sw_ground.specs.declared.check.RefutationVerdict.{RefutationVerdict}
use Rattle.sw_ground.specs.declared.check.RefutationVerdict.TheVariants.{Refused}
use Rattle.sw_instances.specs.Instances.{AreInstances}
use Rattle.sw_instances.specs.Numbered.{IsGround}
use Rattle.sw_ground.specs.Verdict.{Accepts, Refuses, step, end, JudgesOver, JudgesRefutation, universe, IsStratifiedQuery}
use Rattle.sw_skolem.specs.Laws.{SkolemIsWellFormed, SkolemKeepsStrata}
use Rattle.sw_logic.specs.Signatures.{is_signature}
use Rattle.sw_logic.specs.Queries.{IsQuery}
use Rattle.sw_logic.specs.Strata.{AreRanks, IsStratified, function_edges}

pub of_query : (q : Query) (set : SkolemSet) (u : Universe) (r : Refutation) (v : RefutationVerdict) → set ≡ skolem_of q → u.lists ≡ universe_of set.signature
    → JudgesOver set u r v → JudgesRefutation q r v
of_query q set u r v e f h =
    let made : List (List Term) → Universe = λ l. record { lists = l } in
    let g : JudgesOver set (universe set) r v = subst (λ x. JudgesOver set x r v) (ap made f) h in
    subst (λ x. JudgesOver x (universe x) r v) e g

-- what the Skolem form of a query has
pub record IsReady (set : SkolemSet) : Type 0 where
  pub signature : is_signature set.signature ≡ true
  pub strata : IsStratified set.signature
  pub pieces : AllByRecursion (λ (p : Piece). well_sorted set.signature false p.matrix p.vars ≡ true) set.pieces

pub ready : SkolemIsWellFormed → SkolemKeepsStrata → (q : Query) → IsQuery q → IsStratifiedQuery q → (set : SkolemSet) → set ≡ skolem_of q → IsReady set
ready forms keeps q good strata set e =
    let form = forms q good in
    let edges = function_edges (skolem_of q).signature.symbols in
    let ranks : AreRanks (length (skolem_of q).signature.sorts) edges strata.ranks =
    subst (λ (n : ℕ). AreRanks n edges strata.ranks) (ap length (sym form.sorts)) (keeps q strata.ranks good strata.are) in
    subst IsReady (sym e) (record { signature = form.signature; strata = record { ranks = strata.ranks; are = ranks }; pieces = form.pieces })

pub if_refused : {E : Type 0} (P : RefutationVerdict → Type 0) (o : Result RefutationVerdict E) (place : ℕ) → IfOk o (λ v. v ≡ Refused place) → P (Refused place) → IfOk o P
if_refused P (Ok v) place e h = subst P (sym e) h
if_refused P (Err x) place e h = tt

-- where it is told, a sum that stopped at the largest number is the sum
pub if_refused_at : {E : Type 0} (P : RefutationVerdict → Type 0) (o : Result RefutationVerdict E) (place sum : ℕ) → IfOk o (λ v. v ≡ Refused place) → OnOk o (place < 2 ^ 32)
    → place ≡ min sum (2 ^ 64 - 1) → P (Refused sum) → IfOk o P
if_refused_at P (Ok v) place sum e fits same h =
    let is : place ≡ sum = omega arith in
    subst P (sym (e ∙ ap Refused is)) h
if_refused_at P (Err x) place sum e fits same h = tt

module _ (set : SkolemSet) (u : Universe) (r : Refutation) (g : Ground) (is : AreInstances set u r.instances) (made : IsGround set u r.instances g) where
  pub accepts : (v : StepsVerdict) (b : Bool) → v ≡ steps.Accepted b → b ≡ true → Judges g.cnf r.steps v → Accepts set u r
  accepts v b e t h =
      let j : Judges g.cnf r.steps (steps.Accepted true) = subst (Judges g.cnf r.steps) (e ∙ ap steps.Accepted t) h in
      record { ground = g; instances = is; made = made; steps = j.0; empty = j.1.0 refl }

  pub ends : (v : StepsVerdict) (b : Bool) → v ≡ steps.Accepted b → b ≡ false → Judges g.cnf r.steps v → Refuses set u r (length r.instances + length r.steps)
  ends v b e f h =
      let j : Judges g.cnf r.steps (steps.Accepted false) = subst (Judges g.cnf r.steps) (e ∙ ap steps.Accepted f) h in
      end g is made j.0 (λ empty. let t : IsTrue false = j.1.1 empty in cc)

  pub refuses : (v : StepsVerdict) (k : ℕ) → v ≡ steps.Refused k → Judges g.cnf r.steps v → Refuses set u r (length r.instances + k)
  refuses v k e h = let j : Judges g.cnf r.steps (steps.Refused k) = subst (Judges g.cnf r.steps) e h in step k g is made j
