use Rattle.std.proofs.Common.{◌≡◌, ◌<◌, inl, Some, subst, ⊎_elim, length, slice_get, arith, ℕ}
use Rattle.std.proofs.lemmas.Bool.{cases_eq}
use Rattle.std.proofs.lemmas.Option.{slice_get_within}
use Rattle.sw_sat.specs.Trail.{all_clauses}
use Rattle.sw_sat.proofs.Growth.{grows_more, grows_length}
use Rattle.sw_sat.proofs.Quiet.{quiet_grows}
use Rattle.sw_sat.proofs.StepLists.{length-all_clauses}
use Rattle.sw_sat.proofs.propagate.read_all.Goals as goal

pub loop-number-preserved : goal.loop-number-preserved
loop-number-preserved c =
    let clauses = all_clauses c.args.cnf.now c.args.steps.now in
    let old = c.args.trail.now.entries.items in
    let mid = c.loop-number.trail.entries.items in
    let new = c.read.new.trail.entries.items in
    let i = c.loop-number.invariant in
    record {
      state = c.read.ensures.state;
      grows = grows_more old mid new i.grows c.read.ensures.grows;
      quiet = λ k d h is. ⊎_elim
          (λ (e : k ≡ c.loop-number.number). inl (c.if-read.ensures.ends d (subst (λ (m : ℕ). slice_get clauses m ≡ Some d) e is)))
          (λ (e : k ≡ c.loop-number.number → ⊥). quiet_grows d (length old) mid new c.read.ensures.grows (grows_length old mid i.grows) (i.quiet k d (omega arith) is))
          (cases_eq k c.loop-number.number);
    }

pub returns-clause-ends : goal.returns-clause-ends
returns-clause-ends c = λ k d is.
    let w : k < length (all_clauses c.args.cnf.now c.args.steps.now) = slice_get_within (all_clauses c.args.cnf.now c.args.steps.now) k d is in
    c.loop-number.invariant.quiet k d (omega (arith, length-all_clauses c.args.cnf.now c.args.steps.now, c.len.ensures)) is
