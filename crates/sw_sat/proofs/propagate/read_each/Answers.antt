use Rattle.std.proofs.Common.{◌≡◌, ℕ, inl, sym, Some, subst, ⊎_elim, length, take, get_or, slice_get}
use Rattle.std.proofs.lemmas.List.{take_all, take_more}
use Rattle.std.proofs.lemmas.List.Elements.{Contains-push_cases}
use Rattle.std.specs.List.{Contains}
use Rattle.sw_sat.specs.Trail.{all_clauses}
use Rattle.sw_sat.proofs.Growth.{grows_more, grows_length}
use Rattle.sw_sat.proofs.Quiet.{quiet_grows}
use Rattle.sw_sat.proofs.propagate.read_each.Goals as goal

pub loop-number-preserved : goal.loop-number-preserved
loop-number-preserved c =
    let clauses = all_clauses c.args.cnf.now c.args.steps.now in
    let numbers = c.args.numbers.now in
    let n = c.loop-number.number-index in
    let old = c.args.trail.now.entries.items in
    let mid = c.loop-number.trail.entries.items in
    let new = c.read.new.trail.entries.items in
    let i = c.loop-number.invariant in
    record {
      state = c.read.ensures.state;
      grows = grows_more old mid new i.grows c.read.ensures.grows;
      quiet = λ k d among is. ⊎_elim
          (λ (x : Contains (take n numbers) k). quiet_grows d (length old) mid new c.read.ensures.grows (grows_length old mid i.grows) (i.quiet k d x is))
          (λ (e : get_or numbers n 0 ≡ k). inl (c.if-read.ensures.ends d (subst (λ (m : ℕ). slice_get clauses m ≡ Some d) (sym e) is)))
          (Contains-push_cases (take n numbers) (get_or numbers n 0) k (subst (λ ns. Contains ns k) (take_more numbers n 0 c.loop-number-test.true) among));
    }

pub returns-clause-ends : goal.returns-clause-ends
returns-clause-ends c = λ k d among is.
    c.loop-number.invariant.quiet k d (subst (λ ns. Contains ns k) (sym (take_all c.loop-number.number-index c.args.numbers.now c.loop-number-test.false)) among) is
