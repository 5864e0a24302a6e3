use Rattle.std.proofs.Common.{◌≡◌, IsTrue, false, get_or, drop}
use Rattle.sw_scan.specs.Spelling.{is_blank, IsFirst}
use Rattle.sw_scan.proofs.Cut.{at_blank, at_comment, at_token, at_bad, at_end, rest_is}
use Rattle.sw_scan.proofs.Unique.{one_scan}
use Rattle.sw_scan.proofs.scan.Goals as goal

pub loop-at-preserved-then-is_blank : goal.loop-at-preserved-then-is_blank
loop-at-preserved-then-is_blank c =
    let blank : IsTrue (is_blank (get_or c.args.text.now c.loop-at.at 0)) = cc in
    at_blank _ _ _ c.loop-at.invariant c.loop-at-test.true blank

pub loop-at-preserved-then-text-at-eq35 : goal.loop-at-preserved-then-text-at-eq35
loop-at-preserved-then-text-at-eq35 c = at_comment _ _ _ _ c.loop-at.invariant c.comment_end-at.ensures

pub loop-at-preserved : goal.loop-at-preserved
loop-at-preserved c =
    let first : IsFirst (drop c.loop-at.at c.args.text.now) c.in-Some.kind c.in-Some.len = rw rest_is at c.in-Some.ensures in
    rw c.in_ok-push.ensures.items (at_token _ _ _ _ _ c.loop-at.invariant first)

pub returns-in_default-clause-scans : goal.returns-in_default-clause-scans
returns-in_default-clause-scans c =
    let blank : is_blank (get_or c.args.text.now c.loop-at.at 0) ≡ false = cc in
    let none = rw rest_is at c.in_default.ensures in
    at_bad _ _ _ c.loop-at.invariant c.loop-at-test.true blank c.if-text-at-eq35.false none

pub returns-in_default-clause-no_other : goal.returns-in_default-clause-no_other
returns-in_default-clause-no_other c =
    let blank : is_blank (get_or c.args.text.now c.loop-at.at 0) ≡ false = cc in
    let none = rw rest_is at c.in_default.ensures in
    λ r other.
    one_scan _ _ _ r (at_bad _ _ _ c.loop-at.invariant c.loop-at-test.true blank c.if-text-at-eq35.false none) other

pub returns-clause-scans : goal.returns-clause-scans
returns-clause-scans c = at_end _ _ _ c.loop-at.invariant c.loop-at-test.false

pub returns-clause-no_other : goal.returns-clause-no_other
returns-clause-no_other c = λ r other. one_scan _ _ _ r (at_end _ _ _ c.loop-at.invariant c.loop-at-test.false) other
