use Rattle.std.proofs.Common.{ℕ, List, subst, rules}
use Rattle.std.specs.List.{AllByRecursion}
use Rattle.sw_core.specs.Machine.{parts_in}
use Rattle.sw_walk.specs.Parts.{part_at}
use Rattle.sw_hand.specs.Hands.{IsGoodBy}
use Rattle.sw_seek.specs.Steps.{IsPassed, searched}
use Rattle.sw_seek.proofs.Standing.{none_of_good}
use Rattle.sw_seek.proofs.considering.Seeking.take.Goals as goal

pub returns-clause-taken : goal.returns-clause-taken
returns-clause-taken g c =
    let s = c.args.self.now in
    let m = searched g.B.Walk.template s in
    let ps : List (List (List ℕ)) = g.B.Walk.part_lists s.task.now.space.now in
    let hand = c.seek_part.new.hand in
    let told = subst (IsPassed m s.entries.now s.budget c.clear.new.hand hand (part_at ps c.args.part)) c.in_default.is c.in_ok-found.ensures.passed in
    let good = subst (λ qs. AllByRecursion (IsGoodBy m s.entries.now hand.kept hand.used.items) (part_at qs c.args.part)) c.requires.can.can.are_parts told.1 in
    record {
      more = search rules;
      by_this = c.in_ok-settled.settled;
      is_drawn = c.in_ok-push.ensures.ok;
      is_settled = c.in_ok-push-2.ensures.ok;
      named = c.in_ok-settled.ensures.part;
      promised = c.in_ok-settled.ensures.promised;
      none = none_of_good m s.entries.now hand.kept hand.used.items (part_at (parts_in m) c.args.part) c.requires.can.finish good;
    }
