use Rattle.std.proofs.Common.{◌≡◌, ◌≤◌, ℕ, List, length, take, sym, subst, arith}
use Rattle.std.specs.Prelude.{Option, IfSome}
use Rattle.std.specs.List.{AllByRecursion}
use Rattle.std.proofs.lemmas.List.{take_all}
use Rattle.sw_lists.proofs.Each.{each-push}
use Rattle.sw_lists.proofs.Members.{get_contains}
use Rattle.sw_template.specs.Bodies.{Class}
use Rattle.sw_walk.specs.Parts.{part_at}
use Rattle.sw_hand.specs.Hands.{IsGoodBy}
use Rattle.sw_seek.specs.Seeking.{IsCause}
use Rattle.sw_seek.specs.Steps.{IsConsidered, searched}
use Rattle.sw_seek.proofs.Firsts.{take_one, past_end, class_at, in_all, found_at}
use Rattle.sw_seek.proofs.Standing.{passed, goods_grow, none_of_good, keeps_on, keeps_grown}
use Rattle.sw_seek.proofs.considering.Seeking.seek_part.Goals as goal

pub returns-in_default-clause-passed : goal.returns-in_default-clause-passed
returns-in_default-clause-passed g c =
    let s = c.args.self.now in
    let ps : List (List (List ℕ)) = g.B.Walk.part_lists s.task.now.space.now in
    let part = part_at ps c.args.part in
    let i = c.loop-at.at in
    let hand = c.loop-at.hand in
    let past = past_end c.loop-at.next part i c.loop-at.invariant.next c.in_default.is in (
      c.loop-at.invariant.kept,
      subst (AllByRecursion (IsGoodBy (searched g.B.Walk.template s) s.entries.now hand.kept hand.used.items))
          (take_all i part past) c.loop-at.invariant.good,
    )

pub returns-clause-passed : goal.returns-clause-passed
returns-clause-passed g c =
    let s = c.args.self.now in
    let ps : List (List (List ℕ)) = g.B.Walk.part_lists s.task.now.space.now in
    let part = part_at ps c.args.part in
    let i = c.loop-at.at in
    let hand = c.loop-at.hand in
    let few : length part ≤ 4294967296 = c.first_of-next.ensures.few in (
      c.loop-at.invariant.kept,
      subst (AllByRecursion (IsGoodBy (searched g.B.Walk.template s) s.entries.now hand.kept hand.used.items))
          (take_all i part (omega (arith, few))) c.loop-at.invariant.good,
    )

pub consider-requires-clause-class : goal.consider-requires-clause-class
consider-requires-clause-class g c =
    let ps : List (List (List ℕ)) = g.B.Walk.part_lists c.args.self.now.task.now.space.now in
    let part = part_at ps c.args.part in
    let i = c.loop-at.at in
    let class = c.in-Some.body.cubes in
    let at = class_at c.loop-at.next c.in-Some.body part i c.loop-at.invariant.next c.in-Some.is in
    record {
      single = subst (λ (o : Option Class). IfSome o (λ b. b.template ≡ 0)) c.in-Some.is c.loop-at.invariant.single;
      among = in_all ps c.args.part
          class c.requires.part (get_contains part i class at);
    }

pub returns-in_err-found-clause-cause : goal.returns-in_err-found-clause-cause
returns-in_err-found-clause-cause g c =
    let s = c.args.self.now in
    passed (IsCause (searched g.B.Walk.template s) s.entries.now s.budget) c.in_err-found.field-0.0 c.from_residual.result c.from_residual.ensures.1
    c.in_err-found.ensures.cause

pub next_of-next-requires-clause-is : goal.next_of-next-requires-clause-is
next_of-next-requires-clause-is g c =
    let ps : List (List (List ℕ)) = g.B.Walk.part_lists c.args.self.now.task.now.space.now in
    let part = part_at ps c.args.part in
    let i = c.loop-at.at in
    let class = c.in-Some.body.cubes in
    let at = class_at c.loop-at.next c.in-Some.body part i c.loop-at.invariant.next c.in-Some.is in
    get_contains part i class at

pub loop-at-preserved : goal.loop-at-preserved
loop-at-preserved g c =
    let s = c.args.self.now in
    let m = searched g.B.Walk.template s in
    let entries = s.entries.now in
    let ps : List (List (List ℕ)) = g.B.Walk.part_lists s.task.now.space.now in
    let part = part_at ps c.args.part in
    let i = c.loop-at.at in
    let body : Class = c.in-Some.body in
    let class = body.cubes in
    let before = c.loop-at.hand in
    let after = c.consider.new.hand in
    let at = class_at c.loop-at.next c.in-Some.body part i c.loop-at.invariant.next c.in-Some.is in
    let told = subst (IsConsidered m entries s.budget before after body) c.in_default-2.is c.in_ok-found.ensures.considered in
    record {
      next = c.next_of-next.ensures.cubes i at;
      single = c.next_of-next.ensures.template;
      holds = c.in_ok-found.ensures.holds;
      kept = keeps_on c.args.hand.now.kept before.kept after.kept c.loop-at.invariant.kept
          (keeps_grown before.kept after.kept before.used.items after.used.items told.0);
      good = subst (AllByRecursion (IsGoodBy m entries after.kept after.used.items)) (sym (take_one part i class at))
          (each-push (IsGoodBy m entries after.kept after.used.items) (take i part) class (goods_grow m entries before.kept after.kept before.used.items
          after.used.items (take i part) told.0 c.loop-at.invariant.good) told.1);
    }

pub returns-in-Some-2-clause-passed : goal.returns-in-Some-2-clause-passed
returns-in-Some-2-clause-passed g c =
    let s = c.args.self.now in
    let m = searched g.B.Walk.template s in
    let entries = s.entries.now in
    let ps : List (List (List ℕ)) = g.B.Walk.part_lists s.task.now.space.now in
    let part = part_at ps c.args.part in
    let i = c.loop-at.at in
    let body : Class = c.in-Some.body in
    let before = c.loop-at.hand in
    let after = c.consider.new.hand in
    let at = class_at c.loop-at.next body part i c.loop-at.invariant.next c.in-Some.is in
    let single = subst (λ (o : Option Class). IfSome o (λ b. b.template ≡ 0)) c.in-Some.is c.loop-at.invariant.single in
    let told = subst (IsConsidered m entries s.budget before after body) c.in-Some-2.is c.in_ok-found.ensures.considered in
    let none = none_of_good m entries before.kept before.used.items (take i part) c.requires.can.finish c.loop-at.invariant.good in
    found_at m entries s.budget part i body c.in-Some-2.found at none single told.0 told.1
