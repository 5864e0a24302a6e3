use Rattle.std.proofs.Common.{◌≡◌, length, inl, refl, arith}
use Rattle.sw_trees.specs.Answers.{base_of, IsAnswer}
use Rattle.sw_trees.proofs.Answering.{none_read, one_read, past_limit, stopped, answered, if_ok}
use Rattle.sw_trees.proofs.reader.read_tree.Goals as goal

pub loop-i-init : goal.loop-i-init
loop-i-init c = record {
  count = c.open-open.ensures;
  read = rw c.new-state.ensures (none_read (base_of c.args.around) c.args.words.now);
}

pub loop-i-preserved : goal.loop-i-preserved
loop-i-preserved c =
    let taken = rw c.in-Taken.is at c.in_ok-next.ensures in
    record {
      count = c.loop-i.invariant.count;
      read = one_read (base_of c.args.around) c.args.words.now c.loop-i.i _ _ c.loop-i.state c.in-Taken.next c.loop-i-test.true refl c.loop-i.invariant.read taken
          ((c.is_within.ensures (base_of c.args.around) c.loop-i.invariant.count).0 c.if-not-is_within.false);
    }

pub returns-then-not-is_within : goal.returns-then-not-is_within
returns-then-not-is_within c =
    let taken = rw c.in-Taken.is at c.in_ok-next.ensures in
    let limit = c.is_within.ensures (base_of c.args.around) c.loop-i.invariant.count in
    inl
    (past_limit (base_of c.args.around) c.args.words.now c.loop-i.i _ _ c.loop-i.state c.in-Taken.next c.loop-i-test.true refl c.loop-i.invariant.read taken
    (λ w. let yes = limit.1 w in let no = c.if-not-is_within.true in cc))

pub returns-in-Refused : goal.returns-in-Refused
returns-in-Refused c =
    let refused = rw c.in-Refused.is at c.in_ok-next.ensures in
    let base = base_of c.args.around in
    let stops = stopped base c.args.words.now c.loop-i.i c.loop-i.state c.loop-i.invariant.read (λ h. (_, refused.0)) in
    if_ok _ (IsAnswer base c.args.words.now) c.finish_at.result c.finish_at.ensures
    (λ r h. answered c.args.around c.args.words.now c.loop-i.i c.loop-i.i c.loop-i.state r refl c.loop-i.invariant.read stops _ refused.1 h)

pub returns : goal.returns
returns c =
    let base = base_of c.args.around in
    let e : length c.args.words.now ≡ c.loop-i.i = omega arith in
    let stops = stopped base c.args.words.now c.loop-i.i c.loop-i.state c.loop-i.invariant.read (λ h. absurd (omega (arith, h))) in
    if_ok _ (IsAnswer base c.args.words.now) c.finish_at-2.result c.finish_at-2.ensures
    (λ r h. answered c.args.around c.args.words.now c.loop-i.i (length c.args.words.now) c.loop-i.state r e c.loop-i.invariant.read stops _ refl h)
