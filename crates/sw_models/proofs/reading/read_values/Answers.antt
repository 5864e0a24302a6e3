use Rattle.std.proofs.Common.{rules, nat_eq, tests, length}
use Rattle.std.proofs.lemmas.Iterator.Splits.{YieldsList-from_slice_split}
use Rattle.std.proofs.lemmas.Iterator.Consumers.{YieldsList-turn, YieldsList-end}
use Rattle.std.proofs.lemmas.List.{length_push}
use Rattle.sw_models.proofs.Values.{no_values, one_more_value, all_values}
use Rattle.sw_models.proofs.reading.read_values.Goals as goal

pub returns-in_default : goal.returns-in_default
returns-in_default c =
    let t = YieldsList-turn (YieldsList-from_slice_split {s = c.into_iter-word-iterator.result} _ (λ b. nat_eq b 32) c.args.body.now (search rules) (search rules) (search rules) (λ x b q k. search (rules, tests)))
    c.loop-word.yielded _ c.loop-word.yielded_by _ _ c.in-Some.word c.in-Some.is c.next.ensures.steps in
    no_values c.args.body.now (length c.loop-word.yielded) c.in-Some.word.now t.0 t.1 c.in_default.ensures

pub loop-word-preserved : goal.loop-word-preserved
loop-word-preserved c =
    let t = YieldsList-turn (YieldsList-from_slice_split {s = c.into_iter-word-iterator.result} _ (λ b. nat_eq b 32) c.args.body.now (search rules) (search rules) (search rules) (λ x b q k. search (rules, tests)))
    c.loop-word.yielded _ c.loop-word.yielded_by _ _ c.in-Some.word c.in-Some.is c.next.ensures.steps in
    rw (length_push c.loop-word.yielded c.in-Some.word)
    (one_more_value c.args.body.now c.loop-word.values c.push.new.self (length c.loop-word.yielded) c.in-Some-read_number.value c.in-Some.word.now
    c.in_ok-push.ensures.ok c.loop-word.invariant t.0 t.1 c.in-Some-read_number.ensures)

pub returns : goal.returns
returns c =
    let t = YieldsList-end (YieldsList-from_slice_split {s = c.into_iter-word-iterator.result} _ (λ b. nat_eq b 32) c.args.body.now (search rules) (search rules) (search rules) (λ x b q k. search (rules, tests)))
    c.loop-word.yielded _ c.loop-word.yielded_by _ _ c.in-None.is c.next.ensures.steps in
    all_values c.args.body.now c.loop-word.values (length c.loop-word.yielded) c.loop-word.invariant t.1
