use Rattle.std.proofs.Common.{◌≡◌, ◌<◌, ◌+◌, ◌++◌, [], ◌∷◌, ap, arith, length, map, refl, rules, sym, subst, true, false}
use Rattle.std.specs.List.{AllByRecursion}
use Rattle.sw_meaning.specs.Plain.{PlainList}
use Rattle.sw_filter.specs.declared.filter.Mode.TheVariants.{Breadth}
use Rattle.sw_log.specs.declared.entry.Entry.{Entry}
use Rattle.sw_gather.specs.Gathers.{HasTokens}
use Rattle.sw_walk.specs.Parts.{IsClass, classes_of}
use Rattle.sw_hand.specs.Hands.{search_of}
use Rattle.sw_work.specs.Works.{bodies_of}
use Rattle.sw_breadth.specs.Joins.{IsPlainRound, IsWholeRound}
use Rattle.sw_breadth.specs.Records.{HasRound, IsLiveRound, StaysPlain}
use Rattle.sw_breadth.specs.Rounds.{IsCause, IsOnTheWay}
use Rattle.sw_breadth.proofs.Closes.{on_the_way, plain_last, plain_more}
use Rattle.sw_breadth.proofs.Earns.{cause_after, passed}
use Rattle.sw_breadth.proofs.Runs.{gathered_as, have_run_more, have_tokens, is_gathered, listed_log, run_as}
use Rattle.sw_breadth.proofs.rounds.next_round.Goals as goal

pub run-requires-clause-classes : goal.run-requires-clause-classes
run-requires-clause-classes g c κs within = subst (λ ps. AllByRecursion (λ (e : Entry). IsClass ps e.body) c.args.made.log.items) (sym c.requires.can.are_parts) c.requires.run.classes

pub returns-in_err-log-clause-cause : goal.returns-in_err-log-clause-cause
returns-in_err-log-clause-cause g c =
    let t = c.args.task.now in
    let m = search_of t.protocol.now (g.B.Walk.template t.space.now) Breadth t.workers in
    passed (IsCause m c.args.budget) c.in_err-log.field-0.0 c.from_residual.result c.from_residual.ensures.1
    (cause_after m c.args.budget c.args.made.log.items c.in_err-log.field-0.0 c.requires.run.gained c.requires.run.classes c.in_err-log.ensures.cause)

pub returns-in_err-log-clause-on_the_way : goal.returns-in_err-log-clause-on_the_way
returns-in_err-log-clause-on_the_way g c =
    let t = c.args.task.now in
    let m = search_of t.protocol.now (g.B.Walk.template t.space.now) Breadth t.workers in
    passed (λ e. t.workers ≡ 1 → IsOnTheWay m e) c.in_err-log.field-0.0 c.from_residual.result c.from_residual.ensures.1
    (on_the_way t.protocol.now (g.B.Walk.template t.space.now) t.workers c.args.made.log.items c.in_err-log.field-0.0 c.requires.plain c.in_err-log.ensures.on_its_way)

pub is_last-requires-clause-classes : goal.is_last-requires-clause-classes
is_last-requires-clause-classes g c =
    let t = c.args.task.now in
    let m = search_of t.protocol.now (g.B.Walk.template t.space.now) Breadth t.workers in
    let count : c.in-Ok.before ≡ length c.args.made.tokens.items = omega (arith, c.in-Ok.ensures, c.len.ensures, c.args.made.tokens.ok.0) in
    let whole : IsWholeRound m t.pool.now c.in-Ok.before c.args.made.log.items c.in_ok-log.field-0.log.items c.in_ok-log.field-0.shares = search rules in
    subst (λ l. AllByRecursion (λ (e : Entry). IsClass (g.B.Walk.part_lists t.space.now) e.body) l) (sym c.deref.ensures.value)
    (subst (λ ps. AllByRecursion (λ (e : Entry). IsClass ps e.body) c.in_ok-log.field-0.log.items) (sym c.requires.can.are_parts)
    (listed_log m t.pool.now c.args.made.log.items c.in_ok-log.field-0.log.items c.args.made.rounds c.args.made.tokens.items c.in-Ok.before c.in_ok-log.field-0.shares count c.requires.run whole))

pub with_round-requires-clause-tokens : goal.with_round-requires-clause-tokens
with_round-requires-clause-tokens g c =
    let t = c.args.task.now in
    let m = search_of t.protocol.now (g.B.Walk.template t.space.now) Breadth t.workers in
    let log = c.in_ok-log.field-0.log.items in
    let hs = c.in_ok-log.field-0.shares in
    let count : c.in-Ok.before ≡ length c.args.made.tokens.items = omega (arith, c.in-Ok.ensures, c.len.ensures, c.args.made.tokens.ok.0) in
    let whole : IsWholeRound m t.pool.now c.in-Ok.before c.args.made.log.items log hs = search rules in
    subst (AllByRecursion (HasTokens t.pool.now)) (sym c.as_slice-2.ensures)
    (have_tokens m t.pool.now c.args.made.log.items log c.args.made.rounds c.args.made.tokens.items c.in-Ok.before hs count c.requires.run whole)

pub returns-clause-last : goal.returns-clause-last
returns-clause-last g c = λ e.
    let t = c.args.task.now in
    let m = search_of t.protocol.now (g.B.Walk.template t.space.now) Breadth t.workers in
    let run = c.args.made in
    let log = c.in_ok-log.field-0.log.items in
    let hs = c.in_ok-log.field-0.shares in
    let count : c.in-Ok.before ≡ length c.args.made.tokens.items = omega (arith, c.in-Ok.ensures, c.len.ensures, c.args.made.tokens.ok.0) in
    let whole : IsWholeRound m t.pool.now c.in-Ok.before run.log.items log hs = search rules in
    let made = c.in_ok-made.made in
    let log_is : made.log.items ≡ log = search rules in
    let live : IsLiveRound m c.in-Ok.before log hs = subst (λ l. IsLiveRound m c.in-Ok.before l hs) c.deref.ensures.value (subst (λ x. IsLiveRound m c.in-Ok.before c.deref.result.now x) c.as_slice.ensures (c.in_ok-last.ensures.last e)) in
    let shares_are : c.as_slice-2.result.now ≡ hs = search rules in
    let round : HasRound run.tokens.items made.tokens.items run.rounds made.rounds (length log) hs = subst (HasRound run.tokens.items made.tokens.items run.rounds made.rounds (length log)) shares_are c.in_ok-made.ensures.round in
    gathered_as m (record { entries = made.log.items; rounds = made.rounds }) log made.rounds log_is refl
    (is_gathered m t.pool.now run.log.items log run.rounds run.tokens.items c.in-Ok.before hs count c.requires.run whole made.rounds made.tokens.items round live)

pub returns-clause-last_plain : goal.returns-clause-last_plain
returns-clause-last_plain g c = λ e alone.
    let t = c.args.task.now in
    let m = search_of t.protocol.now (g.B.Walk.template t.space.now) Breadth t.workers in
    let run = c.args.made in
    let log = c.in_ok-log.field-0.log.items in
    let hs = c.in_ok-log.field-0.shares in
    let count : c.in-Ok.before ≡ length c.args.made.tokens.items = omega (arith, c.in-Ok.ensures, c.len.ensures, c.args.made.tokens.ok.0) in
    let whole : IsWholeRound m t.pool.now c.in-Ok.before run.log.items log hs = search rules in
    let made = c.in_ok-made.made in
    let log_is : made.log.items ≡ log = search rules in
    let live : IsLiveRound m c.in-Ok.before log hs = subst (λ l. IsLiveRound m c.in-Ok.before l hs) c.deref.ensures.value (subst (λ x. IsLiveRound m c.in-Ok.before c.deref.result.now x) c.as_slice.ensures (c.in_ok-last.ensures.last e)) in
    let plain : IsPlainRound m run.log.items log = search rules in
    subst (λ l. PlainList t.protocol.now (g.B.Walk.template t.space.now) (classes_of (bodies_of l))) (sym log_is)
    (plain_last t.protocol.now (g.B.Walk.template t.space.now) t.workers t.pool.now c.in-Ok.before run.log.items log run.rounds run.tokens.items hs count c.requires.run whole live c.requires.plain plain alone)

pub returns-clause-more : goal.returns-clause-more
returns-clause-more g c = λ e.
    let t = c.args.task.now in
    let m = search_of t.protocol.now (g.B.Walk.template t.space.now) Breadth t.workers in
    let run = c.args.made in
    let log = c.in_ok-log.field-0.log.items in
    let hs = c.in_ok-log.field-0.shares in
    let count : c.in-Ok.before ≡ length c.args.made.tokens.items = omega (arith, c.in-Ok.ensures, c.len.ensures, c.args.made.tokens.ok.0) in
    let whole : IsWholeRound m t.pool.now c.in-Ok.before run.log.items log hs = search rules in
    let made = c.in_ok-made.made in
    let log_is : made.log.items ≡ log = search rules in
    let more = c.in_ok-last.ensures.more e in
    let size : length c.deref.result.now ≡ length log = ap length c.deref.ensures.value in
    let long : length run.log.items < length log = omega (arith, more, size, c.len-since.ensures, c.args.made.log.ok.0) in
    let shares_are : c.as_slice-2.result.now ≡ hs = search rules in
    let round : HasRound run.tokens.items made.tokens.items run.rounds made.rounds (length log) hs = subst (HasRound run.tokens.items made.tokens.items run.rounds made.rounds (length log)) shares_are c.in_ok-made.ensures.round in
    run_as m t.pool.now made.log.items log made.rounds made.rounds made.tokens.items made.tokens.items log_is refl refl
    (have_run_more m t.pool.now run.log.items log run.rounds run.tokens.items c.in-Ok.before hs count c.requires.run whole made.rounds made.tokens.items round c.in_ok-made.ensures.shown long)

pub returns-clause-more_plain : goal.returns-clause-more_plain
returns-clause-more_plain g c = λ e.
    let t = c.args.task.now in
    let m = search_of t.protocol.now (g.B.Walk.template t.space.now) Breadth t.workers in
    let run = c.args.made in
    let log = c.in_ok-log.field-0.log.items in
    let hs = c.in_ok-log.field-0.shares in
    let count : c.in-Ok.before ≡ length c.args.made.tokens.items = omega (arith, c.in-Ok.ensures, c.len.ensures, c.args.made.tokens.ok.0) in
    let whole : IsWholeRound m t.pool.now c.in-Ok.before run.log.items log hs = search rules in
    let made = c.in_ok-made.made in
    let log_is : made.log.items ≡ log = search rules in
    let more = c.in_ok-last.ensures.more e in
    let size : length c.deref.result.now ≡ length log = ap length c.deref.ensures.value in
    let long : length run.log.items < length log = omega (arith, more, size, c.len-since.ensures, c.args.made.log.ok.0) in
    let plain : IsPlainRound m run.log.items log = search rules in
    subst (StaysPlain m) (sym log_is) (plain_more t.protocol.now (g.B.Walk.template t.space.now) t.workers run.log.items log long c.requires.plain plain)
