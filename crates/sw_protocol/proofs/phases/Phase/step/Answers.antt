use Rattle.std.proofs.Common.{inl}
use Rattle.sw_trees.proofs.Answering.{if_ok}
use Rattle.sw_protocol.specs.Machine.{loads_in, nests, next, gone}
use Rattle.sw_protocol.specs.Steps.{Answers}
use Rattle.sw_protocol.proofs.Stepping.{semicolon_answers, taken}
use Rattle.sw_protocol.proofs.phases.Phase.step.Goals as goal

pub returns-in-Semicolon : goal.returns-in-Semicolon
returns-in-Semicolon c =
    if_ok _ (Answers (next c.args.text.now c.args.self c.args.word) (nests c.args.self)) c.end.result c.end.ensures
    (λ r h. semicolon_answers c.args.text.now c.args.self c.args.word c.in-Semicolon.is r h)

pub returns-then-is_within : goal.returns-then-is_within
returns-then-is_within c =
    let walks = rw c.in-Taken.is at c.in_ok-phase.ensures in
    (loads_in c.in-Taken.phase c.args.word, taken c.args.text.now c.args.self c.in-Taken.phase c.args.word c.in_default.not-Semicolon walks, c.is_within.ensures.0 c.if-is_within.true)

pub returns-in-Taken : goal.returns-in-Taken
returns-in-Taken c =
    let walks = rw c.in-Taken.is at c.in_ok-phase.ensures in
    inl (
      gone c.args.word.sign c.in-Taken.phase,
      taken c.args.text.now c.args.self c.in-Taken.phase c.args.word c.in_default.not-Semicolon walks,
      λ w. let yes = c.is_within.ensures.1 w in let no = c.if-is_within.false in cc,
    )
