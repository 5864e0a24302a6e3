use Rattle.std.proofs.Common.{◌≡◌, ◌+◌, ◌∙◌, None, sym, ap, take, subst, get_or, ◌++◌, ◌∷◌, []}
use Rattle.std.proofs.lemmas.List.{take_more, take_all}
use Rattle.sw_sat.specs.declared.trail.Entry.{Entry}
use Rattle.sw_sat.specs.Analysis.{NegatesSeen}
use Rattle.sw_sat.specs.Trail.{literals}
use Rattle.sw_sat.proofs.SeenLiterals.{negates_seen, negates_other}
use Rattle.sw_sat.proofs.analyze.Analysis.clause.Goals as goal
use Rattle.sw_sat.proofs.analyze.Analysis.clause.Goals.{then-has_seen+in_ok-push, else-has_seen}

pub loop-entry-preserved : goal.loop-entry-preserved
loop-entry-preserved c =
    let seen = c.args.self.now.seen.items in
    let entries = c.args.entries.now in
    let z : Entry = record { lit = record { 0 = 0 }; reason = None } in
    let k = c.loop-entry.entry-index in
    let e : Entry = get_or entries k z in
    let more : take (k + 1) entries ≡ take k entries ++ e ∷ [] = take_more entries k z c.loop-entry-test.true in
    elim c.if-has_seen.branch [
      | then-has_seen+in_ok-push w ↦
          subst (λ front. NegatesSeen seen (literals front) (record { lits = c.if-has_seen.lits })) (sym more)
          (subst (λ lits. NegatesSeen seen (literals (take k entries ++ e ∷ [])) (record { lits = lits })) (sym (w.lits-is ∙ w.in_ok-push.ensures.ok ∙ ap (λ l. c.loop-entry.lits ++ l ∷ []) w.negation.ensures))
          (negates_seen seen (take k entries) e c.loop-entry.lits c.loop-entry.invariant (sym c.has_seen.ensures ∙ w.if-has_seen.true)))
      | else-has_seen w ↦
          subst (λ front. NegatesSeen seen (literals front) (record { lits = c.if-has_seen.lits })) (sym more)
          (subst (λ lits. NegatesSeen seen (literals (take k entries ++ e ∷ [])) (record { lits = lits })) (sym w.lits-is)
          (negates_other seen (take k entries) e c.loop-entry.lits c.loop-entry.invariant (sym c.has_seen.ensures ∙ w.if-has_seen.false)))
    ]

pub returns : goal.returns
returns c =
    let all : take c.loop-entry.entry-index c.args.entries.now ≡ c.args.entries.now = take_all c.loop-entry.entry-index c.args.entries.now c.loop-entry-test.false in
    subst (λ front. NegatesSeen c.args.self.now.seen.items (literals front) (record { lits = c.loop-entry.lits })) all c.loop-entry.invariant
