use Rattle.std.proofs.Common.{◌+◌, ◌++◌, ◌∷◌, [], List, ℕ, drop, take, refl, sym, ap, ◌∙◌}
use Rattle.sw_text.specs.declared.names.Violation.{Violation}
use Rattle.sw_text.specs.Resolving.{around}
use Rattle.sw_protocol.specs.Declaring.{sorts_faults, sorts_of}
use Rattle.sw_protocol.proofs.Looking.{sorts_faults_more, sorts_more}
use Rattle.sw_protocol.proofs.declaring.sorts_of.Goals as goal

pub loop-word-preserved : goal.loop-word-preserved
loop-word-preserved c =
    let a = around c.args.names.now in
    let ws = c.args.words.now in
    let found = rw c.in-Found.is at c.in_ok-sort.ensures in
    record {
      faults = c.loop-word.invariant.faults
          ∙ sorts_faults_more a ws c.loop-word.word-index _ c.loop-word-test.true
          ∙ ap (λ (vs : List Violation). vs ++ sorts_faults a (drop (c.loop-word.word-index + 1) ws)) found.0;
      read = c.in_ok-push-in-Found.ensures.ok
          ∙ ap (λ (ss : List ℕ). ss ++ c.in-Found.sort ∷ []) c.loop-word.invariant.read
          ∙ ap (λ (s : ℕ). sorts_of a (take c.loop-word.word-index ws) ++ s ∷ []) found.1
          ∙ sym (sorts_more a ws c.loop-word.word-index _ c.loop-word-test.true);
    }
