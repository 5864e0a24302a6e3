use Rattle.std.proofs.Common.{◌+◌, ◌++◌, ◌∷◌, [], List, ℕ, map, drop, take, sym, ap, ◌∙◌}
use Rattle.sw_text.specs.declared.names.Violation.{Violation}
use Rattle.sw_text.specs.Names.{bytes_at}
use Rattle.sw_text.specs.Resolving.{around}
use Rattle.sw_text.proofs.Breaking.{begins_front}
use Rattle.sw_protocol.specs.Declaring.{modified_faults, symbols_of}
use Rattle.sw_protocol.proofs.Looking.{modified_faults_more, symbols_more, names_more}
use Rattle.sw_protocol.proofs.declaring.modified.Goals as goal

pub returns-in-Broken : goal.returns-in-Broken
returns-in-Broken c =
    let a = around c.args.names.now in
    let ws = c.args.words.now in
    let found = rw c.in-Broken.is at c.in_ok-symbol.ensures in
    begins_front _ _ (modified_faults a (take (c.loop-i.i + 1) ws) (drop (c.loop-i.i + 1) ws)) c.in-Broken.violation
    (c.loop-i.invariant.faults ∙ modified_faults_more a ws c.loop-i.i _ c.loop-i-test.true)
    found

pub loop-i-preserved : goal.loop-i-preserved
loop-i-preserved c =
    let a = around c.args.names.now in
    let ws = c.args.words.now in
    let found = rw c.in-Found.is at c.in_ok-symbol.ensures in
    record {
      faults = c.loop-i.invariant.faults
          ∙ modified_faults_more a ws c.loop-i.i _ c.loop-i-test.true
          ∙ ap (λ (vs : List Violation). vs ++ modified_faults a (take (c.loop-i.i + 1) ws) (drop (c.loop-i.i + 1) ws)) found.0;
      table = c.in_ok-push.ensures.added
          ∙ ap (λ (ns : List (List ℕ)). ns ++ c.in_ok-name.name ∷ []) c.loop-i.invariant.table
          ∙ ap (λ (n : List ℕ). map (bytes_at a.text) (take c.loop-i.i ws) ++ n ∷ []) (c.in_ok-name.ensures ∙ c.bytes_of.ensures)
          ∙ sym (names_more a.text ws c.loop-i.i _ c.loop-i-test.true);
      read = c.in_ok-push-in-Found.ensures.ok
          ∙ ap (λ (ss : List ℕ). ss ++ c.in-Found.symbol ∷ []) c.loop-i.invariant.read
          ∙ ap (λ (s : ℕ). symbols_of a (take c.loop-i.i ws) ++ s ∷ []) found.1
          ∙ sym (symbols_more a ws c.loop-i.i _ c.loop-i-test.true);
    }
