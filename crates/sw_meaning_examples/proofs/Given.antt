-- The examples of axioms and of a list that is used.
use Rattle.std.specs.Prelude.{◌≡◌, false, [], ◌∷◌, IsTrue}
use Rattle.std.proofs.Common.{rules, subst}
use Rattle.sw_logic.specs.declared.syntax.Formula as formula
use Rattle.sw_logic.specs.declared.syntax.Formula.TheVariants.{False}
use Rattle.sw_logic.specs.declared.structure.Structure.{Structure}
use Rattle.sw_logic.specs.Truth.{AreTrueIn, truth, world}
use Rattle.sw_meaning.specs.declared.protocol.Protocol.{Protocol}
use Rattle.sw_meaning_examples.specs.Examples.{AxiomsAreGiven, ListsServe}

pub given : AxiomsAreGiven
given = record {
  follow = λ s fit axioms list. axioms.0;
  at_start = λ s start. start.axioms.0;
  before_step = λ s t step. step.axioms.0;
}

none_satisfies : (p : Protocol) (s : Structure) → AreTrueIn p.signature s (False ∷ []) → ⊥
none_satisfies p s list =
    let is : truth (world p.signature s s) False [] ≡ false = search (rules, formula.the_lemmas) in
    let bad : IsTrue false = subst IsTrue is list.0 in
    cc

pub lists_serve : ListsServe
lists_serve p f start = record {
  start = start;
  safe = λ s t step list safe joined. absurd (none_satisfies p s list);
  kept = λ s t step list safe joined. absurd (none_satisfies p s list);
}
