-- What a query is, and which structures satisfy it.
use Rattle.std.specs.Prelude.{◌≡◌, true, false, []}
use Rattle.std.specs.List.{AllByRecursion}
use Rattle.sw_logic.specs.declared.syntax.Signature.{Signature}
use Rattle.sw_logic.specs.declared.syntax.Formula.{Formula}
use Rattle.sw_logic.specs.declared.structure.Structure.{Structure}
use Rattle.sw_logic.specs.declared.query.Query.{Query}
use Rattle.sw_logic.specs.Truth.{AreTrueIn}
use Rattle.sw_logic.specs.Sorted.{well_sorted}
use Rattle.sw_logic.specs.Fits.{fits}
use Rattle.sw_logic.specs.Signatures.{is_signature}

-- closed, well sorted and without post symbols
abbrev pub IsSentence : Signature → Formula → Type 0
IsSentence sig f = well_sorted sig false f [] ≡ true

-- the signature is declared rightly, and the sentences are of it
pub record IsQuery (q : Query) : Type 0 where
  pub signature : is_signature q.signature ≡ true
  pub sentences : AllByRecursion (IsSentence q.signature) q.sentences

-- the structure fits, and every sentence is true in it
pub record Satisfies (q : Query) (s : Structure) : Type 0 where
  pub fits : fits q.signature s ≡ true
  pub sentences : AreTrueIn q.signature s q.sentences
