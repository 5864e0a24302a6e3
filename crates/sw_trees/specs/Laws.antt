-- Laws about what is read.
use Rattle.std.specs.Prelude.{◌≡◌, List}
use Rattle.sw_trees.specs.declared.words.Word.{Word}
use Rattle.sw_trees.specs.declared.reader.Read.{Read}
use Rattle.sw_trees.specs.Grammar.{Context}
use Rattle.sw_trees.specs.Answers.{IsAnswer}

-- a list of words has one answer
abbrev pub OneAnswer : Type 0
OneAnswer = (base : Context) (ws : List Word) (r s : Read) → IsAnswer base ws r → IsAnswer base ws s → r ≡ s
