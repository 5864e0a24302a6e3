-- The lists under which queries are asked are of classes, each once.
use Rattle.std.specs.Prelude.{ℕ, List, [], Option, Some, None, Contains}
use Rattle.std.specs.List.{AllByRecursion}
use Rattle.std.proofs.Common.{sym, subst}
use Rattle.std.proofs.lemmas.List.Sorted.{IsPermutation-refl}
use Rattle.sw_logic.specs.declared.syntax.Formula.{Formula}
use Rattle.sw_meaning.specs.declared.protocol.Protocol.{Protocol}
use Rattle.sw_meaning.specs.declared.template.Template.{Template}
use Rattle.sw_meaning.specs.Classes.{classes}
use Rattle.sw_meaning.specs.Inductive.{Earned}
use Rattle.sw_meaning.specs.Plain.{formulas_of}
use Rattle.sw_search.specs.Searches.{IsList}
use Rattle.sw_size_laws.specs.Laws.{ListedOnce}
use Rattle.sw_size_laws.specs.Part.{IsPartOf}
use Rattle.sw_completeness.specs.Worst.{all_formulas}

-- an earned list of classes
pub earned_part : ListedOnce → (p : Protocol) (t : Template) (list : List (List ℕ)) → AllByRecursion (Contains (classes p.signature t)) list → Earned p (Some t) (formulas_of p t list)
    → IsPartOf (formulas_of p t list) (all_formulas p (Some t))
earned_part once p t list each earned = (once p t list each earned).of_formulas

-- the list that a search finds, by however many workers
pub list_part : ListedOnce → (p : Protocol) (t : Option Template) (workers : ℕ) (list : List Formula) → IsList p t workers list → IsPartOf list (all_formulas p t)
list_part once p None workers list found = subst (λ g. IsPartOf g []) (sym found.of_classes) (record { rest = []; is = IsPermutation-refl [] })
list_part once p (Some t) workers list found =
    let of = found.of_classes in
    subst (λ g. IsPartOf g (all_formulas p (Some t))) (sym of.2) (earned_part once p t of.0 of.1 (subst (Earned p (Some t)) of.2 found.earned))
