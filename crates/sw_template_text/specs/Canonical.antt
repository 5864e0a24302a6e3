-- The canonical text of a template.
use Rattle.std.specs.Prelude.{ℕ, Bool, true, false, List, ◌++◌, codes}
use Rattle.std.specs.List.{flat_map}
use Rattle.std.specs.Fmt.{decimal}
use Rattle.sw_logic.specs.declared.syntax.Signature.{Signature}
use Rattle.sw_meaning.specs.declared.template.Run.{Run}
use Rattle.sw_meaning.specs.declared.template.Template.{Template}
use Rattle.sw_meaning.specs.ProtocolText.{sort_text}

abbrev pub quantifier_text : Bool → List ℕ
quantifier_text true = codes "forall "
quantifier_text false = codes "exists "

abbrev pub run_text : Signature → Run → List ℕ
run_text sig run = quantifier_text run.universal ++ decimal run.count ++ codes " " ++ sort_text sig run.sort ++ codes " "

-- `literals 3 depth 1 terms 0`
abbrev pub bounds_text : ℕ → ℕ → ℕ → List ℕ
bounds_text literals depth terms = codes "literals " ++ decimal literals ++ codes " depth " ++ decimal depth ++ codes " terms " ++ decimal terms

-- the runs, then the bounds, with one blank between each two words
abbrev pub template_text : Signature → Template → List ℕ
template_text sig t = flat_map (run_text sig) t.prefix ++ bounds_text t.literals t.depth t.terms
