-- What was printed reads back.
use Rattle.std.specs.Prelude.{◌≡◌, ℕ, true, false, List, ◌∷◌, slice_get, Some, codes}
use Rattle.std.specs.List.{AllByRecursion, list_any}
use Rattle.std.specs.Str.{bytes_eq}
use Rattle.sw_scan.specs.Spelling.{is_name}
use Rattle.sw_logic.specs.declared.syntax.Signature.{Signature}
use Rattle.sw_meaning.specs.declared.template.Template.{Template}
use Rattle.sw_template_text.specs.Canonical.{template_text}
use Rattle.sw_template_text.specs.Texts.{keywords, IsTemplate, IsText}

-- a name that is no keyword of templates or protocols
pub record IsSortName (x : List ℕ) : Type 0 where
  pub name : is_name x ≡ true
  pub free : list_any (bytes_eq x) (codes "forall" ∷ codes "exists" ∷ codes "literals" ∷ codes "depth" ∷ codes "terms" ∷ keywords) ≡ false

-- the names of the sorts are such, and no two are alike
pub record AreSortNames (sig : Signature) : Type 0 where
  pub names : AllByRecursion IsSortName sig.sorts
  pub apart : (i j : ℕ) (x : List ℕ) → slice_get sig.sorts i ≡ Some x → slice_get sig.sorts j ≡ Some x → i ≡ j

-- the canonical text of a template is a text of that template
abbrev pub TemplatesReadBack : Type 0
TemplatesReadBack = (sig : Signature) (t : Template) → AreSortNames sig → IsTemplate sig t → IsText sig (template_text sig t) t

-- two templates of one text are one
abbrev pub TextsTellTemplates : Type 0
TextsTellTemplates = (sig : Signature) (t u : Template) → AreSortNames sig → IsTemplate sig t → IsTemplate sig u → template_text sig t ≡ template_text sig u → t ≡ u
