-- The text of a formula tells the formula.
use Rattle.std.specs.Prelude.{◌≡◌, ◌≢◌, ℕ, true, List, [], slice_get, get_or, Some, Ok}
use Rattle.std.specs.List.{AllByRecursion}
use Rattle.sw_scan.specs.Spelling.{is_name}
use Rattle.sw_logic.specs.declared.syntax.Symbol.{Symbol}
use Rattle.sw_logic.specs.declared.syntax.Signature.{Signature}
use Rattle.sw_logic.specs.declared.syntax.Formula.{Formula}
use Rattle.sw_logic.specs.Canonical.{text_of}
use Rattle.sw_meaning.specs.declared.protocol.Protocol.{Protocol}
use Rattle.sw_meaning.specs.declared.template.Template.{Template}
use Rattle.sw_meaning.specs.Space.{InSpace}
use Rattle.sw_template_text.specs.Texts.{IsTemplate}
use Rattle.sw_trees.specs.declared.words.Sign.{Sign}
use Rattle.sw_trees.specs.Words.{name_sign}
use Rattle.sw_text.specs.declared.names.Place.{Place}
use Rattle.sw_text.specs.Names.{Around}
use Rattle.sw_text.specs.Texts.{HasFormula}
use Rattle.sw_protocol.specs.Stratified.{IsText}

-- a name that does not begin with an underscore
pub record IsShownName (x : List ℕ) : Type 0 where
  pub name : is_name x ≡ true
  pub shown : get_or x 0 0 ≢ 95

-- the names of the symbols are such, and no two are alike
pub record AreSymbolNames (sig : Signature) : Type 0 where
  pub names : AllByRecursion (λ (s : Symbol). IsShownName s.name) sig.symbols
  pub apart : (i j : ℕ) (s t : Symbol) → slice_get sig.symbols i ≡ Some s → slice_get sig.symbols j ≡ Some t → s.name ≡ t.name → i ≡ j

-- what holds of all names of a signature: those of the sorts and symbols do not begin with an underscore, none is a
-- keyword, no two sorts are alike, and no two symbols
pub record AreDeclaredNames (sig : Signature) : Type 0 where
  pub symbols : AreSymbolNames sig
  pub no_keywords : AllByRecursion (λ (s : Symbol). name_sign s.name ≡ Sign.Name) sig.symbols
  pub sorts : AllByRecursion IsShownName sig.sorts
  pub sorts_no_keywords : AllByRecursion (λ x. name_sign x ≡ Sign.Name) sig.sorts
  pub sorts_apart : (i j : ℕ) (x : List ℕ) → slice_get sig.sorts i ≡ Some x → slice_get sig.sorts j ≡ Some x → i ≡ j

-- the names of a protocol that a text has are such
abbrev pub TextsHaveDeclaredNames : Type 0
TextsHaveDeclaredNames = (text : List ℕ) (p : Protocol) → IsText text p → AreDeclaredNames p.signature

-- what names are read by in one state of a protocol
abbrev pub in_one_state : Signature → List ℕ → Around
in_one_state sig text = record { text = text; signature = sig; declared_too = []; place = Place.OneState }

-- the canonical text of a formula of a template has this formula
abbrev pub TemplateFormulasReadBack : Type 0
TemplateFormulasReadBack = (p : Protocol) (t : Template) (f : Formula) → AreDeclaredNames p.signature → IsTemplate p.signature t → InSpace p t f → HasFormula (in_one_state p.signature (text_of p.signature [] f)) [] (Ok f)

-- two formulas of templates with one text are one
abbrev pub TextsTellFormulas : Type 0
TextsTellFormulas = (p : Protocol) (t u : Template) (f g : Formula) → AreDeclaredNames p.signature → IsTemplate p.signature t → IsTemplate p.signature u → InSpace p t f → InSpace p u g
    → text_of p.signature [] f ≡ text_of p.signature [] g → f ≡ g
