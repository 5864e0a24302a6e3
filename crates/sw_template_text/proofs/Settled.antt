-- The answers of the reader.
use Rattle.std.specs.Prelude.{◌≡◌, ℕ, List, slice_get, Option, Some, None, Result, Ok, Err, IfSome, IfOk}
use Rattle.std.proofs.Common.{refl, ap}
use Rattle.sw_scan.specs.declared.Token.{Token}
use Rattle.sw_scan.specs.Scans.{Scans}
use Rattle.sw_logic.specs.declared.syntax.Signature.{Signature}
use Rattle.sw_meaning.specs.declared.template.Template.{Template}
use Rattle.sw_template_text.specs.declared.errors.TemplateError.{TemplateError}
use Rattle.sw_template_text.specs.declared.words.NamedRun.{NamedRun}
use Rattle.sw_template_text.specs.declared.words.Numbers.{Numbers}
use Rattle.sw_template_text.specs.Grammar.{Spells, IsFault}
use Rattle.sw_template_text.specs.Texts.{HasTemplate, IsTemplate, OneTemplate, TextsAreTemplates, IsUncut, Resolves, answer_of, words_of, place}

module _ (sig : Signature) (text : List ℕ) where
  pub no_other : OneTemplate → (o : Option (Result Template TemplateError)) → IfSome o (HasTemplate sig text) → (r : Result Template TemplateError) → HasTemplate sig text r → IfSome o (λ s. s ≡ r)
  no_other one None has r is = tt
  no_other one (Some s) has r is = one sig text s r has is

  pub within : TextsAreTemplates → (r : Result Template TemplateError) → IfSome (answer_of r) (HasTemplate sig text) → IfOk r (IsTemplate sig)
  within all (Ok t) has = all sig text t has
  within all (Err e) has = tt

  pub uncut : (e : TemplateError) → IsUncut text e → IfSome (answer_of (Err e)) (HasTemplate sig text)
  uncut (TemplateError.BadByte at) cut = HasTemplate.bad_byte at cut refl
  uncut (TemplateError.Syntax at) cut = absurd cut
  uncut (TemplateError.UnknownSort at) cut = absurd cut
  uncut (TemplateError.VariablesOver n) cut = absurd cut
  uncut (TemplateError.LiteralsOver n) cut = absurd cut
  uncut TemplateError.Memory cut = tt

  pub misspelled : (tokens : List Token) (number at : ℕ) → Scans text 0 (Ok tokens) → IsFault (words_of text tokens) number → at ≡ place text (slice_get tokens number) → HasTemplate sig text (Err (TemplateError.Syntax at))
  misspelled tokens number at cut fault stands = HasTemplate.misspelled tokens number cut fault (ap (λ n. Err (TemplateError.Syntax n)) stands)

  pub spelled : (tokens : List Token) (runs : List NamedRun) (n : Numbers) (o : Option (Result Template TemplateError)) → Scans text 0 (Ok tokens) → Spells (words_of text tokens) runs n
      → IfSome o (Resolves sig text runs n) → IfSome o (HasTemplate sig text)
  spelled tokens runs n None cut spells is = tt
  spelled tokens runs n (Some r) cut spells is = HasTemplate.spelled tokens runs n cut spells is
