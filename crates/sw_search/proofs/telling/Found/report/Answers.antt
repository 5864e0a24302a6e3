use Rattle.std.specs.Prelude.{Option}
use Rattle.std.specs.Option.{option_copied}
use Rattle.std.proofs.Common.{refl, subst}
use Rattle.sw_meaning.specs.declared.template.Template.{Template}
use Rattle.sw_meaning.specs.Report.{report_text}
use Rattle.sw_report.specs.Words.{word_of, word_status, IsOver}
use Rattle.sw_report.specs.declared.report.ReportError.TheVariants.{TextOver}
use Rattle.sw_search.specs.Searches.{IsStopped}
use Rattle.sw_search.specs.Spaces.{template_of}
use Rattle.sw_search.proofs.telling.Found.report.Goals as goal

pub returns-in_ok-line-in-Err-TextOver : goal.returns-in_ok-line-in-Err-TextOver
returns-in_ok-line-in-Err-TextOver c =
    let p = c.args.self.now.protocol.now in
    let t = template_of (option_copied c.args.self.now.breadth) in
    let list = c.args.self.now.list.now in
    let word = word_of c.args.word in
    let told = subst (IsOver (report_text p (option_copied c.template.result) list word)) c.in-Err-TextOver.field-0-is c.in-Err-TextOver.ensures.over in
    let long : IsOver (report_text p t list word) (TextOver c.in-Err-TextOver.bytes) =
    subst (λ (o : Option Template). IsOver (report_text p o list word) (TextOver c.in-Err-TextOver.bytes)) c.template.ensures told in
    IsStopped.over c.in-Err-TextOver.bytes (record {
      status = word_status word;
      bytes = report_text p t list word;
      report = record { list = list; word = word; found = c.requires.found.found; says = c.requires.word; text = refl; ends = refl };
      is = long.0;
      over = long.1;
    }) c.in_ok-line-in-Err-TextOver.ensures
