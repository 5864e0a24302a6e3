use Rattle.std.proofs.Common.{ap, ◌∙◌, Some, sym}
use Rattle.sw_template_text.specs.Texts.{bytes_at}
use Rattle.sw_template_text.proofs.NamedRuns.{named, unnamed, none_named, none_more}
use Rattle.sw_template_text.proofs.resolving.sort_of.Goals as goal

pub returns-then-is_name : goal.returns-then-is_name
returns-then-is_name c = (
  named c.args.sig.now.sorts c.as_slice-sort-items.result.now c.loop-n.n (bytes_at c.args.text.now c.args.run.now.at c.args.run.now.len) c.bytes_at-name.result.now c.sort-item.result c.is_name.result
      c.as_slice-sort-items.ensures c.loop-n-test.true c.sort-item.is c.is_name.ensures c.if-is_name.true c.bytes_at-name.ensures,
  λ k low is. c.loop-n.invariant k low (is ∙ ap Some (sym c.bytes_at-name.ensures)),
)

pub loop-n-preserved : goal.loop-n-preserved
loop-n-preserved c =
    none_more c.args.sig.now.sorts c.bytes_at-name.result.now c.loop-n.n c.loop-n.invariant
    (unnamed c.args.sig.now.sorts c.as_slice-sort-items.result.now c.loop-n.n c.bytes_at-name.result.now c.sort-item.result c.is_name.result
    c.as_slice-sort-items.ensures c.loop-n-test.true c.sort-item.is c.is_name.ensures c.if-is_name.false)

pub returns : goal.returns
returns c =
    none_named c.args.sig.now.sorts c.as_slice-sort-items.result.now c.loop-n.n (bytes_at c.args.text.now c.args.run.now.at c.args.run.now.len) c.bytes_at-name.result.now
    c.as_slice-sort-items.ensures c.loop-n-test.false c.loop-n.invariant c.bytes_at-name.ensures
