use Rattle.std.proofs.Common.{◌≡◌, sym, ap, ◌∙◌}
use Rattle.std.specs.Prelude.{Some, slice_get}
use Rattle.std.proofs.lemmas.Option.{slice_get-get_or}
use Rattle.sw_quotient.specs.Terms.{held}
use Rattle.sw_quotient.specs.Told.{told}
use Rattle.sw_quotient.specs.Tables.{row, table_of}
use Rattle.sw_quotient.proofs.Gathered.{symbol_more}
use Rattle.sw_quotient.proofs.building.Making.tables.Goals as goal

pub loop-i-preserved : goal.loop-i-preserved
loop-i-preserved c =
    let making = c.args.self.now in
    let of = making.terms.now in
    let v = told making.truths.now in
    let i = c.loop-i.i in
    let symbols = c.args.symbols.now in
    let x = c.index-symbols-i.result in
    let is : slice_get symbols i ≡ Some x = slice_get-get_or symbols i x c.loop-i-test.true ∙ ap Some (sym c.index-symbols-i.is) in
    let table = c.in_ok-table.ensures ∙ ap (λ k. table_of (row making.leasts.now) of.signature.now (held of) v k x.args x.gives x.kind) c.in-Ok.ensures.1 in
    symbol_more (row making.leasts.now) of.signature.now (held of) v symbols c.loop-i.tables c.push.new.self c.in_ok-table.table x i
    c.requires is table c.loop-i.invariant c.in_ok-push.ensures.ok
