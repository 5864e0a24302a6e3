use Rattle.std.proofs.Common.{arith}
use Rattle.sw_models.proofs.Setting.{within_view, target, has_room, answered, written, written_holds}
use Rattle.sw_models.proofs.builder.StructureBuilder.set.Goals as goal

pub index_mut-requires : goal.index_mut-requires
index_mut-requires c =
    omega (arith, within_view c.self.inside.signature.now c.self.inside.sizes c.self.inside.tables.items c.args.symbol c.args.self.now c.self.invariant c.self.view_is c.requires.symbol, c.self.inside.tables.ok.0)

pub set_entry-requires : goal.set_entry-requires
set_entry-requires c =
    let here = target c.self.inside.signature.now c.self.inside.sizes c.self.inside.tables.items c.args.symbol c.index-as_slice-symbol.result c.index_mut.result.now
    c.args.tuple.now c.args.value c.in-Some.at c.args.self.now c.as_slice.result.now c.as_slice-sizes.result.now c.as_slice-2.result.now c.value_limit.result c.self.invariant c.self.view_is c.requires.symbol
    c.as_slice.ensures c.index-as_slice-symbol.is c.index_mut.ensures.value c.as_slice-sizes.ensures c.as_slice-2.ensures c.in-Some.ensures c.value_limit.ensures c.if-value-value_limit.false in
    has_room c.self.inside.signature.now c.self.inside.sizes c.self.inside.tables.items c.args.symbol c.index-as_slice-symbol.result c.index_mut.result.now c.args.tuple.now c.args.value c.in-Some.at here

pub invariant_of-self : goal.invariant_of-self
invariant_of-self c =
    let here = target c.self.inside.signature.now c.self.inside.sizes c.self.inside.tables.items c.args.symbol c.index-as_slice-symbol.result c.index_mut.result.now
    c.args.tuple.now c.args.value c.in-Some.at c.args.self.now c.as_slice.result.now c.as_slice-sizes.result.now c.as_slice-2.result.now c.value_limit.result c.self.invariant c.self.view_is c.requires.symbol
    c.as_slice.ensures c.index-as_slice-symbol.is c.index_mut.ensures.value c.as_slice-sizes.ensures c.as_slice-2.ensures c.in-Some.ensures c.value_limit.ensures c.if-value-value_limit.false in
    written_holds c.self.inside.signature.now c.self.inside.sizes c.self.inside.tables.items c.args.symbol c.index-as_slice-symbol.result c.index_mut.result.now c.set_entry.new.table c.args.tuple.now c.args.value c.in-Some.at here c.set_entry.ensures

pub returns-clause-answer : goal.returns-clause-answer
returns-clause-answer c =
    let here = target c.self.inside.signature.now c.self.inside.sizes c.self.inside.tables.items c.args.symbol c.index-as_slice-symbol.result c.index_mut.result.now
    c.args.tuple.now c.args.value c.in-Some.at c.args.self.now c.as_slice.result.now c.as_slice-sizes.result.now c.as_slice-2.result.now c.value_limit.result c.self.invariant c.self.view_is c.requires.symbol
    c.as_slice.ensures c.index-as_slice-symbol.is c.index_mut.ensures.value c.as_slice-sizes.ensures c.as_slice-2.ensures c.in-Some.ensures c.value_limit.ensures c.if-value-value_limit.false in
    answered c.self.inside.signature.now c.self.inside.sizes c.self.inside.tables.items c.args.symbol c.index-as_slice-symbol.result c.index_mut.result.now c.args.tuple.now c.args.value c.in-Some.at c.args.self.now _ _ here c.self.view_is

pub returns-clause-ok : goal.returns-clause-ok
returns-clause-ok c =
    let here = target c.self.inside.signature.now c.self.inside.sizes c.self.inside.tables.items c.args.symbol c.index-as_slice-symbol.result c.index_mut.result.now
    c.args.tuple.now c.args.value c.in-Some.at c.args.self.now c.as_slice.result.now c.as_slice-sizes.result.now c.as_slice-2.result.now c.value_limit.result c.self.invariant c.self.view_is c.requires.symbol
    c.as_slice.ensures c.index-as_slice-symbol.is c.index_mut.ensures.value c.as_slice-sizes.ensures c.as_slice-2.ensures c.in-Some.ensures c.value_limit.ensures c.if-value-value_limit.false in
    written c.self.inside.signature.now c.self.inside.sizes c.self.inside.tables.items c.args.symbol c.index-as_slice-symbol.result c.index_mut.result.now c.set_entry.new.table c.args.tuple.now c.args.value c.in-Some.at c.args.self.now here c.self.view_is c.set_entry.ensures
