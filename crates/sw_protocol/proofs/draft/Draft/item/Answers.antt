use Rattle.std.proofs.Common.{◌++◌, subst}
use Rattle.std.specs.Prelude.{IfOk}
use Rattle.sw_text.specs.Names.{Around}
use Rattle.sw_text.specs.Resolving.{Finds}
use Rattle.sw_protocol.specs.declared.draft.Item.TheVariants as item
use Rattle.sw_protocol.specs.Declaring.{name_faults, sort_faults, sorts_faults, constant_of, function_of}
use Rattle.sw_protocol.proofs.Looking.{all_kept}
use Rattle.sw_protocol.proofs.draft.Draft.item.Goals as goal

pub returns-in-Constant : goal.returns-in-Constant
returns-in-Constant c =
    let k = c.in-Constant in
    let found = subst (λ (a : Around). IfOk c.constant.result (Finds (name_faults a k.name ++ sort_faults a k.sort) (item.Symbol (constant_of a k.mutable k.name k.sort)))) c.names-names.ensures c.constant.ensures in
    rw k.is (all_kept _ _ c.args.self.now c.constant.result found)

pub returns-in-Function : goal.returns-in-Function
returns-in-Function c =
    let k = c.in-Function in
    let given = rw c.as_slice-in-Function.ensures at c.function.ensures in
    let found = subst (λ (a : Around). IfOk c.function.result (Finds (name_faults a k.name ++ (sorts_faults a k.sorts ++ sort_faults a k.sort)) (item.Symbol (function_of a k.name k.sorts k.sort)))) c.names-names.ensures given in
    rw k.is (all_kept _ _ c.args.self.now c.function.result found)
