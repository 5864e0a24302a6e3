-- What the workers share may be shared among threads.
use denote.Param.Send.{IsSync, recorded_sync, shr_sync, struct_sync, sendable}
use denote.RattleType.{RattleType}
use denote.Builtin.{u32}
use denote.Ref.{NamedLft}
use denote.Struct.Declared.{shape}
use Rattle.std.proofs.Crossing.{crosses}
use Rattle.sqlite_items.proofs.items.Items.TheSendSync as items
use Rattle.sqlite_items.specs.contracts.items.Items.{the_row as items_row}
use Rattle.sw_logic.specs.contracts.syntax.Formula as formula
use Rattle.sw_logic.proofs.syntax.Binder.TheSendSync as binder
use Rattle.sw_logic.proofs.syntax.Formula.TheLaws.TheKnot as formulas
use Rattle.sw_logic.proofs.syntax.Name.TheSendSync as name
use Rattle.sw_logic.proofs.syntax.Signature.TheSendSync as signature
use Rattle.sw_logic.proofs.syntax.Term.TheLaws.TheKnot as terms
use Rattle.sw_meaning.specs.contracts.protocol.Protocol as protocol
use Rattle.sw_meaning.specs.contracts.protocol.Transition as transition
use Rattle.sw_meaning.proofs.protocol.Decl.TheSendSync as decl
use Rattle.sw_filter.proofs.filter.Mode.TheSendSync as mode
use Rattle.sw_pool.proofs.pool.Pool.TheSendSync as pool
use Rattle.sw_hand.specs.contracts.hand.Task as task
use Rattle.sw_finish.specs.contracts.finding.Finder as finder

items_sync : (T : RattleType) → IsSync T → IsSync (items_row T)
items_sync T s = search (items.the_sync, crosses, sendable) depth 60 fits 20000

pub formula_sync : IsSync formula.the_row
formula_sync = search (crosses, formulas.crosses, terms.crosses, sendable) depth 60 fits 20000

formula_field_sync : IsSync (formula.the_field).row
formula_field_sync = search (crosses, formulas.crosses, terms.crosses, sendable) depth 60 fits 20000

transition_sync : IsSync transition.the_row
transition_sync =
    recorded_sync transition.the_field.row _ _ transition.the_type.to_one
    (struct_sync (shape transition.the_type) (name.the_sync, (items_sync _ binder.the_sync, (items_sync u32 (search sendable), (formula_field_sync, tt)))))

pub protocol_sync : IsSync protocol.the_row
protocol_sync =
    recorded_sync protocol.the_field.row _ _ protocol.the_type.to_one
    (struct_sync (shape protocol.the_type) (
      signature.the_field_sync,
      (
        items_sync _ formula_sync,
        (
          items_sync _ formula_sync,
          (
            items_sync _ transition_sync,
            (items_sync _ formula_sync, (items_sync _ decl.the_sync, tt)),
          ),
        ),
      ),
    ))

task_sync : (a : NamedLft) (B : RattleType) → IsSync B → IsSync (task.the_row a B)
task_sync a B s =
    recorded_sync (task.the_field a B).row _ _ (task.the_type a B).to_one
    (struct_sync (shape (task.the_type a B)) (
      shr_sync _ _ _ protocol_sync,
      (
        shr_sync _ _ _ s,
        (
          shr_sync _ _ _ pool.the_sync,
          (
            mode.the_field_sync,
            (search sendable, (search sendable, tt)),
          ),
        ),
      ),
    ))

pub finder_sync : (a b : NamedLft) (G B : RattleType) → IsSync G → IsSync B → IsSync (finder.the_row a b G B)
finder_sync a b G B g s =
    recorded_sync (finder.the_field a b G B).row _ _ (finder.the_type a b G B).to_one
    (struct_sync (shape (finder.the_type a b G B)) (
      shr_sync _ _ _ (task_sync a B s),
      (
        search (formula_sync, sendable),
        (
          search (crosses, sendable),
          (shr_sync _ _ _ g, tt),
        ),
      ),
    ))
