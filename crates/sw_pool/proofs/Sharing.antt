-- That threads may share terms, formulas and protocols: a layer of a tree may be shared where its parts may.
use Rattle.std.proofs.Common.{subst}
use base.Shift.{Keyless}
use denote.RattleType.{RattleType}
use denote.Hole.{as_row}
use denote.Hole.FixLaws.{layer_row}
use denote.Hole.FixSend.{fix_sync, Syncs}
use denote.Param.Send.{IsSync, sendable}
use denote.Param.SendFields.{as_row_sync, declared_sync, variants_sync}
use denote.Struct.Field.{row_field}
use Rattle.sqlite_items.specs.contracts.items.Items as items_row
use Rattle.sw_logic.specs.contracts.syntax.Binder as binder_row
use Rattle.sqlite_items.proofs.boxed.Boxed.TheSendSync as boxed
use Rattle.sqlite_items.proofs.items.Items.TheSendSync as items
use Rattle.sw_logic.proofs.syntax.Binder.TheSendSync as binder
use Rattle.sw_logic.proofs.syntax.Name.TheSendSync as name
use Rattle.sw_logic.proofs.syntax.Signature.TheSendSync as signature
use Rattle.sw_logic.specs.contracts.syntax.Formula as formula
use Rattle.sw_logic.specs.contracts.syntax.Formula.TheKnot as formulas
use Rattle.sw_logic.specs.contracts.syntax.Term as term
use Rattle.sw_logic.specs.contracts.syntax.Term.TheKnot as terms
use Rattle.sw_logic.specs.declared.syntax.Formula.TheBlock as formula_block
use Rattle.sw_logic.specs.declared.syntax.Term.TheBlock as term_block
use Rattle.sw_meaning.proofs.protocol.Decl.TheSendSync as decl
use Rattle.sw_meaning.specs.contracts.protocol.Protocol as protocol
use Rattle.sw_meaning.specs.contracts.protocol.Transition as transition

term_layer : (h : terms.the_members → RattleType) → IsSync (h term_block.member-Term) → IsSync (layer_row terms.ring term_block.member-Term h)
term_layer h one = record { shared = (variants_sync (terms.type-Term (h term_block.member-Term)) (search (sendable, one, as_row_sync, items.the_sync) depth 16)).shared }

term_step : (i : terms.the_members) → Syncs terms.ring i
term_step i = elim i as (λ i. Syncs terms.ring i) [ term_block.member-Term ↦ record { sync = λ h all. term_layer h (all term_block.member-Term) } ]

term_hole : IsSync term.the_hole
term_hole = fix_sync terms.ring term_step term.the_member

pub term_sync : IsSync term.the_row
term_sync = search (variants_sync, sendable, term_hole, as_row_sync, items.the_sync) depth 16

twice : (R : RattleType) → IsSync R → IsSync (as_row (row_field (as_row (row_field R))))
twice R s = as_row_sync (row_field (as_row (row_field R))) (as_row_sync (row_field R) s)

args_sync : IsSync (as_row (row_field (as_row (row_field (items_row.the_row term.the_row)))))
args_sync = twice (items_row.the_row term.the_row) (items.the_sync term.the_row term_sync)

binders_sync : IsSync (as_row (row_field (as_row (row_field (items_row.the_row binder_row.the_row)))))
binders_sync = twice (items_row.the_row binder_row.the_row) (items.the_sync binder_row.the_row binder.the_sync)

formula_layer : (h : formulas.the_members → RattleType) → IsSync (h formula_block.member-Formula) →
    IsSync (layer_row formulas.ring formula_block.member-Formula h)
formula_layer h one =
    let x = h formula_block.member-Formula in
    record {
      shared = (variants_sync (formulas.type-Formula x x x x x x x x x) (
        tt,
        (
          tt,
          (
            (search (sendable, as_row_sync) depth 16, (search (sendable, as_row_sync) depth 16, (args_sync, tt))),
            (
              search (sendable, term_sync) depth 16,
              (
                search (sendable, one, as_row_sync, boxed.the_sync) depth 16,
                (
                  search (sendable, one, as_row_sync, items.the_sync) depth 16,
                  (
                    search (sendable, one, as_row_sync, items.the_sync) depth 16,
                    (
                      search (sendable, one, as_row_sync, boxed.the_sync) depth 16,
                      (
                        search (sendable, one, as_row_sync, boxed.the_sync) depth 16,
                        (
                          (binders_sync, (search (sendable, one, as_row_sync, boxed.the_sync) depth 16, tt)),
                          ((binders_sync, (search (sendable, one, as_row_sync, boxed.the_sync) depth 16, tt)), tt),
                        ),
                      ),
                    ),
                  ),
                ),
              ),
            ),
          ),
        ),
      )).shared;
    }

formula_step : (i : formulas.the_members) → Syncs formulas.ring i
formula_step i = elim i as (λ i. Syncs formulas.ring i) [ formula_block.member-Formula ↦ record { sync = λ h all. formula_layer h (all formula_block.member-Formula) } ]

formula_hole : IsSync formula.the_hole
formula_hole = fix_sync formulas.ring formula_step formula.the_member

pub formula_sync : IsSync formula.the_row
formula_sync = record { shared = λ x b o κ. subst (λ f. Keyless (f b o κ)) (formula.shr_is x) (formula_hole.shared x b o κ) }

pub transition_sync : IsSync transition.the_row
transition_sync = declared_sync transition.the_type (search (sendable, formula_sync, as_row_sync, items.the_sync, binder.the_field_sync, name.the_sync) depth 16)

pub protocol_sync : IsSync protocol.the_row
protocol_sync = declared_sync protocol.the_type (search (sendable, formula_sync, transition_sync, as_row_sync, items.the_sync, signature.the_field_sync, decl.the_field_sync) depth 16)
