use Rattle.std.proofs.Common.{ap, ◌∙◌, ◌++◌}
use Rattle.std.specs.Prelude.{string_bytes, codes}
use Rattle.sw_meaning.specs.ProtocolText.{params_text, modifies_text}
use Rattle.sw_protocol.proofs.Rows.{four_pieces}
use Rattle.sw_protocol.proofs.printing.push_heading.Goals as goal

pub returns : goal.returns
returns c =
    let sig = c.args.signature.now in
    let t = c.args.transition.now in
    let last = rw c.as_slice-2.ensures at c.push_modifies.ensures in
    let params = rw c.as_slice.ensures at c.in_ok-push_params.ensures in
    let named = c.in_ok-push_str-2.ensures.bytes ∙ ap (λ w. string_bytes c.push_str.new.self ++ w) c.as_str.ensures ∙ ap (λ w. w ++ t.name) c.in_ok-push_str.ensures.bytes in
    four_pieces c.push_modifies.result (string_bytes c.args.text.now) _ (codes "transition ") t.name (params_text sig t.params) (modifies_text sig t.modifies) _ last
    (params ∙ ap (λ w. w ++ params_text sig t.params) named)
