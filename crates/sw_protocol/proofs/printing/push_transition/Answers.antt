use Rattle.std.proofs.Common.{ap, ◌∙◌, ◌++◌}
use Rattle.std.specs.Prelude.{OnOk, string_bytes, codes}
use Rattle.sw_logic.specs.Canonical.{names_of, text_of}
use Rattle.sw_meaning.specs.ProtocolText.{heading_text}
use Rattle.sw_protocol.proofs.Rows.{three_pieces}
use Rattle.sw_protocol.proofs.printing.push_transition.Goals as goal

pub returns : goal.returns
returns c =
    let sig = c.args.signature.now in
    let t = c.args.transition.now in
    let last = rw c.as_slice.ensures at c.push_formula.ensures in
    three_pieces c.push_formula.result (string_bytes c.args.text.now) _ (heading_text sig t) (codes ": ") (text_of sig (names_of t.params) t.formula) _ last
    (c.in_ok-push_str.ensures.bytes ∙ ap (λ w. w ++ codes ": ") c.in_ok-push_heading.ensures)
