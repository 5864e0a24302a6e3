use Rattle.std.proofs.Common.{◌≡◌, ◌+◌, ◌++◌, take, drop, Some, ap, ◌∙◌, arith}
use Rattle.std.proofs.lemmas.List.{length-append, length-take}
use Rattle.sw_edge.proofs.Parts.{drop-take_copied}
use Rattle.sw_edge.proofs.memory.MemSourceSource.read.Goals as goal

pub returns-clause-bytes : goal.returns-clause-bytes
returns-clause-bytes c =
    let given = c.self.inside.given in
    let bytes = c.self.inside.bytes.items in
    let n = c.min-n.result in
    let behind = drop n c.args.buf.now in
    let left : c.args.self.now.left ≡ drop given bytes = cc in
    let copied : drop given bytes ≡ take n (c.copy_from_slice.new.self ++ behind) ++ drop (given + n) bytes =
    drop-take_copied given n bytes c.copy_from_slice.new.self behind (omega (arith, c.self.inside.bytes.ok.0))
    (rw c.deref.ensures.value at c.copy_from_slice.ensures.after) in
    (omega arith, simp (length-append, c.copy_from_slice.ensures.len, length-take) (omega arith), ap Some (left ∙ copied))
