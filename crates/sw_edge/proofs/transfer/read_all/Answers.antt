use Rattle.std.proofs.Common.{◌≡◌, ◌+◌, ◌++◌, take, length, true, refl, ap, ◌∙◌, sym, arith, rules}
use Rattle.std.specs.Result.{is_ok}
use Rattle.std.proofs.lemmas.List.{length-take, length-take-le}
use Rattle.sw_edge.proofs.Parts.{Loses-append, Took-read}
use Rattle.sw_edge.proofs.transfer.read_all.Goals as goal

pub returns-then-n-room-clause-taken : goal.returns-then-n-room-clause-taken
returns-then-n-room-clause-taken g c = (
  length c.loop-n.all.items + c.in-Bytes.n,
  Took-read _ _ _ _ _ _ c.loop-n.invariant.taken c.in-Bytes.ensures.bytes,
  ((λ _. omega (arith, c.loop-n.all.ok.0)), (λ _. refl)),
  omega (arith, c.loop-n.all.ok.0, c.in-Bytes.ensures.bytes.1, simp length-take at c.read.auto.buf),
)

pub loop-n-preserved : goal.loop-n-preserved
loop-n-preserved g c =
    let ok : is_ok c.extend_from_slice.result ≡ true = sym c.map_err-in-Bytes.ensures.variant ∙ ap is_ok c.in_ok-map_err-in-Bytes.was in
    let items : c.extend_from_slice.new.self.items ≡ c.loop-n.all.items ++ take c.in-Bytes.n c.read.new.buf = rw ok at c.extend_from_slice.ensures.items in
    record {
      taken = rw items (Loses-append _ _ _ _ _ c.loop-n.invariant.taken c.in-Bytes.ensures.bytes.2);
      within = omega (arith, rw ok at c.extend_from_slice.ensures.len, length-take-le c.in-Bytes.n c.read.new.buf c.in-Bytes.ensures.bytes.1);
      faults = omega (arith, c.in-Bytes.ensures.cause);
      size = c.loop-n.invariant.size;
    }

pub returns-in_err-map_err-in-Bytes-clause-taken : goal.returns-in_err-map_err-in-Bytes-clause-taken
returns-in_err-map_err-in-Bytes-clause-taken g c = (
  length c.loop-n.all.items + c.in-Bytes.n,
  Took-read _ _ _ _ _ _ c.loop-n.invariant.taken c.in-Bytes.ensures.bytes,
  ((λ is. absurd (search rules)), (λ lt. absurd (omega (arith, c.loop-n.all.ok.0)))),
  omega (arith, c.loop-n.all.ok.0),
)
