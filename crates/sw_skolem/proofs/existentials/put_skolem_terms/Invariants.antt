use Rattle.std.proofs.Common.{◌≡◌, ◌++◌}
use Rattle.sw_skolem.specs.Skolem.{skolem_terms}
use Rattle.sw_skolem.proofs.existentials.put_skolem_terms.Given as goal

abbrev pub invariant-loop-place : goal.invariant-loop-place
invariant-loop-place l = l.terms ≡ l.initial.terms ++ skolem_terms l.universals l.first l.place
