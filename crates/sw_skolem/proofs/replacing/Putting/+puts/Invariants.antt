use Rattle.std.proofs.Common.{◌≡◌, take, map}
use Rattle.sw_logic.specs.Terms.{put}
use Rattle.sw_skolem.proofs.replacing.Putting.+puts.Given as goal

abbrev pub invariant-put_all-loop-arg : goal.invariant-put_all-loop-arg
invariant-put_all-loop-arg l = l.put_args ≡ map (put l.self.terms.now) (take l.arg-index l.args)
