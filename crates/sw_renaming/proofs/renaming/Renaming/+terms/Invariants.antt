use Rattle.std.proofs.Common.{◌≡◌, map, take}
use Rattle.sw_renaming.specs.Renamed.{renamed_term}
use Rattle.sw_renaming.proofs.renaming.Renaming.+terms.Given as goal

abbrev pub invariant-terms-loop-term : goal.invariant-terms-loop-term
invariant-terms-loop-term l = l.all ≡ map (renamed_term l.self.protocol.now l.self.transition.now l.moment) (take l.term-index l.terms)
