use Rattle.std.proofs.Common.{length}
use Rattle.sw_renaming.proofs.renaming.+copy_in.Given as goal

abbrev pub decreases-copy_in : goal.decreases-copy_in
decreases-copy_in l = length l.listed.now
