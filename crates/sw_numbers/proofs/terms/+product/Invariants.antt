use Rattle.std.proofs.Common.{length}
use Rattle.sw_numbers.proofs.terms.+product.Given as goal

abbrev pub decreases-product : goal.decreases-product
decreases-product l = length l.sorts.now
