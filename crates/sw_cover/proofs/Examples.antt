-- The examples of counts.
use Rattle.std.specs.Prelude.{◌≡◌, length}
use Rattle.std.proofs.Common.{refl}
use Rattle.sw_meaning.specs.Classes.{atoms}
use Rattle.sw_cover.specs.Examples.{CountsAreTold, four_places, six}
use Rattle.sw_cover.proofs.Terms.{depth-Variable, depth-Apply}

atoms_of_six : length (atoms four_places six) ≡ 1311
atoms_of_six = refl

pub counts_are_told : CountsAreTold
counts_are_told = record {
  terms_at_0 = refl;
  terms_at_1 = simp (depth-Variable);
  terms_at_2 = simp (depth-Variable, depth-Apply);
  atoms_of_six = atoms_of_six;
}
