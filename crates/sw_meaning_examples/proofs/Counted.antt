-- The examples of classes.
use Rattle.std.proofs.Common.{rules, refl}
use Rattle.sw_logic.specs.declared.syntax.Term as term
use Rattle.sw_logic.specs.declared.syntax.Formula as formula
use Rattle.sw_meaning_examples.specs.Examples.{ClassesAreCounted}

pub counted : ClassesAreCounted
counted = record {
  atoms_of_two = refl;
  cubes_of_two = refl;
  classes_of_two = refl;
  parts_of_two = refl;
  one_part = refl;
  classes_of_some = refl;
  classes_of_the_token = refl;
  classes_of_values = search (rules, formula.the_lemmas, term.the_lemmas);
  deep_cubes = refl;
  deep_classes = refl;
}
