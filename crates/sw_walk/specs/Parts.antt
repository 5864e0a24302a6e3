-- The parts of a space and their classes.
use Rattle.std.specs.Prelude.{◌≡◌, ℕ, List, [], map, slice_get, unwrap_or, Contains}
use Rattle.std.specs.List.{flat_map}
use Rattle.sw_template.specs.Bodies.{Class}

-- the classes of the part of a number
abbrev pub part_at : List (List (List ℕ)) → ℕ → List (List ℕ)
part_at parts n = unwrap_or (slice_get parts n) []

abbrev pub all_classes : List (List (List ℕ)) → List (List ℕ)
all_classes parts = flat_map (λ part. part) parts

abbrev pub classes_of : List Class → List (List ℕ)
classes_of bodies = map (λ (b : Class). b.cubes) bodies

-- the class of a space of one template that has these cubes
abbrev pub class_of : List ℕ → Class
class_of cubes = record { template = 0; cubes = cubes }

-- the body is a class of these parts
pub record IsClass (ps : List (List (List ℕ))) (b : Class) : Type 0 where
  pub single : b.template ≡ 0
  pub among : Contains (all_classes ps) b.cubes
