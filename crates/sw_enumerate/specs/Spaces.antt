-- What a space is made of.
use Rattle.std.specs.Prelude.{◌≡◌, ℕ, zero, suc, ◌<◌, ◌≤◌, ◌^◌, List, [], ◌∷◌, length, slice_get, Some}
use Rattle.std.proofs.Common.{ap, ◌∙◌}
use Rattle.std.proofs.lemmas.Option.{none-some, same_Some}
use Rattle.sw_logic.specs.declared.syntax.Formula.{Formula}
use Rattle.sw_logic.specs.declared.syntax.Signature.{Signature}
use Rattle.sw_meaning.specs.declared.template.Template.{Template}
use Rattle.sw_meaning.specs.Classes.{atoms, cubes, classes_of, parts_of, formula_by}
use Rattle.sw_template.specs.Prefix.{variable_count}
use Rattle.sw_enumerate.specs.Walk.{AreSmall, part_at}

-- a template, its atoms and its cubes
pub record Made : Type 0 where
  pub template : Template
  pub atoms : List Formula
  pub cubes : List (List ℕ)

-- the space of a template in a signature
pub record IsSpaceOf (sig : Signature) (template : Template) (s : Made) : Type 0 where
  pub template_is : s.template ≡ template
  pub atoms_are : s.atoms ≡ atoms sig template
  pub cubes_are : s.cubes ≡ cubes sig template

-- the classes, the parts, the classes of a part, and the formula of a class
abbrev pub classes_in : Made → List (List ℕ)
classes_in s = classes_of s.template.literals s.cubes

abbrev pub parts_in : Made → List (List (List ℕ))
parts_in s = parts_of s.template.literals s.cubes

abbrev pub part_in : Made → ℕ → List (List ℕ)
part_in s part = part_at s.template.literals s.cubes part

abbrev pub formula_in : Made → List ℕ → Formula
formula_in s class = formula_by s.template s.atoms s.cubes class

-- within the limits
pub record IsWithin (s : Made) : Type 0 where
  pub atoms : length s.atoms ≤ 512
  pub cubes : length s.cubes ≤ 1048576
  pub classes : length (classes_in s) ≤ 2 ^ 32

-- one to six literals, cubes of as many, and at most six variables
pub record IsSmall (s : Made) : Type 0 where
  pub some : 0 < s.template.literals
  pub most : s.template.literals ≤ 6
  pub variables : variable_count s.template.prefix ≤ 6
  pub cubes : AreSmall s.cubes

-- what the one template of a space was made of
abbrev pub IsFor : Made → Signature → Type 0
IsFor s sig = IsSpaceOf sig s.template s

pub made_of : (s : Made) (sig : Signature) → IsFor s sig → (n : ℕ) (t : Template) → slice_get (s.template ∷ []) n ≡ Some t
    → (slice_get (s.atoms ∷ []) n ≡ Some (atoms sig t)) × (slice_get (s.cubes ∷ []) n ≡ Some (cubes sig t))
made_of s sig i zero t e =
    let same : s.template ≡ t = same_Some s.template t e in
    (ap Some (i.atoms_are ∙ ap (atoms sig) same), ap Some (i.cubes_are ∙ ap (cubes sig) same))
made_of s sig i (suc n) t e = absurd (none-some t e)
