-- The laws of classes, each the contract of a function of the crate.
use Rattle.std.specs.Prelude.{◌≡◌, ℕ, ◌<◌, true, List, length}
use Rattle.std.specs.List.{AllByRecursion, flat_map}
use Rattle.sw_logic.specs.declared.syntax.Signature.{Signature}
use Rattle.sw_logic.specs.Signatures.{is_signature}
use Rattle.sw_meaning.specs.declared.protocol.Protocol.{Protocol}
use Rattle.sw_meaning.specs.declared.template.Template.{Template}
use Rattle.sw_meaning.specs.Classes.{classes_of, parts_of}
use Rattle.sw_meaning.specs.Laws.{ClassesCover}
use Rattle.sw_cover.specs.Apart.{Apart}

-- the template's variables are of sorts that there are
abbrev pub IsOver : Signature → Template → Type 0
IsOver sig t = AllByRecursion (λ run. run.sort < length sig.sorts) t.prefix

-- the classes of every template cover its space
abbrev pub AllClassesCover : Type 0
AllClassesCover = (p : Protocol) (t : Template) → is_signature p.signature ≡ true → IsOver p.signature t → ClassesCover p t

-- the parts, one after the other, are the classes in their order
abbrev pub PartsAreClasses : Type 0
PartsAreClasses = (most : ℕ) (cubes : List (List ℕ)) → flat_map (λ part. part) (parts_of most cubes) ≡ classes_of most cubes

-- no class stands twice
abbrev pub EachClassOnce : Type 0
EachClassOnce = (most : ℕ) (cubes : List (List ℕ)) → Apart (classes_of most cubes)
