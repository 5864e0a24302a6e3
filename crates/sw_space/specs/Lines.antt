-- The lines that tell a fault of a template, and those that tell the size of a space.
use Rattle.std.specs.Prelude.{ℕ, List, ◌++◌, length, codes}
use Rattle.std.specs.Fmt.{decimal}
use Rattle.sw_logic.specs.declared.syntax.Signature.{Signature}
use Rattle.sw_meaning.specs.declared.template.Template.{Template}
use Rattle.sw_meaning.specs.Classes.{atoms, cubes, classes}
use Rattle.sw_meaning.specs.Report.{line}
use Rattle.sw_space.specs.declared.faults.SpaceFault.{SpaceFault}
use Rattle.sw_space.specs.declared.faults.SpaceFault.TheVariants.{BadByte, Syntax, UnknownSort, VariablesOver, LiteralsOver, NotStratified, AtomsOver, CubesOver, SpaceTooLarge}

abbrev pub fault_text : SpaceFault → List ℕ
fault_text (BadByte at) = codes "BadByte at " ++ decimal at
fault_text (Syntax at) = codes "Syntax at " ++ decimal at
fault_text (UnknownSort at) = codes "UnknownSort at " ++ decimal at
fault_text (VariablesOver n) = codes "VariablesOver " ++ decimal n
fault_text (LiteralsOver n) = codes "LiteralsOver " ++ decimal n
fault_text (NotStratified name) = codes "NotStratified " ++ name
fault_text (AtomsOver n) = codes "AtomsOver " ++ decimal n
fault_text (CubesOver n) = codes "CubesOver " ++ decimal n
fault_text (SpaceTooLarge n) = codes "SpaceTooLarge " ++ decimal n

-- the line names the template by what it is for
abbrev pub fault_line : List ℕ → SpaceFault → List ℕ
fault_line which fault = line (codes "swiss: " ++ which ++ codes " " ++ fault_text fault)

-- the numbers of atoms, of cubes and of classes, each on a line
abbrev pub numbers_text : ℕ → ℕ → ℕ → List ℕ
numbers_text a c n = line (codes "atoms " ++ decimal a) ++ line (codes "cubes " ++ decimal c) ++ line (codes "classes " ++ decimal n)

abbrev pub sizes_of : Signature → Template → List ℕ
sizes_of sig t = numbers_text (length (atoms sig t)) (length (cubes sig t)) (length (classes sig t))
