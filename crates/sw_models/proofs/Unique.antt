-- A text has one answer.
use Rattle.std.proofs.Common.{◌≡◌, ℕ, List, [], ◌∷◌, ◌++◌, Some, None, Result, Err, ◌∙◌, ap, sym, subst}
use Rattle.std.proofs.lemmas.Option.{none-some}
use Rattle.sw_logic.specs.declared.structure.Table.{Table}
use Rattle.sw_logic.specs.declared.structure.Structure.{Structure}
use Rattle.sw_models.specs.declared.errors.StructureError.{StructureError}
use Rattle.sw_models.specs.Reading.{Line, Content, Begins, IsFault, Has, fault_of, sizes_in, tables_in, place_below}
use Rattle.sw_models.proofs.Lines.{begins_once}

fault_once : (sizes : List ℕ) (at : ℕ) (line : Line) (bytes : List ℕ) (d e : StructureError) → IsFault sizes at line bytes d → IsFault sizes at line bytes e → d ≡ e
fault_once sizes at line bytes d e (IsFault.missing none f) (IsFault.missing not g) = f ∙ sym g
fault_once sizes at line bytes d e (IsFault.missing none f) (IsFault.wrong content below b g) = absurd (none content below b)
fault_once sizes at line bytes d e (IsFault.wrong content below b f) (IsFault.missing none g) = absurd (none content below b)
fault_once sizes at line bytes d e (IsFault.wrong content below b f) (IsFault.wrong other lower c g) =
    let same = begins_once line content other below lower bytes b c in
    let h : fault_of sizes at line content ≡ fault_of sizes at line other = ap (fault_of sizes at line) same.0 in
    let i : Some d ≡ Some e = sym f ∙ h ∙ g in
    cc

not_both : (sizes : List ℕ) (at : ℕ) (line : Line) (bytes : List ℕ) (e : StructureError) (content : Content) (below : List ℕ)
    → IsFault sizes at line bytes e → Begins line content below bytes → fault_of sizes at line content ≡ None → ⊥
not_both sizes at line bytes e content below (IsFault.missing none f) b g = none content below b
not_both sizes at line bytes e content below (IsFault.wrong other lower c f) b g =
    let same = begins_once line content other below lower bytes b c in
    let h : fault_of sizes at line content ≡ fault_of sizes at line other = ap (fault_of sizes at line) same.0 in
    let i : None ≡ Some e = sym g ∙ h ∙ f in
    none-some e i

moved : (s : Result Structure StructureError) (lines : List Line) (sizes : List ℕ) (tables : List Table) (at : ℕ) (line : Line) (c d : Content) (below lower : List ℕ)
    → c ≡ d → below ≡ lower → Has s lines (sizes ++ sizes_in d) (tables ++ tables_in d) (place_below at line d) lower
    → Has s lines (sizes ++ sizes_in c) (tables ++ tables_in c) (place_below at line c) below
moved s lines sizes tables at line c d below lower e f has =
    let P : Content → Type 0 = λ x. Has s lines (sizes ++ sizes_in x) (tables ++ tables_in x) (place_below at line x) lower in
    let Q : List ℕ → Type 0 = λ x. Has s lines (sizes ++ sizes_in c) (tables ++ tables_in c) (place_below at line c) x in
    subst Q (sym f) (subst P (sym e) has)

pub one_answer : (r s : Result Structure StructureError) (lines : List Line) (sizes : List ℕ) (tables : List Table) (at : ℕ) (bytes : List ℕ)
    → Has r lines sizes tables at bytes → Has s lines sizes tables at bytes → r ≡ s
one_answer r s [] sizes tables at [] (Has.end e) (Has.end f) = e ∙ sym f
one_answer r s [] sizes tables at (b ∷ bytes) (Has.more e) (Has.more f) = e ∙ sym f
one_answer r s (line ∷ lines) sizes tables at bytes (Has.fault d f e) (Has.fault d' g e') = e ∙ ap Err (fault_once sizes at line bytes d d' f g) ∙ sym e'
one_answer r s (line ∷ lines) sizes tables at bytes (Has.fault d f e) (Has.next content below b g h) = absurd (not_both sizes at line bytes d content below f b g)
one_answer r s (line ∷ lines) sizes tables at bytes (Has.next content below b g h) (Has.fault d f e) = absurd (not_both sizes at line bytes d content below f b g)
one_answer r s (line ∷ lines) sizes tables at bytes (Has.next content below b g h) (Has.next other lower c i j) =
    let same = begins_once line content other below lower bytes b c in
    one_answer r s lines (sizes ++ sizes_in content) (tables ++ tables_in content) (place_below at line content) below h
    (moved s lines sizes tables at line content other below lower same.0 same.1 j)
