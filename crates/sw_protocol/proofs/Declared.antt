-- What a text declares is well formed.
use Rattle.std.specs.Prelude.{◌≡◌, ℕ, List, [], ◌∷◌, map, Result, Ok, Err}
use Rattle.std.proofs.Common.{refl, sym, subst}
use Rattle.sw_meaning.specs.declared.protocol.Protocol.{Protocol}
use Rattle.sw_meaning.specs.WellFormed.{IsWellFormed}
use Rattle.sw_trees.specs.declared.words.Word.{Word}
use Rattle.sw_trees.specs.Words.{word_of}
use Rattle.sw_text.specs.declared.names.Violation.{Violation}
use Rattle.sw_protocol.specs.declared.tree.Declaration.{Declaration}
use Rattle.sw_protocol.specs.declared.parsing.Parsed.{Parsed}
use Rattle.sw_protocol.specs.declared.texts.ProtocolError.{ProtocolError}
use Rattle.sw_protocol.specs.Answers.{IsAnswer}
use Rattle.sw_protocol.specs.Declaring.{empty_protocol, all_faults, all_declared}
use Rattle.sw_protocol.specs.Texts.{first_broken, outcome, HasDeclared, DeclaredIsWellFormed}
use Rattle.sw_protocol.proofs.Few.{all_few}
use Rattle.sw_protocol.proofs.WellFormed.{all_well, empty_well}

unbroken : (vs : List Violation) (p q : Protocol) → ◌≡◌ {A = Result Protocol ProtocolError} (Ok p) (first_broken vs q) → (vs ≡ []) × (q ≡ p)
unbroken [] p q e = let same : q ≡ p = cc in (refl, same)
unbroken (v ∷ vs) p q e = cc

whole : (text : List ℕ) (ws : List Word) (found : Parsed) (p : Protocol) → IsAnswer text ws found → Ok p ≡ outcome text ws found → IsWellFormed p
whole text ws (Parsed.Whole ds) p h e =
    let fine = unbroken (all_faults text empty_protocol ds) p (all_declared text empty_protocol ds) e in
    subst IsWellFormed fine.1 (all_well text empty_protocol ds fine.0 (all_few h.spelled h.begins.allowed) empty_well)
whole text ws (Parsed.Syntax n) p h e = cc
whole text ws (Parsed.TooDeep n) p h e = cc

pub declared_is_well_formed : DeclaredIsWellFormed
declared_is_well_formed text p (HasDeclared.bad at h e) = cc
declared_is_well_formed text p (HasDeclared.read tokens found h i e) = whole text (map (word_of text) tokens) found p i e
