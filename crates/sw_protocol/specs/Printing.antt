-- Parts of the canonical text of a protocol.
use Rattle.std.specs.Prelude.{ℕ, List, ◌++◌, codes}
use Rattle.std.specs.List.{flat_map}
use Rattle.sw_meaning.specs.declared.protocol.Protocol.{Protocol}
use Rattle.sw_meaning.specs.declared.protocol.Decl.{Decl}
use Rattle.sw_meaning.specs.Report.{line}
use Rattle.sw_meaning.specs.ProtocolText.{declaration_text}

-- the names after the first
abbrev pub others_text : (ℕ → List ℕ) → List ℕ → List ℕ
others_text name ks = flat_map (λ k. codes ", " ++ name k) ks

abbrev pub declaration_line : Protocol → Decl → List ℕ
declaration_line p d = line (declaration_text p d ++ codes ";")
