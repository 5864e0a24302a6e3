-- Laws of edges, each the contract of a function of the crate.
use Rattle.std.specs.Prelude.{◌≡◌, Bool, true, List, [], length}
use Rattle.std.specs.List.{AllByRecursion}
use Rattle.sw_logic.specs.declared.syntax.Signature.{Signature}
use Rattle.sw_logic.specs.Sorted.{well_sorted}
use Rattle.sw_logic.specs.declared.query.Polar.{Polar}
use Rattle.sw_logic.specs.Signatures.{is_signature}
use Rattle.sw_logic.specs.Strata.{AreWithin, edges_of}

-- the edges of closed formulas are between sorts of the signature; post symbols may be read where `post` is true
abbrev pub EdgesAreWithin : Type 0
EdgesAreWithin = (sig : Signature) (post : Bool) (formulas : List Polar) → is_signature sig ≡ true → AllByRecursion (λ (p : Polar). well_sorted sig post p.formula [] ≡ true) formulas
    → AreWithin (length sig.sorts) (edges_of sig formulas)
