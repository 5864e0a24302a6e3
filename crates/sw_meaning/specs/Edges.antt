-- The edges between sorts that a protocol has.
use Rattle.std.specs.Prelude.{ℕ, true, false, List, [], ◌∷◌, ◌++◌, map, length}
use Rattle.std.specs.List.{flat_map}
use Rattle.sw_logic.specs.declared.syntax.Edge.{Edge}
use Rattle.sw_logic.specs.declared.syntax.Formula.{Formula}
use Rattle.sw_logic.specs.declared.syntax.Formula.TheVariants.{Exists}
use Rattle.sw_logic.specs.declared.query.Polar.{Polar}
use Rattle.sw_logic.specs.Strata.{edges_of, AreRanks}
use Rattle.sw_meaning.specs.declared.protocol.Protocol.{Protocol}
use Rattle.sw_meaning.specs.declared.protocol.Transition.{Transition}

abbrev pub asserted : Formula → Polar
asserted f = record { formula = f; positive = true }

abbrev pub denied : Formula → Polar
denied f = record { formula = f; positive = false }

-- a transition's parameters are chosen once, before anything else
abbrev pub chosen : Transition → Formula
chosen t = Exists t.params t.formula

-- what is asserted of a protocol's states and steps; a safety is asserted before a step and denied after it
abbrev pub polars_of : Protocol → List Polar
polars_of p =
    map asserted p.axioms
    ++ map asserted p.inits
    ++ map (λ t. asserted (chosen t)) p.transitions
    ++ flat_map (λ f. asserted f ∷ denied f ∷ []) p.safeties

abbrev pub protocol_edges : Protocol → List Edge
protocol_edges p = edges_of p.signature (polars_of p)

-- some ranks rise along the protocol's edges and these further ones
pub record IsStratifiedWith (p : Protocol) (extra : List Edge) : Type 0 where
  pub ranks : List ℕ
  pub are : AreRanks (length p.signature.sorts) (protocol_edges p ++ extra) ranks
