-- The sorts of a protocol over which a text names a template are stratified.
use Rattle.std.specs.Prelude.{◌≡◌, ℕ, List, [], ◌++◌, length, Option, Some, Result, Ok, Contains}
use Rattle.std.proofs.Common.{refl}
use Rattle.sw_lists.proofs.Each.{each-append, each-front, each-contained}
use Rattle.sw_logic.specs.declared.syntax.Edge.{Edge}
use Rattle.sw_meaning.specs.declared.protocol.Protocol.{Protocol}
use Rattle.sw_meaning.specs.declared.template.Template.{Template}
use Rattle.sw_meaning.specs.Edges.{IsStratifiedWith, protocol_edges}
use Rattle.sw_query_laws.proofs.Edging.{ranks_rise_among}
use Rattle.sw_space.specs.declared.faults.SpaceFault.{SpaceFault}
use Rattle.sw_space.specs.Named.{Fits, HasSpace, edges_with}
use Rattle.sw_run.specs.Ending.{Names}

module _ (p : Protocol) (beside : Option Template) where
  -- ranks that rise along further edges rise without them
  fewer : (edges : List Edge) → IsStratifiedWith p edges → IsStratifiedWith p []
  fewer edges s =
      let all : List Edge = protocol_edges p ++ edges in
      let among = each-append (Contains all) (protocol_edges p) [] (each-front (Contains all) (protocol_edges p) edges (each-contained all)) tt in
      record { ranks = s.ranks; are = ranks_rise_among (length p.signature.sorts) (protocol_edges p ++ []) all s.ranks among s.are }

  fit_is_ranked : (t u : Template) (r : Result Template SpaceFault) → Fits p beside t r → r ≡ Ok u → IsStratifiedWith p []
  fit_is_ranked t u r (Fits.cycle sort first bad) ok = absurd cc
  fit_is_ranked t u r (Fits.over e f stratified refuses which bad) ok = absurd cc
  fit_is_ranked t u r (Fits.within stratified limits same) ok = fewer (edges_with beside t) stratified

  text_is_ranked : (text : List ℕ) (u : Template) (r : Result Template SpaceFault) → HasSpace p beside text r → r ≡ Ok u → IsStratifiedWith p []
  text_is_ranked text u r (HasSpace.unread e f has which bad) ok = absurd cc
  text_is_ranked text u r (HasSpace.read t has fits) ok = fit_is_ranked t u r fits ok

  pub named_is_ranked : (given : Option (List ℕ)) (t : Option Template) (u : Template) → Names given p beside t → t ≡ Some u → IsStratifiedWith p []
  named_is_ranked given t u (Names.without is none) some = absurd cc
  named_is_ranked given t u (Names.named text v e has is) some = text_is_ranked text v (Ok v) has refl
