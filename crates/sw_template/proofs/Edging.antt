-- The edges of a template are between sorts that there are.
use Rattle.std.specs.Prelude.{ℕ, ◌<◌, Bool, true, false, not, cond, List, [], ◌∷◌, map}
use Rattle.std.specs.List.{AllByRecursion, filter}
use Rattle.sw_lists.proofs.Each.{each-append}
use Rattle.sw_logic.specs.declared.syntax.Edge.{Edge}
use Rattle.sw_logic.specs.Strata.{AreWithin, edge}
use Rattle.sw_meaning.specs.declared.template.Run.{Run}
use Rattle.sw_meaning.specs.Space.{same_quantifier}
use Rattle.sw_template.specs.Edges.{edges_to, edges_along}

within_to : (n : ℕ) (run : Run) (later : List Run) → run.sort < n → AllByRecursion (λ r. r.sort < n) later → AreWithin n (edges_to run later)
within_to n run [] h a = tt
within_to n run (other ∷ later) h a = kept (not (same_quantifier run.universal other.universal)) (within_to n run later h a.1)
  where
    kept : (b : Bool) → AreWithin n (edges_to run later)
        → AreWithin n (map (λ r. edge run.sort r.sort) (cond b (other ∷ filter (λ r. not (same_quantifier run.universal r.universal)) later) (filter (λ r. not (same_quantifier run.universal r.universal)) later)))
    kept true rest = ((h, a.0), rest)
    kept false rest = rest

pub edges_within : (n : ℕ) (runs : List Run) → AllByRecursion (λ r. r.sort < n) runs → AreWithin n (edges_along runs)
edges_within n [] a = tt
edges_within n (run ∷ later) a = each-append (λ (e : Edge). (e.from < n) × (e.to < n)) (edges_to run later) (edges_along later) (within_to n run later a.0 a.1) (edges_within n later a.1)
