use Rattle.std.proofs.Common.{arith, ◌≡◌, ◌∙◌, ◌+◌, ◌-◌, sym, ap, subst, map, List, ℕ, length}
use Rattle.std.specs.List.{range_with_len}
use Rattle.std.specs.Cmp.Lexicographic.{same_text}
use Rattle.sw_logic.specs.declared.syntax.Symbol.{Symbol}
use Rattle.sw_universe.specs.Counting.{AreCounts, constant_count, count_over}
use Rattle.sw_universe.proofs.Lengths.{first_counts, deeper_counts, counts_stay}
use Rattle.sw_universe.proofs.counting.term_counts.Goals as goal

pub loop-depth-init : goal.loop-depth-init
loop-depth-init c =
    let sig = c.args.sig.now in
    let is : c.in_ok-counts.counts ≡ map (constant_count sig.symbols) (range_with_len 0 (length sig.sorts)) =
    c.in_ok-counts.ensures {u = tt} ∙ (ap (λ (xs : List Symbol). map (constant_count xs) (range_with_len 0 c.args.sorts)) c.as_slice.ensures ∙ ap (λ (n : ℕ). map (constant_count sig.symbols) (range_with_len 0 n)) (sym c.requires.count)) in
    subst (AreCounts sig 0) (sym is) (first_counts sig c.requires.signature)

pub loop-depth-preserved : goal.loop-depth-preserved
loop-depth-preserved c =
    let sig = c.args.sig.now in
    let counts = c.loop-depth.counts in
    let is : c.in_ok-next.next ≡ map (count_over sig.symbols counts) (range_with_len 0 (length sig.sorts)) =
    c.in_ok-next.ensures {u = tt} ∙ (ap (λ (xs : List Symbol). map (count_over xs c.as_slice-in-loop-depth-2.result.now) (range_with_len 0 c.args.sorts)) c.as_slice-in-loop-depth.ensures
    ∙ (ap (λ (cs : List ℕ). map (count_over sig.symbols cs) (range_with_len 0 c.args.sorts)) c.as_slice-in-loop-depth-2.ensures ∙ ap (λ (n : ℕ). map (count_over sig.symbols counts) (range_with_len 0 n)) (sym c.requires.count))) in
    subst (AreCounts sig (c.loop-depth.depth + 1)) (sym is) (deeper_counts sig c.loop-depth.depth counts c.requires.signature c.loop-depth.invariant)

pub returns-then-eq : goal.returns-then-eq
returns-then-eq c =
    let sig = c.args.sig.now in
    let depth = c.loop-depth.depth in
    let counts = c.loop-depth.counts in
    let over = λ (xs : List Symbol) (cs : List ℕ) (n : ℕ). map (count_over xs cs) (range_with_len 0 n) in
    let is : c.in_ok-next.next ≡ over sig.symbols counts (length sig.sorts) =
    c.in_ok-next.ensures {u = tt} ∙ (ap (λ (xs : List Symbol). over xs c.as_slice-in-loop-depth-2.result.now c.args.sorts) c.as_slice-in-loop-depth.ensures
    ∙ (ap (λ (cs : List ℕ). over sig.symbols cs c.args.sorts) c.as_slice-in-loop-depth-2.ensures ∙ ap (over sig.symbols counts) (sym c.requires.count))) in
    let equal = same_text c.as_slice-in-loop-depth-3.result.now c.as_slice-in-loop-depth-4.result.now (c.if-eq.ensures {u = tt}) in
    let same : over sig.symbols counts (length sig.sorts) ≡ counts = sym is ∙ (sym c.as_slice-in-loop-depth-3.ensures ∙ (equal ∙ c.as_slice-in-loop-depth-4.ensures)) in
    let all : depth + (c.args.sorts - depth) ≡ c.args.sorts = omega (arith, c.loop-depth-test.true) in
    subst (λ n. AreCounts sig n counts) all (counts_stay sig depth counts c.requires.signature c.loop-depth.invariant same (c.args.sorts - depth))
