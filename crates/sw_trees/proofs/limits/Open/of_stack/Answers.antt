use Rattle.std.proofs.Common.{◌≡◌, ◌+◌, ◌<◌, ℕ, List, [], ◌∷◌, ◌++◌, length, take, get_or, sym, ap, subst, arith, ◌∙◌}
use Rattle.std.specs.Prelude.{reverse}
use Rattle.std.proofs.lemmas.List.{take_more, reverse-append, take_all}
use Rattle.sw_trees.specs.declared.frames.Frame.{Frame}
use Rattle.sw_trees.specs.Grammar.{Context}
use Rattle.sw_trees.specs.Machine.{within, context}
use Rattle.sw_trees.specs.Limits.{IsCount}
use Rattle.sw_trees.proofs.limits.Open.of_stack.Goals as goal

context_more : (c : Context) (fs : List Frame) (i : ℕ) (f : Frame) → i < length fs → f ≡ get_or fs i f → context c (reverse (take (i + 1) fs)) ≡ within f (context c (reverse (take i fs)))
context_more c fs i f h e =
    ap (λ (gs : List Frame). context c (reverse gs)) (take_more fs i f h ∙ ap (λ (g : Frame). take i fs ++ g ∷ []) (sym e))
    ∙ ap (context c) (reverse-append (take i fs) (f ∷ []))

pub loop-frame-init : goal.loop-frame-init
loop-frame-init c = λ base h. h

pub loop-frame-preserved : goal.loop-frame-preserved
loop-frame-preserved c = λ base h.
    rw (context_more base c.as_slice-frame-items.result.now c.loop-frame.frame-index c.frame-item.result c.loop-frame-test.true c.frame-item.is)
    (c.within-open.ensures _ (c.loop-frame.invariant base h))

pub returns : goal.returns
returns c = λ base h.
    let all : take c.loop-frame.frame-index c.as_slice-frame-items.result.now ≡ c.as_slice-frame-items.result.now = take_all _ _ (omega arith) in
    subst (λ (fs : List Frame). IsCount (context base fs) c.loop-frame.open) (ap reverse all ∙ c.as_slice-frame-items.ensures) (c.loop-frame.invariant base h)
