-- Ending frames: once is enough, and a <-> and the end do not notice.
use Rattle.std.proofs.Common.{◌≡◌, ℕ, ◌≤◌, Bool, true, false, List, [], ◌∷◌, ◌++◌, length, Some, None, refl, sym, ap, subst, arith, ◌∙◌}
use Rattle.std.specs.Prelude.{nat_lt, if◌then◌else◌}
use Rattle.sw_trees.specs.declared.tree.Binder.{Binder}
use Rattle.sw_trees.specs.declared.tree.Tree.{Tree}
use Rattle.sw_trees.specs.declared.tree.Tree.TheVariants as tree
use Rattle.sw_trees.specs.declared.frames.Frame.{Frame}
use Rattle.sw_trees.specs.Machine.{strength, fill, reduce, double, close, whole, end}
use Rattle.sw_trees.specs.Steps.{first_is_side, first_is_body, first_is_bracket}

-- the innermost frame is not tighter
abbrev pub firm : ℕ → List Frame → Bool
firm k [] = true
firm k (f ∷ fs) = if nat_lt (strength f) k then false else true

pub by_test : (b : Bool) {X : Type 0} (x y : X) (P : X → Type 0) → (b ≡ true → P x) → (b ≡ false → P y) → P (if b then x else y)
by_test true x y P t f = t refl
by_test false x y P t f = f refl

pub reduce_firm : (k : ℕ) (fs : List Frame) (y : Tree) → firm k (reduce k fs y).0 ≡ true
reduce_firm k [] y = refl
reduce_firm k (f ∷ fs) y =
    by_test (nat_lt (strength f) k) (reduce k fs (fill f y)) (f ∷ fs, y) (λ (p : List Frame × Tree). firm k p.0 ≡ true)
    (λ t. reduce_firm k fs (fill f y)) (λ e. rw e refl)

pub reduce_of_firm : (k : ℕ) (fs : List Frame) (y : Tree) → firm k fs ≡ true → reduce k fs y ≡ (fs, y)
reduce_of_firm k [] y h = refl
reduce_of_firm k (f ∷ fs) y h =
    by_test (nat_lt (strength f) k) (reduce k fs (fill f y)) (f ∷ fs, y) (λ (p : List Frame × Tree). p ≡ (f ∷ fs, y))
    (λ t. let bad : false ≡ true = rw t at h in cc) (λ e. refl)

pub reduce_again : (k : ℕ) (fs gs : List Frame) (x y : Tree) → reduce k fs y ≡ (gs, x) → reduce k gs x ≡ (gs, x)
reduce_again k fs gs x y e =
    reduce_of_firm k gs x (ap (λ (p : List Frame × Tree). firm k p.0) (sym e) ∙ reduce_firm k fs y)

pub end_again : (fs gs : List Frame) (x y : Tree) → reduce 6 fs y ≡ (gs, x) → end gs x ≡ end fs y
end_again fs gs x y e = ap whole (reduce_again 6 fs gs x y e ∙ sym e)

pub close_none : (fs : List Frame) (y : Tree) → first_is_bracket fs ≡ false → close (fs, y) ≡ None
close_none [] y h = refl
close_none (Frame.Bracket ∷ fs) y h = cc
close_none (f ∷ fs) y h = refl

-- what a <-> and the end do is the same once the frames that are tighter than it are ended
pub double_reduce : (fs : List Frame) (y : Tree) → double (reduce 4 fs y).0 (reduce 4 fs y).1 ≡ double fs y
double_reduce [] y = refl
double_reduce (Frame.Negation ∷ fs) y = double_reduce fs (tree.Not y)
double_reduce (Frame.Conjunction xs ∷ fs) y = double_reduce fs (tree.All (xs ++ y ∷ []))
double_reduce (Frame.Disjunction xs ∷ fs) y = double_reduce fs (tree.Any (xs ++ y ∷ []))
double_reduce (Frame.Premise x ∷ fs) y = double_reduce fs (tree.Implies x y)
double_reduce (f ∷ fs) y = refl

pub end_reduce : (fs : List Frame) (y : Tree) → end (reduce 4 fs y).0 (reduce 4 fs y).1 ≡ end fs y
end_reduce [] y = refl
end_reduce (Frame.Negation ∷ fs) y = end_reduce fs (tree.Not y)
end_reduce (Frame.Conjunction xs ∷ fs) y = end_reduce fs (tree.All (xs ++ y ∷ []))
end_reduce (Frame.Disjunction xs ∷ fs) y = end_reduce fs (tree.Any (xs ++ y ∷ []))
end_reduce (Frame.Premise x ∷ fs) y = end_reduce fs (tree.Implies x y)
end_reduce (f ∷ fs) y = refl

pub double_firm : (fs : List Frame) (y : Tree) → firm 4 fs ≡ true → first_is_side fs ≡ false → double fs y ≡ Some (fs, y)
double_firm [] y h k = refl
double_firm (Frame.Negation ∷ fs) y h k = cc
double_firm (Frame.Conjunction xs ∷ fs) y h k = cc
double_firm (Frame.Disjunction xs ∷ fs) y h k = cc
double_firm (Frame.Premise x ∷ fs) y h k = cc
double_firm (Frame.Side x ∷ fs) y h k = cc
double_firm (f ∷ fs) y h k = refl

pub double_none : (x : Tree) (fs : List Frame) (y : Tree) → first_is_body fs ≡ false → double (Frame.Side x ∷ fs) y ≡ None
double_none x [] y h = refl
double_none x (Frame.Body u bs ∷ fs) y h = cc
double_none x (f ∷ fs) y h = refl

double_of_reduced : (fs gs : List Frame) (x y : Tree) → reduce 4 fs y ≡ (gs, x) → double fs y ≡ double gs x
double_of_reduced fs gs x y e = sym (double_reduce fs y) ∙ ap (λ (p : List Frame × Tree). double p.0 p.1) e

end_of_reduced : (fs gs : List Frame) (x y : Tree) → reduce 4 fs y ≡ (gs, x) → end fs y ≡ end gs x
end_of_reduced fs gs x y e = sym (end_reduce fs y) ∙ ap (λ (p : List Frame × Tree). end p.0 p.1) e

-- a <-> after the frames that are tighter: here, further out past a body that has one, or nowhere
pub double_here : (fs gs hs : List Frame) (x y : Tree) → reduce 4 fs y ≡ (gs, x) → hs ≡ gs → first_is_side gs ≡ false → double fs y ≡ Some (hs, x)
double_here fs gs hs x y e same none =
    double_of_reduced fs gs x y e
    ∙ double_firm gs x (ap (λ (p : List Frame × Tree). firm 4 p.0) (sym e) ∙ reduce_firm 4 fs y) none
    ∙ ap (λ (ks : List Frame). Some (ks, x)) (sym same)

pub double_past : (fs gs hs ks : List Frame) (x y s : Tree) (u : Bool) (bs : List Binder) → reduce 4 fs y ≡ (gs, x) → gs ≡ Frame.Side s ∷ hs → hs ≡ Frame.Body u bs ∷ ks →
    double ks (tree.Quantified u bs (tree.Iff s x)) ≡ double fs y
double_past fs gs hs ks x y s u bs e g h = sym (double_of_reduced fs gs x y e ∙ rw (g, h) refl)

pub double_nowhere : (fs gs hs : List Frame) (x y s : Tree) → reduce 4 fs y ≡ (gs, x) → gs ≡ Frame.Side s ∷ hs → first_is_body hs ≡ false → double fs y ≡ None
double_nowhere fs gs hs x y s e g none = double_of_reduced fs gs x y e ∙ ap (λ (ks : List Frame). double ks x) g ∙ double_none s hs x none

pub end_side : (fs gs hs : List Frame) (x y s : Tree) → reduce 4 fs y ≡ (gs, x) → gs ≡ Frame.Side s ∷ hs → end hs (tree.Iff s x) ≡ end fs y
end_side fs gs hs x y s e g = sym (end_of_reduced fs gs x y e ∙ ap (λ (ks : List Frame). end ks x) g)

pub end_past : (fs gs hs ks : List Frame) (x y s : Tree) (u : Bool) (bs : List Binder) → reduce 4 fs y ≡ (gs, x) → gs ≡ Frame.Side s ∷ hs → hs ≡ Frame.Body u bs ∷ ks →
    end ks (tree.Quantified u bs (tree.Iff s x)) ≡ end fs y
end_past fs gs hs ks x y s u bs e g h = sym (ap (λ (ls : List Frame). end ls (tree.Iff s x)) h) ∙ end_side fs gs hs x y s e g

pub shorter : (fs gs : List Frame) (x y : Tree) → reduce 4 fs y ≡ (gs, x) → length gs ≤ length fs
shorter fs gs x y e = subst (λ (n : ℕ). n ≤ length fs) (ap (λ (p : List Frame × Tree). length p.0) e) (reduce_length fs y)
  where
    reduce_length : (fs : List Frame) (y : Tree) → length (reduce 4 fs y).0 ≤ length fs
    reduce_length [] y = omega arith
    reduce_length (Frame.Negation ∷ fs) y = let h = reduce_length fs (tree.Not y) in omega (arith, h)
    reduce_length (Frame.Conjunction xs ∷ fs) y = let h = reduce_length fs (tree.All (xs ++ y ∷ [])) in omega (arith, h)
    reduce_length (Frame.Disjunction xs ∷ fs) y = let h = reduce_length fs (tree.Any (xs ++ y ∷ [])) in omega (arith, h)
    reduce_length (Frame.Premise x ∷ fs) y = let h = reduce_length fs (tree.Implies x y) in omega (arith, h)
    reduce_length (f ∷ fs) y = omega arith
