-- What the machine reads, with the loads of each word.
use Rattle.std.proofs.Common.{◌≡◌, ℕ, ◌<◌, ◌≤◌, Bool, true, false, List, [], ◌∷◌, Some, refl, sym, ap, arith, ◌∙◌}
use Rattle.std.specs.Prelude.{nat_lt, if◌then◌else◌}
use Rattle.std.proofs.lemmas.Bool.Decides.{nat_tests}
use Rattle.sw_trees.specs.declared.words.Sign.{Sign}
use Rattle.sw_trees.specs.declared.words.Word.{Word}
use Rattle.sw_trees.specs.declared.tree.Tree.{Tree}
use Rattle.sw_trees.specs.declared.tree.Tree.TheVariants as tree
use Rattle.sw_trees.specs.declared.tree.TermTree.{TermTree}
use Rattle.sw_trees.specs.declared.frames.Frame.{Frame}
use Rattle.sw_trees.specs.declared.machine.State.{State}
use Rattle.sw_trees.specs.Grammar.{Loads, Mark, Is, Context}
use Rattle.sw_trees.specs.Machine.{strength, fill, reduce, double, close, after, after_atom, after_term, end_term, whole, end, step_by, step, finish, context, left_path, loads_by, loads_in}

-- from one state to another, over the marks before the rest
pub data Reads (base : Context) : State → List Mark → State → List Mark → Type 0 where
  here : {s : State} {ms : List Mark} → Reads base s ms s ms
  more : {s t u : State} {ms rest : List Mark} (m : Mark) → step s m.word ≡ Some t → loads_in base t m.word ≡ m.loads → Reads base t ms u rest → Reads base s (m ∷ ms) u rest

module _ (base : Context) where
  pub reads_on : {s t u : State} {ms ns rest : List Mark} → Reads base s ms t ns → Reads base t ns u rest → Reads base s ms u rest
  reads_on Reads.here k = k
  reads_on (Reads.more m e l h) k = Reads.more m e l (reads_on h k)

  -- one word more at the front
  pub reads_one : (s t : State) {u : State} {ms rest : List Mark} {sign : Sign} {loads : Loads} (m : Mark) → Is sign loads m → step_by s.last s.stack m.word sign ≡ Some t →
      loads_by sign t.last (context base t.stack) (left_path t.stack) ≡ loads → Reads base t ms u rest → Reads base s (m ∷ ms) u rest
  reads_one s t m h e l r =
      Reads.more m
      (ap (step_by s.last s.stack m.word) h.sign_is ∙ e)
      (ap (λ (g : Sign). loads_by g t.last (context base t.stack) (left_path t.stack)) h.sign_is ∙ l ∙ sym h.loads_are)
      r

  -- one word more at the end
  pub reads_last : {s : State} (t u : State) {ms rest : List Mark} {sign : Sign} {loads : Loads} (m : Mark) → Reads base s ms t (m ∷ rest) → Is sign loads m → step_by t.last t.stack m.word sign ≡ Some u →
      loads_by sign u.last (context base u.stack) (left_path u.stack) ≡ loads → Reads base s ms u rest
  reads_last t u m r h e l = reads_on r (reads_one t u m h e l Reads.here)

-- how weakly a word holds what stands to its left; 0 where it is no operator
abbrev pub op_level : Sign → ℕ
op_level Sign.And = 1
op_level Sign.Or = 2
op_level Sign.Arrow = 3
op_level Sign.DoubleArrow = 4
op_level Sign.RightRound = 6
op_level _ = 0

less : (a b : ℕ) → a < b → nat_lt a b ≡ true
less a b h = grind (arith, nat_tests)

pub reduce_tighter : (k : ℕ) (f : Frame) (fs : List Frame) (y : Tree) → strength f < k → reduce k (f ∷ fs) y ≡ reduce k fs (fill f y)
reduce_tighter k f fs y h = ap (λ (b : Bool). if b then reduce k fs (fill f y) else (f ∷ fs, y)) (less (strength f) k h)

double_tighter : (f : Frame) (fs : List Frame) (y : Tree) → strength f < 4 → double (f ∷ fs) y ≡ double fs (fill f y)
double_tighter Frame.Negation fs y h = refl
double_tighter (Frame.Conjunction xs) fs y h = refl
double_tighter (Frame.Disjunction xs) fs y h = refl
double_tighter (Frame.Premise x) fs y h = refl
double_tighter (Frame.Side x) fs y h = absurd (omega arith)
double_tighter (Frame.Body u bs) fs y h = absurd (omega arith)
double_tighter Frame.Bracket fs y h = absurd (omega arith)
double_tighter (Frame.Arguments w p ts) fs y h = absurd (omega arith)
double_tighter (Frame.LeftSide t n) fs y h = absurd (omega arith)

-- an operator ends a frame that is tighter
pub after_fill : (f : Frame) (fs : List Frame) (y : Tree) (sign : Sign) → strength f < op_level sign → after (f ∷ fs) y sign ≡ after fs (fill f y) sign
after_fill f fs y Sign.And h = rw (reduce_tighter 1 f fs y h) refl
after_fill f fs y Sign.Or h = rw (reduce_tighter 2 f fs y h) refl
after_fill f fs y Sign.Arrow h = rw (reduce_tighter 3 f fs y h) refl
after_fill f fs y Sign.DoubleArrow h = rw (double_tighter f fs y h) refl
after_fill f fs y Sign.RightRound h = ap close (reduce_tighter 6 f fs y h)
after_fill f fs y _ h = absurd (omega arith)

pub end_fill : (f : Frame) (fs : List Frame) (y : Tree) → strength f < 6 → end (f ∷ fs) y ≡ end fs (fill f y)
end_fill f fs y h = ap whole (reduce_tighter 6 f fs y h)

-- for operators from this level on the state is one that has this operand
pub record Acts (k : ℕ) (t : State) (fs : List Frame) (y : Tree) : Type 0 where
  pub steps : (w : Word) (sign : Sign) → k ≤ op_level sign → step_by t.last t.stack w sign ≡ after fs y sign
  pub ends : finish t ≡ end fs y

pub acts_from : (j k : ℕ) (t : State) (fs : List Frame) (y : Tree) → j ≤ k → Acts j t fs y → Acts k t fs y
acts_from j k t fs y h a = record { steps = λ w sign l. a.steps w sign (omega (arith, h, l)); ends = a.ends }

pub acts_fill : (j k : ℕ) (t : State) (f : Frame) (fs : List Frame) (y : Tree) → strength f < k → j ≤ k → k ≤ 6 → Acts j t (f ∷ fs) y → Acts k t fs (fill f y)
acts_fill j k t f fs y h g top a = record {
  steps = λ w sign l. a.steps w sign (omega (arith, g, l)) ∙ after_fill f fs y sign (omega (arith, h, l));
  ends = a.ends ∙ end_fill f fs y (omega (arith, h, top));
}

-- the words that may follow a term
abbrev pub follows_term : Sign → Bool
follows_term Sign.Comma = true
follows_term Sign.RightRound = true
follows_term Sign.Equal = true
follows_term Sign.NotEqual = true
follows_term Sign.And = true
follows_term Sign.Or = true
follows_term Sign.Arrow = true
follows_term Sign.DoubleArrow = true
follows_term _ = false

-- for these words the state is one that has this term
pub record TermActs (t : State) (fs : List Frame) (x : TermTree) : Type 0 where
  pub steps : (w : Word) (sign : Sign) → follows_term sign ≡ true → step_by t.last t.stack w sign ≡ after_term fs x sign
  pub ends : finish t ≡ end_term fs x

-- no argument and no right side of an equation is wanted
abbrev pub takes_formula : List Frame → Bool
takes_formula [] = true
takes_formula (Frame.Arguments w p ts ∷ fs) = false
takes_formula (Frame.LeftSide t n ∷ fs) = false
takes_formula (f ∷ fs) = true

pub after_term_atom : (fs : List Frame) (t : TermTree) (sign : Sign) → takes_formula fs ≡ true → after_term fs t sign ≡ after_atom fs t sign
after_term_atom [] t sign h = refl
after_term_atom (Frame.Arguments w p ts ∷ fs) t sign h = cc
after_term_atom (Frame.LeftSide u n ∷ fs) t sign h = cc
after_term_atom (f ∷ fs) t sign h = refl

pub end_term_atom : (fs : List Frame) (t : TermTree) → takes_formula fs ≡ true → end_term fs t ≡ end fs (tree.Atom t)
end_term_atom [] t h = refl
end_term_atom (Frame.Arguments w p ts ∷ fs) t h = cc
end_term_atom (Frame.LeftSide u n ∷ fs) t h = cc
end_term_atom (f ∷ fs) t h = refl
