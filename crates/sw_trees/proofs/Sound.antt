-- A formula that is read is spelled by the words.
use Rattle.std.proofs.Common.{◌≡◌, ℕ, ◌+◌, ◌<◌, ◌≤◌, Bool, true, false, List, [], ◌∷◌, ◌++◌, length, Option, Some, None, refl, sym, ap, subst, arith, ◌∙◌}
use Rattle.std.specs.Prelude.{nat_lt, option_map, IfSome}
use Rattle.std.proofs.lemmas.List.{length-append}
use Rattle.std.proofs.lemmas.Bool.Decides.{nat_tests}
use Rattle.sw_trees.specs.declared.words.Sign.{Sign}
use Rattle.sw_trees.specs.declared.words.Word.{Word}
use Rattle.sw_trees.specs.declared.tree.Binder.{Binder}
use Rattle.sw_trees.specs.declared.tree.Tree.{Tree}
use Rattle.sw_trees.specs.declared.tree.Tree.TheVariants as tree
use Rattle.sw_trees.specs.declared.tree.TermTree.{TermTree}
use Rattle.sw_trees.specs.declared.tree.TermTree.TheVariants as term
use Rattle.sw_trees.specs.declared.frames.Frame.{Frame}
use Rattle.sw_trees.specs.declared.machine.Stage.{Stage}
use Rattle.sw_trees.specs.declared.machine.Last.{Last}
use Rattle.sw_trees.specs.declared.machine.State.{State}
use Rattle.sw_trees.specs.Measures.{longest_path}
use Rattle.sw_trees.specs.Grammar.{Mark, Is, Context, no_loads, opening, joining, binding, deeper, beside, inside, all_of, any_of, End, end_of, TakesIff, quantifier, equality, equation, IsHead, IsTerm, AreTerms, IsBinder, AreBinders, IsAtom, IsSingle, AreSingles, AreBoths, IsImplied, IsFormula}
use Rattle.sw_trees.specs.Machine.{strength, fill, reduce, start, conjoin, disjoin, double, side, close, after, after_argument, after_atom, after_term, after_name, after_primed, before, before_term, in_header, end_term, whole, end, step_by, step, finish, finish_by, context, left_path, loads_by, loads_in}
use Rattle.sw_trees.specs.Answers.{Spelled}
use Rattle.sw_trees.proofs.Reduce.{firm, reduce_firm, by_test}
use Rattle.sw_trees.proofs.Reading.{Reads}

-- the arguments before a term, with the comma after them
pub data Args (d : ℕ) : List Mark → List TermTree → List Mark → Type 0 where
  none : {ms : List Mark} → Args d ms [] ms
  some : {ms rest : List Mark} {ts : List TermTree} (m : Mark) → AreTerms d ms ts (m ∷ rest) → Is Sign.Comma no_loads m → Args d ms ts rest

-- the same of binders
pub data Binds (v : ℕ) : List Mark → List Binder → List Mark → Type 0 where
  unbound : {ms : List Mark} → Binds v ms [] ms
  bound : {ms rest : List Mark} {bs : List Binder} (m : Mark) → AreBinders v ms bs (m ∷ rest) → Is Sign.Comma no_loads m → Binds v ms bs rest

-- the frames were read from all of the marks, and the rest follows
pub data Before (base : Context) (all : List Mark) : List Frame → List Mark → Type 0 where
  bottom : Before base all [] all
  negation : {fs : List Frame} {rest : List Mark} (n : Mark) → Before base all fs (n ∷ rest) → Is Sign.Not (opening ((context base fs).nestings + 1)) n → Before base all (Frame.Negation ∷ fs) rest
  conjunction : {fs : List Frame} {xs : List Tree} {ms rest : List Mark} (m : Mark) → firm 2 fs ≡ true → Before base all fs ms → AreSingles (context base fs) End.Closed ms xs (m ∷ rest) → Is Sign.And no_loads m → Before base all (Frame.Conjunction xs ∷ fs) rest
  disjunction : {fs : List Frame} {xs : List Tree} {ms rest : List Mark} (m : Mark) → firm 3 fs ≡ true → Before base all fs ms → AreBoths (context base fs) End.Closed ms xs (m ∷ rest) → Is Sign.Or no_loads m → Before base all (Frame.Disjunction xs ∷ fs) rest
  premise : {fs : List Frame} {xs : List Tree} {x : Tree} {ms rest : List Mark} (m : Mark) → firm 3 fs ≡ true → Before base all fs ms → AreBoths (context base fs) End.Closed ms xs (m ∷ rest) → x ≡ any_of xs → Is Sign.Arrow (opening ((context base fs).nestings + 1)) m → Before base all (Frame.Premise x ∷ fs) rest
  left_of_iff : {fs : List Frame} {x : Tree} {f : End} {ms rest : List Mark} (m : Mark) → firm 5 fs ≡ true → Before base all fs ms → IsImplied (context base fs) f ms x (m ∷ rest) → TakesIff f → Is Sign.DoubleArrow (joining ((context base fs).nestings + 1) ((context base fs).iffs + 1 + longest_path x)) m → Before base all (Frame.Side x ∷ fs) rest
  body : {fs : List Frame} {bs : List Binder} {ms rest : List Mark} (u : Bool) (q m : Mark) → Before base all fs (q ∷ ms) → Is (quantifier u) (opening ((context base fs).nestings + 1)) q → AreBinders (context base fs).variables ms bs (m ∷ rest) → Is Sign.Dot no_loads m → Before base all (Frame.Body u bs ∷ fs) rest
  bracket : {fs : List Frame} {rest : List Mark} (l : Mark) → Before base all fs (l ∷ rest) → Is Sign.LeftRound (opening ((context base fs).nestings + 1)) l → Before base all (Frame.Bracket ∷ fs) rest
  arguments : {fs : List Frame} {w : Word} {p : Bool} {ts : List TermTree} {hs us rest : List Mark} (l : Mark) → Before base all fs hs → IsHead hs w p (l ∷ us) → Is Sign.LeftRound (opening ((context base fs).nestings + 1)) l → Args ((context base fs).nestings + 1) us ts rest → Before base all (Frame.Arguments w p ts ∷ fs) rest
  left_side : {fs : List Frame} {t : TermTree} {ms rest : List Mark} (n : Bool) (m : Mark) → Before base all fs ms → IsTerm (context base fs).nestings ms t (m ∷ rest) → Is (equality n) no_loads m → Before base all (Frame.LeftSide t n ∷ fs) rest

-- A formula was read onto the frames: a single; a run of &, where none is open; a run of |, where none
-- is open; what -> may stand before; a whole formula, where no <-> is open.
pub data Op (base : Context) (all : List Mark) (e : End) (fs : List Frame) (y : Tree) (rest : List Mark) : ℕ → Type 0 where
  single : {ms : List Mark} → Before base all fs ms → IsSingle (context base fs) e ms y rest → Op base all e fs y rest 1
  both : {ms : List Mark} {xs : List Tree} → firm 2 fs ≡ true → Before base all fs ms → AreSingles (context base fs) e ms xs rest → y ≡ all_of xs → Op base all e fs y rest 2
  either : {ms : List Mark} {xs : List Tree} → firm 3 fs ≡ true → Before base all fs ms → AreBoths (context base fs) e ms xs rest → y ≡ any_of xs → Op base all e fs y rest 3
  implied : {ms : List Mark} → firm 3 fs ≡ true → Before base all fs ms → IsImplied (context base fs) e ms y rest → Op base all e fs y rest 4
  formula : {ms : List Mark} (i : Bool) → firm 5 fs ≡ true → Before base all fs ms → IsFormula (context base fs) e i ms y rest → Op base all e fs y rest 5

-- the same at some level that is no weaker
pub record Within (base : Context) (all : List Mark) (k : ℕ) (e : End) (fs : List Frame) (y : Tree) (rest : List Mark) : Type 0 where
  pub level : ℕ
  pub most : level ≤ k
  pub op : Op base all e fs y rest level

pub record SinglesOf (base : Context) (all : List Mark) (e : End) (fs : List Frame) (y : Tree) (rest : List Mark) : Type 0 where
  pub from : List Mark
  pub parts : List Tree
  pub before : Before base all fs from
  pub are : AreSingles (context base fs) e from parts rest
  pub is : y ≡ all_of parts

pub record BothsOf (base : Context) (all : List Mark) (e : End) (fs : List Frame) (y : Tree) (rest : List Mark) : Type 0 where
  pub from : List Mark
  pub parts : List Tree
  pub before : Before base all fs from
  pub are : AreBoths (context base fs) e from parts rest
  pub is : y ≡ any_of parts

pub record ImpliedOf (base : Context) (all : List Mark) (e : End) (fs : List Frame) (y : Tree) (rest : List Mark) : Type 0 where
  pub from : List Mark
  pub before : Before base all fs from
  pub is : IsImplied (context base fs) e from y rest

pub record FormulaOf (base : Context) (all : List Mark) (e : End) (fs : List Frame) (y : Tree) (rest : List Mark) : Type 0 where
  pub from : List Mark
  pub has_iff : Bool
  pub before : Before base all fs from
  pub is : IsFormula (context base fs) e has_iff from y rest

module _ (base : Context) (all : List Mark) where
  singles_of : {e : End} {fs : List Frame} {y : Tree} {rest : List Mark} {n : ℕ} → n ≤ 2 → Op base all e fs y rest n → SinglesOf base all e fs y rest
  singles_of {y = y} h (Op.single {ms} b s) = record { from = ms; parts = y ∷ []; before = b; are = AreSingles.one_single s; is = refl }
  singles_of h (Op.both {ms} {xs} f b s q) = record { from = ms; parts = xs; before = b; are = s; is = q }
  singles_of h (Op.either f b s q) = absurd (omega arith)
  singles_of h (Op.implied f b s) = absurd (omega arith)
  singles_of h (Op.formula i f b s) = absurd (omega arith)

  boths_of : {e : End} {fs : List Frame} {y : Tree} {rest : List Mark} {n : ℕ} → n ≤ 3 → Op base all e fs y rest n → BothsOf base all e fs y rest
  boths_of {e} {fs} {y} {rest} h (Op.either {ms} {xs} f b s q) = record { from = ms; parts = xs; before = b; are = s; is = q }
  boths_of h (Op.implied f b s) = absurd (omega arith)
  boths_of h (Op.formula i f b s) = absurd (omega arith)
  boths_of {y = y} h (Op.single {ms} b s) = record { from = ms; parts = y ∷ []; before = b; are = AreBoths.one_both (AreSingles.one_single s); is = refl }
  boths_of {e} {fs} {y} {rest} h (Op.both {ms} {xs} f b s q) = record { from = ms; parts = all_of xs ∷ []; before = b; are = AreBoths.one_both s; is = q }

  implied_of : {e : End} {fs : List Frame} {y : Tree} {rest : List Mark} {n : ℕ} → n ≤ 4 → Op base all e fs y rest n → ImpliedOf base all e fs y rest
  implied_of h (Op.formula i f b s) = absurd (omega arith)
  implied_of h (Op.implied {ms} f b s) = record { from = ms; before = b; is = s }
  implied_of {e} {fs} {y} {rest} h (Op.single {ms} b s) = record { from = ms; before = b; is = IsImplied.last_implied (AreBoths.one_both (AreSingles.one_single s)) }
  implied_of {e} {fs} {y} {rest} h (Op.both {ms} {xs} f b s q) =
      record { from = ms; before = b; is = subst (λ (z : Tree). IsImplied (context base fs) e ms z rest) (sym q) (IsImplied.last_implied (AreBoths.one_both s)) }
  implied_of {e} {fs} {y} {rest} h (Op.either {ms} {xs} f b s q) =
      record { from = ms; before = b; is = subst (λ (z : Tree). IsImplied (context base fs) e ms z rest) (sym q) (IsImplied.last_implied s) }

  formula_of : {e : End} {fs : List Frame} {y : Tree} {rest : List Mark} {n : ℕ} → Op base all e fs y rest n → FormulaOf base all e fs y rest
  formula_of (Op.formula {ms} i f b s) = record { from = ms; has_iff = i; before = b; is = s }
  formula_of (Op.single b s) = let r = implied_of (omega arith) (Op.single b s) in record { from = r.from; has_iff = false; before = r.before; is = IsFormula.implied r.is }
  formula_of (Op.both f b s q) = let r = implied_of (omega arith) (Op.both f b s q) in record { from = r.from; has_iff = false; before = r.before; is = IsFormula.implied r.is }
  formula_of (Op.either f b s q) = let r = implied_of (omega arith) (Op.either f b s q) in record { from = r.from; has_iff = false; before = r.before; is = IsFormula.implied r.is }
  formula_of (Op.implied f b s) = let r = implied_of (omega arith) (Op.implied f b s) in record { from = r.from; has_iff = false; before = r.before; is = IsFormula.implied r.is }

-- a run has parts, so with one part more it is a run of two or more
all_of_two : (xs : List Tree) (y : Tree) → 0 < length xs → all_of (xs ++ y ∷ []) ≡ tree.All (xs ++ y ∷ [])
all_of_two [] y h = absurd (omega arith)
all_of_two (x ∷ []) y h = refl
all_of_two (x ∷ z ∷ zs) y h = refl

any_of_two : (xs : List Tree) (y : Tree) → 0 < length xs → any_of (xs ++ y ∷ []) ≡ tree.Any (xs ++ y ∷ [])
any_of_two [] y h = absurd (omega arith)
any_of_two (x ∷ []) y h = refl
any_of_two (x ∷ z ∷ zs) y h = refl

some_singles : {c : Context} {e : End} {ms rest : List Mark} {xs : List Tree} → AreSingles c e ms xs rest → 0 < length xs
some_singles (AreSingles.one_single h) = omega arith
some_singles (AreSingles.more_singles {xs = xs} {y = y} m hs i h) = omega (arith, length-append xs (y ∷ []))

some_boths : {c : Context} {e : End} {ms rest : List Mark} {xs : List Tree} → AreBoths c e ms xs rest → 0 < length xs
some_boths (AreBoths.one_both h) = omega arith
some_boths (AreBoths.more_boths {xs = xs} {ys = ys} m hs i h) = omega (arith, length-append xs (all_of ys ∷ []))

module _ (base : Context) (all : List Mark) where
  pop_and : {e : End} {fs : List Frame} {xs : List Tree} {y : Tree} {ms rest : List Mark} → Before base all (Frame.Conjunction xs ∷ fs) ms → IsSingle (context base fs) e ms y rest → Op base all e fs (tree.All (xs ++ y ∷ [])) rest 2
  pop_and {xs = xs} {y = y} (Before.conjunction m f b s i) k = Op.both f b (AreSingles.more_singles m s i k) (sym (all_of_two xs y (some_singles s)))

  pop_or : {e : End} {fs : List Frame} {xs ys : List Tree} {y : Tree} {ms rest : List Mark} → Before base all (Frame.Disjunction xs ∷ fs) ms → AreSingles (context base fs) e ms ys rest → y ≡ all_of ys → Op base all e fs (tree.Any (xs ++ y ∷ [])) rest 3
  pop_or {xs = xs} {ys = ys} {y = y} (Before.disjunction m f b s i) k q =
      Op.either f b (AreBoths.more_boths m s i k) (sym (any_of_two xs y (some_boths s)) ∙ ap (λ (z : Tree). any_of (xs ++ z ∷ [])) q)

  pop_arrow : {e : End} {fs : List Frame} {x y : Tree} {ms rest : List Mark} → Before base all (Frame.Premise x ∷ fs) ms → IsImplied (deeper (context base fs)) e ms y rest → Op base all e fs (tree.Implies x y) rest 4
  pop_arrow {e} {fs} {x} {y} {ms} {rest} (Before.premise {ms = from} m f b s q i) k =
      Op.implied f b (subst (λ (z : Tree). IsImplied (context base fs) e from (tree.Implies z y) rest) (sym q) (IsImplied.more_implied m s i k))

  pop_iff : {e : End} {fs : List Frame} {x y : Tree} {ms rest : List Mark} → Before base all (Frame.Side x ∷ fs) ms → IsImplied (beside (context base fs)) e ms y rest → Op base all e fs (tree.Iff x y) rest 5
  pop_iff (Before.left_of_iff m f b s t i) k = Op.formula true f b (IsFormula.joined m s t i k)

  pop_body : {e : End} {i : Bool} {fs : List Frame} {u : Bool} {bs : List Binder} {y : Tree} {ms rest : List Mark} → Before base all (Frame.Body u bs ∷ fs) ms → IsFormula (inside (length bs) (context base fs)) e i ms y rest → Op base all (end_of i e) fs (tree.Quantified u bs y) rest 1
  pop_body (Before.body u q m b s bs d) k = Op.single b (IsSingle.quantified u q m s bs d k)

  -- the innermost frame is ended, where it is tighter than <->
  pop : {e : End} {y : Tree} {rest : List Mark} {n : ℕ} (f : Frame) (fs : List Frame) → strength f < 4 → Op base all e (f ∷ fs) y rest n → Op base all e fs (fill f y) rest (strength f + 1)
  pop Frame.Negation fs h (Op.single (Before.negation n b i) s) = Op.single b (IsSingle.negated n i s)
  pop Frame.Negation fs h (Op.both f b s q) = cc
  pop Frame.Negation fs h (Op.either f b s q) = cc
  pop Frame.Negation fs h (Op.implied f b s) = cc
  pop Frame.Negation fs h (Op.formula i f b s) = cc
  pop (Frame.Conjunction xs) fs h (Op.single b s) = pop_and b s
  pop (Frame.Conjunction xs) fs h (Op.both f b s q) = cc
  pop (Frame.Conjunction xs) fs h (Op.either f b s q) = cc
  pop (Frame.Conjunction xs) fs h (Op.implied f b s) = cc
  pop (Frame.Conjunction xs) fs h (Op.formula i f b s) = cc
  pop (Frame.Disjunction xs) fs h (Op.single b s) = pop_or b (AreSingles.one_single s) refl
  pop (Frame.Disjunction xs) fs h (Op.both f b s q) = pop_or b s q
  pop (Frame.Disjunction xs) fs h (Op.either f b s q) = cc
  pop (Frame.Disjunction xs) fs h (Op.implied f b s) = cc
  pop (Frame.Disjunction xs) fs h (Op.formula i f b s) = cc
  pop (Frame.Premise x) fs h (Op.formula i f b s) = cc
  pop (Frame.Premise x) fs h (Op.single b s) = let r = implied_of base all (omega arith) (Op.single b s) in pop_arrow r.before r.is
  pop (Frame.Premise x) fs h (Op.both f b s q) = let r = implied_of base all (omega arith) (Op.both f b s q) in pop_arrow r.before r.is
  pop (Frame.Premise x) fs h (Op.either f b s q) = let r = implied_of base all (omega arith) (Op.either f b s q) in pop_arrow r.before r.is
  pop (Frame.Premise x) fs h (Op.implied f b s) = pop_arrow b s
  pop (Frame.Side x) fs h o = absurd (omega arith)
  pop (Frame.Body u bs) fs h o = absurd (omega arith)
  pop Frame.Bracket fs h o = absurd (omega arith)
  pop (Frame.Arguments w p ts) fs h o = absurd (omega arith)
  pop (Frame.LeftSide t n) fs h o = absurd (omega arith)

  reduced : {e : End} {rest : List Mark} (k n : ℕ) (fs : List Frame) (y : Tree) → n ≤ k → k ≤ 4 → Op base all e fs y rest n → let p = reduce k fs y in Within base all k e p.0 p.1 rest
  reduced k n [] y h g o = record { level = n; most = h; op = o }
  reduced {e} {rest} k n (f ∷ fs) y h g o =
      by_test (nat_lt (strength f) k) (reduce k fs (fill f y)) (f ∷ fs, y) (λ (p : List Frame × Tree). Within base all k e p.0 p.1 rest)
      (λ t. let l : strength f < k = grind (arith, nat_tests, t) in
      reduced k (strength f + 1) fs (fill f y) (omega arith) g (pop f fs (omega (arith, l, g)) o))
      (λ t. record { level = n; most = h; op = o })

  -- the same past <-> and bodies
  pop_any : {e : End} {y : Tree} {rest : List Mark} {n : ℕ} (f : Frame) (fs : List Frame) → strength f < 6 → Op base all e (f ∷ fs) y rest n → (d : End) × ((m : ℕ) × Op base all d fs (fill f y) rest m)
  pop_any {e} Frame.Negation fs h o = (e, (1, pop Frame.Negation fs (omega arith) o))
  pop_any {e} (Frame.Conjunction xs) fs h o = (e, (2, pop (Frame.Conjunction xs) fs (omega arith) o))
  pop_any {e} (Frame.Disjunction xs) fs h o = (e, (3, pop (Frame.Disjunction xs) fs (omega arith) o))
  pop_any {e} (Frame.Premise x) fs h o = (e, (4, pop (Frame.Premise x) fs (omega arith) o))
  pop_any {e} (Frame.Side x) fs h (Op.formula i f b s) = cc
  pop_any {e} (Frame.Side x) fs h (Op.single b s) = let r = implied_of base all (omega arith) (Op.single b s) in (e, (5, pop_iff r.before r.is))
  pop_any {e} (Frame.Side x) fs h (Op.both f b s q) = let r = implied_of base all (omega arith) (Op.both f b s q) in (e, (5, pop_iff r.before r.is))
  pop_any {e} (Frame.Side x) fs h (Op.either f b s q) = let r = implied_of base all (omega arith) (Op.either f b s q) in (e, (5, pop_iff r.before r.is))
  pop_any {e} (Frame.Side x) fs h (Op.implied f b s) = (e, (5, pop_iff b s))
  pop_any {e} (Frame.Body u bs) fs h o = let r = formula_of base all o in (end_of r.has_iff e, (1, pop_body r.before r.is))
  pop_any Frame.Bracket fs h o = absurd (omega arith)
  pop_any (Frame.Arguments w p ts) fs h o = absurd (omega arith)
  pop_any (Frame.LeftSide t n) fs h o = absurd (omega arith)

  reduced_all : (fs : List Frame) (y : Tree) {e : End} {rest : List Mark} {n : ℕ} → Op base all e fs y rest n → let p = reduce 6 fs y in (d : End) × ((m : ℕ) × Op base all d p.0 p.1 rest m)
  reduced_all [] y {e} {rest} {n} o = (e, (n, o))
  reduced_all (f ∷ fs) y {e} {rest} {n} o =
      by_test (nat_lt (strength f) 6) (reduce 6 fs (fill f y)) (f ∷ fs, y) (λ (p : List Frame × Tree). (d : End) × ((m : ℕ) × Op base all d p.0 p.1 rest m))
      (λ t. let l : strength f < 6 = grind (arith, nat_tests, t) in let r = pop_any f fs l o in reduced_all fs (fill f y) r.1.1)
      (λ t. (e, (n, o)))

-- where a <-> goes, it has its left side
pub record Left (base : Context) (all : List Mark) (rest : List Mark) (p : List Frame × Tree) : Type 0 where
  pub from : List Mark
  pub end_is : End
  pub takes : TakesIff end_is
  pub outermost : firm 5 p.0 ≡ true
  pub before : Before base all p.0 from
  pub is : IsImplied (context base p.0) end_is from p.1 rest

full_takes : (e : End) → TakesIff e → TakesIff (end_of true e)
full_takes End.Closed h = tt
full_takes End.Full h = tt
full_takes End.Open h = h

module _ (base : Context) (all : List Mark) where
  left_here : {e : End} {rest : List Mark} {n : ℕ} (fs : List Frame) (y : Tree) → TakesIff e → n ≤ 4 → firm 5 fs ≡ true → Op base all e fs y rest n → Left base all rest (fs, y)
  left_here {e} fs y t h f o = let r = implied_of base all h o in record { from = r.from; end_is = e; takes = t; outermost = f; before = r.before; is = r.is }

  past_body : {e : End} {fs : List Frame} {x y : Tree} {u : Bool} {bs : List Binder} {ms rest : List Mark} → Before base all (Frame.Side x ∷ Frame.Body u bs ∷ fs) ms → IsImplied (beside (context base (Frame.Body u bs ∷ fs))) e ms y rest → Op base all (end_of true e) fs (tree.Quantified u bs (tree.Iff x y)) rest 1
  past_body (Before.left_of_iff m f b s t i) k = pop_body base all b (IsFormula.joined m s t i k)

  doubled : (fs : List Frame) (y : Tree) {e : End} {rest : List Mark} {n : ℕ} → TakesIff e → n ≤ 4 → Op base all e fs y rest n → IfSome (double fs y) (Left base all rest)
  doubled [] y t h o = left_here [] y t h refl o
  doubled (Frame.Negation ∷ fs) y t h o = doubled fs (tree.Not y) t (omega arith) (pop base all Frame.Negation fs (omega arith) o)
  doubled (Frame.Conjunction xs ∷ fs) y t h o = doubled fs (tree.All (xs ++ y ∷ [])) t (omega arith) (pop base all (Frame.Conjunction xs) fs (omega arith) o)
  doubled (Frame.Disjunction xs ∷ fs) y t h o = doubled fs (tree.Any (xs ++ y ∷ [])) t (omega arith) (pop base all (Frame.Disjunction xs) fs (omega arith) o)
  doubled (Frame.Premise x ∷ fs) y t h o = doubled fs (tree.Implies x y) t (omega arith) (pop base all (Frame.Premise x) fs (omega arith) o)
  doubled (Frame.Side x ∷ Frame.Body u bs ∷ fs) y {e} t h o =
      let r = implied_of base all h o in
      doubled fs (tree.Quantified u bs (tree.Iff x y)) (full_takes e t) (omega arith) (past_body r.before r.is)
  doubled (Frame.Side x ∷ fs) y t h o = tt
  doubled (Frame.Body u bs ∷ fs) y t h o = left_here (Frame.Body u bs ∷ fs) y t h refl o
  doubled (Frame.Bracket ∷ fs) y t h o = left_here (Frame.Bracket ∷ fs) y t h refl o
  doubled (Frame.Arguments w p ts ∷ fs) y t h o = left_here (Frame.Arguments w p ts ∷ fs) y t h refl o
  doubled (Frame.LeftSide u n ∷ fs) y t h o = left_here (Frame.LeftSide u n ∷ fs) y t h refl o

-- a name was read, with or without its prime
pub record Named (base : Context) (all : List Mark) (fs : List Frame) (w : Word) (p : Bool) (rest : List Mark) : Type 0 where
  pub from : List Mark
  pub before : Before base all fs from
  pub is : IsHead from w p rest

-- a term was read
pub record Termed (base : Context) (all : List Mark) (fs : List Frame) (t : TermTree) (rest : List Mark) : Type 0 where
  pub from : List Mark
  pub before : Before base all fs from
  pub is : IsTerm (context base fs).nestings from t rest

-- a formula in brackets, an atom, `true` or `false` was read
pub record Had (base : Context) (all : List Mark) (fs : List Frame) (y : Tree) (rest : List Mark) : Type 0 where
  pub from : List Mark
  pub before : Before base all fs from
  pub is : IsSingle (context base fs) End.Closed from y rest

-- the name of a binder was read
pub record Variable (base : Context) (fs : List Frame) (bs : List Binder) (n : Word) (from rest : List Mark) : Type 0 where
  pub mark : Mark
  pub binders : Binds (context base fs).variables from bs (mark ∷ rest)
  pub name : Is Sign.Name (binding ((context base fs).variables + length bs + 1)) mark
  pub is : mark.word ≡ n

-- and its colon
pub record Sorted (base : Context) (fs : List Frame) (bs : List Binder) (n : Word) (from rest : List Mark) : Type 0 where
  pub colon : Mark
  pub variable : Variable base fs bs n from (colon ∷ rest)
  pub is : Is Sign.Colon no_loads colon

abbrev pub Staged : Context → List Frame → List Binder → Stage → List Mark → List Mark → Type 0
Staged base fs bs Stage.Variable from rest = Binds (context base fs).variables from bs rest
Staged base fs bs (Stage.Colon n) from rest = Variable base fs bs n from rest
Staged base fs bs (Stage.Sort n) from rest = Sorted base fs bs n from rest
Staged base fs bs Stage.Next from rest = AreBinders (context base fs).variables from bs rest

-- a quantifier and its binders so far were read
pub record Headed (base : Context) (all : List Mark) (fs : List Frame) (u : Bool) (bs : List Binder) (stage : Stage) (rest : List Mark) : Type 0 where
  pub mark : Mark
  pub from : List Mark
  pub before : Before base all fs (mark ∷ from)
  pub quantifier_is : Is (quantifier u) (opening ((context base fs).nestings + 1)) mark
  pub staged : Staged base fs bs stage from rest

-- what the state has read of all the marks
abbrev pub IsReadBy : Context → List Mark → Last → List Frame → List Mark → Type 0
IsReadBy base all Last.Want fs rest = Before base all fs rest
IsReadBy base all Last.WantTerm fs rest = Before base all fs rest
IsReadBy base all (Last.Name w) fs rest = Named base all fs w false rest
IsReadBy base all (Last.Primed w) fs rest = Named base all fs w true rest
IsReadBy base all (Last.Term t) fs rest = Termed base all fs t rest
IsReadBy base all (Last.Operand y) fs rest = Had base all fs y rest
IsReadBy base all (Last.Header u bs stage) fs rest = Headed base all fs u bs stage rest

abbrev pub IsRead : Context → List Mark → State → List Mark → Type 0
IsRead base all s rest = IsReadBy base all s.last s.stack rest

-- the next state, if there is one, has read one mark more, which has the loads of the word
abbrev pub Keeps : Context → List Mark → List Mark → Mark → Sign → Option State → Type 0
Keeps base all rest m sign o = IfSome o (λ t. Is sign (loads_by sign t.last (context base t.stack) (left_path t.stack)) m → IsRead base all t rest)

module _ (base : Context) (all rest : List Mark) (m : Mark) where
  conjoined : (gs : List Frame) (z : Tree) {n : ℕ} → n ≤ 1 → firm 1 gs ≡ true → Op base all End.Closed gs z (m ∷ rest) n → Is Sign.And no_loads m → Before base all (conjoin gs z) rest
  conjoined gs z h f (Op.both g b s q) i = absurd (omega arith)
  conjoined gs z h f (Op.either g b s q) i = absurd (omega arith)
  conjoined gs z h f (Op.implied g b s) i = absurd (omega arith)
  conjoined gs z h f (Op.formula j g b s) i = absurd (omega arith)
  conjoined [] z h f (Op.single b s) i = Before.conjunction m refl b (AreSingles.one_single s) i
  conjoined (Frame.Conjunction xs ∷ gs) z h f (Op.single (Before.conjunction o g b k j) s) i = Before.conjunction m g b (AreSingles.more_singles o k j s) i
  conjoined (Frame.Negation ∷ gs) z h f (Op.single b s) i = cc
  conjoined (Frame.Disjunction xs ∷ gs) z h f (Op.single b s) i = Before.conjunction m refl b (AreSingles.one_single s) i
  conjoined (Frame.Premise x ∷ gs) z h f (Op.single b s) i = Before.conjunction m refl b (AreSingles.one_single s) i
  conjoined (Frame.Side x ∷ gs) z h f (Op.single b s) i = Before.conjunction m refl b (AreSingles.one_single s) i
  conjoined (Frame.Body u bs ∷ gs) z h f (Op.single b s) i = Before.conjunction m refl b (AreSingles.one_single s) i
  conjoined (Frame.Bracket ∷ gs) z h f (Op.single b s) i = Before.conjunction m refl b (AreSingles.one_single s) i
  conjoined (Frame.Arguments w p ts ∷ gs) z h f (Op.single b s) i = Before.conjunction m refl b (AreSingles.one_single s) i
  conjoined (Frame.LeftSide t n ∷ gs) z h f (Op.single b s) i = Before.conjunction m refl b (AreSingles.one_single s) i

  disjoined : (gs : List Frame) (ys : List Tree) {ms : List Mark} → firm 2 gs ≡ true → Before base all gs ms → AreSingles (context base gs) End.Closed ms ys (m ∷ rest) → Is Sign.Or no_loads m → Before base all (disjoin gs (all_of ys)) rest
  disjoined [] ys f b s i = Before.disjunction m refl b (AreBoths.one_both s) i
  disjoined (Frame.Disjunction xs ∷ gs) ys f (Before.disjunction o g b k j) s i = Before.disjunction m g b (AreBoths.more_boths o k j s) i
  disjoined (Frame.Negation ∷ gs) ys f b s i = cc
  disjoined (Frame.Conjunction xs ∷ gs) ys f b s i = cc
  disjoined (Frame.Premise x ∷ gs) ys f b s i = Before.disjunction m refl b (AreBoths.one_both s) i
  disjoined (Frame.Side x ∷ gs) ys f b s i = Before.disjunction m refl b (AreBoths.one_both s) i
  disjoined (Frame.Body u bs ∷ gs) ys f b s i = Before.disjunction m refl b (AreBoths.one_both s) i
  disjoined (Frame.Bracket ∷ gs) ys f b s i = Before.disjunction m refl b (AreBoths.one_both s) i
  disjoined (Frame.Arguments w p ts ∷ gs) ys f b s i = Before.disjunction m refl b (AreBoths.one_both s) i
  disjoined (Frame.LeftSide t n ∷ gs) ys f b s i = Before.disjunction m refl b (AreBoths.one_both s) i

  closed_here : {e : End} {n : ℕ} (gs : List Frame) (z : Tree) → Op base all e gs z (m ∷ rest) n → Keeps base all rest m Sign.RightRound (close (gs, z))
  closed_here [] z o = tt
  closed_here (Frame.Bracket ∷ gs) z o = λ i. bracketed (formula_of base all o) i
    where
      bracketed_by : {e : End} {b : Bool} {ms : List Mark} → Before base all (Frame.Bracket ∷ gs) ms → IsFormula (deeper (context base gs)) e b ms z (m ∷ rest) → Is Sign.RightRound no_loads m → Had base all gs z rest
      bracketed_by (Before.bracket l b j) k i = record { from = _; before = b; is = IsSingle.bracketed l m j k i }

      bracketed : {e : End} → FormulaOf base all e (Frame.Bracket ∷ gs) z (m ∷ rest) → Is Sign.RightRound no_loads m → Had base all gs z rest
      bracketed r i = bracketed_by r.before r.is i
  closed_here (f ∷ gs) z o = tt

  and_keeps : (fs : List Frame) (y : Tree) → Had base all fs y (m ∷ rest) → Keeps base all rest m Sign.And (after fs y Sign.And)
  and_keeps fs y h i =
      let p = reduce 1 fs y in
      let w = reduced base all 1 1 fs y (omega arith) (omega arith) (Op.single h.before h.is) in
      conjoined p.0 p.1 w.most (reduce_firm 1 fs y) w.op i

  or_keeps : (fs : List Frame) (y : Tree) → Had base all fs y (m ∷ rest) → Keeps base all rest m Sign.Or (after fs y Sign.Or)
  or_keeps fs y h i =
      let p = reduce 2 fs y in
      let w = reduced base all 2 1 fs y (omega arith) (omega arith) (Op.single h.before h.is) in
      let r = singles_of base all w.most w.op in
      subst (λ (z : Tree). Before base all (disjoin p.0 z) rest) (sym r.is) (disjoined p.0 r.parts (reduce_firm 2 fs y) r.before r.are i)

  arrow_keeps : (fs : List Frame) (y : Tree) → Had base all fs y (m ∷ rest) → Keeps base all rest m Sign.Arrow (after fs y Sign.Arrow)
  arrow_keeps fs y h i =
      let w = reduced base all 3 1 fs y (omega arith) (omega arith) (Op.single h.before h.is) in
      let r = boths_of base all w.most w.op in
      Before.premise m (reduce_firm 3 fs y) r.before r.are r.is i

  map_keeps : (o : Option (List Frame × Tree)) → IfSome o (Left base all (m ∷ rest)) → Keeps base all rest m Sign.DoubleArrow (option_map side o)
  map_keeps None h = tt
  map_keeps (Some p) h = λ i. Before.left_of_iff m h.outermost h.before h.is h.takes i

  iff_keeps : (fs : List Frame) (y : Tree) → Had base all fs y (m ∷ rest) → Keeps base all rest m Sign.DoubleArrow (after fs y Sign.DoubleArrow)
  iff_keeps fs y h = map_keeps (double fs y) (doubled base all fs y tt (omega arith) (Op.single h.before h.is))

  close_keeps : (fs : List Frame) (y : Tree) → Had base all fs y (m ∷ rest) → Keeps base all rest m Sign.RightRound (after fs y Sign.RightRound)
  close_keeps fs y h = let p = reduce 6 fs y in let r = reduced_all base all fs y (Op.single h.before h.is) in closed_here p.0 p.1 r.1.1

  after_keeps : (fs : List Frame) (y : Tree) (sign : Sign) → Had base all fs y (m ∷ rest) → Keeps base all rest m sign (after fs y sign)
  after_keeps fs y Sign.And h = and_keeps fs y h
  after_keeps fs y Sign.Or h = or_keeps fs y h
  after_keeps fs y Sign.Arrow h = arrow_keeps fs y h
  after_keeps fs y Sign.DoubleArrow h = iff_keeps fs y h
  after_keeps fs y Sign.RightRound h = close_keeps fs y h
  after_keeps fs y _ h = tt

  -- the arguments with one more
  args_more : {d : ℕ} {us ms after : List Mark} {ts : List TermTree} {t : TermTree} → Args d us ts ms → IsTerm d ms t after → AreTerms d us (ts ++ t ∷ []) after
  args_more Args.none h = AreTerms.one_term h
  args_more (Args.some c hs i) h = AreTerms.more_terms c hs i h

  argument_keeps : (fs : List Frame) (w : Word) (p : Bool) (ts : List TermTree) (t : TermTree) (sign : Sign) {ms : List Mark} → Before base all (Frame.Arguments w p ts ∷ fs) ms → IsTerm ((context base fs).nestings + 1) ms t (m ∷ rest) →
      Keeps base all rest m sign (after_argument fs w p (ts ++ t ∷ []) sign)
  argument_keeps fs w p ts t Sign.Comma (Before.arguments l b h j args) k = λ i. Before.arguments l b h j (Args.some m (args_more args k) i)
  argument_keeps fs w p ts t Sign.RightRound (Before.arguments l b h j args) k = λ i. record { from = _; before = b; is = IsTerm.applied l m h j (args_more args k) i }
  argument_keeps fs w p ts t _ b k = tt

  compared : (fs : List Frame) (u t : TermTree) (n : Bool) {ms after : List Mark} → Before base all (Frame.LeftSide u n ∷ fs) ms → IsTerm (context base fs).nestings ms t after → Had base all fs (equation u n t) after
  compared fs u t n (Before.left_side n' o b h j) k = record { from = _; before = b; is = IsSingle.atom (IsAtom.compared n o h j k) }

  atom_had : (fs : List Frame) (t : TermTree) {after : List Mark} → Termed base all fs t after → Had base all fs (tree.Atom t) after
  atom_had fs t h = record { from = h.from; before = h.before; is = IsSingle.atom (IsAtom.holds h.is) }

  atom_keeps : (fs : List Frame) (t : TermTree) (sign : Sign) → Termed base all fs t (m ∷ rest) → Keeps base all rest m sign (after_atom fs t sign)
  atom_keeps fs t Sign.Equal h = λ i. Before.left_side false m h.before h.is i
  atom_keeps fs t Sign.NotEqual h = λ i. Before.left_side true m h.before h.is i
  atom_keeps fs t Sign.And h = after_keeps fs (tree.Atom t) Sign.And (atom_had fs t h)
  atom_keeps fs t Sign.Or h = after_keeps fs (tree.Atom t) Sign.Or (atom_had fs t h)
  atom_keeps fs t Sign.Arrow h = after_keeps fs (tree.Atom t) Sign.Arrow (atom_had fs t h)
  atom_keeps fs t Sign.DoubleArrow h = after_keeps fs (tree.Atom t) Sign.DoubleArrow (atom_had fs t h)
  atom_keeps fs t Sign.RightRound h = after_keeps fs (tree.Atom t) Sign.RightRound (atom_had fs t h)
  atom_keeps fs t _ h = tt

  term_keeps : (fs : List Frame) (t : TermTree) (sign : Sign) → Termed base all fs t (m ∷ rest) → Keeps base all rest m sign (after_term fs t sign)
  term_keeps (Frame.Arguments w p ts ∷ fs) t sign h = argument_keeps fs w p ts t sign h.before h.is
  term_keeps (Frame.LeftSide u n ∷ fs) t sign h = after_keeps fs (equation u n t) sign (compared fs u t n h.before h.is)
  term_keeps [] t sign h = atom_keeps [] t sign h
  term_keeps (Frame.Negation ∷ fs) t sign h = atom_keeps (Frame.Negation ∷ fs) t sign h
  term_keeps (Frame.Conjunction xs ∷ fs) t sign h = atom_keeps (Frame.Conjunction xs ∷ fs) t sign h
  term_keeps (Frame.Disjunction xs ∷ fs) t sign h = atom_keeps (Frame.Disjunction xs ∷ fs) t sign h
  term_keeps (Frame.Premise x ∷ fs) t sign h = atom_keeps (Frame.Premise x ∷ fs) t sign h
  term_keeps (Frame.Side x ∷ fs) t sign h = atom_keeps (Frame.Side x ∷ fs) t sign h
  term_keeps (Frame.Body u bs ∷ fs) t sign h = atom_keeps (Frame.Body u bs ∷ fs) t sign h
  term_keeps (Frame.Bracket ∷ fs) t sign h = atom_keeps (Frame.Bracket ∷ fs) t sign h

  bare_termed : (fs : List Frame) (w : Word) (p : Bool) {after : List Mark} → Named base all fs w p after → Termed base all fs (term.Named w p) after
  bare_termed fs w p h = record { from = h.from; before = h.before; is = IsTerm.bare h.is }

  primed_head : (fs : List Frame) (w : Word) {from : List Mark} → IsHead from w false (m ∷ rest) → Is Sign.Prime no_loads m → IsHead from w true rest
  primed_head fs w (IsHead.plain n j) i = IsHead.primed n m j i

  name_keeps : (fs : List Frame) (w : Word) (sign : Sign) → Named base all fs w false (m ∷ rest) → Keeps base all rest m sign (after_name fs w sign)
  name_keeps fs w Sign.Prime h = λ i. record { from = h.from; before = h.before; is = primed_head fs w h.is i }
  name_keeps fs w Sign.LeftRound h = λ i. Before.arguments m h.before h.is i Args.none
  name_keeps fs w sign h = term_keeps fs (term.Named w false) sign (bare_termed fs w false h)

  primed_keeps : (fs : List Frame) (w : Word) (sign : Sign) → Named base all fs w true (m ∷ rest) → Keeps base all rest m sign (after_primed fs w sign)
  primed_keeps fs w Sign.LeftRound h = λ i. Before.arguments m h.before h.is i Args.none
  primed_keeps fs w sign h = term_keeps fs (term.Named w true) sign (bare_termed fs w true h)

  before_keeps : (fs : List Frame) (sign : Sign) → Before base all fs (m ∷ rest) → Keeps base all rest m sign (before fs m.word sign)
  before_keeps fs Sign.Name h = λ i. record { from = _; before = h; is = IsHead.plain m i }
  before_keeps fs Sign.Not h = λ i. Before.negation m h i
  before_keeps fs Sign.LeftRound h = λ i. Before.bracket m h i
  before_keeps fs Sign.True h = λ i. record { from = _; before = h; is = IsSingle.fixed true m i }
  before_keeps fs Sign.False h = λ i. record { from = _; before = h; is = IsSingle.fixed false m i }
  before_keeps fs Sign.ForAll h = λ i. record { mark = m; from = _; before = h; quantifier_is = i; staged = Binds.unbound }
  before_keeps fs Sign.Exists h = λ i. record { mark = m; from = _; before = h; quantifier_is = i; staged = Binds.unbound }
  before_keeps fs _ h = tt

  before_term_keeps : (fs : List Frame) (sign : Sign) → Before base all fs (m ∷ rest) → Keeps base all rest m sign (before_term fs m.word sign)
  before_term_keeps fs Sign.Name h = λ i. record { from = _; before = h; is = IsHead.plain m i }
  before_term_keeps fs _ h = tt

  -- the binders with one more
  binders_more : {v : ℕ} {from ms after : List Mark} {bs : List Binder} {b : Binder} → Binds v from bs ms → IsBinder (v + length bs) ms b after → AreBinders v from (bs ++ b ∷ []) after
  binders_more {v} {from} {ms} {after} {bs} {b} Binds.unbound h = AreBinders.one_binder (subst (λ (n : ℕ). IsBinder n ms b after) (omega arith) h)
  binders_more (Binds.bound c hs i) h = AreBinders.more_binders c hs i h

  sort_bound : (fs : List Frame) (bs : List Binder) (n : Word) {from : List Mark} → Sorted base fs bs n from (m ∷ rest) → Is Sign.Name no_loads m → AreBinders (context base fs).variables from (bs ++ record { name = n; sort = m.word } ∷ []) rest
  sort_bound fs bs n {from} h i =
      let v = h.variable in
      subst (λ (k : Word). AreBinders (context base fs).variables from (bs ++ record { name = k; sort = m.word } ∷ []) rest) v.is
      (binders_more v.binders (IsBinder.binder v.mark h.colon m v.name h.is i))

  header_keeps : (fs : List Frame) (u : Bool) (bs : List Binder) (stage : Stage) (sign : Sign) → Headed base all fs u bs stage (m ∷ rest) → Keeps base all rest m sign (in_header fs u bs stage m.word sign)
  header_keeps fs u bs Stage.Variable Sign.Name h = λ i. record { mark = h.mark; from = h.from; before = h.before; quantifier_is = h.quantifier_is; staged = record { mark = m; binders = h.staged; name = i; is = refl } }
  header_keeps fs u bs (Stage.Colon n) Sign.Colon h = λ i. record { mark = h.mark; from = h.from; before = h.before; quantifier_is = h.quantifier_is; staged = record { colon = m; variable = h.staged; is = i } }
  header_keeps fs u bs (Stage.Sort n) Sign.Name h = λ i. record { mark = h.mark; from = h.from; before = h.before; quantifier_is = h.quantifier_is; staged = sort_bound fs bs n h.staged i }
  header_keeps fs u bs Stage.Next Sign.Comma h = λ i. record { mark = h.mark; from = h.from; before = h.before; quantifier_is = h.quantifier_is; staged = Binds.bound m h.staged i }
  header_keeps fs u bs Stage.Next Sign.Dot h = λ i. Before.body u h.mark m h.before h.quantifier_is h.staged i
  header_keeps fs u bs stage sign h = tt

  last_keeps : (last : Last) (fs : List Frame) (sign : Sign) → IsReadBy base all last fs (m ∷ rest) → Keeps base all rest m sign (step_by last fs m.word sign)
  last_keeps Last.Want fs sign h = before_keeps fs sign h
  last_keeps Last.WantTerm fs sign h = before_term_keeps fs sign h
  last_keeps (Last.Name n) fs sign h = name_keeps fs n sign h
  last_keeps (Last.Primed n) fs sign h = primed_keeps fs n sign h
  last_keeps (Last.Term t) fs sign h = term_keeps fs t sign h
  last_keeps (Last.Operand y) fs sign h = after_keeps fs y sign h
  last_keeps (Last.Header u bs stage) fs sign h = header_keeps fs u bs stage sign h

if_some : {X : Type 0} (P : X → Type 0) (o : Option X) (x : X) → o ≡ Some x → IfSome o P → P x
if_some P None x e h = cc
if_some P (Some y) x e h = let same : y ≡ x = cc in subst P same h

module _ (base : Context) (all : List Mark) where
  pub reads_sound : {s t : State} {ms rest : List Mark} → Reads base s ms t rest → IsRead base all s ms → IsRead base all t rest
  reads_sound Reads.here h = h
  reads_sound {s = s} (Reads.more {t = u} {ms = ms} m e l r) h =
      reads_sound r
      (if_some (λ (t : State). Is m.word.sign (loads_in base t m.word) m → IsRead base all t ms) (step s m.word) u e (last_keeps base all ms m s.last s.stack m.word.sign h)
      (record { sign_is = refl; loads_are = sym l }))

  at_bottom : {e : End} {i : Bool} {y : Tree} {ms : List Mark} → Before base all [] ms → IsFormula base e i ms y [] → Spelled base all y
  at_bottom {e} {i} Before.bottom h = (e, (i, h))

  whole_spelled : {e : End} {n : ℕ} (gs : List Frame) (z : Tree) → Op base all e gs z [] n → IfSome (whole (gs, z)) (Spelled base all)
  whole_spelled [] z o = let r = formula_of base all o in at_bottom r.before r.is
  whole_spelled (f ∷ gs) z o = tt

  ended : (fs : List Frame) (y : Tree) → Had base all fs y [] → IfSome (end fs y) (Spelled base all)
  ended fs y h = let p = reduce 6 fs y in let r = reduced_all base all fs y (Op.single h.before h.is) in whole_spelled p.0 p.1 r.1.1

  ended_atom : (fs : List Frame) (t : TermTree) → Termed base all fs t [] → IfSome (end fs (tree.Atom t)) (Spelled base all)
  ended_atom fs t h = ended fs (tree.Atom t) (record { from = h.from; before = h.before; is = IsSingle.atom (IsAtom.holds h.is) })

  right_side : (fs : List Frame) (u t : TermTree) (n : Bool) {ms : List Mark} → Before base all (Frame.LeftSide u n ∷ fs) ms → IsTerm (context base fs).nestings ms t [] → Had base all fs (equation u n t) []
  right_side fs u t n (Before.left_side n' o b h j) k = record { from = _; before = b; is = IsSingle.atom (IsAtom.compared n o h j k) }

  ended_term : (fs : List Frame) (t : TermTree) → Termed base all fs t [] → IfSome (end_term fs t) (Spelled base all)
  ended_term (Frame.Arguments w p ts ∷ fs) t h = tt
  ended_term (Frame.LeftSide u n ∷ fs) t h = ended fs (equation u n t) (right_side fs u t n h.before h.is)
  ended_term fs t h = ended_atom fs t h

  finished : (last : Last) (fs : List Frame) → IsReadBy base all last fs [] → IfSome (finish_by last fs) (Spelled base all)
  finished Last.Want fs h = tt
  finished Last.WantTerm fs h = tt
  finished (Last.Name n) fs h = ended_term fs (term.Named n false) (record { from = h.from; before = h.before; is = IsTerm.bare h.is })
  finished (Last.Primed n) fs h = ended_term fs (term.Named n true) (record { from = h.from; before = h.before; is = IsTerm.bare h.is })
  finished (Last.Term t) fs h = ended_term fs t h
  finished (Last.Operand y) fs h = ended fs y h
  finished (Last.Header u bs stage) fs h = tt

  pub formula_sound : (t : State) (x : Tree) → Reads base start all t [] → finish t ≡ Some x → Spelled base all x
  formula_sound t x r e = if_some (Spelled base all) (finish t) x e (finished t.last t.stack (reads_sound r Before.bottom))
