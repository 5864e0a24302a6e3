-- Whatever was read goes on to a formula.
use Rattle.std.proofs.Common.{◌≡◌, ℕ, ◌<◌, ◌≤◌, Bool, true, false, List, [], ◌∷◌, ◌++◌, Option, Some, None, refl, subst, arith, ◌∙◌}
use Rattle.std.specs.Prelude.{nat_lt, option_map, IfSome}
use Rattle.std.proofs.lemmas.Bool.Decides.{nat_tests}
use Rattle.sw_scan.specs.declared.Kind.{Kind}
use Rattle.sw_trees.specs.declared.words.Sign.{Sign}
use Rattle.sw_trees.specs.declared.words.Word.{Word}
use Rattle.sw_trees.specs.declared.tree.Binder.{Binder}
use Rattle.sw_trees.specs.declared.tree.Tree.{Tree}
use Rattle.sw_trees.specs.declared.tree.Tree.TheVariants as tree
use Rattle.sw_trees.specs.declared.tree.TermTree.{TermTree}
use Rattle.sw_trees.specs.declared.tree.TermTree.TheVariants as term
use Rattle.sw_trees.specs.declared.frames.Frame.{Frame}
use Rattle.sw_trees.specs.declared.machine.Stage.{Stage}
use Rattle.sw_trees.specs.declared.machine.Last.{Last}
use Rattle.sw_trees.specs.declared.machine.State.{State}
use Rattle.sw_trees.specs.Grammar.{Mark, Context, equation}
use Rattle.sw_trees.specs.Machine.{strength, fill, reduce, want, want_term, have, have_term, header, start, conjoin, disjoin, double, side, close, after, after_argument, after_atom, after_term, after_name, after_primed, before, before_term, in_header, step_by, step, finish, loads_in}
use Rattle.sw_trees.proofs.Reduce.{by_test}
use Rattle.sw_trees.proofs.Reading.{Reads, Acts, acts_fill, TermActs, takes_formula, after_term_atom, end_term_atom}
use Rattle.sw_trees.proofs.Complete.{after_head, head_acts, have_acts, have_term_acts, operator_follows, atom_after}

-- the frames stand on each other as the reader sets them: an equation and what holds a formula stand where a formula is wanted
pub data Proper : List Frame → Type 0 where
  bottom : Proper []
  argument : {fs : List Frame} {w : Word} {p : Bool} {ts : List TermTree} → Proper fs → Proper (Frame.Arguments w p ts ∷ fs)
  right_side : {fs : List Frame} {t : TermTree} {n : Bool} → takes_formula fs ≡ true → Proper fs → Proper (Frame.LeftSide t n ∷ fs)
  part : {fs : List Frame} (f : Frame) → takes_formula (f ∷ fs) ≡ true → takes_formula fs ≡ true → Proper fs → Proper (f ∷ fs)

-- frames on which a formula may stand
pub record Ready (fs : List Frame) : Type 0 where
  pub takes : takes_formula fs ≡ true
  pub proper : Proper fs

abbrev pub IsProperBy : Last → List Frame → Type 0
IsProperBy Last.Want fs = Ready fs
IsProperBy Last.WantTerm fs = Proper fs
IsProperBy (Last.Name n) fs = Proper fs
IsProperBy (Last.Primed n) fs = Proper fs
IsProperBy (Last.Term t) fs = Proper fs
IsProperBy (Last.Operand y) fs = Ready fs
IsProperBy (Last.Header u bs stage) fs = Ready fs

abbrev pub IsProper : State → Type 0
IsProper s = IsProperBy s.last s.stack

-- what is under a frame
under : (f : Frame) (fs : List Frame) → strength f < 6 → Proper (f ∷ fs) → Ready fs
under f fs h (Proper.part g t u p) = record { takes = u; proper = p }
under f fs h (Proper.argument p) = absurd (omega arith)
under f fs h (Proper.right_side t p) = absurd (omega arith)

reduce_ready : (k : ℕ) (fs : List Frame) (y : Tree) → k ≤ 6 → Ready fs → Ready (reduce k fs y).0
reduce_ready k [] y l h = h
reduce_ready k (f ∷ fs) y l h =
    by_test (nat_lt (strength f) k) (reduce k fs (fill f y)) (f ∷ fs, y) (λ (p : List Frame × Tree). Ready p.0)
    (λ t. let g : strength f < k = grind (arith, nat_tests, t) in reduce_ready k fs (fill f y) l (under f fs (omega (arith, g, l)) h.proper))
    (λ t. h)

on_top : (f : Frame) (fs : List Frame) → takes_formula (f ∷ fs) ≡ true → Ready fs → Ready (f ∷ fs)
on_top f fs t h = record { takes = t; proper = Proper.part f t h.takes h.proper }

conjoin_ready : (fs : List Frame) (y : Tree) → Ready fs → Ready (conjoin fs y)
conjoin_ready (Frame.Conjunction xs ∷ fs) y h = on_top _ fs refl (under (Frame.Conjunction xs) fs (omega arith) h.proper)
conjoin_ready fs y h = on_top (Frame.Conjunction (y ∷ [])) _ refl h

disjoin_ready : (fs : List Frame) (y : Tree) → Ready fs → Ready (disjoin fs y)
disjoin_ready (Frame.Disjunction xs ∷ fs) y h = on_top _ fs refl (under (Frame.Disjunction xs) fs (omega arith) h.proper)
disjoin_ready fs y h = on_top (Frame.Disjunction (y ∷ [])) _ refl h

double_ready : (fs : List Frame) (y : Tree) → Ready fs → IfSome (double fs y) (λ p. Ready p.0)
double_ready [] y h = h
double_ready (Frame.Negation ∷ fs) y h = double_ready fs (tree.Not y) (under Frame.Negation fs (omega arith) h.proper)
double_ready (Frame.Conjunction xs ∷ fs) y h = double_ready fs (tree.All (xs ++ y ∷ [])) (under (Frame.Conjunction xs) fs (omega arith) h.proper)
double_ready (Frame.Disjunction xs ∷ fs) y h = double_ready fs (tree.Any (xs ++ y ∷ [])) (under (Frame.Disjunction xs) fs (omega arith) h.proper)
double_ready (Frame.Premise x ∷ fs) y h = double_ready fs (tree.Implies x y) (under (Frame.Premise x) fs (omega arith) h.proper)
double_ready (Frame.Side x ∷ Frame.Body u bs ∷ fs) y h =
    let inner = under (Frame.Side x) (Frame.Body u bs ∷ fs) (omega arith) h.proper in
    double_ready fs (tree.Quantified u bs (tree.Iff x y)) (under (Frame.Body u bs) fs (omega arith) inner.proper)
double_ready (Frame.Side x ∷ fs) y h = tt
double_ready (Frame.Body u bs ∷ fs) y h = h
double_ready (Frame.Bracket ∷ fs) y h = h
double_ready (Frame.Arguments w p ts ∷ fs) y h = h
double_ready (Frame.LeftSide t n ∷ fs) y h = h

map_ready : (o : Option (List Frame × Tree)) → IfSome o (λ p. Ready p.0) → IfSome (option_map side o) IsProper
map_ready None h = tt
map_ready (Some p) h = on_top (Frame.Side p.1) p.0 refl h

bracket_ready : (fs : List Frame) → Proper (Frame.Bracket ∷ fs) → Ready fs
bracket_ready fs (Proper.part f t u p) = record { takes = u; proper = p }

close_ready : (fs : List Frame) (y : Tree) → Ready fs → IfSome (close (fs, y)) IsProper
close_ready (Frame.Bracket ∷ fs) y h = bracket_ready fs h.proper
close_ready fs y h = tt

after_proper : (fs : List Frame) (y : Tree) (sign : Sign) → Ready fs → IfSome (after fs y sign) IsProper
after_proper fs y Sign.And h = let p = reduce 1 fs y in conjoin_ready p.0 p.1 (reduce_ready 1 fs y (omega arith) h)
after_proper fs y Sign.Or h = let p = reduce 2 fs y in disjoin_ready p.0 p.1 (reduce_ready 2 fs y (omega arith) h)
after_proper fs y Sign.Arrow h = let p = reduce 3 fs y in on_top (Frame.Premise p.1) p.0 refl (reduce_ready 3 fs y (omega arith) h)
after_proper fs y Sign.DoubleArrow h = map_ready (double fs y) (double_ready fs y h)
after_proper fs y Sign.RightRound h = let p = reduce 6 fs y in close_ready p.0 p.1 (reduce_ready 6 fs y (omega arith) h)
after_proper fs y _ h = tt

argument_proper : (fs : List Frame) (w : Word) (p : Bool) (ts : List TermTree) (sign : Sign) → Proper fs → IfSome (after_argument fs w p ts sign) IsProper
argument_proper fs w p ts Sign.Comma h = Proper.argument h
argument_proper fs w p ts Sign.RightRound h = h
argument_proper fs w p ts _ h = tt

atom_proper : (fs : List Frame) (t : TermTree) (sign : Sign) → Ready fs → IfSome (after_atom fs t sign) IsProper
atom_proper fs t Sign.Equal h = Proper.right_side h.takes h.proper
atom_proper fs t Sign.NotEqual h = Proper.right_side h.takes h.proper
atom_proper fs t sign h = after_proper fs (tree.Atom t) sign h

below_argument : {fs : List Frame} {w : Word} {p : Bool} {ts : List TermTree} → Proper (Frame.Arguments w p ts ∷ fs) → Proper fs
below_argument (Proper.argument h) = h
below_argument (Proper.part f t u h) = h

below_side : {fs : List Frame} {u : TermTree} {n : Bool} → Proper (Frame.LeftSide u n ∷ fs) → Ready fs
below_side (Proper.right_side t h) = record { takes = t; proper = h }
below_side (Proper.part f t u h) = record { takes = u; proper = h }

term_proper : (fs : List Frame) (t : TermTree) (sign : Sign) → Proper fs → IfSome (after_term fs t sign) IsProper
term_proper (Frame.Arguments w p ts ∷ fs) t sign h = argument_proper fs w p (ts ++ t ∷ []) sign (below_argument h)
term_proper (Frame.LeftSide u n ∷ fs) t sign h = after_proper fs (equation u n t) sign (below_side h)
term_proper fs t sign h = atom_proper _ t sign (record { takes = refl; proper = h })

name_proper : (fs : List Frame) (w : Word) (sign : Sign) → Proper fs → IfSome (after_name fs w sign) IsProper
name_proper fs w Sign.Prime h = h
name_proper fs w Sign.LeftRound h = Proper.argument h
name_proper fs w sign h = term_proper fs (term.Named w false) sign h

primed_proper : (fs : List Frame) (w : Word) (sign : Sign) → Proper fs → IfSome (after_primed fs w sign) IsProper
primed_proper fs w Sign.LeftRound h = Proper.argument h
primed_proper fs w sign h = term_proper fs (term.Named w true) sign h

before_proper : (fs : List Frame) (w : Word) (sign : Sign) → Ready fs → IfSome (before fs w sign) IsProper
before_proper fs w Sign.Name h = h.proper
before_proper fs w Sign.Not h = on_top Frame.Negation fs refl h
before_proper fs w Sign.LeftRound h = on_top Frame.Bracket fs refl h
before_proper fs w Sign.True h = h
before_proper fs w Sign.False h = h
before_proper fs w Sign.ForAll h = h
before_proper fs w Sign.Exists h = h
before_proper fs w _ h = tt

before_term_proper : (fs : List Frame) (w : Word) (sign : Sign) → Proper fs → IfSome (before_term fs w sign) IsProper
before_term_proper fs w Sign.Name h = h
before_term_proper fs w _ h = tt

header_proper : (fs : List Frame) (u : Bool) (bs : List Binder) (stage : Stage) (w : Word) (sign : Sign) → Ready fs → IfSome (in_header fs u bs stage w sign) IsProper
header_proper fs u bs Stage.Variable w Sign.Name h = h
header_proper fs u bs (Stage.Colon n) w Sign.Colon h = h
header_proper fs u bs (Stage.Sort n) w Sign.Name h = h
header_proper fs u bs Stage.Next w Sign.Comma h = h
header_proper fs u bs Stage.Next w Sign.Dot h = on_top (Frame.Body u bs) fs refl h
header_proper fs u bs stage w sign h = tt

last_proper : (last : Last) (fs : List Frame) (w : Word) (sign : Sign) → IsProperBy last fs → IfSome (step_by last fs w sign) IsProper
last_proper Last.Want fs w sign h = before_proper fs w sign h
last_proper Last.WantTerm fs w sign h = before_term_proper fs w sign h
last_proper (Last.Name n) fs w sign h = name_proper fs n sign h
last_proper (Last.Primed n) fs w sign h = primed_proper fs n sign h
last_proper (Last.Term t) fs w sign h = term_proper fs t sign h
last_proper (Last.Operand y) fs w sign h = after_proper fs y sign h
last_proper (Last.Header u bs stage) fs w sign h = header_proper fs u bs stage w sign h

pub start_proper : IsProper start
start_proper = record { takes = refl; proper = Proper.bottom }

pub step_proper : (s t : State) (w : Word) → step s w ≡ Some t → IsProper s → IsProper t
step_proper s t w e h = from (step s w) e (last_proper s.last s.stack w w.sign h)
  where
    from : (o : Option State) → o ≡ Some t → IfSome o IsProper → IsProper t
    from None e k = cc
    from (Some u) e k = let same : u ≡ t = cc in subst IsProper same k

-- the state goes on to a formula
pub record Completes (base : Context) (s : State) : Type 0 where
  pub marks : List Mark
  pub to : State
  pub tree_is : Tree
  pub reads : Reads base s marks to []
  pub ends : finish to ≡ Some tree_is

-- a word of this sign, from nowhere
abbrev pub made : Sign → Word
made sign = record { sign = sign; token = record { kind = Kind.Name; at = 0; len = 0 } }

module _ (base : Context) where
  done : (s : State) (x : Tree) → finish s ≡ Some x → Completes base s
  done s x e = record { marks = []; to = s; tree_is = x; reads = Reads.here; ends = e }

  one_more : (sign : Sign) (s t : State) → step_by s.last s.stack (made sign) sign ≡ Some t → Completes base t → Completes base s
  one_more sign s t e h = record {
    marks = record { word = made sign; loads = loads_in base t (made sign) } ∷ h.marks;
    to = h.to;
    tree_is = h.tree_is;
    reads = Reads.more (record { word = made sign; loads = loads_in base t (made sign) }) e refl h.reads;
    ends = h.ends;
  }

  -- brackets are closed
  operand_completes : (fs : List Frame) (y : Tree) (t : State) → Acts 6 t fs y → Ready fs → Completes base t
  operand_completes [] y t a h = done t y a.ends
  operand_completes (Frame.Bracket ∷ fs) y t a h =
      one_more Sign.RightRound t (have fs y) (a.steps (made Sign.RightRound) Sign.RightRound (omega arith)) (operand_completes fs y (have fs y) (have_acts 6 fs y) (bracket_ready fs h.proper))
  operand_completes (Frame.Arguments w p ts ∷ fs) y t a h = let bad : false ≡ true = h.takes in cc
  operand_completes (Frame.LeftSide u n ∷ fs) y t a h = let bad : false ≡ true = h.takes in cc
  operand_completes (Frame.Negation ∷ fs) y t a h = operand_completes fs _ t (acts_fill 6 6 t Frame.Negation fs y (omega arith) (omega arith) (omega arith) a) (under Frame.Negation fs (omega arith) h.proper)
  operand_completes (Frame.Conjunction xs ∷ fs) y t a h = operand_completes fs _ t (acts_fill 6 6 t (Frame.Conjunction xs) fs y (omega arith) (omega arith) (omega arith) a) (under (Frame.Conjunction xs) fs (omega arith) h.proper)
  operand_completes (Frame.Disjunction xs ∷ fs) y t a h = operand_completes fs _ t (acts_fill 6 6 t (Frame.Disjunction xs) fs y (omega arith) (omega arith) (omega arith) a) (under (Frame.Disjunction xs) fs (omega arith) h.proper)
  operand_completes (Frame.Premise x ∷ fs) y t a h = operand_completes fs _ t (acts_fill 6 6 t (Frame.Premise x) fs y (omega arith) (omega arith) (omega arith) a) (under (Frame.Premise x) fs (omega arith) h.proper)
  operand_completes (Frame.Side x ∷ fs) y t a h = operand_completes fs _ t (acts_fill 6 6 t (Frame.Side x) fs y (omega arith) (omega arith) (omega arith) a) (under (Frame.Side x) fs (omega arith) h.proper)
  operand_completes (Frame.Body u bs ∷ fs) y t a h = operand_completes fs _ t (acts_fill 6 6 t (Frame.Body u bs) fs y (omega arith) (omega arith) (omega arith) a) (under (Frame.Body u bs) fs (omega arith) h.proper)

  side_acts : (fs : List Frame) (u x : TermTree) (n : Bool) (t : State) → TermActs t (Frame.LeftSide u n ∷ fs) x → Acts 6 t fs (equation u n x)
  side_acts fs u x n t a = record { steps = λ w sign h. a.steps w sign (operator_follows sign (omega (arith, h))); ends = a.ends }

  atom_acts : (fs : List Frame) (x : TermTree) (t : State) → takes_formula fs ≡ true → TermActs t fs x → Acts 6 t fs (tree.Atom x)
  atom_acts fs x t h a = record {
    steps = λ w sign l. a.steps w sign (operator_follows sign (omega (arith, l))) ∙ after_term_atom fs x sign h ∙ atom_after fs x sign (omega (arith, l));
    ends = a.ends ∙ end_term_atom fs x h;
  }

  term_completes : (fs : List Frame) (x : TermTree) (t : State) → TermActs t fs x → Proper fs → Completes base t
  term_completes (Frame.Arguments w p ts ∷ fs) x t a h =
      let y : TermTree = term.Applied w p (ts ++ x ∷ []) in
      one_more Sign.RightRound t (have_term fs y) (a.steps (made Sign.RightRound) Sign.RightRound refl) (term_completes fs y (have_term fs y) (have_term_acts fs y) (below_argument h))
  term_completes (Frame.LeftSide u n ∷ fs) x t a h = operand_completes fs (equation u n x) t (side_acts fs u x n t a) (below_side h)
  term_completes fs x t a h = operand_completes _ (tree.Atom x) t (atom_acts _ x t refl a) (record { takes = refl; proper = h })

  name_completes : (fs : List Frame) (w : Word) (p : Bool) → Proper fs → Completes base (after_head fs w p)
  name_completes fs w p h = term_completes fs (term.Named w p) (after_head fs w p) (head_acts fs w p) h

  want_completes : (fs : List Frame) → Proper fs → Completes base (want fs)
  want_completes fs h = one_more Sign.Name (want fs) (after_head fs (made Sign.Name) false) refl (name_completes fs (made Sign.Name) false h)

  body_completes : (fs : List Frame) (u : Bool) (bs : List Binder) → Ready fs → Completes base (header fs u bs Stage.Next)
  body_completes fs u bs h =
      one_more Sign.Dot (header fs u bs Stage.Next) (want (Frame.Body u bs ∷ fs)) refl (want_completes (Frame.Body u bs ∷ fs) (on_top (Frame.Body u bs) fs refl h).proper)

  sort_completes : (fs : List Frame) (u : Bool) (bs : List Binder) (n : Word) → Ready fs → Completes base (header fs u bs (Stage.Sort n))
  sort_completes fs u bs n h =
      one_more Sign.Name (header fs u bs (Stage.Sort n)) (header fs u (bs ++ record { name = n; sort = made Sign.Name } ∷ []) Stage.Next) refl (body_completes fs u _ h)

  colon_completes : (fs : List Frame) (u : Bool) (bs : List Binder) (n : Word) → Ready fs → Completes base (header fs u bs (Stage.Colon n))
  colon_completes fs u bs n h = one_more Sign.Colon (header fs u bs (Stage.Colon n)) (header fs u bs (Stage.Sort n)) refl (sort_completes fs u bs n h)

  last_completes : (last : Last) (fs : List Frame) → IsProperBy last fs → Completes base (record { stack = fs; last = last })
  last_completes Last.Want fs h = want_completes fs h.proper
  last_completes Last.WantTerm fs h = one_more Sign.Name (want_term fs) (after_head fs (made Sign.Name) false) refl (name_completes fs (made Sign.Name) false h)
  last_completes (Last.Name n) fs h = name_completes fs n false h
  last_completes (Last.Primed n) fs h = name_completes fs n true h
  last_completes (Last.Term t) fs h = term_completes fs t (have_term fs t) (have_term_acts fs t) h
  last_completes (Last.Operand y) fs h = operand_completes fs y (have fs y) (have_acts 6 fs y) h
  last_completes (Last.Header u bs Stage.Variable) fs h =
      one_more Sign.Name (header fs u bs Stage.Variable) (header fs u bs (Stage.Colon (made Sign.Name))) refl (colon_completes fs u bs (made Sign.Name) h)
  last_completes (Last.Header u bs (Stage.Colon n)) fs h = colon_completes fs u bs n h
  last_completes (Last.Header u bs (Stage.Sort n)) fs h = sort_completes fs u bs n h
  last_completes (Last.Header u bs Stage.Next) fs h = body_completes fs u bs h

  pub completes : (s : State) → IsProper s → Completes base s
  completes s h = last_completes s.last s.stack h
