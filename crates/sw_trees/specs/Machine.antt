-- How formulas are read, a word at a time: this mirrors the reader, and no promise cites it.
use Rattle.std.specs.Prelude.{◌≡◌, ℕ, ◌+◌, Bool, false, true, List, [], ◌∷◌, ◌++◌, length, nat_lt, Option, Some, None, option_map, if◌then◌else◌}
use Rattle.sw_trees.specs.declared.words.Sign.{Sign}
use Rattle.sw_trees.specs.declared.words.Word.{Word}
use Rattle.sw_trees.specs.declared.tree.Binder.{Binder}
use Rattle.sw_trees.specs.declared.tree.TermTree.{TermTree}
use Rattle.sw_trees.specs.declared.tree.TermTree.TheVariants as term
use Rattle.sw_trees.specs.declared.tree.Tree.{Tree}
use Rattle.sw_trees.specs.declared.tree.Tree.TheVariants as tree
use Rattle.sw_trees.specs.declared.frames.Frame.{Frame}
use Rattle.sw_trees.specs.declared.machine.Stage.{Stage}
use Rattle.sw_trees.specs.declared.machine.Last.{Last}
use Rattle.sw_trees.specs.declared.machine.State.{State}
use Rattle.sw_trees.specs.Measures.{longest_path}
use Rattle.sw_trees.specs.Grammar.{Loads, no_loads, opening, joining, binding, Context, deeper, beside, inside, equation}

-- an operand is done with its frame before a weaker operator: the lower, the tighter
abbrev pub strength : Frame → ℕ
strength Frame.Negation = 0
strength (Frame.Conjunction xs) = 1
strength (Frame.Disjunction xs) = 2
strength (Frame.Premise x) = 3
strength (Frame.Side x) = 4
strength (Frame.Body u bs) = 5
strength Frame.Bracket = 6
strength (Frame.Arguments w p ts) = 6
strength (Frame.LeftSide t n) = 6

-- the frame with its last part
abbrev pub fill : Frame → Tree → Tree
fill Frame.Negation y = tree.Not y
fill (Frame.Conjunction xs) y = tree.All (xs ++ y ∷ [])
fill (Frame.Disjunction xs) y = tree.Any (xs ++ y ∷ [])
fill (Frame.Premise x) y = tree.Implies x y
fill (Frame.Side x) y = tree.Iff x y
fill (Frame.Body u bs) y = tree.Quantified u bs y
fill Frame.Bracket y = y
fill (Frame.Arguments w p ts) y = y
fill (Frame.LeftSide t n) y = y

-- the innermost frames that are tighter are done
abbrev pub reduce : ℕ → List Frame → Tree → List Frame × Tree
reduce k [] y = ([], y)
reduce k (f ∷ fs) y = if nat_lt (strength f) k then reduce k fs (fill f y) else (f ∷ fs, y)

-- nothing is changed, since the innermost frame is not tighter
pub record IsDone (k : ℕ) (fs gs : List Frame) : Type 0 where
  pub same : gs ≡ fs
  pub done : (y : Tree) → reduce k fs y ≡ (fs, y)

abbrev pub want : List Frame → State
want fs = record { stack = fs; last = Last.Want }

abbrev pub want_term : List Frame → State
want_term fs = record { stack = fs; last = Last.WantTerm }

abbrev pub have : List Frame → Tree → State
have fs y = record { stack = fs; last = Last.Operand y }

abbrev pub have_term : List Frame → TermTree → State
have_term fs t = record { stack = fs; last = Last.Term t }

abbrev pub start : State
start = want []

-- one part more of a run of &, or the first
abbrev pub conjoin : List Frame → Tree → List Frame
conjoin (Frame.Conjunction xs ∷ fs) y = Frame.Conjunction (xs ++ y ∷ []) ∷ fs
conjoin fs y = Frame.Conjunction (y ∷ []) ∷ fs

abbrev pub disjoin : List Frame → Tree → List Frame
disjoin (Frame.Disjunction xs ∷ fs) y = Frame.Disjunction (xs ++ y ∷ []) ∷ fs
disjoin fs y = Frame.Disjunction (y ∷ []) ∷ fs

-- a <-> belongs to the innermost body that has none
abbrev pub double : List Frame → Tree → Option (List Frame × Tree)
double [] y = Some ([], y)
double (Frame.Negation ∷ fs) y = double fs (tree.Not y)
double (Frame.Conjunction xs ∷ fs) y = double fs (tree.All (xs ++ y ∷ []))
double (Frame.Disjunction xs ∷ fs) y = double fs (tree.Any (xs ++ y ∷ []))
double (Frame.Premise x ∷ fs) y = double fs (tree.Implies x y)
double (Frame.Side x ∷ Frame.Body u bs ∷ fs) y = double fs (tree.Quantified u bs (tree.Iff x y))
double (Frame.Side x ∷ fs) y = None
double (f ∷ fs) y = Some (f ∷ fs, y)

abbrev pub side : List Frame × Tree → State
side p = want (Frame.Side p.1 ∷ p.0)

-- a right bracket ends what is open inside its bracket
abbrev pub close : List Frame × Tree → Option State
close (Frame.Bracket ∷ fs, y) = Some (have fs y)
close (fs, y) = None

-- an operator or a right bracket after an operand
abbrev pub after : List Frame → Tree → Sign → Option State
after fs y Sign.And = let p = reduce 1 fs y in Some (want (conjoin p.0 p.1))
after fs y Sign.Or = let p = reduce 2 fs y in Some (want (disjoin p.0 p.1))
after fs y Sign.Arrow = let p = reduce 3 fs y in Some (want (Frame.Premise p.1 ∷ p.0))
after fs y Sign.DoubleArrow = option_map side (double fs y)
after fs y Sign.RightRound = close (reduce 6 fs y)
after fs y _ = None

-- the formula, if nothing is open
abbrev pub whole : List Frame × Tree → Option Tree
whole ([], y) = Some y
whole (f ∷ fs, y) = None

abbrev pub end : List Frame → Tree → Option Tree
end fs y = whole (reduce 6 fs y)

-- a comma or a right bracket after an argument
abbrev pub after_argument : List Frame → Word → Bool → List TermTree → Sign → Option State
after_argument fs w p ts Sign.Comma = Some (want_term (Frame.Arguments w p ts ∷ fs))
after_argument fs w p ts Sign.RightRound = Some (have_term fs (term.Applied w p ts))
after_argument fs w p ts _ = None

-- what follows a term that is no argument and no right side: an equality sign, or it is an atom
abbrev pub after_atom : List Frame → TermTree → Sign → Option State
after_atom fs t Sign.Equal = Some (want_term (Frame.LeftSide t false ∷ fs))
after_atom fs t Sign.NotEqual = Some (want_term (Frame.LeftSide t true ∷ fs))
after_atom fs t sign = after fs (tree.Atom t) sign

abbrev pub after_term : List Frame → TermTree → Sign → Option State
after_term (Frame.Arguments w p ts ∷ fs) t sign = after_argument fs w p (ts ++ t ∷ []) sign
after_term (Frame.LeftSide u n ∷ fs) t sign = after fs (equation u n t) sign
after_term fs t sign = after_atom fs t sign

abbrev pub end_term : List Frame → TermTree → Option Tree
end_term (Frame.Arguments w p ts ∷ fs) t = None
end_term (Frame.LeftSide u n ∷ fs) t = end fs (equation u n t)
end_term fs t = end fs (tree.Atom t)

-- a prime or a left bracket after a name; a left bracket after its prime
abbrev pub after_name : List Frame → Word → Sign → Option State
after_name fs w Sign.Prime = Some (record { stack = fs; last = Last.Primed w })
after_name fs w Sign.LeftRound = Some (want_term (Frame.Arguments w false [] ∷ fs))
after_name fs w sign = after_term fs (term.Named w false) sign

abbrev pub after_primed : List Frame → Word → Sign → Option State
after_primed fs w Sign.LeftRound = Some (want_term (Frame.Arguments w true [] ∷ fs))
after_primed fs w sign = after_term fs (term.Named w true) sign

abbrev pub header : List Frame → Bool → List Binder → Stage → State
header fs u bs stage = record { stack = fs; last = Last.Header u bs stage }

-- where an operand is wanted
abbrev pub before : List Frame → Word → Sign → Option State
before fs w Sign.Name = Some (record { stack = fs; last = Last.Name w })
before fs w Sign.Not = Some (want (Frame.Negation ∷ fs))
before fs w Sign.LeftRound = Some (want (Frame.Bracket ∷ fs))
before fs w Sign.True = Some (have fs (tree.Constant true))
before fs w Sign.False = Some (have fs (tree.Constant false))
before fs w Sign.ForAll = Some (header fs true [] Stage.Variable)
before fs w Sign.Exists = Some (header fs false [] Stage.Variable)
before fs w _ = None

abbrev pub before_term : List Frame → Word → Sign → Option State
before_term fs w Sign.Name = Some (record { stack = fs; last = Last.Name w })
before_term fs w _ = None

abbrev pub in_header : List Frame → Bool → List Binder → Stage → Word → Sign → Option State
in_header fs u bs Stage.Variable w Sign.Name = Some (header fs u bs (Stage.Colon w))
in_header fs u bs (Stage.Colon n) w Sign.Colon = Some (header fs u bs (Stage.Sort n))
in_header fs u bs (Stage.Sort n) w Sign.Name = Some (header fs u (bs ++ record { name = n; sort = w } ∷ []) Stage.Next)
in_header fs u bs Stage.Next w Sign.Comma = Some (header fs u bs Stage.Variable)
in_header fs u bs Stage.Next w Sign.Dot = Some (want (Frame.Body u bs ∷ fs))
in_header fs u bs stage w _ = None

abbrev pub step_by : Last → List Frame → Word → Sign → Option State
step_by Last.Want fs w sign = before fs w sign
step_by Last.WantTerm fs w sign = before_term fs w sign
step_by (Last.Name n) fs w sign = after_name fs n sign
step_by (Last.Primed n) fs w sign = after_primed fs n sign
step_by (Last.Term t) fs w sign = after_term fs t sign
step_by (Last.Operand y) fs w sign = after fs y sign
step_by (Last.Header u bs stage) fs w sign = in_header fs u bs stage w sign

-- the state after one word more, if a formula can go on with it
abbrev pub step : State → Word → Option State
step s w = step_by s.last s.stack w w.sign

abbrev pub finish_by : Last → List Frame → Option Tree
finish_by Last.Want fs = None
finish_by Last.WantTerm fs = None
finish_by (Last.Name n) fs = end_term fs (term.Named n false)
finish_by (Last.Primed n) fs = end_term fs (term.Named n true)
finish_by (Last.Term t) fs = end_term fs t
finish_by (Last.Operand y) fs = end fs y
finish_by (Last.Header u bs stage) fs = None

-- the formula that was read, if the words may end here
abbrev pub finish : State → Option Tree
finish s = finish_by s.last s.stack

-- what is open inside a frame
abbrev pub within : Frame → Context → Context
within Frame.Negation c = deeper c
within (Frame.Conjunction xs) c = c
within (Frame.Disjunction xs) c = c
within (Frame.Premise x) c = deeper c
within (Frame.Side x) c = beside c
within (Frame.Body u bs) c = inside (length bs) c
within Frame.Bracket c = deeper c
within (Frame.Arguments w p ts) c = deeper c
within (Frame.LeftSide t n) c = c

-- what is open around the next operand
abbrev pub context : Context → List Frame → Context
context base [] = base
context base (f ∷ fs) = within f (context base fs)

-- the path of the innermost frame's left side
abbrev pub left_path : List Frame → ℕ
left_path (Frame.Side x ∷ fs) = longest_path x
left_path fs = 0

-- the loads of a name, which binds where a binder's colon is next
abbrev pub name_loads : Last → ℕ → Loads
name_loads (Last.Header u bs (Stage.Colon n)) variables = binding (variables + length bs + 1)
name_loads last variables = no_loads

-- the loads of a word that was read last, by what is open now
abbrev pub loads_by : Sign → Last → Context → ℕ → Loads
loads_by Sign.Not last c path = opening c.nestings
loads_by Sign.LeftRound last c path = opening c.nestings
loads_by Sign.Arrow last c path = opening c.nestings
loads_by Sign.DoubleArrow last c path = joining c.nestings (c.iffs + path)
loads_by Sign.ForAll last c path = opening (c.nestings + 1)
loads_by Sign.Exists last c path = opening (c.nestings + 1)
loads_by Sign.Name last c path = name_loads last c.variables
loads_by _ last c path = no_loads

abbrev pub loads_in : Context → State → Word → Loads
loads_in base s w = loads_by w.sign s.last (context base s.stack) (left_path s.stack)
