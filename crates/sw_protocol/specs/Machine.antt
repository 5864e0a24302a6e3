-- How declarations are read, a word at a time: this mirrors the reader, and no promise cites it.
use Rattle.std.specs.Prelude.{ℕ, ◌+◌, Bool, false, true, List, [], ◌∷◌, ◌++◌, length, Option, Some, None, option_map, if◌then◌else◌}
use Rattle.sw_trees.specs.declared.words.Keyword.{Keyword}
use Rattle.sw_trees.specs.declared.words.Sign.{Sign}
use Rattle.sw_trees.specs.declared.words.Word.{Word}
use Rattle.sw_trees.specs.declared.tree.Binder.{Binder}
use Rattle.sw_trees.specs.declared.tree.Tree.{Tree}
use Rattle.sw_trees.specs.declared.machine.Stage.{Stage}
use Rattle.sw_trees.specs.declared.machine.State as formula
use Rattle.sw_trees.specs.Measures.{nestings_of}
use Rattle.sw_trees.specs.Grammar.{Loads, no_loads, opening, binding}
use Rattle.sw_trees.specs.Machine as machine
use Rattle.sw_text.specs.Names.{bytes_at}
use Rattle.sw_protocol.specs.declared.tree.Statement.{Statement}
use Rattle.sw_protocol.specs.declared.tree.Declaration.{Declaration}
use Rattle.sw_protocol.specs.declared.phases.Naming.{Naming}
use Rattle.sw_protocol.specs.declared.phases.Typing.{Typing}
use Rattle.sw_protocol.specs.declared.phases.Listing.{Listing}
use Rattle.sw_protocol.specs.declared.phases.Owner.{Owner}
use Rattle.sw_protocol.specs.declared.phases.Phase.{Phase}
use Rattle.sw_protocol.specs.Grammar.{is_hidden, with_params}

-- a formula begins
abbrev pub formula_of : Owner → Phase
formula_of o = Phase.Formula o machine.start

-- the first word of a declaration
abbrev pub begin_by : Keyword → Option Phase
begin_by Keyword.Sort = Some (Phase.Name Naming.Sort)
begin_by Keyword.Mutable = Some (Phase.Change true)
begin_by Keyword.Immutable = Some (Phase.Change false)
begin_by Keyword.Axiom = Some (formula_of (Owner.Stated Statement.Axiom))
begin_by Keyword.Init = Some (formula_of (Owner.Stated Statement.Init))
begin_by Keyword.Safety = Some (formula_of (Owner.Stated Statement.Safety))
begin_by Keyword.Transition = Some (Phase.Name Naming.Transition)
begin_by _ = None

abbrev pub begin : Sign → Option Phase
begin (Sign.Keyword k) = begin_by k
begin _ = None

-- the word after `mutable` or `immutable`
abbrev pub changed_by : Bool → Keyword → Option Phase
changed_by mutable Keyword.Relation = Some (Phase.Name (Naming.Relation mutable))
changed_by mutable Keyword.Constant = Some (Phase.Name (Naming.Constant mutable))
changed_by false Keyword.Function = Some (Phase.Name Naming.Function)
changed_by _ _ = None

abbrev pub changed : Bool → Sign → Option Phase
changed mutable (Sign.Keyword k) = changed_by mutable k
changed mutable _ = None

-- what follows a new name
abbrev pub named : Naming → Word → Phase
named Naming.Sort w = Phase.End (Declaration.Sort w)
named (Naming.Relation mutable) w = Phase.Relation mutable w
named (Naming.Constant mutable) w = Phase.Colon (Typing.Constant mutable w)
named Naming.Function w = Phase.Function w
named Naming.Transition w = Phase.Transition w

-- a name that is hidden is not taken
abbrev pub shown : List ℕ → Word → Phase → Option Phase
shown text w p = if is_hidden (bytes_at text w) then None else Some p

abbrev pub in_name : List ℕ → Naming → Word → Sign → Option Phase
in_name text g w Sign.Name = shown text w (named g w)
in_name text g w _ = None

abbrev pub after_relation : Bool → Word → Sign → Option Phase
after_relation mutable n Sign.LeftRound = Some (Phase.List (Listing.Relation mutable n) [])
after_relation mutable n _ = None

abbrev pub after_function : Word → Sign → Option Phase
after_function n Sign.LeftRound = Some (Phase.List (Listing.Function n) [])
after_function n _ = None

-- a word after a transition's parameters
abbrev pub after_params : Word → List Binder → Sign → Option Phase
after_params n bs (Sign.Keyword Keyword.Modifies) = Some (Phase.List (Listing.Modified n bs) [])
after_params n bs Sign.Colon = Some (formula_of (Owner.Transition (record { name = n; params = bs; modifies = [] })))
after_params n bs _ = None

abbrev pub after_transition : Word → Sign → Option Phase
after_transition n Sign.LeftRound = Some (Phase.Params n [] Stage.Variable)
after_transition n sign = after_params n [] sign

-- a word in a list of parameters
abbrev pub in_params : List ℕ → Word → List Binder → Stage → Word → Sign → Option Phase
in_params text n bs Stage.Variable w Sign.Name = shown text w (Phase.Params n bs (Stage.Colon w))
in_params text n bs (Stage.Colon v) w Sign.Colon = Some (Phase.Params n bs (Stage.Sort v))
in_params text n bs (Stage.Sort v) w Sign.Name = Some (Phase.Params n (bs ++ record { name = v; sort = w } ∷ []) Stage.Next)
in_params text n bs Stage.Next w Sign.Comma = Some (Phase.Params n bs Stage.Variable)
in_params text n bs Stage.Next w Sign.RightRound = Some (Phase.Heading n bs)
in_params text n bs _ w _ = None

abbrev pub in_list : Listing → List Word → Word → Sign → Option Phase
in_list l ns w Sign.Name = Some (Phase.Listed l (ns ++ w ∷ []))
in_list l ns w _ = None

-- a word after a name of a list
abbrev pub after_item : Listing → List Word → Sign → Option Phase
after_item l ns Sign.Comma = Some (Phase.List l ns)
after_item (Listing.Relation mutable n) ns Sign.RightRound = Some (Phase.End (Declaration.Relation mutable n ns))
after_item (Listing.Function n) ns Sign.RightRound = Some (Phase.Colon (Typing.Function n ns))
after_item (Listing.Modified n bs) ns Sign.Colon = Some (formula_of (Owner.Transition (record { name = n; params = bs; modifies = ns })))
after_item _ ns _ = None

abbrev pub after_typing : Typing → Sign → Option Phase
after_typing t Sign.Colon = Some (Phase.Sort t)
after_typing t _ = None

-- what has the sort
abbrev pub typed : Typing → Word → Declaration
typed (Typing.Constant mutable n) s = Declaration.Constant mutable n s
typed (Typing.Function n ss) s = Declaration.Function n ss s

abbrev pub in_sort : Typing → Word → Sign → Option Phase
in_sort t w Sign.Name = Some (Phase.End (typed t w))
in_sort t w _ = None

-- a word of a formula
abbrev pub in_formula : Owner → formula.State → Word → Sign → Option Phase
in_formula o s w sign = option_map (Phase.Formula o) (machine.step_by s.last s.stack w sign)

-- how many variables are in scope in the formula
abbrev pub params_of : Owner → ℕ
params_of (Owner.Stated kind) = 0
params_of (Owner.Transition h) = length h.params

-- the declaration with its formula
abbrev pub owned : Owner → Tree → Declaration
owned (Owner.Stated kind) x = Declaration.Stated kind x
owned (Owner.Transition h) x = Declaration.Transition h x

-- what comes after a word that is no semicolon, if a declaration can go on with it
abbrev pub walk : List ℕ → Phase → Word → Sign → Option Phase
walk text Phase.Begin w sign = begin sign
walk text (Phase.Change mutable) w sign = changed mutable sign
walk text (Phase.Name g) w sign = in_name text g w sign
walk text (Phase.Relation mutable n) w sign = after_relation mutable n sign
walk text (Phase.Function n) w sign = after_function n sign
walk text (Phase.Transition n) w sign = after_transition n sign
walk text (Phase.Params n bs stage) w sign = in_params text n bs stage w sign
walk text (Phase.Heading n bs) w sign = after_params n bs sign
walk text (Phase.List l ns) w sign = in_list l ns w sign
walk text (Phase.Listed l ns) w sign = after_item l ns sign
walk text (Phase.Colon t) w sign = after_typing t sign
walk text (Phase.Sort t) w sign = in_sort t w sign
walk text (Phase.Formula o s) w sign = in_formula o s w sign
walk text (Phase.End d) w sign = None

-- the declaration that a semicolon ends
abbrev pub ended : Phase → Option Declaration
ended (Phase.End d) = Some d
ended (Phase.Relation mutable n) = Some (Declaration.Relation mutable n [])
ended (Phase.Formula o s) = option_map (owned o) (machine.finish s)
ended _ = None

-- the nestings of the canonical text of the formula that a semicolon ends, 0 of none
abbrev pub alone_of : Option Tree → ℕ
alone_of None = 0
alone_of (Some x) = (nestings_of x).alone

abbrev pub nests : Phase → ℕ
nests (Phase.Formula o s) = alone_of (machine.finish s)
nests _ = 0

-- the loads of a word that was read last and is no semicolon
abbrev pub loads_by : Sign → Phase → Loads
loads_by sign (Phase.Params n bs (Stage.Colon v)) = binding (length bs + 1)
loads_by sign (Phase.Formula o s) = machine.loads_by sign s.last (machine.context (with_params (params_of o)) s.stack) (machine.left_path s.stack)
loads_by sign _ = no_loads

abbrev pub loads_in : Phase → Word → Loads
loads_in p w = loads_by w.sign p

-- what a word does: the declaration that it ends, what comes after it, and its loads
pub record Next : Type 0 where
  pub whole : Option Declaration
  pub phase : Phase
  pub loads : Loads

abbrev pub closed : ℕ → Declaration → Next
closed n d = record { whole = Some d; phase = Phase.Begin; loads = opening n }

abbrev pub gone : Sign → Phase → Next
gone sign p = record { whole = None; phase = p; loads = loads_by sign p }

abbrev pub next_by : List ℕ → Phase → Word → Sign → Option Next
next_by text p w Sign.Semicolon = option_map (closed (nests p)) (ended p)
next_by text p w sign = option_map (gone sign) (walk text p w sign)

-- what a word does, if a declaration can go on with it
abbrev pub next : List ℕ → Phase → Word → Option Next
next text p w = next_by text p w w.sign

-- the declarations before, and how far the next one was read
pub record State : Type 0 where
  pub done : List Declaration
  pub phase : Phase

abbrev pub joined : List Declaration → Option Declaration → List Declaration
joined ds None = ds
joined ds (Some d) = ds ++ d ∷ []

abbrev pub after : State → Next → State
after s n = record { done = joined s.done n.whole; phase = n.phase }

abbrev pub start : State
start = record { done = []; phase = Phase.Begin }

-- the declarations, where the words may end
abbrev pub finish_by : Phase → List Declaration → Option (List Declaration)
finish_by Phase.Begin ds = Some ds
finish_by _ ds = None

abbrev pub finish : State → Option (List Declaration)
finish s = finish_by s.phase s.done
