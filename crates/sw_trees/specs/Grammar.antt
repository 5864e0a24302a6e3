-- The texts that are formulas, and the formula that each of them is.
use Rattle.std.specs.Prelude.{◌≡◌, ℕ, ◌+◌, Bool, false, true, List, [], ◌∷◌, ◌++◌, length}
use Rattle.sw_trees.specs.declared.words.Sign.{Sign}
use Rattle.sw_trees.specs.declared.words.Word.{Word}
use Rattle.sw_trees.specs.declared.tree.Binder.{Binder}
use Rattle.sw_trees.specs.declared.tree.TermTree.{TermTree}
use Rattle.sw_trees.specs.declared.tree.TermTree.TheVariants as term
use Rattle.sw_trees.specs.declared.tree.Tree.{Tree}
use Rattle.sw_trees.specs.declared.tree.Tree.TheVariants as tree
use Rattle.sw_trees.specs.Measures.{longest_path}

-- What a word counts against a limit: the nestings open once it has opened one, the <-> on the longest
-- path that it completes, the variables in scope with the one that it names. Each is 0 where it does not.
pub record Loads : Type 0 where
  pub nestings : ℕ
  pub path : ℕ
  pub variables : ℕ

-- a word with its loads
pub record Mark : Type 0 where
  pub word : Word
  pub loads : Loads

abbrev pub no_loads : Loads
no_loads = record { nestings = 0; path = 0; variables = 0 }

abbrev pub opening : ℕ → Loads
opening n = record { nestings = n; path = 0; variables = 0 }

abbrev pub joining : ℕ → ℕ → Loads
joining n path = record { nestings = n; path = path; variables = 0 }

abbrev pub binding : ℕ → Loads
binding variables = record { nestings = 0; path = 0; variables = variables }

-- the mark is of a word of this sign, with these loads
pub record Is (sign : Sign) (loads : Loads) (m : Mark) : Type 0 where
  pub sign_is : m.word.sign ≡ sign
  pub loads_are : m.loads ≡ loads

-- what is open around a text: nestings, <-> to its left, variables in scope
pub record Context : Type 0 where
  pub nestings : ℕ
  pub iffs : ℕ
  pub variables : ℕ

abbrev pub deeper : Context → Context
deeper c = record { nestings = c.nestings + 1; iffs = c.iffs; variables = c.variables }

-- on the right side of a <->
abbrev pub beside : Context → Context
beside c = record { nestings = c.nestings + 1; iffs = c.iffs + 1; variables = c.variables }

-- in the body of a quantifier that binds so many variables
abbrev pub inside : ℕ → Context → Context
inside n c = record { nestings = c.nestings + 1; iffs = c.iffs; variables = c.variables + n }

-- a run of & is one All of its parts, and a run of | one Any; a run of one part is that part
abbrev pub all_of : List Tree → Tree
all_of [] = tree.All []
all_of (x ∷ []) = x
all_of (x ∷ y ∷ xs) = tree.All (x ∷ y ∷ xs)

abbrev pub any_of : List Tree → Tree
any_of [] = tree.Any []
any_of (x ∷ []) = x
any_of (x ∷ y ∷ xs) = tree.Any (x ∷ y ∷ xs)

-- How a text ends: in no quantifier's body; in bodies that each have a <-> of their own, and so can't take
-- another; or in bodies of which one has none. An operator belongs to the innermost body that can take it.
pub data End : Type 0 where
  Closed : End
  Full : End
  Open : End

-- the end of a quantifier with this body, which has a <-> or has none
abbrev pub end_of : Bool → End → End
end_of true Closed = Full
end_of true Full = Full
end_of true Open = Open
end_of false e = Open

-- a <-> may follow
abbrev pub TakesIff : End → Type 0
TakesIff Closed = Unit {0}
TakesIff Full = Unit {0}
TakesIff Open = ⊥

abbrev pub quantifier : Bool → Sign
quantifier true = Sign.ForAll
quantifier false = Sign.Exists

abbrev pub constant : Bool → Sign
constant true = Sign.True
constant false = Sign.False

abbrev pub equality : Bool → Sign
equality true = Sign.NotEqual
equality false = Sign.Equal

-- an equation, or where `negated` its negation
abbrev pub equation : TermTree → Bool → TermTree → Tree
equation t true u = tree.Not (tree.Equal t u)
equation t false u = tree.Equal t u

-- In what follows the first marks spell the term, the binders or the formula, and the last marks follow.

-- name [ "'" ]
pub data IsHead : List Mark → Word → Bool → List Mark → Type 0 where
  plain : (n : Mark) {rest : List Mark} → Is Sign.Name no_loads n → IsHead (n ∷ rest) n.word false rest
  primed : (n p : Mark) {rest : List Mark} → Is Sign.Name no_loads n → Is Sign.Prime no_loads p → IsHead (n ∷ p ∷ rest) n.word true rest

mutual
  -- term = name [ "'" ] [ "(" term { "," term } ")" ], where so many nestings are open
  pub data IsTerm : ℕ → List Mark → TermTree → List Mark → Type 0 where
    bare : {d : ℕ} {ms rest : List Mark} {w : Word} {primed : Bool} → IsHead ms w primed rest → IsTerm d ms (term.Named w primed) rest
    applied : {d : ℕ} {ms us rest : List Mark} {w : Word} {primed : Bool} {ts : List TermTree} (l r : Mark) → IsHead ms w primed (l ∷ us) → Is Sign.LeftRound (opening (d + 1)) l → AreTerms (d + 1) us ts (r ∷ rest) → Is Sign.RightRound no_loads r → IsTerm d ms (term.Applied w primed ts) rest

  pub data AreTerms : ℕ → List Mark → List TermTree → List Mark → Type 0 where
    one_term : {d : ℕ} {ms rest : List Mark} {t : TermTree} → IsTerm d ms t rest → AreTerms d ms (t ∷ []) rest
    more_terms : {d : ℕ} {ms us rest : List Mark} {ts : List TermTree} {u : TermTree} (m : Mark) → AreTerms d ms ts (m ∷ us) → Is Sign.Comma no_loads m → IsTerm d us u rest → AreTerms d ms (ts ++ u ∷ []) rest

-- name ":" name, where so many variables are in scope
pub data IsBinder : ℕ → List Mark → Binder → List Mark → Type 0 where
  binder : {v : ℕ} {rest : List Mark} (n c s : Mark) → Is Sign.Name (binding (v + 1)) n → Is Sign.Colon no_loads c → Is Sign.Name no_loads s → IsBinder v (n ∷ c ∷ s ∷ rest) (record { name = n.word; sort = s.word }) rest

-- binders = name ":" name { "," name ":" name }
pub data AreBinders : ℕ → List Mark → List Binder → List Mark → Type 0 where
  one_binder : {v : ℕ} {ms rest : List Mark} {b : Binder} → IsBinder v ms b rest → AreBinders v ms (b ∷ []) rest
  more_binders : {v : ℕ} {ms us rest : List Mark} {bs : List Binder} {b : Binder} (m : Mark) → AreBinders v ms bs (m ∷ us) → Is Sign.Comma no_loads m → IsBinder (v + length bs) us b rest → AreBinders v ms (bs ++ b ∷ []) rest

-- atom = term [ ( "=" | "!=" ) term ]
pub data IsAtom : ℕ → List Mark → Tree → List Mark → Type 0 where
  holds : {d : ℕ} {ms rest : List Mark} {t : TermTree} → IsTerm d ms t rest → IsAtom d ms (tree.Atom t) rest
  compared : {d : ℕ} {ms us rest : List Mark} {t u : TermTree} (negated : Bool) (m : Mark) → IsTerm d ms t (m ∷ us) → Is (equality negated) no_loads m → IsTerm d us u rest → IsAtom d ms (equation t negated u) rest

mutual
  -- single = "!" single | "true" | "false" | "(" formula ")" | atom | ( "forall" | "exists" ) binders "." formula
  pub data IsSingle : Context → End → List Mark → Tree → List Mark → Type 0 where
    negated : {c : Context} {e : End} {ms rest : List Mark} {x : Tree} (n : Mark) → Is Sign.Not (opening (c.nestings + 1)) n → IsSingle (deeper c) e ms x rest → IsSingle c e (n ∷ ms) (tree.Not x) rest
    fixed : {c : Context} {rest : List Mark} (value : Bool) (m : Mark) → Is (constant value) no_loads m → IsSingle c Closed (m ∷ rest) (tree.Constant value) rest
    bracketed : {c : Context} {e : End} {i : Bool} {ms rest : List Mark} {x : Tree} (l r : Mark) → Is Sign.LeftRound (opening (c.nestings + 1)) l → IsFormula (deeper c) e i ms x (r ∷ rest) → Is Sign.RightRound no_loads r → IsSingle c Closed (l ∷ ms) x rest
    atom : {c : Context} {ms rest : List Mark} {x : Tree} → IsAtom c.nestings ms x rest → IsSingle c Closed ms x rest
    quantified : {c : Context} {e : End} {i : Bool} {ms us rest : List Mark} {bs : List Binder} {x : Tree} (universal : Bool) (q m : Mark) → Is (quantifier universal) (opening (c.nestings + 1)) q → AreBinders c.variables ms bs (m ∷ us) → Is Sign.Dot no_loads m → IsFormula (inside (length bs) c) e i us x rest → IsSingle c (end_of i e) (q ∷ ms) (tree.Quantified universal bs x) rest

  -- both = single { "&" single }
  pub data AreSingles : Context → End → List Mark → List Tree → List Mark → Type 0 where
    one_single : {c : Context} {e : End} {ms rest : List Mark} {x : Tree} → IsSingle c e ms x rest → AreSingles c e ms (x ∷ []) rest
    more_singles : {c : Context} {e : End} {ms us rest : List Mark} {xs : List Tree} {y : Tree} (m : Mark) → AreSingles c Closed ms xs (m ∷ us) → Is Sign.And no_loads m → IsSingle c e us y rest → AreSingles c e ms (xs ++ y ∷ []) rest

  -- either = both { "|" both }
  pub data AreBoths : Context → End → List Mark → List Tree → List Mark → Type 0 where
    one_both : {c : Context} {e : End} {ms rest : List Mark} {xs : List Tree} → AreSingles c e ms xs rest → AreBoths c e ms (all_of xs ∷ []) rest
    more_boths : {c : Context} {e : End} {ms us rest : List Mark} {xs ys : List Tree} (m : Mark) → AreBoths c Closed ms xs (m ∷ us) → Is Sign.Or no_loads m → AreSingles c e us ys rest → AreBoths c e ms (xs ++ all_of ys ∷ []) rest

  -- implied = either [ "->" implied ]
  pub data IsImplied : Context → End → List Mark → Tree → List Mark → Type 0 where
    last_implied : {c : Context} {e : End} {ms rest : List Mark} {xs : List Tree} → AreBoths c e ms xs rest → IsImplied c e ms (any_of xs) rest
    more_implied : {c : Context} {e : End} {ms us rest : List Mark} {xs : List Tree} {y : Tree} (m : Mark) → AreBoths c Closed ms xs (m ∷ us) → Is Sign.Arrow (opening (c.nestings + 1)) m → IsImplied (deeper c) e us y rest → IsImplied c e ms (tree.Implies (any_of xs) y) rest

  -- formula = implied [ "<->" implied ], and whether it has the <->
  pub data IsFormula : Context → End → Bool → List Mark → Tree → List Mark → Type 0 where
    implied : {c : Context} {e : End} {ms rest : List Mark} {x : Tree} → IsImplied c e ms x rest → IsFormula c e false ms x rest
    joined : {c : Context} {e f : End} {ms us rest : List Mark} {x y : Tree} (m : Mark) → IsImplied c f ms x (m ∷ us) → TakesIff f → Is Sign.DoubleArrow (joining (c.nestings + 1) (c.iffs + 1 + longest_path x)) m → IsImplied (beside c) e us y rest → IsFormula c e true ms (tree.Iff x y) rest
