-- The texts that are protocols, and the declarations of each of them.
use Rattle.std.specs.Prelude.{◌≡◌, ◌==◌, ℕ, ◌+◌, Bool, false, true, List, [], ◌∷◌, ◌++◌, length}
use Rattle.sw_trees.specs.declared.words.Keyword.{Keyword}
use Rattle.sw_trees.specs.declared.words.Sign.{Sign}
use Rattle.sw_trees.specs.declared.words.Word.{Word}
use Rattle.sw_trees.specs.declared.tree.Binder.{Binder}
use Rattle.sw_trees.specs.declared.tree.Tree.{Tree}
use Rattle.sw_trees.specs.Measures.{nestings_of}
use Rattle.sw_trees.specs.Grammar.{Loads, no_loads, opening, binding, Mark, Is, Context, End, IsFormula}
use Rattle.sw_text.specs.Names.{bytes_at}
use Rattle.sw_protocol.specs.declared.tree.Statement.{Statement}
use Rattle.sw_protocol.specs.declared.tree.Heading.{Heading}
use Rattle.sw_protocol.specs.declared.tree.Declaration.{Declaration}
use Rattle.sw_protocol.specs.declared.tree.Declaration.TheVariants as declaration

-- the name begins with an underscore
abbrev pub is_hidden : List ℕ → Bool
is_hidden [] = false
is_hidden (b ∷ bs) = b == 95

-- a name that may be declared: it does not begin with an underscore
pub record IsNew (text : List ℕ) (loads : Loads) (m : Mark) : Type 0 where
  pub name : Is Sign.Name loads m
  pub shown : is_hidden (bytes_at text m.word) ≡ false

abbrev pub change : Bool → Keyword
change true = Keyword.Mutable
change false = Keyword.Immutable

abbrev pub statement : Statement → Keyword
statement Statement.Axiom = Keyword.Axiom
statement Statement.Init = Keyword.Init
statement Statement.Safety = Keyword.Safety

-- the mark is of this keyword
abbrev pub IsKeyword : Keyword → Mark → Type 0
IsKeyword k m = Is (Sign.Keyword k) no_loads m

-- the mark is of a semicolon that ends no formula; or of one that ends this formula, and counts the
-- nestings of its canonical text
abbrev pub IsEnd : Mark → Type 0
IsEnd m = Is Sign.Semicolon no_loads m

abbrev pub EndsFormula : Tree → Mark → Type 0
EndsFormula x m = Is Sign.Semicolon (opening (nestings_of x).alone) m

-- nothing is open around a formula, and so many variables are in scope
abbrev pub with_params : ℕ → Context
with_params n = record { nestings = 0; iffs = 0; variables = n }

-- In what follows the first marks spell the names, the parameters or the declaration, and the last marks follow.

-- name { "," name }
pub data AreNames : List Mark → List Word → List Mark → Type 0 where
  one_name : {rest : List Mark} (n : Mark) → Is Sign.Name no_loads n → AreNames (n ∷ rest) (n.word ∷ []) rest
  more_names : {ms rest : List Mark} {ns : List Word} (m n : Mark) → AreNames ms ns (m ∷ n ∷ rest) → Is Sign.Comma no_loads m → Is Sign.Name no_loads n → AreNames ms (ns ++ n.word ∷ []) rest

-- "(" name { "," name } ")"
pub data AreBracketed : List Mark → List Word → List Mark → Type 0 where
  bracketed : {ms rest : List Mark} {ns : List Word} (l r : Mark) → Is Sign.LeftRound no_loads l → AreNames ms ns (r ∷ rest) → Is Sign.RightRound no_loads r → AreBracketed (l ∷ ms) ns rest

-- [ "(" name { "," name } ")" ]
pub data AreSorts : List Mark → List Word → List Mark → Type 0 where
  no_sorts : {rest : List Mark} → AreSorts rest [] rest
  some_sorts : {ms rest : List Mark} {ns : List Word} → AreBracketed ms ns rest → AreSorts ms ns rest

-- name ":" name of a parameter, where so many stand before it
pub data IsParam (text : List ℕ) : ℕ → List Mark → Binder → List Mark → Type 0 where
  param : {v : ℕ} {rest : List Mark} (n c s : Mark) → IsNew text (binding (v + 1)) n → Is Sign.Colon no_loads c → Is Sign.Name no_loads s → IsParam text v (n ∷ c ∷ s ∷ rest) (record { name = n.word; sort = s.word }) rest

-- name ":" name { "," name ":" name }
pub data AreParams (text : List ℕ) : List Mark → List Binder → List Mark → Type 0 where
  one_param : {ms rest : List Mark} {b : Binder} → IsParam text 0 ms b rest → AreParams text ms (b ∷ []) rest
  more_params : {ms us rest : List Mark} {bs : List Binder} {b : Binder} (m : Mark) → AreParams text ms bs (m ∷ us) → Is Sign.Comma no_loads m → IsParam text (length bs) us b rest → AreParams text ms (bs ++ b ∷ []) rest

-- [ "(" binders ")" ]
pub data MayTake (text : List ℕ) : List Mark → List Binder → List Mark → Type 0 where
  no_params : {rest : List Mark} → MayTake text rest [] rest
  some_params : {ms rest : List Mark} {bs : List Binder} (l r : Mark) → Is Sign.LeftRound no_loads l → AreParams text ms bs (r ∷ rest) → Is Sign.RightRound no_loads r → MayTake text (l ∷ ms) bs rest

-- [ "modifies" name { "," name } ]
pub data MayModify : List Mark → List Word → List Mark → Type 0 where
  modifies_none : {rest : List Mark} → MayModify rest [] rest
  modifies : {ms rest : List Mark} {ns : List Word} (k : Mark) → IsKeyword Keyword.Modifies k → AreNames ms ns rest → MayModify (k ∷ ms) ns rest

-- name [ "(" binders ")" ] [ "modifies" name { "," name } ] ":"
pub data IsHeading (text : List ℕ) : List Mark → Heading → List Mark → Type 0 where
  heading : {ms us rest : List Mark} {bs : List Binder} {ns : List Word} (n c : Mark) → IsNew text no_loads n → MayTake text ms bs us → MayModify us ns (c ∷ rest) → Is Sign.Colon no_loads c
      → IsHeading text (n ∷ ms) (record { name = n.word; params = bs; modifies = ns }) rest

-- one declaration, with its semicolon
pub data IsDeclaration (text : List ℕ) : List Mark → Declaration → List Mark → Type 0 where
  sort : {rest : List Mark} (k n e : Mark) → IsKeyword Keyword.Sort k → IsNew text no_loads n → IsEnd e → IsDeclaration text (k ∷ n ∷ e ∷ rest) (declaration.Sort n.word) rest
  relation : {ms rest : List Mark} {ss : List Word} (mutable : Bool) (c k n e : Mark) → IsKeyword (change mutable) c → IsKeyword Keyword.Relation k → IsNew text no_loads n → AreSorts ms ss (e ∷ rest) → IsEnd e
      → IsDeclaration text (c ∷ k ∷ n ∷ ms) (declaration.Relation mutable n.word ss) rest
  constant : {rest : List Mark} (mutable : Bool) (c k n d s e : Mark) → IsKeyword (change mutable) c → IsKeyword Keyword.Constant k → IsNew text no_loads n → Is Sign.Colon no_loads d → Is Sign.Name no_loads s → IsEnd e
      → IsDeclaration text (c ∷ k ∷ n ∷ d ∷ s ∷ e ∷ rest) (declaration.Constant mutable n.word s.word) rest
  function : {ms rest : List Mark} {ss : List Word} (c k n d s e : Mark) → IsKeyword Keyword.Immutable c → IsKeyword Keyword.Function k → IsNew text no_loads n → AreBracketed ms ss (d ∷ s ∷ e ∷ rest) → Is Sign.Colon no_loads d → Is Sign.Name no_loads s → IsEnd e
      → IsDeclaration text (c ∷ k ∷ n ∷ ms) (declaration.Function n.word ss s.word) rest
  stated : {ms rest : List Mark} {end_is : End} {has_iff : Bool} {x : Tree} (kind : Statement) (k e : Mark) → IsKeyword (statement kind) k → IsFormula (with_params 0) end_is has_iff ms x (e ∷ rest) → EndsFormula x e
      → IsDeclaration text (k ∷ ms) (declaration.Stated kind x) rest
  transition : {ms us rest : List Mark} {end_is : End} {has_iff : Bool} {h : Heading} {x : Tree} (k e : Mark) → IsKeyword Keyword.Transition k → IsHeading text ms h us → IsFormula (with_params (length h.params)) end_is has_iff us x (e ∷ rest) → EndsFormula x e
      → IsDeclaration text (k ∷ ms) (declaration.Transition h x) rest

-- protocol = { decl }
pub data AreDeclarations (text : List ℕ) : List Mark → List Declaration → Type 0 where
  none : AreDeclarations text [] []
  more : {ms rest : List Mark} {d : Declaration} {ds : List Declaration} → IsDeclaration text ms d rest → AreDeclarations text rest ds → AreDeclarations text ms (d ∷ ds)
