-- What the names of a formula stand for, and which rules on names and sorts it breaks, in text order.
use Rattle.std.specs.Prelude.{ℕ, Bool, true, false, ◌&&◌, ◌||◌, not, ◌==◌, List, [], ◌∷◌, ◌++◌, length, map, take, drop, Option, Some, None, slice_get, if◌then◌else◌}
use Rattle.std.specs.List.{list_any, position, flat_map}
use Rattle.std.specs.Str.{bytes_eq}
use Rattle.sw_logic.specs.declared.syntax.SymbolKind.{SymbolKind}
use Rattle.sw_logic.specs.declared.syntax.Symbol.{Symbol}
use Rattle.sw_logic.specs.declared.syntax.Signature.{Signature}
use Rattle.sw_logic.specs.declared.syntax.Binder as logic
use Rattle.sw_logic.specs.declared.syntax.Term.{Term}
use Rattle.sw_logic.specs.declared.syntax.Term.TheVariants as term
use Rattle.sw_logic.specs.declared.syntax.Formula.{Formula}
use Rattle.sw_logic.specs.declared.syntax.Formula.TheVariants as formula
use Rattle.sw_trees.specs.declared.words.Word.{Word}
use Rattle.sw_trees.specs.declared.tree.Binder.{Binder}
use Rattle.sw_trees.specs.declared.tree.TermTree.{TermTree, out-TermTree}
use Rattle.sw_trees.specs.declared.tree.TermTree.TheOpen.{TermTree-F}
use Rattle.sw_trees.specs.declared.tree.TermTree.TheFolds.{fold-TermTree}
use Rattle.sw_trees.specs.declared.tree.Tree.{Tree}
use Rattle.sw_trees.specs.declared.tree.Tree.TheOpen.{Tree-F}
use Rattle.sw_trees.specs.declared.tree.Tree.TheFolds.{fold-Tree}
use Rattle.sw_text.specs.declared.names.Place.{Place}
use Rattle.sw_text.specs.declared.names.Rule.{Rule}
use Rattle.sw_text.specs.declared.names.Violation.{Violation}
use Rattle.sw_text.specs.declared.names.Wanted.{Wanted}
use Rattle.sw_text.specs.declared.names.Head.{Head}

-- what a formula's names are read by: the text, the symbols, further names that are declared, the place
pub record Around : Type 0 where
  pub text : List ℕ
  pub signature : Signature
  pub declared_too : List (List ℕ)
  pub place : Place

-- the variables in scope, outermost first
abbrev pub Scope : Type 0
Scope = List logic.Binder

abbrev pub bytes_at : List ℕ → Word → List ℕ
bytes_at text w = take w.token.len (drop w.token.at text)

abbrev pub sort_number : Around → List ℕ → Option ℕ
sort_number a name = position (bytes_eq name) a.signature.sorts

abbrev pub symbol_number : Around → List ℕ → Option ℕ
symbol_number a name = position (λ s. bytes_eq name s.name) a.signature.symbols

abbrev pub variable_number : Scope → List ℕ → Option ℕ
variable_number scope name = position (λ b. bytes_eq name b.name) scope

-- a sort, a symbol or another thing of this name is declared
abbrev pub is_declared : Around → List ℕ → Bool
is_declared a name =
    list_any (bytes_eq name) a.signature.sorts || (list_any (λ s. bytes_eq name s.name) a.signature.symbols || list_any (bytes_eq name) a.declared_too)

-- what a name is: a variable in scope, or else a symbol
abbrev pub head_by : Option ℕ → Option ℕ → Option Head
head_by (Some v) symbol = Some (Head.Variable v)
head_by None (Some k) = Some (Head.Symbol k)
head_by None None = None

abbrev pub head_of : Around → Scope → Word → Option Head
head_of a scope w = let name = bytes_at a.text w in head_by (variable_number scope name) (symbol_number a name)

-- the rules that hold of a list of tests, each with the rule that it breaks
abbrev pub broken : ℕ → List (Bool × Rule) → List Violation
broken at [] = []
broken at ((true, rule) ∷ rest) = record { rule = rule; at = at } ∷ broken at rest
broken at ((false, rule) ∷ rest) = broken at rest

abbrev pub is_axiom : Place → Bool
is_axiom Place.Axiom = true
is_axiom Place.OneState = false
is_axiom (Place.Step ks) = false

abbrev pub reads_post : Place → Bool
reads_post Place.Axiom = false
reads_post Place.OneState = false
reads_post (Place.Step ks) = true

-- the symbol is listed as modified
abbrev pub is_listed : Place → ℕ → Bool
is_listed Place.Axiom k = false
is_listed Place.OneState k = false
is_listed (Place.Step ks) k = list_any (λ j. j == k) ks

abbrev pub is_relation : SymbolKind → Bool
is_relation SymbolKind.Relation = true
is_relation SymbolKind.Constant = false
is_relation SymbolKind.Function = false

-- a value of this sort does not stand where this is wanted
abbrev pub value_mismatch : Wanted → ℕ → Bool
value_mismatch Wanted.Atom sort = true
value_mismatch Wanted.Value sort = false
value_mismatch (Wanted.Sort s) sort = not (sort == s)

abbrev pub relation_mismatch : Wanted → Bool
relation_mismatch Wanted.Atom = false
relation_mismatch Wanted.Value = true
relation_mismatch (Wanted.Sort s) = true

abbrev pub mismatch : Wanted → SymbolKind → ℕ → Bool
mismatch wanted kind gives = if is_relation kind then relation_mismatch wanted else value_mismatch wanted gives

-- the rules that a variable breaks, in order, by its sort
abbrev pub variable_tests : Option logic.Binder → Bool → ℕ → Wanted → List (Bool × Rule)
variable_tests None primed count wanted = []
variable_tests (Some b) primed count wanted =
    (primed, Rule.PostState) ∷ (not (count == 0), Rule.Arity) ∷ (value_mismatch wanted b.sort, Rule.SortMismatch) ∷ []

-- the rules that a symbol breaks, in order
abbrev pub symbol_tests : Place → ℕ → Option Symbol → Bool → ℕ → Wanted → List (Bool × Rule)
symbol_tests place k None primed count wanted = []
symbol_tests place k (Some s) primed count wanted =
    (is_axiom place && s.mutable, Rule.AxiomMutable)
    ∷ (primed && not (reads_post place && s.mutable), Rule.PostState)
    ∷ (primed && not (is_listed place k), Rule.NotModified)
    ∷ (not (count == length s.args), Rule.Arity)
    ∷ (mismatch wanted s.kind s.gives, Rule.SortMismatch)
    ∷ []

abbrev pub head_tests : Around → Scope → Option Head → Bool → ℕ → Wanted → List (Bool × Rule)
head_tests a scope None primed count wanted = (true, Rule.Unknown) ∷ []
head_tests a scope (Some (Head.Variable v)) primed count wanted = variable_tests (slice_get scope v) primed count wanted
head_tests a scope (Some (Head.Symbol k)) primed count wanted = symbol_tests a.place k (slice_get a.signature.symbols k) primed count wanted

-- what the name before so many arguments breaks, where this is wanted
abbrev pub head_faults : Around → Scope → Word → Bool → ℕ → Wanted → List Violation
head_faults a scope w primed count wanted = broken w.token.at (head_tests a scope (head_of a scope w) primed count wanted)

-- the sorts of the arguments of what the name is
abbrev pub symbol_sorts : Option Symbol → List ℕ
symbol_sorts None = []
symbol_sorts (Some s) = s.args

abbrev pub head_sorts : Around → Option Head → List ℕ
head_sorts a None = []
head_sorts a (Some (Head.Variable v)) = []
head_sorts a (Some (Head.Symbol k)) = symbol_sorts (slice_get a.signature.symbols k)

-- what an argument wants: the next sort, or any value where there is none
abbrev pub next_wanted : List ℕ → Wanted
next_wanted [] = Wanted.Value
next_wanted (s ∷ ss) = Wanted.Sort s

abbrev pub args_faults : List (Wanted → List Violation) → List ℕ → List Violation
args_faults [] sorts = []
args_faults (f ∷ fs) sorts = f (next_wanted sorts) ++ args_faults fs (drop 1 sorts)

abbrev pub term_faults_step : Around → Scope → TermTree-F (Wanted → List Violation) → Wanted → List Violation
term_faults_step a scope (TermTree-F.Named w primed) wanted = head_faults a scope w primed 0 wanted
term_faults_step a scope (TermTree-F.Applied w primed args) wanted =
    head_faults a scope w primed (length args) wanted ++ args_faults args (head_sorts a (head_of a scope w))

-- what a term breaks, in text order
abbrev pub term_faults : Around → Scope → TermTree → Wanted → List Violation
term_faults a scope = fold-TermTree (Wanted → List Violation) (term_faults_step a scope)

-- a term of a name and arguments
abbrev pub term_by : Option Head → Bool → List Term → Term
term_by None primed args = term.Variable 0
term_by (Some (Head.Variable v)) primed args = term.Variable v
term_by (Some (Head.Symbol k)) primed args = term.Apply k primed args

abbrev pub term_read_step : Around → Scope → TermTree-F Term → Term
term_read_step a scope (TermTree-F.Named w primed) = term_by (head_of a scope w) primed []
term_read_step a scope (TermTree-F.Applied w primed args) = term_by (head_of a scope w) primed args

-- the term that a tree is
abbrev pub term_read : Around → Scope → TermTree → Term
term_read a scope = fold-TermTree Term (term_read_step a scope)

-- the sort that a right side wants: that of the left side's first name
abbrev pub symbol_gives : Option Symbol → Wanted
symbol_gives None = Wanted.Value
symbol_gives (Some s) = Wanted.Sort s.gives

abbrev pub variable_gives : Option logic.Binder → Wanted
variable_gives None = Wanted.Value
variable_gives (Some b) = Wanted.Sort b.sort

abbrev pub head_gives : Around → Scope → Option Head → Wanted
head_gives a scope None = Wanted.Value
head_gives a scope (Some (Head.Variable v)) = variable_gives (slice_get scope v)
head_gives a scope (Some (Head.Symbol k)) = symbol_gives (slice_get a.signature.symbols k)

-- the first name of a term
abbrev pub first_word_by : TermTree-F TermTree → Word
first_word_by (TermTree-F.Named w primed) = w
first_word_by (TermTree-F.Applied w primed args) = w

abbrev pub first_word : TermTree → Word
first_word t = first_word_by (out-TermTree t)

abbrev pub right_wanted : Around → Scope → TermTree → Wanted
right_wanted a scope t = head_gives a scope (head_of a scope (first_word t))

-- what a binder breaks: its name, then its sort
abbrev pub is_none : Option ℕ → Bool
is_none None = true
is_none (Some k) = false

abbrev pub is_some_number : Option ℕ → Bool
is_some_number None = false
is_some_number (Some k) = true

abbrev pub binder_faults : Around → Scope → Binder → List Violation
binder_faults a scope b =
    let name = bytes_at a.text b.name in
    broken b.name.token.at ((is_declared a name || is_some_number (variable_number scope name), Rule.Twice) ∷ [])
    ++ broken b.sort.token.at ((is_none (sort_number a (bytes_at a.text b.sort)), Rule.Unknown) ∷ [])

abbrev pub number_or_0 : Option ℕ → ℕ
number_or_0 None = 0
number_or_0 (Some k) = k

-- the variable that a binder brings into scope
abbrev pub bound : Around → Binder → logic.Binder
bound a b = record { name = bytes_at a.text b.name; sort = number_or_0 (sort_number a (bytes_at a.text b.sort)) }

abbrev pub binders_faults : Around → Scope → List Binder → List Violation
binders_faults a scope [] = []
binders_faults a scope (b ∷ bs) = binder_faults a scope b ++ binders_faults a (scope ++ bound a b ∷ []) bs

abbrev pub faults_step : Around → Tree-F (Scope → List Violation) → Scope → List Violation
faults_step a (Tree-F.Constant value) scope = []
faults_step a (Tree-F.Atom t) scope = term_faults a scope t Wanted.Atom
faults_step a (Tree-F.Equal t u) scope = term_faults a scope t Wanted.Value ++ term_faults a scope u (right_wanted a scope t)
faults_step a (Tree-F.Not p) scope = p scope
faults_step a (Tree-F.All ps) scope = flat_map (λ p. p scope) ps
faults_step a (Tree-F.Any ps) scope = flat_map (λ p. p scope) ps
faults_step a (Tree-F.Implies p q) scope = p scope ++ q scope
faults_step a (Tree-F.Iff p q) scope = p scope ++ q scope
faults_step a (Tree-F.Quantified u bs p) scope = binders_faults a scope bs ++ p (scope ++ map (bound a) bs)

-- all rules on names and sorts that a formula breaks, in text order
abbrev pub faults : Around → Tree → Scope → List Violation
faults a = fold-Tree (Scope → List Violation) (faults_step a)

-- an atom of a name and arguments
abbrev pub atom_by : Option Head → Bool → List Term → Formula
atom_by None primed args = formula.True
atom_by (Some (Head.Variable v)) primed args = formula.True
atom_by (Some (Head.Symbol k)) primed args = formula.Holds k primed args

abbrev pub atom_read_by : Around → Scope → TermTree-F TermTree → Formula
atom_read_by a scope (TermTree-F.Named w primed) = atom_by (head_of a scope w) primed []
atom_read_by a scope (TermTree-F.Applied w primed args) = atom_by (head_of a scope w) primed (map (term_read a scope) args)

-- the atom that a tree is
abbrev pub atom_read : Around → Scope → TermTree → Formula
atom_read a scope t = atom_read_by a scope (out-TermTree t)

abbrev pub quantified : Bool → List logic.Binder → Formula → Formula
quantified true bs p = formula.ForAll bs p
quantified false bs p = formula.Exists bs p

abbrev pub read_step : Around → Tree-F (Scope → Formula) → Scope → Formula
read_step a (Tree-F.Constant true) scope = formula.True
read_step a (Tree-F.Constant false) scope = formula.False
read_step a (Tree-F.Atom t) scope = atom_read a scope t
read_step a (Tree-F.Equal t u) scope = formula.Equal (term_read a scope t) (term_read a scope u)
read_step a (Tree-F.Not p) scope = formula.Not (p scope)
read_step a (Tree-F.All ps) scope = formula.All (map (λ p. p scope) ps)
read_step a (Tree-F.Any ps) scope = formula.Any (map (λ p. p scope) ps)
read_step a (Tree-F.Implies p q) scope = formula.Implies (p scope) (q scope)
read_step a (Tree-F.Iff p q) scope = formula.Iff (p scope) (q scope)
read_step a (Tree-F.Quantified u bs p) scope = let vs = map (bound a) bs in quantified u vs (p (scope ++ vs))

-- the formula that a tree is, where it breaks no rule
abbrev pub formula_read : Around → Tree → Scope → Formula
formula_read a = fold-Tree (Scope → Formula) (read_step a)
