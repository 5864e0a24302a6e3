-- What declarations make of a protocol, and which rules on names and sorts they break, in text order.
use Rattle.std.specs.Prelude.{◌≡◌, ℕ, Bool, true, false, not, List, [], ◌∷◌, ◌++◌, length, map, Option, Some, None, slice_get}
use Rattle.std.specs.List.{list_any, flat_map}
use Rattle.std.specs.Str.{bytes_eq}
use Rattle.sw_logic.specs.declared.syntax.SymbolKind.{SymbolKind}
use Rattle.sw_logic.specs.declared.syntax.Symbol.{Symbol}
use Rattle.sw_logic.specs.declared.syntax.Formula.{Formula}
use Rattle.sw_logic.specs.declared.syntax.Binder as logic
use Rattle.sw_meaning.specs.declared.protocol.Protocol.{Protocol}
use Rattle.sw_meaning.specs.declared.protocol.Transition.{Transition}
use Rattle.sw_meaning.specs.declared.protocol.Decl.{Decl}
use Rattle.sw_trees.specs.declared.words.Word.{Word}
use Rattle.sw_trees.specs.declared.tree.Tree.{Tree}
use Rattle.sw_text.specs.declared.names.Place.{Place}
use Rattle.sw_text.specs.declared.names.Rule.{Rule}
use Rattle.sw_text.specs.declared.names.Violation.{Violation}
use Rattle.sw_text.specs.Names.{Around, bytes_at, sort_number, symbol_number, is_declared, is_none, number_or_0, broken, binders_faults, bound, faults, formula_read}
use Rattle.sw_protocol.specs.declared.tree.Statement.{Statement}
use Rattle.sw_protocol.specs.declared.tree.Heading.{Heading}
use Rattle.sw_protocol.specs.declared.tree.Declaration.{Declaration}
use Rattle.sw_protocol.specs.declared.draft.Item.{Item}
use Rattle.sw_protocol.specs.declared.draft.Item.TheVariants as item

abbrev pub empty_protocol : Protocol
empty_protocol = record { signature = record { sorts = []; symbols = [] }; axioms = []; inits = []; transitions = []; safeties = []; order = [] }

-- the names of the transitions
abbrev pub transition_names : List Transition → List (List ℕ)
transition_names ts = map (λ (t : Transition). t.name) ts

-- what names are read by after these declarations, outside of axioms and transitions
abbrev pub after : List ℕ → Protocol → Around
after text p = record { text = text; signature = p.signature; declared_too = transition_names p.transitions; place = Place.OneState }

-- the same with a further name declared
abbrev pub knowing : List ℕ → Around → Around
knowing name a = record { text = a.text; signature = a.signature; declared_too = a.declared_too ++ name ∷ []; place = a.place }

-- a declared name is declared before
abbrev pub name_faults : Around → Word → List Violation
name_faults a w = broken w.token.at ((is_declared a (bytes_at a.text w), Rule.Twice) ∷ [])

-- a name in a sort's place is no sort
abbrev pub sort_faults : Around → Word → List Violation
sort_faults a w = broken w.token.at ((is_none (sort_number a (bytes_at a.text w)), Rule.Unknown) ∷ [])

abbrev pub sorts_faults : Around → List Word → List Violation
sorts_faults a ws = flat_map (sort_faults a) ws

-- there is a symbol of this number, and it may not change
abbrev pub is_fixed : Option Symbol → Bool
is_fixed None = false
is_fixed (Some s) = not s.mutable

abbrev pub fixed_at : Around → ℕ → Bool
fixed_at a k = is_fixed (slice_get a.signature.symbols k)

abbrev pub fixed_by : Around → Option ℕ → Bool
fixed_by a None = false
fixed_by a (Some k) = fixed_at a k

abbrev pub is_among : List ℕ → List Word → List ℕ → Bool
is_among text ws name = list_any (λ w. bytes_eq name (bytes_at text w)) ws

-- a name after `modifies` stands there before, is no symbol, or is one that may not change
abbrev pub modified_tests : Around → List Word → List ℕ → Option ℕ → List (Bool × Rule)
modified_tests a before name symbol =
    (is_among a.text before name, Rule.Twice) ∷ (is_none symbol, Rule.Unknown) ∷ (fixed_by a symbol, Rule.PostState) ∷ []

abbrev pub one_modified_faults : Around → List Word → Word → List Violation
one_modified_faults a before w = let name = bytes_at a.text w in broken w.token.at (modified_tests a before name (symbol_number a name))

abbrev pub modified_faults : Around → List Word → List Word → List Violation
modified_faults a before [] = []
modified_faults a before (w ∷ ws) = one_modified_faults a before w ++ modified_faults a (before ++ w ∷ []) ws

abbrev pub sort_of : Around → Word → ℕ
sort_of a w = number_or_0 (sort_number a (bytes_at a.text w))

abbrev pub sorts_of : Around → List Word → List ℕ
sorts_of a ws = map (sort_of a) ws

abbrev pub symbol_of : Around → Word → ℕ
symbol_of a w = number_or_0 (symbol_number a (bytes_at a.text w))

abbrev pub symbols_of : Around → List Word → List ℕ
symbols_of a ws = map (symbol_of a) ws

abbrev pub place_of : Statement → Place
place_of Statement.Axiom = Place.Axiom
place_of Statement.Init = Place.OneState
place_of Statement.Safety = Place.OneState

-- the same where a formula stands elsewhere
abbrev pub standing : Place → Around → Around
standing place a = record { text = a.text; signature = a.signature; declared_too = a.declared_too; place = place }

abbrev pub params_of : Around → Heading → List logic.Binder
params_of a h = map (bound a) h.params

-- what the formula of a transition is read by
abbrev pub in_step : Around → Heading → Around
in_step a h = standing (Place.Step (symbols_of a h.modifies)) a

-- what the parameters, the modified symbols and the formula of a transition break, whose own name is declared
abbrev pub named_faults : Around → Heading → Tree → List Violation
named_faults a h x = binders_faults a [] h.params ++ (modified_faults a [] h.modifies ++ faults (in_step a h) x (params_of a h))

abbrev pub named_transition : Around → Heading → Tree → Transition
named_transition a h x = record { name = bytes_at a.text h.name; params = params_of a h; modifies = symbols_of a h.modifies; formula = formula_read (in_step a h) x (params_of a h) }

-- what a transition's formula and parameters are read by: its own name is declared before them
abbrev pub with_own_name : Around → Heading → Around
with_own_name a h = knowing (bytes_at a.text h.name) a

-- what a declaration breaks that stands where names are read so
abbrev pub declaration_faults : Around → Declaration → List Violation
declaration_faults a (Declaration.Sort n) = name_faults a n
declaration_faults a (Declaration.Relation mutable n ss) = name_faults a n ++ sorts_faults a ss
declaration_faults a (Declaration.Constant mutable n s) = name_faults a n ++ sort_faults a s
declaration_faults a (Declaration.Function n ss s) = name_faults a n ++ (sorts_faults a ss ++ sort_faults a s)
declaration_faults a (Declaration.Stated kind x) = faults (standing (place_of kind) a) x []
declaration_faults a (Declaration.Transition h x) = name_faults a h.name ++ named_faults (with_own_name a h) h x

abbrev pub relation_of : Around → Bool → Word → List Word → Symbol
relation_of a mutable n ss = record { name = bytes_at a.text n; kind = SymbolKind.Relation; args = sorts_of a ss; gives = 0; mutable = mutable }

abbrev pub constant_of : Around → Bool → Word → Word → Symbol
constant_of a mutable n s = record { name = bytes_at a.text n; kind = SymbolKind.Constant; args = []; gives = sort_of a s; mutable = mutable }

abbrev pub function_of : Around → Word → List Word → Word → Symbol
function_of a n ss s = record { name = bytes_at a.text n; kind = SymbolKind.Function; args = sorts_of a ss; gives = sort_of a s; mutable = false }

-- what a declaration adds
abbrev pub item_of : Around → Declaration → Item
item_of a (Declaration.Sort n) = item.Sort (bytes_at a.text n)
item_of a (Declaration.Relation mutable n ss) = item.Symbol (relation_of a mutable n ss)
item_of a (Declaration.Constant mutable n s) = item.Symbol (constant_of a mutable n s)
item_of a (Declaration.Function n ss s) = item.Symbol (function_of a n ss s)
item_of a (Declaration.Stated kind x) = item.Formula kind (formula_read (standing (place_of kind) a) x [])
item_of a (Declaration.Transition h x) = item.Transition (named_transition (with_own_name a h) h x)

abbrev pub with_sort : Protocol → List ℕ → Protocol
with_sort p name = record p {
  signature = record p.signature { sorts = p.signature.sorts ++ name ∷ [] };
  order = p.order ++ Decl.Sort (length p.signature.sorts) ∷ [];
}

abbrev pub with_symbol : Protocol → Symbol → Protocol
with_symbol p s = record p {
  signature = record p.signature { symbols = p.signature.symbols ++ s ∷ [] };
  order = p.order ++ Decl.Symbol (length p.signature.symbols) ∷ [];
}

abbrev pub with_statement : Protocol → Statement → Formula → Protocol
with_statement p Statement.Axiom f = record p { axioms = p.axioms ++ f ∷ []; order = p.order ++ Decl.Axiom (length p.axioms) ∷ [] }
with_statement p Statement.Init f = record p { inits = p.inits ++ f ∷ []; order = p.order ++ Decl.Init (length p.inits) ∷ [] }
with_statement p Statement.Safety f = record p { safeties = p.safeties ++ f ∷ []; order = p.order ++ Decl.Safety (length p.safeties) ∷ [] }

abbrev pub with_transition : Protocol → Transition → Protocol
with_transition p t = record p { transitions = p.transitions ++ t ∷ []; order = p.order ++ Decl.Transition (length p.transitions) ∷ [] }

abbrev pub with_item : Protocol → Item → Protocol
with_item p (Item.Sort name) = with_sort p name
with_item p (Item.Symbol s) = with_symbol p s
with_item p (Item.Formula kind f) = with_statement p kind f
with_item p (Item.Transition t) = with_transition p t

-- the protocol with one declaration more
abbrev pub declared : List ℕ → Protocol → Declaration → Protocol
declared text p d = with_item p (item_of (after text p) d)

-- all rules that declarations break, one after another, each after those before it
abbrev pub all_faults : List ℕ → Protocol → List Declaration → List Violation
all_faults text p [] = []
all_faults text p (d ∷ ds) = declaration_faults (after text p) d ++ all_faults text (declared text p d) ds

-- the protocol with all of the declarations
abbrev pub all_declared : List ℕ → Protocol → List Declaration → Protocol
all_declared text p [] = p
all_declared text p (d ∷ ds) = all_declared text (declared text p d) ds
