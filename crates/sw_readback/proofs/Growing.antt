-- A protocol keeps what is declared, under its number, and the order has each declaration once.
use Rattle.std.specs.Prelude.{◌≡◌, ℕ, zero, suc, List, [], ◌∷◌, ◌++◌, length, Option, Some, slice_get}
use Rattle.std.proofs.Common.{refl, sym, ap, ◌∙◌, append_assoc, append-nil}
use Rattle.sw_logic.specs.declared.syntax.Symbol.{Symbol}
use Rattle.sw_logic.specs.declared.syntax.Formula.{Formula}
use Rattle.sw_meaning.specs.declared.protocol.Protocol.{Protocol}
use Rattle.sw_meaning.specs.declared.protocol.Transition.{Transition}
use Rattle.sw_meaning.specs.declared.protocol.Decl.{Decl}
use Rattle.sw_readback.proofs.ShownAs.{Extends, front_stays}
use Rattle.sw_protocol.specs.declared.tree.Statement.{Statement}
use Rattle.sw_protocol.specs.declared.tree.Declaration.{Declaration}
use Rattle.sw_protocol.specs.declared.draft.Item.{Item}
use Rattle.sw_protocol.specs.Declaring.{after, item_of, with_item, declared, all_declared}

-- what the one list has the other has too, under the same number
abbrev pub Keeps : {X : Type 0} → List X → List X → Type 0
Keeps {X} xs ys = (k : ℕ) (x : X) → slice_get xs k ≡ Some x → slice_get ys k ≡ Some x

-- the one protocol has what the other has
pub record Grows (q p : Protocol) : Type 0 where
  pub sorts : Keeps q.signature.sorts p.signature.sorts
  pub symbols : Keeps q.signature.symbols p.signature.symbols
  pub axioms : Keeps q.axioms p.axioms
  pub inits : Keeps q.inits p.inits
  pub transitions : Keeps q.transitions p.transitions
  pub safeties : Keeps q.safeties p.safeties

pub grows_itself : (p : Protocol) → Grows p p
grows_itself p = record { sorts = λ k x e. e; symbols = λ k x e. e; axioms = λ k x e. e; inits = λ k x e. e; transitions = λ k x e. e; safeties = λ k x e. e }

pub grows_on : (p q r : Protocol) → Grows p q → Grows q r → Grows p r
grows_on p q r g h = record {
  sorts = λ k x e. h.sorts k x (g.sorts k x e);
  symbols = λ k x e. h.symbols k x (g.symbols k x e);
  axioms = λ k x e. h.axioms k x (g.axioms k x e);
  inits = λ k x e. h.inits k x (g.inits k x e);
  transitions = λ k x e. h.transitions k x (g.transitions k x e);
  safeties = λ k x e. h.safeties k x (g.safeties k x e);
}

front : {X : Type 0} (xs : List X) (x : X) → Keeps xs (xs ++ x ∷ [])
front xs x k y e = front_stays xs (x ∷ []) k y e

same : {X : Type 0} (xs : List X) → Keeps xs xs
same xs k y e = e

-- one declaration more
pub grows_item : (q : Protocol) (item : Item) → Grows q (with_item q item)
grows_item q (Item.Sort name) = record { sorts = front q.signature.sorts name; symbols = same q.signature.symbols; axioms = same q.axioms; inits = same q.inits; transitions = same q.transitions; safeties = same q.safeties }
grows_item q (Item.Symbol s) = record { sorts = same q.signature.sorts; symbols = front q.signature.symbols s; axioms = same q.axioms; inits = same q.inits; transitions = same q.transitions; safeties = same q.safeties }
grows_item q (Item.Formula Statement.Axiom f) = record { sorts = same q.signature.sorts; symbols = same q.signature.symbols; axioms = front q.axioms f; inits = same q.inits; transitions = same q.transitions; safeties = same q.safeties }
grows_item q (Item.Formula Statement.Init f) = record { sorts = same q.signature.sorts; symbols = same q.signature.symbols; axioms = same q.axioms; inits = front q.inits f; transitions = same q.transitions; safeties = same q.safeties }
grows_item q (Item.Formula Statement.Safety f) = record { sorts = same q.signature.sorts; symbols = same q.signature.symbols; axioms = same q.axioms; inits = same q.inits; transitions = same q.transitions; safeties = front q.safeties f }
grows_item q (Item.Transition t) = record { sorts = same q.signature.sorts; symbols = same q.signature.symbols; axioms = same q.axioms; inits = same q.inits; transitions = front q.transitions t; safeties = same q.safeties }

pub grows_all : (text : List ℕ) (q : Protocol) (ds : List Declaration) → Grows q (all_declared text q ds)
grows_all text q [] = grows_itself q
grows_all text q (d ∷ ds) = grows_on q (declared text q d) (all_declared text (declared text q d) ds) (grows_item q (item_of (after text q) d)) (grows_all text (declared text q d) ds)

pub extends_of : (q p : Protocol) → Grows q p → Extends q.signature p.signature
extends_of q p g = record { sorts = g.sorts; symbols = g.symbols }

-- what comes last stands under the number of what there was before
pub last_is : {X : Type 0} (xs : List X) (x : X) → slice_get (xs ++ x ∷ []) (length xs) ≡ Some x
last_is [] x = refl
last_is (y ∷ xs) x = last_is xs x

-- how a declaration is numbered that comes after these
abbrev pub statement_decl : Protocol → Statement → Decl
statement_decl q Statement.Axiom = Decl.Axiom (length q.axioms)
statement_decl q Statement.Init = Decl.Init (length q.inits)
statement_decl q Statement.Safety = Decl.Safety (length q.safeties)

abbrev pub decl_of : Protocol → Item → Decl
decl_of q (Item.Sort name) = Decl.Sort (length q.signature.sorts)
decl_of q (Item.Symbol s) = Decl.Symbol (length q.signature.symbols)
decl_of q (Item.Formula kind f) = statement_decl q kind
decl_of q (Item.Transition t) = Decl.Transition (length q.transitions)

abbrev pub orders : List ℕ → Protocol → List Declaration → List Decl
orders text q [] = []
orders text q (d ∷ ds) = decl_of q (item_of (after text q) d) ∷ orders text (declared text q d) ds

order_item : (q : Protocol) (item : Item) → (with_item q item).order ≡ q.order ++ decl_of q item ∷ []
order_item q (Item.Sort name) = refl
order_item q (Item.Symbol s) = refl
order_item q (Item.Formula Statement.Axiom f) = refl
order_item q (Item.Formula Statement.Init f) = refl
order_item q (Item.Formula Statement.Safety f) = refl
order_item q (Item.Transition t) = refl

pub order_is : (text : List ℕ) (q : Protocol) (ds : List Declaration) → (all_declared text q ds).order ≡ q.order ++ orders text q ds
order_is text q [] = sym (append-nil q.order)
order_is text q (d ∷ ds) =
    let item = item_of (after text q) d in
    order_is text (declared text q d) ds
    ∙ ap (λ (os : List Decl). os ++ orders text (declared text q d) ds) (order_item q item)
    ∙ append_assoc q.order (decl_of q item ∷ []) (orders text (declared text q d) ds)
