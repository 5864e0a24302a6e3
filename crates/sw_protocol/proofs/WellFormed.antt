-- A protocol whose declarations break no rule and go past no limit is well formed.
use Rattle.std.specs.Prelude.{◌≡◌, ◌==◌, ◌&&◌, not, ℕ, ◌+◌, ◌<◌, ◌≤◌, nat_lt, Bool, true, false, List, [], ◌∷◌, ◌++◌, length, map, Option, Some, None, slice_get}
use Rattle.std.specs.List.{AllByRecursion, list_all}
use Rattle.std.specs.Cmp.Derive.{both_true}
use Rattle.std.proofs.Common.{arith, refl, sym, subst, ap, ◌∙◌}
use Rattle.std.proofs.lemmas.Bool.{and_parts}
use Rattle.std.proofs.lemmas.List.{length-map, length_push}
use Rattle.std.proofs.lemmas.Option.{slice_get_within}
use Rattle.sw_lists.proofs.Each.{each-push, each-weaker}
use Rattle.sw_lists.proofs.Places.{get_append_left}
use Rattle.sw_lists.proofs.Tests.{all_push}
use Rattle.sw_logic.specs.declared.syntax.SymbolKind.{SymbolKind}
use Rattle.sw_logic.specs.declared.syntax.Symbol.{Symbol}
use Rattle.sw_logic.specs.declared.syntax.Signature.{Signature}
use Rattle.sw_logic.specs.declared.syntax.Binder as logic
use Rattle.sw_logic.specs.declared.syntax.Formula.{Formula}
use Rattle.sw_logic.specs.declared.variables.TheConstants.{VARIABLES}
use Rattle.sw_logic.specs.Truth.{binds}
use Rattle.sw_logic.specs.Sorted.{well_sorted}
use Rattle.sw_logic.specs.Signatures.{is_signature, is_symbol, is_of_kind}
use Rattle.sw_meaning.specs.declared.protocol.Protocol.{Protocol}
use Rattle.sw_meaning.specs.declared.protocol.Transition.{Transition}
use Rattle.sw_meaning.specs.WellFormed.{IsClosed, IsAxiom, IsTransition, IsWellFormed, is_mutable, may_change, is_immutable, may_not_change}
use Rattle.sw_trees.specs.declared.words.Word.{Word}
use Rattle.sw_trees.specs.declared.tree.Tree.{Tree}
use Rattle.sw_text.specs.declared.names.Rule.{Rule}
use Rattle.sw_text.specs.Names.{Around, bytes_at, sort_number, symbol_number, number_or_0, is_none, bound, faults, formula_read, binders_faults}
use Rattle.sw_text.proofs.SortedTerms.{within, apart, passed}
use Rattle.sw_text.proofs.WellSorted.{read_is_well_sorted, binders_sorted}
use Rattle.sw_text.proofs.FewVariables.{tree_binds, binds_same}
use Rattle.sw_protocol.specs.declared.tree.Statement.{Statement}
use Rattle.sw_protocol.specs.declared.tree.Heading.{Heading}
use Rattle.sw_protocol.specs.declared.tree.Declaration.{Declaration}
use Rattle.sw_protocol.specs.Declaring.{empty_protocol, after, standing, place_of, name_faults, sort_faults, sorts_faults, sort_of, sorts_of, symbol_of, symbols_of, fixed_by, fixed_at, is_fixed, is_among, modified_tests, one_modified_faults, modified_faults, params_of, in_step, named_faults, named_transition, with_own_name, declaration_faults, relation_of, constant_of, function_of, with_sort, with_symbol, with_statement, with_transition, declared, all_faults, all_declared}
use Rattle.sw_protocol.proofs.Extending.{IsFront, sorted_still, binders_still, reads_weaker}
use Rattle.sw_protocol.proofs.ReadsOnly.{axiom_reads, step_primes}
use Rattle.sw_protocol.proofs.Few.{IsFew}

-- what holds in a signature holds in one that begins with it
module _ (small big : Signature) (front : IsFront small big) where
  closed_stays : (f : Formula) → IsClosed small f → IsClosed big f
  closed_stays f h = record { sorted = sorted_still small big front false false (λ e. e) f [] h.sorted; few = h.few }

  immutable_stays : (k : ℕ) (o : Option Symbol) → slice_get small.symbols k ≡ o → may_not_change o ≡ true → is_immutable big k ≡ true
  immutable_stays k None is e = cc
  immutable_stays k (Some s) is e = ap may_not_change (front.symbols k s is) ∙ e

  mutable_stays : (k : ℕ) (o : Option Symbol) → slice_get small.symbols k ≡ o → may_change o ≡ true → is_mutable big k ≡ true
  mutable_stays k None is e = cc
  mutable_stays k (Some s) is e = ap may_change (front.symbols k s is) ∙ e

  axiom_stays : (f : Formula) → IsAxiom small f → IsAxiom big f
  axiom_stays f h = record {
    closed = closed_stays f h.closed;
    immutable = reads_weaker (λ k post. is_immutable small k) (λ k post. is_immutable big k) (λ k post e. immutable_stays k (slice_get small.symbols k) refl e) f h.immutable;
  }

  transition_stays : (t : Transition) → IsTransition small t → IsTransition big t
  transition_stays t h = record {
    params = binders_still small big front true true (λ e. e) t.params h.params;
    modifies = each-weaker (λ m. is_mutable small m ≡ true) (λ m. is_mutable big m ≡ true) (λ m e. mutable_stays m (slice_get small.symbols m) refl e) t.modifies h.modifies;
    sorted = sorted_still small big front true true (λ e. e) t.formula (map (λ (b : logic.Binder). b.sort) t.params) h.sorted;
    few = h.few;
    primed = h.primed;
  }

-- a protocol in which the signature alone is another, which begins with its own
pub stays_well : (p : Protocol) (big : Signature) → IsFront p.signature big → is_signature big ≡ true → IsWellFormed p → IsWellFormed (record p { signature = big })
stays_well p big front e h = record {
  signature = e;
  axioms = each-weaker (IsAxiom p.signature) (IsAxiom big) (axiom_stays p.signature big front) p.axioms h.axioms;
  inits = each-weaker (IsClosed p.signature) (IsClosed big) (closed_stays p.signature big front) p.inits h.inits;
  transitions = each-weaker (IsTransition p.signature) (IsTransition big) (transition_stays p.signature big front) p.transitions h.transitions;
  safeties = each-weaker (IsClosed p.signature) (IsClosed big) (closed_stays p.signature big front) p.safeties h.safeties;
}

one_more : (n : ℕ) (m : ℕ) → nat_lt m n ≡ true → nat_lt m (n + 1) ≡ true
one_more n m e = grind (arith, e)

-- one sort more
sorts_more : (n : ℕ) (ss : List ℕ) → list_all (λ s. nat_lt s n) ss ≡ true → list_all (λ s. nat_lt s (n + 1)) ss ≡ true
sorts_more n [] e = refl
sorts_more n (s ∷ ss) e = let both = and_parts (nat_lt s n) (list_all (λ s. nat_lt s n) ss) e in both_true (one_more n s both.0) (sorts_more n ss both.1)

kind_more : (n : ℕ) (kind : SymbolKind) (args : List ℕ) (gives : ℕ) → is_of_kind n kind args gives ≡ true → is_of_kind (n + 1) kind args gives ≡ true
kind_more n SymbolKind.Relation args gives e = refl
kind_more n SymbolKind.Constant args gives e = let both = and_parts (length args == 0) (nat_lt gives n) e in both_true both.0 (one_more n gives both.1)
kind_more n SymbolKind.Function args gives e = let both = and_parts (nat_lt 0 (length args)) (nat_lt gives n) e in both_true both.0 (one_more n gives both.1)

symbols_more : (n : ℕ) (xs : List Symbol) → list_all (is_symbol n) xs ≡ true → list_all (is_symbol (n + 1)) xs ≡ true
symbols_more n [] e = refl
symbols_more n (x ∷ xs) e =
    let both = and_parts (is_symbol n x) (list_all (is_symbol n) xs) e in
    let parts = and_parts (list_all (λ sort. nat_lt sort n) x.args) (is_of_kind n x.kind x.args x.gives) both.0 in
    both_true (both_true (sorts_more n x.args parts.0) (kind_more n x.kind x.args x.gives parts.1)) (symbols_more n xs both.1)

with_sort_well : (p : Protocol) (name : List ℕ) → IsWellFormed p → IsWellFormed (with_sort p name)
with_sort_well p name h =
    let big : Signature = record { sorts = p.signature.sorts ++ name ∷ []; symbols = p.signature.symbols } in
    let count = length_push p.signature.sorts name in
    let front : IsFront p.signature big = record { sorts = omega (arith, count); symbols = λ k s e. e } in
    let is : is_signature big ≡ true = subst (λ n. list_all (is_symbol n) p.signature.symbols ≡ true) (sym count) (symbols_more (length p.signature.sorts) p.signature.symbols h.signature) in
    let w = stays_well p big front is h in
    record { signature = w.signature; axioms = w.axioms; inits = w.inits; transitions = w.transitions; safeties = w.safeties }

with_symbol_well : (p : Protocol) (s : Symbol) → is_symbol (length p.signature.sorts) s ≡ true → IsWellFormed p → IsWellFormed (with_symbol p s)
with_symbol_well p s e h =
    let big : Signature = record { sorts = p.signature.sorts; symbols = p.signature.symbols ++ s ∷ [] } in
    let front : IsFront p.signature big = record { sorts = omega arith; symbols = λ k x is. get_append_left p.signature.symbols (s ∷ []) k x is } in
    let w = stays_well p big front (all_push (is_symbol (length p.signature.sorts)) p.signature.symbols s h.signature e) h in
    record { signature = w.signature; axioms = w.axioms; inits = w.inits; transitions = w.transitions; safeties = w.safeties }

-- names of sorts that break no rule
sort_below : (o : Option ℕ) (n : ℕ) → is_none o ≡ false → ((k : ℕ) → o ≡ Some k → k < n) → nat_lt (number_or_0 o) n ≡ true
sort_below None n e f = cc
sort_below (Some k) n e f = below k n (f k refl)
  where
    below : (k n : ℕ) → k < n → nat_lt k n ≡ true
    below k n h = grind (arith, h)

sort_known : (a : Around) (w : Word) → sort_faults a w ≡ [] → nat_lt (sort_of a w) (length a.signature.sorts) ≡ true
sort_known a w e =
    let tests : List (Bool × Rule) = (is_none (sort_number a (bytes_at a.text w)), Rule.Unknown) ∷ [] in
    sort_below (sort_number a (bytes_at a.text w)) (length a.signature.sorts) (passed w.token.at tests e).0
    (λ k is. slice_get_within a.signature.sorts k _ (within _ a.signature.sorts k is).1)

sorts_known : (a : Around) (ws : List Word) → sorts_faults a ws ≡ [] → list_all (λ s. nat_lt s (length a.signature.sorts)) (sorts_of a ws) ≡ true
sorts_known a [] e = refl
sorts_known a (w ∷ ws) e = let both = apart (sort_faults a w) (sorts_faults a ws) e in both_true (sort_known a w both.0) (sorts_known a ws both.1)

some_args : (a : Around) (ws : List Word) → 0 < length ws → nat_lt 0 (length (sorts_of a ws)) ≡ true
some_args a ws h = let e = length-map ws (sort_of a) in below (length (sorts_of a ws)) (omega (arith, e, h))
  where
    below : (n : ℕ) → 0 < n → nat_lt 0 n ≡ true
    below n h = grind (arith, h)

-- a name after `modifies` that breaks no rule
symbol_mutable : (a : Around) (o : Option ℕ) → is_none o ≡ false → fixed_by a o ≡ false → ((k : ℕ) → o ≡ Some k → (s : Symbol) × (slice_get a.signature.symbols k ≡ Some s)) → is_mutable a.signature (number_or_0 o) ≡ true
symbol_mutable a None e f g = cc
symbol_mutable a (Some k) e f g = let found = g k refl in ap may_change found.1 ∙ by found.0.mutable (sym (ap is_fixed found.1) ∙ f)
  where
    by : (b : Bool) → not b ≡ false → b ≡ true
    by true e = refl
    by false e = cc

modified_well : (a : Around) (before ws : List Word) → modified_faults a before ws ≡ [] → AllByRecursion (λ m. is_mutable a.signature m ≡ true) (symbols_of a ws)
modified_well a before [] e = tt
modified_well a before (w ∷ ws) e =
    let both = apart (one_modified_faults a before w) (modified_faults a (before ++ w ∷ []) ws) e in
    let name = bytes_at a.text w in
    let tests = passed w.token.at (modified_tests a before name (symbol_number a name)) both.0 in
    (symbol_mutable a (symbol_number a name) tests.1.0 tests.1.1.0 (λ k is. within _ a.signature.symbols k is), modified_well a (before ++ w ∷ []) ws both.1)

-- an axiom, an initial condition or a safety property that breaks no rule
closed_read : (a : Around) (kind : Statement) (x : Tree) → faults (standing (place_of kind) a) x [] ≡ [] → tree_binds x ≤ VARIABLES → IsClosed a.signature (formula_read (standing (place_of kind) a) x [])
closed_read a kind x e few = record { sorted = by kind e; few = let same = binds_same (standing (place_of kind) a) x [] in omega (arith, same, few) }
  where
    by : (k : Statement) → faults (standing (place_of k) a) x [] ≡ [] → well_sorted a.signature false (formula_read (standing (place_of k) a) x []) [] ≡ true
    by Statement.Axiom e = read_is_well_sorted (standing (place_of Statement.Axiom) a) x [] e
    by Statement.Init e = read_is_well_sorted (standing (place_of Statement.Init) a) x [] e
    by Statement.Safety e = read_is_well_sorted (standing (place_of Statement.Safety) a) x [] e

statement_well : (text : List ℕ) (p : Protocol) (kind : Statement) (x : Tree) → faults (standing (place_of kind) (after text p)) x [] ≡ [] → tree_binds x ≤ VARIABLES → IsWellFormed p → IsWellFormed (with_statement p kind (formula_read (standing (place_of kind) (after text p)) x []))
statement_well text p Statement.Axiom x e few h =
    let f = formula_read (standing (place_of Statement.Axiom) (after text p)) x [] in
    let one : IsAxiom p.signature f = record { closed = closed_read (after text p) Statement.Axiom x e few; immutable = axiom_reads (standing (place_of Statement.Axiom) (after text p)) refl x [] e } in
    record { signature = h.signature; axioms = each-push (IsAxiom p.signature) p.axioms f h.axioms one; inits = h.inits; transitions = h.transitions; safeties = h.safeties }
statement_well text p Statement.Init x e few h =
    let f = formula_read (standing (place_of Statement.Init) (after text p)) x [] in
    record { signature = h.signature; axioms = h.axioms; inits = each-push (IsClosed p.signature) p.inits f h.inits (closed_read (after text p) Statement.Init x e few); transitions = h.transitions; safeties = h.safeties }
statement_well text p Statement.Safety x e few h =
    let f = formula_read (standing (place_of Statement.Safety) (after text p)) x [] in
    record { signature = h.signature; axioms = h.axioms; inits = h.inits; transitions = h.transitions; safeties = each-push (IsClosed p.signature) p.safeties f h.safeties (closed_read (after text p) Statement.Safety x e few) }

-- a transition that breaks no rule
transition_read : (a : Around) (head : Heading) (x : Tree) → named_faults a head x ≡ [] → length head.params + tree_binds x ≤ VARIABLES → IsTransition a.signature (named_transition a head x)
transition_read a head x e few =
    let first = apart (binders_faults a [] head.params) (modified_faults a [] head.modifies ++ faults (in_step a head) x (params_of a head)) e in
    let second = apart (modified_faults a [] head.modifies) (faults (in_step a head) x (params_of a head)) first.1 in
    let same = binds_same (in_step a head) x (params_of a head) in
    let count = length-map head.params (λ b. bound a b) in
    record {
      params = binders_sorted a head.params [] first.0;
      modifies = modified_well a [] head.modifies second.0;
      sorted = read_is_well_sorted (in_step a head) x (params_of a head) second.1;
      few = omega (arith, same, count, few);
      primed = step_primes (in_step a head) (symbols_of a head.modifies) refl x (params_of a head) second.1;
    }

transition_well : (p : Protocol) (t : Transition) → IsTransition p.signature t → IsWellFormed p → IsWellFormed (with_transition p t)
transition_well p t one h = record { signature = h.signature; axioms = h.axioms; inits = h.inits; transitions = each-push (IsTransition p.signature) p.transitions t h.transitions one; safeties = h.safeties }

-- one declaration more
one_well : (text : List ℕ) (p : Protocol) (d : Declaration) → declaration_faults (after text p) d ≡ [] → IsFew d → IsWellFormed p → IsWellFormed (declared text p d)
one_well text p (Declaration.Sort n) e few h = with_sort_well p (bytes_at text n) h
one_well text p (Declaration.Relation mutable n ss) e few h =
    let a = after text p in
    let both = apart (name_faults a n) (sorts_faults a ss) e in
    with_symbol_well p (relation_of a mutable n ss) (both_true (sorts_known a ss both.1) refl) h
one_well text p (Declaration.Constant mutable n s) e few h =
    let a = after text p in
    let both = apart (name_faults a n) (sort_faults a s) e in
    with_symbol_well p (constant_of a mutable n s) (sort_known a s both.1) h
one_well text p (Declaration.Function n ss s) e few h =
    let a = after text p in
    let both = apart (name_faults a n) (sorts_faults a ss ++ sort_faults a s) e in
    let sorts = apart (sorts_faults a ss) (sort_faults a s) both.1 in
    with_symbol_well p (function_of a n ss s) (both_true (sorts_known a ss sorts.0) (both_true (some_args a ss few) (sort_known a s sorts.1))) h
one_well text p (Declaration.Stated kind x) e few h = statement_well text p kind x e few h
one_well text p (Declaration.Transition head x) e few h =
    let a = with_own_name (after text p) head in
    let both = apart (name_faults (after text p) head.name) (named_faults a head x) e in
    transition_well p (named_transition a head x) (transition_read a head x both.1 few) h

pub all_well : (text : List ℕ) (p : Protocol) (ds : List Declaration) → all_faults text p ds ≡ [] → AllByRecursion IsFew ds → IsWellFormed p → IsWellFormed (all_declared text p ds)
all_well text p [] e few h = h
all_well text p (d ∷ ds) e few h =
    let both = apart (declaration_faults (after text p) d) (all_faults text (declared text p d) ds) e in
    all_well text (declared text p d) ds both.1 few.1 (one_well text p d both.0 few.0 h)

pub empty_well : IsWellFormed empty_protocol
empty_well = record { signature = refl; axioms = tt; inits = tt; transitions = tt; safeties = tt }
